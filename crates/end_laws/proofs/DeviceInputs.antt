-- What an event of an exchange leaves of the input of a submodule: its value, and zeros after a pull or a plug there.
use Rattle.std.proofs.Common.{◌≡◌, ◌+◌, ◌-◌, ◌==◌, ◌&&◌, ◌||◌, ℕ, Bool, true, false, cond, List, [], ◌∷◌, length, map, Option, Some, None, option_map, unwrap_or, Result, Ok, Err, refl, sym, ap, ◌∙◌}
use Rattle.std.specs.Prelude.{replicate}
use Rattle.std.proofs.lemmas.Bool.{and_parts, eq-eqb, eqb-true, false≢true}
use Rattle.pn_values.specs.declared.mac.Mac.{Mac}
use Rattle.module_diff.specs.declared.changes.Affected.{Affected}
use Rattle.module_diff.specs.Changes.{covers}
use Rattle.cyclic_data.specs.declared.place.Place.{Place}
use Rattle.cyclic_data.specs.declared.place.PlaceKind.TheVariants.{Data}
use Rattle.cyclic_data.specs.declared.tail.CyclicTail.{CyclicTail}
use Rattle.cyclic_data.specs.declared.tail.ShortFrame.{ShortFrame}
use Rattle.cyclic_data.specs.Image.{Cell, Shown, cell_at, changed_in, has_size, with_status, with_value}
use Rattle.cyclic_data.specs.Layout.{is_of}
use Rattle.cyclic_data.specs.Tail.{cyclic_of}
use Rattle.cyclic_data.specs.exchange.Cyclic.{Cyclic}
use Rattle.cyclic_data.specs.exchange.Opening.{StatusOf, cleared, cleared_cell, stated_cell}
use Rattle.cyclic_data.specs.exchange.Received.{behind_frame as cyclic_behind, behind_read, is_new, is_of_partner, taken_from}
use Rattle.expected_places.specs.Machine.{PlugState}
use Rattle.relations.specs.declared.exchange.marks.Mark.{Mark}
use Rattle.relations.specs.exchange.Flow.{Flow}
use Rattle.relations.specs.exchange.Marks.{awaits, change_by, mark_at, marked}
use Rattle.relations.specs.exchange.Modules.{all_cleared, cleared_at, renewed, renewed_mark, renewed_marks, restated_flow, restated_mark, stated_of, restated_marks}
use Rattle.relations.specs.exchange.Process.{given_at, rated_at, remarked, with_cyclic, with_input}
use Rattle.relations.proofs.ExchangeInputs.{cell_in, cells_changed, is_same, mark_in, of_parts, placed}

-- the value of a cell
abbrev pub value : Cell → List ℕ
value cell = cell.value

-- zeros, or another value
abbrev pub zeros_if : Bool → List ℕ → Place → List ℕ
zeros_if zeros octets place = cond zeros (replicate (place.size - 1) 0) octets

abbrev cell_place : Option Cell → Option Place
cell_place cell = option_map (λ (c : Cell). c.place) cell

abbrev mark_place : Option Mark → Option Place
mark_place mark = option_map (λ (m : Mark). m.place) mark

-- a frame changes neither when frames are sent nor what is shown
module _ (cyclic : Cyclic) (source : Mac) (frame_id : ℕ) (body : List ℕ) where
  abbrev IsStill : Cyclic → Type 0
  IsStill after = (after.sending ≡ cyclic.sending) × (after.shown ≡ cyclic.shown)

  still_new : (b : Bool) (x : List ℕ × CyclicTail) → IsStill (cond b (taken_from cyclic x.0 x.1) cyclic)
  still_new true x = (refl, refl)
  still_new false x = (refl, refl)

  still_read : (read : Result (List ℕ × CyclicTail) ShortFrame) → IsStill (behind_read cyclic read)
  still_read (Ok x) = still_new (is_new cyclic x.1) x
  still_read (Err short) = (refl, refl)

  still_if : (b : Bool) (read : Result (List ℕ × CyclicTail) ShortFrame) → IsStill (cond b (behind_read cyclic read) cyclic)
  still_if true read = still_read read
  still_if false read = (refl, refl)

  pub frame_still : IsStill (cyclic_behind cyclic source frame_id body)
  frame_still = still_if (is_of_partner cyclic.route source frame_id) (cyclic_of cyclic.taken.data_length body)

module _ (slot subslot : ℕ) where
  -- the submodule has a mark if it has an input
  abbrev pub IsPaired : Flow → Type 0
  IsPaired flow = cell_place (cell_in slot subslot flow) ≡ mark_place (mark_in slot subslot flow)

  -- the input has this value then, at the same place, and the mark keeps its place
  pub record Shows (to : Cell → List ℕ) (flow after : Flow) : Type 0 where
    pub marks : mark_place (mark_in slot subslot after) ≡ mark_place (mark_in slot subslot flow)
    pub is : option_map (placed value) (cell_in slot subslot after) ≡ option_map (placed to) (cell_in slot subslot flow)

  places_same : (to : Cell → List ℕ) (after before : Option Cell) → option_map (placed value) after ≡ option_map (placed to) before → cell_place after ≡ cell_place before
  places_same to None None e = refl
  places_same to None (Some before) e = absurd cc
  places_same to (Some after) None e = absurd cc
  places_same to (Some after) (Some before) e = ap (λ (o : Option (Place × List ℕ)). option_map (λ (x : Place × List ℕ). x.0) o) e

  pub paired_on : (to : Cell → List ℕ) (flow after : Flow) → Shows to flow after → IsPaired flow → IsPaired after
  paired_on to flow after shows paired =
      places_same to (cell_in slot subslot after) (cell_in slot subslot flow) shows.is ∙ (paired ∙ sym shows.marks)

  -- the same values, said in another way
  alike : (to other : Cell → List ℕ) → ((cell : Cell) → to cell ≡ other cell) → (found : Option Cell) → option_map (placed to) found ≡ option_map (placed other) found
  alike to other same None = refl
  alike to other same (Some cell) = ap (λ (octets : List ℕ). Some (cell.place, octets)) (same cell)

  pub shows_as : (to other : Cell → List ℕ) (flow after : Flow) → ((cell : Cell) → to cell ≡ other cell) → Shows to flow after → Shows other flow after
  shows_as to other flow after same shows = record { marks = shows.marks; is = shows.is ∙ alike to other same (cell_in slot subslot flow) }

  pub still : (flow after : Flow) → after.cyclic.shown ≡ flow.cyclic.shown → after.marks ≡ flow.marks → Shows value flow after
  still flow after shown marks = record {
    marks = ap (λ (all : List Mark). mark_place (mark_at slot subslot all)) marks;
    is = ap (λ (s : Shown). option_map (placed value) (cell_at Data slot subslot s.cells)) shown;
  }

  -- ---- marks and cells that keep their places

  one_mark : (change : Mark → Mark) (mark : Mark) (marks : List Mark) → (change mark).place ≡ mark.place
      → mark_place (mark_at slot subslot (map change marks)) ≡ mark_place (mark_at slot subslot marks)
      → mark_place (mark_at slot subslot (map change (mark ∷ marks))) ≡ mark_place (mark_at slot subslot (mark ∷ marks))
  one_mark change mark marks keeps rest =
      ap (λ (p : Place). mark_place (cond (is_of Data slot subslot p) (Some (change mark)) (mark_at slot subslot (map change marks)))) keeps
      ∙ by_own (is_of Data slot subslot mark.place)
    where
      by_own : (b : Bool) → mark_place (cond b (Some (change mark)) (mark_at slot subslot (map change marks))) ≡ mark_place (cond b (Some mark) (mark_at slot subslot marks))
      by_own true = ap (λ (p : Place). Some p) keeps
      by_own false = rest

  marks_mapped : (change : Mark → Mark) → ((mark : Mark) → (change mark).place ≡ mark.place) → (marks : List Mark)
      → mark_place (mark_at slot subslot (map change marks)) ≡ mark_place (mark_at slot subslot marks)
  marks_mapped change keeps [] = refl
  marks_mapped change keeps (mark ∷ marks) = one_mark change mark marks (keeps mark) (marks_mapped change keeps marks)

  changed_place : (status : Option Bool) (mark : Mark) → (change_by status mark).place ≡ mark.place
  changed_place None mark = refl
  changed_place (Some is_good) mark = refl

  changed_if : (status : Option Bool) (mark : Mark) (b : Bool) → (cond b (change_by status mark) mark).place ≡ mark.place
  changed_if status mark true = changed_place status mark
  changed_if status mark false = refl

  marks_changed : (to_slot to_subslot : ℕ) (status : Option Bool) (marks : List Mark)
      → mark_place (mark_at slot subslot (marked to_slot to_subslot (change_by status) marks)) ≡ mark_place (mark_at slot subslot marks)
  marks_changed to_slot to_subslot status marks =
      marks_mapped (λ (mark : Mark). cond (is_of Data to_slot to_subslot mark.place) (change_by status mark) mark)
      (λ mark. changed_if status mark (is_of Data to_slot to_subslot mark.place)) marks

  -- a status leaves the values
  status_same : (same : Bool) (status : ℕ) (found : Option Cell)
      → option_map (placed value) (option_map (λ (cell : Cell). cond same (with_status status cell) cell) found) ≡ option_map (placed value) found
  status_same same status None = refl
  status_same true status (Some cell) = refl
  status_same false status (Some cell) = refl

  status_alone : (to_slot to_subslot status : ℕ) (cells : List Cell)
      → option_map (placed value) (cell_at Data slot subslot (map (changed_in Data to_slot to_subslot (with_status status)) cells))
      ≡ option_map (placed value) (cell_at Data slot subslot cells)
  status_alone to_slot to_subslot status cells =
      ap (λ (found : Option Cell). option_map (placed value) found) (cells_changed slot subslot to_slot to_subslot (with_status status) (λ cell. refl) cells)
      ∙ status_same (is_same slot subslot to_slot to_subslot) status (cell_at Data slot subslot cells)

  stated_alone : (statuses : StatusOf) (cells : List Cell)
      → option_map (placed value) (cell_at Data slot subslot (map (stated_cell statuses) cells)) ≡ option_map (placed value) (cell_at Data slot subslot cells)
  stated_alone statuses [] = refl
  stated_alone statuses (cell ∷ cells) = by_own (stated_alone statuses cells) (is_of Data slot subslot cell.place)
    where
      by_own : option_map (placed value) (cell_at Data slot subslot (map (stated_cell statuses) cells)) ≡ option_map (placed value) (cell_at Data slot subslot cells)
          → (b : Bool) → option_map (placed value) (cond b (Some (stated_cell statuses cell)) (cell_at Data slot subslot (map (stated_cell statuses) cells)))
          ≡ option_map (placed value) (cond b (Some cell) (cell_at Data slot subslot cells))
      by_own rest true = refl
      by_own rest false = rest

  -- ---- events

  pub rates : (to_slot to_subslot : ℕ) (is_good : Bool) (flow : Flow) → Shows value flow (rated_at flow to_slot to_subslot is_good)
  rates to_slot to_subslot is_good flow = record {
    marks = marks_changed to_slot to_subslot (Some is_good) flow.marks;
    is = status_alone to_slot to_subslot _ flow.cyclic.shown.cells;
  }

  -- the value that an input of this size is given
  abbrev pub given_to : ℕ → ℕ → List ℕ → ℕ → Option (List ℕ)
  given_to to_slot to_subslot octets size = cond (is_same slot subslot to_slot to_subslot && (size == length octets + 1)) (Some octets) None

  value_given : (octets : List ℕ) (same fit : Bool) (found : Option Cell) → (same ≡ true → has_size (length octets) found ≡ fit)
      → option_map (placed value) (cond fit (option_map (λ (cell : Cell). cond same (with_value octets cell) cell) found) found)
      ≡ option_map (placed (λ (cell : Cell). unwrap_or (cond (same && (cell.place.size == length octets + 1)) (Some octets) None) cell.value)) found
  value_given octets same true None fits = refl
  value_given octets same false None fits = refl
  value_given octets false true (Some cell) fits = refl
  value_given octets false false (Some cell) fits = refl
  value_given octets true true (Some cell) fits =
      ap (λ (b : Bool). Some (cell.place, unwrap_or (cond b (Some octets) None) cell.value)) (sym (fits refl))
  value_given octets true false (Some cell) fits =
      ap (λ (b : Bool). Some (cell.place, unwrap_or (cond b (Some octets) None) cell.value)) (sym (fits refl))

  module _ (to_slot to_subslot : ℕ) (octets : List ℕ) (flow : Flow) where
    abbrev same : Bool
    same = is_same slot subslot to_slot to_subslot

    abbrev Given : Flow → Type 0
    Given after = Shows (λ (cell : Cell). unwrap_or (given_to to_slot to_subslot octets cell.place.size) cell.value) flow after

    abbrev put : Cyclic
    put = record flow.cyclic { shown = record { data_length = flow.cyclic.shown.data_length; cells = map (changed_in Data to_slot to_subslot (with_value octets)) flow.cyclic.shown.cells } }

    -- it is the cell of the same submodule
    fit_here : (b : Bool) → has_size (length octets) (cell_at Data to_slot to_subslot flow.cyclic.shown.cells) ≡ b → same ≡ true
        → has_size (length octets) (cell_in slot subslot flow) ≡ b
    fit_here b fit is =
        let parts = and_parts (slot == to_slot) (subslot == to_subslot) is in
        ap (λ (n : ℕ). has_size (length octets) (cell_at Data n subslot flow.cyclic.shown.cells)) (eqb-true slot to_slot parts.0)
        ∙ (ap (λ (n : ℕ). has_size (length octets) (cell_at Data to_slot n flow.cyclic.shown.cells)) (eqb-true subslot to_subslot parts.1) ∙ fit)

    put_is : has_size (length octets) (cell_at Data to_slot to_subslot flow.cyclic.shown.cells) ≡ true
        → option_map (placed value) (cell_at Data slot subslot put.shown.cells)
        ≡ option_map (placed (λ (cell : Cell). unwrap_or (given_to to_slot to_subslot octets cell.place.size) cell.value)) (cell_in slot subslot flow)
    put_is fit =
        ap (λ (found : Option Cell). option_map (placed value) found) (cells_changed slot subslot to_slot to_subslot (with_value octets) (λ cell. refl) flow.cyclic.shown.cells)
        ∙ value_given octets same true (cell_in slot subslot flow) (fit_here true fit)

    by_first : has_size (length octets) (cell_at Data to_slot to_subslot flow.cyclic.shown.cells) ≡ true → (b : Bool)
        → Given (cond b (remarked (with_cyclic flow put) to_slot to_subslot None) (with_cyclic flow put))
    by_first fit true = record {
      marks = marks_changed to_slot to_subslot None flow.marks;
      is = status_alone to_slot to_subslot _ put.shown.cells ∙ put_is fit;
    }
    by_first fit false = record { marks = refl; is = put_is fit }

    by_size : (b : Bool) → has_size (length octets) (cell_at Data to_slot to_subslot flow.cyclic.shown.cells) ≡ b
        → Given (unwrap_or (option_map (with_input flow to_slot to_subslot) (cond b (Some put) None)) flow)
    by_size true fit = by_first fit (awaits to_slot to_subslot flow.marks)
    by_size false fit = record { marks = refl; is = value_given octets same false (cell_in slot subslot flow) (fit_here false fit) }

    pub gives : Given (unwrap_or (given_at flow to_slot to_subslot octets) flow)
    gives = by_size (has_size (length octets) (cell_at Data to_slot to_subslot flow.cyclic.shown.cells)) refl

  -- IOPS and IOCS follow the places
  pub restates : (plugs : PlugState) (flow : Flow) → Shows value flow (restated_flow plugs flow)
  restates plugs flow = record {
    marks = marks_mapped (restated_mark plugs) (λ mark. refl) flow.marks;
    is = stated_alone (stated_of plugs (restated_marks plugs flow.marks)) flow.cyclic.shown.cells;
  }

  -- ---- the inputs of affected places begin again

  module _ (affected : Affected) where
    -- a mark of an affected place is that of the submodule
    abbrev hits : List Mark → Bool
    hits [] = false
    hits (mark ∷ marks) = (covers affected mark.place.slot mark.place.subslot && is_same slot subslot mark.place.slot mark.place.subslot) || hits marks

    either_true : (one other : Bool) → other ≡ true → (one || other) ≡ true
    either_true true other e = refl
    either_true false other e = e

    hits_only : (marks : List Mark) → hits marks ≡ true → covers affected slot subslot ≡ true
    hits_only [] e = absurd (false≢true e)
    hits_only (mark ∷ marks) e =
        by_first (covers affected mark.place.slot mark.place.subslot && is_same slot subslot mark.place.slot mark.place.subslot) refl e (hits_only marks)
      where
        by_first : (b : Bool) → (covers affected mark.place.slot mark.place.subslot && is_same slot subslot mark.place.slot mark.place.subslot) ≡ b → (b || hits marks) ≡ true
            → (hits marks ≡ true → covers affected slot subslot ≡ true) → covers affected slot subslot ≡ true
        by_first true f g rest =
            let parts = and_parts (covers affected mark.place.slot mark.place.subslot) (is_same slot subslot mark.place.slot mark.place.subslot) f in
            let two = and_parts (slot == mark.place.slot) (subslot == mark.place.subslot) parts.1 in
            ap (λ (n : ℕ). covers affected n subslot) (eqb-true slot mark.place.slot two.0)
            ∙ (ap (λ (n : ℕ). covers affected mark.place.slot n) (eqb-true subslot mark.place.subslot two.1) ∙ parts.0)
        by_first false f g rest = rest g

    own_hit : (place : Place) → is_of Data slot subslot place ≡ true → covers affected slot subslot ≡ true
        → (covers affected place.slot place.subslot && is_same slot subslot place.slot place.subslot) ≡ true
    own_hit place own covered =
        let parts = of_parts Data slot subslot place own in
        ap (λ (n : ℕ). covers affected n place.subslot && ((slot == n) && (subslot == place.subslot))) parts.1
        ∙ (ap (λ (n : ℕ). covers affected slot n && ((slot == slot) && (subslot == n))) parts.2
        ∙ (ap (λ (b : Bool). b && ((slot == slot) && (subslot == subslot))) covered
        ∙ (ap (λ (b : Bool). b && (subslot == subslot)) (eq-eqb slot slot refl) ∙ eq-eqb subslot subslot refl)))

    hits_there : (marks : List Mark) (place : Place) → mark_place (mark_at slot subslot marks) ≡ Some place → covers affected slot subslot ≡ true → hits marks ≡ true
    hits_there [] place there covered = absurd cc
    hits_there (mark ∷ marks) place there covered = by_own (λ e. hits_there marks place e covered) (is_of Data slot subslot mark.place) refl there
      where
        by_own : (mark_place (mark_at slot subslot marks) ≡ Some place → hits marks ≡ true) → (b : Bool) → is_of Data slot subslot mark.place ≡ b → mark_place (cond b (Some mark) (mark_at slot subslot marks)) ≡ Some place → hits (mark ∷ marks) ≡ true
        by_own rest true own e = ap (λ (b : Bool). b || hits marks) (own_hit mark.place own covered)
        by_own rest false own e = either_true _ (hits marks) (rest e)

    -- what is cleared is zeros
    twice_cleared : (own zeros : Bool) (found : Option Cell)
        → option_map (placed (λ (cell : Cell). zeros_if zeros cell.value cell.place)) (option_map (λ (cell : Cell). cond own (cleared_cell cell) cell) found)
        ≡ option_map (placed (λ (cell : Cell). zeros_if (own || zeros) cell.value cell.place)) found
    twice_cleared own zeros None = refl
    twice_cleared true true (Some cell) = refl
    twice_cleared true false (Some cell) = refl
    twice_cleared false zeros (Some cell) = refl

    one_cleared : (mark : Mark) (marks : List Mark) (cyclic : Cyclic) (b : Bool)
        → option_map (placed (λ (cell : Cell). zeros_if (hits marks) cell.value cell.place))
        (cell_at Data slot subslot (cond b (cleared mark.place.slot mark.place.subslot cyclic) cyclic).shown.cells)
        ≡ option_map (placed (λ (cell : Cell). zeros_if ((b && is_same slot subslot mark.place.slot mark.place.subslot) || hits marks) cell.value cell.place))
        (cell_at Data slot subslot cyclic.shown.cells)
    one_cleared mark marks cyclic true =
        ap (λ (found : Option Cell). option_map (placed (λ (cell : Cell). zeros_if (hits marks) cell.value cell.place)) found)
        (cells_changed slot subslot mark.place.slot mark.place.subslot cleared_cell (λ cell. refl) cyclic.shown.cells)
        ∙ twice_cleared (is_same slot subslot mark.place.slot mark.place.subslot) (hits marks) (cell_at Data slot subslot cyclic.shown.cells)
    one_cleared mark marks cyclic false = refl

    cleared_all : (marks : List Mark) (cyclic : Cyclic)
        → option_map (placed value) (cell_at Data slot subslot (all_cleared affected marks cyclic).shown.cells)
        ≡ option_map (placed (λ (cell : Cell). zeros_if (hits marks) cell.value cell.place)) (cell_at Data slot subslot cyclic.shown.cells)
    cleared_all [] cyclic = refl
    cleared_all (mark ∷ marks) cyclic =
        cleared_all marks (cleared_at affected cyclic mark)
        ∙ one_cleared mark marks cyclic (covers affected mark.place.slot mark.place.subslot)

    renewed_if : (b begin_bad : Bool) (mark : Mark) → (cond b (record mark { is_awaited = begin_bad; is_bad = false }) mark).place ≡ mark.place
    renewed_if true begin_bad mark = refl
    renewed_if false begin_bad mark = refl

    renewed_place : (begin_bad : Bool) (mark : Mark) → (renewed_mark affected begin_bad mark).place ≡ mark.place
    renewed_place begin_bad mark = renewed_if (covers affected mark.place.slot mark.place.subslot) _ mark

    marks_renewed : (begin_bad : Bool) (marks : List Mark) → mark_place (mark_at slot subslot (renewed_marks affected begin_bad marks)) ≡ mark_place (mark_at slot subslot marks)
    marks_renewed begin_bad marks = marks_mapped (renewed_mark affected begin_bad) (renewed_place begin_bad) marks

    hits_are : (marks : List Mark) (found : Option Cell) → cell_place found ≡ mark_place (mark_at slot subslot marks)
        → option_map (placed (λ (cell : Cell). zeros_if (hits marks) cell.value cell.place)) found
        ≡ option_map (placed (λ (cell : Cell). zeros_if (covers affected slot subslot) cell.value cell.place)) found
    hits_are marks None paired = refl
    hits_are marks (Some cell) paired =
        ap (λ (b : Bool). Some (cell.place, zeros_if b cell.value cell.place)) (by_covered (covers affected slot subslot) refl (hits marks) refl)
      where
        by_covered : (b : Bool) → covers affected slot subslot ≡ b → (c : Bool) → hits marks ≡ c → hits marks ≡ covers affected slot subslot
        by_covered true e c f = hits_there marks cell.place (sym paired) e ∙ sym e
        by_covered false e true f = absurd (false≢true (sym e ∙ hits_only marks f))
        by_covered false e false f = f ∙ sym e

    -- something is pulled or plugged
    pub changes : (plugs : PlugState) (begin_bad : Bool) (flow : Flow) → IsPaired flow
        → Shows (λ (cell : Cell). zeros_if (covers affected slot subslot) cell.value cell.place) flow (restated_flow plugs (renewed affected begin_bad flow))
    changes plugs begin_bad flow paired =
        let marks = renewed_marks affected begin_bad flow.marks in
        record {
          marks = marks_mapped (restated_mark plugs) (λ mark. refl) marks ∙ marks_renewed begin_bad flow.marks;
          is = stated_alone (stated_of plugs (restated_marks plugs marks)) (all_cleared affected marks flow.cyclic).shown.cells
              ∙ (cleared_all marks flow.cyclic
              ∙ hits_are marks (cell_in slot subslot flow) (paired ∙ sym (marks_renewed begin_bad flow.marks)));
        }
