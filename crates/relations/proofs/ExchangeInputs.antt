-- Inputs that are given, and their IOPS, event by event.
use Rattle.std.proofs.Common.{◌≡◌, inl, inr, ◌+◌, ◌==◌, ◌&&◌, ℕ, Bool, true, false, not, cond, List, [], ◌∷◌, length, map, Option, Some, None, is_none, option_map, unwrap_or, refl, sym, ap, subst, ◌∙◌}
use Rattle.std.proofs.lemmas.Bool.{and_from, and_parts, cases_Bool, eq-eqb, eqb-true, false≢true}
use Rattle.module_diff.specs.Plugged.{module_ident, submodule_ident}
use Rattle.wire.specs.blocks.modules.Lists.{Listed}
use Rattle.connect_blocks.specs.declared.module_diff.DiffModule.{DiffModule}
use Rattle.connect_blocks.specs.declared.module_diff.DiffSubmodule.{DiffSubmodule}
use Rattle.cyclic_data.specs.declared.place.Place.{Place}
use Rattle.cyclic_data.specs.declared.place.PlaceKind.{PlaceKind}
use Rattle.cyclic_data.specs.declared.place.PlaceKind.TheVariants.{Data, Iocs}
use Rattle.cyclic_data.specs.Image.{Cell, Shown, cell_at, changed_in, has_size, place_at, with_status, with_value}
use Rattle.cyclic_data.specs.Layout.{is_of, is_same_kind}
use Rattle.cyclic_data.specs.exchange.Cyclic.{Cyclic}
use Rattle.cyclic_data.specs.exchange.Runs.{later_one}
use Rattle.relations.specs.declared.exchange.marks.Mark.{Mark}
use Rattle.relations.specs.exchange.Marks.{Starting, awaits, change_by, first_mark, iops_by, iops_of, is_awaited_in, mark_at, marked}
use Rattle.relations.specs.exchange.Flow.{Flow}
use Rattle.relations.specs.exchange.Opening.{first_cell, first_marks, opened, status_of, statuses_of}
use Rattle.relations.specs.exchange.Process.{given_at, rated_at, remarked, with_cyclic, with_input}
use Rattle.relations.specs.exchange.Notices.{may_raise, raised_by}
use Rattle.relations.specs.exchange.Runs.{Event, Begins, Passes, Comes, Gives, Rates, Raises, Says, Lowers, Turns, behind, behind_all, given_with, last_given, rated_with, later_rated, last_rated, input_value, mark_after, input_iops, AreTheLastGiven, AreTheIops, AreStillTheIocs}
use Rattle.relations.proofs.ExchangeKept.{cyclic_raised, shown_behind}

-- ---- the cell and the mark of a submodule, if those of a submodule change

-- The slot and subslot of a place.
pub of_parts : (kind : PlaceKind) (slot subslot : ℕ) (place : Place) → is_of kind slot subslot place ≡ true
    → (is_same_kind kind place.kind ≡ true) × (place.slot ≡ slot) × (place.subslot ≡ subslot)
of_parts kind slot subslot place h =
    let all = and_parts (is_same_kind kind place.kind) ((place.slot == slot) && (place.subslot == subslot)) h in
    let two = and_parts (place.slot == slot) (place.subslot == subslot) all.1 in
    (all.0, eqb-true place.slot slot two.0, eqb-true place.subslot subslot two.1)

pub same_data : (kind : PlaceKind) → is_same_kind Data kind ≡ true → kind ≡ Data
same_data Data e = refl
same_data Iocs e = absurd (false≢true e)

pub same_iocs : (kind : PlaceKind) → is_same_kind Iocs kind ≡ true → kind ≡ Iocs
same_iocs Data e = absurd (false≢true e)
same_iocs Iocs e = refl

-- The place of a cell, and a value of it.
abbrev pub placed : (Cell → List ℕ) → Cell → Place × List ℕ
placed value cell = (cell.place, value cell)

module _ (slot subslot : ℕ) where
  abbrev pub is_same : ℕ → ℕ → Bool
  is_same to_slot to_subslot = (slot == to_slot) && (subslot == to_subslot)

  -- A place of the submodule is one of another submodule if they are the same.
  of_other : (to_slot to_subslot : ℕ) (place : Place) → is_of Data slot subslot place ≡ true → is_of Data to_slot to_subslot place ≡ is_same to_slot to_subslot
  of_other to_slot to_subslot place h =
      let parts = of_parts Data slot subslot place h in
      ap (λ (b : Bool). b && ((place.slot == to_slot) && (place.subslot == to_subslot))) parts.0
      ∙ (ap (λ (n : ℕ). (n == to_slot) && (place.subslot == to_subslot)) parts.1 ∙ ap (λ (n : ℕ). (slot == to_slot) && (n == to_subslot)) parts.2)

  abbrev pub ChangeCells : ℕ → ℕ → (Cell → Cell) → List Cell → Type 0
  ChangeCells to_slot to_subslot change cells =
      cell_at Data slot subslot (map (changed_in Data to_slot to_subslot change) cells)
      ≡ option_map (λ (cell : Cell). cond (is_same to_slot to_subslot) (change cell) cell) (cell_at Data slot subslot cells)

  one_more_cell : (to_slot to_subslot : ℕ) (change : Cell → Cell) → ((cell : Cell) → (change cell).place ≡ cell.place) → (cell : Cell) (cells : List Cell)
      → ChangeCells to_slot to_subslot change cells → ChangeCells to_slot to_subslot change (cell ∷ cells)
  one_more_cell to_slot to_subslot change keeps cell cells rest =
      by_other (is_of Data to_slot to_subslot cell.place) refl
    where
      by_place : (new : Cell) → new.place ≡ cell.place → (is_of Data slot subslot cell.place ≡ true → new ≡ cond (is_same to_slot to_subslot) (change cell) cell)
          → cond (is_of Data slot subslot new.place) (Some new) (cell_at Data slot subslot (map (changed_in Data to_slot to_subslot change) cells))
          ≡ option_map (λ (c : Cell). cond (is_same to_slot to_subslot) (change c) c) (cond (is_of Data slot subslot cell.place) (Some cell) (cell_at Data slot subslot cells))
      by_place new kept is =
          ap (λ (p : Place). cond (is_of Data slot subslot p) (Some new) (cell_at Data slot subslot (map (changed_in Data to_slot to_subslot change) cells))) kept
          ∙ by_own (is_of Data slot subslot cell.place) is
        where
          by_own : (b : Bool) → (b ≡ true → new ≡ cond (is_same to_slot to_subslot) (change cell) cell)
              → cond b (Some new) (cell_at Data slot subslot (map (changed_in Data to_slot to_subslot change) cells))
              ≡ option_map (λ (c : Cell). cond (is_same to_slot to_subslot) (change c) c) (cond b (Some cell) (cell_at Data slot subslot cells))
          by_own true is_new = ap (λ (c : Cell). Some c) (is_new refl)
          by_own false is_new = rest

      by_other : (b : Bool) → is_of Data to_slot to_subslot cell.place ≡ b
          → cond (is_of Data slot subslot (cond b (change cell) cell).place) (Some (cond b (change cell) cell)) (cell_at Data slot subslot (map (changed_in Data to_slot to_subslot change) cells))
          ≡ option_map (λ (c : Cell). cond (is_same to_slot to_subslot) (change c) c) (cond (is_of Data slot subslot cell.place) (Some cell) (cell_at Data slot subslot cells))
      by_other true e = by_place (change cell) (keeps cell) (λ own. ap (λ (b : Bool). cond b (change cell) cell) (sym e ∙ of_other to_slot to_subslot cell.place own))
      by_other false e = by_place cell refl (λ own. ap (λ (b : Bool). cond b (change cell) cell) (sym e ∙ of_other to_slot to_subslot cell.place own))

  pub cells_changed : (to_slot to_subslot : ℕ) (change : Cell → Cell) → ((cell : Cell) → (change cell).place ≡ cell.place) → (cells : List Cell)
      → ChangeCells to_slot to_subslot change cells
  cells_changed to_slot to_subslot change keeps [] = refl
  cells_changed to_slot to_subslot change keeps (cell ∷ cells) =
      one_more_cell to_slot to_subslot change keeps cell cells (cells_changed to_slot to_subslot change keeps cells)

  abbrev ChangeMarks : ℕ → ℕ → (Mark → Mark) → List Mark → Type 0
  ChangeMarks to_slot to_subslot change marks =
      mark_at slot subslot (marked to_slot to_subslot change marks)
      ≡ option_map (λ (mark : Mark). cond (is_same to_slot to_subslot) (change mark) mark) (mark_at slot subslot marks)

  one_more_mark : (to_slot to_subslot : ℕ) (change : Mark → Mark) → ((mark : Mark) → (change mark).place ≡ mark.place) → (mark : Mark) (marks : List Mark)
      → ChangeMarks to_slot to_subslot change marks → ChangeMarks to_slot to_subslot change (mark ∷ marks)
  one_more_mark to_slot to_subslot change keeps mark marks rest =
      by_other (is_of Data to_slot to_subslot mark.place) refl
    where
      by_place : (new : Mark) → new.place ≡ mark.place → (is_of Data slot subslot mark.place ≡ true → new ≡ cond (is_same to_slot to_subslot) (change mark) mark)
          → cond (is_of Data slot subslot new.place) (Some new) (mark_at slot subslot (marked to_slot to_subslot change marks))
          ≡ option_map (λ (m : Mark). cond (is_same to_slot to_subslot) (change m) m) (cond (is_of Data slot subslot mark.place) (Some mark) (mark_at slot subslot marks))
      by_place new kept is =
          ap (λ (p : Place). cond (is_of Data slot subslot p) (Some new) (mark_at slot subslot (marked to_slot to_subslot change marks))) kept
          ∙ by_own (is_of Data slot subslot mark.place) is
        where
          by_own : (b : Bool) → (b ≡ true → new ≡ cond (is_same to_slot to_subslot) (change mark) mark)
              → cond b (Some new) (mark_at slot subslot (marked to_slot to_subslot change marks))
              ≡ option_map (λ (m : Mark). cond (is_same to_slot to_subslot) (change m) m) (cond b (Some mark) (mark_at slot subslot marks))
          by_own true is_new = ap (λ (m : Mark). Some m) (is_new refl)
          by_own false is_new = rest

      by_other : (b : Bool) → is_of Data to_slot to_subslot mark.place ≡ b
          → cond (is_of Data slot subslot (cond b (change mark) mark).place) (Some (cond b (change mark) mark)) (mark_at slot subslot (marked to_slot to_subslot change marks))
          ≡ option_map (λ (m : Mark). cond (is_same to_slot to_subslot) (change m) m) (cond (is_of Data slot subslot mark.place) (Some mark) (mark_at slot subslot marks))
      by_other true e = by_place (change mark) (keeps mark) (λ own. ap (λ (b : Bool). cond b (change mark) mark) (sym e ∙ of_other to_slot to_subslot mark.place own))
      by_other false e = by_place mark refl (λ own. ap (λ (b : Bool). cond b (change mark) mark) (sym e ∙ of_other to_slot to_subslot mark.place own))

  marks_changed : (to_slot to_subslot : ℕ) (change : Mark → Mark) → ((mark : Mark) → (change mark).place ≡ mark.place) → (marks : List Mark)
      → ChangeMarks to_slot to_subslot change marks
  marks_changed to_slot to_subslot change keeps [] = refl
  marks_changed to_slot to_subslot change keeps (mark ∷ marks) =
      one_more_mark to_slot to_subslot change keeps mark marks (marks_changed to_slot to_subslot change keeps marks)

  -- ---- an event

  abbrev pub cell_in : Flow → Option Cell
  cell_in flow = cell_at Data slot subslot flow.cyclic.shown.cells

  abbrev pub mark_in : Flow → Option Mark
  mark_in flow = mark_at slot subslot flow.marks

  -- The cell and the mark are of one place, and the status of the cell is by the mark.
  abbrev pub AreTied : Option Cell → Option Mark → Type 0
  AreTied None None = Unit {0}
  AreTied None (Some mark) = ⊥
  AreTied (Some cell) None = ⊥
  AreTied (Some cell) (Some mark) = (cell.place ≡ mark.place) × (cell.status ≡ iops_by mark)

  -- The value and the mark after an event.
  abbrev pub value_with : Event → Cell → List ℕ
  value_with event cell = unwrap_or (given_with slot subslot cell.place.size event) cell.value

  abbrev pub mark_with : Event → Mark → Mark
  mark_with event mark = record mark {
    is_awaited = is_none (given_with slot subslot mark.place.size event) && mark.is_awaited;
    is_bad = unwrap_or (rated_with slot subslot event) mark.is_bad;
  }

  -- What an event does to the cell and the mark of the submodule.
  pub record Goes (event : Event) (cell after : Option Cell) (mark marked_so : Option Mark) : Type 0 where
    pub value : option_map (placed (λ (c : Cell). c.value)) after ≡ option_map (placed (value_with event)) cell
    pub mark_is : marked_so ≡ option_map (mark_with event) mark
    pub tied : AreTied after marked_so

  -- An event that gives nothing, and says nothing.
  rests : (event : Event) → ((size : ℕ) → given_with slot subslot size event ≡ None) → rated_with slot subslot event ≡ None
      → (cell : Option Cell) (mark : Option Mark) → AreTied cell mark → Goes event cell cell mark mark
  rests event gives rates None None tied = record { value = refl; mark_is = refl; tied = tt }
  rests event gives rates None (Some mark) tied = absurd tied
  rests event gives rates (Some cell) None tied = absurd tied
  rests event gives rates (Some cell) (Some mark) tied =
      let none = gives cell.place.size in
      let same_none = gives mark.place.size in
      record {
        value = rw none refl;
        mark_is = rw (same_none, rates) refl;
        tied = tied;
      }

  itself : is_same slot subslot ≡ true
  itself = and_from _ _ (eq-eqb slot slot refl) (eq-eqb subslot subslot refl)

  -- An input of the submodule that has another length.
  misfits : (value : List ℕ) (cell : Option Cell) (mark : Option Mark) → has_size (length value) cell ≡ false → AreTied cell mark
      → Goes (Gives slot subslot value) cell cell mark mark
  misfits value None None misfit tied = record { value = refl; mark_is = refl; tied = tt }
  misfits value None (Some mark) misfit tied = absurd tied
  misfits value (Some cell) None misfit tied = absurd tied
  misfits value (Some cell) (Some mark) misfit tied =
      let there : (mark.place.size == length value + 1) ≡ false = ap (λ (p : Place). p.size == length value + 1) (sym tied.0) ∙ misfit in
      record {
        value = rw (itself, misfit) refl;
        mark_is = rw (itself, there) refl;
        tied = tied;
      }

  -- An input of the submodule that fits: it was awaited or not.
  fits_on : (value : List ℕ) (cell : Option Cell) (mark : Option Mark) → has_size (length value) cell ≡ true → is_awaited_in mark ≡ false → AreTied cell mark
      → Goes (Gives slot subslot value) cell (option_map (with_value value) cell) mark mark
  fits_on value None mark fit told tied = absurd (false≢true fit)
  fits_on value (Some cell) None fit told tied = absurd tied
  fits_on value (Some cell) (Some mark) fit told tied =
      let there : (mark.place.size == length value + 1) ≡ true = ap (λ (p : Place). p.size == length value + 1) (sym tied.0) ∙ fit in
      record {
        value = rw (itself, fit) refl;
        mark_is = rw (itself, there) (ap (λ (b : Bool). Some (record mark { is_awaited = b })) told);
        tied = tied;
      }

  fits_first : (value : List ℕ) (iops : ℕ) (cell : Option Cell) (mark : Option Mark) → has_size (length value) cell ≡ true → iops ≡ iops_of (option_map (change_by None) mark)
      → AreTied cell mark
      → Goes (Gives slot subslot value) cell (option_map (with_status iops) (option_map (with_value value) cell)) mark (option_map (change_by None) mark)
  fits_first value iops None mark fit is tied = absurd (false≢true fit)
  fits_first value iops (Some cell) None fit is tied = absurd tied
  fits_first value iops (Some cell) (Some mark) fit is tied =
      let there : (mark.place.size == length value + 1) ≡ true = ap (λ (p : Place). p.size == length value + 1) (sym tied.0) ∙ fit in
      record {
        value = rw (itself, fit) refl;
        mark_is = rw (itself, there) refl;
        tied = (tied.0, is);
      }

  -- A status of the submodule.
  rates_on : (is_good : Bool) (iops : ℕ) (cell : Option Cell) (mark : Option Mark) → iops ≡ iops_of (option_map (change_by (Some is_good)) mark) → AreTied cell mark
      → Goes (Rates slot subslot is_good) cell (option_map (with_status iops) cell) mark (option_map (change_by (Some is_good)) mark)
  rates_on is_good iops None None is tied = record { value = refl; mark_is = refl; tied = tt }
  rates_on is_good iops None (Some mark) is tied = absurd tied
  rates_on is_good iops (Some cell) None is tied = absurd tied
  rates_on is_good iops (Some cell) (Some mark) is tied = record { value = refl; mark_is = rw itself refl; tied = (tied.0, is) }

  -- The cell and the mark of the submodule itself, and of another one.
  cell_here : (change : Cell → Cell) → ((cell : Cell) → (change cell).place ≡ cell.place) → (cells : List Cell)
      → cell_at Data slot subslot (map (changed_in Data slot subslot change) cells) ≡ option_map change (cell_at Data slot subslot cells)
  cell_here change keeps cells =
      cells_changed slot subslot change keeps cells
      ∙ ap (λ (b : Bool). option_map (λ (cell : Cell). cond b (change cell) cell) (cell_at Data slot subslot cells)) itself

  mark_here : (status : Option Bool) (marks : List Mark) → mark_at slot subslot (marked slot subslot (change_by status) marks) ≡ option_map (change_by status) (mark_at slot subslot marks)
  mark_here status marks =
      marks_changed slot subslot (change_by status) (mark_kept status) marks
      ∙ ap (λ (b : Bool). option_map (λ (mark : Mark). cond b (change_by status mark) mark) (mark_at slot subslot marks)) itself
    where
      mark_kept : (told : Option Bool) (mark : Mark) → (change_by told mark).place ≡ mark.place
      mark_kept None mark = refl
      mark_kept (Some is_good) mark = refl

  unmoved_cell : (found : Option Cell) → option_map (λ (cell : Cell). cell) found ≡ found
  unmoved_cell None = refl
  unmoved_cell (Some cell) = refl

  unmoved_mark : (found : Option Mark) → option_map (λ (mark : Mark). mark) found ≡ found
  unmoved_mark None = refl
  unmoved_mark (Some mark) = refl

  module _ (to_slot to_subslot : ℕ) (apart : is_same to_slot to_subslot ≡ false) where
    cell_apart : (change : Cell → Cell) → ((cell : Cell) → (change cell).place ≡ cell.place) → (cells : List Cell)
        → cell_at Data slot subslot (map (changed_in Data to_slot to_subslot change) cells) ≡ cell_at Data slot subslot cells
    cell_apart change keeps cells =
        cells_changed to_slot to_subslot change keeps cells
        ∙ (ap (λ (b : Bool). option_map (λ (cell : Cell). cond b (change cell) cell) (cell_at Data slot subslot cells)) apart ∙ unmoved_cell (cell_at Data slot subslot cells))

    mark_apart : (status : Option Bool) (marks : List Mark) → mark_at slot subslot (marked to_slot to_subslot (change_by status) marks) ≡ mark_at slot subslot marks
    mark_apart status marks =
        marks_changed to_slot to_subslot (change_by status) (kept status) marks
        ∙ (ap (λ (b : Bool). option_map (λ (mark : Mark). cond b (change_by status mark) mark) (mark_at slot subslot marks)) apart ∙ unmoved_mark (mark_at slot subslot marks))
      where
        kept : (told : Option Bool) (mark : Mark) → (change_by told mark).place ≡ mark.place
        kept None mark = refl
        kept (Some is_good) mark = refl

    -- What happens to another submodule.
    goes_apart : (event : Event) → ((size : ℕ) → given_with slot subslot size event ≡ None) → rated_with slot subslot event ≡ None
        → (flow after : Flow) → cell_in after ≡ cell_in flow → mark_in after ≡ mark_in flow → AreTied (cell_in flow) (mark_in flow)
        → Goes event (cell_in flow) (cell_in after) (mark_in flow) (mark_in after)
    goes_apart event gives rates flow after cell mark tied =
        subst (λ (c : Option Cell). Goes event (cell_in flow) c (mark_in flow) (mark_in after)) (sym cell)
        (subst (λ (m : Option Mark). Goes event (cell_in flow) (cell_in flow) (mark_in flow) m) (sym mark) (rests event gives rates (cell_in flow) (mark_in flow) tied))

    gives_none : (value : List ℕ) (size : ℕ) → given_with slot subslot size (Gives to_slot to_subslot value) ≡ None
    gives_none value size = ap (λ (b : Bool). cond (b && (size == length value + 1)) (Some value) None) apart

    given_apart : (value : List ℕ) (flow : Flow) → AreTied (cell_in flow) (mark_in flow)
        → Goes (Gives to_slot to_subslot value) (cell_in flow) (cell_in (unwrap_or (given_at flow to_slot to_subslot value) flow)) (mark_in flow) (mark_in (unwrap_or (given_at flow to_slot to_subslot value) flow))
    given_apart value flow tied = by_size (has_size (length value) (cell_at Data to_slot to_subslot flow.cyclic.shown.cells))
      where
        put : Cyclic
        put = record flow.cyclic { shown = record { data_length = flow.cyclic.shown.data_length; cells = map (changed_in Data to_slot to_subslot (with_value value)) flow.cyclic.shown.cells } }

        After : Flow → Type 0
        After after = Goes (Gives to_slot to_subslot value) (cell_in flow) (cell_in after) (mark_in flow) (mark_in after)

        by_first : (b : Bool) → After (cond b (remarked (with_cyclic flow put) to_slot to_subslot None) (with_cyclic flow put))
        by_first true =
            goes_apart (Gives to_slot to_subslot value) (gives_none value) refl flow (remarked (with_cyclic flow put) to_slot to_subslot None)
            (cell_apart (with_status (iops_of (mark_at to_slot to_subslot (marked to_slot to_subslot (change_by None) flow.marks)))) (λ c. refl) put.shown.cells
            ∙ cell_apart (with_value value) (λ c. refl) flow.cyclic.shown.cells)
            (mark_apart None flow.marks) tied
        by_first false = goes_apart (Gives to_slot to_subslot value) (gives_none value) refl flow (with_cyclic flow put) (cell_apart (with_value value) (λ c. refl) flow.cyclic.shown.cells) refl tied

        by_size : (b : Bool) → After (unwrap_or (option_map (with_input flow to_slot to_subslot) (cond b (Some put) None)) flow)
        by_size true = by_first (awaits to_slot to_subslot flow.marks)
        by_size false = goes_apart (Gives to_slot to_subslot value) (gives_none value) refl flow flow refl refl tied

    rated_apart : (is_good : Bool) (flow : Flow) → AreTied (cell_in flow) (mark_in flow)
        → Goes (Rates to_slot to_subslot is_good) (cell_in flow) (cell_in (rated_at flow to_slot to_subslot is_good)) (mark_in flow) (mark_in (rated_at flow to_slot to_subslot is_good))
    rated_apart is_good flow tied =
        goes_apart (Rates to_slot to_subslot is_good) (λ size. refl) (ap (λ (b : Bool). cond b (Some (not is_good)) None) apart) flow (rated_at flow to_slot to_subslot is_good)
        (cell_apart (with_status (iops_of (mark_at to_slot to_subslot (marked to_slot to_subslot (change_by (Some is_good)) flow.marks)))) (λ c. refl) flow.cyclic.shown.cells)
        (mark_apart (Some is_good) flow.marks) tied

  -- What happens to the submodule itself.
  given_here : (value : List ℕ) (flow : Flow) → AreTied (cell_in flow) (mark_in flow)
      → Goes (Gives slot subslot value) (cell_in flow) (cell_in (unwrap_or (given_at flow slot subslot value) flow)) (mark_in flow) (mark_in (unwrap_or (given_at flow slot subslot value) flow))
  given_here value flow tied = by_size (has_size (length value) (cell_in flow)) refl
    where
      put : Cyclic
      put = record flow.cyclic { shown = record { data_length = flow.cyclic.shown.data_length; cells = map (changed_in Data slot subslot (with_value value)) flow.cyclic.shown.cells } }

      put_is : cell_at Data slot subslot put.shown.cells ≡ option_map (with_value value) (cell_in flow)
      put_is = cell_here (with_value value) (λ c. refl) flow.cyclic.shown.cells

      After : Flow → Type 0
      After after = Goes (Gives slot subslot value) (cell_in flow) (cell_in after) (mark_in flow) (mark_in after)

      by_first : has_size (length value) (cell_in flow) ≡ true → (b : Bool) → awaits slot subslot flow.marks ≡ b
          → After (cond b (remarked (with_cyclic flow put) slot subslot None) (with_cyclic flow put))
      by_first fit true first =
          let iops : ℕ = iops_of (mark_at slot subslot (marked slot subslot (change_by None) flow.marks)) in
          let cell : cell_in (remarked (with_cyclic flow put) slot subslot None) ≡ option_map (with_status iops) (option_map (with_value value) (cell_in flow)) =
          cell_here (with_status iops) (λ c. refl) put.shown.cells ∙ ap (λ (c : Option Cell). option_map (with_status iops) c) put_is in
          let mark = mark_here None flow.marks in
          subst (λ (c : Option Cell). Goes (Gives slot subslot value) (cell_in flow) c (mark_in flow) (mark_at slot subslot (marked slot subslot (change_by None) flow.marks))) (sym cell)
          (subst (λ (m : Option Mark). Goes (Gives slot subslot value) (cell_in flow) (option_map (with_status iops) (option_map (with_value value) (cell_in flow))) (mark_in flow) m) (sym mark)
          (fits_first value iops (cell_in flow) (mark_in flow) fit (ap iops_of mark) tied))
      by_first fit false told =
          subst (λ (c : Option Cell). Goes (Gives slot subslot value) (cell_in flow) c (mark_in flow) (mark_in flow)) (sym put_is)
          (fits_on value (cell_in flow) (mark_in flow) fit told tied)

      by_size : (b : Bool) → has_size (length value) (cell_in flow) ≡ b → After (unwrap_or (option_map (with_input flow slot subslot) (cond b (Some put) None)) flow)
      by_size true fit = by_first fit (awaits slot subslot flow.marks) refl
      by_size false misfit = misfits value (cell_in flow) (mark_in flow) misfit tied

  rated_here : (is_good : Bool) (flow : Flow) → AreTied (cell_in flow) (mark_in flow)
      → Goes (Rates slot subslot is_good) (cell_in flow) (cell_in (rated_at flow slot subslot is_good)) (mark_in flow) (mark_in (rated_at flow slot subslot is_good))
  rated_here is_good flow tied =
      let iops : ℕ = iops_of (mark_at slot subslot (marked slot subslot (change_by (Some is_good)) flow.marks)) in
      let mark = mark_here (Some is_good) flow.marks in
      subst (λ (c : Option Cell). Goes (Rates slot subslot is_good) (cell_in flow) c (mark_in flow) (mark_at slot subslot (marked slot subslot (change_by (Some is_good)) flow.marks)))
      (sym (cell_here (with_status iops) (λ c. refl) flow.cyclic.shown.cells))
      (subst (λ (m : Option Mark). Goes (Rates slot subslot is_good) (cell_in flow) (option_map (with_status iops) (cell_in flow)) (mark_in flow) m) (sym mark)
      (rates_on is_good iops (cell_in flow) (mark_in flow) (ap iops_of mark) tied))

  -- The same submodule, or another one.
  by_submodule : (P : ℕ → ℕ → Type 0) → P slot subslot → ((to_slot to_subslot : ℕ) → is_same to_slot to_subslot ≡ false → P to_slot to_subslot) → (to_slot to_subslot : ℕ) → P to_slot to_subslot
  by_submodule P here apart to_slot to_subslot =
      elim (cases_Bool (is_same to_slot to_subslot)) [
        | inl t ↦
            let two = and_parts (slot == to_slot) (subslot == to_subslot) t in
            subst (λ (n : ℕ). P n to_subslot) (eqb-true slot to_slot two.0) (subst (λ (n : ℕ). P slot n) (eqb-true subslot to_subslot two.1) here)
        | inr f ↦ apart to_slot to_subslot f
      ]

  -- An event that leaves the inputs and the marks.
  same_inputs : (event : Event) → ((size : ℕ) → given_with slot subslot size event ≡ None) → rated_with slot subslot event ≡ None → (flow after : Flow)
      → after.cyclic.shown ≡ flow.cyclic.shown → after.marks ≡ flow.marks → AreTied (cell_in flow) (mark_in flow)
      → Goes event (cell_in flow) (cell_in after) (mark_in flow) (mark_in after)
  same_inputs event gives rates flow after shown marks tied =
      subst (λ (s : Shown). Goes event (cell_in flow) (cell_at Data slot subslot s.cells) (mark_in flow) (mark_in after)) (sym shown)
      (subst (λ (m : List Mark). Goes event (cell_in flow) (cell_in flow) (mark_in flow) (mark_at slot subslot m)) (sym marks) (rests event gives rates (cell_in flow) (mark_in flow) tied))

  marks_raised : (flow : Flow) (of_slot of_subslot : ℕ) (octets : List ℕ) (ident part : Option ℕ) → (unwrap_or (raised_by flow of_slot of_subslot octets ident part) flow).marks ≡ flow.marks
  marks_raised flow of_slot of_subslot octets (Some ident) (Some part) = elim (cases_Bool (may_raise flow octets)) [ inl t ↦ rw t refl | inr t ↦ rw t refl ]
  marks_raised flow of_slot of_subslot octets (Some ident) None = refl
  marks_raised flow of_slot of_subslot octets None part = refl

  pub goes : (event : Event) (flow : Flow) → AreTied (cell_in flow) (mark_in flow) → Goes event (cell_in flow) (cell_in (behind event flow)) (mark_in flow) (mark_in (behind event flow))
  goes Begins flow tied = same_inputs Begins (λ size. refl) refl flow (behind Begins flow) refl refl tied
  goes Passes flow tied = same_inputs Passes (λ size. refl) refl flow (behind Passes flow) refl refl tied
  goes (Comes source frame_id body) flow tied =
      same_inputs (Comes source frame_id body) (λ size. refl) refl flow (behind (Comes source frame_id body) flow) (shown_behind flow.cyclic source frame_id body) refl tied
  goes (Gives to_slot to_subslot value) flow tied =
      by_submodule (λ s ss. Goes (Gives s ss value) (cell_in flow) (cell_in (unwrap_or (given_at flow s ss value) flow)) (mark_in flow) (mark_in (unwrap_or (given_at flow s ss value) flow)))
      (given_here value flow tied) (λ s ss apart. given_apart s ss apart value flow tied) to_slot to_subslot
  goes (Rates to_slot to_subslot is_good) flow tied =
      by_submodule (λ s ss. Goes (Rates s ss is_good) (cell_in flow) (cell_in (rated_at flow s ss is_good)) (mark_in flow) (mark_in (rated_at flow s ss is_good)))
      (rated_here is_good flow tied) (λ s ss apart. rated_apart s ss apart is_good flow tied) to_slot to_subslot
  goes (Raises real of_slot of_subslot octets) flow tied =
      same_inputs (Raises real of_slot of_subslot octets) (λ size. refl) refl flow (behind (Raises real of_slot of_subslot octets) flow)
      (ap (λ (cyclic : Cyclic). cyclic.shown) (cyclic_raised flow of_slot of_subslot octets (module_ident real of_slot) (submodule_ident real of_slot of_subslot)))
      (marks_raised flow of_slot of_subslot octets (module_ident real of_slot) (submodule_ident real of_slot of_subslot)) tied
  goes (Says message) flow tied = same_inputs (Says message) (λ size. refl) refl flow (behind (Says message) flow) refl refl tied
  goes (Lowers low) flow tied = same_inputs (Lowers low) (λ size. refl) refl flow (behind (Lowers low) flow) refl refl tied
  goes (Turns is_running) flow tied = same_inputs (Turns is_running) (λ size. refl) refl flow (behind (Turns is_running) flow) refl refl tied

  -- ---- several events

  abbrev value_after : List Event → Cell → List ℕ
  value_after events cell = unwrap_or (last_given slot subslot cell.place.size events) cell.value

  record GoesAll (events : List Event) (cell after : Option Cell) (mark marked_so : Option Mark) : Type 0 where
    value : option_map (placed (λ (c : Cell). c.value)) after ≡ option_map (placed (value_after events)) cell
    mark_is : marked_so ≡ option_map (mark_after slot subslot events) mark
    tied : AreTied after marked_so

  value_twice : (event : Event) (events : List Event) (before between : Option Cell)
      → option_map (placed (λ (c : Cell). c.value)) between ≡ option_map (placed (value_with event)) before
      → option_map (placed (value_after events)) between ≡ option_map (placed (value_after (event ∷ events))) before
  value_twice event events None None e = refl
  value_twice event events None (Some between) e = absurd cc
  value_twice event events (Some before) None e = absurd cc
  value_twice event events (Some before) (Some between) e =
      let both = some_is (between.place, between.value) (before.place, value_with event before) e in
      ap (λ (x : Place × List ℕ). Some (x.0, unwrap_or (last_given slot subslot x.0.size events) x.1)) both
      ∙ ap (λ (v : List ℕ). Some (before.place, v)) (later_value (last_given slot subslot before.place.size events) (given_with slot subslot before.place.size event) before.value)
    where
      some_is : (x y : Place × List ℕ) → Some x ≡ Some y → x ≡ y
      some_is x y f = cc

      later_value : (later earlier : Option (List ℕ)) (value : List ℕ) → unwrap_or later (unwrap_or earlier value) ≡ unwrap_or (later_one later earlier) value
      later_value (Some later) earlier value = refl
      later_value None earlier value = refl

  mark_twice : (event : Event) (events : List Event) (found : Option Mark)
      → option_map (mark_after slot subslot events) (option_map (mark_with event) found) ≡ option_map (mark_after slot subslot (event ∷ events)) found
  mark_twice event events None = refl
  mark_twice event events (Some mark) =
      ap (λ (b : Bool). Some (record mark { is_awaited = b; is_bad = unwrap_or (last_rated slot subslot events) (unwrap_or (rated_with slot subslot event) mark.is_bad) }))
      (none_later (last_given slot subslot mark.place.size events) (given_with slot subslot mark.place.size event) mark.is_awaited)
      ∙ ap (λ (b : Bool). Some (record mark { is_awaited = is_none (last_given slot subslot mark.place.size (event ∷ events)) && mark.is_awaited; is_bad = b }))
      (rated_later (last_rated slot subslot events) (rated_with slot subslot event) mark.is_bad)
    where
      none_later : (later earlier : Option (List ℕ)) (first : Bool) → (is_none later && (is_none earlier && first)) ≡ (is_none (later_one later earlier) && first)
      none_later (Some later) earlier first = refl
      none_later None earlier first = refl

      rated_later : (later earlier : Option Bool) (first : Bool) → unwrap_or later (unwrap_or earlier first) ≡ unwrap_or (later_rated later earlier) first
      rated_later (Some later) earlier first = refl
      rated_later None earlier first = refl

  unchanged : (cell : Option Cell) (mark : Option Mark) → AreTied cell mark → GoesAll [] cell cell mark mark
  unchanged None None tied = record { value = refl; mark_is = refl; tied = tt }
  unchanged None (Some mark) tied = absurd tied
  unchanged (Some cell) None tied = absurd tied
  unchanged (Some cell) (Some mark) tied = record { value = refl; mark_is = refl; tied = tied }

  goes_all : (events : List Event) (flow : Flow) → AreTied (cell_in flow) (mark_in flow)
      → GoesAll events (cell_in flow) (cell_in (behind_all events flow)) (mark_in flow) (mark_in (behind_all events flow))
  goes_all [] flow tied = unchanged (cell_in flow) (mark_in flow) tied
  goes_all (event ∷ events) flow tied =
      let one = goes event flow tied in
      let more = goes_all events (behind event flow) one.tied in
      record {
        value = more.value ∙ value_twice event events (cell_in flow) (cell_in (behind event flow)) one.value;
        mark_is = more.mark_is ∙ (ap (λ (m : Option Mark). option_map (mark_after slot subslot events) m) one.mark_is ∙ mark_twice event events (mark_in flow));
        tied = more.tied;
      }

  -- ---- from the opening on

  module _ (rows : Listed DiffModule DiffSubmodule) (starting : Starting) where
    pub first_cell_at : (kind : PlaceKind) (marks : List Mark) (places : List Place)
        → cell_at kind slot subslot (map (first_cell rows marks) places) ≡ option_map (first_cell rows marks) (place_at kind slot subslot places)
    first_cell_at kind marks [] = refl
    first_cell_at kind marks (place ∷ places) =
        elim (cases_Bool (is_of kind slot subslot place)) [ inl t ↦ rw t refl | inr t ↦ rw t (first_cell_at kind marks places) ]

    pub first_mark_at : (places : List Place) → mark_at slot subslot (map (first_mark starting rows) places) ≡ option_map (first_mark starting rows) (place_at Data slot subslot places)
    first_mark_at [] = refl
    first_mark_at (place ∷ places) = elim (cases_Bool (is_of Data slot subslot place)) [ inl t ↦ rw t refl | inr t ↦ rw t (first_mark_at places) ]

    -- A place that is found is that of the submodule.
    some_place : (x y : Place) → Some x ≡ Some y → x ≡ y
    some_place x y f = cc

    found_first : (kind : PlaceKind) (one : Place) (places : List Place) (place : Place) → (place_at kind slot subslot places ≡ Some place → is_of kind slot subslot place ≡ true)
        → (b : Bool) → is_of kind slot subslot one ≡ b → cond b (Some one) (place_at kind slot subslot places) ≡ Some place → is_of kind slot subslot place ≡ true
    found_first kind one places place later true t f = subst (λ (p : Place). is_of kind slot subslot p ≡ true) (some_place one place f) t
    found_first kind one places place later false t f = later f

    pub found_is : (kind : PlaceKind) (places : List Place) (place : Place) → place_at kind slot subslot places ≡ Some place → is_of kind slot subslot place ≡ true
    found_is kind [] place e = absurd cc
    found_is kind (one ∷ places) place e = found_first kind one places place (found_is kind places place) (is_of kind slot subslot one) refl e

    -- The first cell of the submodule is tied to its first mark.
    tied_first : (marks : List Mark) (found : Option Place) → ((place : Place) → found ≡ Some place → is_of Data slot subslot place ≡ true)
        → mark_at slot subslot marks ≡ option_map (first_mark starting rows) found
        → AreTied (option_map (first_cell rows marks) found) (option_map (first_mark starting rows) found)
    tied_first marks None own is = tt
    tied_first marks (Some place) own is =
        let parts = of_parts Data slot subslot place (own place refl) in
        (refl, status_is place.kind place.slot place.subslot (same_data place.kind parts.0) parts.1 parts.2)
      where
        status_is : (kind : PlaceKind) (s ss : ℕ) → kind ≡ Data → s ≡ slot → ss ≡ subslot → statuses_of rows marks kind s ss ≡ iops_by (first_mark starting rows place)
        status_is kind s ss k e f =
            ap (λ (x : PlaceKind). statuses_of rows marks x s ss) k ∙ (ap (λ (n : ℕ). iops_of (mark_at n ss marks)) e ∙ (ap (λ (n : ℕ). iops_of (mark_at slot n marks)) f ∙ ap iops_of is))

    pub opened_tied : (marks : List Mark) (places : List Place) → marks ≡ map (first_mark starting rows) places
        → AreTied (cell_at Data slot subslot (map (first_cell rows marks) places)) (mark_at slot subslot marks)
    opened_tied marks places e =
        let mark : mark_at slot subslot marks ≡ option_map (first_mark starting rows) (place_at Data slot subslot places) = ap (mark_at slot subslot) e ∙ first_mark_at places in
        subst (λ (c : Option Cell). AreTied c (mark_at slot subslot marks)) (sym (first_cell_at Data marks places))
        (subst (λ (m : Option Mark). AreTied (option_map (first_cell rows marks) (place_at Data slot subslot places)) m) (sym mark)
        (tied_first marks (place_at Data slot subslot places) (found_is Data places) mark))

    first_values : (events : List Event) (marks : List Mark) (found : Option Place)
        → option_map (value_after events) (option_map (first_cell rows marks) found) ≡ option_map (input_value slot subslot events) found
    first_values events marks None = refl
    first_values events marks (Some place) = refl

    first_iops : (events : List Event) (found : Option Place)
        → option_map iops_by (option_map (mark_after slot subslot events) (option_map (first_mark starting rows) found)) ≡ option_map (input_iops rows starting slot subslot events) found
    first_iops events None = refl
    first_iops events (Some place) = refl

    first_iocs : (marks : List Mark) (found : Option Place) → ((place : Place) → found ≡ Some place → is_of Iocs slot subslot place ≡ true)
        → option_map (λ (cell : Cell). cell.status) (option_map (first_cell rows marks) found) ≡ option_map (λ (place : Place). status_of rows place.slot place.subslot) found
    first_iocs marks None own = refl
    first_iocs marks (Some place) own =
        let parts = of_parts Iocs slot subslot place (own place refl) in
        ap (λ (kind : PlaceKind). Some (statuses_of rows marks kind place.slot place.subslot)) (same_iocs place.kind parts.0)

  only_values : (found : Option Cell) → option_map (λ (c : Cell). c.value) found ≡ option_map (λ (x : Place × List ℕ). x.1) (option_map (placed (λ (c : Cell). c.value)) found)
  only_values None = refl
  only_values (Some cell) = refl

  only_after : (events : List Event) (found : Option Cell)
      → option_map (λ (x : Place × List ℕ). x.1) (option_map (placed (value_after events)) found) ≡ option_map (value_after events) found
  only_after events None = refl
  only_after events (Some cell) = refl

  pub status_tied : (cell : Option Cell) (mark : Option Mark) → AreTied cell mark → option_map (λ (c : Cell). c.status) cell ≡ option_map iops_by mark
  status_tied None None tied = refl
  status_tied None (Some mark) tied = absurd tied
  status_tied (Some cell) None tied = absurd tied
  status_tied (Some cell) (Some mark) tied = ap (λ (n : ℕ). Some n) tied.1

  -- ---- IOCS

  not_both : (to_slot to_subslot : ℕ) (place : Place) → is_of Data to_slot to_subslot place ≡ true → is_of Iocs slot subslot place ≡ false
  not_both to_slot to_subslot place h =
      ap (λ (kind : PlaceKind). is_same_kind Iocs kind && ((place.slot == slot) && (place.subslot == subslot))) (same_data place.kind (of_parts Data to_slot to_subslot place h).0)

  abbrev pub KeepIocs : ℕ → ℕ → (Cell → Cell) → List Cell → Type 0
  KeepIocs to_slot to_subslot change cells = cell_at Iocs slot subslot (map (changed_in Data to_slot to_subslot change) cells) ≡ cell_at Iocs slot subslot cells

  one_more_iocs : (to_slot to_subslot : ℕ) (change : Cell → Cell) → ((cell : Cell) → (change cell).place ≡ cell.place) → (cell : Cell) (cells : List Cell)
      → KeepIocs to_slot to_subslot change cells → KeepIocs to_slot to_subslot change (cell ∷ cells)
  one_more_iocs to_slot to_subslot change keeps cell cells rest = by_other (is_of Data to_slot to_subslot cell.place) refl
    where
      by_own : (b : Bool) → cond b (Some cell) (cell_at Iocs slot subslot (map (changed_in Data to_slot to_subslot change) cells)) ≡ cond b (Some cell) (cell_at Iocs slot subslot cells)
      by_own true = refl
      by_own false = rest

      by_other : (b : Bool) → is_of Data to_slot to_subslot cell.place ≡ b
          → cond (is_of Iocs slot subslot (cond b (change cell) cell).place) (Some (cond b (change cell) cell)) (cell_at Iocs slot subslot (map (changed_in Data to_slot to_subslot change) cells))
          ≡ cond (is_of Iocs slot subslot cell.place) (Some cell) (cell_at Iocs slot subslot cells)
      by_other true t =
          let none = not_both to_slot to_subslot cell.place t in
          ap (λ (p : Place). cond (is_of Iocs slot subslot p) (Some (change cell)) (cell_at Iocs slot subslot (map (changed_in Data to_slot to_subslot change) cells))) (keeps cell)
          ∙ (ap (λ (b : Bool). cond b (Some (change cell)) (cell_at Iocs slot subslot (map (changed_in Data to_slot to_subslot change) cells))) none
          ∙ (rest ∙ sym (ap (λ (b : Bool). cond b (Some cell) (cell_at Iocs slot subslot cells)) none)))
      by_other false t = by_own (is_of Iocs slot subslot cell.place)

  pub iocs_changed : (to_slot to_subslot : ℕ) (change : Cell → Cell) → ((cell : Cell) → (change cell).place ≡ cell.place) → (cells : List Cell)
      → KeepIocs to_slot to_subslot change cells
  iocs_changed to_slot to_subslot change keeps [] = refl
  iocs_changed to_slot to_subslot change keeps (cell ∷ cells) =
      one_more_iocs to_slot to_subslot change keeps cell cells (iocs_changed to_slot to_subslot change keeps cells)

  abbrev pub iocs_in : Flow → Option Cell
  iocs_in flow = cell_at Iocs slot subslot flow.cyclic.shown.cells

  iocs_given : (to_slot to_subslot : ℕ) (value : List ℕ) (flow : Flow) → iocs_in (unwrap_or (given_at flow to_slot to_subslot value) flow) ≡ iocs_in flow
  iocs_given to_slot to_subslot value flow = by_size (has_size (length value) (cell_at Data to_slot to_subslot flow.cyclic.shown.cells))
    where
      put : Cyclic
      put = record flow.cyclic { shown = record { data_length = flow.cyclic.shown.data_length; cells = map (changed_in Data to_slot to_subslot (with_value value)) flow.cyclic.shown.cells } }

      by_first : (b : Bool) → iocs_in (cond b (remarked (with_cyclic flow put) to_slot to_subslot None) (with_cyclic flow put)) ≡ iocs_in flow
      by_first true =
          iocs_changed to_slot to_subslot (with_status (iops_of (mark_at to_slot to_subslot (marked to_slot to_subslot (change_by None) flow.marks)))) (λ c. refl) put.shown.cells
          ∙ iocs_changed to_slot to_subslot (with_value value) (λ c. refl) flow.cyclic.shown.cells
      by_first false = iocs_changed to_slot to_subslot (with_value value) (λ c. refl) flow.cyclic.shown.cells

      by_size : (b : Bool) → iocs_in (unwrap_or (option_map (with_input flow to_slot to_subslot) (cond b (Some put) None)) flow) ≡ iocs_in flow
      by_size true = by_first (awaits to_slot to_subslot flow.marks)
      by_size false = refl

  pub iocs_with : (event : Event) (flow : Flow) → iocs_in (behind event flow) ≡ iocs_in flow
  iocs_with Begins flow = refl
  iocs_with Passes flow = refl
  iocs_with (Comes source frame_id body) flow = ap (λ (s : Shown). cell_at Iocs slot subslot s.cells) (shown_behind flow.cyclic source frame_id body)
  iocs_with (Gives to_slot to_subslot value) flow = iocs_given to_slot to_subslot value flow
  iocs_with (Rates to_slot to_subslot is_good) flow =
      iocs_changed to_slot to_subslot (with_status (iops_of (mark_at to_slot to_subslot (marked to_slot to_subslot (change_by (Some is_good)) flow.marks)))) (λ c. refl) flow.cyclic.shown.cells
  iocs_with (Raises real of_slot of_subslot octets) flow =
      ap (λ (cyclic : Cyclic). cell_at Iocs slot subslot cyclic.shown.cells) (cyclic_raised flow of_slot of_subslot octets (module_ident real of_slot) (submodule_ident real of_slot of_subslot))
  iocs_with (Says message) flow = refl
  iocs_with (Lowers low) flow = refl
  iocs_with (Turns is_running) flow = refl

  iocs_all : (events : List Event) (flow : Flow) → iocs_in (behind_all events flow) ≡ iocs_in flow
  iocs_all [] flow = refl
  iocs_all (event ∷ events) flow = iocs_all events (behind event flow) ∙ iocs_with event flow

-- ---- the laws

pub are_the_last_given : AreTheLastGiven
are_the_last_given request rows starting events slot subslot =
    let places = request.input.layout.places in
    let flow = opened request rows starting in
    let marks = first_marks request rows starting in
    let all = goes_all slot subslot events flow (opened_tied slot subslot rows starting marks places refl) in
    only_values slot subslot (cell_in slot subslot (behind_all events flow))
    ∙ (ap (λ (x : Option (Place × List ℕ)). option_map (λ (y : Place × List ℕ). y.1) x) all.value
    ∙ (only_after slot subslot events (cell_in slot subslot flow)
    ∙ (ap (λ (c : Option Cell). option_map (value_after slot subslot events) c) (first_cell_at slot subslot rows starting Data marks places)
    ∙ first_values slot subslot rows starting events marks (place_at Data slot subslot places))))

pub are_the_iops : AreTheIops
are_the_iops request rows starting events slot subslot =
    let places = request.input.layout.places in
    let flow = opened request rows starting in
    let marks = first_marks request rows starting in
    let all = goes_all slot subslot events flow (opened_tied slot subslot rows starting marks places refl) in
    status_tied slot subslot (cell_in slot subslot (behind_all events flow)) (mark_in slot subslot (behind_all events flow)) all.tied
    ∙ (ap (λ (m : Option Mark). option_map iops_by m) all.mark_is
    ∙ (ap (λ (m : Option Mark). option_map iops_by (option_map (mark_after slot subslot events) m)) (first_mark_at slot subslot rows starting places)
    ∙ first_iops slot subslot rows starting events (place_at Data slot subslot places)))

pub are_still_the_iocs : AreStillTheIocs
are_still_the_iocs request rows starting events slot subslot =
    let places = request.input.layout.places in
    let flow = opened request rows starting in
    let marks = first_marks request rows starting in
    ap (λ (c : Option Cell). option_map (λ (cell : Cell). cell.status) c) (iocs_all slot subslot events flow ∙ first_cell_at slot subslot rows starting Iocs marks places)
    ∙ first_iocs slot subslot rows starting marks (place_at Iocs slot subslot places) (found_is slot subslot rows starting Iocs places)
