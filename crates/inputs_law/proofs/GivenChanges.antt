-- What a relation sends of its inputs after something was pulled or plugged, or after the controller released it.
use Rattle.std.proofs.Common.{◌≡◌, ◌==◌, ◌&&◌, ◌||◌, ℕ, Bool, true, false, cond, List, [], ◌∷◌, map, Option, Some, None, refl, sym, ap, ◌∙◌}
use Rattle.std.specs.Prelude.{is_none, nat_lt, not, option_map, if◌then◌else◌}
use Rattle.std.specs.List.{AllByRecursion, fold}
use Rattle.std.proofs.lemmas.Bool.{and_parts, eq-eqb, eqb-true, true≢false}
use Rattle.module_diff.specs.declared.changes.Affected.{Affected}
use Rattle.module_diff.specs.Changes.{covers}
use Rattle.cyclic_data.specs.declared.place.Place.{Place}
use Rattle.cyclic_data.specs.declared.place.PlaceKind.{PlaceKind}
use Rattle.cyclic_data.specs.declared.place.PlaceKind.TheVariants.{Data, Iocs}
use Rattle.cyclic_data.specs.Layout.{is_of, is_same_kind}
use Rattle.cyclic_data.specs.Image.{Cell, Shown as Image, changed_in, good, place_at}
use Rattle.cyclic_data.specs.exchange.Cyclic.{Cyclic}
use Rattle.cyclic_data.specs.exchange.Opening.{StatusOf, blanked, cleared_cell, stated, stated_cell}
use Rattle.expected_places.specs.Machine.{PlugState, differs_at, is_touched_at}
use Rattle.relations.specs.declared.exchange.marks.Mark.{Mark}
use Rattle.relations.specs.declared.exchange.statuses.InputStatus.{InputStatus}
use Rattle.relations.specs.exchange.Flow.{Flow}
use Rattle.relations.specs.exchange.Marks.{iops_by, iops_of}
use Rattle.relations.specs.exchange.Modules.{all_cleared, cleared_at, is_shut, renewed, renewed_mark, renewed_marks, restated_flow, restated_mark, restated_marks, stated_of}
use Rattle.relations.specs.exchange.Statuses.{is_bad, is_for, remaining_statuses}
use Rattle.both_ends.specs.exchange.Given.{value_or_zeros, zeros_at}
use Rattle.inputs_law.proofs.GivenCells.{Provided, Values, all_same, cell_of_kind, cell_with, cells_of, mark_found, mark_of_kind, mark_place, mark_with, marks_of, provided_in}
use Rattle.inputs_law.proofs.GivenValues.{renewed_values, sends_of}
use Rattle.inputs_law.proofs.PlacesShut.{IsShutAs}

-- ---- what is done to the inputs of a relation

-- IOPS and IOCS follow the places.
abbrev pub restate_all : PlugState → Provided → Provided
restate_all plugs now =
    let marks = restated_marks plugs now.marks in
    record { shown = stated (stated_of plugs marks) now.shown; marks = marks }

pub restate_is : (plugs : PlugState) (flow : Flow) → provided_in (restated_flow plugs flow) ≡ restate_all plugs (provided_in flow)
restate_is plugs flow = refl

-- The input of an affected place is zeros.
abbrev blanked_at : Affected → Image → Mark → Image
blanked_at affected shown mark =
    if covers affected mark.place.slot mark.place.subslot then blanked mark.place.slot mark.place.subslot shown else shown

-- Those of affected places begin again.
abbrev pub renew : Affected → Bool → Provided → Provided
renew affected begin_bad now =
    let marks = renewed_marks affected begin_bad now.marks in
    record { shown = fold (blanked_at affected) now.shown marks; marks = marks }

abbrev pub renew_if : Option Affected → Bool → Provided → Provided
renew_if None begin_bad now = now
renew_if (Some affected) begin_bad now = renew affected begin_bad now

cleared_shown : (affected : Affected) (marks : List Mark) (cyclic : Cyclic) → (all_cleared affected marks cyclic).shown ≡ fold (blanked_at affected) cyclic.shown marks
cleared_shown affected [] cyclic = refl
cleared_shown affected (mark ∷ marks) cyclic =
    cleared_shown affected marks (cleared_at affected cyclic mark)
    ∙ ap (λ (shown : Image). fold (blanked_at affected) shown marks) (by_test (covers affected mark.place.slot mark.place.subslot))
  where
    by_test : (b : Bool)
        → (if b then record cyclic { shown = blanked mark.place.slot mark.place.subslot cyclic.shown } else cyclic).shown
        ≡ (if b then blanked mark.place.slot mark.place.subslot cyclic.shown else cyclic.shown)
    by_test true = refl
    by_test false = refl

pub renew_is : (affected : Affected) (begin_bad : Bool) (flow : Flow) → provided_in (renewed affected begin_bad flow) ≡ renew affected begin_bad (provided_in flow)
renew_is affected begin_bad flow =
    ap (λ (shown : Image). let p : Provided = record { shown = shown; marks = renewed_marks affected begin_bad flow.marks } in p)
    (cleared_shown affected (renewed_marks affected begin_bad flow.marks) flow.cyclic)

-- ---- the statuses that are left

module _ (affected : Affected) (slot subslot : ℕ) where
  abbrev gone : InputStatus → Bool
  gone status = covers affected status.slot status.subslot

  abbrev bad : InputStatus → Bool
  bad status = is_for slot subslot status && not status.is_good

  for_gone : (status : InputStatus) → is_for slot subslot status ≡ true → gone status ≡ covers affected slot subslot
  for_gone status is =
      let both = and_parts (status.slot == slot) (status.subslot == subslot) is in
      ap (λ (n : ℕ). covers affected n status.subslot) (eqb-true status.slot slot both.0)
      ∙ ap (λ (n : ℕ). covers affected slot n) (eqb-true status.subslot subslot both.1)

  left_bad : (statuses : List InputStatus) → is_bad slot subslot (remaining_statuses affected statuses) ≡ cond (covers affected slot subslot) false (is_bad slot subslot statuses)
  left_bad [] = by_test (covers affected slot subslot)
    where
      by_test : (b : Bool) → false ≡ cond b false false
      by_test true = refl
      by_test false = refl
  left_bad (status ∷ statuses) = by_gone (gone status) (is_for slot subslot status) refl refl (left_bad statuses)
    where
      kept_one : (covered : Bool) → covers affected slot subslot ≡ covered → covered ≡ false → (one : Bool) (left rest : Bool) → left ≡ cond covered false rest
          → (one || left) ≡ cond covered false (one || rest)
      kept_one true e none one left rest is = absurd (true≢false none)
      kept_one false e none one left rest is = ap (λ (b : Bool). one || b) is

      by_gone : (g f : Bool) → gone status ≡ g → is_for slot subslot status ≡ f
          → is_bad slot subslot (remaining_statuses affected statuses) ≡ cond (covers affected slot subslot) false (is_bad slot subslot statuses)
          → is_bad slot subslot (if not g then status ∷ remaining_statuses affected statuses else remaining_statuses affected statuses)
          ≡ cond (covers affected slot subslot) false (is_bad slot subslot (status ∷ statuses))
      by_gone true true g f rest =
          let covered : covers affected slot subslot ≡ true = sym (for_gone status f) ∙ g in
          rest ∙ (ap (λ (b : Bool). cond b false (is_bad slot subslot statuses)) covered
          ∙ sym (ap (λ (b : Bool). cond b false (is_bad slot subslot (status ∷ statuses))) covered))
      by_gone true false g f rest =
          rest ∙ ap (λ (b : Bool). cond (covers affected slot subslot) false ((b && not status.is_good) || is_bad slot subslot statuses)) (sym f)
      by_gone false true g f rest =
          kept_one (covers affected slot subslot) refl (sym (for_gone status f) ∙ g) (bad status) (is_bad slot subslot (remaining_statuses affected statuses)) (is_bad slot subslot statuses) rest
      by_gone false false g f rest =
          ap (λ (b : Bool). (b && not status.is_good) || is_bad slot subslot (remaining_statuses affected statuses)) f
          ∙ (rest ∙ ap (λ (b : Bool). cond (covers affected slot subslot) false ((b && not status.is_good) || is_bad slot subslot statuses)) (sym f))

-- ---- the cells

module _ (affected : Affected) where
  abbrev blank_one : Cell → Mark → Cell
  blank_one cell mark =
      if covers affected mark.place.slot mark.place.subslot then changed_in Data mark.place.slot mark.place.subslot cleared_cell cell else cell

  abbrev blank_all : List Mark → Cell → Cell
  blank_all marks cell = fold blank_one cell marks

  map_both : (f g : Cell → Cell) (cells : List Cell) → map g (map f cells) ≡ map (λ (c : Cell). g (f c)) cells
  map_both f g [] = refl
  map_both f g (cell ∷ cells) = ap (λ (cs : List Cell). g (f cell) ∷ cs) (map_both f g cells)

  map_same : (f : Cell → Cell) → ((c : Cell) → f c ≡ c) → (cells : List Cell) → map f cells ≡ cells
  map_same f same [] = refl
  map_same f same (cell ∷ cells) = ap (λ (c : Cell). c ∷ map f cells) (same cell) ∙ ap (λ (cs : List Cell). cell ∷ cs) (map_same f same cells)

  abbrev with_cells : ℕ → List Cell → Image
  with_cells many cells = record { data_length = many; cells = cells }

  blanked_cells : (marks : List Mark) (many : ℕ) (cells : List Cell) → fold (blanked_at affected) (with_cells many cells) marks ≡ with_cells many (map (blank_all marks) cells)
  blanked_cells [] many cells = ap (with_cells many) (sym (map_same (blank_all []) (λ c. refl) cells))
  blanked_cells (mark ∷ marks) many cells =
      ap (λ (shown : Image). fold (blanked_at affected) shown marks) (by_test (covers affected mark.place.slot mark.place.subslot))
      ∙ (blanked_cells marks many (map (λ (c : Cell). blank_one c mark) cells)
      ∙ ap (with_cells many) (map_both (λ (c : Cell). blank_one c mark) (blank_all marks) cells))
    where
      by_test : (b : Bool) → (if b then blanked mark.place.slot mark.place.subslot (with_cells many cells) else with_cells many cells)
          ≡ with_cells many (map (λ (c : Cell). if b then changed_in Data mark.place.slot mark.place.subslot cleared_cell c else c) cells)
      by_test true = refl
      by_test false = ap (with_cells many) (sym (map_same (λ (c : Cell). c) (λ c. refl) cells))

  -- a cell that is cleared, or not, if its place is one of data
  abbrev cleared_if : Bool → Cell → Cell
  cleared_if b cell = if b then cleared_cell cell else cell

  -- zeros stay
  blank_cleared : (marks : List Mark) (cell : Cell) → blank_all marks (cleared_cell cell) ≡ cleared_cell cell
  blank_cleared [] cell = refl
  blank_cleared (mark ∷ marks) cell =
      ap (blank_all marks) (by_test (covers affected mark.place.slot mark.place.subslot) (is_of Data mark.place.slot mark.place.subslot cell.place))
      ∙ blank_cleared marks cell
    where
      by_test : (b c : Bool) → (if b then (if c then cleared_cell (cleared_cell cell) else cleared_cell cell) else cleared_cell cell) ≡ cleared_cell cell
      by_test true true = refl
      by_test true false = refl
      by_test false c = refl

  -- a place that is not affected, or that has no data, keeps its cell
  blank_none : (marks : List Mark) (cell : Cell)
      → ((slot subslot : ℕ) → covers affected slot subslot ≡ true → is_of Data slot subslot cell.place ≡ true → ⊥) → blank_all marks cell ≡ cell
  blank_none [] cell none = refl
  blank_none (mark ∷ marks) cell none =
      ap (blank_all marks) (by_test (covers affected mark.place.slot mark.place.subslot) (is_of Data mark.place.slot mark.place.subslot cell.place) refl refl)
      ∙ blank_none marks cell none
    where
      by_test : (b c : Bool) → covers affected mark.place.slot mark.place.subslot ≡ b → is_of Data mark.place.slot mark.place.subslot cell.place ≡ c
          → (if b then (if c then cleared_cell cell else cell) else cell) ≡ cell
      by_test true true e f = absurd (none mark.place.slot mark.place.subslot e f)
      by_test true false e f = refl
      by_test false c e f = refl

  -- an affected place of data, among those of the marks, has zeros
  blank_here : (places : List Place) (mark_at : Place → Mark) → ((place : Place) → (mark_at place).place ≡ place)
      → AllByRecursion (λ (place : Place). (cell : Cell) → cell.place ≡ place → is_of Data place.slot place.subslot place ≡ true → covers affected place.slot place.subslot ≡ true
      → blank_all (map mark_at places) cell ≡ cleared_cell cell) places
  blank_here [] mark_at at = tt
  blank_here (place ∷ places) mark_at at = (here, each_so places (blank_here places mark_at at))
    where
      marks : List Mark
      marks = map mark_at places

      here : (cell : Cell) → cell.place ≡ place → is_of Data place.slot place.subslot place ≡ true → covers affected place.slot place.subslot ≡ true
          → blank_all (mark_at place ∷ marks) cell ≡ cleared_cell cell
      here cell same own covered =
          ap (λ (p : Place). blank_all marks (if covers affected p.slot p.subslot then changed_in Data p.slot p.subslot cleared_cell cell else cell)) (at place)
          ∙ (ap (λ (b : Bool). blank_all marks (if b then changed_in Data place.slot place.subslot cleared_cell cell else cell)) covered
          ∙ (ap (λ (b : Bool). blank_all marks (if b then cleared_cell cell else cell)) (ap (λ (p : Place). is_of Data place.slot place.subslot p) same ∙ own)
          ∙ blank_cleared marks cell))

      further : (cell : Cell) (b c : Bool) → blank_all marks cell ≡ cleared_cell cell
          → blank_all marks (if b then (if c then cleared_cell cell else cell) else cell) ≡ cleared_cell cell
      further cell true true is = blank_cleared marks cell
      further cell true false is = is
      further cell false c is = is

      each_so : (some : List Place) → AllByRecursion (λ (other : Place). (cell : Cell) → cell.place ≡ other → is_of Data other.slot other.subslot other ≡ true → covers affected other.slot other.subslot ≡ true
          → blank_all marks cell ≡ cleared_cell cell) some
          → AllByRecursion (λ (other : Place). (cell : Cell) → cell.place ≡ other → is_of Data other.slot other.subslot other ≡ true → covers affected other.slot other.subslot ≡ true
          → blank_all (mark_at place ∷ marks) cell ≡ cleared_cell cell) some
      each_so [] all = tt
      each_so (other ∷ some) all = (
        λ cell same own covered. further cell (covers affected (mark_at place).place.slot (mark_at place).place.subslot)
            (is_of Data (mark_at place).place.slot (mark_at place).place.subslot cell.place) (all.0 cell same own covered),
        each_so some all.1,
      )

-- ---- IOPS and IOCS

module _ (plugs : PlugState) (begin_bad : Bool) (others : Place → Bool) (values : Values) (places : List Place) where
  abbrev marks_now : List Mark
  marks_now = marks_of plugs begin_bad others values places

  abbrev statuses_now : StatusOf
  statuses_now = stated_of plugs marks_now

  -- a cell with the value that was given has the status of its mark
  abbrev HasValueOf : (Place → Cell) → Place → Type 0
  HasValueOf pre place = (pre place ≡ (let c : Cell = record { place = place; value = (cell_with plugs begin_bad others values place).value; status = (pre place).status } in c))

  stated_kind : (kind : PlaceKind) (place : Place) (status : ℕ) → place.kind ≡ kind → (place.kind ≡ Data → place_at Data place.slot place.subslot places ≡ Some place)
      → (let c : Cell = record { place = place; value = (cell_of_kind plugs begin_bad others kind place (values.given place) status).value; status = statuses_now kind place.slot place.subslot } in c)
      ≡ cell_of_kind plugs begin_bad others kind place (values.given place) (iops_by (mark_with plugs begin_bad others values place))
  stated_kind Data place status is own =
      ap (λ (m : Option Mark). let c : Cell = record { place = place; value = value_or_zeros place (values.given place); status = iops_of m } in c)
      (mark_found plugs begin_bad others place.slot place.subslot (mark_with plugs begin_bad others values) (mark_place plugs begin_bad others values) places
      ∙ ap (option_map (mark_with plugs begin_bad others values)) (own is))
  stated_kind Iocs place status is own = refl

  value_kind : (kind : PlaceKind) (place : Place) (given : Option (List ℕ)) (one other : ℕ)
      → (cell_of_kind plugs begin_bad others kind place given one).value ≡ (cell_of_kind plugs begin_bad others kind place given other).value
  value_kind Data place given one other = refl
  value_kind Iocs place given one other = refl

  stated_at : (pre : Place → Cell) (place : Place) → HasValueOf pre place → (place.kind ≡ Data → place_at Data place.slot place.subslot places ≡ Some place)
      → stated_cell statuses_now (pre place) ≡ cell_with plugs begin_bad others values place
  stated_at pre place has own =
      ap (λ (c : Cell). stated_cell statuses_now c) has ∙ stated_kind place.kind place (iops_by (mark_with plugs begin_bad others values place)) refl own

  pub stated_all : (pre : Place → Cell) (some : List Place) → AllByRecursion (HasValueOf pre) some
      → AllByRecursion (λ (place : Place). place.kind ≡ Data → place_at Data place.slot place.subslot places ≡ Some place) some
      → map (stated_cell statuses_now) (map pre some) ≡ cells_of plugs begin_bad others values some
  stated_all pre [] has own = refl
  stated_all pre (place ∷ some) has own =
      ap (λ (c : Cell). c ∷ map (stated_cell statuses_now) (map pre some)) (stated_at pre place has.0 own.0)
      ∙ ap (λ (cs : List Cell). cell_with plugs begin_bad others values place ∷ cs) (stated_all pre some has.1 own.1)

-- ---- what is sent then

module _ (begin_bad : Bool) (many : ℕ) (places : List Place) (own : AllByRecursion (λ (place : Place). place.kind ≡ Data → place_at Data place.slot place.subslot places ≡ Some place) places) where
  abbrev sends : PlugState → (Place → Bool) → Values → Provided
  sends plugs others values = sends_of plugs begin_bad many places others values

  -- marks of places without data, after something was pulled or plugged
  abbrev pub left_others : Option Affected → (Place → Bool) → Place → Bool
  left_others None others place = others place
  left_others (Some affected) others place = if covers affected place.slot place.subslot then false else others place

  map_marks : (f : Mark → Mark) (g h : Place → Mark) → ((place : Place) → f (g place) ≡ h place) → (some : List Place) → map f (map g some) ≡ map h some
  map_marks f g h same [] = refl
  map_marks f g h same (place ∷ some) = ap (λ (m : Mark). m ∷ map f (map g some)) (same place) ∙ ap (λ (ms : List Mark). h place ∷ ms) (map_marks f g h same some)

  restated_one : (plugs next : PlugState) (others : Place → Bool) (kind : PlaceKind) (place : Place) (given : Option (List ℕ)) (is : Bool)
      → restated_mark next (mark_of_kind plugs begin_bad others kind place given is) ≡ mark_of_kind next begin_bad others kind place given is
  restated_one plugs next others Data place given is = refl
  restated_one plugs next others Iocs place given is = refl

  -- ---- the controller releases a place, or refuses its plug

  restated_marks_are : (plugs next : PlugState) (others : Place → Bool) (values : Values)
      → restated_marks next (marks_of plugs begin_bad others values places) ≡ marks_of next begin_bad others values places
  restated_marks_are plugs next others values =
      map_marks (restated_mark next) (mark_with plugs begin_bad others values) (mark_with next begin_bad others values)
      (λ place. restated_one plugs next others place.kind place (values.given place) (is_bad place.slot place.subslot values.statuses)) places

  same_value : (plugs next : PlugState) (others : Place → Bool) (values : Values) (kind : PlaceKind) (place : Place) (one other : ℕ)
      → cell_of_kind plugs begin_bad others kind place (values.given place) one
      ≡ (let c : Cell = record {
        place = place;
        value = (cell_of_kind next begin_bad others kind place (values.given place) other).value;
        status = (cell_of_kind plugs begin_bad others kind place (values.given place) one).status;
      } in c)
  same_value plugs next others values Data place one other = refl
  same_value plugs next others values Iocs place one other = refl

  pub restated_sends : (plugs next : PlugState) (others : Place → Bool) (values : Values) → restate_all next (sends plugs others values) ≡ sends next others values
  restated_sends plugs next others values =
      ap (λ (ms : List Mark). let p : Provided = record { shown = stated (stated_of next ms) (sends plugs others values).shown; marks = ms } in p)
      (restated_marks_are plugs next others values)
      ∙ ap (λ (cs : List Cell). let p : Provided = record { shown = record { data_length = many; cells = cs }; marks = marks_of next begin_bad others values places } in p)
      (stated_all next begin_bad others values places (cell_with plugs begin_bad others values) places (each_is places) own)
    where
      each_is : (some : List Place) → AllByRecursion (HasValueOf next begin_bad others values places (cell_with plugs begin_bad others values)) some
      each_is [] = tt
      each_is (place ∷ some) = (
        same_value plugs next others values place.kind place (iops_by (mark_with plugs begin_bad others values place)) (iops_by (mark_with next begin_bad others values place)),
        each_is some,
      )

  -- ---- something is pulled or plugged

  module _ (affected : Affected) (plugs next : PlugState) (others : Place → Bool) (values : Values) where
    abbrev later : Values
    later = renewed_values (Some affected) values

    abbrev left : Place → Bool
    left place = left_others (Some affected) others place

    renewed_kind : (kind : PlaceKind) (place : Place) (given : Option (List ℕ)) (covered is after : Bool) → after ≡ cond covered false is
        → (if covered then record (mark_of_kind plugs begin_bad others kind place given is) { is_awaited = begin_bad && nat_lt 1 place.size; is_bad = false }
        else mark_of_kind plugs begin_bad others kind place given is)
        ≡ mark_of_kind plugs begin_bad (λ (p : Place). if covered then false else others p) kind place (if covered then None else given) after
    renewed_kind Data place given true is after e =
        ap (λ (b : Bool). let m : Mark = record {
          place = place;
          differs = differs_at place.slot place.subslot plugs;
          is_touched = is_touched_at place.slot place.subslot plugs;
          is_awaited = begin_bad && nat_lt 1 place.size;
          is_bad = b;
        } in m) (sym e)
    renewed_kind Data place given false is after e =
        ap (λ (b : Bool). let m : Mark = record {
          place = place;
          differs = differs_at place.slot place.subslot plugs;
          is_touched = is_touched_at place.slot place.subslot plugs;
          is_awaited = is_none given && (begin_bad && nat_lt 1 place.size);
          is_bad = b;
        } in m) (sym e)
    renewed_kind Iocs place given true is after e = refl
    renewed_kind Iocs place given false is after e = refl

    others_kind : (kind : PlaceKind) (place : Place) (one other : Place → Bool) (given : Option (List ℕ)) (is : Bool) → one place ≡ other place
        → mark_of_kind plugs begin_bad one kind place given is ≡ mark_of_kind plugs begin_bad other kind place given is
    others_kind Data place one other given is e = refl
    others_kind Iocs place one other given is e =
        ap (λ (b : Bool). let m : Mark = record {
          place = place;
          differs = differs_at place.slot place.subslot plugs;
          is_touched = is_touched_at place.slot place.subslot plugs;
          is_awaited = begin_bad && nat_lt 1 place.size;
          is_bad = b;
        } in m) e

    renewed_at : (kind : PlaceKind) (place : Place) (given : Option (List ℕ)) (is : Bool) → (m : Mark) → m ≡ mark_of_kind plugs begin_bad others kind place given is → m.place ≡ place → m.place.size ≡ place.size
        → renewed_mark affected begin_bad m
        ≡ (if covers affected place.slot place.subslot then record m { is_awaited = begin_bad && nat_lt 1 place.size; is_bad = false } else m)
    renewed_at kind place given is m same at size =
        ap (λ (p : Place). if covers affected p.slot p.subslot then record m { is_awaited = begin_bad && nat_lt 1 p.size; is_bad = false } else m) at

    renewed_one : (place : Place) → renewed_mark affected begin_bad (mark_with plugs begin_bad others values place) ≡ mark_with plugs begin_bad left later place
    renewed_one place =
        let kind = place.kind in
        let given = values.given place in
        let is = is_bad place.slot place.subslot values.statuses in
        let after = is_bad place.slot place.subslot later.statuses in
        let covered = covers affected place.slot place.subslot in
        let at = mark_place plugs begin_bad others values place in
        renewed_at kind place given is (mark_with plugs begin_bad others values place) refl at (ap (λ (p : Place). p.size) at)
        ∙ (renewed_kind kind place given covered is after (left_bad affected place.slot place.subslot values.statuses)
        ∙ others_kind kind place (λ (p : Place). if covered then false else others p) left (if covered then None else given) after refl)

    renewed_are : renewed_marks affected begin_bad (marks_of plugs begin_bad others values places) ≡ marks_of plugs begin_bad left later places
    renewed_are = map_marks (renewed_mark affected begin_bad) (mark_with plugs begin_bad others values) (mark_with plugs begin_bad left later) renewed_one places

    abbrev blank : Place → Cell
    blank place = blank_all affected (marks_of plugs begin_bad left later places) (cell_with plugs begin_bad others values place)

    -- the value at one place
    abbrev HasBlank : Place → Type 0
    HasBlank place = HasValueOf next begin_bad left later places blank place

    cell_at_place : (kind : PlaceKind) (place : Place) (given : Option (List ℕ)) (iops : ℕ) → (cell_of_kind plugs begin_bad others kind place given iops).place ≡ place
    cell_at_place Data place given iops = refl
    cell_at_place Iocs place given iops = refl

    -- not affected
    keeps : (kind : PlaceKind) (place : Place) (given now : Option (List ℕ)) (one other : ℕ) (cell : Cell) → cell ≡ cell_of_kind plugs begin_bad others kind place given one → now ≡ given
        → cell ≡ (let c : Cell = record { place = place; value = (cell_of_kind next begin_bad left kind place now other).value; status = cell.status } in c)
    keeps Data place given now one other cell is same =
        is ∙ (ap (λ (g : Option (List ℕ)). let c : Cell = record { place = place; value = value_or_zeros place g; status = one } in c) (sym same)
        ∙ ap (λ (x : Cell). let c : Cell = record { place = place; value = value_or_zeros place now; status = x.status } in c) (sym is))
    keeps Iocs place given now one other cell is same =
        is ∙ ap (λ (x : Cell). let c : Cell = record { place = place; value = zeros_at place; status = x.status } in c) (sym is)

    -- affected data
    clears : (kind : PlaceKind) (place : Place) (given now : Option (List ℕ)) (one other : ℕ) (cell : Cell) → cell ≡ cleared_cell (cell_of_kind plugs begin_bad others kind place given one) → now ≡ None
        → cell ≡ (let c : Cell = record { place = place; value = (cell_of_kind next begin_bad left kind place now other).value; status = cell.status } in c)
    clears Data place given now one other cell is none =
        is ∙ (ap (λ (g : Option (List ℕ)). let c : Cell = record { place = place; value = value_or_zeros place g; status = one } in c) (sym none)
        ∙ ap (λ (x : Cell). let c : Cell = record { place = place; value = value_or_zeros place now; status = x.status } in c) (sym is))
    clears Iocs place given now one other cell is none =
        is ∙ ap (λ (x : Cell). let c : Cell = record { place = place; value = zeros_at place; status = x.status } in c) (sym is)

    same_covers : (place : Place) (slot subslot : ℕ) → is_of Data slot subslot place ≡ true → covers affected slot subslot ≡ covers affected place.slot place.subslot
    same_covers place slot subslot is =
        let parts = and_parts (is_same_kind Data place.kind) ((place.slot == slot) && (place.subslot == subslot)) is in
        let both = and_parts (place.slot == slot) (place.subslot == subslot) parts.1 in
        ap (λ (n : ℕ). covers affected n subslot) (sym (eqb-true place.slot slot both.0)) ∙ ap (λ (n : ℕ). covers affected place.slot n) (sym (eqb-true place.subslot subslot both.1))

    no_data : (place : Place) → is_same_kind Data place.kind ≡ false → (slot subslot : ℕ) → is_of Data slot subslot place ≡ true → ⊥
    no_data place other slot subslot is =
        let parts = and_parts (is_same_kind Data place.kind) ((place.slot == slot) && (place.subslot == subslot)) is in
        true≢false (sym parts.0 ∙ other)

    blank_value : (place : Place)
        → ((cell : Cell) → cell.place ≡ place → is_of Data place.slot place.subslot place ≡ true → covers affected place.slot place.subslot ≡ true
        → blank_all affected (marks_of plugs begin_bad left later places) cell ≡ cleared_cell cell) → HasBlank place
    blank_value place here = by_covered (covers affected place.slot place.subslot) (is_of Data place.slot place.subslot place) refl refl
      where
        given : Option (List ℕ)
        given = values.given place

        iops : ℕ
        iops = iops_by (mark_with plugs begin_bad others values place)

        iops_later : ℕ
        iops_later = iops_by (mark_with next begin_bad left later place)

        at : (cell_with plugs begin_bad others values place).place ≡ place
        at = cell_at_place place.kind place given iops

        now_is : (b : Bool) → covers affected place.slot place.subslot ≡ b → later.given place ≡ (if b then None else given)
        now_is b e = ap (λ (c : Bool). if c then None else given) e

        by_covered : (b c : Bool) → covers affected place.slot place.subslot ≡ b → is_of Data place.slot place.subslot place ≡ c → HasBlank place
        by_covered true true e f =
            clears place.kind place given (later.given place) iops iops_later (blank place) (here (cell_with plugs begin_bad others values place) at f e) (now_is true e)
        by_covered true false e f = zeros_too place.kind place given (later.given place) iops iops_later (blank place) (stays f) f
          where
            stays : (other : is_of Data place.slot place.subslot place ≡ false) → blank place ≡ cell_with plugs begin_bad others values place
            stays other =
                blank_none affected (marks_of plugs begin_bad left later places) (cell_with plugs begin_bad others values place)
                (λ slot subslot covered is. elsewhere slot subslot (ap (λ (p : Place). is_of Data slot subslot p) (sym at) ∙ is))
              where
                itself : (slot subslot : ℕ) → is_of Data slot subslot place ≡ true → is_of Data place.slot place.subslot place ≡ true
                itself slot subslot is =
                    let parts = and_parts (is_same_kind Data place.kind) ((place.slot == slot) && (place.subslot == subslot)) is in
                    let both = and_parts (place.slot == slot) (place.subslot == subslot) parts.1 in
                    ap (λ (n : ℕ). is_of Data n place.subslot place) (eqb-true place.slot slot both.0)
                    ∙ (ap (λ (n : ℕ). is_of Data slot n place) (eqb-true place.subslot subslot both.1) ∙ is)

                elsewhere : (slot subslot : ℕ) → is_of Data slot subslot place ≡ true → ⊥
                elsewhere slot subslot is = true≢false (sym (itself slot subslot is) ∙ other)

            zeros_too : (kind : PlaceKind) (one : Place) (g now : Option (List ℕ)) (n m : ℕ) (cell : Cell) → cell ≡ cell_of_kind plugs begin_bad others kind one g n
                → (is_same_kind Data kind && ((one.slot == one.slot) && (one.subslot == one.subslot))) ≡ false
                → cell ≡ (let c : Cell = record { place = one; value = (cell_of_kind next begin_bad left kind one now m).value; status = cell.status } in c)
            zeros_too Data one g now n m cell is none = absurd (own_place one.slot one.subslot none)
              where
                own_place : (a b : ℕ) → ((a == a) && (b == b)) ≡ false → ⊥
                own_place a b e = true≢false (sym (both_true (a == a) (b == b) (same_number a) (same_number b)) ∙ e)
                  where
                    both_true : (x y : Bool) → x ≡ true → y ≡ true → (x && y) ≡ true
                    both_true true true e f = refl
                    both_true true false e f = absurd cc
                    both_true false y e f = absurd cc

                    same_number : (n : ℕ) → (n == n) ≡ true
                    same_number n = eq-eqb n n refl
            zeros_too Iocs one g now n m cell is none = keeps Iocs one g g n m cell is refl
        by_covered false c e f =
            keeps place.kind place given (later.given place) iops iops_later (blank place)
            (blank_none affected (marks_of plugs begin_bad left later places) (cell_with plugs begin_bad others values place)
            (λ slot subslot covered is. true≢false (sym (sym (same_covers place slot subslot (ap (λ (p : Place). is_of Data slot subslot p) (sym at) ∙ is)) ∙ covered) ∙ e)))
            (now_is false e)

    blank_values : (some : List Place) → AllByRecursion (λ (place : Place). (cell : Cell) → cell.place ≡ place → is_of Data place.slot place.subslot place ≡ true → covers affected place.slot place.subslot ≡ true
        → blank_all affected (marks_of plugs begin_bad left later places) cell ≡ cleared_cell cell) some → AllByRecursion HasBlank some
    blank_values [] all = tt
    blank_values (place ∷ some) all = (blank_value place all.0, blank_values some all.1)

    map_pre : (f : Cell → Cell) (g : Place → Cell) (some : List Place) → map f (map g some) ≡ map (λ (place : Place). f (g place)) some
    map_pre f g [] = refl
    map_pre f g (place ∷ some) = ap (λ (cs : List Cell). f (g place) ∷ cs) (map_pre f g some)

    pub changed_sends : restate_all next (renew affected begin_bad (sends plugs others values)) ≡ sends next left later
    changed_sends =
        ap (λ (ms : List Mark). restate_all next (let p : Provided = record { shown = fold (blanked_at affected) (sends plugs others values).shown ms; marks = ms } in p)) renewed_are
        ∙ (ap (λ (shown : Image). restate_all next (let p : Provided = record { shown = shown; marks = marks_of plugs begin_bad left later places } in p))
        (blanked_cells affected (marks_of plugs begin_bad left later places) many (cells_of plugs begin_bad others values places)
        ∙ ap (with_cells affected many) (map_pre (blank_all affected (marks_of plugs begin_bad left later places)) (cell_with plugs begin_bad others values) places))
        ∙ (ap (λ (ms : List Mark). let p : Provided = record { shown = stated (stated_of next ms) (with_cells affected many (map blank places)); marks = ms } in p)
        (restated_marks_are plugs next left later)
        ∙ ap (λ (cs : List Cell). let p : Provided = record { shown = record { data_length = many; cells = cs }; marks = marks_of next begin_bad left later places } in p)
        (stated_all next begin_bad left later places blank places
        (blank_values places (blank_here affected places (mark_with plugs begin_bad left later) (mark_place plugs begin_bad left later))) own)))

  -- ---- nothing of it

  mark_kind : (plugs next : PlugState) (others : Place → Bool) (kind : PlaceKind) (place : Place) (given : Option (List ℕ)) (is : Bool)
      → differs_at place.slot place.subslot next ≡ differs_at place.slot place.subslot plugs → is_touched_at place.slot place.subslot next ≡ is_touched_at place.slot place.subslot plugs
      → mark_of_kind plugs begin_bad others kind place given is ≡ mark_of_kind next begin_bad others kind place given is
  mark_kind plugs next others kind place given is differs touched =
      as_kind kind ∙ (ap (λ (b : Bool). by_kind kind b (is_touched_at place.slot place.subslot plugs)) (sym differs)
      ∙ (ap (λ (b : Bool). by_kind kind (differs_at place.slot place.subslot next) b) (sym touched) ∙ sym (as_next kind)))
    where
      by_kind : PlaceKind → Bool → Bool → Mark
      by_kind Data d t = record { place = place; differs = d; is_touched = t; is_awaited = is_none given && (begin_bad && nat_lt 1 place.size); is_bad = is }
      by_kind Iocs d t = record { place = place; differs = d; is_touched = t; is_awaited = begin_bad && nat_lt 1 place.size; is_bad = others place }

      as_kind : (k : PlaceKind) → mark_of_kind plugs begin_bad others k place given is ≡ by_kind k (differs_at place.slot place.subslot plugs) (is_touched_at place.slot place.subslot plugs)
      as_kind Data = refl
      as_kind Iocs = refl

      as_next : (k : PlaceKind) → mark_of_kind next begin_bad others k place given is ≡ by_kind k (differs_at place.slot place.subslot next) (is_touched_at place.slot place.subslot next)
      as_next Data = refl
      as_next Iocs = refl

  cell_kind : (plugs next : PlugState) (others : Place → Bool) (kind : PlaceKind) (place : Place) (given : Option (List ℕ)) (iops : ℕ)
      → is_shut next place.slot place.subslot ≡ is_shut plugs place.slot place.subslot
      → cell_of_kind plugs begin_bad others kind place given iops ≡ cell_of_kind next begin_bad others kind place given iops
  cell_kind plugs next others Data place given iops same = refl
  cell_kind plugs next others Iocs place given iops same =
      ap (λ (b : Bool). let c : Cell = record { place = place; value = zeros_at place; status = if b then 0 else good } in c) (sym same)

  pub shut_sends : (plugs next : PlugState) (others : Place → Bool) (values : Values) → IsShutAs plugs next → sends plugs others values ≡ sends next others values
  shut_sends plugs next others values shut =
      let mark_is : (place : Place) → mark_with plugs begin_bad others values place ≡ mark_with next begin_bad others values place = λ place.
      mark_kind plugs next others place.kind place (values.given place) (is_bad place.slot place.subslot values.statuses) (shut.differs place.slot place.subslot) (shut.touched place.slot place.subslot) in
      let closed_is : (place : Place) → is_shut next place.slot place.subslot ≡ is_shut plugs place.slot place.subslot = λ place.
      ap (λ (b : Bool). b || is_touched_at place.slot place.subslot next) (shut.differs place.slot place.subslot)
      ∙ ap (λ (b : Bool). differs_at place.slot place.subslot plugs || b) (shut.touched place.slot place.subslot) in
      let cell_is : (place : Place) → cell_with plugs begin_bad others values place ≡ cell_with next begin_bad others values place = λ place.
      cell_kind plugs next others place.kind place (values.given place) (iops_by (mark_with plugs begin_bad others values place)) (closed_is place)
      ∙ ap (λ (m : Mark). cell_of_kind next begin_bad others place.kind place (values.given place) (iops_by m)) (mark_is place) in
      ap (λ (cs : List Cell). let p : Provided = record { shown = record { data_length = many; cells = cs }; marks = marks_of plugs begin_bad others values places } in p)
      (all_same (cell_with plugs begin_bad others values) (cell_with next begin_bad others values) places (each_is (λ place. cell_with plugs begin_bad others values place ≡ cell_with next begin_bad others values place) cell_is places))
      ∙ ap (λ (ms : List Mark). let p : Provided = record { shown = record { data_length = many; cells = cells_of next begin_bad others values places }; marks = ms } in p)
      (all_same (mark_with plugs begin_bad others values) (mark_with next begin_bad others values) places (each_is (λ place. mark_with plugs begin_bad others values place ≡ mark_with next begin_bad others values place) mark_is places))
    where
      each_is : (P : Place → Type 0) → ((place : Place) → P place) → (ps : List Place) → AllByRecursion P ps
      each_is P is [] = tt
      each_is P is (place ∷ ps) = (is place, each_is P is ps)
