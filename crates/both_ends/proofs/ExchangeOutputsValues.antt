-- A controller sends the values that were set, and a device shows the values that the controller sent.
use Rattle.std.proofs.Common.{◌≡◌, ◌==◌, ◌&&◌, ◌+◌, ◌-◌, ◌≤◌, ℕ, Bool, true, false, cond, List, [], ◌∷◌, length, map, replicate, Option, Some, None, refl, sym, ap, ◌∙◌, arith}
use Rattle.std.specs.Prelude.{not, option_map}
use Rattle.std.specs.List.{AllByRecursion}
use Rattle.std.proofs.lemmas.Bool.{false≢true}
use Rattle.std.proofs.lemmas.List.{length-replicate}
use Rattle.cyclic_data.specs.declared.place.Place.{Place}
use Rattle.cyclic_data.specs.declared.place.PlaceKind.{PlaceKind}
use Rattle.cyclic_data.specs.declared.place.PlaceKind.TheVariants.{Data, Iocs}
use Rattle.cyclic_data.specs.Layout.{is_of, is_same_kind, times_listed}
use Rattle.cyclic_data.specs.Image.{Cell, cell_at, output_of, place_at, zero_cell}
use Rattle.cyclic_data.specs.exchange.Opening.{first_cell}
use Rattle.relations.specs.Exchanged.{shown_as}
use Rattle.controller_core.specs.declared.stored.outputs.OutputMark.{OutputMark}
use Rattle.controller_core.specs.stored.Opening.{first_status}
use Rattle.controller_core.specs.stored.Outputs.{change_by, first_mark, mark_at, marked}
use Rattle.both_ends.specs.exchange.Given.{cell_of_kind, if_good, output_at, value_or_zeros, zeros_at}

-- ---- cells and marks of values that were set, and of what the application says

-- what was set at each place, and whether the application says that it is good
pub record Values : Type 0 where
  pub given : Place → Option (List ℕ)
  pub rated : Place → Bool

abbrev pub cell_with : Values → Place → Cell
cell_with values place = cell_of_kind place.kind place (values.given place) (values.rated place)

abbrev pub cells_of : Values → List Place → List Cell
cells_of values places = map (cell_with values) places

-- the marks: an IOCS keeps its first one
abbrev pub awaited_as : PlaceKind → Option (List ℕ) → Bool
awaited_as Data (Some value) = false
awaited_as Data None = true
awaited_as Iocs given = true

abbrev pub bad_as : PlaceKind → Bool → Bool
bad_as Data is_good = not is_good
bad_as Iocs is_good = false

abbrev pub mark_of_kind : PlaceKind → Place → Option (List ℕ) → Bool → OutputMark
mark_of_kind kind place given is_good = record { place = place; is_awaited = awaited_as kind given; is_bad = bad_as kind is_good }

abbrev pub mark_with : Values → Place → OutputMark
mark_with values place = mark_of_kind place.kind place (values.given place) (values.rated place)

abbrev pub marks_of : Values → List Place → List OutputMark
marks_of values places = map (mark_with values) places

-- a cell lies at its place
output_place : (place : Place) (given : Option (List ℕ)) (is_good : Bool) → (output_at place given is_good).place ≡ place
output_place place (Some value) is_good = refl
output_place place None is_good = refl

kind_place : (kind : PlaceKind) (place : Place) (given : Option (List ℕ)) (is_good : Bool) → (cell_of_kind kind place given is_good).place ≡ place
kind_place Data place given is_good = output_place place given is_good
kind_place Iocs place given is_good = refl

pub cell_place : (values : Values) (place : Place) → (cell_with values place).place ≡ place
cell_place values place = kind_place place.kind place (values.given place) (values.rated place)

pub places_are : (values : Values) (places : List Place) → map (λ (cell : Cell). cell.place) (cells_of values places) ≡ places
places_are values [] = refl
places_are values (place ∷ places) =
    ap (λ (p : Place). p ∷ map (λ (cell : Cell). cell.place) (cells_of values places)) (cell_place values place) ∙ ap (λ (ps : List Place). place ∷ ps) (places_are values places)

-- ---- what is shown of the cells

zeros_shown : (place : Place) → replicate (length (zeros_at place)) 0 ≡ zeros_at place
zeros_shown place = ap (λ (n : ℕ). replicate n 0) (length-replicate {A = ℕ} (place.size - 1) 0)

-- zeros are zeros of a touched place too
pub touched_zeros : (is_touched : Bool) (found : Option Place) → option_map (shown_as is_touched) (option_map zeros_at found) ≡ option_map zeros_at found
touched_zeros true (Some place) = ap (λ (v : List ℕ). Some v) (zeros_shown place)
touched_zeros true None = refl
touched_zeros false (Some place) = refl
touched_zeros false None = refl

-- the zeros of a value that is bad are as many as its octets
abbrev pub IsLong : Place → Option (List ℕ) → Type 0
IsLong place None = Unit {0}
IsLong place (Some value) = length value ≡ place.size - 1

value_shown : (kind : PlaceKind) (place : Place) (given : Option (List ℕ)) (is_good at : Bool) → IsLong place given → (is_same_kind Data kind && at) ≡ true
    → output_of (cell_of_kind kind place given is_good) ≡ value_or_zeros place (if_good is_good given)
value_shown Data place (Some value) true at long e = refl
value_shown Data place (Some value) false at long e = ap (λ (n : ℕ). replicate n 0) long
value_shown Data place None true at long e = zeros_shown place
value_shown Data place None false at long e = zeros_shown place
value_shown Iocs place given is_good at long e = absurd cc

module _ (slot subslot : ℕ) where
  -- each output of cells with these values, and with zeros
  pub outputs_shown : (values : Values) (places : List Place) → AllByRecursion (λ place. IsLong place (values.given place)) places
      → option_map output_of (cell_at Data slot subslot (cells_of values places))
      ≡ option_map (λ place. value_or_zeros place (if_good (values.rated place) (values.given place))) (place_at Data slot subslot places)
  outputs_shown values [] long = refl
  outputs_shown values (place ∷ places) long =
      ap (λ (p : Place). option_map output_of (cond (is_of Data slot subslot p) (Some (cell_with values place)) (cell_at Data slot subslot (cells_of values places)))) (cell_place values place)
      ∙ by_test (is_of Data slot subslot place) refl (outputs_shown values places long.1)
    where
      by_test : (b : Bool) → is_of Data slot subslot place ≡ b
          → option_map output_of (cell_at Data slot subslot (cells_of values places))
          ≡ option_map (λ place. value_or_zeros place (if_good (values.rated place) (values.given place))) (place_at Data slot subslot places)
          → option_map output_of (cond b (Some (cell_with values place)) (cell_at Data slot subslot (cells_of values places)))
          ≡ option_map (λ place. value_or_zeros place (if_good (values.rated place) (values.given place))) (cond b (Some place) (place_at Data slot subslot places))
      by_test true e rest =
          ap (λ (v : List ℕ). Some v) (value_shown place.kind place (values.given place) (values.rated place) ((place.slot == slot) && (place.subslot == subslot)) long.0 e)
      by_test false e rest = rest

  pub zeros_are_shown : (places : List Place) → option_map output_of (cell_at Data slot subslot (map zero_cell places)) ≡ option_map zeros_at (place_at Data slot subslot places)
  zeros_are_shown [] = refl
  zeros_are_shown (place ∷ places) = by_test (is_of Data slot subslot place) (zeros_are_shown places)
    where
      by_test : (b : Bool) → option_map output_of (cell_at Data slot subslot (map zero_cell places)) ≡ option_map zeros_at (place_at Data slot subslot places)
          → option_map output_of (cond b (Some (zero_cell place)) (cell_at Data slot subslot (map zero_cell places)))
          ≡ option_map zeros_at (cond b (Some place) (place_at Data slot subslot places))
      by_test true rest = ap (λ (v : List ℕ). Some v) (zeros_shown place)
      by_test false rest = rest

-- ---- the start

abbrev none_set : Values
none_set = record { given = λ place. None; rated = λ place. true }

first_is : (kind : PlaceKind) (place : Place) → place.kind ≡ kind → first_cell first_status place ≡ cell_of_kind kind place None true
first_is Data place is = ap (λ (k : PlaceKind). let c : Cell = record { place = place; value = replicate (place.size - 1) 0; status = first_status k place.slot place.subslot } in c) is
first_is Iocs place is = ap (λ (k : PlaceKind). let c : Cell = record { place = place; value = replicate (place.size - 1) 0; status = first_status k place.slot place.subslot } in c) is

pub first_cells : (places : List Place) → map (first_cell first_status) places ≡ cells_of none_set places
first_cells [] = refl
first_cells (place ∷ places) =
    ap (λ (c : Cell). c ∷ map (first_cell first_status) places) (first_is place.kind place refl) ∙ ap (λ (cs : List Cell). cell_with none_set place ∷ cs) (first_cells places)

mark_first : (kind : PlaceKind) (place : Place) → first_mark place ≡ mark_of_kind kind place None true
mark_first Data place = refl
mark_first Iocs place = refl

pub first_marks : (places : List Place) → map first_mark places ≡ marks_of none_set places
first_marks [] = refl
first_marks (place ∷ places) =
    ap (λ (m : OutputMark). m ∷ map first_mark places) (mark_first place.kind place) ∙ ap (λ (ms : List OutputMark). mark_with none_set place ∷ ms) (first_marks places)

-- ---- the place of an output

no_more : (n : ℕ) → 1 + n ≡ 0 → ⊥
no_more n e = omega (arith, e)

zero_more : (n : ℕ) → 0 + n ≡ 0 → n ≡ 0
zero_more n e = omega (arith, e)

one_more : (n : ℕ) → 0 + n ≤ 1 → n ≤ 1
one_more n few = omega (arith, few)

two_more : (n : ℕ) → 1 + n ≤ 1 → n ≡ 0
two_more n few = omega (arith, few)

pub both_cases : (b : Bool) → b ≡ false → b ≡ true → ⊥
both_cases b off on = false≢true (sym off ∙ on)

module _ (slot subslot : ℕ) where
  abbrev pub is_there : Place → Bool
  is_there place = is_of Data slot subslot place

  -- the place of the output, if there is one, is the only one
  abbrev IsOnly : Option Place → Place → Type 0
  IsOnly found place = is_there place ≡ true → found ≡ Some place

  none_there : (places : List Place) → times_listed Data slot subslot places ≡ 0 → (found : Option Place) → AllByRecursion (IsOnly found) places
  none_there [] none found = tt
  none_there (place ∷ places) none found = by_test (is_there place) refl none (λ few. none_there places few found)
    where
      by_test : (b : Bool) → is_there place ≡ b → cond b 1 0 + times_listed Data slot subslot places ≡ 0
          → (times_listed Data slot subslot places ≡ 0 → AllByRecursion (IsOnly found) places) → AllByRecursion (IsOnly found) (place ∷ places)
      by_test true e many rest = absurd (no_more (times_listed Data slot subslot places) many)
      by_test false e few rest = (λ t. absurd (both_cases (is_there place) e t), rest (zero_more (times_listed Data slot subslot places) few))

  pub only_one : (places : List Place) → times_listed Data slot subslot places ≤ 1 → AllByRecursion (IsOnly (place_at Data slot subslot places)) places
  only_one [] once = tt
  only_one (place ∷ places) once = by_test (is_there place) refl once (λ few. only_one places few)
    where
      by_test : (b : Bool) → is_there place ≡ b → cond b 1 0 + times_listed Data slot subslot places ≤ 1
          → (times_listed Data slot subslot places ≤ 1 → AllByRecursion (IsOnly (place_at Data slot subslot places)) places)
          → AllByRecursion (IsOnly (cond b (Some place) (place_at Data slot subslot places))) (place ∷ places)
      by_test true e few rest = (λ t. refl, none_there places (two_more (times_listed Data slot subslot places) few) (Some place))
      by_test false e few rest = (λ t. absurd (both_cases (is_there place) e t), rest (one_more (times_listed Data slot subslot places) few))

  -- its cell, and its mark
  pub cell_found : (values : Values) (places : List Place) → cell_at Data slot subslot (cells_of values places) ≡ option_map (cell_with values) (place_at Data slot subslot places)
  cell_found values [] = refl
  cell_found values (place ∷ places) =
      ap (λ (p : Place). cond (is_there p) (Some (cell_with values place)) (cell_at Data slot subslot (cells_of values places))) (cell_place values place)
      ∙ by_test (is_there place) (cell_found values places)
    where
      by_test : (b : Bool) → cell_at Data slot subslot (cells_of values places) ≡ option_map (cell_with values) (place_at Data slot subslot places)
          → cond b (Some (cell_with values place)) (cell_at Data slot subslot (cells_of values places)) ≡ option_map (cell_with values) (cond b (Some place) (place_at Data slot subslot places))
      by_test true rest = refl
      by_test false rest = rest

  pub mark_found : (values : Values) (places : List Place) → mark_at slot subslot (marks_of values places) ≡ option_map (mark_with values) (place_at Data slot subslot places)
  mark_found values [] = refl
  mark_found values (place ∷ places) = by_test (is_there place) (mark_found values places)
    where
      by_test : (b : Bool) → mark_at slot subslot (marks_of values places) ≡ option_map (mark_with values) (place_at Data slot subslot places)
          → cond b (Some (mark_with values place)) (mark_at slot subslot (marks_of values places)) ≡ option_map (mark_with values) (cond b (Some place) (place_at Data slot subslot places))
      by_test true rest = refl
      by_test false rest = rest

  -- a mark that changes is still that of its place
  change_place : (status : Option Bool) (mark : OutputMark) → (change_by status mark).place ≡ mark.place
  change_place None mark = refl
  change_place (Some is_good) mark = refl

  pub marked_found : (status : Option Bool) (marks : List OutputMark) → mark_at slot subslot (marked slot subslot (change_by status) marks) ≡ option_map (change_by status) (mark_at slot subslot marks)
  marked_found status [] = refl
  marked_found status (mark ∷ marks) = by_test (is_there mark.place) refl (marked_found status marks)
    where
      by_test : (b : Bool) → is_there mark.place ≡ b → mark_at slot subslot (marked slot subslot (change_by status) marks) ≡ option_map (change_by status) (mark_at slot subslot marks)
          → mark_at slot subslot (cond b (change_by status mark) mark ∷ marked slot subslot (change_by status) marks)
          ≡ option_map (change_by status) (cond b (Some mark) (mark_at slot subslot marks))
      by_test true e rest =
          ap (λ (is : Bool). cond is (Some (change_by status mark)) (mark_at slot subslot (marked slot subslot (change_by status) marks))) (ap is_there (change_place status mark) ∙ e)
      by_test false e rest = ap (λ (is : Bool). cond is (Some mark) (mark_at slot subslot (marked slot subslot (change_by status) marks))) e ∙ rest
