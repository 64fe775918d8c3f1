-- An output is set, or its status: the cells and the marks after it.
use Rattle.std.proofs.Common.{◌≡◌, ◌==◌, ◌&&◌, ◌+◌, ◌≤◌, ℕ, Bool, true, false, cond, List, [], ◌∷◌, length, map, Option, Some, None, refl, sym, ap, subst, ◌∙◌}
use Rattle.std.specs.Prelude.{option_map}
use Rattle.std.specs.List.{AllByRecursion}
use Rattle.cyclic_data.specs.declared.place.Place.{Place}
use Rattle.cyclic_data.specs.declared.place.PlaceKind.{PlaceKind}
use Rattle.cyclic_data.specs.declared.place.PlaceKind.TheVariants.{Data, Iocs}
use Rattle.cyclic_data.specs.Layout.{is_same_kind, times_listed}
use Rattle.cyclic_data.specs.Image.{Cell, cell_at, changed_in, has_size, place_at, with_status}
use Rattle.controller_core.specs.declared.stored.outputs.OutputMark.{OutputMark}
use Rattle.controller_core.specs.Machine.{with_output}
use Rattle.controller_core.specs.stored.Outputs.{awaits, change_by, iops_by, iops_of, is_awaited_in, mark_at, marked}
use Rattle.both_ends.specs.exchange.Given.{cell_of_kind}
use Rattle.both_ends.proofs.ExchangeOutputsValues.{Values, awaited_as, cell_found, cell_place, cell_with, cells_of, is_there, mark_found, mark_of_kind, mark_with, marked_found, marks_of, only_one}

-- ---- at one place

module _ (slot subslot : ℕ) (values : Values) where
  abbrev at_place : Place → Bool
  at_place place = (place.slot == slot) && (place.subslot == subslot)

  -- a change of an output leaves the cells of other places
  unchanged : (change : Cell → Cell) (place : Place) → is_there slot subslot place ≡ false → changed_in Data slot subslot change (cell_with values place) ≡ cell_with values place
  unchanged change place e =
      ap (λ (b : Bool). cond b (change (cell_with values place)) (cell_with values place)) (ap (λ (p : Place). is_there slot subslot p) (cell_place values place) ∙ e)

  changed_to : (change : Cell → Cell) (place : Place) → is_there slot subslot place ≡ true → changed_in Data slot subslot change (cell_with values place) ≡ change (cell_with values place)
  changed_to change place e =
      ap (λ (b : Bool). cond b (change (cell_with values place)) (cell_with values place)) (ap (λ (p : Place). is_there slot subslot p) (cell_place values place) ∙ e)

  -- the only place of the output
  same_place : (found place : Place) → (is_there slot subslot place ≡ true → Some found ≡ Some place) → is_there slot subslot place ≡ true → found ≡ place
  same_place found place only t = same found place (only t)
    where
      same : (one other : Place) → Some one ≡ Some other → one ≡ other
      same one other e = cc

  found_there : (places : List Place) (found : Place) → place_at Data slot subslot places ≡ Some found → is_there slot subslot found ≡ true
  found_there [] found e = absurd cc
  found_there (place ∷ places) found e = by_test (is_there slot subslot place) refl e (λ rest. found_there places found rest)
    where
      same : (one other : Place) → Some one ≡ Some other → one ≡ other
      same one other same_one = cc

      by_test : (b : Bool) → is_there slot subslot place ≡ b → cond b (Some place) (place_at Data slot subslot places) ≡ Some found
          → (place_at Data slot subslot places ≡ Some found → is_there slot subslot found ≡ true) → is_there slot subslot found ≡ true
      by_test true t here behind = ap (λ (p : Place). is_there slot subslot p) (sym (same place found here)) ∙ t
      by_test false t rest behind = behind rest

-- ---- a value

-- the values after one is set
abbrev pub now_given : ℕ → ℕ → List ℕ → (Place → Option (List ℕ)) → Place → Option (List ℕ)
now_given slot subslot value given place =
    cond (((place.slot == slot) && (place.subslot == subslot)) && (place.size == length value + 1)) (Some value) (given place)

abbrev pub with_given : ℕ → ℕ → List ℕ → Values → Values
with_given slot subslot value values = record { given = now_given slot subslot value values.given; rated = values.rated }

module _ (slot subslot : ℕ) (value : List ℕ) where
  -- another place
  other_cell : (kind : PlaceKind) (place : Place) (given : Option (List ℕ)) (is_good at fits : Bool) → (is_same_kind Data kind && at) ≡ false
      → cell_of_kind kind place given is_good ≡ cell_of_kind kind place (cond (at && fits) (Some value) given) is_good
  other_cell Data place given is_good true fits e = absurd cc
  other_cell Data place given is_good false fits e = refl
  other_cell Iocs place given is_good at fits e = refl

  other_mark : (kind : PlaceKind) (place : Place) (given : Option (List ℕ)) (is_good at fits : Bool) → (is_same_kind Data kind && at) ≡ false
      → mark_of_kind kind place given is_good ≡ mark_of_kind kind place (cond (at && fits) (Some value) given) is_good
  other_mark Data place given is_good true fits e = absurd cc
  other_mark Data place given is_good false fits e = refl
  other_mark Iocs place given is_good at fits e = refl

  -- this place, if the value has another length
  unfit : (given : Option (List ℕ)) (at : Bool) → given ≡ cond (at && false) (Some value) given
  unfit given true = refl
  unfit given false = refl

  -- this place: the IOPS of the first value is by the mark, that of another is kept
  this_cell : (kind : PlaceKind) (place : Place) (given : Option (List ℕ)) (is_good at : Bool) → (is_same_kind Data kind && at) ≡ true
      → with_output (awaited_as kind given) (iops_by (change_by None (mark_of_kind kind place given is_good))) value (cell_of_kind kind place given is_good)
      ≡ cell_of_kind kind place (cond (at && true) (Some value) given) is_good
  this_cell Data place (Some last) true true e = refl
  this_cell Data place (Some last) false true e = refl
  this_cell Data place None true true e = refl
  this_cell Data place None false true e = refl
  this_cell Data place given is_good false e = absurd cc
  this_cell Iocs place given is_good at e = absurd cc

  first_mark : (kind : PlaceKind) (place : Place) (given : Option (List ℕ)) (is_good at : Bool) → (is_same_kind Data kind && at) ≡ true
      → change_by None (mark_of_kind kind place given is_good) ≡ mark_of_kind kind place (cond (at && true) (Some value) given) is_good
  first_mark Data place given is_good true e = refl
  first_mark Data place given is_good false e = absurd cc
  first_mark Iocs place given is_good at e = absurd cc

  kept_mark : (kind : PlaceKind) (place : Place) (given : Option (List ℕ)) (is_good at : Bool) → (is_same_kind Data kind && at) ≡ true → awaited_as kind given ≡ false
      → mark_of_kind kind place given is_good ≡ mark_of_kind kind place (cond (at && true) (Some value) given) is_good
  kept_mark Data place (Some last) is_good true e kept = refl
  kept_mark Data place None is_good true e kept = absurd cc
  kept_mark Data place given is_good false e kept = absurd cc
  kept_mark Iocs place given is_good at e kept = absurd cc

  module _ (values : Values) where
    abbrev later : Values
    later = with_given slot subslot value values

    abbrev fits : Place → Bool
    fits place = place.size == length value + 1

    cell_other : (place : Place) → is_there slot subslot place ≡ false → cell_with values place ≡ cell_with later place
    cell_other place e = other_cell place.kind place (values.given place) (values.rated place) (at_place slot subslot values place) (fits place) e

    mark_other : (place : Place) → is_there slot subslot place ≡ false → mark_with values place ≡ mark_with later place
    mark_other place e = other_mark place.kind place (values.given place) (values.rated place) (at_place slot subslot values place) (fits place) e

    given_unfit : (place : Place) → fits place ≡ false → values.given place ≡ later.given place
    given_unfit place e =
        unfit (values.given place) (at_place slot subslot values place) ∙ ap (λ (b : Bool). cond (at_place slot subslot values place && b) (Some value) (values.given place)) (sym e)

    -- what holds of the place of the output holds of each place
    abbrev IsSame : Place → Type 0
    IsSame place = (cell_with values place ≡ cell_with later place) × (mark_with values place ≡ mark_with later place)

    same_by : (found place : Place) → fits found ≡ false → (is_there slot subslot place ≡ true → Some found ≡ Some place) → IsSame place
    same_by found place e only = by_test (is_there slot subslot place) refl
      where
        by_test : (b : Bool) → is_there slot subslot place ≡ b → IsSame place
        by_test true t =
            let none = given_unfit place (ap fits (sym (same_place slot subslot values found place only t)) ∙ e) in (
              ap (λ (g : Option (List ℕ)). cell_of_kind place.kind place g (values.rated place)) none,
              ap (λ (g : Option (List ℕ)). mark_of_kind place.kind place g (values.rated place)) none,
            )
        by_test false t = (cell_other place t, mark_other place t)

    same_none : (place : Place) → (is_there slot subslot place ≡ true → None ≡ Some place) → IsSame place
    same_none place only = by_test (is_there slot subslot place) refl
      where
        by_test : (b : Bool) → is_there slot subslot place ≡ b → IsSame place
        by_test true t = absurd (no_place (only t))
          where
            no_place : None ≡ Some place → ⊥
            no_place e = cc
        by_test false t = (cell_other place t, mark_other place t)

    cells_same : (places : List Place) → AllByRecursion IsSame places → cells_of values places ≡ cells_of later places
    cells_same [] all = refl
    cells_same (place ∷ places) all =
        ap (λ (c : Cell). c ∷ cells_of values places) all.0.0 ∙ ap (λ (cs : List Cell). cell_with later place ∷ cs) (cells_same places all.1)

    marks_same : (places : List Place) → AllByRecursion (λ place. mark_with values place ≡ mark_with later place) places → marks_of values places ≡ marks_of later places
    marks_same [] all = refl
    marks_same (place ∷ places) all =
        ap (λ (m : OutputMark). m ∷ marks_of values places) all.0 ∙ ap (λ (ms : List OutputMark). mark_with later place ∷ ms) (marks_same places all.1)

    -- the cells after a value of the right length: by the mark of the place of the output
    abbrev change_at : Place → Cell → Cell
    change_at found cell = with_output (awaited_as found.kind (values.given found)) (iops_by (change_by None (mark_with values found))) value cell

    cell_this : (place : Place) → fits place ≡ true → is_there slot subslot place ≡ true → change_at place (cell_with values place) ≡ cell_with later place
    cell_this place fit t =
        this_cell place.kind place (values.given place) (values.rated place) (at_place slot subslot values place) t
        ∙ ap (λ (b : Bool). cell_of_kind place.kind place (cond (at_place slot subslot values place && b) (Some value) (values.given place)) (values.rated place)) (sym fit)

    cell_set : (found place : Place) → fits found ≡ true → (is_there slot subslot place ≡ true → Some found ≡ Some place)
        → changed_in Data slot subslot (change_at found) (cell_with values place) ≡ cell_with later place
    cell_set found place fit only = by_test (is_there slot subslot place) refl
      where
        by_test : (b : Bool) → is_there slot subslot place ≡ b → changed_in Data slot subslot (change_at found) (cell_with values place) ≡ cell_with later place
        by_test true t =
            let same = same_place slot subslot values found place only t in
            changed_to slot subslot values (change_at found) place t
            ∙ (ap (λ (p : Place). change_at p (cell_with values place)) same ∙ cell_this place (ap fits (sym same) ∙ fit) t)
        by_test false t = unchanged slot subslot values (change_at found) place t ∙ cell_other place t

    mark_set : (found place : Place) → fits found ≡ true → (is_there slot subslot place ≡ true → Some found ≡ Some place)
        → cond (is_there slot subslot place) (change_by None (mark_with values place)) (mark_with values place) ≡ mark_with later place
    mark_set found place fit only = by_test (is_there slot subslot place) refl
      where
        by_test : (b : Bool) → is_there slot subslot place ≡ b
            → cond (is_there slot subslot place) (change_by None (mark_with values place)) (mark_with values place) ≡ mark_with later place
        by_test true t =
            let same = same_place slot subslot values found place only t in
            ap (λ (b : Bool). cond b (change_by None (mark_with values place)) (mark_with values place)) t
            ∙ (first_mark place.kind place (values.given place) (values.rated place) (at_place slot subslot values place) t
            ∙ ap (λ (b : Bool). mark_of_kind place.kind place (cond (at_place slot subslot values place && b) (Some value) (values.given place)) (values.rated place)) (sym (ap fits (sym same) ∙ fit)))
        by_test false t = ap (λ (b : Bool). cond b (change_by None (mark_with values place)) (mark_with values place)) t ∙ mark_other place t

    mark_kept : (found place : Place) → fits found ≡ true → awaited_as found.kind (values.given found) ≡ false → (is_there slot subslot place ≡ true → Some found ≡ Some place)
        → mark_with values place ≡ mark_with later place
    mark_kept found place fit kept only = by_test (is_there slot subslot place) refl
      where
        by_test : (b : Bool) → is_there slot subslot place ≡ b → mark_with values place ≡ mark_with later place
        by_test true t =
            let same = same_place slot subslot values found place only t in
            kept_mark place.kind place (values.given place) (values.rated place) (at_place slot subslot values place) t (ap (λ (p : Place). awaited_as p.kind (values.given p)) (sym same) ∙ kept)
            ∙ ap (λ (b : Bool). mark_of_kind place.kind place (cond (at_place slot subslot values place && b) (Some value) (values.given place)) (values.rated place)) (sym (ap fits (sym same) ∙ fit))
        by_test false t = mark_other place t

    -- for each place
    module _ (P Q : Place → Type 0) (step : (place : Place) → P place → Q place) where
      each : (places : List Place) → AllByRecursion P places → AllByRecursion Q places
      each [] all = tt
      each (place ∷ places) all = (step place all.0, each places all.1)

    cells_set : (found : Place) → fits found ≡ true → (places : List Place) → AllByRecursion (λ place. is_there slot subslot place ≡ true → Some found ≡ Some place) places
        → map (changed_in Data slot subslot (change_at found)) (cells_of values places) ≡ cells_of later places
    cells_set found fit [] all = refl
    cells_set found fit (place ∷ places) all =
        ap (λ (c : Cell). c ∷ map (changed_in Data slot subslot (change_at found)) (cells_of values places)) (cell_set found place fit all.0)
        ∙ ap (λ (cs : List Cell). cell_with later place ∷ cs) (cells_set found fit places all.1)

    marks_set : (found : Place) → fits found ≡ true → (places : List Place) → AllByRecursion (λ place. is_there slot subslot place ≡ true → Some found ≡ Some place) places
        → marked slot subslot (change_by None) (marks_of values places) ≡ marks_of later places
    marks_set found fit [] all = refl
    marks_set found fit (place ∷ places) all =
        ap (λ (m : OutputMark). m ∷ marked slot subslot (change_by None) (marks_of values places)) (mark_set found place fit all.0)
        ∙ ap (λ (ms : List OutputMark). mark_with later place ∷ ms) (marks_set found fit places all.1)

    -- ---- the cells and the marks that the machine has after it

    abbrev cells_after : Bool → Bool → ℕ → List Place → List Cell
    cells_after fit is_first iops places =
        cond fit (map (changed_in Data slot subslot (with_output is_first iops value)) (cells_of values places)) (cells_of values places)

    abbrev marks_after : Bool → Bool → List Place → List OutputMark
    marks_after fit is_first places = cond (fit && is_first) (marked slot subslot (change_by None) (marks_of values places)) (marks_of values places)

    module _ (places : List Place) (once : times_listed Data slot subslot places ≤ 1) where
      abbrev has_size_at : Bool
      has_size_at = has_size (length value) (cell_at Data slot subslot (cells_of values places))

      abbrev is_first_at : Bool
      is_first_at = awaits slot subslot (marks_of values places)

      abbrev iops_at : ℕ
      iops_at = iops_of (mark_at slot subslot (marked slot subslot (change_by None) (marks_of values places)))

      -- by the place of the output
      abbrev size_in : Option Place → Bool
      size_in found = has_size (length value) (option_map (cell_with values) found)

      abbrev first_in : Option Place → Bool
      first_in found = is_awaited_in (option_map (mark_with values) found)

      abbrev iops_in : Option Place → ℕ
      iops_in found = iops_of (option_map (change_by None) (option_map (mark_with values) found))

      size_is : (found : Option Place) → place_at Data slot subslot places ≡ found → has_size_at ≡ size_in found
      size_is found e = ap (has_size (length value)) (cell_found slot subslot values places ∙ ap (option_map (cell_with values)) e)

      first_is : (found : Option Place) → place_at Data slot subslot places ≡ found → is_first_at ≡ first_in found
      first_is found e = ap is_awaited_in (mark_found slot subslot values places ∙ ap (option_map (mark_with values)) e)

      iops_is : (found : Option Place) → place_at Data slot subslot places ≡ found → iops_at ≡ iops_in found
      iops_is found e =
          ap iops_of (marked_found slot subslot None (marks_of values places)
          ∙ ap (option_map (change_by None)) (mark_found slot subslot values places ∙ ap (option_map (mark_with values)) e))

      cells_by : (found : Option Place) → place_at Data slot subslot places ≡ found → cells_after has_size_at is_first_at iops_at places ≡ cells_after (size_in found) (first_in found) (iops_in found) places
      cells_by found e =
          ap (λ (b : Bool). cells_after b is_first_at iops_at places) (size_is found e)
          ∙ (ap (λ (b : Bool). cells_after (size_in found) b iops_at places) (first_is found e) ∙ ap (λ (n : ℕ). cells_after (size_in found) (first_in found) n places) (iops_is found e))

      marks_by : (found : Option Place) → place_at Data slot subslot places ≡ found → marks_after has_size_at is_first_at places ≡ marks_after (size_in found) (first_in found) places
      marks_by found e =
          ap (λ (b : Bool). marks_after b is_first_at places) (size_is found e) ∙ ap (λ (b : Bool). marks_after (size_in found) b places) (first_is found e)

      only_at : (found : Option Place) → place_at Data slot subslot places ≡ found → AllByRecursion (λ place. is_there slot subslot place ≡ true → found ≡ Some place) places
      only_at found e = subst (λ (f : Option Place). AllByRecursion (λ place. is_there slot subslot place ≡ true → f ≡ Some place) places) e (only_one slot subslot places once)

      -- the cells
      cells_fit : (found : Place) → place_at Data slot subslot places ≡ Some found → (fit : Bool) → fits found ≡ fit
          → cells_after fit (first_in (Some found)) (iops_in (Some found)) places ≡ cells_of later places
      cells_fit found e true f = cells_set found f places (only_at (Some found) e)
      cells_fit found e false f = cells_same places (each (λ place. is_there slot subslot place ≡ true → Some found ≡ Some place) IsSame (λ place only. same_by found place f only) places (only_at (Some found) e))

      cells_found : (found : Option Place) → place_at Data slot subslot places ≡ found → cells_after (size_in found) (first_in found) (iops_in found) places ≡ cells_of later places
      cells_found None e = cells_same places (each (λ place. is_there slot subslot place ≡ true → None ≡ Some place) IsSame (λ place only. same_none place only) places (only_at None e))
      cells_found (Some found) e =
          ap (λ (p : Place). cells_after (p.size == length value + 1) (first_in (Some found)) (iops_in (Some found)) places) (cell_place values found)
          ∙ cells_fit found e (fits found) refl

      pub cells_given : cells_after has_size_at is_first_at iops_at places ≡ cells_of later places
      cells_given =
          let found = place_at Data slot subslot places in
          cells_by found refl ∙ cells_found found refl

      -- the marks
      marks_fit : (found : Place) → place_at Data slot subslot places ≡ Some found → (fit is_first : Bool) → fits found ≡ fit → first_in (Some found) ≡ is_first
          → marks_after fit is_first places ≡ marks_of later places
      marks_fit found e true true f w = marks_set found f places (only_at (Some found) e)
      marks_fit found e true false f w =
          marks_same places (each (λ place. is_there slot subslot place ≡ true → Some found ≡ Some place) (λ place. mark_with values place ≡ mark_with later place) (λ place only. mark_kept found place f w only) places (only_at (Some found) e))
      marks_fit found e false is_first f w =
          marks_same places (each (λ place. is_there slot subslot place ≡ true → Some found ≡ Some place) (λ place. mark_with values place ≡ mark_with later place) (λ place only. (same_by found place f only).1) places (only_at (Some found) e))

      marks_found : (found : Option Place) → place_at Data slot subslot places ≡ found → marks_after (size_in found) (first_in found) places ≡ marks_of later places
      marks_found None e =
          marks_same places (each (λ place. is_there slot subslot place ≡ true → None ≡ Some place) (λ place. mark_with values place ≡ mark_with later place) (λ place only. (same_none place only).1) places (only_at None e))
      marks_found (Some found) e =
          ap (λ (p : Place). marks_after (p.size == length value + 1) (first_in (Some found)) places) (cell_place values found)
          ∙ marks_fit found e (fits found) (first_in (Some found)) refl refl

      pub marks_given : marks_after has_size_at is_first_at places ≡ marks_of later places
      marks_given =
          let found = place_at Data slot subslot places in
          marks_by found refl ∙ marks_found found refl

-- ---- a status

-- what the application says after a status
abbrev pub now_rated : ℕ → ℕ → Bool → (Place → Bool) → Place → Bool
now_rated slot subslot is_good rated place = cond ((place.slot == slot) && (place.subslot == subslot)) is_good (rated place)

abbrev pub with_rated : ℕ → ℕ → Bool → Values → Values
with_rated slot subslot is_good values = record { given = values.given; rated = now_rated slot subslot is_good values.rated }

module _ (slot subslot : ℕ) (is_good : Bool) where
  rated_cell : (kind : PlaceKind) (place : Place) (given : Option (List ℕ)) (before at : Bool) → (is_same_kind Data kind && at) ≡ true
      → with_status (iops_by (change_by (Some is_good) (mark_of_kind kind place given before))) (cell_of_kind kind place given before) ≡ cell_of_kind kind place given (cond at is_good before)
  rated_cell Data place (Some value) before true e = by_good is_good
    where
      by_good : (b : Bool) → with_status (iops_by (change_by (Some b) (mark_of_kind Data place (Some value) before))) (cell_of_kind Data place (Some value) before) ≡ cell_of_kind Data place (Some value) b
      by_good true = refl
      by_good false = refl
  rated_cell Data place None before true e = refl
  rated_cell Data place given before false e = absurd cc
  rated_cell Iocs place given before at e = absurd cc

  rated_mark : (kind : PlaceKind) (place : Place) (given : Option (List ℕ)) (before at : Bool) → (is_same_kind Data kind && at) ≡ true
      → change_by (Some is_good) (mark_of_kind kind place given before) ≡ mark_of_kind kind place given (cond at is_good before)
  rated_mark Data place given before true e = refl
  rated_mark Data place given before false e = absurd cc
  rated_mark Iocs place given before at e = absurd cc

  beside_cell : (kind : PlaceKind) (place : Place) (given : Option (List ℕ)) (before at : Bool) → (is_same_kind Data kind && at) ≡ false
      → cell_of_kind kind place given before ≡ cell_of_kind kind place given (cond at is_good before)
  beside_cell Data place given before true e = absurd cc
  beside_cell Data place given before false e = refl
  beside_cell Iocs place given before at e = refl

  beside_mark : (kind : PlaceKind) (place : Place) (given : Option (List ℕ)) (before at : Bool) → (is_same_kind Data kind && at) ≡ false
      → mark_of_kind kind place given before ≡ mark_of_kind kind place given (cond at is_good before)
  beside_mark Data place given before true e = absurd cc
  beside_mark Data place given before false e = refl
  beside_mark Iocs place given before at e = refl

  module _ (values : Values) where
    abbrev stated : Values
    stated = with_rated slot subslot is_good values

    -- the IOPS is that of the mark of the place of the output
    abbrev restated : Option Place → Cell → Cell
    restated found cell = with_status (iops_of (option_map (change_by (Some is_good)) (option_map (mark_with values) found))) cell

    cell_stated : (found : Option Place) (place : Place) → (is_there slot subslot place ≡ true → found ≡ Some place)
        → changed_in Data slot subslot (restated found) (cell_with values place) ≡ cell_with stated place
    cell_stated found place only = by_test (is_there slot subslot place) refl
      where
        by_test : (b : Bool) → is_there slot subslot place ≡ b
            → changed_in Data slot subslot (restated found) (cell_with values place) ≡ cell_with stated place
        by_test true t =
            changed_to slot subslot values (restated found) place t
            ∙ (ap (λ (f : Option Place). restated f (cell_with values place)) (only t)
            ∙ rated_cell place.kind place (values.given place) (values.rated place) (at_place slot subslot values place) t)
        by_test false t =
            unchanged slot subslot values (restated found) place t ∙ beside_cell place.kind place (values.given place) (values.rated place) (at_place slot subslot values place) t

    mark_stated : (place : Place) → cond (is_there slot subslot place) (change_by (Some is_good) (mark_with values place)) (mark_with values place) ≡ mark_with stated place
    mark_stated place = by_test (is_there slot subslot place) refl
      where
        by_test : (b : Bool) → is_there slot subslot place ≡ b → cond (is_there slot subslot place) (change_by (Some is_good) (mark_with values place)) (mark_with values place) ≡ mark_with stated place
        by_test true t =
            ap (λ (b : Bool). cond b (change_by (Some is_good) (mark_with values place)) (mark_with values place)) t
            ∙ rated_mark place.kind place (values.given place) (values.rated place) (at_place slot subslot values place) t
        by_test false t =
            ap (λ (b : Bool). cond b (change_by (Some is_good) (mark_with values place)) (mark_with values place)) t
            ∙ beside_mark place.kind place (values.given place) (values.rated place) (at_place slot subslot values place) t

    cells_stated : (found : Option Place) (places : List Place) → AllByRecursion (λ place. is_there slot subslot place ≡ true → found ≡ Some place) places
        → map (changed_in Data slot subslot (restated found)) (cells_of values places) ≡ cells_of stated places
    cells_stated found [] all = refl
    cells_stated found (place ∷ places) all =
        ap (λ (c : Cell). c ∷ map (changed_in Data slot subslot (restated found)) (cells_of values places))
        (cell_stated found place all.0)
        ∙ ap (λ (cs : List Cell). cell_with stated place ∷ cs) (cells_stated found places all.1)

    pub marks_rated : (places : List Place) → marked slot subslot (change_by (Some is_good)) (marks_of values places) ≡ marks_of stated places
    marks_rated [] = refl
    marks_rated (place ∷ places) =
        ap (λ (m : OutputMark). m ∷ marked slot subslot (change_by (Some is_good)) (marks_of values places)) (mark_stated place)
        ∙ ap (λ (ms : List OutputMark). mark_with stated place ∷ ms) (marks_rated places)

    pub cells_rated : (places : List Place) → times_listed Data slot subslot places ≤ 1
        → map (changed_in Data slot subslot (with_status (iops_of (mark_at slot subslot (marked slot subslot (change_by (Some is_good)) (marks_of values places)))))) (cells_of values places)
        ≡ cells_of stated places
    cells_rated places once =
        ap (λ (m : Option OutputMark). map (changed_in Data slot subslot (with_status (iops_of m))) (cells_of values places))
        (marked_found slot subslot (Some is_good) (marks_of values places) ∙ ap (option_map (change_by (Some is_good))) (mark_found slot subslot values places))
        ∙ cells_stated (place_at Data slot subslot places) places (only_one slot subslot places once)
