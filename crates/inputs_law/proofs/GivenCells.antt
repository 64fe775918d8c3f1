-- After inputs and statuses, the cells and the marks of a relation are those of what was given and said.
use Rattle.std.proofs.Common.{◌≡◌, ◌==◌, ◌&&◌, ◌+◌, ◌≤◌, ℕ, Bool, true, false, cond, List, [], ◌∷◌, length, map, Option, Some, None, refl, sym, ap, subst, ◌∙◌}
use Rattle.std.specs.Prelude.{is_none, nat_lt, option_map, unwrap_or, if◌then◌else◌}
use Rattle.std.specs.List.{AllByRecursion}
use Rattle.expected_places.specs.Machine.{PlugState, differs_at, is_touched_at}
use Rattle.cyclic_data.specs.declared.place.Place.{Place}
use Rattle.cyclic_data.specs.declared.place.PlaceKind.{PlaceKind}
use Rattle.cyclic_data.specs.declared.place.PlaceKind.TheVariants.{Data, Iocs}
use Rattle.cyclic_data.specs.Layout.{is_same_kind, times_listed}
use Rattle.cyclic_data.specs.Image.{Cell, Shown as Image, cell_at, changed, changed_in, good, has_size, place_at, with_status, with_value}
use Rattle.cyclic_data.specs.exchange.Cyclic.{Cyclic}
use Rattle.relations.specs.declared.exchange.marks.Mark.{Mark}
use Rattle.relations.specs.declared.exchange.statuses.InputStatus.{InputStatus}
use Rattle.relations.specs.exchange.Flow.{Flow}
use Rattle.relations.specs.exchange.Marks.{awaits, change_by, iops_by, iops_of, is_awaited_in, mark_at, marked}
use Rattle.relations.specs.exchange.Modules.{is_shut}
use Rattle.relations.specs.exchange.Process.{given_at, rated_at, remarked, with_cyclic, with_input}
use Rattle.relations.specs.exchange.Statuses.{is_bad}
use Rattle.both_ends.specs.exchange.Given.{value_or_zeros, zeros_at}
use Rattle.both_ends.proofs.ExchangeOutputsSet.{now_given}
use Rattle.both_ends.proofs.ExchangeOutputsValues.{is_there, only_one}

-- ---- what a relation sends of its inputs

-- the image that is sent, and why the IOPS of its inputs are not good
pub record Provided : Type 0 where
  pub shown : Image
  pub marks : List Mark

abbrev pub provided_in : Flow → Provided
provided_in flow = record { shown = flow.cyclic.shown; marks = flow.marks }

-- the IOPS of a submodule follows its mark
abbrev pub restate : ℕ → ℕ → Option Bool → Provided → Provided
restate slot subslot status now =
    let marks = marked slot subslot (change_by status) now.marks in
    record { shown = changed Data slot subslot (with_status (iops_of (mark_at slot subslot marks))) now.shown; marks = marks }

-- an input is given, by whether it has the right length and whether it is awaited
abbrev pub give_by : ℕ → ℕ → List ℕ → Bool → Bool → Provided → Provided
give_by slot subslot value fits is_first now =
    if fits
    then (if is_first
    then restate slot subslot None (record { shown = changed Data slot subslot (with_value value) now.shown; marks = now.marks })
    else record { shown = changed Data slot subslot (with_value value) now.shown; marks = now.marks })
    else now

abbrev pub give : ℕ → ℕ → List ℕ → Provided → Provided
give slot subslot value now =
    give_by slot subslot value (has_size (length value) (cell_at Data slot subslot now.shown.cells)) (awaits slot subslot now.marks) now

module _ (slot subslot : ℕ) (value : List ℕ) (flow : Flow) where
  abbrev cyclic_now : Cyclic
  cyclic_now = record flow.cyclic { shown = changed Data slot subslot (with_value value) flow.cyclic.shown }

  by_awaited : (b : Bool) → provided_in (if b then remarked (with_cyclic flow cyclic_now) slot subslot None else with_cyclic flow cyclic_now) ≡ give_by slot subslot value true b (provided_in flow)
  by_awaited true = refl
  by_awaited false = refl

  given_as : (b : Bool) → provided_in (unwrap_or (option_map (with_input flow slot subslot) (if b then Some cyclic_now else None)) flow) ≡ give_by slot subslot value b (awaits slot subslot flow.marks) (provided_in flow)
  given_as true = by_awaited (awaits slot subslot flow.marks)
  given_as false = refl

  pub give_is : provided_in (unwrap_or (given_at flow slot subslot value) flow) ≡ give slot subslot value (provided_in flow)
  give_is = given_as (has_size (length value) (cell_at Data slot subslot flow.cyclic.shown.cells))

pub rate_is : (slot subslot : ℕ) (is_good : Bool) (flow : Flow) → provided_in (rated_at flow slot subslot is_good) ≡ restate slot subslot (Some is_good) (provided_in flow)
rate_is slot subslot is_good flow = refl

-- ---- lists over places

module _ {A : Type 0} (place_of : A → Place) (slot subslot : ℕ) where
  abbrev turned_in : (A → A) → A → A
  turned_in change a = if is_there slot subslot (place_of a) then change a else a

  -- what becomes of the item of a place
  abbrev pub Becomes : (A → A) → (Place → A) → (Place → A) → Place → Type 0
  Becomes change f g place = cond (is_there slot subslot place) (change (f place)) (f place) ≡ g place

  pub becomes : (change : A → A) (f g : Place → A) (place : Place) → (is_there slot subslot place ≡ true → change (f place) ≡ g place) → (is_there slot subslot place ≡ false → f place ≡ g place)
      → Becomes change f g place
  becomes change f g place here other = by_test (is_there slot subslot place) refl
    where
      by_test : (b : Bool) → is_there slot subslot place ≡ b → cond b (change (f place)) (f place) ≡ g place
      by_test true e = here e
      by_test false e = other e

  pub all_turned : (change : A → A) (f g : Place → A) → ((place : Place) → place_of (f place) ≡ place) → (places : List Place) → AllByRecursion (Becomes change f g) places
      → map (turned_in change) (map f places) ≡ map g places
  all_turned change f g at [] all = refl
  all_turned change f g at (place ∷ places) all =
      ap (λ (a : A). a ∷ map (turned_in change) (map f places)) (ap (λ (p : Place). cond (is_there slot subslot p) (change (f place)) (f place)) (at place) ∙ all.0)
      ∙ ap (λ (items : List A). g place ∷ items) (all_turned change f g at places all.1)

pub all_same : {A : Type 0} (f g : Place → A) (places : List Place) → AllByRecursion (λ (place : Place). f place ≡ g place) places → map f places ≡ map g places
all_same f g [] all = refl
all_same {A} f g (place ∷ places) all = ap (λ (a : A). a ∷ map f places) all.0 ∙ ap (λ (items : List A). g place ∷ items) (all_same f g places all.1)

module _ (P Q : Place → Type 0) (step : (place : Place) → P place → Q place) where
  pub each : (places : List Place) → AllByRecursion P places → AllByRecursion Q places
  each [] all = tt
  each (place ∷ places) all = (step place all.0, each places all.1)

-- ---- what was given and said

-- the value that was given last at each place, and the statuses that the application gave
pub record Values : Type 0 where
  pub given : Place → Option (List ℕ)
  pub statuses : List InputStatus

-- the values after one is given
abbrev pub with_given : ℕ → ℕ → List ℕ → Values → Values
with_given slot subslot value values = record { given = now_given slot subslot value values.given; statuses = values.statuses }

-- the places of the relation, whether inputs begin bad, and the marks of places without data that are bad, which nothing is sent of
module _ (plugs : PlugState) (begin_bad : Bool) (others : Place → Bool) where
  abbrev pub mark_of_kind : PlaceKind → Place → Option (List ℕ) → Bool → Mark
  mark_of_kind Data place given bad =
      record {
        place = place;
        differs = differs_at place.slot place.subslot plugs;
        is_touched = is_touched_at place.slot place.subslot plugs;
        is_awaited = is_none given && (begin_bad && nat_lt 1 place.size);
        is_bad = bad;
      }
  mark_of_kind Iocs place given bad = record {
    place = place;
    differs = differs_at place.slot place.subslot plugs;
    is_touched = is_touched_at place.slot place.subslot plugs;
    is_awaited = begin_bad && nat_lt 1 place.size;
    is_bad = others place;
  }

  abbrev pub cell_of_kind : PlaceKind → Place → Option (List ℕ) → ℕ → Cell
  cell_of_kind Data place given iops = record { place = place; value = value_or_zeros place given; status = iops }
  cell_of_kind Iocs place given iops = record { place = place; value = zeros_at place; status = if is_shut plugs place.slot place.subslot then 0 else good }

  abbrev pub mark_with : Values → Place → Mark
  mark_with values place = mark_of_kind place.kind place (values.given place) (is_bad place.slot place.subslot values.statuses)

  abbrev pub cell_with : Values → Place → Cell
  cell_with values place = cell_of_kind place.kind place (values.given place) (iops_by (mark_with values place))

  abbrev pub cells_of : Values → List Place → List Cell
  cells_of values places = map (cell_with values) places

  abbrev pub marks_of : Values → List Place → List Mark
  marks_of values places = map (mark_with values) places

  -- each lies at its place
  pub kind_place : (kind : PlaceKind) (place : Place) (given : Option (List ℕ)) (iops : ℕ) → (cell_of_kind kind place given iops).place ≡ place
  kind_place Data place given iops = refl
  kind_place Iocs place given iops = refl

  pub cell_place : (values : Values) (place : Place) → (cell_with values place).place ≡ place
  cell_place values place = kind_place place.kind place (values.given place) (iops_by (mark_with values place))

  mark_place_as : (kind : PlaceKind) (place : Place) (given : Option (List ℕ)) (bad : Bool) → (mark_of_kind kind place given bad).place ≡ place
  mark_place_as Data place given bad = refl
  mark_place_as Iocs place given bad = refl

  pub mark_place : (values : Values) (place : Place) → (mark_with values place).place ≡ place
  mark_place values place = mark_place_as place.kind place (values.given place) (is_bad place.slot place.subslot values.statuses)

  module _ (slot subslot : ℕ) where
    -- its cell, and its mark
    pub cell_found : (f : Place → Cell) → ((place : Place) → (f place).place ≡ place) → (places : List Place)
        → cell_at Data slot subslot (map f places) ≡ option_map f (place_at Data slot subslot places)
    cell_found f at [] = refl
    cell_found f at (place ∷ places) =
        ap (λ (p : Place). cond (is_there slot subslot p) (Some (f place)) (cell_at Data slot subslot (map f places))) (at place) ∙ by_test (is_there slot subslot place) (cell_found f at places)
      where
        by_test : (b : Bool) → cell_at Data slot subslot (map f places) ≡ option_map f (place_at Data slot subslot places)
            → cond b (Some (f place)) (cell_at Data slot subslot (map f places)) ≡ option_map f (cond b (Some place) (place_at Data slot subslot places))
        by_test true rest = refl
        by_test false rest = rest

    pub mark_found : (f : Place → Mark) → ((place : Place) → (f place).place ≡ place) → (places : List Place)
        → mark_at slot subslot (map f places) ≡ option_map f (place_at Data slot subslot places)
    mark_found f at [] = refl
    mark_found f at (place ∷ places) =
        ap (λ (p : Place). cond (is_there slot subslot p) (Some (f place)) (mark_at slot subslot (map f places))) (at place) ∙ by_test (is_there slot subslot place) (mark_found f at places)
      where
        by_test : (b : Bool) → mark_at slot subslot (map f places) ≡ option_map f (place_at Data slot subslot places)
            → cond b (Some (f place)) (mark_at slot subslot (map f places)) ≡ option_map f (cond b (Some place) (place_at Data slot subslot places))
        by_test true rest = refl
        by_test false rest = rest

    same_some : (one other : Place) → Some one ≡ Some other → one ≡ other
    same_some one other e = cc

    no_place : (place : Place) → None ≡ Some place → ⊥
    no_place place e = cc

    abbrev IsOnly : Option Place → Place → Type 0
    IsOnly found place = is_there slot subslot place ≡ true → found ≡ Some place

    -- ---- a value

    module _ (value : List ℕ) (values : Values) where
      abbrev later : Values
      later = with_given slot subslot value values

      abbrev fits : Place → Bool
      fits place = place.size == length value + 1

      abbrev at_it : Place → Bool
      at_it place = (place.slot == slot) && (place.subslot == subslot)

      -- another place keeps its cell and its mark
      other_given : (kind : PlaceKind) (place : Place) (given : Option (List ℕ)) (bad at fit : Bool) → (is_same_kind Data kind && at) ≡ false
          → (mark_of_kind kind place given bad ≡ mark_of_kind kind place (cond (at && fit) (Some value) given) bad)
          × ((iops : ℕ) → cell_of_kind kind place given iops ≡ cell_of_kind kind place (cond (at && fit) (Some value) given) iops)
      other_given Data place given bad true fit e = absurd cc
      other_given Data place given bad false fit e = (refl, λ iops. refl)
      other_given Iocs place given bad at fit e = (refl, λ iops. refl)

      mark_other : (place : Place) → is_there slot subslot place ≡ false → mark_with values place ≡ mark_with later place
      mark_other place e = (other_given place.kind place (values.given place) (is_bad place.slot place.subslot values.statuses) (at_it place) (fits place) e).0

      cell_other_as : (place : Place) → is_there slot subslot place ≡ false → (iops : ℕ) → cell_of_kind place.kind place (values.given place) iops ≡ cell_of_kind place.kind place (later.given place) iops
      cell_other_as place e = (other_given place.kind place (values.given place) (is_bad place.slot place.subslot values.statuses) (at_it place) (fits place) e).1

      cell_other : (place : Place) → is_there slot subslot place ≡ false → cell_with values place ≡ cell_with later place
      cell_other place e =
          cell_other_as place e (iops_by (mark_with values place)) ∙ ap (λ (m : Mark). cell_of_kind place.kind place (later.given place) (iops_by m)) (mark_other place e)

      -- a value of another length is not given
      unfit : (place : Place) → fits place ≡ false → later.given place ≡ values.given place
      unfit place e = ap (λ (b : Bool). cond (at_it place && b) (Some value) (values.given place)) e ∙ by_at (at_it place)
        where
          by_at : (b : Bool) → cond (b && false) (Some value) (values.given place) ≡ values.given place
          by_at true = refl
          by_at false = refl

      unfit_same : (place : Place) → fits place ≡ false → (cell_with values place ≡ cell_with later place) × (mark_with values place ≡ mark_with later place)
      unfit_same place e = (
        ap (λ (g : Option (List ℕ)). cell_of_kind place.kind place g (iops_by (mark_of_kind place.kind place g (is_bad place.slot place.subslot values.statuses)))) (sym (unfit place e)),
        ap (λ (g : Option (List ℕ)). mark_of_kind place.kind place g (is_bad place.slot place.subslot values.statuses)) (sym (unfit place e)),
      )

      -- nothing changes if there is no place, or if the length is wrong
      abbrev IsSame : Place → Type 0
      IsSame place = (cell_with values place ≡ cell_with later place) × (mark_with values place ≡ mark_with later place)

      same_at : (found : Option Place) → has_size (length value) (option_map (cell_with values) found) ≡ false → (place : Place) → IsOnly found place → IsSame place
      same_at found none place only = by_test (is_there slot subslot place) refl
        where
          by_test : (b : Bool) → is_there slot subslot place ≡ b → IsSame place
          by_test true t =
              unfit_same place (ap (λ (p : Place). p.size == length value + 1) (sym (cell_place values place))
              ∙ (ap (λ (f : Option Place). has_size (length value) (option_map (cell_with values) f)) (sym (only t)) ∙ none))
          by_test false t = (cell_other place t, mark_other place t)

      -- ---- a value of the right length

      -- this place: its value
      this_value : (kind : PlaceKind) (place : Place) (given : Option (List ℕ)) (iops : ℕ) (at : Bool) → (is_same_kind Data kind && at) ≡ true
          → with_value value (cell_of_kind kind place given iops) ≡ cell_of_kind kind place (cond (at && true) (Some value) given) iops
      this_value Data place given iops true e = refl
      this_value Data place given iops false e = absurd cc
      this_value Iocs place given iops at e = absurd cc

      -- its IOPS
      this_iops : (kind : PlaceKind) (place : Place) (given : Option (List ℕ)) (before after : ℕ) (at : Bool) → (is_same_kind Data kind && at) ≡ true
          → with_status after (cell_of_kind kind place given before) ≡ cell_of_kind kind place given after
      this_iops Data place given before after true e = refl
      this_iops Data place given before after false e = absurd cc
      this_iops Iocs place given before after at e = absurd cc

      -- its mark, if a value was awaited, and if none was
      first_mark : (kind : PlaceKind) (place : Place) (given : Option (List ℕ)) (bad at : Bool) → (is_same_kind Data kind && at) ≡ true
          → change_by None (mark_of_kind kind place given bad) ≡ mark_of_kind kind place (cond (at && true) (Some value) given) bad
      first_mark Data place given bad true e = refl
      first_mark Data place given bad false e = absurd cc
      first_mark Iocs place given bad at e = absurd cc

      kept_mark : (kind : PlaceKind) (place : Place) (given : Option (List ℕ)) (bad at : Bool) → (is_same_kind Data kind && at) ≡ true → (mark_of_kind kind place given bad).is_awaited ≡ false
          → mark_of_kind kind place given bad ≡ mark_of_kind kind place (cond (at && true) (Some value) given) bad
      kept_mark Data place given bad true e none =
          ap (λ (b : Bool). let m : Mark = record {
            place = place;
            differs = differs_at place.slot place.subslot plugs;
            is_touched = is_touched_at place.slot place.subslot plugs;
            is_awaited = b;
            is_bad = bad;
          } in m) none
      kept_mark Data place given bad false e none = absurd cc
      kept_mark Iocs place given bad at e none = absurd cc

      -- the cells between: with the later values and the IOPS of before
      abbrev mid : Place → Cell
      mid place = cell_of_kind place.kind place (later.given place) (iops_by (mark_with values place))

      mid_place : (place : Place) → (mid place).place ≡ place
      mid_place place = kind_place place.kind place (later.given place) (iops_by (mark_with values place))

      fit_given : (place : Place) → fits place ≡ true → later.given place ≡ cond (at_it place && true) (Some value) (values.given place)
      fit_given place fit = ap (λ (b : Bool). cond (at_it place && b) (Some value) (values.given place)) fit

      mark_first : (place : Place) → fits place ≡ true → is_there slot subslot place ≡ true → change_by None (mark_with values place) ≡ mark_with later place
      mark_first place fit t =
          first_mark place.kind place (values.given place) (is_bad place.slot place.subslot values.statuses) (at_it place) t
          ∙ ap (λ (g : Option (List ℕ)). mark_of_kind place.kind place g (is_bad place.slot place.subslot values.statuses)) (sym (fit_given place fit))

      mark_kept : (place : Place) → fits place ≡ true → is_there slot subslot place ≡ true → (mark_with values place).is_awaited ≡ false → mark_with values place ≡ mark_with later place
      mark_kept place fit t none =
          kept_mark place.kind place (values.given place) (is_bad place.slot place.subslot values.statuses) (at_it place) t none
          ∙ ap (λ (g : Option (List ℕ)). mark_of_kind place.kind place g (is_bad place.slot place.subslot values.statuses)) (sym (fit_given place fit))

      -- the only place, which has the right size
      module _ (found : Place) (fit : fits found ≡ true) (place : Place) (only : IsOnly (Some found) place) where
        fit_here : is_there slot subslot place ≡ true → fits place ≡ true
        fit_here t = ap fits (sym (same_some found place (only t))) ∙ fit

        value_becomes : Becomes (λ (c : Cell). c.place) slot subslot (with_value value) (cell_with values) mid place
        value_becomes = becomes (λ (c : Cell). c.place) slot subslot (with_value value) (cell_with values) mid place
            (λ t. this_value place.kind place (values.given place) (iops_by (mark_with values place)) (at_it place) t
            ∙ ap (λ (g : Option (List ℕ)). cell_of_kind place.kind place g (iops_by (mark_with values place))) (sym (fit_given place (fit_here t))))
            (λ t. cell_other_as place t (iops_by (mark_with values place)))

        mark_becomes : Becomes (λ (m : Mark). m.place) slot subslot (change_by None) (mark_with values) (mark_with later) place
        mark_becomes = becomes (λ (m : Mark). m.place) slot subslot (change_by None) (mark_with values) (mark_with later) place
            (λ t. mark_first place (fit_here t) t) (λ t. mark_other place t)

        status_becomes : Becomes (λ (c : Cell). c.place) slot subslot (with_status (iops_by (mark_with later found))) mid (cell_with later) place
        status_becomes = becomes (λ (c : Cell). c.place) slot subslot (with_status (iops_by (mark_with later found))) mid (cell_with later) place
            (λ t. this_iops place.kind place (later.given place) (iops_by (mark_with values place)) (iops_by (mark_with later found)) (at_it place) t
            ∙ ap (λ (p : Place). cell_of_kind place.kind place (later.given place) (iops_by (mark_with later p))) (same_some found place (only t)))
            (λ t. ap (λ (m : Mark). cell_of_kind place.kind place (later.given place) (iops_by m)) (mark_other place t))

        -- if none was awaited
        mark_stays : (mark_with values found).is_awaited ≡ false → mark_with values place ≡ mark_with later place
        mark_stays none = by_test (is_there slot subslot place) refl
          where
            by_test : (b : Bool) → is_there slot subslot place ≡ b → mark_with values place ≡ mark_with later place
            by_test true t = mark_kept place (fit_here t) t (ap (λ (p : Place). (mark_with values p).is_awaited) (sym (same_some found place (only t))) ∙ none)
            by_test false t = mark_other place t

        cell_stays : (mark_with values found).is_awaited ≡ false → mid place ≡ cell_with later place
        cell_stays none = ap (λ (m : Mark). cell_of_kind place.kind place (later.given place) (iops_by m)) (mark_stays none)

      -- ---- what is provided after it

      module _ (many : ℕ) (places : List Place) (once : times_listed Data slot subslot places ≤ 1) where
        abbrev with_values : Values → Provided
        with_values v = record { shown = record { data_length = many; cells = cells_of v places }; marks = marks_of v places }

        abbrev having : List Cell → List Mark → Provided
        having cells marks = record { shown = record { data_length = many; cells = cells }; marks = marks }

        only_at : (found : Option Place) → place_at Data slot subslot places ≡ found → AllByRecursion (IsOnly found) places
        only_at found e = subst (λ (f : Option Place). AllByRecursion (IsOnly f) places) e (only_one slot subslot places once)

        unchanged : (found : Option Place) → place_at Data slot subslot places ≡ found → has_size (length value) (option_map (cell_with values) found) ≡ false → with_values values ≡ with_values later
        unchanged found e none =
            let all = each (IsOnly found) IsSame (λ place only. same_at found none place only) places (only_at found e) in
            ap (λ (cs : List Cell). having cs (marks_of values places)) (all_same (cell_with values) (cell_with later) places (each IsSame (λ place. cell_with values place ≡ cell_with later place) (λ place is. is.0) places all))
            ∙ ap (λ (ms : List Mark). having (cells_of later places) ms) (all_same (mark_with values) (mark_with later) places (each IsSame (λ place. mark_with values place ≡ mark_with later place) (λ place is. is.1) places all))

        -- the cells with their values
        cells_mid : (found : Place) → place_at Data slot subslot places ≡ Some found → fits found ≡ true → map (changed_in Data slot subslot (with_value value)) (cells_of values places) ≡ map mid places
        cells_mid found e fit =
            all_turned (λ (c : Cell). c.place) slot subslot (with_value value) (cell_with values) mid (cell_place values) places
            (each (IsOnly (Some found)) (Becomes (λ (c : Cell). c.place) slot subslot (with_value value) (cell_with values) mid) (λ place only. value_becomes found fit place only) places (only_at (Some found) e))

        marks_first : (found : Place) → place_at Data slot subslot places ≡ Some found → fits found ≡ true → marked slot subslot (change_by None) (marks_of values places) ≡ marks_of later places
        marks_first found e fit =
            all_turned (λ (m : Mark). m.place) slot subslot (change_by None) (mark_with values) (mark_with later) (mark_place values) places
            (each (IsOnly (Some found)) (Becomes (λ (m : Mark). m.place) slot subslot (change_by None) (mark_with values) (mark_with later)) (λ place only. mark_becomes found fit place only) places (only_at (Some found) e))

        cells_stated : (found : Place) → place_at Data slot subslot places ≡ Some found → fits found ≡ true
            → map (changed_in Data slot subslot (with_status (iops_by (mark_with later found)))) (map mid places) ≡ cells_of later places
        cells_stated found e fit =
            all_turned (λ (c : Cell). c.place) slot subslot (with_status (iops_by (mark_with later found))) mid (cell_with later) mid_place places
            (each (IsOnly (Some found)) (Becomes (λ (c : Cell). c.place) slot subslot (with_status (iops_by (mark_with later found))) mid (cell_with later)) (λ place only. status_becomes found fit place only) places (only_at (Some found) e))

        iops_found : (found : Place) → place_at Data slot subslot places ≡ Some found → iops_of (mark_at slot subslot (marks_of later places)) ≡ iops_by (mark_with later found)
        iops_found found e = ap iops_of (mark_found (mark_with later) (mark_place later) places ∙ ap (option_map (mark_with later)) e)

        given_first : (found : Place) → place_at Data slot subslot places ≡ Some found → fits found ≡ true
            → restate slot subslot None (having (map (changed_in Data slot subslot (with_value value)) (cells_of values places)) (marks_of values places)) ≡ with_values later
        given_first found e fit =
            ap (λ (ms : List Mark). having (map (changed_in Data slot subslot (with_status (iops_of (mark_at slot subslot ms)))) (map (changed_in Data slot subslot (with_value value)) (cells_of values places))) ms) (marks_first found e fit)
            ∙ (ap (λ (n : ℕ). having (map (changed_in Data slot subslot (with_status n)) (map (changed_in Data slot subslot (with_value value)) (cells_of values places))) (marks_of later places)) (iops_found found e)
            ∙ (ap (λ (cs : List Cell). having (map (changed_in Data slot subslot (with_status (iops_by (mark_with later found)))) cs) (marks_of later places)) (cells_mid found e fit)
            ∙ ap (λ (cs : List Cell). having cs (marks_of later places)) (cells_stated found e fit)))

        given_again : (found : Place) → place_at Data slot subslot places ≡ Some found → fits found ≡ true → (mark_with values found).is_awaited ≡ false
            → having (map (changed_in Data slot subslot (with_value value)) (cells_of values places)) (marks_of values places) ≡ with_values later
        given_again found e fit none =
            let all = only_at (Some found) e in
            ap (λ (cs : List Cell). having cs (marks_of values places))
            (cells_mid found e fit ∙ all_same mid (cell_with later) places (each (IsOnly (Some found)) (λ place. mid place ≡ cell_with later place) (λ place only. cell_stays found fit place only none) places all))
            ∙ ap (λ (ms : List Mark). having (cells_of later places) ms)
            (all_same (mark_with values) (mark_with later) places (each (IsOnly (Some found)) (λ place. mark_with values place ≡ mark_with later place) (λ place only. mark_stays found fit place only none) places all))

        by_first : (found : Place) → place_at Data slot subslot places ≡ Some found → fits found ≡ true → (is_first : Bool) → (mark_with values found).is_awaited ≡ is_first
            → give_by slot subslot value true is_first (with_values values) ≡ with_values later
        by_first found e fit true w = given_first found e fit
        by_first found e fit false w = given_again found e fit w

        by_size : (found : Option Place) → place_at Data slot subslot places ≡ found → (fit : Bool) → has_size (length value) (option_map (cell_with values) found) ≡ fit
            → give_by slot subslot value fit (is_awaited_in (option_map (mark_with values) found)) (with_values values) ≡ with_values later
        by_size found e false f = unchanged found e f
        by_size None e true f = absurd cc
        by_size (Some found) e true f =
            by_first found e (ap (λ (p : Place). p.size == length value + 1) (sym (cell_place values found)) ∙ f) (mark_with values found).is_awaited refl

        pub given_values : give slot subslot value (with_values values) ≡ with_values later
        given_values =
            let found = place_at Data slot subslot places in
            ap (λ (b : Bool). give_by slot subslot value b (awaits slot subslot (marks_of values places)) (with_values values))
            (ap (has_size (length value)) (cell_found (cell_with values) (cell_place values) places))
            ∙ (ap (λ (b : Bool). give_by slot subslot value (has_size (length value) (option_map (cell_with values) found)) b (with_values values))
            (ap is_awaited_in (mark_found (mark_with values) (mark_place values) places))
            ∙ by_size found refl (has_size (length value) (option_map (cell_with values) found)) refl)
