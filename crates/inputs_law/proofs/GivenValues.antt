-- What a relation sends of its inputs: when it begins, and after each event.
use Rattle.std.proofs.Common.{◌≡◌, ◌==◌, ◌&&◌, ◌||◌, ◌-◌, ◌≤◌, ℕ, Bool, true, false, List, [], ◌∷◌, map, replicate, Option, Some, None, refl, sym, ap, ◌∙◌}
use Rattle.std.specs.Prelude.{nat_lt, option_map, unwrap_or, if◌then◌else◌}
use Rattle.std.specs.List.{AllByRecursion}
use Rattle.std.proofs.lemmas.Bool.{and_from, eq-eqb}
use Rattle.pn_values.specs.declared.real.RealModule.{RealModule}
use Rattle.wire.specs.blocks.modules.Lists.{Listed}
use Rattle.module_diff.specs.declared.changes.Affected.{Affected}
use Rattle.connect_blocks.specs.declared.module_diff.DiffModule.{DiffModule}
use Rattle.connect_blocks.specs.declared.module_diff.DiffSubmodule.{DiffSubmodule}
use Rattle.cyclic_data.specs.declared.place.Place.{Place}
use Rattle.cyclic_data.specs.declared.place.PlaceKind.{PlaceKind}
use Rattle.cyclic_data.specs.declared.place.PlaceKind.TheVariants.{Data, Iocs}
use Rattle.cyclic_data.specs.Layout.{is_same_kind, times_listed}
use Rattle.module_diff.specs.Diff.{is_listed}
use Rattle.cyclic_data.specs.Image.{Cell, good, place_at}
use Rattle.cyclic_data.specs.exchange.Opening.{StatusOf}
use Rattle.cyclic_data.specs.exchange.Opening.{first_cell as first_with}
use Rattle.relations.specs.declared.exchange.marks.Mark.{Mark}
use Rattle.relations.specs.declared.exchange.statuses.InputStatus.{InputStatus}
use Rattle.relations.specs.exchange.Modules.{is_shut}
use Rattle.relations.specs.exchange.Marks.{Starting, first_mark, iops_by, iops_of}
use Rattle.relations.specs.exchange.Opening.{opened, statuses_of}
use Rattle.relations.specs.exchange.Statuses.{is_bad, statuses_at}
use Rattle.expected_places.specs.Machine.{PlugState, differs_at, is_touched_at}
use Rattle.connects.specs.requests.Request.{Request}
use Rattle.device_frames.specs.declared.local.Local.TheVariants as local
use Rattle.device_frames.specs.Heard.{Heard, Applied}
use Rattle.device_core.specs.State.{Rest}
use Rattle.both_ends.proofs.ExchangeOutputsValues.{is_there, only_one}
use Rattle.inputs_law.specs.Given.{left_input, left_statuses, renewed_in}
use Rattle.inputs_law.proofs.GivenCells.{Provided, Values, all_same, cell_of_kind, cell_with, cells_of, given_values, mark_found, mark_of_kind, mark_place, mark_with, marks_of, provided_in, with_given}
use Rattle.inputs_law.proofs.GivenStatuses.{stated_values}
use Rattle.inputs_law.proofs.GivenCells.{give, restate}

-- the statuses that the application gave, after an event
abbrev pub said_in : Rest → Heard → List InputStatus → List InputStatus
said_in rest (Applied (local.Status slot subslot is_good)) statuses =
    unwrap_or (statuses_at rest.real.modules.items (record { slot = slot; subslot = subslot; is_good = is_good }) statuses) statuses
said_in rest heard statuses = left_statuses (renewed_in rest heard) statuses

-- what a relation sends of its inputs, after an event with which nothing is pulled or plugged
abbrev pub rated_if : Option (List InputStatus) → ℕ → ℕ → Bool → Provided → Provided
rated_if (Some statuses) slot subslot is_good now = restate slot subslot (Some is_good) now
rated_if None slot subslot is_good now = now

abbrev pub provided_by : List RealModule → List InputStatus → Heard → Provided → Provided
provided_by real statuses (Applied (local.Input slot subslot value)) now = give slot subslot value.items now
provided_by real statuses (Applied (local.Status slot subslot is_good)) now =
    rated_if (statuses_at real (record { slot = slot; subslot = subslot; is_good = is_good }) statuses) slot subslot is_good now
provided_by real statuses heard now = now

-- what was given and said after something was pulled or plugged
abbrev pub renewed_values : Option Affected → Values → Values
renewed_values affected values =
    record { given = λ place. left_input affected place (values.given place); statuses = left_statuses affected values.statuses }

-- what was given and said after an event at a device with a relation
abbrev pub values_by : Rest → Heard → Values → Values
values_by rest (Applied (local.Input slot subslot value)) values = with_given slot subslot value.items values
values_by rest (Applied (local.Status slot subslot is_good)) values =
    record { given = values.given; statuses = said_in rest (Applied (local.Status slot subslot is_good)) values.statuses }
values_by rest heard values = renewed_values (renewed_in rest heard) values

-- as a relation begins
abbrev pub first_values : List InputStatus → Values
first_values statuses = record { given = λ place. None; statuses = statuses }

module _ (plugs : PlugState) (begin_bad : Bool) (many : ℕ) (places : List Place) where
  -- what a relation with these places sends
  abbrev pub sends_of : (Place → Bool) → Values → Provided
  sends_of others values = record { shown = record { data_length = many; cells = cells_of plugs begin_bad others values places }; marks = marks_of plugs begin_bad others values places }

  -- the same of the same values
  pub values_same : (others : Place → Bool) (values other : Values) → ((place : Place) → values.given place ≡ other.given place) → values.statuses ≡ other.statuses → sends_of others values ≡ sends_of others other
  values_same others values other given statuses =
      let cell_is : (place : Place) → cell_with plugs begin_bad others values place ≡ cell_with plugs begin_bad others other place = λ place.
      ap (λ (g : Option (List ℕ)). cell_of_kind plugs begin_bad others place.kind place g (iops_by (mark_of_kind plugs begin_bad others place.kind place g (is_bad place.slot place.subslot values.statuses)))) (given place)
      ∙ ap (λ (s : List InputStatus). cell_of_kind plugs begin_bad others place.kind place (other.given place) (iops_by (mark_of_kind plugs begin_bad others place.kind place (other.given place) (is_bad place.slot place.subslot s)))) statuses in
      let mark_is : (place : Place) → mark_with plugs begin_bad others values place ≡ mark_with plugs begin_bad others other place = λ place.
      ap (λ (g : Option (List ℕ)). mark_of_kind plugs begin_bad others place.kind place g (is_bad place.slot place.subslot values.statuses)) (given place)
      ∙ ap (λ (s : List InputStatus). mark_of_kind plugs begin_bad others place.kind place (other.given place) (is_bad place.slot place.subslot s)) statuses in
      ap (λ (cs : List Cell). let p : Provided = record { shown = record { data_length = many; cells = cs }; marks = marks_of plugs begin_bad others values places } in p)
      (all_same (cell_with plugs begin_bad others values) (cell_with plugs begin_bad others other) places (each_is (λ place. cell_with plugs begin_bad others values place ≡ cell_with plugs begin_bad others other place) cell_is places))
      ∙ ap (λ (ms : List Mark). let p : Provided = record { shown = record { data_length = many; cells = cells_of plugs begin_bad others other places }; marks = ms } in p)
      (all_same (mark_with plugs begin_bad others values) (mark_with plugs begin_bad others other) places (each_is (λ place. mark_with plugs begin_bad others values place ≡ mark_with plugs begin_bad others other place) mark_is places))
    where
      each_is : (P : Place → Type 0) → ((place : Place) → P place) → (ps : List Place) → AllByRecursion P ps
      each_is P is [] = tt
      each_is P is (place ∷ ps) = (is place, each_is P is ps)

module _ (plugs : PlugState) (begin_bad : Bool) (many : ℕ) (places : List Place) (once : (slot subslot : ℕ) → times_listed Data slot subslot places ≤ 1) where
  abbrev sends : (Place → Bool) → Values → Provided
  sends others values = sends_of plugs begin_bad many places others values

  -- ---- an event

  rated_by : (real : List RealModule) (others : Place → Bool) (values : Values) (slot subslot : ℕ) (is_good : Bool) (later : Option (List InputStatus))
      → statuses_at real (record { slot = slot; subslot = subslot; is_good = is_good }) values.statuses ≡ later
      → rated_if later slot subslot is_good (sends others values) ≡ sends others (record { given = values.given; statuses = unwrap_or later values.statuses })
  rated_by real others values slot subslot is_good (Some later) is = stated_values slot subslot is_good plugs begin_bad others real values later is many places (once slot subslot)
  rated_by real others values slot subslot is_good None is = refl

  pub sends_by : (rest : Rest) (others : Place → Bool) (values : Values) (heard : Heard) → renewed_in rest heard ≡ None
      → provided_by rest.real.modules.items values.statuses heard (sends others values) ≡ sends others (values_by rest heard values)
  sends_by rest others values (Applied (local.Input slot subslot value)) none = given_values plugs begin_bad others slot subslot value.items values many places (once slot subslot)
  sends_by rest others values (Applied (local.Status slot subslot is_good)) none =
      rated_by rest.real.modules.items others values slot subslot is_good (statuses_at rest.real.modules.items (record { slot = slot; subslot = subslot; is_good = is_good }) values.statuses) refl
  sends_by rest others values other none = ap (λ (a : Option Affected). sends others (renewed_values a values)) (sym none)

  -- ---- the beginning

  -- a place of the relation differs if these rows list it, and is not touched
  abbrev pub IsFreshAt : Listed DiffModule DiffSubmodule → Place → Type 0
  IsFreshAt rows place = (differs_at place.slot place.subslot plugs ≡ is_listed place.slot place.subslot rows)
      × (is_touched_at place.slot place.subslot plugs ≡ false)

  abbrev pub IsFresh : Listed DiffModule DiffSubmodule → List Place → Type 0
  IsFresh rows ps = AllByRecursion (IsFreshAt rows) ps

  -- the first place of an input is its own
  abbrev pub IsOwn : Place → Type 0
  IsOwn place = place.kind ≡ Data → place_at Data place.slot place.subslot places ≡ Some place

  there_itself : (place : Place) → place.kind ≡ Data → is_there place.slot place.subslot place ≡ true
  there_itself place is =
      and_from (is_same_kind Data place.kind) ((place.slot == place.slot) && (place.subslot == place.subslot)) (ap (λ (k : PlaceKind). is_same_kind Data k) is)
      (and_from (place.slot == place.slot) (place.subslot == place.subslot) (eq-eqb place.slot place.slot refl) (eq-eqb place.subslot place.subslot refl))

  all_own : (some : List Place) → ((slot subslot : ℕ) → AllByRecursion (λ place. is_there slot subslot place ≡ true → place_at Data slot subslot places ≡ Some place) some) → AllByRecursion IsOwn some
  all_own [] only = tt
  all_own (place ∷ some) only = (λ is. (only place.slot place.subslot).0 (there_itself place is), all_own some (λ slot subslot. (only slot subslot).1))

  -- the first place of each input is its own
  pub own_all : AllByRecursion IsOwn places
  own_all = all_own places (λ slot subslot. only_one slot subslot places (once slot subslot))

  module _ (rows : Listed DiffModule DiffSubmodule) (starting : Starting) (begins : starting.begin_bad ≡ begin_bad) (fresh : IsFresh rows places) where
    -- the marks of places without data
    abbrev pub first_others : Place → Bool
    first_others place = is_bad place.slot place.subslot starting.statuses

    abbrev first : Values
    first = first_values starting.statuses

    mark_first_as : (kind : PlaceKind) (place : Place) → (let m : Mark = record {
      place = place;
      differs = differs_at place.slot place.subslot plugs;
      is_touched = is_touched_at place.slot place.subslot plugs;
      is_awaited = begin_bad && nat_lt 1 place.size;
      is_bad = is_bad place.slot place.subslot starting.statuses;
    } in m) ≡ mark_of_kind plugs begin_bad first_others kind place None (is_bad place.slot place.subslot starting.statuses)
    mark_first_as Data place = refl
    mark_first_as Iocs place = refl

    mark_first : (place : Place) → IsFreshAt rows place → first_mark starting rows place ≡ mark_with plugs begin_bad first_others first place
    mark_first place is =
        ap (λ (b : Bool). let m : Mark = record {
          place = place;
          differs = is_listed place.slot place.subslot rows;
          is_touched = false;
          is_awaited = b && nat_lt 1 place.size;
          is_bad = is_bad place.slot place.subslot starting.statuses;
        } in m) begins
        ∙ (ap (λ (b : Bool). let m : Mark = record {
          place = place;
          differs = b;
          is_touched = false;
          is_awaited = begin_bad && nat_lt 1 place.size;
          is_bad = is_bad place.slot place.subslot starting.statuses;
        } in m) (sym is.0)
        ∙ (ap (λ (b : Bool). let m : Mark = record {
          place = place;
          differs = differs_at place.slot place.subslot plugs;
          is_touched = b;
          is_awaited = begin_bad && nat_lt 1 place.size;
          is_bad = is_bad place.slot place.subslot starting.statuses;
        } in m) (sym is.1)
        ∙ mark_first_as place.kind place))

    marks_first : (ps : List Place) → IsFresh rows ps → map (first_mark starting rows) ps ≡ marks_of plugs begin_bad first_others first ps
    marks_first [] is = refl
    marks_first (place ∷ ps) is =
        ap (λ (m : Mark). m ∷ map (first_mark starting rows) ps) (mark_first place is.0)
        ∙ ap (λ (ms : List Mark). mark_with plugs begin_bad first_others first place ∷ ms) (marks_first ps is.1)

    abbrev statuses : StatusOf
    statuses = statuses_of rows (marks_of plugs begin_bad first_others first places)

    shut_first : (place : Place) → IsFreshAt rows place → is_shut plugs place.slot place.subslot ≡ is_listed place.slot place.subslot rows
    shut_first place at =
        ap (λ (b : Bool). b || is_touched_at place.slot place.subslot plugs) at.0
        ∙ (ap (λ (b : Bool). is_listed place.slot place.subslot rows || b) at.1 ∙ or_none (is_listed place.slot place.subslot rows))
      where
        or_none : (b : Bool) → (b || false) ≡ b
        or_none true = refl
        or_none false = refl

    cell_first : (place : Place) (kind : PlaceKind) → place.kind ≡ kind → IsOwn place → IsFreshAt rows place → first_with statuses place ≡ cell_with plugs begin_bad first_others first place
    cell_first place Data is own at =
        ap (λ (k : PlaceKind). let c : Cell = record { place = place; value = replicate (place.size - 1) 0; status = statuses k place.slot place.subslot } in c) is
        ∙ (ap (λ (m : Option Mark). let c : Cell = record { place = place; value = replicate (place.size - 1) 0; status = iops_of m } in c)
        (mark_found plugs begin_bad first_others place.slot place.subslot (mark_with plugs begin_bad first_others first) (mark_place plugs begin_bad first_others first) places
        ∙ ap (option_map (mark_with plugs begin_bad first_others first)) (own is))
        ∙ ap (λ (k : PlaceKind). cell_of_kind plugs begin_bad first_others k place None (iops_by (mark_with plugs begin_bad first_others first place))) (sym is))
    cell_first place Iocs is own at =
        ap (λ (k : PlaceKind). let c : Cell = record { place = place; value = replicate (place.size - 1) 0; status = statuses k place.slot place.subslot } in c) is
        ∙ (ap (λ (b : Bool). let c : Cell = record { place = place; value = replicate (place.size - 1) 0; status = if b then 0 else good } in c) (sym (shut_first place at))
        ∙ ap (λ (k : PlaceKind). cell_of_kind plugs begin_bad first_others k place None (iops_by (mark_with plugs begin_bad first_others first place))) (sym is))

    cells_first : (ps : List Place) → AllByRecursion IsOwn ps → IsFresh rows ps → map (first_with statuses) ps ≡ cells_of plugs begin_bad first_others first ps
    cells_first [] own at = refl
    cells_first (place ∷ ps) own at =
        ap (λ (c : Cell). c ∷ map (first_with statuses) ps) (cell_first place place.kind refl own.0 at.0) ∙ ap (λ (cs : List Cell). cell_with plugs begin_bad first_others first place ∷ cs) (cells_first ps own.1 at.1)

    pub sends_first : (request : Request) → request.input.layout.data_length ≡ many → request.input.layout.places ≡ places → provided_in (opened request rows starting) ≡ sends first_others first
    sends_first request size are =
        let marks_are : map (first_mark starting rows) request.input.layout.places ≡ marks_of plugs begin_bad first_others first places =
        ap (λ (ps : List Place). map (first_mark starting rows) ps) are ∙ marks_first places fresh in
        ap (λ (ms : List Mark). let p : Provided = record { shown = record { data_length = request.input.layout.data_length; cells = map (first_with (statuses_of rows ms)) request.input.layout.places }; marks = ms } in p) marks_are
        ∙ (ap (λ (n : ℕ). let p : Provided = record { shown = record { data_length = n; cells = map (first_with statuses) request.input.layout.places }; marks = marks_of plugs begin_bad first_others first places } in p) size
        ∙ (ap (λ (ps : List Place). let p : Provided = record { shown = record { data_length = many; cells = map (first_with statuses) ps }; marks = marks_of plugs begin_bad first_others first places } in p) are
        ∙ ap (λ (cs : List Cell). let p : Provided = record { shown = record { data_length = many; cells = cs }; marks = marks_of plugs begin_bad first_others first places } in p)
        (cells_first places own_all fresh)))
