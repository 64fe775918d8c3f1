-- The places of a plan: what the device reported of each submodule that a controller expects (IEC 61158-6-10, 5.2.4 and 5.2.5).
use Rattle.std.specs.Prelude.{◌==◌, ◌&&◌, ◌++◌, ℕ, Bool, true, false, not, List, [], ◌∷◌, map, Option, Some, None, if◌then◌else◌}
use Rattle.std.specs.List.{filter, find, list_any}
use Rattle.std.specs.Option.{option_map}
use Rattle.pn_values.specs.declared.real.RealModule.{RealModule}
use Rattle.pn_values.specs.declared.real.RealSubmodule.{RealSubmodule}
use Rattle.module_diff.specs.Changes.{covers}
use Rattle.plans.specs.declared.parts.Parts.{Parts}
use Rattle.diagnosis.specs.declared.reports.report.Report.{Report}
use Rattle.plan_places.specs.declared.report.PlaceReport.{PlaceReport}
use Rattle.plan_places.specs.declared.report.PlaceReport.TheVariants as reports
use Rattle.plan_places.specs.declared.report.Plug.{Plug}
use Rattle.plan_places.specs.declared.place.Place.{Place}
use Rattle.plan_places.specs.declared.place.PlaceState.{PlaceState}
use Rattle.plan_places.specs.declared.place.PlaceState.TheVariants.{There, Differs, Gone, Wrong, Plugged, Writing, Ending, Ready, Refused}
use Rattle.plan_places.specs.Listed.{is_listed_in}
use Rattle.plan_places.specs.Reports.{place_report}

-- ---- one place

-- The number of each state for a host. A place that is there again has the number of one that is there, and one whose records are
-- written that of one that is plugged.
abbrev pub number_of : PlaceState → ℕ
number_of There = 1
number_of Differs = 2
number_of Gone = 3
number_of Wrong = 4
number_of (Plugged number) = 5
number_of (Writing number) = 5
number_of (Ending number) = 6
number_of (Ready number) = 1
number_of Refused = 7

-- Whether the parameters of a place have their turn: its records are written, or were all written.
abbrev pub has_turn : PlaceState → Bool
has_turn There = false
has_turn Differs = false
has_turn Gone = false
has_turn Wrong = false
has_turn (Plugged number) = false
has_turn (Writing number) = true
has_turn (Ending number) = true
has_turn (Ready number) = false
has_turn Refused = false

-- Whether the ApplicationReady of a place may have this number: it is awaited, or it came and its answer was lost.
abbrev pub is_told : ℕ → PlaceState → Bool
is_told number There = false
is_told number Differs = false
is_told number Gone = false
is_told number Wrong = false
is_told number (Plugged of) = false
is_told number (Writing of) = false
is_told number (Ending of) = of == number
is_told number (Ready of) = of == number
is_told number Refused = false

-- The number of the plug, if the place waits for its turn.
abbrev pub plugged_number : PlaceState → Option ℕ
plugged_number There = None
plugged_number Differs = None
plugged_number Gone = None
plugged_number Wrong = None
plugged_number (Plugged number) = Some number
plugged_number (Writing number) = None
plugged_number (Ending number) = None
plugged_number (Ready number) = None
plugged_number Refused = None

-- Whether a place is this submodule.
abbrev pub is_at : ℕ → ℕ → Place → Bool
is_at slot subslot place = place.slot == slot && place.subslot == subslot

-- A place in this state.
abbrev pub in_state : PlaceState → Place → Place
in_state state place = record place { state = state }

-- A place after an ApplicationReady with this number.
abbrev pub made_ready : ℕ → Place → Place
made_ready number place = if is_told number place.state then in_state (Ready number) place else place

-- The plug of a place with this number.
abbrev pub plug_at : Place → ℕ → Plug
plug_at place number = record { slot = place.slot; subslot = place.subslot; number = number }

-- That of a place that waits for its turn.
abbrev pub waiting_of : Place → Option Plug
waiting_of place = option_map (plug_at place) (plugged_number place.state)

-- ---- what an alarm reports

-- Whether a report is about a place.
abbrev pub is_about : PlaceReport → Place → Bool
is_about (reports.Pulled affected) place = covers affected place.slot place.subslot
is_about (reports.PluggedWrong plug) place = is_at plug.slot plug.subslot place
is_about (reports.Plugged plug) place = is_at plug.slot plug.subslot place

-- The state of a place that it is about.
abbrev pub reported_state : PlaceReport → PlaceState
reported_state (reports.Pulled affected) = Gone
reported_state (reports.PluggedWrong plug) = Wrong
reported_state (reports.Plugged plug) = Plugged plug.number

-- Whether it is a plug of the expected submodule.
abbrev pub is_plug : PlaceReport → Bool
is_plug (reports.Pulled affected) = false
is_plug (reports.PluggedWrong plug) = false
is_plug (reports.Plugged plug) = true

-- A place after a report.
abbrev pub after_report : PlaceReport → Place → Place
after_report report place = if is_about report place then in_state (reported_state report) place else place

-- Whether a report plugs a place.
abbrev pub is_plugged_by : PlaceReport → Place → Bool
is_plugged_by report place = is_plug report && is_about report place

-- ---- all places

-- The places, those that were plugged last at the end; and whether the parameters of a place that is plugged wait for their turn.
pub record Told : Type 0 where
  pub places : List Place
  pub has_turns : Bool

-- No relation, and so no places.
abbrev pub no_places : Told
no_places = record { places = []; has_turns = false }

-- The first state of a submodule: it is there, or a ModuleDiffBlock in the answer to the Connect lists it as one that differs.
abbrev pub first_state : ℕ → List ℕ → ℕ → ℕ → PlaceState
first_state most blocks slot subslot = if is_listed_in most blocks slot subslot then Differs else There

-- A submodule of a slot as a place.
abbrev pub first_place : ℕ → List ℕ → ℕ → RealSubmodule → Place
first_place most blocks slot part = record { slot = slot; subslot = part.subslot; state = first_state most blocks slot part.subslot }

-- The places of modules, one module after the other.
abbrev pub places_of : ℕ → List ℕ → List RealModule → List Place
places_of most blocks [] = []
places_of most blocks (entry ∷ modules) = map (first_place most blocks entry.slot) entry.submodules.items ++ places_of most blocks modules

-- The places of a plan as its relation is established by the answer with these blocks.
abbrev pub opened : Parts → ℕ → List ℕ → Told
opened plan most blocks = record { places = places_of most blocks plan.real.modules.items; has_turns = plan.parameters_after_plug }

-- The place of a submodule.
abbrev pub place_at : ℕ → ℕ → List Place → Option Place
place_at slot subslot places = find (is_at slot subslot) places

-- What is known of a submodule, if it is a place.
abbrev pub state_at : ℕ → ℕ → Told → Option PlaceState
state_at slot subslot told = option_map (λ (place : Place). place.state) (place_at slot subslot told.places)

-- Whether a report plugs a place; or whether it does not.
abbrev pub is_moved : Bool → PlaceReport → Place → Bool
is_moved is_plugged report place = if is_plugged then is_plugged_by report place else not (is_plugged_by report place)

-- Those of the places that a report plugs, or those that it does not plug, after it.
abbrev pub moved : Bool → PlaceReport → List Place → List Place
moved is_plugged report places = map (after_report report) (filter (is_moved is_plugged report) places)

-- The places after a report. One that is plugged waits after all others.
abbrev pub told_after : PlaceReport → Told → Told
told_after report told = record told { places = moved false report told.places ++ moved true report told.places }

-- The places after what an alarm reports of them.
abbrev pub told_by : Option PlaceReport → Told → Told
told_by (Some report) told = told_after report told
told_by None told = told

-- The places after an alarm that was accepted.
abbrev pub after_alarm : Report → Told → Told
after_alarm report told = told_by (place_report report) told

-- ---- turns

-- This one, or else the next.
abbrev pub or_next : Option Plug → Option Plug → Option Plug
or_next (Some plug) next = Some plug
or_next None next = next

-- The plug of the first place that waits.
abbrev pub first_waiting : List Place → Option Plug
first_waiting [] = None
first_waiting (place ∷ places) = or_next (waiting_of place) (first_waiting places)

-- The plug that has the next turn, if places that are plugged have one.
abbrev pub next_waiting : Told → Option Plug
next_waiting told = if told.has_turns then first_waiting told.places else None

-- Whether a state is that of a turn.
abbrev pub is_turn : Option PlaceState → Bool
is_turn (Some state) = has_turn state
is_turn None = false

-- Whether the parameters of a submodule have their turn.
abbrev pub has_turn_at : ℕ → ℕ → Told → Bool
has_turn_at slot subslot told = is_turn (state_at slot subslot told)

-- A place, in this state if it is this submodule.
abbrev pub set_at : ℕ → ℕ → PlaceState → Place → Place
set_at slot subslot state place = if is_at slot subslot place then in_state state place else place

-- The places, with this state of a submodule.
abbrev pub with_state : ℕ → ℕ → PlaceState → Told → Told
with_state slot subslot state told = record told { places = map (set_at slot subslot state) told.places }

-- Whether an ApplicationReady with this number is one of a place.
abbrev pub is_awaited : ℕ → Told → Bool
is_awaited number told = list_any (λ place. is_told number place.state) told.places

-- The places after an ApplicationReady with this number.
abbrev pub readied : ℕ → Told → Told
readied number told = record told { places = map (made_ready number) told.places }
