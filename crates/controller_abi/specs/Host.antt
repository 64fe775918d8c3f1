-- A host of a controller: what it asks for and gets over a whole run, and what the controller did.
use Rattle.std.specs.Prelude.{◌≡◌, ◌≢◌, ◌-◌, ◌==◌, ◌++◌, not, ℕ, List, [], ◌∷◌, flat_map, map, replicate, slice_get, take, Option, Some, if◌then◌else◌}
use Rattle.arrayvec.specs.ArrayVec.{ArrayVec}
use Rattle.controller_core.specs.declared.stored.event.Event.{Event}
use Rattle.controller_core.specs.declared.stored.event.Event.TheVariants as event
use Rattle.controller_core.specs.stored.State.{Controlling}
use Rattle.controller_station.specs.Runs.{after, sent}
use Rattle.controller_station.specs.Served.{Served, in_order}
use Rattle.cyclic_data.specs.exchange.Process.{value_at}
use Rattle.c_layout.specs.declared.op.Op.{Op}
use Rattle.c_layout.specs.Places.{place_in}
use Rattle.controller_abi.specs.declared.operation.Operation.{Operation}
use Rattle.controller_abi.specs.declared.operation.Operation.TheVariants as operation
use Rattle.controller_abi.specs.State.{State}
use Rattle.controller_abi.specs.Serves.{IsAlarm, IsDiagnosis, IsPlaceIn, IsValue, Serves, operation_of, with_diagnoses, with_state}
use Rattle.plan_places.specs.Places.{state_at}

-- ---- what a host asks for and gets

-- An operation as the host wrote it, the octets that it gave with it, what was returned, and the operation as the host found
-- it afterwards.
pub record Entry : Type 0 where
  pub asked : Op
  pub given : List ℕ
  pub answer : ℕ
  pub reported : Op

-- The operations, with the octets given.
abbrev pub asked_in : List Entry → List (Op × List ℕ)
asked_in entries = map (λ entry. (entry.asked, entry.given)) entries

-- The operation that an entry asks for, if it exists.
abbrev pub operation_in : Entry → Option Operation
operation_in entry = operation_of entry.asked.what

-- Octets as an event has them: the first 1,519.
abbrev pub bytes_in : List ℕ → ArrayVec ℕ
bytes_in given = record { items = take 1519 given }

-- The events that an operation hands in. Units of time are that many ticks, without those that remain.
abbrev pub handed_in : Option Operation → Entry → List Event
handed_in (Some operation.Frame) entry = event.Frame (bytes_in entry.given) ∷ []
handed_in (Some operation.Tick) entry = replicate (entry.asked.units - entry.reported.units) event.Tick
handed_in (Some operation.Give) entry = event.Give entry.asked.slot entry.asked.subslot (bytes_in entry.given) ∷ []
handed_in (Some operation.Status) entry = event.Status entry.asked.slot entry.asked.subslot (not (entry.asked.is_good == 0)) ∷ []
handed_in (Some operation.ReadRecord) entry = event.Read entry.asked.slot entry.asked.subslot entry.asked.index ∷ []
handed_in (Some operation.WriteRecord) entry =
    event.Write entry.asked.slot entry.asked.subslot entry.asked.index (bytes_in entry.given) ∷ []
handed_in (Some operation.Stop) entry = event.Stop ∷ []
handed_in what entry = []

-- The events that were accepted with an operation: those that it hands in, if it returned 0.
abbrev pub accepted_by : Option Operation → Entry → List Event
accepted_by what entry = if entry.answer == 0 then handed_in what entry else []

-- The accepted events of a run, in order.
abbrev pub accepted_in : List Entry → List Event
accepted_in entries = flat_map (λ entry. accepted_by (operation_in entry) entry) entries

-- The frame that an operation hands out, if it hands one out.
abbrev pub handed_out : Option Operation → Entry → List (List ℕ)
handed_out (Some operation.Next) entry =
    if entry.reported.work == 3 then take entry.reported.length entry.reported.octets ∷ [] else []
handed_out what entry = []

-- The frame that was fetched with an operation, if one was.
abbrev pub fetched_by : Option Operation → Entry → List (List ℕ)
fetched_by what entry = if entry.answer == 0 then handed_out what entry else []

-- The fetched frames of a run, in order.
abbrev pub fetched_in : List Entry → List (List ℕ)
fetched_in entries = flat_map (λ entry. fetched_by (operation_in entry) entry) entries

-- ---- what the controller did

-- The controller of a port and what is beside it.
abbrev pub both : State → Served
both port = record { controller = port.controller; services = port.services }

-- All frames that these events send, in order: at each event those of the controller, and then those of what is beside it.
abbrev pub all_sent : Served → List Event → List (List ℕ)
all_sent served events = flat_map in_order (sent served events)

-- A port after these entries. The controller and what is beside it have made one step for each accepted event, in order. The
-- frames that the host has fetched, and then those that still wait, are all that waited at the beginning and that these
-- steps sent.
pub record Runs (begun : State) (entries : List Entry) (port : State) : Type 0 where
  pub steps : both port ≡ after (both begun) (accepted_in entries)
  pub frames : fetched_in entries ++ port.frames ≡ begun.frames ++ all_sent (both begun) (accepted_in entries)
  pub started : port.is_started ≡ begun.is_started

-- An operation is answered as `Serves` says, at the port after the entries before it. If it is refused, the port and the
-- operation are as they were. It is refused for frames that wait (7) only if frames wait.
pub record IsServed (begun : State) (before : List Entry) (entry : Entry) : Type 0 where
  pub port : State
  pub runs : Runs begun before port
  pub next : State
  pub serves : Serves (operation_in entry) port entry.asked entry.given entry.answer next entry.reported
  pub refused : entry.answer ≢ 0 → (next ≡ port) × (entry.reported ≡ entry.asked)
  pub waits : entry.answer ≡ 7 → port.frames ≢ []

-- Each operation is answered so.
abbrev pub AreServed : State → List Entry → Type 0
AreServed begun entries =
    (before : List Entry) (entry : Entry) (more : List Entry) → entries ≡ before ++ entry ∷ more → IsServed begun before entry

-- An operation that found no frame to fetch.
pub record FindsNone (entry : Entry) : Type 0 where
  pub fetch : operation_in entry ≡ Some operation.Next
  pub answered : entry.answer ≡ 0
  pub none : entry.reported.work ≡ 0

-- After an operation that found no frame to fetch nothing is refused for frames that wait, until an event is accepted.
abbrev pub AreFetched : List Entry → Type 0
AreFetched entries =
    (before : List Entry) (fetch : Entry) (since : List Entry) (entry : Entry) (more : List Entry)
    → entries ≡ before ++ fetch ∷ (since ++ entry ∷ more) → FindsNone fetch → accepted_in since ≡ [] → entry.answer ≢ 7

-- What the host reads of a controller that was started: its state, its last alarm, the device's diagnoses, what is known of a
-- place of its plan, and an input.
abbrev pub Shows : Option Operation → Controlling → Entry → Type 0
Shows (Some operation.State) controller entry = entry.reported ≡ with_state controller.live.phase entry.asked
Shows (Some operation.Alarm) controller entry = IsAlarm controller.live.alarm entry.asked entry.answer entry.reported
Shows (Some operation.Diagnoses) controller entry = entry.reported ≡ with_diagnoses controller.live.diagnosis entry.asked
Shows (Some operation.Diagnosis) controller entry =
    IsDiagnosis (slice_get controller.live.diagnosis.existing entry.asked.number) entry.asked entry.answer entry.reported
Shows (Some operation.Value) controller entry =
    (place : ℕ × ℕ) → place_in entry.asked.slot entry.asked.subslot ≡ Some place
    → IsValue (value_at controller.live.cyclic place.0 place.1) entry.asked entry.answer entry.reported
Shows (Some operation.Place) controller entry =
    (place : ℕ × ℕ) → place_in entry.asked.slot entry.asked.subslot ≡ Some place
    → IsPlaceIn (state_at place.0 place.1 controller.live.places) entry.asked entry.answer entry.reported
Shows what controller entry = Unit {0}
