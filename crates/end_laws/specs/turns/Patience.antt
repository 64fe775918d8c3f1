-- How long a state of a controller lasts.
use Rattle.std.specs.Prelude.{◌≡◌, ◌≢◌, ◌<◌, ◌≤◌, ℕ, suc, true, List, [], ◌∷◌, if◌then◌else◌, Option, Some, None}
use Rattle.controller_core.specs.declared.stored.event.Event.{Event}
use Rattle.controller_core.specs.declared.stored.event.Event.TheVariants.{Tick}
use Rattle.controller_core.specs.declared.stored.state.Cause.TheVariants.{NoProgress}
use Rattle.controller_core.specs.declared.stored.state.State.{State}
use Rattle.controller_core.specs.declared.stored.state.State.TheVariants.{Addressing, Ended}
use Rattle.controller_core.specs.stored.State.{Controlling, is_limited, patience_in}
use Rattle.controller_core.specs.Machine.{step_of}
use Rattle.end_laws.specs.turns.Ended.{is_unit, release_of}
use Rattle.end_laws.specs.turns.Runs.{IsReached}

-- The number of units among events.
abbrev pub units_in : List Event → ℕ
units_in [] = 0
units_in (event ∷ events) = if is_unit event then suc (units_in events) else units_in events

-- The controller is in this state after each of these events, one after the other.
abbrev pub StaysIn : State → List Event → Controlling → Type 0
StaysIn state [] controller = Unit {0}
StaysIn state (event ∷ events) controller =
    ((step_of controller event).controller.live.phase ≡ state) × StaysIn state events (step_of controller event).controller

-- The patience of the state in which a controller is, in units. 0 is no limit: it looks for the station, exchanges data or has
-- ended, or the options set none.
abbrev pub patience_of : Controlling → ℕ
patience_of controller = patience_in controller.setup.options controller.live.phase

-- ---- the law

-- In a state with a patience, the units that it may still last are at least 1, and at most its patience.
abbrev pub HasTimeLeft : Type 0
HasTimeLeft = (controller : Controlling) → IsReached controller → patience_of controller ≢ 0
    → (1 ≤ controller.live.left) × (controller.live.left ≤ patience_of controller)

-- For any events after which a controller is still in the same state, that has a patience, fewer units pass than it may still
-- last; so fewer than its patience.
abbrev pub NoneLastsLonger : Type 0
NoneLastsLonger = (controller : Controlling) (events : List Event) → IsReached controller → patience_of controller ≢ 0
    → StaysIn controller.live.phase events controller
    → (units_in events < controller.live.left) × (units_in events < patience_of controller)

-- What a controller sends when the patience of this state ends: nothing if it set the address, for no relation was asked for.
-- Otherwise the Release that is active from then on.
abbrev pub IsInformed : State → List (List ℕ) → Option (List ℕ) → Type 0
IsInformed Addressing frames release = (frames ≡ []) × (release ≡ None)
IsInformed state frames release = (frame : List ℕ) × (frames ≡ frame ∷ []) × (release ≡ Some frame)

-- The last of these units ends the controller, and informs the device of it.
abbrev pub EndsInTime : Type 0
EndsInTime = (controller : Controlling) → is_limited controller.live.phase ≡ true → controller.live.left ≡ 1
    → ((step_of controller Tick).controller.live.phase ≡ Ended NoProgress)
    × IsInformed controller.live.phase (step_of controller Tick).frames (release_of (step_of controller Tick).controller)
