-- A request is sent again each second until it is answered.
use Rattle.std.specs.Prelude.{◌≡◌, ◌+◌, ◌%◌, ◌==◌, ◌++◌, ◌∷◌, [], Bool, true, false, List, Some}
use Rattle.std.specs.List.{list_any}
use Rattle.controller_messages.specs.declared.request.Request.{Request}
use Rattle.controller_messages.specs.Sent.{Sent, Requests}
use Rattle.controller_core.specs.declared.stored.event.Event.{Event}
use Rattle.controller_core.specs.declared.stored.event.Event.TheVariants.{Tick}
use Rattle.controller_core.specs.stored.State.{Controlling}
use Rattle.controller_core.specs.Machine.{step_of, turn_of}
use Rattle.end_laws.specs.turns.Patience.{units_in}
use Rattle.end_laws.specs.turns.Runs.{IsReached, behind_all}

-- One request of the start-up, or the Release, is active after each of these events.
abbrev pub StaysAsked : Request → List Event → Controlling → Type 0
StaysAsked request [] controller = Unit {0}
StaysAsked request (event ∷ events) controller =
    ((step_of controller event).controller.live.asked ≡ Some request) × StaysAsked request events (step_of controller event).controller

-- Whether a message is such a request, and whether one is sent.
abbrev pub is_request : Sent → Bool
is_request (Requests device request) = true
is_request message = false

-- Whether one of these messages is a request.
abbrev pub sends_request : List Sent → Bool
sends_request sent = list_any is_request sent

-- From when a request was sent on, and as long as it is active, for any events between: a request is sent with each 32,000th unit,
-- and with no other unit.
abbrev pub AsksEachSecond : Type 0
AsksEachSecond = (controller : Controlling) (request : Request) (events : List Event) → IsReached controller
    → controller.live.asked ≡ Some request → controller.live.waited ≡ 0 → StaysAsked request (events ++ Tick ∷ []) controller
    → sends_request (turn_of controller.setup (behind_all events controller).live Tick).sent ≡ ((units_in events + 1) % 32000 == 0)
