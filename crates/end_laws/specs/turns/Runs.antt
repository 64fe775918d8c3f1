-- A controller over any events.
use Rattle.std.specs.Prelude.{◌≡◌, ℕ, List, [], ◌∷◌, ◌++◌}
use Rattle.plans.specs.declared.parts.Parts.{Parts}
use Rattle.controller_messages.specs.declared.setup.ControllerOptions.{ControllerOptions}
use Rattle.controller_core.specs.declared.stored.event.Event.{Event}
use Rattle.controller_core.specs.stored.State.{Controlling}
use Rattle.controller_core.specs.Machine.{fresh_with, step_of}

-- The controller after events, one after the other.
abbrev pub behind_all : List Event → Controlling → Controlling
behind_all [] controller = controller
behind_all (event ∷ events) controller = behind_all events (step_of controller event).controller

-- The frames that are sent with them.
abbrev pub frames_of : List Event → Controlling → List (List ℕ)
frames_of [] controller = []
frames_of (event ∷ events) controller = (step_of controller event).frames ++ frames_of events (step_of controller event).controller

-- A controller that some events made of a new controller, of any plan and with any options.
pub record IsReached (controller : Controlling) : Type 0 where
  pub plan : Parts
  pub ar : List ℕ
  pub activity : List ℕ
  pub options : ControllerOptions
  pub events : List Event
  pub made : controller ≡ behind_all events (fresh_with plan ar activity options)
