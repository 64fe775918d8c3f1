-- The steps of a controller, one after another, and what a witness learns of them.
use Rattle.std.specs.Prelude.{◌≡◌, List, [], ◌∷◌, ◌++◌}
use Rattle.controller_core.specs.declared.stored.event.Event.{Event}
use Rattle.controller_core.specs.stored.State.{Controlling}
use Rattle.controller_core.specs.Machine.{step_of}
use Rattle.end_laws.specs.turns.Runs.{behind_all}
use Rattle.exchange_law.specs.declared.controller.Happening.{Happening}
use Rattle.exchange_law.specs.Told.{AreOf, IsOf, Told}

-- What a witness learns of one step.
abbrev pub told_by : Controlling → Event → Told
told_by old event = record { event = event; sent = (step_of old event).frames; state = (step_of old event).controller.live.phase }

-- What it learns of the steps with these events.
abbrev pub told_of : List Event → Controlling → List Told
told_of [] old = []
told_of (event ∷ events) old = told_by old event ∷ told_of events (step_of old event).controller

-- One step, and what the witness knew before and after it.
pub record Turns (old : Controlling) (event : Event) (before now : List Told) (new : Controlling) : Type 0 where
  pub told : now ≡ before ++ told_by old event ∷ []
  pub becomes : new ≡ (step_of old event).controller

-- The steps of one thing that happens.
pub record Happens (old : Controlling) (one : Happening) (before now : List Told) (new : Controlling) : Type 0 where
  pub events : List Event
  pub are : IsOf one events
  pub told : now ≡ before ++ told_of events old
  pub becomes : new ≡ behind_all events old

-- The steps of all that happens.
pub record Runs (old : Controlling) (happenings : List Happening) (before now : List Told) (new : Controlling) : Type 0 where
  pub events : List Event
  pub are : AreOf happenings events
  pub told : now ≡ before ++ told_of events old
  pub becomes : new ≡ behind_all events old
