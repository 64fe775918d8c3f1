-- What a host sees of a controller.
use Rattle.std.specs.Prelude.{◌≡◌, ◌≤◌, ◌++◌, ◌⊎◌, ◌&&◌, ◌||◌, Bool, true, false, not, ℕ, List, [], ◌∷◌, drop, Option, Some, None}
use Rattle.arrayvec.specs.ArrayVec.{ArrayVec as Items}
use Rattle.controller_messages.specs.declared.setup.Setup.{Setup}
use Rattle.controller_core.specs.declared.stored.event.Event.{Event}
use Rattle.controller_core.specs.declared.stored.state.State as phase
use Rattle.controller_core.specs.declared.stored.state.State.TheVariants.{Looking, Addressing, Connecting, Writing, Ending, Waiting, Exchanging, Ended}
use Rattle.controller_core.specs.Machine.{before_start, opening_of, step_of}
use Rattle.controller_core.specs.stored.Opening.{IsClosed}
use Rattle.controller_core.specs.stored.State.{Controlling}
use Rattle.controller_station.specs.Beside.{Beside, beside_at}
use Rattle.controller_station.specs.Served.{Served, beside, services_after, told_at}
use Rattle.controller_station.specs.Leaps.{served_due_in}

-- The controller and what is beside it, the frames of their last step that the host has not fetched yet, and whether the host
-- started it.
pub record State : Type 0 where
  pub controller : Controlling
  pub services : Beside
  pub frames : List (List ℕ)
  pub is_started : Bool

-- A controller with this configuration that was made and not started: no request was made, no timer of the controller runs,
-- no relation is established, nothing was received, and no frame waits to be fetched.
pub record IsUnstarted (configuration : Setup) (port : State) : Type 0 where
  pub setup : port.controller.setup ≡ configuration
  pub live : port.controller.live ≡ before_start port.controller.live.cyclic
  pub closed : IsClosed port.controller.live.cyclic
  pub services : port.services ≡ beside_at configuration.plan.controller
  pub frames : port.frames ≡ []
  pub waits : port.is_started ≡ false

-- A controller and what is beside it that begin: its opening frame waits to be fetched.
abbrev pub opened : Served → State
opened served = record {
  controller = served.controller;
  services = served.services;
  frames = opening_of served.controller ∷ [];
  is_started = true;
}

-- One step of the controller, and then beside it: the frames of both wait to be fetched, in this order.
abbrev pub after : State → Event → State
after old event = record {
  controller = (step_of old.controller event).controller;
  services = services_after old.services event (step_of old.controller event).frames;
  frames = (step_of old.controller event).frames
      ++ told_at old.controller.setup.plan event (step_of old.controller event).frames (beside old.services event (step_of old.controller event).frames);
  is_started = old.is_started;
}

-- The number of units up to and including the next one with which anything is sent, the neighbour is
-- forgotten, or the controller ends.
abbrev pub port_due_in : State → ℕ
port_due_in port = served_due_in (record { controller = port.controller; services = port.services })

-- Whether frames remain.
abbrev pub has_frames : List (List ℕ) → Bool
has_frames [] = false
has_frames (frame ∷ frames) = true

-- The next frame, if one remains.
abbrev pub IsNext : List (List ℕ) → Option (Items ℕ) → Type 0
IsNext frames None = frames ≡ []
IsNext frames (Some frame) = (rest : List (List ℕ)) × (frames ≡ frame.items ∷ rest)

-- The next frame is fetched.
abbrev pub advanced : State → State
advanced port = record port { frames = drop 1 port.frames }

-- Whether a controller has ended.
abbrev pub is_over : phase.State → Bool
is_over Looking = false
is_over Addressing = false
is_over Connecting = false
is_over Writing = false
is_over Ending = false
is_over Waiting = false
is_over Exchanging = false
is_over (Ended cause) = true

-- Whether frames remain, or the controller has ended since.
abbrev pub is_stopped : Bool → State → Bool
is_stopped was_over port = has_frames port.frames || (not was_over && is_over port.controller.live.phase)

-- What a port remembers of what is due: no more than that, and all frames are fetched; or nothing, which is 0.
abbrev pub IsKnown : ℕ → State → Type 0
IsKnown due port = (due ≡ 0) ⊎ ((due ≤ port_due_in port) × (port.frames ≡ []))
