-- A run of a station, and a cycle of it.
use Rattle.std.specs.Prelude.{◌≡◌, ◌<◌, ◌-◌, ◌^◌, ◌⊎◌, ℕ, false, Option, Some, None, List, [], ◌∷◌, ◌++◌, flat_map, if◌then◌else◌}
use Rattle.flash_model.specs.declared.flash.Flash.{Ghosts as Flash}
use Rattle.pn_values.specs.declared.settings.Settings.{Settings}
use Rattle.settings_journal.specs.declared.journal.BootFault.{BootFault}
use Rattle.device_frames.specs.declared.event.Event.{Event}
use Rattle.device_frames.specs.declared.note.Note.{Note}
use Rattle.device_core.specs.State.{Station}
use Rattle.device_core.specs.State as device
use Rattle.device_core.specs.Faults.{RunGoesOn}
use Rattle.device_core.specs.Steps.{IsBehindCalls, IsExactRun, Runs, TakesRoom}
use Rattle.device_core.specs.Cycle.{IsStartedFrom, Refuses, RefusesAfter, Restarts}
use Rattle.device_station.specs.Serving.{Serving, news_in, serving_at}
use Rattle.device_station.specs.State.{State, Frames, handed_on, in_order, of_device}
use Rattle.device_station.specs.Beside.{joined_beside}
use Rattle.device_station.specs.Steps.{StationSteps, Tells}

-- A run of the device alone: all that the contract of its run says.
pub record DeviceRuns {F : Type 0} {S : ℕ} (as_flash : Flash F S) (old : device.State F) (events : List Event) (before now : List (List ℕ)) (new : device.State F) : Type 0 where
  pub runs : Runs as_flash old events before now new
  pub exact : as_flash.failures new.flash ≡ as_flash.failures old.flash → as_flash.failures old.flash < 2 ^ 64 - 1 → IsExactRun old events before now new
  pub reliable : as_flash.is_reliable old.flash → old.live.values.has_failed ≡ false →
      as_flash.is_reliable new.flash × (new.live.values.has_failed ≡ false) × IsExactRun old events before now new
  pub goes_on : new.live.values.is_lost ≡ false → RunGoesOn old events before now new
  pub calls : IsBehindCalls old.live.rest.calls new.live.rest.calls
  pub room : new.live.values.has_failed ≡ false → TakesRoom old events new

-- What a run hands on of an event: the frames of the device, then those of the services, and none once power is lost.
pub record StationHandsOn {F : Type 0} {S : ℕ} (as_flash : Flash F S) (old : State F) (event : Event) (before now : List (List ℕ)) (new : State F) : Type 0 where
  pub between : State F
  pub sent : Frames
  pub said : Note
  pub tells : Tells as_flash old between
  pub steps : StationSteps as_flash between event sent said new
  pub handed : now ≡ before ++ in_order (handed_on new.device.live.values.is_lost sent)

-- The Neighbour event that the device is given before the next one: one if the neighbour changed, else none.
abbrev pub news_of : Serving → List Event
news_of serving = if serving.has_news then news_in serving ∷ [] else []

-- The event of the call that the device is given in a step: one if the event completed a call, else none.
abbrev pub call_of : Option Event → List Event
call_of None = []
call_of (Some call) = call ∷ []

-- The event of the call that was completed in a step, if one was.
abbrev pub call_in : {F : Type 0} {S : ℕ} {as_flash : Flash F S} {old : State F} {event : Event} {frames : Frames} {said : Note} {new : State F} → StationSteps as_flash old event frames said new → List Event
call_in {F} {S} {as_flash} {old} {event} steps = call_of (joined_beside old.services steps.middle.live.values steps.note event)

-- The steps of a station one by one, what its device heard, and the frames of each step that were handed on. The device
-- heard the same events, and the Neighbour events and the joined calls where the services gave them.
abbrev pub StepByStep : {F : Type 0} {S : ℕ} → Flash F S → State F → List Event → List Event → List Frames → State F → Type 0
StepByStep as_flash old [] heard turns new = (heard ≡ []) × (turns ≡ []) × (new ≡ old)
StepByStep {F} as_flash old (event ∷ events) heard turns new =
    (between : State F) × (sent : Frames) × (said : Note) × (next : State F) × (more : List Event) × (later : List Frames)
    × Tells as_flash old between × (steps : StationSteps as_flash between event sent said next)
    × (heard ≡ news_of old.services ++ event ∷ (call_in steps ++ more)) × (turns ≡ handed_on next.device.live.values.is_lost sent ∷ later)
    × StepByStep as_flash next events more later new

-- A run of a station: its steps one by one. Its device is that of a run of the device alone over the same events, with the
-- Neighbour events and the joined calls put in where the services gave them; that run hands on the device's frames, in order. The sink accepted
-- the frames of each step: the device's, and then the services'.
pub record StationRuns {F : Type 0} {S : ℕ} (as_flash : Flash F S) (old : State F) (events : List Event) (before now : List (List ℕ)) (new : State F) : Type 0 where
  pub heard : List Event
  pub turns : List Frames
  pub steps : StepByStep as_flash old events heard turns new
  pub alone : DeviceRuns as_flash old.device heard [] (flat_map of_device turns) new.device
  pub handed : now ≡ before ++ flat_map in_order turns

-- Services that have just begun beside a device, with its MAC address and running settings.
abbrev pub ServesFrom : {F : Type 0} → device.State F → Serving → Type 0
ServesFrom device state = state ≡ serving_at device.station.identity device.live.values.running

-- A station was started from this flash, with services that begin there, and then ran the events.
pub record StationCycled {F : Type 0} {S : ℕ} (as_flash : Flash F S) (station : Station) (flash : F) (events : List Event) (before now : List (List ℕ)) : Type 0 where
  pub begun : State F
  pub ended : State F
  pub starts : IsStartedFrom as_flash station flash begun.device
  pub serves : ServesFrom begun.device begun.services
  pub ran : StationRuns as_flash begun events before now ended

-- What the device heard in a cycle: the events, the Neighbour events and the joined calls.
abbrev pub heard_by_device : {F : Type 0} {S : ℕ} {as_flash : Flash F S} {station : Station} {flash : F} {events : List Event} {before now : List (List ℕ)} → StationCycled as_flash station flash events before now → List Event
heard_by_device cycled = cycled.ran.heard

-- The frames that the device sent in a cycle.
abbrev pub frames_of_device : {F : Type 0} {S : ℕ} {as_flash : Flash F S} {station : Station} {flash : F} {events : List Event} {before now : List (List ℕ)} → StationCycled as_flash station flash events before now → List (List ℕ)
frames_of_device cycled = flat_map of_device cycled.ran.turns

-- The headline of a station: after its cycle a restart finds what it finds of a device alone, for what the station's device
-- heard and for the frames that it sent.
pub record StationRestarts {F : Type 0} {S : ℕ} (as_flash : Flash F S) (power_up : F → F → Type 0) (station : Station) (flash : F) (first : Settings) (room : ℕ) (events : List Event) (before now : List (List ℕ)) (restarted : State F) : Type 0 where
  pub cycled : StationCycled as_flash station flash events before now
  pub alone : Restarts as_flash power_up station flash first room (heard_by_device cycled) [] (frames_of_device cycled) restarted.device

-- The start after a cycle of a station was refused: what is said of a device then.
pub record StationRefusesAfter {F : Type 0} {S : ℕ} (as_flash : Flash F S) (power_up : F → F → Type 0) (station : Station) (flash : F) (events : List Event) (before now : List (List ℕ)) (fault : BootFault) (left : F) : Type 0 where
  pub cycled : StationCycled as_flash station flash events before now
  pub alone : RefusesAfter as_flash power_up station flash (heard_by_device cycled) [] (frames_of_device cycled) fault left

-- A start was refused: the first one, and nothing was handed on, or the one after the cycle.
abbrev pub IsStationRefused : {F : Type 0} {S : ℕ} → Flash F S → (F → F → Type 0) → Station → F → List Event → List (List ℕ) → List (List ℕ) → BootFault → F → Type 0
IsStationRefused as_flash power_up station flash events before now fault left =
    ((now ≡ before) × Refuses as_flash flash fault left) ⊎ StationRefusesAfter as_flash power_up station flash events before now fault left
