-- One step of a station.
use Rattle.std.specs.Prelude.{◌≡◌, ◌≢◌, ◌<◌, ◌≤◌, ◌-◌, ◌^◌, ◌⊎◌, ℕ, Bool, true, false, Option, Some, None, List, [], ◌∷◌, length}
use Rattle.flash_model.specs.declared.flash.Flash.{Ghosts as Flash}
use Rattle.pn_values.specs.declared.mac.Mac.{Mac}
use Rattle.dcp_core.specs.declared.request.Service.TheVariants.{Identify}
use Rattle.dcp_core.specs.Request.{Asked}
use Rattle.rpc_core.specs.Call.{Asked as Called}
use Rattle.rpc_core.specs.Cache.{looked, again}
use Rattle.device_frames.specs.declared.event.Event.{Event}
use Rattle.device_frames.specs.declared.event.Event.TheVariants.{Frame, Call, Tick, Neighbour, Application}
use Rattle.device_frames.specs.declared.note.Note.{Note}
use Rattle.device_frames.specs.declared.note.Note.TheVariants.{Done}
use Rattle.device_frames.specs.Heard.{Asks, heard_of}
use Rattle.device_core.specs.Machine.{step_of}
use Rattle.device_core.specs.State as device
use Rattle.device_core.specs.Steps.{Steps, Identifies, IsServed, IsAgain, IsExactStep}
use Rattle.device_station.specs.Serving.{Serving}
use Rattle.device_station.specs.Leaps.{told_at}
use Rattle.device_station.specs.Serving.{news_in, told}
use Rattle.device_station.specs.State.{State, Frames, no_frames}
use Rattle.device_station.specs.Beside.{beside, joined_beside}

-- A step of the device alone: all that the contract of its step says.
pub record DeviceSteps {F : Type 0} {S : ℕ} (as_flash : Flash F S) (old : device.State F) (event : Event) (sent : List (List ℕ)) (said : Note) (new : device.State F) : Type 0 where
  pub steps : Steps as_flash old (heard_of old.station.identity event) sent said new
  pub exact : as_flash.failures new.flash ≡ as_flash.failures old.flash → as_flash.failures old.flash < 2 ^ 64 - 1 → IsExactStep old event sent said new
  pub reliable : as_flash.is_reliable old.flash → old.live.values.has_failed ≡ false →
      as_flash.is_reliable new.flash × (new.live.values.has_failed ≡ false) × IsExactStep old event sent said new
  pub refused : said ≢ Done → (new ≡ old) × (sent ≡ [])
  pub identify : (asker : Mac) (request : Asked) → heard_of old.station.identity event ≡ Asks asker request → request.service ≡ Identify
      → Identifies old asker request sent said new
  pub repeated : (call : Called) (frame : List ℕ) → IsServed old.station old.live (heard_of old.station.identity event) call
      → looked call.header.activity call.header.sequence old.live.rest.calls ≡ again frame → IsAgain old frame sent said new

-- A station with these parts.
abbrev pub station_of : {F : Type 0} → device.State F → Serving → State F
station_of device services = record { device = device; services = services }

-- The device is given a call that the services joined, right after the step that completed it: a step of its own, and its frames
-- are those that are sent. The step before sent none, since the device dropped the last fragment.
abbrev pub Gives : {F : Type 0} {S : ℕ} → Flash F S → Option Event → device.State F → List (List ℕ) → List (List ℕ) → device.State F → Type 0
Gives as_flash None old before now new = (new ≡ old) × (now ≡ before)
Gives as_flash (Some call) old before now new = (before ≡ []) × (said : Note) × DeviceSteps as_flash old call now said new

-- A step of a station: a step of its device alone, with a note of its own, what the services do beside it, and the step in which
-- the device is given the call that the event completed, if it did.
pub record StationSteps {F : Type 0} {S : ℕ} (as_flash : Flash F S) (old : State F) (event : Event) (frames : Frames) (said : Note) (new : State F) : Type 0 where
  pub middle : device.State F
  pub first : List (List ℕ)
  pub note : Note
  pub alone : DeviceSteps as_flash old.device event first note middle
  pub knows : new.services ≡ (beside old.device.station.identity old.services middle.live.values note event).services
  pub sends : frames.services ≡ (beside old.device.station.identity old.services middle.live.values note event).sent
  pub says : said ≡ (beside old.device.station.identity old.services middle.live.values note event).note
  pub gives : Gives as_flash (joined_beside old.services middle.live.values note event) middle first frames.device new.device

-- The neighbour is reported to the device of a station, if it changed since the last report: a step of its own, with the event
-- Neighbour, which sends nothing.
abbrev pub TellsIf : {F : Type 0} {S : ℕ} → Flash F S → Bool → State F → State F → Type 0
TellsIf as_flash true old new =
    DeviceSteps as_flash old.device (news_in old.services) [] Done new.device
    × (new.device ≡ record old.device { live = (step_of [] old.device.station old.device.live (news_in old.services)).live })
    × (new.services ≡ told old.services)
TellsIf as_flash false old new = new ≡ old

-- The neighbour is reported to the device, if it changed since the last report.
abbrev pub Tells : {F : Type 0} {S : ℕ} → Flash F S → State F → State F → Type 0
Tells as_flash old new = TellsIf as_flash old.services.has_news old new

-- The services send at most one frame.
abbrev pub AtMostOne : List (List ℕ) → Type 0
AtMostOne frames = (frames ≡ []) ⊎ ((frame : List ℕ) × (frames ≡ frame ∷ []))

-- In the step of a frame the services send at most one frame, and none if the device sends one. In a tick they send at
-- most two, and otherwise none.
abbrev pub IsSparing : Event → Frames → Type 0
IsSparing (Frame bytes) frames = (frames.services ≡ []) ⊎ ((frames.device ≡ []) × AtMostOne frames.services)
IsSparing (Call caller address octets) frames = frames.services ≡ []
IsSparing Tick frames = length frames.services ≤ 2
IsSparing (Application local) frames = frames.services ≡ []
IsSparing (Neighbour neighbour) frames = frames.services ≡ []

-- The station is as it is once its neighbour was reported to its device, if that changed.
pub record IsReady {F : Type 0} (old new : State F) : Type 0 where
  pub device : new.device ≡ record old.device { live = (told_at old.device.station old.device.live old.services).live }
  pub services : new.services ≡ (told_at old.device.station old.device.live old.services).services

-- One event of a station: the neighbour is reported to the device, if that changed, and then the step is made. If power was lost in
-- it, the services send nothing, and they change nothing unless it was lost only as the device was given a call; if its note is
-- not 'done', nothing is sent and the device is unchanged.
pub record StationTakes {F : Type 0} {S : ℕ} (as_flash : Flash F S) (old : State F) (event : Event) (frames : Frames) (said : Note) (new : State F) : Type 0 where
  pub between : State F
  pub tells : Tells as_flash old between
  pub ready : IsReady old between
  pub steps : StationSteps as_flash between event frames said new
  pub sparing : IsSparing event frames
  pub lost : new.device.live.values.is_lost ≡ true → (frames.services ≡ []) × (steps.middle.live.values.is_lost ≡ true → new.services ≡ between.services)
  pub refused : said ≢ Done → (frames ≡ no_frames) × (new.device ≡ between.device)
