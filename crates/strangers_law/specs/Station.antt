-- A station and the frames of strangers: a device or a controller, with the services beside it.
use Rattle.std.specs.Prelude.{◌≡◌, ℕ, [], Option, Some, None}
use Rattle.flash_model.specs.declared.flash.Flash.{Ghosts as Flash}
use Rattle.relations.specs.RelationState.{RelationState}
use Rattle.device_frames.specs.declared.event.Event.{Event}
use Rattle.device_frames.specs.declared.event.Event.TheVariants.{Frame}
use Rattle.device_frames.specs.declared.note.Note.{Note}
use Rattle.device_core.specs.State.{Live, Station}
use Rattle.device_station.specs.Serving.{Serving, completed, piece_in}
use Rattle.device_station.specs.State.{Frames, State}
use Rattle.device_station.specs.Steps.{StationTakes}
use Rattle.controller_core.specs.declared.stored.event.Event.{Event as ControllerEvent}
use Rattle.controller_station.specs.Runs.{after_event, sent_at}
use Rattle.controller_station.specs.Served.{Served}
use Rattle.strangers_law.specs.Controller.{IsStrangeTo}
use Rattle.strangers_law.specs.Device.{AreAnswers, IsStrange}

-- The call that an event completes for the device, if it is the last fragment of one.
abbrev pub completing : Serving → Event → Option Event
completing services (Frame frame) = completed (piece_in services frame.items)
completing services event = None

-- The call that fragments completed, if any, is of a stranger.
abbrev pub IsStrangeOrNone : Station → RelationState → Option Event → Type 0
IsStrangeOrNone station link (Some call) = IsStrange station link call
IsStrangeOrNone station link None = Unit {0}

-- The event of a stranger at a station: neither the event nor the call that it completes belongs to the relation.
abbrev pub IsStrangeAt : Station → Serving → RelationState → Event → Type 0
IsStrangeAt station services link event = IsStrange station link event × IsStrangeOrNone station link (completing services event)

-- The settings are as they were, and so are the relation with its times, the units, whether the application runs, the statuses, the
-- diagnoses, the number of relations since the start and the modules that are plugged. The neighbour may be another one.
pub record IsKept (old new : Live) : Type 0 where
  pub values : new.values ≡ old.values
  pub link : new.rest.link ≡ old.rest.link
  pub units : new.rest.units ≡ old.rest.units
  pub is_running : new.rest.is_running ≡ old.rest.is_running
  pub statuses : new.rest.statuses ≡ old.rest.statuses
  pub diagnoses : new.rest.diagnoses ≡ old.rest.diagnoses
  pub made : new.rest.made ≡ old.rest.made
  pub real : new.rest.real ≡ old.rest.real

-- A step of a station at the event of a stranger leaves the relation of its device as it was, and what the device sends at it is no cyclic
-- frame, no alarm frame and no call, or a stored answer again.
abbrev pub LeavesStations : {F : Type 0} {S : ℕ} → Flash F S → Type 0
LeavesStations {F} as_flash = (old new : State F) (link : RelationState) (event : Event) (frames : Frames) (said : Note)
    → StationTakes as_flash old event frames said new → old.device.live.rest.link ≡ Some link → IsStrangeAt old.device.station old.services link event
    → IsKept old.device.live new.device.live × AreAnswers old.device.live frames.device

-- A controller beside its services is as it was, and sends nothing.
abbrev pub LeavesServed : Type 0
LeavesServed = (served : Served) (event : ControllerEvent) → IsStrangeTo served.controller event
    → ((after_event served event).controller ≡ served.controller) × ((sent_at served event).controller ≡ [])
