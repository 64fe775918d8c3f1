-- The result of a host's cycle, at whatever point it is cut off.
use Rattle.std.specs.Prelude.{◌≡◌, ◌≢◌, ◌⊎◌, ◌≤◌, ℕ, false, List, [], ◌∷◌, ◌++◌, flat_map, length, Option, Some, Result, Ok, Err, IsOk, None}
use Rattle.pn_values.specs.declared.settings.Settings.{Settings}
use Rattle.flash_model.specs.Calls.{Call}
use Rattle.flash_model.specs.Image.{Image, IsImage}
use Rattle.settings_journal.specs.Cut.{CutOff, IsCutShort, all_carried_out, carried_out}
use Rattle.settings_journal.specs.Image.{BootsTo, LeftByDevice, StartsWith}
use Rattle.settings_journal.specs.settings_store.Legal.{made_of}
use Rattle.settings_journal.specs.settings_store.Machine.{Accepted}
use Rattle.device_station.specs.recorded.Record.{image_of}
use Rattle.device_frames.specs.declared.event.Event.{Event}
use Rattle.device_frames.specs.declared.note.Note.{Note}
use Rattle.device_core.specs.Cycle.{cycle_of, started}
use Rattle.device_core.specs.Machine.{Ran, Stepped, run_of, step_of}
use Rattle.device_core.specs.State.{Live, Station}
use Rattle.device_station.specs.Beside.{beside, joined_beside}
use Rattle.device_station.specs.Leaps.{Leapt, told_at}
use Rattle.device_station.specs.Runs.{call_of, news_of}
use Rattle.device_station.specs.Serving.{Serving}
use Rattle.device_station.specs.State.{Frames, in_order, of_device}
use Rattle.device_abi.specs.declared.host.Operation.{Operation}
use Rattle.device_abi.specs.declared.host.Operation.TheVariants as operation
use Rattle.device_station.specs.declared.port.stage.Stage.TheVariants.{Booted}
use Rattle.device_station.specs.port.State.{State}
use Rattle.device_station.specs.port.Served.{Served, IsFetched, barred_both, frames_of}
use Rattle.device_station.specs.port.ServedSteps.{TakesBoth}

-- ---- events at a device with the services beside it

-- What one event was: what the device heard, the frames that were sent, and the services after it.
pub record Turn : Type 0 where
  pub heard : List Event
  pub sent : Frames
  pub services : Option Serving

-- An event of which the device heard this, in order: its frames are those of these steps, followed by those of the services.
abbrev pub turn_with : Station → Live → List Event → List (List ℕ) → Option Serving → Turn
turn_with station live heard own services =
    record { heard = heard; sent = record { device = (run_of [] station live heard).frames; services = own }; services = services }

-- An event, with this step of the device that knows its neighbour: the services do what is said of them beside this step, and the
-- device hears its neighbour, if that changed, the event, and the call that the event completed, if it did.
abbrev pub turn_by : Station → Live → Serving → Event → Leapt → Stepped → Turn
turn_by station live state event ready step =
    let after = beside station.identity ready.services step.live.values step.note event in
    turn_with station live (news_of state ++ event ∷ call_of (joined_beside ready.services step.live.values step.note event)) after.sent (Some after.services)

-- One event, at a device without services, and with services beside it.
unfoldable pub turn_of : Station → Live → Option Serving → Event → Turn
turn_of station live None event = turn_with station live (event ∷ []) [] None
turn_of station live (Some state) event =
    let ready = told_at station live state in turn_by station live state event ready (step_of [] station ready.live event)

-- Events, one after another: what the device heard, the frames of each event, and the services after them.
pub record Hosted : Type 0 where
  pub heard : List Event
  pub turns : List Frames
  pub services : Option Serving

-- One event, and then more.
abbrev pub then_hosted : Turn → Hosted → Hosted
then_hosted turn more = record { heard = turn.heard ++ more.heard; turns = turn.sent ∷ more.turns; services = more.services }

-- What a device and the services beside it do with these events, from this state on.
abbrev pub hosted_from : Station → Live → Option Serving → List Event → Hosted
hosted_from station live services [] = record { heard = []; turns = []; services = services }
hosted_from station live services (event ∷ events) =
    let turn = turn_of station live services event in
    then_hosted turn (hosted_from station (run_of [] station live turn.heard).live turn.services events)

-- ---- the law

-- A cycle begins: the fixed properties of the device, the first settings with room for this many commits, the services beside it, if there
-- are any, and what was sent before.
pub record Begun : Type 0 where
  pub station : Station
  pub first : Settings
  pub room : ℕ
  pub services : Option Serving
  pub sent : List (List ℕ)

-- The device after it heard these events in the cycle: the frames that it sent, and the commands that it accepted.
unfoldable pub after : Begun → List Event → Ran
after begun heard = cycle_of [] begun.station begun.first begun.room heard

-- What these events of the cycle were to the device and the services beside it.
unfoldable pub hosted : Begun → List Event → Hosted
hosted begun events = hosted_from begun.station (started begun.station.real begun.first begun.room) begun.services events

-- What the device heard of these events: the events, and the Neighbour events and the joined calls where the services gave them.
abbrev pub heard : Begun → List Event → List Event
heard begun events = (hosted begun events).heard

-- The frames of these events, in order: those of each event, the device's and then the services'.
abbrev pub frames_by : Begun → List Event → List (List ℕ)
frames_by begun events = flat_map in_order (hosted begun events).turns

-- A start on the chip gives the first settings changed by all accepted commands of what the device heard and answered, and by a prefix
-- of the commands accepted after that.
pub record Stores (begun : Begun) (answered taken : List Event) (chip : Image) : Type 0 where
  pub stored : List Accepted
  pub unstored : List Accepted
  pub commands : (after begun taken).accepted ≡ (after begun answered).accepted ++ (stored ++ unstored)
  pub left : LeftByDevice chip
  pub boots : BootsTo chip (made_of ((after begun answered).accepted ++ stored) begun.first)

-- The point at which a host that has sent all this was cut off, or has reached. The events are, in order: those that
-- are answered, of which each call was carried out and a frame may have been sent; at most one that is under way, of
-- which no frame was sent; and those that the host missed. The device's frames among those of the answered events are those of a run
-- of the device alone over what it heard.
pub record Ends (begun : Begun) (events : List Event) (now : List (List ℕ)) (chip : Image) : Type 0 where
  pub answered : List Event
  pub under_way : List Event
  pub missed : List Event
  pub are : events ≡ (answered ++ under_way) ++ missed
  pub one : length under_way ≤ 1
  pub unsent : List (List ℕ)
  pub frames : now ++ unsent ≡ begun.sent ++ frames_by begun answered
  pub alone : flat_map of_device (hosted begun answered).turns ≡ (after begun (heard begun answered)).frames
  pub stores : Stores begun (heard begun answered) (heard begun (answered ++ under_way)) chip

-- A host that was not cut off missed no event. If it has fetched all work, each event is answered and each frame is
-- sent.
abbrev pub EndsBy : {E : Type 0} → Result (Unit {0}) E → Begun → List Event → List (List ℕ) → Served → Image → Type 0
EndsBy (Ok done) begun events now port chip =
    (ends : Ends begun events now chip) × (ends.missed ≡ []) × (IsFetched port → (ends.under_way ≡ []) × (ends.unsent ≡ []))
EndsBy (Err fault) begun events now port chip = Ends begun events now chip

-- The events among operations, in order.
abbrev pub events_of : List Operation → List Event
events_of [] = []
events_of (operation.Happens event ∷ more) = event ∷ events_of more
events_of (operation.Works ∷ more) = events_of more

-- A port that has just started from the content of the chip.
pub record IsFresh (port : Served) (chip : Image) : Type 0 where
  pub stage : port.port.stage ≡ Booted
  pub idle : IsFetched port
  pub holds : image_of port.port.device.flash ≡ chip
  pub live : port.port.device.live ≡ started port.port.device.station.real port.port.device.live.values.stored port.port.device.live.values.room
  pub starts : StartsWith chip port.port.device.live.values.stored port.port.device.live.values.room
  pub left : LeftByDevice chip

-- The cycle that begins with this port, and with this sent before.
abbrev pub begun_by : Served → List (List ℕ) → Begun
begun_by port sent = record {
  station = port.port.device.station;
  first = port.port.device.live.values.stored;
  room = port.port.device.live.values.room;
  services = port.services;
  sent = sent;
}

-- ---- the state of a host from operation to operation

-- A call was carried out on a chip, or it failed, and then it was cut short.
abbrev pub Carries : {E : Type 0} → Image → Call → Result (Unit {0}) E → Image → Type 0
Carries old call (Ok done) new = new ≡ carried_out old call
Carries old call (Err fault) new = IsCutShort old call new

-- An event is handled, or it is refused, and then nothing changes.
abbrev pub HandsIn : Served → Event → Served → Type 0
HandsIn old event new = ((barred_both old ≡ None) × ((note : Note) × TakesBoth old event note new)) ⊎ ((barred_both old ≢ None) × (new ≡ old))

-- The next piece of work of these calls and frames: the first call is carried out on the chip, or it fails; if no call
-- remains, the first frame is sent; if nothing remains, nothing happens.
abbrev pub Performs : {E : Type 0} → List Call → List (List ℕ) → Image → List (List ℕ) → Result (Unit {0}) E → Image → List (List ℕ) → Type 0
Performs (call ∷ calls) frames chip sent result chip_then now = Carries chip call result chip_then × (now ≡ sent)
Performs [] (frame ∷ frames) chip sent result chip_then now = IsOk result × (chip_then ≡ chip) × (now ≡ sent ++ frame ∷ [])
Performs [] [] chip sent result chip_then now = IsOk result × (chip_then ≡ chip) × (now ≡ sent)

-- The device heard this. It is in the state that this makes. The remaining calls turn the chip into the device's own image, on which a
-- start gives the result of all accepted commands.
pub record Keeps (begun : Begun) (told : List Event) (port : State) (chip : Image) : Type 0 where
  pub stage : port.stage ≡ Booted
  pub station : port.device.station ≡ begun.station
  pub live : port.device.live ≡ (after begun told).live
  pub power : port.device.live.values.is_lost ≡ false
  pub image : image_of port.device.flash ≡ all_carried_out chip port.calls
  pub left : LeftByDevice (image_of port.device.flash)
  pub stored : port.device.live.values.stored ≡ made_of (after begun told).accepted begun.first
  pub boots : StartsWith (image_of port.device.flash) port.device.live.values.stored port.device.live.values.room

-- The calls of the last event are not all carried out: none of its frames was sent, and at whatever point they are cut
-- off, the chip stores the result of all events before it and of a prefix of its commands.
pub record UnderWay (begun : Begun) (events : List Event) (now : List (List ℕ)) (calls : List Call) (chip : Image) : Type 0 where
  pub earlier : List Event
  pub last : Event
  pub are : events ≡ earlier ++ last ∷ []
  pub sent : now ≡ begun.sent ++ frames_by begun earlier
  pub cut : (torn : Image) → IsImage 4096 torn → CutOff chip calls torn → Stores begun (heard begun earlier) (heard begun events) torn

-- The calls that remain are under way on the chip, if any remain.
abbrev pub IsOpen : Begun → List Event → List (List ℕ) → List Call → Image → Type 0
IsOpen begun events now [] chip = Unit {0}
IsOpen begun events now (call ∷ calls) chip = UnderWay begun events now (call ∷ calls) chip

-- These events were handled: the device and the services are in the state that they make, and the remaining frames complete what was
-- sent.
pub record Stands (begun : Begun) (events : List Event) (now : List (List ℕ)) (port : Served) (chip : Image) : Type 0 where
  pub keeps : Keeps begun (heard begun events) port.port chip
  pub services : port.services ≡ (hosted begun events).services
  pub frames : now ++ frames_of port ≡ begun.sent ++ frames_by begun events
  pub opened : IsOpen begun events now port.port.calls chip

-- It goes on with these further events, or it is cut off.
abbrev pub GoesOn : {E : Type 0} → Result (Unit {0}) E → Begun → List Event → List Event → List (List ℕ) → Served → Image → Type 0
GoesOn (Ok done) begun events more now port chip = Stands begun (events ++ more) now port chip
GoesOn (Err fault) begun events more now port chip = Ends begun events now chip

-- All work is fetched, or it is cut off.
abbrev pub Settles : {E : Type 0} → Result (Unit {0}) E → Begun → List Event → List (List ℕ) → Served → Image → Type 0
Settles (Ok done) begun events now port chip = Stands begun events now port chip × IsFetched port
Settles (Err fault) begun events now port chip = Ends begun events now chip
