-- What a port with the services beside its device does with what happens.
use Rattle.std.specs.Prelude.{◌≡◌, ◌≢◌, ◌<◌, ◌≤◌, ◌-◌, ⊤, ℕ, zero, suc, Bool, true, false, List, [], if◌then◌else◌, Option, Some, None, Result, Ok, Err}
use Rattle.std.specs.Option.{option_map}
use Rattle.flash_model.specs.declared.flash.Sector.{Sector}
use Rattle.pn_values.specs.declared.identity.Identity.{Identity}
use Rattle.settings_journal.specs.settings_store.State.{Values}
use Rattle.device_frames.specs.declared.event.Event.{Event}
use Rattle.device_frames.specs.declared.event.Event.TheVariants.{Frame, Call, Tick, Neighbour, Application}
use Rattle.device_frames.specs.declared.note.Note.{Note}
use Rattle.device_frames.specs.declared.note.Note.TheVariants.{Done}
use Rattle.device_core.specs.OpenAlarm.{has_open_alarm}
use Rattle.device_station.specs.Beside.{beside, has_any, is_dropped, joined_beside}
use Rattle.device_station.specs.Leaps.{services_due}
use Rattle.device_station.specs.Serving.{Serving, disputes, news_in, observed, serving_at, told}
use Rattle.device_station.specs.declared.port.device.Passed.{Passed}
use Rattle.device_station.specs.declared.port.refusal.Refusal.{Refusal}
use Rattle.device_station.specs.declared.port.refusal.Refusal.TheVariants as refusal
use Rattle.device_station.specs.port.State.{State, barred}
use Rattle.device_station.specs.port.Steps.{KnowsOrNot, StartsOrNot, Takes}
use Rattle.device_station.specs.port.Pace.{Calm}
use Rattle.device_station.specs.port.Served.{Served, barred_both, due_both, waiting_both}

-- What the services, if there are any, do beside a step that left the device with these settings and gave this note: the
-- services after it, the frames that they send, and the note of the station.
abbrev pub IsBeside : Option Serving → Identity → Values → Note → Event → Option Serving → List (List ℕ) → Note → Type 0
IsBeside None identity values said event services frames note = (services ≡ None) × (frames ≡ []) × (note ≡ said)
IsBeside (Some state) identity values said event services frames note =
    let after = beside identity state values said event in (services ≡ Some after.services) × (frames ≡ after.sent) × (note ≡ after.note)

-- The neighbour is reported to the device: one step of the port, which sends nothing.
pub record Tells (old : Served) (state : Serving) (new : Served) : Type 0 where
  pub takes : Takes old.port (news_in state) Done new.port
  pub serves : new.serves ≡ old.serves
  pub services : new.services ≡ Some (told state)
  pub frames : new.frames ≡ old.frames

-- The neighbour is reported to the device of a port: what the port and its services are then.
abbrev pub TellsPort : Bool → State → Serving → State → Serving → Type 0
TellsPort true old state new after = Takes old (news_in state) Done new × (after ≡ told state)
TellsPort false old state new after = (new ≡ old) × (after ≡ state)

-- What a port and its services, if there are any, are once the neighbour is reported.
abbrev pub TellsPortAny : Option Serving → State → State → Option Serving → Type 0
TellsPortAny None old new after = (new ≡ old) × (after ≡ None)
TellsPortAny (Some state) old new after = (now : Serving) × TellsPort state.has_news old state new now × (after ≡ Some now)

-- The neighbour is reported to the device if it changed since the last report.
abbrev pub TellsIf : Bool → Served → Serving → Served → Type 0
TellsIf true old state new = Tells old state new
TellsIf false old state new = new ≡ old

-- The neighbour is reported to the device, if there are services and it changed.
abbrev pub TellsOf : Option Serving → Served → Served → Type 0
TellsOf None old new = new ≡ old
TellsOf (Some state) old new = TellsIf state.has_news old state new

-- The neighbour is reported to the device of a port with its services, if it changed.
abbrev pub TellsBoth : Served → Served → Type 0
TellsBoth old new = TellsOf old.services old new

-- The device is given a call that the services joined, right after the step that completed it: a step of its own. The step before
-- left no work, since the device dropped the last fragment.
abbrev pub GivesPort : Option Event → State → State → Type 0
GivesPort None old new = new ≡ old
GivesPort (Some call) old new = (barred old ≡ None) × (said : Note) × Takes old call said new

-- The device is given the call that a frame completed, if it did.
abbrev pub GivesAny : Option Serving → Values → Note → Event → State → State → Type 0
GivesAny None values said event old new = new ≡ old
GivesAny (Some state) values said event old new = GivesPort (joined_beside state values said event) old new

-- One step of the port alone, with a note of its own, what the services do beside it, and the step in which the device is given
-- the call that the event completed, if it did.
pub record StepsBoth (old : Served) (event : Event) (note : Note) (new : Served) : Type 0 where
  pub said : Note
  pub middle : State
  pub alone : Takes old.port event said middle
  pub serves : new.serves ≡ old.serves
  pub beside : IsBeside old.services old.port.device.station.identity middle.device.live.values said event new.services new.frames note
  pub gives : GivesAny old.services middle.device.live.values said event middle new.port

-- An event: the neighbour is reported to the device, if that changed, and then the step is made.
pub record TakesBoth (old : Served) (event : Event) (note : Note) (new : Served) : Type 0 where
  pub between : Served
  pub tells : TellsBoth old between
  pub free : barred_both between ≡ None
  pub steps : StepsBoth between event note new

-- An event is handled, or refused, and then nothing changes.
abbrev pub AnswersBoth : Served → Event → Result Note Refusal → Served → Type 0
AnswersBoth old event (Ok note) new = (barred_both old ≡ None) × TakesBoth old event note new
AnswersBoth old event (Err refusal) new = (barred_both old ≡ Some refusal) × (new ≡ old)

-- This many units of time passed, one step each, and all work was fetched before each.
abbrev pub TicksBoth : ℕ → Served → Served → Type 0
TicksBoth zero old new = new ≡ old
TicksBoth (suc units) old new = (between : Served) × (note : Note) × TicksBoth units old between × (barred_both between ≡ None) × TakesBoth between Tick note new

-- All of these units except the remaining ones passed, one step each. Some remain only if the last one sent something.
pub record PassesBoth (old : Served) (units left : ℕ) (new : Served) : Type 0 where
  pub few : left ≤ units
  pub ticks : TicksBoth (units - left) old new
  pub stops : left ≢ 0 → barred_both new ≡ Some refusal.HasWork

-- Units pass at a port and its services, with what is due after them, or no unit passed.
abbrev pub PassesBothOrNot : Served → ℕ → Result Passed Refusal → Served → Type 0
PassesBothOrNot old units (Ok passed) new = (barred_both old ≡ None) × PassesBoth old units passed.left new × (passed.due ≡ due_both new)
PassesBothOrNot old units (Err refusal) new = (barred_both old ≡ Some refusal) × (new ≡ old)

-- Units pass that bring nothing, fewer than are due, with what is due then, or none passes and nothing changes. No process alarm is open.
abbrev pub SkipsOrNot : Served → ℕ → Option ℕ → Served → Type 0
SkipsOrNot old units None new = new ≡ old
SkipsOrNot old units (Some due) new =
    (barred_both old ≡ None) × PassesBoth old units 0 new × (due ≡ due_both new) × (waiting_both new ≡ 0) × (units < due_both old) × (barred_both new ≡ None)
    × (has_open_alarm old.port.device.live.rest.link ≡ false)

-- Units pass that bring nothing, all except the remaining ones: fewer than are due. Some remain beside services only if the next one brings
-- something, or if these have something to see or to tell first.
pub record Quiet (old : Served) (units left : ℕ) (new : Served) : Type 0 where
  pub few : left ≤ units
  pub ticks : TicksBoth (units - left) old new
  pub none : left < units → units - left < due_both old
  pub free : barred_both new ≡ None
  pub stops : left ≢ 0 → (state : Serving) → old.services ≡ Some state → (limit : ℕ) → 1 < limit → Calm limit old.port.device.live.values state
      → due_both old ≡ suc (units - left)

-- Units pass that bring nothing, or no unit passed.
abbrev pub QuietOrNot : Served → ℕ → Result ℕ Refusal → Served → Type 0
QuietOrNot old units (Ok left) new = (barred_both old ≡ None) × Quiet old units left new
QuietOrNot old units (Err refusal) new = (barred_both old ≡ Some refusal) × (new ≡ old)

-- Units pass up to the first that sends inputs, with what is due then, or none passes and nothing changes. No process alarm is open.
abbrev pub SendsBothOrNot : Served → ℕ → Option Passed → Served → Type 0
SendsBothOrNot old units None new = new ≡ old
SendsBothOrNot old units (Some passed) new =
    (barred_both old ≡ None) × PassesBoth old units passed.left new × (passed.due ≡ due_both new) × (waiting_both new ≡ 3)
    × (has_open_alarm old.port.device.live.rest.link ≡ false)

-- A frame is accepted in silence, or handled, or refused, and then nothing changes.
abbrev pub HearsBoth : Served → Event → Option (Result Note Refusal) → Served → Type 0
HearsBoth old event None new = AnswersBoth old event (Ok Done) new × (waiting_both new ≡ 0)
HearsBoth old event (Some result) new = AnswersBoth old event result new

-- Only the port changes.
pub record OfThePort (old new : Served) : Type 0 where
  pub serves : new.serves ≡ old.serves
  pub services : new.services ≡ old.services
  pub frames : new.frames ≡ old.frames

-- A sector is handed in, or refused; the services are as before.
abbrev pub KnowsBothOrNot : Served → Sector → List ℕ → Result (Unit {0}) Refusal → Served → Type 0
KnowsBothOrNot old sector octets result new = KnowsOrNot old.port sector octets result new.port × OfThePort old new

-- Services that begin beside a device that starts, if the station has them.
abbrev pub services_from : Bool → State → Option Serving
services_from true port = Some (serving_at port.device.station.identity port.device.live.values.running)
services_from false port = None

-- A start, with which services begin, or a refused one.
abbrev pub BeginsOrNot : Served → Result (Unit {0}) Refusal → Served → Type 0
BeginsOrNot old (Ok done) new = (new.serves ≡ old.serves) × (new.services ≡ services_from old.serves new.port) × (new.frames ≡ [])
BeginsOrNot old (Err refusal) new = OfThePort old new

-- The port and its services start, or it says why not.
abbrev pub StartsBothOrNot : Served → Result (Unit {0}) Refusal → Served → Type 0
StartsBothOrNot old result new = StartsOrNot old.port result new.port × BeginsOrNot old result new

-- ---- the part of the services in an event

-- What a device neither dropped nor answered is no conflict.
abbrev pub IsNoticed : State → Option Serving → List ℕ → Note → Type 0
IsNoticed port services octets note =
    is_dropped note ≡ false → has_any port.frames ≡ false → (state : Serving) → services ≡ Some state → disputes state octets ≡ false

-- The services, if there are any, see the running settings of a device that has power.
abbrev pub seen_by : Values → Option Serving → Option Serving
seen_by values services = if values.is_lost then services else option_map (λ (state : Serving). observed state values.running) services

-- The services have no part in that many units: fewer than are due of them, and they have nothing to tell.
abbrev pub RestsFor : ℕ → Option Serving → Values → Type 0
RestsFor units None values = ⊤
RestsFor units (Some state) values = (values.is_lost ≡ false) × (state.has_news ≡ false) × (units < services_due values state)

-- Any event but a frame and a unit of time.
abbrev pub IsOfApplication : Event → Type 0
IsOfApplication (Frame bytes) = ⊥
IsOfApplication Tick = ⊥
IsOfApplication (Application local) = ⊤
IsOfApplication (Neighbour peer) = ⊤
IsOfApplication (Call caller address octets) = ⊤
