-- What a port does with what happens.
use Rattle.std.specs.Prelude.{◌≡◌, ◌≢◌, ◌<◌, ◌≤◌, ◌-◌, true, false, ℕ, zero, suc, List, [], length, Option, Some, None, Result, Ok, Err}
use Rattle.flash_model.specs.declared.flash.Sector.{Sector}
use Rattle.pn_values.specs.declared.settings.Settings.{Settings}
use Rattle.settings_journal.specs.Image.{StartsWith, IsForeign, LeftByDevice}
use Rattle.device_frames.specs.declared.event.Event.{Event}
use Rattle.device_frames.specs.declared.event.Event.TheVariants.{Tick}
use Rattle.device_core.specs.Cycle.{started}
use Rattle.device_core.specs.Leaps.{live_due_in}
use Rattle.device_core.specs.Machine.{step_of}
use Rattle.device_core.specs.OpenAlarm.{has_open_alarm}
use Rattle.device_core.specs.Steps.{IsExactStep}
use Rattle.device_frames.specs.declared.note.Note.{Note}
use Rattle.device_station.specs.recorded.Record.{image_of, record_of, filled}
use Rattle.device_station.specs.recording.Recorded.{Records}
use Rattle.device_station.specs.declared.port.device.Passed.{Passed}
use Rattle.device_station.specs.declared.port.refusal.Refusal.{Refusal}
use Rattle.device_station.specs.declared.port.refusal.Refusal.TheVariants as refusal
use Rattle.device_station.specs.declared.port.stage.Stage.TheVariants.{Made, Booted}
use Rattle.device_station.specs.port.State.{State, IsIdle, barred, has_some, past_start}

-- An event is one step of the device. The work after it is exactly what that step recorded, the flash calls of the
-- commands that it accepted, in order, and then its frames.
pub record Takes (old : State) (event : Event) (note : Note) (new : State) : Type 0 where
  pub exact : IsExactStep old.device event new.frames note new.device
  pub records : Records old.device (step_of [] old.device.station old.device.live event).accepted new.device
  pub calls : new.calls ≡ records.calls
  pub stage : new.stage ≡ Booted

-- This many units of time passed, one step each, and all work was fetched before each.
abbrev pub Ticks : ℕ → State → State → Type 0
Ticks zero old new = new ≡ old
Ticks (suc units) old new = (between : State) × (note : Note) × Ticks units old between × (barred between ≡ None) × Takes between Tick note new

-- All of these units except the remaining ones passed, one step each. Some remain only if the last one sent something.
pub record Passes (old : State) (units left : ℕ) (new : State) : Type 0 where
  pub few : left ≤ units
  pub ticks : Ticks (units - left) old new
  pub stops : left ≢ 0 → barred new ≡ Some refusal.HasWork

-- Units pass, with what is due after them, or no unit passed.
abbrev pub PassesOrNot : State → ℕ → Result Passed Refusal → State → Type 0
PassesOrNot old units (Ok passed) new = (barred old ≡ None) × Passes old units passed.left new × (passed.due ≡ live_due_in new.device.live)
PassesOrNot old units (Err refusal) new = (barred old ≡ Some refusal) × (new ≡ old)

-- Units pass that bring nothing, fewer than are due, with what is due then. No process alarm is open.
pub record Glides (old : State) (units told : ℕ) (new : State) : Type 0 where
  pub free : barred old ≡ None
  pub ticks : Ticks units old new
  pub few : units < live_due_in old.device.live
  pub due : told ≡ live_due_in new.device.live
  pub after : barred new ≡ None
  pub closed : has_open_alarm old.device.live.rest.link ≡ false

-- Or none passes, and nothing changes.
abbrev pub GlidesOrNot : State → ℕ → Option ℕ → State → Type 0
GlidesOrNot old units None new = new ≡ old
GlidesOrNot old units (Some due) new = Glides old units due new

-- Units pass up to the first that sends inputs, with what is due then. No process alarm is open.
pub record Sends (old : State) (units : ℕ) (passed : Passed) (new : State) : Type 0 where
  pub free : barred old ≡ None
  pub passes : Passes old units passed.left new
  pub due : passed.due ≡ live_due_in new.device.live
  pub calls : new.calls ≡ []
  pub frames : has_some new.frames ≡ true
  pub closed : has_open_alarm old.device.live.rest.link ≡ false

-- Or none passes, and nothing changes.
abbrev pub SendsOrNot : State → ℕ → Option Passed → State → Type 0
SendsOrNot old units None new = new ≡ old
SendsOrNot old units (Some passed) new = Sends old units passed new

-- A sector of the chip is known, and nothing else changes.
pub record Knows (old : State) (sector : Sector) (octets : List ℕ) (new : State) : Type 0 where
  pub flash : record_of new.device.flash ≡ filled 4096 (record_of old.device.flash) sector octets
  pub station : new.device.station ≡ old.device.station
  pub stage : new.stage ≡ Made
  pub idle : IsIdle new

-- Why a sector is not accepted: it is too late for one, or it has another number of octets.
abbrev pub unfit : Option Refusal → ℕ → Refusal → Type 0
unfit (Some late) size refused = refused ≡ late
unfit None size refused = (size ≢ 4096) × (refused ≡ refusal.BadLength)

-- A sector is handed in, or refused, and then nothing changes.
abbrev pub KnowsOrNot : State → Sector → List ℕ → Result (Unit {0}) Refusal → State → Type 0
KnowsOrNot old sector octets (Ok done) new = (past_start old.stage ≡ None) × (length octets ≡ 4096) × Knows old sector octets new
KnowsOrNot old sector octets (Err refused) new = unfit (past_start old.stage) (length octets) refused × (new ≡ old)

-- A start, or a refused one: the chip is unchanged, no call of it is handed out, and the fixed properties of the device
-- are unchanged.
pub record Leaves (old new : State) : Type 0 where
  pub flash : record_of new.device.flash ≡ record_of old.device.flash
  pub station : new.device.station ≡ old.device.station
  pub idle : IsIdle new

-- The device started: the running settings are those that the chip is read as, the given modules are plugged, and nothing else
-- remains of an earlier cycle.
pub record Starts (old new : State) : Type 0 where
  pub stage : new.stage ≡ Booted
  pub leaves : Leaves old new
  pub starts : StartsWith (image_of old.device.flash) new.device.live.values.stored new.device.live.values.room
  pub fresh : new.device.live ≡ started old.device.station.real new.device.live.values.stored new.device.live.values.room
  pub known : (settings : Settings) (room : ℕ) → StartsWith (image_of old.device.flash) settings room →
      new.device.live ≡ started old.device.station.real settings room

-- The content of the chip was not written by a device with this layout.
pub record IsStrange (old new : State) : Type 0 where
  pub stage : new.stage ≡ Made
  pub leaves : Leaves old new
  pub foreign : IsForeign (image_of old.device.flash)
  pub not_left : ¬ LeftByDevice (image_of old.device.flash)

-- Why a start was refused.
abbrev pub NotStarted : Option Refusal → State → Refusal → State → Type 0
NotStarted (Some late) old refused new = (refused ≡ late) × (new ≡ old)
NotStarted None old refused new = (refused ≡ refusal.Foreign) × IsStrange old new

-- The port starts, or says why not.
abbrev pub StartsOrNot : State → Result (Unit {0}) Refusal → State → Type 0
StartsOrNot old (Ok done) new = (past_start old.stage ≡ None) × Starts old new
StartsOrNot old (Err refused) new = NotStarted (past_start old.stage) old refused new
