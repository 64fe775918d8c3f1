-- The effect of a line at both ends, and the text that it prints.
use Rattle.std.specs.Prelude.{◌≡◌, ◌⊎◌, ℕ, Bool, true, false, List, ◌++◌, length, Option, Result, Ok, Err}
use Rattle.arrayvec.specs.ArrayVec.{ArrayVec}
use Rattle.plans.specs.declared.parts.Parts.{Parts}
use Rattle.configurator.specs.declared.fault.PlanFault.{PlanFault}
use Rattle.configurator.specs.declared.fault.PlanFault.TheVariants.{OutOfMemory}
use Rattle.configurator.specs.Planned.{IsRefused}
use Rattle.device_frames.specs.declared.note.Note.{Note}
use Rattle.device_station.specs.State.{Frames, in_order}
use Rattle.script_lines.specs.Line.{Config, Line, Asks}
use Rattle.script_lines.specs.Text.{note_line}
use Rattle.device_frames.specs.declared.event.Event.{Event}
use Rattle.settings_journal.specs.settings_store.Machine.{Outcome as Stored}
use Rattle.script_session.specs.Ends.{DeviceRun, IsRightFor, Network, Other, Running, Station, Turned, octets_of, printed_for, station_in, step_for, with_sent}
use Rattle.script_session.specs.Power.{Held, IsRunning, Runs}
use Rattle.script_session.specs.Said.{Answer, Outcome, Answers, Refuses, HasNoPlan, handed_over}

-- Both ends are as the network says.
abbrev pub Are : Network → Held → Type 0
Are network held = IsRunning network.station held.power × (held.other ≡ network.other)

-- The table of plans is right for the catalogue of a line, if it has one.
abbrev pub AreRightFor : (List ℕ → Option Parts) → Line → Type 0
AreRightFor plans (Asks (Config catalogue)) = IsRightFor plans catalogue
AreRightFor plans line = Unit {0}

-- A command was carried out: both ends are as the answer says, and its text is rendered.
pub record IsObeyed (answer : Answer) (held : Held) (before now : List ℕ) : Type 0 where
  pub runs : IsRunning answer.network.station held.power
  pub waits : held.other ≡ answer.network.other
  pub text : now ≡ before ++ answer.text

-- The outcome of a command as its effect, and whether the command is valid here.
abbrev pub Comes : Outcome → Held → List ℕ → List ℕ → Bool → Type 0
Comes (Answers answer) held before now is = (is ≡ true) × IsObeyed answer held before now
Comes Refuses held before now is = is ≡ false
Comes (HasNoPlan catalogue) held before now is = ⊥

-- The outcome of a line is that its catalogue has no plan, for this fault.
abbrev pub IsWithoutPlan : Outcome → PlanFault → Type 0
IsWithoutPlan (HasNoPlan catalogue) fault = IsRefused catalogue fault
IsWithoutPlan (Answers answer) fault = ⊥
IsWithoutPlan Refuses fault = ⊥

-- The effect of a line by its outcome: it is answered or refused, its catalogue has no plan, or memory was refused.
abbrev pub Obeys : Outcome → Held → List ℕ → List ℕ → Result Bool PlanFault → Type 0
Obeys outcome held before now (Ok is) = Comes outcome held before now is
Obeys outcome held before now (Err fault) = (fault ≡ OutOfMemory) ⊎ IsWithoutPlan outcome fault

-- ---- steps of the device

-- A step was made: the device runs on, the outbox holds the frames that it sends, and the note is the result of the
-- event.
pub record IsStepped (step : Turned) (device : Running) (outbox : Frames) (note : Note) : Type 0 where
  pub runs : Runs step.station device
  pub frames : in_order outbox ≡ step.frames
  pub note_is : note ≡ step.note

-- A step was made, whatever the flash did: for some outcomes of its calls, which it chose, the device and the services are as
-- the step leaves them, the outbox holds the frames that it sends, and the note is the result of the event.
pub record IsStepFor (before : Station) (event : Event) (device : Running) (outbox : Frames) (note : Note) : Type 0 where
  pub outcomes : List Stored
  pub later : List Stored
  pub station_is : station_in device ≡ (step_for outcomes later before event).station
  pub frames : in_order outbox ≡ (step_for outcomes later before event).frames
  pub note_is : note ≡ (step_for outcomes later before event).note

-- What a step returned is reported: the frames that it sends are rendered or wait, and then its note is rendered.
pub record IsTold (far : Other) (frames : List (List ℕ)) (note : Note) (other : Other) (before now : List ℕ) : Type 0 where
  pub waits : other ≡ with_sent far frames
  pub text : now ≡ before ++ (printed_for far.controller frames ++ note_line note)

-- Several units of time passed at once: the device runs on, and the outbox holds the frames that it sends.
pub record IsLeapt (run : DeviceRun) (device : Running) (outbox : Frames) : Type 0 where
  pub runs : Runs run.station device
  pub frames : in_order outbox ≡ run.frames

-- A step was made: the device runs on, and the frames that it sent are rendered or wait.
pub record IsTurned (step : Turned) (device : Running) (far other : Other) (before now : List ℕ) : Type 0 where
  pub runs : Runs step.station device
  pub waits : other ≡ with_sent far step.frames
  pub text : now ≡ before ++ printed_for far.controller step.frames

-- Several steps were made: the device runs on, and the frames that it sent are rendered or wait.
pub record IsRunOf (run : DeviceRun) (device : Running) (far other : Other) (before now : List ℕ) : Type 0 where
  pub runs : Runs run.station device
  pub waits : other ≡ with_sent far run.frames
  pub text : now ≡ before ++ printed_for far.controller run.frames

-- Frames were handed to the device: it runs on, and what it sent waits after the frames that waited already.
pub record IsHandedTo (run : DeviceRun) (device : Running) (before now : List (ArrayVec ℕ)) : Type 0 where
  pub runs : Runs run.station device
  pub waits : octets_of now ≡ octets_of before ++ run.frames

-- All frames that waited for the device were handed to it.
pub record IsHandedOver (run : DeviceRun) (device : Running) (far other : Other) (delivered : ℕ) : Type 0 where
  pub runs : Runs run.station device
  pub waits : other ≡ handed_over far run
  pub delivered_is : delivered ≡ length far.to_device

-- The device carried this out: it runs on, the other end is as the answer says, and its text is rendered.
pub record IsDone (answer : Answer) (device : Running) (other : Other) (before now : List ℕ) : Type 0 where
  pub runs : Runs answer.network.station device
  pub waits : other ≡ answer.network.other
  pub text : now ≡ before ++ answer.text
