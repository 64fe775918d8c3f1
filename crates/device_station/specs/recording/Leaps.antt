-- Units of time that pass at once, for a host.
use Rattle.std.specs.Prelude.{◌≡◌, ℕ, zero, suc, List, []}
use Rattle.device_frames.specs.declared.event.Event.{Event}
use Rattle.device_frames.specs.declared.event.Event.TheVariants.{Tick}
use Rattle.device_frames.specs.declared.note.Note.{Note}
use Rattle.device_frames.specs.declared.note.Note.TheVariants.{Done}
use Rattle.device_core.specs.Machine.{step_of}
use Rattle.device_core.specs.State.{State}
use Rattle.device_core.specs.Steps.{IsExactStep}
use Rattle.device_station.specs.declared.recorded.flash.RecordedFlash.{RecordedFlash}
use Rattle.device_station.specs.recording.Recorded.{Records}

-- An event was one step, which sent these frames and made no call to the flash.
pub record StepsAlone {S : ℕ} (old : State (RecordedFlash S)) (event : Event) (sent : List (List ℕ)) (said : Note) (new : State (RecordedFlash S)) : Type 0 where
  pub exact : IsExactStep old event sent said new
  pub records : Records old (step_of [] old.station old.live event).accepted new
  pub none : records.calls ≡ []

-- A unit of time passed as one such step.
abbrev pub PassesOne : {S : ℕ} → State (RecordedFlash S) → List (List ℕ) → State (RecordedFlash S) → Type 0
PassesOne old sent new = StepsAlone old Tick sent Done new

-- This many units passed, one step each. Only the last one may send.
abbrev pub PassesAll : {S : ℕ} → ℕ → State (RecordedFlash S) → List (List ℕ) → State (RecordedFlash S) → Type 0
PassesAll zero old sent new = (new ≡ old) × (sent ≡ [])
PassesAll {S} (suc units) old sent new = (between : State (RecordedFlash S)) × PassesAll units old [] between × PassesOne between sent new
