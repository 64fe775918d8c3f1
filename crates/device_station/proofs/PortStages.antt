-- What a port's stage says.
use Rattle.std.proofs.Common.{◌≡◌, ℕ, Bool, true, false, List, [], ◌∷◌, Some, None, refl, sym, ap, ◌∙◌}
use Rattle.flash_model.specs.Calls.{Call}
use Rattle.settings_journal.specs.declared.journal.BootFault.{BootFault}
use Rattle.settings_journal.specs.declared.journal.BootFault.TheVariants.{Foreign, FlashFault}
use Rattle.device_station.specs.declared.port.refusal.Refusal.TheVariants as refusal
use Rattle.device_station.specs.declared.port.stage.Stage.{Stage}
use Rattle.device_station.specs.declared.port.stage.Stage.TheVariants.{Made, Booted, Lost}
use Rattle.device_station.specs.port.State.{State, IsSteady, barred, barred_by, closed, has_some, has_work, past_start}
use Rattle.device_station.proofs.PortLeft.{only_frames}

-- A port that accepts events has started, and no work remains.
pub record IsFree (port : State) : Type 0 where
  pub booted : port.stage ≡ Booted
  pub calls : port.calls ≡ []
  pub frames : port.frames ≡ []

pub by_stage : (stage : Stage) (is_left : Bool) → barred_by stage is_left ≡ None → (stage ≡ Booted) × (is_left ≡ false)
by_stage Made is_left free = cc free
by_stage Booted true free = cc free
by_stage Booted false free = (refl, refl)
by_stage Lost is_left free = cc free

pub idle_of : (calls : List Call) (frames : List (List ℕ)) → has_work calls frames ≡ false → (calls ≡ []) × (frames ≡ [])
idle_of [] [] none = (refl, refl)
idle_of [] (frame ∷ frames) none = cc none
idle_of (call ∷ calls) frames none = cc none

pub is_free : (port : State) → barred port ≡ None → IsFree port
is_free port free =
    let by = by_stage port.stage (has_work port.calls port.frames) free in
    let idle = idle_of port.calls port.frames by.1 in
    record { booted = by.0; calls = idle.0; frames = idle.1 }

-- The same of a port that is seen as this one.
pub free_in : (view now : State) → view ≡ now → barred now ≡ None → IsFree view
free_in view now is free = is_free view (ap barred is ∙ free)

pub going_of : (stage : Stage) (has_failed : Bool) (calls : List Call) (frames : List (List ℕ)) → stage ≡ Booted → IsSteady stage has_failed calls frames → has_failed ≡ false
going_of Made has_failed calls frames is steady = cc is
going_of Booted has_failed calls frames is steady = steady
going_of Lost has_failed calls frames is steady = cc is

pub steady_of : (stage : Stage) (has_failed : Bool) (calls : List Call) (frames : List (List ℕ)) → stage ≡ Booted → has_failed ≡ false → IsSteady stage has_failed calls frames
steady_of Made has_failed calls frames is going = cc is
steady_of Booted has_failed calls frames is going = going
steady_of Lost has_failed calls frames is going = cc is

pub made_of : (stage : Stage) (has_failed : Bool) (calls : List Call) (frames : List (List ℕ)) → stage ≡ Made → IsSteady stage has_failed calls frames → (has_failed ≡ true) × (calls ≡ []) × (frames ≡ [])
made_of Made has_failed calls frames is steady = steady
made_of Booted has_failed calls frames is steady = cc is
made_of Lost has_failed calls frames is steady = cc is

-- A port that may be started was only made.
pub early_of : (stage : Stage) → past_start stage ≡ None → stage ≡ Made
early_of Made early = refl
early_of Booted early = cc early
early_of Lost early = cc early

-- A port that started accepts an event exactly if no work remains.
pub free_of : (stage : Stage) (is_left : Bool) → stage ≡ Booted → is_left ≡ false → barred_by stage is_left ≡ None
free_of stage is_left is idle = ap (λ s. barred_by s is_left) is ∙ ap (barred_by Booted) idle

pub working_of : (stage : Stage) (is_left : Bool) → stage ≡ Booted → is_left ≡ true → barred_by stage is_left ≡ Some refusal.HasWork
working_of stage is_left is busy = ap (λ s. barred_by s is_left) is ∙ ap (barred_by Booted) busy

-- A foreign flash is not one with a failed read.
pub foreign_alone : (fault : BootFault) → fault ≡ Foreign → fault ≡ FlashFault → ⊥
foreign_alone fault foreign failed = cc (sym foreign ∙ failed)

-- A port that reports its values has started.
pub open_of : (stage : Stage) → closed stage ≡ None → stage ≡ Booted
open_of Made open_now = cc open_now
open_of Booted open_now = refl
open_of Lost open_now = cc open_now

-- The same of an open port without flash calls, by its frames.
pub free_at : (stage : Stage) (calls : List Call) (frames : List (List ℕ)) → stage ≡ Booted → calls ≡ [] → has_some frames ≡ false → barred_by stage (has_work calls frames) ≡ None
free_at stage calls frames is none idle = free_of stage (has_work calls frames) is (sym (only_frames calls frames (ap has_some none)) ∙ idle)

pub working_at : (stage : Stage) (calls : List Call) (frames : List (List ℕ)) → stage ≡ Booted → calls ≡ [] → has_some frames ≡ true
    → barred_by stage (has_work calls frames) ≡ Some refusal.HasWork
working_at stage calls frames is none busy = working_of stage (has_work calls frames) is (sym (only_frames calls frames (ap has_some none)) ∙ busy)
