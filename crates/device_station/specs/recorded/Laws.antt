-- The laws of the trait for a recorded flash.
use Rattle.std.specs.Prelude.{◌≡◌, ℕ, Bool, false, List, [], ◌∷◌, ◌++◌, refl}
use Rattle.std.proofs.Common.{ap, sym, ◌∙◌}
use Rattle.flash_model.specs.Calls.{Call}
use Rattle.flash_model.specs.Image.{IsImage, IsSectorSize}
use Rattle.flash_model.specs.Memory as memory
use Rattle.settings_journal.specs.Cut.{AreWrites}
use Rattle.device_station.specs.recorded.Record.{HaveBytes, Record, image_of, record_of, after_one, after_all, IsAsked}
use Rattle.device_station.specs.declared.recorded.flash.RecordedFlash.{RecordedFlash}

-- the count of failed calls, which never rises
abbrev pub failures_of : {S : ℕ} → RecordedFlash S → ℕ
failures_of flash = memory.failures_of flash.memory

-- whether power was lost, which never happens
abbrev pub has_power : {S : ℕ} → RecordedFlash S → Bool
has_power flash = false

-- a recorded flash is always reliable
abbrev pub IsAlways : {S : ℕ} → RecordedFlash S → Type 0
IsAlways flash = Unit {0}

-- both sectors have the size that the type names, and hold bytes
pub IsImage-of : {S : ℕ} (flash : RecordedFlash S) → IsImage S (image_of flash)
IsImage-of flash = flash.memory.sized

-- that size has room for the base and for whole slots
pub IsSectorSize-of : {S : ℕ} (flash : RecordedFlash S) → IsSectorSize S
IsSectorSize-of flash = flash.memory.sector_size

-- A recorded flash is never without power.
pub has_power-of : {S : ℕ} (flash : RecordedFlash S) → IsAlways flash → has_power flash ≡ false
has_power-of flash reliable = refl

-- no calls change nothing
pub asked_nothing-of : {S : ℕ} (flash : RecordedFlash S) → IsAsked flash [] flash
asked_nothing-of flash = (tt, λ none. refl)

-- calls followed by more calls
pub after_all-append : (before : Record) (front back : List Call) → after_all before (front ++ back) ≡ after_all (after_all before front) back
after_all-append before [] back = refl
after_all-append before (call ∷ front) back = after_all-append (after_one before call) front back

-- The first of these calls are writes too.
pub front_recorded : (front back : List Call) → AreWrites (front ++ back) → AreWrites front
front_recorded [] back are = tt
front_recorded (call ∷ front) back are = (are.0, front_recorded front back are.1)

-- The last of these calls are writes too.
pub back_recorded : (front back : List Call) → AreWrites (front ++ back) → AreWrites back
back_recorded [] back are = are
back_recorded (call ∷ front) back are = back_recorded front back are.1

-- Calls that program bytes, followed by more of them.
pub have_both : (front back : List Call) → HaveBytes front → HaveBytes back → HaveBytes (front ++ back)
have_both [] back f b = b
have_both (call ∷ front) back f b = (f.0, have_both front back f.1 b)

-- Calls that were asked of a recorded flash one after the other.
pub asked_more-of : {S : ℕ} (old between new : RecordedFlash S) (front back : List Call) → IsAsked old front between → IsAsked between back new → IsAsked old (front ++ back) new
asked_more-of old between new front back first second = (
  have_both front back first.0 second.0,
  λ are. second.1 (back_recorded front back are) ∙ ap (λ r. after_all r back) (first.1 (front_recorded front back are)) ∙ sym (after_all-append (record_of old) front back),
)
