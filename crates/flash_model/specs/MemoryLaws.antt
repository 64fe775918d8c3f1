-- The laws of the trait for a flash in memory, from the invariant of its type.
use Rattle.std.specs.Prelude.{◌≡◌, ℕ, false, List, [], ◌∷◌, ◌++◌, refl}
use Rattle.std.proofs.Common.{ap, sym, ◌∙◌}
use Rattle.flash_model.specs.declared.memory.MemoryFlash.{MemoryFlash}
use Rattle.flash_model.specs.Asked.{Chip, chip_of, after_call, after_calls, IsAsked}
use Rattle.flash_model.specs.Calls.{Call}
use Rattle.flash_model.specs.Image.{IsImage, IsSectorSize}
use Rattle.flash_model.specs.Memory.{image_of, is_powerless, IsReliable}

-- both sectors have the size that the type names, and hold bytes
pub IsImage-of : {S : ℕ} (flash : MemoryFlash S) → IsImage S (image_of flash)
IsImage-of flash = flash.sized

-- that size has room for the base and for whole slots
pub IsSectorSize-of : {S : ℕ} (flash : MemoryFlash S) → IsSectorSize S
IsSectorSize-of flash = flash.sector_size

-- a flash that is reliable has power
pub has_power-of : {S : ℕ} (flash : MemoryFlash S) → IsReliable flash → is_powerless flash ≡ false
has_power-of flash reliable = reliable.0

-- no calls change nothing
pub asked_nothing-of : {S : ℕ} (flash : MemoryFlash S) → IsAsked flash [] flash
asked_nothing-of flash = refl

-- calls followed by more calls
pub after_calls-append : (chip : Chip) (front back : List Call) → after_calls chip (front ++ back) ≡ after_calls (after_calls chip front) back
after_calls-append chip [] back = refl
after_calls-append chip (call ∷ front) back = after_calls-append (after_call chip call) front back

-- Calls that were asked of a flash one after the other.
pub asked_more-of : {S : ℕ} (old between new : MemoryFlash S) (front back : List Call) → IsAsked old front between → IsAsked between back new → IsAsked old (front ++ back) new
asked_more-of old between new front back first second =
    second ∙ ap (λ chip. after_calls chip back) first ∙ sym (after_calls-append (chip_of old) front back)
