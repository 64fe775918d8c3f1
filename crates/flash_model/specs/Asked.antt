-- The effect of calls on a flash in memory.
use Rattle.std.specs.Prelude.{◌≡◌, ◌+◌, ℕ, Bool, List, [], ◌∷◌, length, Option, Some}
use Rattle.flash_model.specs.declared.flash.Order.{Order}
use Rattle.flash_model.specs.declared.flash.Sector.{Sector}
use Rattle.flash_model.specs.declared.memory.MemoryFlash.{MemoryFlash}
use Rattle.flash_model.specs.Calls.{Call, Programs, Erases, Arms}
use Rattle.flash_model.specs.Fate.{fate_of, armed_after, against_writes, lost_after, sector_after}
use Rattle.flash_model.specs.Image.{Image, sector_of, with_sector, programmed, erased}
use Rattle.flash_model.specs.Memory.{image_of, armed_in, is_powerless}

-- what a call can change or depends on: the bytes, the order that is armed against program and erase calls, and whether
-- power was lost
pub record Chip : Type 0 where
  pub image : Image
  pub armed : Option Order
  pub is_lost : Bool

-- the chip of a flash in memory
abbrev pub chip_of : {S : ℕ} → MemoryFlash S → Chip
chip_of flash = record { image = image_of flash; armed = against_writes (armed_in flash); is_lost = is_powerless flash }

-- the chip after a call on the bytes from start to end; finished, the call would have left these bytes in the sector
abbrev pub written : Chip → Sector → ℕ → ℕ → List ℕ → Chip
written chip sector start end finished =
    let fate = fate_of chip.is_lost chip.armed in record {
      image = with_sector chip.image sector (sector_after fate start end finished (sector_of chip.image sector));
      armed = armed_after chip.is_lost chip.armed;
      is_lost = lost_after chip.is_lost chip.armed;
    }

-- the chip after a call, whether it passed, was torn or failed
abbrev pub after_call : Chip → Call → Chip
after_call chip (Programs sector place bytes) = written chip sector place (place + length bytes) (programmed (sector_of chip.image sector) place bytes)
after_call chip (Erases sector) = written chip sector 0 (length (sector_of chip.image sector)) (erased (length (sector_of chip.image sector)))
after_call chip (Arms order) = record chip { armed = against_writes (Some order) }

-- the chip after some calls, in order
abbrev pub after_calls : Chip → List Call → Chip
after_calls chip [] = chip
after_calls chip (call ∷ calls) = after_calls (after_call chip call) calls

-- The flash changed by exactly these calls, in order: its bytes, what is armed against them and its power.
abbrev pub IsAsked : {S : ℕ} → MemoryFlash S → List Call → MemoryFlash S → Type 0
IsAsked old calls new = chip_of new ≡ after_calls (chip_of old) calls
