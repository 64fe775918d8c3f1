-- A flash in memory as its callers see it, and the effect of an armed order on its calls.
use Rattle.std.specs.Prelude.{◌≡◌, ℕ, Bool, false, Option, None}
use Rattle.flash_model.specs.declared.flash.Order.{Order}
use Rattle.flash_model.specs.declared.memory.MemoryFlash.{MemoryFlash}
use Rattle.flash_model.specs.Image.{Image}
use Rattle.flash_model.specs.declared.fate.Fate.{Fate}
use Rattle.flash_model.specs.Fate.{fate_of, armed_after, is_readable, armed_after_read, lost_after}

-- the bytes of both sectors
abbrev pub image_of : {S : ℕ} → MemoryFlash S → Image
image_of flash = record { first = flash.first; second = flash.second }

-- the order that is pending, if there is one
abbrev pub armed_in : {S : ℕ} → MemoryFlash S → Option Order
armed_in flash = flash.armed

-- how many calls have failed; the count saturates at the maximum of 64 bits
abbrev pub failures_of : {S : ℕ} → MemoryFlash S → ℕ
failures_of flash = flash.failures

-- whether power was lost
abbrev pub is_powerless : {S : ℕ} → MemoryFlash S → Bool
is_powerless flash = flash.is_lost

-- there is power, and nothing is armed
abbrev pub IsReliable : {S : ℕ} → MemoryFlash S → Type 0
IsReliable flash = (is_powerless flash ≡ false) × (armed_in flash ≡ None)

-- the fate of the next program or erase call
abbrev pub next_fate : {S : ℕ} → MemoryFlash S → Fate
next_fate flash = fate_of (is_powerless flash) (armed_in flash)

-- what is armed after the next program or erase call
abbrev pub next_armed : {S : ℕ} → MemoryFlash S → Option Order
next_armed flash = armed_after (is_powerless flash) (armed_in flash)

-- whether power is lost after the next program or erase call
abbrev pub next_lost : {S : ℕ} → MemoryFlash S → Bool
next_lost flash = lost_after (is_powerless flash) (armed_in flash)

-- whether the next read passes
abbrev pub next_readable : {S : ℕ} → MemoryFlash S → Bool
next_readable flash = is_readable (is_powerless flash) (armed_in flash)

-- what is armed after the next read
abbrev pub next_read_armed : {S : ℕ} → MemoryFlash S → Option Order
next_read_armed flash = armed_after_read (is_powerless flash) (armed_in flash)
