-- The place that an operation names.
use Rattle.std.specs.Prelude.{◌&&◌, ℕ, nat_lt, if◌then◌else◌, Option, Some, None}

-- The slot and subslot that are asked for, if both are numbers of 16 bits.
abbrev pub place_in : ℕ → ℕ → Option (ℕ × ℕ)
place_in slot subslot = if nat_lt slot 65536 && nat_lt subslot 65536 then Some (slot, subslot) else None
