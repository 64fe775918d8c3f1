-- The numbering of data: 0xFFFF first, and then 0 to 0x7FFF in a circle (IEC 61158-6-10, 4.8).
use Rattle.std.specs.Prelude.{◌+◌, ◌%◌, ◌==◌, ℕ, Bool, false, Option, Some, None}

-- The number after the last one.
abbrev pub next_number : Option ℕ → ℕ
next_number None = 0xFFFF
next_number (Some last) = (last + 1) % 0x8000

-- SendSeqNum, from the number of the last data that was sent.
abbrev pub send_number : Option ℕ → ℕ
send_number None = 0xFFFF
send_number (Some last) = last

-- AckSeqNum, from the number of the last data that was accepted.
abbrev pub ack_number : Option ℕ → ℕ
ack_number None = 0xFFFE
ack_number (Some last) = last

-- Whether a number is the last one.
abbrev pub is_last : Option ℕ → ℕ → Bool
is_last None number = false
is_last (Some last) number = number == last
