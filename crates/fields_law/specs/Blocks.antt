-- Blocks one after another: BlockLength, at place 2, counts the octets after itself (IEC 61158-6-10, 5.2.1).
use Rattle.std.specs.Prelude.{◌+◌, ℕ, List, drop, take}
use Rattle.end_laws.specs.log_data.Reading.{number_at}

-- The block at the start of octets.
abbrev pub first_block : List ℕ → List ℕ
first_block octets = take (4 + number_at 2 2 octets) octets

-- The octets after it.
abbrev pub after_block : List ℕ → List ℕ
after_block octets = drop (4 + number_at 2 2 octets) octets
