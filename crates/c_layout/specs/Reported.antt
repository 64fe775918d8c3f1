-- What an operation returns.
use Rattle.std.specs.Prelude.{◌++◌, ℕ, List, length, drop}
use Rattle.c_layout.specs.declared.op.Op.{Op}

-- An operation with these octets: its length is their number, and the octets after them and all other fields are
-- unchanged.
abbrev pub with_octets : List ℕ → Op → Op
with_octets octets asked = record asked { length = length octets; octets = octets ++ drop (length octets) asked.octets }
