-- Numbers and identifiers of RPC at their places, in either byte order (C706, 14.1 and appendix A).
use Rattle.std.specs.Prelude.{◌+◌, ◌++◌, ℕ, Bool, true, false, List, drop, reverse}
use Rattle.byteorder.specs.Endian.{big_number, little_number}
use Rattle.end_laws.specs.log_data.Reading.{octets_at}

-- The number of this many octets at a place, the lowest octet first or the highest.
abbrev pub ordered_at : Bool → ℕ → ℕ → List ℕ → ℕ
ordered_at true place size octets = little_number size (drop place octets)
ordered_at false place size octets = big_number size (drop place octets)

-- The UUID at a place, as it is printed: its first three fields are numbers of four, two and two octets.
abbrev pub uuid_at : Bool → ℕ → List ℕ → List ℕ
uuid_at true place octets =
    reverse (octets_at place 4 octets) ++ reverse (octets_at (place + 4) 2 octets) ++ reverse (octets_at (place + 6) 2 octets)
    ++ octets_at (place + 8) 8 octets
uuid_at false place octets = octets_at place 16 octets
