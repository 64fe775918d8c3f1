-- Octets and numbers at places of a frame of Ethernet (IEEE 802.3, 3.1; IEC 61158-6-10, 4.2).
use Rattle.std.specs.Prelude.{◌+◌, ◌*◌, ◌^◌, ◌==◌, ℕ, Bool, List, take, drop, get_or, bit_and, if◌then◌else◌}

-- The octet at a place.
abbrev pub octet_at : ℕ → List ℕ → ℕ
octet_at place octets = get_or octets place 0

-- The number in the two octets at a place, the higher one first.
abbrev pub word_at : ℕ → List ℕ → ℕ
word_at place octets = octet_at place octets * 256 + octet_at (place + 1) octets

-- This many octets at a place.
abbrev pub part_at : ℕ → ℕ → List ℕ → List ℕ
part_at place size octets = take size (drop place octets)

-- Whether a bit of an octet is set; bit 0 is the lowest one.
abbrev pub has_bit : ℕ → ℕ → Bool
has_bit bit octet = bit_and octet (2 ^ bit) == 2 ^ bit

-- Where the EtherType is: after both addresses, or after a VLAN tag of four octets, which begins with 0x8100 (IEEE 802.1Q, 9.6).
abbrev pub type_place : List ℕ → ℕ
type_place frame = if word_at 12 frame == 0x8100 then 16 else 12
