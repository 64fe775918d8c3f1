-- Blocks of the port and of the interface (IEC 61158-6-10, 5.2.1 and 5.2.28).
use Rattle.std.specs.Prelude.{◌+◌, ◌-◌, ◌%◌, ℕ, List, [], ◌∷◌, ◌++◌, length, take}
use Rattle.wire.specs.Formats.{big_bytes}

-- a block: its type, the number of octets after this number, version 1.0, and its octets
abbrev pub block : ℕ → List ℕ → List ℕ
block kind octets = big_bytes 2 kind ++ big_bytes 2 (2 + length octets) ++ 1 ∷ 0 ∷ octets

-- The octets of a block after its header of six octets, with zeros up to a multiple of four octets of the block.
abbrev pub aligned : List ℕ → List ℕ
aligned octets = octets ++ take (3 - (length octets + 1) % 4) (0 ∷ 0 ∷ 0 ∷ [])

-- a text after its length in one octet
abbrev pub counted : List ℕ → List ℕ
counted text = big_bytes 1 (length text) ++ text
