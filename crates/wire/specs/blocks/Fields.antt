-- The parts of a block around its own fields, and the formats of fields (IEC 61158-6-10, 5.2.1). The octets of a field
-- are kept closed, so that a proof about a whole block does not look into them.
use Rattle.std.specs.Prelude.{◌==◌, ◌&&◌, ◌^◌, ◌<◌, ◌≡◌, ℕ, List, length, nat_le, replicate, Result, Ok, Err, if◌then◌else◌}
use Rattle.pn_values.specs.declared.mac.Mac.{Mac}
use Rattle.wire.specs.Codec.{Codec, Whole}
use Rattle.wire.specs.Formats.{raw, number, ◌⨾◌, seen}
use Rattle.wire.specs.Checks.{checked, closed}
use Rattle.wire.specs.Whole.{ends_by, seen_whole}
use Rattle.wire.specs.declared.blocks.fault.BlockFault.{BlockFault}
use Rattle.wire.specs.declared.blocks.fault.BlockFault.TheVariants.{Length, Version, Field}

-- ---- numbers

-- The octets of a number, followed by the rest.
unfoldable pub number_bytes : ℕ → ℕ → List ℕ → List ℕ
number_bytes size value rest = (number {F = BlockFault} Length size).write value rest

-- The number in the first `size` octets, and the rest.
unfoldable pub number_at : ℕ → List ℕ → Result (ℕ × List ℕ) BlockFault
number_at size bytes = (number Length size).read bytes

-- The format of a number in `size` octets.
abbrev pub numeral : ℕ → Codec BlockFault ℕ
numeral size = record {
  Spells = (number {F = BlockFault} Length size).Spells;
  write = number_bytes size;
  size = λ _. size;
  Fits = λ value. value < 256 ^ size;
  read = number_at size;
}

-- The formats of numbers in one, two and four octets.
abbrev pub one : Codec BlockFault ℕ
one = numeral 1

-- A number of two octets.
abbrev pub two : Codec BlockFault ℕ
two = numeral 2

-- A number of four octets.
abbrev pub four : Codec BlockFault ℕ
four = numeral 4

-- A number in two octets from the least to the greatest accepted value; `field` is the number of the field.
abbrev pub ranged : ℕ → ℕ → ℕ → Codec BlockFault ℕ
ranged field least greatest = checked (λ value. nat_le least value && nat_le value greatest) (Field field) two

-- A number with one accepted value, in two octets; `fixed_one` in one octet, `fixed_four` in four.
abbrev pub fixed : ℕ → ℕ → Codec BlockFault (Unit {0})
fixed field value = seen (λ _. tt) (λ _. value) (checked (λ n. n == value) (Field field) two)

-- One octet with this value, or the fault of this field.
abbrev pub fixed_one : ℕ → ℕ → Codec BlockFault (Unit {0})
fixed_one field value = seen (λ _. tt) (λ _. value) (checked (λ n. n == value) (Field field) one)

-- Four octets with this value, or the fault of this field.
abbrev pub fixed_four : ℕ → ℕ → Codec BlockFault (Unit {0})
fixed_four field value = seen (λ _. tt) (λ _. value) (checked (λ n. n == value) (Field field) four)

-- A number in two octets that is read with any value and written as `value`.
abbrev pub unchecked_two : ℕ → Codec BlockFault (Unit {0})
unchecked_two value = seen (λ _. tt) (λ _. value) two

-- ---- octets

-- Octets, followed by the rest.
unfoldable pub octet_bytes : List ℕ → List ℕ → List ℕ
octet_bytes value rest = (raw {F = BlockFault} Length 0).write value rest

-- The first `size` octets, and the rest.
unfoldable pub octets_read : ℕ → List ℕ → Result (List ℕ × List ℕ) BlockFault
octets_read size bytes = (raw Length size).read bytes

-- The format of `size` octets.
abbrev pub octets : ℕ → Codec BlockFault (List ℕ)
octets size = record {
  Spells = (raw {F = BlockFault} Length size).Spells;
  write = octet_bytes;
  size = λ value. length value;
  Fits = λ value. length value ≡ size;
  read = octets_read size;
}

-- `size` zeros.
unfoldable pub zeros : ℕ → List ℕ
zeros size = replicate size 0

-- `size` octets that are ignored when read and written as zeros.
abbrev pub blank : ℕ → Codec BlockFault (Unit {0})
blank size = record {
  Spells = (seen {B = Unit {0}} (λ _. tt) (λ _. zeros size) (octets size)).Spells;
  write = λ _ rest. octet_bytes (zeros size) rest;
  size = λ _. size;
  Fits = λ _. Unit {0};
  read = (seen {B = Unit {0}} (λ _. tt) (λ _. zeros size) (octets size)).read;
}

-- An Ethernet address.
abbrev pub mac : Codec BlockFault Mac
mac = seen (λ six. record { octets = six }) (λ address. address.octets) (octets 6)

-- ---- blocks

-- BlockVersionHigh (field 2) is 1 and BlockVersionLow (field 3) is 0.
unfoldable pub version : Codec BlockFault (Unit {0})
version = seen (λ _. tt) (λ _. (1, 0)) (checked (λ n. n == 1) (Version 2) one ⨾ checked (λ n. n == 0) (Version 3) one)

-- What BlockLength counts: the version and the fields of a kind, and no octet after them.
unfoldable pub body : {A : Type 0} → Codec BlockFault A → Whole BlockFault A
body fields = closed Length (seen (λ x. x.1) (λ value. (tt, value)) (version ⨾ fields))

-- What BlockLength counts for a kind whose last field takes the remaining octets.
unfoldable pub open_body : {A : Type 0} → Whole BlockFault A → Whole BlockFault A
open_body fields = seen_whole (λ x. x.1) (λ value. (tt, value)) (ends_by version (λ _. fields))

-- The empty rest, or the fault Length if octets remain.
abbrev pub nothing : List ℕ → Result (Unit {0}) BlockFault
nothing bytes = if length bytes == 0 then Ok tt else Err Length
