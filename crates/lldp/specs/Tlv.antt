-- The TLVs of LLDP (IEEE 802.1AB, 8.4): seven bits of type, nine bits of length, and that many octets.
use Rattle.std.specs.Prelude.{◌+◌, ◌-◌, ◌*◌, ◌/◌, ◌%◌, ◌==◌, ◌&&◌, ℕ, List, length, nat_le}
use Rattle.wire.specs.Codec.{Codec, Whole}
use Rattle.wire.specs.Formats.{number, raw, then_by, ◌⨾◌, seen, framed}
use Rattle.wire.specs.Checks.{checked, fixed, closed}
use Rattle.wire.specs.Whole.{everything, ends_by, seen_whole, loose}
use Rattle.pn_values.specs.declared.mac.Mac.{Mac}
use Rattle.lldp.specs.declared.fault.LldpFault.{LldpFault}
use Rattle.lldp.specs.declared.fault.LldpFault.TheVariants.{Short, Order, Length}

-- A TLV of any type: its type and its length as one number, and its octets.
pub record Tlv : Type 0 where
  pub head : ℕ
  pub octets : List ℕ

-- the type: the upper seven bits
abbrev pub type_of : Tlv → ℕ
type_of tlv = tlv.head / 512

-- the TLV of this type with these octets
abbrev pub tlv_of : ℕ → List ℕ → Tlv
tlv_of kind octets = record { head = length octets + kind * 512; octets = octets }

-- a TLV of any type; its octets must be complete
unfoldable pub tlv : Codec LldpFault Tlv
tlv = seen (λ x. record { head = x.0; octets = x.1 }) (λ t. (t.head, t.octets)) (then_by (number Short 2) (λ head. raw Short (head % 512)))

-- the type and the length of a TLV that must have this type: its length
unfoldable pub typed : ℕ → Codec LldpFault ℕ
typed kind = seen (λ head. head - kind * 512) (λ size. size + kind * 512) (checked (λ head. head / 512 == kind) Order (number Short 2))

-- An identifier of a chassis or of a port: how it is meant, and its octets.
pub record Id : Type 0 where
  pub subtype : ℕ
  pub octets : List ℕ

-- the octets of the TLV of an identifier
unfoldable pub id_octets : Whole LldpFault Id
id_octets = seen_whole (λ x. record { subtype = x.0; octets = x.1 }) (λ i. (i.subtype, i.octets)) (ends_by (number Short 1) (λ _. everything))

-- the TLV of an identifier, ChassisID (type 1) or PortID (type 2): 2 to 256 octets (8.5.2, 8.5.3)
unfoldable pub id : ℕ → Codec LldpFault Id
id kind = framed (checked (λ size. nat_le 2 size && nat_le size 256) Length (typed kind)) Short id_octets

-- the TLV of the time to live in seconds (type 3): two octets; more of them are ignored (8.5.4)
unfoldable pub lifetime : Codec LldpFault ℕ
lifetime = framed (typed 3) Short (loose (number Short 2))

-- the octets of the TLV by which PROFINET tells the MAC address of the chassis (00-0E-CF, subtype 5)
unfoldable pub chassis_mac : Whole LldpFault Mac
chassis_mac = closed Short (seen (λ x. record { octets = x.1 }) (λ mac. (tt, mac.octets)) (fixed Short 4 0x000ECF05 ⨾ raw Short 6))
