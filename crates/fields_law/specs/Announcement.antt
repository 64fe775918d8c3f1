-- The announcement of a station as a reader finds it (IEEE 802.1AB, 8; IEC 61158-6-10, 4.11).
use Rattle.std.specs.Prelude.{◌≡◌, ◌+◌, ◌*◌, ◌==◌, ◌≤◌, ℕ, Bool, true, false, List, [], ◌∷◌, ◌++◌, drop, length, Option, Some, None, if◌then◌else◌}
use Rattle.byteorder.specs.Endian.{big_bytes}
use Rattle.pn_values.specs.IpSuite.{is_zero}
use Rattle.lldp.specs.declared.station.Link.{Link}
use Rattle.lldp.specs.Announcement.{Station}
use Rattle.end_laws.specs.log_data.Reading.{number_at, octets_at}

-- TLVs one after another: the type in the upper seven bits and the length in the lower nine of two octets, and the octets. The last one has type and
-- length 0 (8.4).
abbrev pub AreTlvs : List ℕ → List (ℕ × List ℕ) → Type 0
AreTlvs octets [] = number_at 0 2 octets ≡ 0
AreTlvs octets (one ∷ more) =
    (number_at 0 2 octets ≡ one.0 * 512 + length one.1) × (octets_at 2 (length one.1) octets ≡ one.1)
    × AreTlvs (drop (2 + length one.1) octets) more

-- ChassisID: the name (subtype 7), or the MAC address (subtype 4) of a station without a name.
abbrev pub chassis_id : Station → List ℕ
chassis_id station = if length station.name == 0 then 4 ∷ station.mac.octets else 7 ∷ station.name

-- The link, if the host says something of it (00-12-0F, subtype 1): autonegotiation, what is advertised, and the type of the MAU.
abbrev pub link_told : Option Link → List (ℕ × List ℕ)
link_told None = []
link_told (Some link) = (127, 0x00 ∷ 0x12 ∷ 0x0F ∷ 1 ∷ link.support ∷ (big_bytes 2 link.capability ++ big_bytes 2 link.mau_type)) ∷ []

-- The management address, if there is one: 5 octets, IPv4 (1), the address, interface number 1 (subtype 2), no object identifier.
abbrev pub address_told : Bool → List ℕ → List (ℕ × List ℕ)
address_told true address = []
address_told false address = (8, 5 ∷ 1 ∷ (address ++ 2 ∷ 0 ∷ 0 ∷ 0 ∷ 1 ∷ 0 ∷ [])) ∷ []

-- What a station says: ChassisID (type 1), PortID `port-001` (type 2, subtype 7), 20 seconds (type 3); of PROFINET (type 127, 00-0E-CF) the status of its
-- port (subtype 2, no real-time class 2 or 3) and the MAC address of its chassis (subtype 5); its link; its management address (type 8).
abbrev pub told_by : Station → List (ℕ × List ℕ)
told_by station =
    (1, chassis_id station) ∷ (2, 7 ∷ 0x70 ∷ 0x6F ∷ 0x72 ∷ 0x74 ∷ 0x2D ∷ 0x30 ∷ 0x30 ∷ 0x31 ∷ []) ∷ (3, 0 ∷ 20 ∷ [])
    ∷ (127, 0x00 ∷ 0x0E ∷ 0xCF ∷ 2 ∷ 0 ∷ 0 ∷ 0 ∷ 0 ∷ []) ∷ (127, 0x00 ∷ 0x0E ∷ 0xCF ∷ 5 ∷ station.mac.octets)
    ∷ (link_told station.link ++ address_told (is_zero station.address) station.address)

-- A frame to 01-80-C2-00-00-0E, with EtherType 0x88CC.
pub record IsAnnouncement (octets : List ℕ) (station : Station) : Type 0 where
  pub destination : octets_at 0 6 octets ≡ 0x01 ∷ 0x80 ∷ 0xC2 ∷ 0x00 ∷ 0x00 ∷ 0x0E ∷ []
  pub source : octets_at 6 6 octets ≡ station.mac.octets
  pub type_is : number_at 12 2 octets ≡ 0x88CC
  pub tlvs : AreTlvs (drop 14 octets) (told_by station)
  pub long : 60 ≤ length octets
