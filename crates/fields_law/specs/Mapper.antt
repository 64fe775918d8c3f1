-- Answers of the endpoint mapper as a reader finds them (C706, appendices L and O; IEC 61158-6-10, 4.10.3.2).
use Rattle.std.specs.Prelude.{◌≡◌, ◌+◌, ◌-◌, ◌*◌, ◌<◌, ◌≤◌, ℕ, Bool, true, List, [], ◌∷◌, ◌++◌, drop, length, replicate, slice_index}
use Rattle.byteorder.specs.Endian.{big_bytes, little_number}
use Rattle.pn_values.specs.declared.identity.Identity.{Identity}
use Rattle.rpc_core.specs.declared.call_headers.call.Head.{Head}
use Rattle.end_laws.specs.log_data.Reading.{number_at, octets_at}
use Rattle.fields_law.specs.Packet.{IsAnswer, is_little_endian}
use Rattle.fields_law.specs.Places.{ordered_at, uuid_at}

-- ---- the annotation

-- A decimal number of some characters: a space counts as 0.
abbrev pub decimal : ℕ → List ℕ → ℕ
decimal value [] = value
decimal value (digit ∷ digits) = decimal (value * 10 + (digit - 48)) digits

-- DeviceType, padded with spaces to 25 characters, OrderID in 20, HardwareRevision in five, SoftwareRevision as a letter and three numbers of three
-- characters; spaces between them, and a zero at the end.
pub record IsAnnotation (octets : List ℕ) (identity : Identity) : Type 0 where
  pub device_type : octets_at 0 25 octets ≡ identity.station_type.items ++ replicate (25 - length identity.station_type.items) 32
  pub order_id : octets_at 26 20 octets ≡ identity.order_id
  pub hardware_revision : decimal 0 (octets_at 47 5 octets) ≡ identity.hardware_revision
  pub prefix : number_at 53 1 octets ≡ slice_index identity.software_revision 0
  pub functional_enhancement : decimal 0 (octets_at 54 3 octets) ≡ slice_index identity.software_revision 1
  pub bug_fix : decimal 0 (octets_at 57 3 octets) ≡ slice_index identity.software_revision 2
  pub internal_change : decimal 0 (octets_at 60 3 octets) ≡ slice_index identity.software_revision 3
  pub spaces : (number_at 25 1 octets ≡ 32) × (number_at 46 1 octets ≡ 32) × (number_at 52 1 octets ≡ 32)
  pub end : number_at 63 1 octets ≡ 0

-- ---- the tower

-- The object UUID of a device: DEA00000-6C97-11D1-8271 and its instance, DeviceID and VendorID.
abbrev pub object_uuid : Identity → List ℕ
object_uuid identity =
    (0xDE ∷ 0xA0 ∷ 0x00 ∷ 0x00 ∷ 0x6C ∷ 0x97 ∷ 0x11 ∷ 0xD1 ∷ 0x82 ∷ 0x71 ∷ [])
    ++ big_bytes 2 identity.instance ++ big_bytes 2 identity.device_id ++ big_bytes 2 identity.vendor_id

-- The interface of a device, DEA00001-6C97-11D1-8271-00A02442DF7D, and the transfer syntax NDR, 8A885D04-1CEB-11C9-9FE8-08002B104860.
abbrev pub device_interface : List ℕ
device_interface =
    0xDE ∷ 0xA0 ∷ 0x00 ∷ 0x01 ∷ 0x6C ∷ 0x97 ∷ 0x11 ∷ 0xD1 ∷ 0x82 ∷ 0x71 ∷ 0x00 ∷ 0xA0 ∷ 0x24 ∷ 0x42 ∷ 0xDF ∷ 0x7D ∷ []

-- The UUID of the transfer syntax NDR, 8A885D04-1CEB-11C9-9FE8-08002B104860 (C706).
abbrev pub transfer_syntax : List ℕ
transfer_syntax =
    0x8A ∷ 0x88 ∷ 0x5D ∷ 0x04 ∷ 0x1C ∷ 0xEB ∷ 0x11 ∷ 0xC9 ∷ 0x9F ∷ 0xE8 ∷ 0x08 ∷ 0x00 ∷ 0x2B ∷ 0x10 ∷ 0x48 ∷ 0x60 ∷ []

-- The number of two octets of a tower, which are little-endian in any answer.
abbrev pub tower_number : ℕ → List ℕ → ℕ
tower_number place octets = little_number 2 (drop place octets)

-- A floor that names an interface in a version: 19 octets with protocol identifier 0x0D, UUID and major version, and two with the minor version 0.
pub record IsUuidFloor (octets : List ℕ) (uuid : List ℕ) (version : ℕ) : Type 0 where
  pub left : tower_number 0 octets ≡ 19
  pub protocol : number_at 2 1 octets ≡ 0x0D
  pub uuid_of : uuid_at true 3 octets ≡ uuid
  pub major : tower_number 19 octets ≡ version
  pub right : tower_number 21 octets ≡ 2
  pub minor : tower_number 23 octets ≡ 0

-- A floor of another protocol: one octet with its identifier, and this many octets of its data.
pub record IsFloor (octets : List ℕ) (protocol_of size : ℕ) : Type 0 where
  pub left : tower_number 0 octets ≡ 1
  pub protocol : number_at 2 1 octets ≡ protocol_of
  pub right : tower_number 3 octets ≡ size

-- Five floors: the interface of a device in version 1, NDR in version 2, connectionless RPC (0x0A) with minor version 0, UDP (0x08) with port 34964, and
-- IP (0x09) with the address.
pub record IsTower (octets : List ℕ) (address : List ℕ) : Type 0 where
  pub floors : tower_number 0 octets ≡ 5
  pub interface : IsUuidFloor (drop 2 octets) device_interface 1
  pub syntax_of : IsUuidFloor (drop 27 octets) transfer_syntax 2
  pub rpc : IsFloor (drop 52 octets) 0x0A 2
  pub rpc_minor : tower_number 57 octets ≡ 0
  pub udp : IsFloor (drop 59 octets) 0x08 2
  pub port : number_at 64 2 octets ≡ 34964
  pub ip : IsFloor (drop 66 octets) 0x09 4
  pub address_of : octets_at 71 4 octets ≡ address

-- ---- the stubs

-- The stub of an answer to ept_lookup with the entry: entry_handle; num_ents; the array's maximum, offset and length; object, the tower's referent, the
-- annotation's offset and length, and the annotation; the tower's maximum and length, and the tower; status 0.
pub record IsEntry (little : Bool) (octets : List ℕ) (identity : Identity) (address : List ℕ) (most : ℕ) : Type 0 where
  pub attributes : ordered_at little 0 4 octets ≡ 0
  pub handle : uuid_at little 4 octets ≡ object_uuid identity
  pub num_ents : ordered_at little 20 4 octets ≡ 1
  pub maximum : ordered_at little 24 4 octets ≡ most
  pub offset : ordered_at little 28 4 octets ≡ 0
  pub count : ordered_at little 32 4 octets ≡ 1
  pub object : uuid_at little 36 octets ≡ object_uuid identity
  pub referent : ordered_at little 52 4 octets ≡ 3
  pub annotation_offset : ordered_at little 56 4 octets ≡ 0
  pub annotation_length : ordered_at little 60 4 octets ≡ 64
  pub annotation_of : IsAnnotation (drop 64 octets) identity
  pub tower_maximum : ordered_at little 128 4 octets ≡ 75
  pub tower_length : ordered_at little 132 4 octets ≡ 75
  pub tower_of : IsTower (drop 136 octets) address
  pub status : ordered_at little 212 4 octets ≡ 0

-- The stub of an answer without an entry: a handle of zeros, no entries, and status 0x16C9A0D6 (ept_s_not_registered).
pub record IsEnd (little : Bool) (octets : List ℕ) (most : ℕ) : Type 0 where
  pub handle : octets_at 0 20 octets ≡ replicate 20 0
  pub num_ents : ordered_at little 20 4 octets ≡ 0
  pub maximum : ordered_at little 24 4 octets ≡ most
  pub offset : ordered_at little 28 4 octets ≡ 0
  pub count : ordered_at little 32 4 octets ≡ 0
  pub status : ordered_at little 36 4 octets ≡ 0x16C9A0D6

-- The stub of an answer to ept_lookup_handle_free: a handle of zeros, and status 0.
pub record IsFreed (little : Bool) (octets : List ℕ) : Type 0 where
  pub handle : octets_at 0 20 octets ≡ replicate 20 0
  pub status : ordered_at little 20 4 octets ≡ 0

-- A response, ptype 2 with the flags lastfrag (2) and nofack (8), whose stub has the entry.
abbrev pub IsEntryAnswer : List ℕ → Head → Identity → List ℕ → ℕ → Type 0
IsEntryAnswer octets call identity address most =
    IsAnswer octets call 2 10 216 0 × IsEntry (is_little_endian call) (drop 80 octets) identity address most

-- A response whose stub ends the lookup.
abbrev pub IsEndAnswer : List ℕ → Head → ℕ → Type 0
IsEndAnswer octets call most = IsAnswer octets call 2 10 40 0 × IsEnd (is_little_endian call) (drop 80 octets) most

-- A response whose stub says that a handle is freed.
abbrev pub IsFreedAnswer : List ℕ → Head → Type 0
IsFreedAnswer octets call = IsAnswer octets call 2 10 24 0 × IsFreed (is_little_endian call) (drop 80 octets)

-- The fields of an identity have their sizes.
pub record IsIdentity (identity : Identity) : Type 0 where
  pub device_type : length identity.station_type.items ≤ 25
  pub order_id : length identity.order_id ≡ 20
  pub hardware_revision : identity.hardware_revision < 65536
  pub prefix : slice_index identity.software_revision 0 < 256
  pub functional_enhancement : slice_index identity.software_revision 1 < 256
  pub bug_fix : slice_index identity.software_revision 2 < 256
  pub internal_change : slice_index identity.software_revision 3 < 256
