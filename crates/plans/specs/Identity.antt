-- What a controller says of itself to tools by DCP (IEC 61158-6-10, 4.3.1.4).
use Rattle.std.specs.Prelude.{◌&&◌, ◌==◌, ℕ, Bool, List, length, nat_le, not}
use Rattle.std.specs.List.{list_all}

-- VendorID, DeviceID, and the type of station (DeviceVendorValue).
pub record OwnIdentity : Type 0 where
  pub vendor_id : ℕ
  pub device_id : ℕ
  pub station_type : List ℕ

-- a printable character of ASCII: 0x20 to 0x7E
abbrev pub is_printable : ℕ → Bool
is_printable octet = nat_le 0x20 octet && nat_le octet 0x7E

-- each octet is printable
abbrev pub are_printable : List ℕ → Bool
are_printable octets = list_all is_printable octets

-- a type of station: 1 to 25 printable octets
abbrev pub is_station_type : List ℕ → Bool
is_station_type octets = not (length octets == 0) && nat_le (length octets) 25 && are_printable octets
