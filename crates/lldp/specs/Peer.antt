-- A neighbour: what it tells of itself, and the name of a station by its place.
use Rattle.std.specs.Prelude.{◌/◌, ◌%◌, ◌+◌, ◌==◌, ◌&&◌, ℕ, List, [], ◌∷◌, ◌++◌, length, drop, nat_lt, nat_eq, Option, None, Some, Bool, Result, Ok, Err, if◌then◌else◌}
use Rattle.std.specs.List.{list_any, flat_map}
use Rattle.std.specs.Cmp.Lexicographic.{pointwise}
use Rattle.pn_values.specs.declared.mac.Mac.{Mac}
use Rattle.pn_values.specs.StationName.{dot, hyphen}
use Rattle.lldp.specs.declared.fault.LldpFault.{LldpFault}
use Rattle.lldp.specs.Tlv.{Tlv, Id, type_of, chassis_mac}
use Rattle.wire.specs.Codec.{◌>>=◌}
use Rattle.lldp.specs.Message.{Message, message, others}

-- A neighbour: the texts of its ChassisID and PortID, and the MAC address of its chassis.
pub record Peer : Type 0 where
  pub chassis : List ℕ
  pub port : List ℕ
  pub mac : Mac

-- What a message says: the neighbour, and for how many seconds it is valid (TTL).
pub record Told : Type 0 where
  pub peer : Peer
  pub lifetime : ℕ

-- a hexadecimal digit in lower case
abbrev pub digit : ℕ → ℕ
digit n = if nat_lt n 10 then 48 + n else 87 + n

-- a hyphen and the two hexadecimal digits of an octet
abbrev pub dashed_octet : ℕ → List ℕ
dashed_octet x = hyphen ∷ digit (x / 16) ∷ digit (x % 16) ∷ []

-- the hexadecimal digits of octets, joined by hyphens
abbrev pub dashed : List ℕ → List ℕ
dashed octets = drop 1 (flat_map dashed_octet octets)

-- The text of a ChassisID. A MAC address (subtype 4) reads as its octets in hexadecimal.
abbrev pub chassis_text : Id → List ℕ
chassis_text i = if i.subtype == 4 && length i.octets == 6 then dashed i.octets else i.octets

-- the value of a reading, if there is one
abbrev pub value_of : {A : Type 0} → Result A LldpFault → Option A
value_of (Ok value) = Some value
value_of (Err fault) = None

-- the MAC address of the chassis, if this TLV tells it
abbrev pub mac_told : Tlv → Option Mac
mac_told t = if type_of t == 127 then value_of (chassis_mac.read t.octets) else None

-- A MAC address, or another one without it.
abbrev pub mac_or : Option Mac → Mac → Mac
mac_or None other = other
mac_or (Some mac) other = mac

-- The MAC address of the chassis that the first such TLV tells, else the frame's source address.
abbrev pub mac_in : Mac → List Tlv → Mac
mac_in source [] = source
mac_in source (t ∷ ts) = mac_or (mac_told t) (mac_in source ts)

-- what a message from this source address tells
abbrev pub told_by : Mac → Message → Told
told_by source m = record {
  peer = record { chassis = chassis_text m.chassis; port = m.port.octets; mac = mac_in source m.more };
  lifetime = m.lifetime;
}

-- the MAC address by the TLVs of these octets
abbrev pub mac_behind : Mac → List ℕ → Result Mac LldpFault
mac_behind source bytes = others.read bytes >>= λ more. Ok (mac_in source more)

-- what the message of these octets tells
abbrev pub told_from : Mac → List ℕ → Result Told LldpFault
told_from source bytes = message.read bytes >>= λ m. Ok (told_by source m)

-- Whether two messages come from the same neighbour: by chassis and port (IEEE 802.1AB, 8.5.2 and 8.5.3).
abbrev pub is_same : Peer → Peer → Bool
is_same one other = pointwise nat_eq one.chassis other.chassis && pointwise nat_eq one.port other.port

-- The name of a station by its place (AliasName): the PortID of its neighbour if it has a dot, else the PortID, a dot and
-- the ChassisID.
abbrev pub alias_of : Peer → List ℕ
alias_of peer = if list_any (λ byte. byte == dot) peer.port then peer.port else peer.port ++ dot ∷ peer.chassis
