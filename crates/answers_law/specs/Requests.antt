-- What a frame asks of a station: by DCP (IEC 61158-6-10, 4.3), by ARP (RFC 826), or by IPv4 (RFC 791).
use Rattle.std.specs.Prelude.{◌≡◌, ◌≢◌, ◌⊎◌, ◌<◌, ◌≤◌, ◌+◌, ◌%◌, ◌==◌, ◌&&◌, ℕ, zero, suc, Bool, true, false, List, [], ◌∷◌, ◌++◌, length, take, drop, Option, Some, None, nat_eq, nat_le, nat_lt, if◌then◌else◌, option_map}
use Rattle.std.specs.Cmp.Lexicographic.{pointwise}
use Rattle.std.specs.List.{list_all}
use Rattle.field_words.specs.Cyclic.{is_cyclic_id}
use Rattle.field_words.specs.Octets.{octet_at, part_at, type_place, word_at}

-- ---- a station

-- What a station has, as octets, under the Options and Suboptions of DCP (4.3.1.4.1): its MAC address (1/1), its IP address, subnet mask and
-- gateway (1/2, one after another), its type (2/1), its name (2/2), VendorID and DeviceID (2/3), a name by its place while it knows its neighbour
-- (2/6), and its instance (2/7).
pub record Station : Type 0 where
  pub mac : List ℕ
  pub address : List ℕ
  pub mask : List ℕ
  pub gateway : List ℕ
  pub kind : List ℕ
  pub name : List ℕ
  pub device : List ℕ
  pub alias : Option (List ℕ)
  pub instance : List ℕ

-- Its IP suite.
abbrev pub suite : Station → List ℕ
suite has = has.address ++ has.mask ++ has.gateway

-- ---- the fields of a request of DCP (4.3.1.2), after the FrameID: ServiceID 0, ServiceType 1, Xid 2, ResponseDelay 6, DCPDataLength 8, data 10

-- FrameID: the two octets after the EtherType.
abbrev pub frame_id_in : List ℕ → ℕ
frame_id_in frame = word_at (type_place frame + 2) frame

-- What follows the FrameID.
abbrev pub pdu : List ℕ → List ℕ
pdu frame = drop (type_place frame + 4) frame

-- Xid: four octets.
abbrev pub xid_in : List ℕ → List ℕ
xid_in frame = part_at 2 4 (pdu frame)

-- The data: as many octets as DCPDataLength says.
abbrev pub data_in : List ℕ → List ℕ
data_in frame = part_at 10 (word_at 8 (pdu frame)) (pdu frame)

-- A block, or the pair of an Option and a Suboption in a Get, which has no value.
pub record Block : Type 0 where
  pub option : ℕ
  pub suboption : ℕ
  pub value : List ℕ

-- The block at the front of octets: Option 0, Suboption 1, length 2, value 4.
abbrev pub block_in : List ℕ → Block
block_in octets = record { option = octet_at 0 octets; suboption = octet_at 1 octets; value = part_at 4 (word_at 2 octets) octets }

-- The pair of an Option and a Suboption.
abbrev pub pair_in : ℕ → ℕ → Block
pair_in option suboption = record { option = option; suboption = suboption; value = [] }

-- The blocks of an Identify or a Set (4.3.1.4), with an octet of padding after a value of an odd length, which may be missing at the end. Each has
-- at least this many octets of value, all of them are there, and there are at most n blocks; else no block is read.
abbrev pub blocks_at : ℕ → ℕ → List ℕ → Option (List Block)
blocks_at least most [] = Some []
blocks_at least zero (first ∷ more) = None
blocks_at least (suc most) (first ∷ more) =
    let octets = first ∷ more in
    let size = word_at 2 octets in
    if nat_le least size && nat_le (4 + size) (length octets)
    then option_map (λ (blocks : List Block). block_in octets ∷ blocks) (blocks_at least most (drop (4 + size + size % 2) octets))
    else None

-- The pairs of a Get (4.3.1.4): Option and Suboption, at most n of them.
abbrev pub pairs_at : ℕ → List ℕ → Option (List Block)
pairs_at most [] = Some []
pairs_at zero (first ∷ more) = None
pairs_at (suc most) (first ∷ []) = None
pairs_at (suc most) (first ∷ second ∷ more) =
    option_map (λ (pairs : List Block). pair_in first second ∷ pairs) (pairs_at most more)

-- A request of a service (4.3.1.2): ServiceType is 0, all octets of its data are there, and it is not longer than a frame of Ethernet.
pub record IsRequest (id service : ℕ) (frame : List ℕ) : Type 0 where
  pub ether_type : word_at (type_place frame) frame ≡ 0x8892
  pub frame_id : frame_id_in frame ≡ id
  pub service_id : octet_at 0 (pdu frame) ≡ service
  pub service_type : octet_at 1 (pdu frame) ≡ 0
  pub whole : 10 + word_at 8 (pdu frame) ≤ length (pdu frame)
  pub short : length frame ≤ type_place frame + 1502

-- ---- which requests are for a station

-- The multicast address of Identify (4.3.1.1.3).
abbrev pub identify_address : List ℕ
identify_address = 0x01 ∷ 0x0E ∷ 0xCF ∷ 0 ∷ 0 ∷ 0 ∷ []

-- The address of all stations (IEEE 802.3, 3.2.3).
abbrev pub broadcast_address : List ℕ
broadcast_address = 0xFF ∷ 0xFF ∷ 0xFF ∷ 0xFF ∷ 0xFF ∷ 0xFF ∷ []

-- Whether two lists of octets are the same.
abbrev pub same : List ℕ → List ℕ → Bool
same one other = pointwise nat_eq one other

-- Whether a station has this name by its place.
abbrev pub is_alias : Option (List ℕ) → List ℕ → Bool
is_alias (Some alias) value = same alias value
is_alias None value = false

-- Whether a value is the one that a station has under Option 2 (device properties). An empty name is that of no station, its role is 1 with a
-- reserved octet, and the Options that it knows (2/5) are not compared.
abbrev pub fits_property : Station → ℕ → List ℕ → Bool
fits_property has suboption value =
    if suboption == 1 then same has.kind value
    else if suboption == 2 then nat_lt 0 (length value) && same has.name value
    else if suboption == 3 then same has.device value
    else if suboption == 4 then same (1 ∷ 0 ∷ []) value
    else if suboption == 6 then is_alias has.alias value
    else if suboption == 7 then same has.instance value
    else false

-- Whether a block of an Identify fits a station (4.3.2.3): it asks for all stations (255/255) without a value, or has the value of the station.
abbrev pub fits : Station → Block → Bool
fits has block =
    if block.option == 255 && block.suboption == 255 then length block.value == 0
    else if block.option == 1 && block.suboption == 1 then same has.mac block.value
    else if block.option == 1 && block.suboption == 2 then same (suite has) block.value
    else if block.option == 2 then fits_property has block.suboption block.value
    else false

-- An Identify for this station: to its MAC address or to the multicast address, with one block or more, each of which fits it.
pub record IsIdentify (has : Station) (frame : List ℕ) : Type 0 where
  pub is : IsRequest 0xFEFE 5 frame
  pub to : (take 6 frame ≡ has.mac) ⊎ (take 6 frame ≡ identify_address)
  pub blocks : List Block
  pub there : blocks_at 0 16 (data_in frame) ≡ Some blocks
  pub some : 0 < length blocks
  pub fit : list_all (fits has) blocks ≡ true

-- A Get for this station, of these pairs.
pub record IsGet (has : Station) (pairs : List Block) (frame : List ℕ) : Type 0 where
  pub is : IsRequest 0xFEFD 3 frame
  pub to : take 6 frame ≡ has.mac
  pub there : pairs_at 16 (data_in frame) ≡ Some pairs

-- A Set for this station, of these blocks. Each has a BlockQualifier of two octets.
pub record IsSet (has : Station) (blocks : List Block) (frame : List ℕ) : Type 0 where
  pub is : IsRequest 0xFEFD 4 frame
  pub to : take 6 frame ≡ has.mac
  pub there : blocks_at 2 16 (data_in frame) ≡ Some blocks

-- ---- ARP (RFC 826), after the EtherType: hardware type 0, protocol 2, lengths of addresses 4 and 5, operation 6, addresses of the sender 8 and 14
-- and of the target 18 and 24

-- What follows the EtherType.
abbrev pub packet : List ℕ → List ℕ
packet frame = drop (type_place frame + 2) frame

-- A request for the address of a station, to it or to all. The address 0.0.0.0 is that of no station.
pub record IsResolve (has : Station) (frame : List ℕ) : Type 0 where
  pub to : (take 6 frame ≡ has.mac) ⊎ (take 6 frame ≡ broadcast_address)
  pub ether_type : word_at (type_place frame) frame ≡ 0x0806
  pub hardware : word_at 0 (packet frame) ≡ 1
  pub protocol : word_at 2 (packet frame) ≡ 0x0800
  pub hardware_size : octet_at 4 (packet frame) ≡ 6
  pub protocol_size : octet_at 5 (packet frame) ≡ 4
  pub operation : word_at 6 (packet frame) ≡ 1
  pub target : part_at 24 4 (packet frame) ≡ has.address
  pub real : has.address ≢ 0 ∷ 0 ∷ 0 ∷ 0 ∷ []
  pub whole : 28 ≤ length (packet frame)
  pub short : length frame ≤ type_place frame + 1502

-- ---- what is not for a station

-- A frame that goes to other stations: not to its MAC address, not to the multicast address of Identify, and not to all.
pub record IsElsewhere (has : Station) (frame : List ℕ) : Type 0 where
  pub other : take 6 frame ≢ has.mac
  pub group : take 6 frame ≢ identify_address
  pub all : take 6 frame ≢ broadcast_address

-- A packet of IPv4 (RFC 791, 3.1) to another address than that of the station. The destination is at place 16 of its header.
pub record IsOfOther (has : Station) (frame : List ℕ) : Type 0 where
  pub ether_type : word_at (type_place frame) frame ≡ 0x0800
  pub target : part_at 16 4 (packet frame) ≢ has.address

-- A frame that is neither a packet of IPv4 nor, of PROFINET, one of cyclic data or of alarms (FrameIDs 0xFC01 and 0xFE01, 4.3.1.1): it is one of DCP
-- or of ARP, or of what a device does not know.
pub data IsOtherThan (frame : List ℕ) : Type 0 where
  Profinet : word_at (type_place frame) frame ≡ 0x8892 → is_cyclic_id (frame_id_in frame) ≡ false → frame_id_in frame ≢ 0xFC01 → frame_id_in frame ≢ 0xFE01
      → IsOtherThan frame
  Resolution : word_at (type_place frame) frame ≡ 0x0806 → IsOtherThan frame
  Unknown : word_at (type_place frame) frame ≢ 0x8892 → word_at (type_place frame) frame ≢ 0x0806 → word_at (type_place frame) frame ≢ 0x0800 → IsOtherThan frame

-- A frame of these that is no request for the station.
pub record IsUnasked (has : Station) (frame : List ℕ) : Type 0 where
  pub type : IsOtherThan frame
  pub identify : IsIdentify has frame → ⊥
  pub get : (pairs : List Block) → IsGet has pairs frame → ⊥
  pub set : (blocks : List Block) → IsSet has blocks frame → ⊥
  pub resolve : IsResolve has frame → ⊥
