-- PDPortDataReal, PDInterfaceDataReal and PDRealData as a reader finds them (IEC 61158-6-10, 5.2.28).
use Rattle.std.specs.Prelude.{◌≡◌, ◌+◌, ◌*◌, ◌/◌, ◌<◌, ℕ, List, [], ◌∷◌, drop, length, Option, Some, None, if◌then◌else◌}
use Rattle.pn_values.specs.declared.mac.Mac.{Mac}
use Rattle.pn_values.specs.declared.real.Real.{Real}
use Rattle.pn_values.specs.declared.ip_suite.IpSuite.{IpSuite}
use Rattle.im_records.specs.Records.{is_real}
use Rattle.lldp.specs.Peer.{Peer}
use Rattle.end_laws.specs.log_data.Reading.{number_at, octets_at}

-- ---- what the records have in common

-- A block of version 1.0: BlockType; BlockLength, which counts what follows it.
pub record IsBlock (octets : List ℕ) (type_of : ℕ) : Type 0 where
  pub kind : number_at 0 2 octets ≡ type_of
  pub size : number_at 2 2 octets + 4 ≡ length octets
  pub version : octets_at 4 2 octets ≡ 1 ∷ 0 ∷ []

-- The next place that is a multiple of four octets.
abbrev pub aligned_place : ℕ → ℕ
aligned_place place = (place + 3) / 4 * 4

-- ---- PDPortDataReal

-- `port-001`
abbrev pub own_port : List ℕ
own_port = 0x70 ∷ 0x6F ∷ 0x72 ∷ 0x74 ∷ 0x2D ∷ 0x30 ∷ 0x30 ∷ 0x31 ∷ []

-- MAUType 0, DomainBoundary 0, MulticastBoundary 0, LinkState.Port 0 (unknown) and LinkState.Link 1 (up), MediaType 0 (unknown).
pub record IsPortEnd (octets : List ℕ) : Type 0 where
  pub mau_type : number_at 0 2 octets ≡ 0
  pub domain_boundary : number_at 4 4 octets ≡ 0
  pub multicast_boundary : number_at 8 4 octets ≡ 0
  pub link_state_port : number_at 12 1 octets ≡ 0
  pub link_state_link : number_at 13 1 octets ≡ 1
  pub media_type : number_at 16 4 octets ≡ 0
  pub end : length octets ≡ 20

-- A neighbour at place 24: PeerPortID after its length, PeerChassisID after its length; from the next multiple of four octets LineDelay 0 and
-- PeerMACAddress; and the end from the next one.
abbrev pub after_names : Peer → ℕ
after_names peer = aligned_place (26 + length peer.port + length peer.chassis)

-- These octets of PDPortDataReal name this neighbour: its port and chassis with their lengths, LineDelay 0 and its MAC
-- address; after padding the end of the record follows.
pub record IsPeer (octets : List ℕ) (peer : Peer) : Type 0 where
  pub port_length : number_at 24 1 octets ≡ length peer.port
  pub port : octets_at 25 (length peer.port) octets ≡ peer.port
  pub chassis_length : number_at (25 + length peer.port) 1 octets ≡ length peer.chassis
  pub chassis : octets_at (26 + length peer.port) (length peer.chassis) octets ≡ peer.chassis
  pub line_delay : number_at (after_names peer) 4 octets ≡ 0
  pub mac : octets_at (after_names peer + 4) 6 octets ≡ peer.mac.octets
  pub after : IsPortEnd (drop (aligned_place (after_names peer + 10)) octets)

-- PDPortDataReal, BlockType 0x020F: slot 0, subslot 0x8001, OwnPortID after its length, and NumberOfPeers.
pub record IsPortHead (octets : List ℕ) (peers : ℕ) : Type 0 where
  pub block : IsBlock octets 0x020F
  pub slot : number_at 8 2 octets ≡ 0
  pub subslot : number_at 10 2 octets ≡ 0x8001
  pub own_length : number_at 12 1 octets ≡ 8
  pub own : octets_at 13 8 octets ≡ own_port
  pub count : number_at 21 1 octets ≡ peers

-- PDPortDataReal without a neighbour, and with one.
abbrev pub IsPort : List ℕ → Option Peer → Type 0
IsPort octets None = IsPortHead octets 0 × IsPortEnd (drop 24 octets)
IsPort octets (Some peer) = IsPortHead octets 1 × IsPeer octets peer

-- ---- PDInterfaceDataReal

-- PDInterfaceDataReal, BlockType 0x0240: OwnChassisID after its length; from the next multiple of four octets the MAC address; and IPAddress, Subnetmask and
-- StandardGateway.
pub record IsInterface (octets : List ℕ) (chassis : List ℕ) (mac : Mac) (suite : IpSuite) : Type 0 where
  pub block : IsBlock octets 0x0240
  pub chassis_length : number_at 6 1 octets ≡ length chassis
  pub chassis_is : octets_at 7 (length chassis) octets ≡ chassis
  pub mac_is : octets_at (aligned_place (7 + length chassis)) 6 octets ≡ mac.octets
  pub address : octets_at (aligned_place (7 + length chassis) + 8) 4 octets ≡ suite.address
  pub mask : octets_at (aligned_place (7 + length chassis) + 12) 4 octets ≡ suite.mask
  pub gateway : octets_at (aligned_place (7 + length chassis) + 16) 4 octets ≡ suite.gateway

-- ---- PDRealData

-- A MultipleBlockHeader, BlockType 0x0400, which counts the block in it: API 0, slot 0 and the subslot; and the block.
pub record IsMultiple (octets : List ℕ) (subslot_of : ℕ) (inside : List ℕ) : Type 0 where
  pub kind : number_at 0 2 octets ≡ 0x0400
  pub size : number_at 2 2 octets ≡ 12 + length inside
  pub version : octets_at 4 2 octets ≡ 1 ∷ 0 ∷ []
  pub api : number_at 8 4 octets ≡ 0
  pub slot : number_at 12 2 octets ≡ 0
  pub subslot : number_at 14 2 octets ≡ subslot_of
  pub inside_is : octets_at 16 (length inside) octets ≡ inside

-- One after another, to the end.
abbrev pub AreMultiple : List ℕ → List (ℕ × List ℕ) → Type 0
AreMultiple octets [] = octets ≡ []
AreMultiple octets (block ∷ blocks) = IsMultiple octets block.0 block.1 × AreMultiple (drop (4 + number_at 2 2 octets) octets) blocks

-- The block of a subslot of slot 0, if a submodule is plugged there.
abbrev pub block_of : Real → ℕ → List ℕ → List (ℕ × List ℕ)
block_of real subslot octets = if is_real real 0 subslot then (subslot, octets) ∷ [] else []

-- ---- sizes

-- The texts of a neighbour have a length of one octet each.
pub record IsNeighbour (peer : Peer) : Type 0 where
  pub port : length peer.port < 256
  pub chassis : length peer.chassis < 256
  pub mac : length peer.mac.octets ≡ 6

-- The addresses of an IP suite have four octets.
pub record IsSuite (suite : IpSuite) : Type 0 where
  pub address : length suite.address ≡ 4
  pub mask : length suite.mask ≡ 4
  pub gateway : length suite.gateway ≡ 4
