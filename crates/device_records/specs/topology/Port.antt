-- The records of the port and of the interface of a device (IEC 61158-6-10, 5.2.28): who it is, and who its neighbour is.
use Rattle.std.specs.Prelude.{ℕ, Bool, List, [], ◌∷◌, ◌++◌, length, Option, Some, None, ◌==◌, ◌&&◌, if◌then◌else◌}
use Rattle.wire.specs.Formats.{big_bytes}
use Rattle.pn_values.specs.declared.identity.Identity.{Identity}
use Rattle.pn_values.specs.declared.real.Real.{Real}
use Rattle.pn_values.specs.declared.settings.Settings.{Settings}
use Rattle.im_records.specs.Records.{is_real}
use Rattle.lldp.specs.Announcement.{own_chassis, port_name}
use Rattle.lldp.specs.Peer.{Peer}
use Rattle.device_records.specs.topology.Blocks.{aligned, block, counted}

-- ---- PDPortDataReal

-- slot 0, subslot 0x8001: the port
abbrev pub port_place : List ℕ
port_place = 0 ∷ 0 ∷ 128 ∷ 1 ∷ []

-- Padding, slot, subslot, the name of the port, and the number of neighbours.
abbrev pub port_front : ℕ → List ℕ
port_front neighbours = aligned (0 ∷ 0 ∷ port_place ++ (counted port_name ++ neighbours ∷ []))

-- A neighbour after these octets: its port, its chassis, LineDelay 0, and its MAC address.
abbrev pub with_peer : List ℕ → Peer → List ℕ
with_peer front peer = aligned (aligned (front ++ counted peer.port ++ counted peer.chassis) ++ (0 ∷ 0 ∷ 0 ∷ 0 ∷ peer.mac.octets))

-- MAUType 0, DomainBoundary 0, MulticastBoundary 0, LinkState.Port 0, LinkState.Link 1 (up), MediaType 0, with padding.
abbrev pub port_end : List ℕ
port_end = 0 ∷ 0 ∷ 0 ∷ 0 ∷ 0 ∷ 0 ∷ 0 ∷ 0 ∷ 0 ∷ 0 ∷ 0 ∷ 0 ∷ 0 ∷ 1 ∷ 0 ∷ 0 ∷ 0 ∷ 0 ∷ 0 ∷ 0 ∷ []

-- the octets after the header
abbrev pub port_body : Option Peer → List ℕ
port_body None = port_front 0 ++ port_end
port_body (Some peer) = with_peer (port_front 1) peer ++ port_end

-- PDPortDataReal: the port, and its neighbour if one is known.
unfoldable pub port_bytes : Option Peer → List ℕ
port_bytes peer = block 0x020F (port_body peer)

-- ---- PDInterfaceDataReal

-- the octets after the header: the ChassisID, the MAC address, and the running IP suite
abbrev pub interface_body : Identity → Settings → List ℕ
interface_body identity settings =
    aligned (counted (own_chassis identity.mac settings.name)) ++ identity.mac.octets ++ (0 ∷ 0 ∷ [])
    ++ (settings.suite.address ++ settings.suite.mask ++ settings.suite.gateway)

-- PDInterfaceDataReal: who the station is.
unfoldable pub interface_bytes : Identity → Settings → List ℕ
interface_bytes identity settings = block 0x0240 (interface_body identity settings)

-- ---- PDRealData

-- A MultipleBlockHeader of a subslot of slot 0 in API 0, which counts the block in it too.
abbrev pub multiple : ℕ → List ℕ → List ℕ
multiple subslot octets = block 0x0400 (0 ∷ 0 ∷ 0 ∷ 0 ∷ 0 ∷ 0 ∷ 0 ∷ 0 ∷ (big_bytes 2 subslot ++ octets))

-- this block at a subslot of slot 0, if a submodule is plugged there
abbrev pub where_plugged : Real → ℕ → List ℕ → List ℕ
where_plugged real subslot octets = if is_real real 0 subslot then multiple subslot octets else []

-- PDRealData: the interface and the port, each if its submodule is plugged.
unfoldable pub network_bytes : Identity → Real → Settings → Option Peer → List ℕ
network_bytes identity real settings peer =
    where_plugged real 0x8000 (interface_bytes identity settings) ++ where_plugged real 0x8001 (port_bytes peer)
