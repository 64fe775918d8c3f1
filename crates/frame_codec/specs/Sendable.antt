-- Which frames can be sent: each field has its size, and the content fits.
use Rattle.std.specs.Prelude.{◌≡◌, ◌≤◌, ◌<◌, ℕ, length, Option, Some, None, Result, Ok, Err, ⊤}
use Rattle.pn_values.specs.declared.mac.Mac.{Mac}
use Rattle.frame_codec.specs.declared.arp.Holder.{Holder}
use Rattle.frame_codec.specs.declared.fault.FrameFault.{FrameFault}
use Rattle.frame_codec.specs.declared.udp.Endpoint.{Endpoint}
use Rattle.frame_codec.specs.Meaning.{Content, RealTime, ArpPacket, UdpDatagram, Meaning}

-- a MAC address has six octets
abbrev pub IsMac : Mac → Type 0
IsMac mac = length mac.octets ≡ 6

-- an endpoint: its IPv4 address has four octets, and its port has two
abbrev pub IsEndpoint : Endpoint → Type 0
IsEndpoint endpoint = (length endpoint.address ≡ 4) × (endpoint.port < 65536)

-- a station with its MAC address and IPv4 address, each of its size
abbrev pub IsHolder : Holder → Type 0
IsHolder holder = IsMac holder.mac × (length holder.address ≡ 4)

-- the word of a tag has two octets
abbrev pub IsTag : Option ℕ → Type 0
IsTag None = ⊤
IsTag (Some tag) = tag < 65536

-- a content of at most 1,500 octets: a FrameID has two, and the headers of IPv4 and UDP have 28
abbrev pub IsContent : Content → Type 0
IsContent (RealTime frame_id body) = (frame_id < 65536) × (length body ≤ 1498)
IsContent (ArpPacket arp) = IsHolder arp.sender × IsHolder arp.target
IsContent (UdpDatagram from to body) = IsEndpoint from × IsEndpoint to × (length body ≤ 1472)

-- a frame that can be sent
pub record CanBeSent (meaning : Meaning) : Type 0 where
  pub destination : IsMac meaning.destination
  pub source : IsMac meaning.source
  pub tag : IsTag meaning.tag
  pub content : IsContent meaning.content

-- a frame from one station to another, with or without a tag, with this content
abbrev pub carrying : Mac → Mac → Option ℕ → Content → Meaning
carrying destination source tag content = record { destination = destination; source = source; tag = tag; content = content }

-- real-time data
abbrev pub IsRealTime : Content → Type 0
IsRealTime (RealTime frame_id body) = ⊤
IsRealTime (ArpPacket arp) = ⊥
IsRealTime (UdpDatagram from to body) = ⊥

-- a frame of real-time data, or not a frame
abbrev pub IsRealTimeOrNone : Result Meaning FrameFault → Type 0
IsRealTimeOrNone (Ok meaning) = IsRealTime meaning.content
IsRealTimeOrNone (Err fault) = ⊤
