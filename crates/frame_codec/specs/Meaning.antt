-- What a frame means.
use Rattle.std.specs.Prelude.{ℕ, List, Option, Result, Ok, Err, ◌++◌, ⊤}
use Rattle.pn_values.specs.declared.mac.Mac.{Mac}
use Rattle.frame_codec.specs.declared.arp.Arp.{Arp}
use Rattle.frame_codec.specs.declared.udp.Endpoint.{Endpoint}
use Rattle.frame_codec.specs.declared.layered.Layered.{Layered}
use Rattle.frame_codec.specs.declared.layered.Payload.{Payload}
use Rattle.frame_codec.specs.declared.layered.Pieces.{Pieces}
use Rattle.frame_codec.specs.declared.layered.RealTimeFrame.{RealTimeFrame}
use Rattle.frame_codec.specs.declared.layered.Payload.TheVariants as payload

-- What a frame carries. Under EtherType 0x8892: a FrameID and all bytes after it, including padding. Under 0x0806: a
-- packet of ARP. Under 0x0800: a datagram of UDP, whose lengths say where it ends.
pub data Content : Type 0 where
  RealTime : (frame_id : ℕ) → (body : List ℕ) → Content
  ArpPacket : (arp : Arp) → Content
  UdpDatagram : (source destination : Endpoint) → (body : List ℕ) → Content

-- the meaning of a frame
pub record Meaning : Type 0 where
  pub destination : Mac
  pub source : Mac
  pub tag : Option ℕ
  pub content : Content

-- what a payload means
abbrev pub content_of : Payload → Content
content_of (payload.RealTime frame_id body) = RealTime frame_id body.now
content_of (payload.Arp arp) = ArpPacket arp
content_of (payload.Udp udp) = UdpDatagram udp.source udp.destination udp.body.now

-- the meaning of layers: their octets, independent of where they lie in memory
abbrev pub meaning_of : Layered → Meaning
meaning_of layered = record { destination = layered.destination; source = layered.source; tag = layered.tag; content = content_of layered.payload }

-- the meaning of pieces: their body is one piece after the other
abbrev pub meaning_in : Pieces → Meaning
meaning_in pieces = record { destination = pieces.destination; source = pieces.source; tag = pieces.tag; content = RealTime pieces.frame_id (pieces.front.now ++ pieces.behind.now) }

-- what a real-time frame means
abbrev pub meaning_as : RealTimeFrame → Meaning
meaning_as frame = record { destination = frame.destination; source = frame.source; tag = frame.tag; content = RealTime frame.frame_id frame.body.now }

-- no real-time data
abbrev pub IsOther : Content → Type 0
IsOther (RealTime frame_id body) = ⊥
IsOther (ArpPacket arp) = ⊤
IsOther (UdpDatagram source destination body) = ⊤

-- not a frame of real-time data: a frame with other content, or not a frame
abbrev pub IsNoRealTime : {F : Type 0} → Result Meaning F → Type 0
IsNoRealTime (Ok meaning) = IsOther meaning.content
IsNoRealTime (Err fault) = ⊤
