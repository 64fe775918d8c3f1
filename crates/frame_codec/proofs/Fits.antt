-- What can be sent can be written.
use Rattle.std.proofs.Common.{◌≡◌, ◌≤◌, ◌<◌, ℕ, List, length, Option, Some, None, refl, arith}
use Rattle.frame_codec.specs.declared.arp.Arp.{Arp}
use Rattle.frame_codec.specs.declared.arp.ArpOperation.{ArpOperation}
use Rattle.frame_codec.specs.declared.arp.ArpOperation.TheVariants.{Request, Reply}
use Rattle.frame_codec.specs.declared.arp.Holder.{Holder}
use Rattle.frame_codec.specs.declared.udp.Endpoint.{Endpoint}
use Rattle.frame_codec.specs.Meaning.{Content, RealTime, ArpPacket, UdpDatagram, Meaning}
use Rattle.frame_codec.specs.Arp.{arp_head, arp_packet, holder, operation}
use Rattle.frame_codec.specs.Frame.{FitsFrame, arp, content_size, content_under, datagram, layers, ethernet, header_of, mac, real_time, tag_and_type, type_of}
use Rattle.frame_codec.specs.Sendable.{CanBeSent, IsContent, IsHolder, IsMac, IsTag}

-- ---- the Ethernet header

-- the EtherType of a content, which a tag may precede
tag_fits : (tag : Option ℕ) (content : Content) → IsTag tag → tag_and_type.Fits (tag, type_of content)
unfolding tag_and_type
tag_fits None (RealTime frame_id body) is = (omega arith, refl)
tag_fits None (ArpPacket packet) is = (omega arith, refl)
tag_fits None (UdpDatagram from to body) is = (omega arith, refl)
tag_fits (Some tag) (RealTime frame_id body) is = (omega arith, (omega (arith, is), omega arith))
tag_fits (Some tag) (ArpPacket packet) is = (omega arith, (omega (arith, is), omega arith))
tag_fits (Some tag) (UdpDatagram from to body) is = (omega arith, (omega (arith, is), omega arith))

pub header_fits : (meaning : Meaning) → IsMac meaning.destination → IsMac meaning.source → IsTag meaning.tag → ethernet.Fits (header_of meaning)
unfolding ethernet mac
header_fits meaning destination source tag = (destination, (source, tag_fits meaning.tag meaning.content tag))

-- ---- ARP

operation_fits : (value : ArpOperation) → operation.Fits value
unfolding operation
operation_fits Request = omega arith
operation_fits Reply = omega arith

holder_fits : (value : Holder) → IsHolder value → holder.Fits value
unfolding holder
holder_fits value is = is

head_fits : arp_head.Fits tt
unfolding arp_head
head_fits = ((refl, omega arith), ((refl, omega arith), ((refl, omega arith), (refl, omega arith))))

packet_fits : (packet : Arp) → IsHolder packet.sender → IsHolder packet.target → arp_packet.Fits packet
unfolding arp_packet
packet_fits packet sender target = (head_fits, (operation_fits packet.operation, (holder_fits packet.sender sender, holder_fits packet.target target)))

-- ---- the frame

-- a datagram fits: a clause of the format
abbrev pub DatagramsFit : Type 0
DatagramsFit = (from to : Endpoint) (body : List ℕ) → length from.address ≡ 4 → length to.address ≡ 4 → from.port < 65536 → to.port < 65536
    → length body ≤ 1472 → datagram.Fits (UdpDatagram from to body)

content_fits : DatagramsFit → (content : Content) → IsContent content → (content_under (type_of content)).Fits content
unfolding real_time arp
content_fits fit (RealTime frame_id body) is = (omega (arith, is.0), tt)
content_fits fit (ArpPacket packet) is = packet_fits packet is.0 is.1
content_fits fit (UdpDatagram from to body) is = fit from to body is.0.0 is.1.0 is.0.1 is.1.1 is.2

pub layers_fit : DatagramsFit → (meaning : Meaning) → CanBeSent meaning → layers.Fits meaning
unfolding layers
layers_fit fit meaning is = (header_fits meaning is.destination is.source is.tag, content_fits fit meaning.content is.content)

pub frame_fits : (meaning : Meaning) → IsContent meaning.content → FitsFrame meaning
frame_fits meaning is = few meaning.content is
  where
    few : (content : Content) → IsContent content → content_size content ≤ 1500
    few (RealTime frame_id body) is = omega (arith, is.1)
    few (ArpPacket packet) is = omega arith
    few (UdpDatagram from to body) is = omega (arith, is.2)
