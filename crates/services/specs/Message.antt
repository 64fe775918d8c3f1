-- Echo messages (RFC 792) in packets of IPv4 (RFC 791).
use Rattle.std.specs.Prelude.{◌≡◌, ◌+◌, ◌==◌, ℕ, true, List, [], length, Err, if◌then◌else◌}
use Rattle.wire.specs.Codec.{Codec, Whole}
use Rattle.wire.specs.Formats.{raw, number, then_by, ◌⨾◌, seen, unchecked}
use Rattle.wire.specs.Whole.{everything, ends_by, seen_whole, loose}
use Rattle.wire.specs.Checks.{fixed, allowed}
use Rattle.wire.specs.Kept.{kept, cut}
use Rattle.frame_codec.specs.declared.fault.FrameFault.{FrameFault}
use Rattle.frame_codec.specs.declared.fault.FrameFault.TheVariants.{IpHeader, IpChecksum}
use Rattle.frame_codec.specs.Sum.{ones_sum_of, complement}
use Rattle.frame_codec.specs.Internet.{internet_size, no_fragment}
use Rattle.services.specs.declared.header.IcmpPacket.{IcmpPacket}
use Rattle.services.specs.declared.message.EchoHeader.{EchoHeader}

-- ---- the header of IPv4

-- not a fragment, any time to live, protocol 1
unfoldable pub icmp_way : Codec FrameFault (Unit {0})
icmp_way = seen (λ _. tt) (λ _. (tt, (tt, tt))) (no_fragment ⨾ unchecked IpHeader 1 64 ⨾ fixed IpHeader 1 1)

-- the header of a packet of ICMP: as that of a packet of UDP, but with protocol 1
unfoldable pub icmp_packet : Codec FrameFault IcmpPacket
icmp_packet = seen (λ x. record { size = x.0; checksum = x.1.1.0; source = x.1.1.1.0; destination = x.1.1.1.1 })
    (λ header. (header.size, (tt, (header.checksum, (header.source, header.destination)))))
    (internet_size ⨾ icmp_way ⨾ number IpHeader 2 ⨾ raw IpHeader 4 ⨾ raw IpHeader 4)

-- ---- an echo message

-- a type, code 0, the checksum, the identifier and the sequence number
unfoldable pub echo_header : ℕ → Codec FrameFault EchoHeader
echo_header kind = seen (λ x. record { checksum = x.1.1.0; identifier = x.1.1.1.0; sequence = x.1.1.1.1 })
    (λ header. (tt, (tt, (header.checksum, (header.identifier, header.sequence)))))
    (fixed IpHeader 1 kind ⨾ fixed IpHeader 1 0 ⨾ number IpHeader 2 ⨾ number IpHeader 2 ⨾ number IpHeader 2)

-- a header, and data up to the end of the packet
unfoldable pub echo_message : ℕ → Whole FrameFault (EchoHeader × List ℕ)
echo_message kind = ends_by (echo_header kind) (λ _. everything)

-- octets whose ones' complement sum is all ones, as that of a message with its checksum is
abbrev pub summed : {A : Type 0} → Whole FrameFault A → Whole FrameFault A
summed whole = record {
  Spells = λ bytes value. ((ones_sum_of bytes == 65535) ≡ true) × whole.Spells bytes value;
  write = whole.write;
  size = whole.size;
  Fits = λ value. ((ones_sum_of (whole.write value) == 65535) ≡ true) × whole.Fits value;
  read = λ bytes. if ones_sum_of bytes == 65535 then whole.read bytes else Err IpChecksum;
}

-- ---- a packet

-- what follows a header, if the sum of the header's octets is all ones
abbrev pub echo_inside : ℕ → IcmpPacket × List ℕ → Whole FrameFault (EchoHeader × List ℕ)
echo_inside kind header = allowed (ones_sum_of header.1 == 65535) IpChecksum (summed (echo_message kind))

-- a header with its octets, and an echo message in the rest of the total length
unfoldable pub echo_packet : ℕ → Codec FrameFault ((IcmpPacket × List ℕ) × (EchoHeader × List ℕ))
echo_packet kind = then_by (kept icmp_packet) (λ header. cut IpHeader header.0.size (echo_inside kind header))

-- ---- what it means

-- An echo message, and the addresses that it is sent between.
pub record EchoMeaning : Type 0 where
  pub source : List ℕ
  pub destination : List ℕ
  pub identifier : ℕ
  pub sequence : ℕ
  pub body : List ℕ

-- what a packet says
abbrev pub echo_in : (IcmpPacket × List ℕ) × (EchoHeader × List ℕ) → EchoMeaning
echo_in x = record {
  source = x.0.0.source;
  destination = x.0.0.destination;
  identifier = x.1.0.identifier;
  sequence = x.1.0.sequence;
  body = x.1.1;
}

-- ---- what is written

-- the header of a packet with its checksum in place of the 0 in that field
abbrev pub packet_sealed : IcmpPacket → IcmpPacket
packet_sealed header = record header { checksum = complement (ones_sum_of (icmp_packet.write header [])) }

-- the header of a message with its checksum in place of the 0 in that field
abbrev pub message_sealed : ℕ → EchoHeader → List ℕ → EchoHeader
message_sealed kind header body = record header { checksum = complement (ones_sum_of ((echo_message kind).write (header, body))) }

-- the header of the packet that is sent for a message
abbrev pub packet_header : EchoMeaning → IcmpPacket
packet_header echo = packet_sealed (record { size = length echo.body + 8; checksum = 0; source = echo.source; destination = echo.destination })

-- the header of the message that is sent
abbrev pub message_header : ℕ → EchoMeaning → EchoHeader
message_header kind echo = message_sealed kind (record { checksum = 0; identifier = echo.identifier; sequence = echo.sequence }) echo.body

-- the packet that is sent for a message of this type
abbrev pub packet_of : ℕ → EchoMeaning → (IcmpPacket × List ℕ) × (EchoHeader × List ℕ)
packet_of kind echo = ((packet_header echo, icmp_packet.write (packet_header echo) []), (message_header kind echo, echo.body))

-- an echo message of this type in a packet of IPv4; the octets after the packet are ignored
unfoldable pub echo : ℕ → Whole FrameFault EchoMeaning
echo kind = seen_whole echo_in (packet_of kind) (loose (echo_packet kind))
