-- Frames that carry an echo request, and their replies (RFC 792).
use Rattle.std.specs.Prelude.{◌-◌, ◌==◌, ℕ, List, ◌++◌, length, replicate, None, Result, Ok, Err, nat_lt, if◌then◌else◌}
use Rattle.wire.specs.Codec.{◌>>=◌}
use Rattle.pn_values.specs.declared.mac.Mac.{Mac}
use Rattle.frame_codec.specs.declared.fault.FrameFault.{FrameFault}
use Rattle.frame_codec.specs.declared.fault.FrameFault.TheVariants.{TooLong, EtherType}
use Rattle.wire.specs.Codec.{Codec}
use Rattle.wire.specs.Formats.{◌⨾◌, seen}
use Rattle.frame_codec.specs.Frame.{internet, longest, mac, tag_and_type}
use Rattle.services.specs.declared.link.LinkHeader.{LinkHeader}
use Rattle.services.specs.Message.{EchoMeaning, echo}

-- the Ethernet header: the addresses, the tag if there is one, and the EtherType
unfoldable pub link : Codec FrameFault LinkHeader
link = seen (λ x. record { destination = x.0; source = x.1.0; tag = x.1.1.0; ether_type = x.1.1.1 })
    (λ header. (header.destination, (header.source, (header.tag, header.ether_type))))
    (mac ⨾ mac ⨾ tag_and_type)

-- the header of a frame with a packet of IPv4, without a tag
abbrev pub internet_link : Mac → Mac → LinkHeader
internet_link destination source = record { destination = destination; source = source; tag = None; ether_type = internet }

-- An echo request: the stations that its frame goes between, and its message.
pub record Request : Type 0 where
  pub destination : Mac
  pub source : Mac
  pub echo : EchoMeaning

-- what a frame with this header asks, if it carries a packet of IPv4 with an echo request
abbrev pub request_in : List ℕ → LinkHeader × List ℕ → Result Request FrameFault
request_in bytes frame =
    if nat_lt (longest frame.0.tag) (length bytes) then Err TooLong
    else if frame.0.ether_type == internet then ((echo 8).read frame.1 >>= λ message. Ok (record { destination = frame.0.destination; source = frame.0.source; echo = message }))
    else Err EtherType

-- The echo request of a frame, or why it carries none. The frame is at most as long as a frame may be; its header of IPv4
-- is valid, with its checksum, and so is its message.
unfoldable pub request_of : List ℕ → Result Request FrameFault
request_of bytes = link.read bytes >>= request_in bytes

-- the same message with its addresses exchanged
abbrev pub echoed : EchoMeaning → EchoMeaning
echoed message = record message { source = message.destination; destination = message.source }

-- the octets of the reply before its padding
abbrev pub reply_layers : Mac → Request → List ℕ
reply_layers mac request = link.write (internet_link request.source mac) ((echo 0).write (echoed request.echo))

-- The frame that replies to a request from the station of this MAC address: an echo reply with the same identifier,
-- sequence number and data, to the station that sent the request, padded with zeros to 60 octets.
unfoldable pub reply_frame : Mac → Request → List ℕ
reply_frame mac request = reply_layers mac request ++ replicate (60 - length (reply_layers mac request)) 0
