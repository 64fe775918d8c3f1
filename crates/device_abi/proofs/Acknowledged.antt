-- The AlarmAck in a frame.
use Rattle.std.proofs.Common.{◌≡◌, ◌∙◌, ◌==◌, ℕ, Bool, true, false, List, Option, None, refl, sym, ap}
use Rattle.std.specs.Prelude.{◌&&◌, ◌||◌, nat_eq, if◌then◌else◌, Result, Ok, Err}
use Rattle.std.specs.Cmp.Lexicographic.{pointwise}
use Rattle.pn_values.specs.declared.identity.Identity.{Identity}
use Rattle.pn_values.specs.declared.mac.Mac.{Mac}
use Rattle.frame_codec.specs.declared.fault.FrameFault.{FrameFault}
use Rattle.frame_codec.specs.declared.arp.Arp.{Arp}
use Rattle.frame_codec.specs.declared.udp.Caller.{Caller}
use Rattle.frame_codec.specs.Calls.{call_port}
use Rattle.frame_codec.specs.Meaning.{Content, IsNoRealTime, IsOther, Meaning, RealTime, ArpPacket, UdpDatagram}
use Rattle.frame_codec.specs.Frame.{frame_of}
use Rattle.pn_alarms.specs.declared.fault.AlarmFault.{AlarmFault}
use Rattle.pn_alarms.specs.declared.message.Notice.TheVariants as message
use Rattle.pn_alarms.specs.declared.pdu.Header.{Header}
use Rattle.pn_alarms.specs.Message.{ToDevice}
use Rattle.diagnosis.specs.declared.reports.priority.Priority.{Priority}
use Rattle.diagnosis.specs.declared.reports.priority.Priority.TheVariants.{High, Low}
use Rattle.diagnosis.specs.reports.Message.{low_message_of}
use Rattle.diagnosis.specs.reports.Priority.{priority_of}
use Rattle.device_frames.specs.declared.event.Event.TheVariants.{Frame}
use Rattle.device_frames.specs.Heard.{Elsewhere, Reported, Resolves, Said, broadcast, heard_alarm, heard_content, heard_frame, heard_low, heard_of, heard_reply, is_own, said_by}
use Rattle.device_abi.specs.Confirmed.{status_by, status_in}

-- An ACK of either priority has no status.
of_reply : (source : Mac) (priority : Priority) (header : Header) (said : ToDevice) → status_by (heard_reply source priority header said) ≡ status_in said
of_reply source Low header (message.Ack number) = refl
of_reply source Low header (message.Data number ack) = refl
of_reply source Low header message.Nack = refl
of_reply source Low header (message.Abort status) = refl
of_reply source High header said = refl

of_low : (source : Mac) (read : Result (Header × ToDevice) AlarmFault) → status_by (heard_low source read) ≡ None
of_low source (Ok x) = refl
of_low source (Err fault) = refl

pub of_read : (source : Mac) (frame_id : ℕ) (body : List ℕ) (read : Result (Header × ToDevice) AlarmFault) (header : Header) (said : ToDevice) → Ok (header, said) ≡ read
    → status_in said ≡ status_by (heard_alarm source frame_id body read)
of_read source frame_id body (Ok x) header said is = ap status_of is ∙ sym (of_reply source (priority_of frame_id) x.0 x.1)
  where
    status_of : Result (Header × ToDevice) AlarmFault → Option ℕ
    status_of (Ok one) = status_in one.1
    status_of (Err fault) = None
of_read source frame_id body (Err fault) header said is = cc

pub of_unread : (source : Mac) (frame_id : ℕ) (body : List ℕ) (read : Result (Header × ToDevice) AlarmFault) (fault : AlarmFault) → Err fault ≡ read
    → None ≡ status_by (heard_alarm source frame_id body read)
of_unread source frame_id body (Err other) fault is = sym (of_low source (low_message_of body))
of_unread source frame_id body (Ok x) fault is = cc

-- ---- other frames

of_packet : (is_taken : Bool) (source : Mac) (arp : Arp) → None ≡ status_by (if is_taken then Resolves source arp else Elsewhere)
of_packet true source arp = refl
of_packet false source arp = refl

of_datagram : (is_taken : Bool) (caller : Caller) (address : List ℕ) (said : Said) → None ≡ status_by (if is_taken then Reported caller address said else Elsewhere)
of_datagram true caller address said = refl
of_datagram false caller address said = refl

of_content : (identity : Identity) (destination source : Mac) (content : Content) → IsOther content → None ≡ status_by (heard_content identity destination source content)
of_content identity destination source (RealTime frame_id body) other = absurd other
of_content identity destination source (ArpPacket arp) other = of_packet (is_own identity destination || pointwise nat_eq destination.octets broadcast) source arp
of_content identity destination source (UdpDatagram from to body) other =
    of_datagram (is_own identity destination && to.port == call_port) (record { mac = source; endpoint = from }) to.address (said_by body)

of_frame : (identity : Identity) (read : Result Meaning FrameFault) → IsNoRealTime read → None ≡ status_by (heard_frame identity read)
of_frame identity (Ok meaning) other = of_content identity meaning.destination meaning.source meaning.content other
of_frame identity (Err fault) other = refl

pub of_other : (identity : Identity) (octets : List ℕ) → IsNoRealTime (frame_of octets) → None ≡ status_by (heard_of identity (Frame (record { items = octets })))
unfolding heard_of
of_other identity octets other = of_frame identity (frame_of octets) other
