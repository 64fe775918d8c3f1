-- What an event means to a device.
use Rattle.std.specs.Prelude.{◌==◌, ◌&&◌, ◌||◌, ℕ, Bool, nat_eq, nat_le, List, [], ◌∷◌, if◌then◌else◌, Option, Result, Ok, Err}
use Rattle.std.specs.Option.{option_map}
use Rattle.std.specs.Cmp.Lexicographic.{pointwise}
use Rattle.arrayvec.specs.ArrayVec.{ArrayVec}
use Rattle.pn_values.specs.declared.mac.Mac.{Mac}
use Rattle.pn_values.specs.declared.identity.Identity.{Identity}
use Rattle.frame_codec.specs.declared.arp.Arp.{Arp}
use Rattle.frame_codec.specs.declared.fault.FrameFault.{FrameFault}
use Rattle.frame_codec.specs.declared.udp.Caller.{Caller}
use Rattle.frame_codec.specs.Calls.{call_port}
use Rattle.frame_codec.specs.FrameId.{is_alarm, is_cyclic}
use Rattle.frame_codec.specs.Meaning.{Meaning, Content, RealTime, ArpPacket, UdpDatagram}
use Rattle.frame_codec.specs.Frame.{frame_of}
use Rattle.dcp_core.specs.declared.request.DcpFault.{DcpFault}
use Rattle.dcp_core.specs.Request.{Asked}
use Rattle.dcp_core.specs.Reading.{request_of}
use Rattle.rpc_core.specs.declared.fault.RpcFault.{RpcFault}
use Rattle.rpc_core.specs.declared.interface.Interface.TheVariants.{Device}
use Rattle.rpc_core.specs.Call.{Asked as Call, call_of}
use Rattle.rpc_core.specs.Response.{Answered, response_of}
use Rattle.lldp.specs.Peer.{Peer}
use Rattle.lldp.specs.Views.{peer_as}
use Rattle.pn_alarms.specs.declared.fault.AlarmFault.{AlarmFault}
use Rattle.pn_alarms.specs.declared.message.Notice.TheVariants as message
use Rattle.pn_alarms.specs.declared.pdu.Header.{Header}
use Rattle.diagnosis.specs.declared.reports.priority.Priority.{Priority}
use Rattle.diagnosis.specs.declared.reports.priority.Priority.TheVariants.{High, Low}
use Rattle.diagnosis.specs.reports.Priority.{priority_of}
use Rattle.pn_alarms.specs.Message.{ToDevice, message_of}
use Rattle.diagnosis.specs.reports.Message.{low_message_of}
use Rattle.device_frames.specs.declared.event.Event.{Event}
use Rattle.device_frames.specs.declared.event.Event.TheVariants.{Frame, Call as Joined, Tick, Neighbour, Application}
use Rattle.device_frames.specs.declared.local.Local.{Local}

-- What the body of a datagram says: a call to the device, else a response, else neither.
pub data Said : Type 0 where
  Calls : (call : Call) → Said
  Responds : (response : Answered) → Said
  Garbled : Said

-- What an event is: a unit of time, a frame that cannot be read, a frame for another station, a DCP request and who
-- sends it, an ARP packet and who sends it, a datagram: who sends it, to which address, and what it says; a cyclic
-- frame; an alarm frame: who sends it, between which endpoints, and what it says; which neighbour the station has; or what
-- the application says. Of alarm frames those that may be of low priority are cases of their own: an ACK under the FrameID of
-- low priority, and data that carries an AlarmAck of low priority.
pub data Heard : Type 0 where
  Ticks : Heard
  Unreadable : Heard
  Elsewhere : Heard
  Asks : (source : Mac) → (request : Asked) → Heard
  Resolves : (asker : Mac) → (arp : Arp) → Heard
  Reported : (caller : Caller) → (address : List ℕ) → (said : Said) → Heard
  Cyclic : (source : Mac) → (frame_id : ℕ) → (body : List ℕ) → Heard
  Alarms : (source : Mac) → (header : Header) → (message : ToDevice) → Heard
  LowReplies : (source : Mac) → (header : Header) → (message : ToDevice) → Heard
  LowConfirms : (source : Mac) → (header : Header) → (message : ToDevice) → Heard
  Met : (peer : Option Peer) → Heard
  Applied : (local : Local (ArrayVec ℕ)) → Heard

-- The multicast address of Identify requests.
abbrev pub identify_multicast : List ℕ
identify_multicast = 1 ∷ 14 ∷ 207 ∷ 0 ∷ 0 ∷ 0 ∷ []

-- The broadcast address.
abbrev pub broadcast : List ℕ
broadcast = 255 ∷ 255 ∷ 255 ∷ 255 ∷ 255 ∷ 255 ∷ []

-- Whether a frame is for this device only.
abbrev pub is_own : Identity → Mac → Bool
is_own identity destination = pointwise nat_eq destination.octets identity.mac.octets

-- Whether a frame is for this device and of a kind that it accepts: DCP Get and Set to its own address, an Identify
-- request to its own address or to the multicast address.
abbrev pub is_taken : Identity → Mac → ℕ → Bool
is_taken identity destination frame_id =
    (frame_id == 65277 && is_own identity destination)
    || (frame_id == 65278 && (is_own identity destination || pointwise nat_eq destination.octets identify_multicast))

-- An ACK under the FrameID of low priority is one of low priority, once the relation has sent data of low priority.
abbrev pub heard_reply : Mac → Priority → Header → ToDevice → Heard
heard_reply source Low header (message.Ack number) = LowReplies source header (message.Ack number)
heard_reply source priority header told = Alarms source header told

-- Data has the priority of its block. Without a complete AlarmAck it cannot be read either, from any sender.
abbrev pub heard_low : Mac → Result (Header × ToDevice) AlarmFault → Heard
heard_low source (Ok x) = LowConfirms source x.0 x.1
heard_low source (Err fault) = Unreadable

-- An alarm PDU, of high or of low priority.
abbrev pub heard_alarm : Mac → ℕ → List ℕ → Result (Header × ToDevice) AlarmFault → Heard
heard_alarm source frame_id body (Ok x) = heard_reply source (priority_of frame_id) x.0 x.1
heard_alarm source frame_id body (Err fault) = heard_low source (low_message_of body)

-- A request of DCP, or one that cannot be read.
abbrev pub heard_request : Mac → Result Asked DcpFault → Heard
heard_request source (Ok request) = Asks source request
heard_request source (Err fault) = Unreadable

-- A response, to any interface.
abbrev pub said_else : Result Answered RpcFault → Said
said_else (Ok response) = Responds response
said_else (Err fault) = Garbled

-- What the body of a datagram says: a call, else a response.
abbrev pub said_first : Result Call RpcFault → Result Answered RpcFault → Said
said_first (Ok call) response = Calls call
said_first (Err fault) response = said_else response

-- What the body of a datagram says.
unfoldable pub said_by : List ℕ → Said
said_by body = said_first (call_of Device body) (response_of body)

-- An ARP packet is accepted if it goes to this device or to all stations, and a datagram if it goes to this device and
-- its port of calls.
abbrev pub heard_content : Identity → Mac → Mac → Content → Heard
heard_content identity destination source (RealTime frame_id body) =
    if is_taken identity destination frame_id then heard_request source (request_of frame_id body)
    else if is_own identity destination && is_alarm frame_id then heard_alarm source frame_id body (message_of body)
    else if is_own identity destination && is_cyclic frame_id then Cyclic source frame_id body
    else Elsewhere
heard_content identity destination source (ArpPacket arp) =
    if is_own identity destination || pointwise nat_eq destination.octets broadcast then Resolves source arp else Elsewhere
heard_content identity destination source (UdpDatagram from to body) =
    if is_own identity destination && to.port == call_port then Reported (record { mac = source; endpoint = from }) to.address (said_by body) else Elsewhere

-- The content of a frame between these stations, or a frame that cannot be read.
abbrev pub heard_by : Identity → Mac → Mac → Result Content FrameFault → Heard
heard_by identity destination source (Ok content) = heard_content identity destination source content
heard_by identity destination source (Err fault) = Unreadable

-- A frame is read first, and then its destination is checked.
abbrev pub heard_frame : Identity → Result Meaning FrameFault → Heard
heard_frame identity (Ok meaning) = heard_content identity meaning.destination meaning.source meaning.content
heard_frame identity (Err fault) = Unreadable

-- What each event is to a device.
unfoldable pub heard_of : Identity → Event → Heard
heard_of identity (Frame bytes) = heard_frame identity (frame_of bytes.items)
heard_of identity (Joined caller address octets) = Reported caller address (said_by octets.items)
heard_of identity Tick = Ticks
heard_of identity (Neighbour neighbour) = Met (option_map peer_as neighbour)
heard_of identity (Application local) = Applied local
