-- What a frame says to a controller.
use Rattle.std.specs.Prelude.{◌≡◌, ◌==◌, ◌&&◌, ℕ, Bool, true, nat_eq, List, if◌then◌else◌, Option, Some, None, Result, Ok, Err, ⊤}
use Rattle.std.specs.Cmp.Lexicographic.{pointwise}
use Rattle.pn_values.specs.declared.mac.Mac.{Mac}
use Rattle.frame_codec.specs.declared.fault.FrameFault.{FrameFault}
use Rattle.frame_codec.specs.declared.udp.Caller.{Caller}
use Rattle.frame_codec.specs.declared.udp.Endpoint.{Endpoint}
use Rattle.frame_codec.specs.Calls.{call_port}
use Rattle.frame_codec.specs.FrameId.{is_alarm, is_cyclic}
use Rattle.frame_codec.specs.Meaning.{Meaning, Content, IsOther, RealTime, ArpPacket, UdpDatagram}
use Rattle.frame_codec.specs.Frame.{frame_of}
use Rattle.dcp_core.specs.declared.request.DcpFault.{DcpFault}
use Rattle.dcp_core.specs.Response.{Answered}
use Rattle.dcp_core.specs.Answer.{answer_of}
use Rattle.rpc_core.specs.declared.fault.RpcFault.{RpcFault}
use Rattle.rpc_core.specs.declared.interface.Interface.TheVariants.{Controller as controllers}
use Rattle.rpc_core.specs.Call.{Asked as Call, call_of}
use Rattle.rpc_core.specs.Response.{Answered as Response, response_of}
use Rattle.pn_alarms.specs.declared.fault.AlarmFault.{AlarmFault}
use Rattle.pn_alarms.specs.declared.pdu.Header.{Header}
use Rattle.diagnosis.specs.declared.reports.priority.Priority.{Priority}
use Rattle.diagnosis.specs.reports.Message.{ToController, alarm_of}
use Rattle.diagnosis.specs.reports.Priority.{priority_of}
use Rattle.plans.specs.declared.parts.Controller.{Controller}
use Rattle.controller_messages.specs.declared.refusal.Refusal.{Refusal}
use Rattle.controller_messages.specs.Refusal.{refusal_of}

-- What a frame is: one that a controller drops, a DCP answer and its sender, a response to a call, its refusal, a call to the
-- controller and its caller, a cyclic frame, or an alarm frame: its sender, the priority of its FrameID, its endpoints, and
-- what it says.
pub data Heard : Type 0 where
  Nothing : Heard
  Answers : (source : Mac) → (answer : Answered) → Heard
  Responds : (response : Response) → Heard
  Refuses : (refusal : Refusal) → Heard
  Calls : (caller : Caller) → (call : Call) → Heard
  Cyclic : (source : Mac) → (frame_id : ℕ) → (body : List ℕ) → Heard
  Alarms : (source : Mac) → (under : Priority) → (header : Header) → (notice : ToController) → Heard

-- What can't be read is dropped.
abbrev pub heard_answer : Mac → Result Answered DcpFault → Heard
heard_answer source (Ok answer) = Answers source answer
heard_answer source (Err fault) = Nothing

-- An alarm PDU, if it can be read.
abbrev pub heard_alarm : Mac → ℕ → Result (Header × ToController) AlarmFault → Heard
heard_alarm source frame_id (Ok x) = Alarms source (priority_of frame_id) x.0 x.1
heard_alarm source frame_id (Err fault) = Nothing

-- A call with wrong lengths of its blocks is dropped too.
abbrev pub heard_call : Caller → Call → Option (List ℕ) → Heard
heard_call caller call (Some blocks) = Calls caller call
heard_call caller call None = Nothing

-- Packets of other types say nothing: a station that answers `working` or `nocall` leaves the call waiting.
abbrev pub heard_refusal : Result Refusal RpcFault → Heard
heard_refusal (Ok refusal) = Refuses refusal
heard_refusal (Err fault) = Nothing

-- The response to a call, else a reject or a fault.
abbrev pub heard_response : Result Response RpcFault → Result Refusal RpcFault → Heard
heard_response (Ok response) refusal = Responds response
heard_response (Err fault) refusal = heard_refusal refusal

-- The body of a datagram: a call to the controller, else a response or a refusal, to any interface.
abbrev pub heard_first : Caller → Result Call RpcFault → Result Response RpcFault → Result Refusal RpcFault → Heard
heard_first caller (Ok call) response refusal = heard_call caller call call.blocks
heard_first caller (Err fault) response refusal = heard_response response refusal

-- What the body of a datagram is to a controller.
unfoldable pub heard_body : Caller → List ℕ → Heard
heard_body caller body = heard_first caller (call_of controllers body) (response_of body) (refusal_of body)

-- A frame of EtherType 0x8892: DCP answers, to an Identify or to a Get or a Set, alarm frames, and cyclic frames.
unfoldable pub heard_real_time : Mac → ℕ → List ℕ → Heard
heard_real_time source frame_id body =
    if is_cyclic frame_id then Cyclic source frame_id body
    else if is_alarm frame_id then heard_alarm source frame_id (alarm_of body)
    else if frame_id == 0xFEFD then heard_answer source (answer_of frame_id body)
    else if frame_id == 0xFEFF then heard_answer source (answer_of frame_id body)
    else Nothing

-- Whether a datagram goes to this address, and to the port of calls.
abbrev pub is_to : List ℕ → Endpoint → Bool
is_to address to = pointwise nat_eq to.address address && to.port == call_port

-- An ARP packet is dropped, and so is a datagram to another address or another port.
abbrev pub heard_content : List ℕ → Mac → Content → Heard
heard_content address source (RealTime frame_id body) = heard_real_time source frame_id body
heard_content address source (ArpPacket arp) = Nothing
heard_content address source (UdpDatagram from to body) =
    if is_to address to then heard_body (record { mac = source; endpoint = from }) body else Nothing

-- The content of a frame from this station, or a frame that cannot be read.
abbrev pub heard_by : List ℕ → Mac → Result Content FrameFault → Heard
heard_by address source (Ok content) = heard_content address source content
heard_by address source (Err fault) = Nothing

-- A frame that can be read is only for the controller.
abbrev pub heard_frame : Controller → Meaning → Heard
heard_frame controller meaning =
    if pointwise nat_eq meaning.destination.octets controller.mac.octets then heard_content controller.address meaning.source meaning.content else Nothing

-- It is not a frame of real-time data to this controller.
abbrev pub IsNoRealTimeTo : Controller → Result Meaning FrameFault → Type 0
IsNoRealTimeTo controller (Ok meaning) = pointwise nat_eq meaning.destination.octets controller.mac.octets ≡ true → IsOther meaning.content
IsNoRealTimeTo controller (Err fault) = ⊤

-- What a frame is to a controller, if it can be read.
abbrev pub heard_read : Controller → Result Meaning FrameFault → Heard
heard_read controller (Ok meaning) = heard_frame controller meaning
heard_read controller (Err fault) = Nothing

-- What octets from the network mean to a controller: this depends on them, and on its MAC address and its IP address.
unfoldable pub heard_of : Controller → List ℕ → Heard
heard_of controller octets = heard_read controller (frame_of octets)
