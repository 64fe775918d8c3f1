-- What a controller sends: messages by their meaning, and their one encoding as octets.
use Rattle.std.specs.Prelude.{ℕ, List, [], ◌∷◌}
use Rattle.pn_values.specs.declared.mac.Mac.{Mac}
use Rattle.frame_codec.specs.declared.udp.Caller.{Caller}
pub use Rattle.frame_codec.specs.Calls.{calls_at}
use Rattle.frame_codec.specs.Meaning.{RealTime, UdpDatagram}
use Rattle.dcp_core.specs.Writing.{request_bytes}
use Rattle.rpc_core.specs.declared.interface.Interface.TheVariants.{Device}
use Rattle.rpc_core.specs.Call.{Asked as Call, call_bytes}
use Rattle.rpc_core.specs.Response.{Answered, answer_to, response_bytes}
use Rattle.rpc_core.specs.declared.response.Status.{Status}
use Rattle.connect_blocks.specs.declared.control.ControlBlock.{ControlBlock}
use Rattle.record_blocks.specs.declared.alarm_ack.AlarmAck.{AlarmAck}
use Rattle.block_codec.specs.declared.block.Block.TheVariants as is
use Rattle.block_codec.specs.Block.{block_bytes}
use Rattle.cyclic_data.specs.Image.{Shown}
use Rattle.pn_alarms.specs.declared.abort.Abort.{Abort}
use Rattle.pn_alarms.specs.declared.pdu.Header.{Header}
use Rattle.pn_alarms.specs.declared.pdu.PduType.TheVariants.{Error}
use Rattle.pn_alarms.specs.Abort.{abort_of}
use Rattle.diagnosis.specs.declared.reports.priority.Priority.{Priority}
use Rattle.diagnosis.specs.declared.reports.priority.Priority.TheVariants.{High, Low}
use Rattle.pn_alarms.specs.Format.{Said, frame_id_of, pdu_bytes}
use Rattle.diagnosis.specs.reports.Priority.{frame_id_at}
use Rattle.diagnosis.specs.reports.Report.{ack_bytes}
use Rattle.cyclic_data.specs.declared.exchange.route.Route.{Route}
use Rattle.cyclic_data.specs.exchange.Frames.{cyclic_frame, plain_frame, tagged_frame}
use Rattle.plans.specs.Connect.{alarm_block}
use Rattle.controller_messages.specs.declared.plug_request.PlugRequest.{PlugRequest}
use Rattle.controller_messages.specs.declared.record_request.RecordRequest.{RecordRequest}
use Rattle.controller_messages.specs.declared.setup.Setup.{Setup}
use Rattle.controller_messages.specs.declared.request.Request.{Request}
use Rattle.controller_messages.specs.declared.request.Request.TheVariants as asks
use Rattle.controller_messages.specs.PlugRequests.{plug_call}
use Rattle.controller_messages.specs.RecordRequests.{record_call}
use Rattle.controller_messages.specs.Requests.{address_asked, call_for, identify_asked}

-- A message: a request to the device; a request of the application for a record, with the octets that it writes; a request
-- after a plug; the answer to its ApplicationReady, to the caller; a cyclic frame of outputs at a CycleCounter; an AlarmAck of a priority as data, with
-- its header; the ACK or NACK that is the response to an alarm of a priority; or the ERR with
-- which the controller ends its relation.
pub data Sent : Type 0 where
  Requests : (device : Mac) → (request : Request) → Sent
  Accesses : (device : Mac) → (request : RecordRequest) → (octets : List ℕ) → Sent
  Parametrizes : (device : Mac) → (request : PlugRequest) → Sent
  Agrees : (caller : Caller) → (answer : Answered) → Sent
  Cycles : (route : Route) → (shown : Shown) → (counter : ℕ) → Sent
  Confirms : (route : Route) → (priority : Priority) → (header : Header) → (ack : AlarmAck) → Sent
  Replies : (route : Route) → (priority : Priority) → (header : Header) → Sent
  Ends : (route : Route) → (header : Header) → (reason : Abort) → Sent

-- ---- requests

-- The multicast address of Identify requests (IEC 61158-6-10, 4.3.1.3.1).
unfoldable pub identify_multicast : Mac
identify_multicast = record { octets = 0x01 ∷ 0x0E ∷ 0xCF ∷ 0x00 ∷ 0x00 ∷ 0x00 ∷ [] }

-- A call, to the address that the plan gives the device.
abbrev pub call_frame : Setup → Mac → Call → List ℕ
call_frame setup device call =
    plain_frame setup.plan.controller.mac device
    (UdpDatagram (calls_at setup.plan.controller.address) (calls_at setup.plan.station.suite.address) (call_bytes Device call))

-- The octets of each request of a start-up, and of Release.
abbrev pub request_frame : Setup → Mac → Request → List ℕ
request_frame setup device asks.Identify =
    plain_frame setup.plan.controller.mac identify_multicast (RealTime 0xFEFE (request_bytes (identify_asked setup.plan)))
request_frame setup device asks.Address =
    plain_frame setup.plan.controller.mac device (RealTime 0xFEFD (request_bytes (address_asked setup.plan)))
request_frame setup device asks.Connect = call_frame setup device (call_for setup asks.Connect)
request_frame setup device (asks.Write number) = call_frame setup device (call_for setup (asks.Write number))
request_frame setup device asks.PrmEnd = call_frame setup device (call_for setup asks.PrmEnd)
request_frame setup device (asks.Release sequence) = call_frame setup device (call_for setup (asks.Release sequence))
request_frame setup device (asks.WriteAfter number tries) = call_frame setup device (call_for setup (asks.WriteAfter number tries))
request_frame setup device (asks.PrmEndAfter tries) = call_frame setup device (call_for setup (asks.PrmEndAfter tries))

-- ---- the answer to ApplicationReady

-- The block: that of the call, with ControlCommand Done.
abbrev pub ready_done : ControlBlock → ControlBlock
ready_done block = record block { control_command = 8 }

-- The status without an error.
abbrev pub done : Status
done = record { code = 0; decode = 0; code1 = 0; code2 = 0 }

-- The answer to a call with this block.
abbrev pub ready_answer : Call → ControlBlock → Answered
ready_answer call block = answer_to call done (block_bytes (is.ApplicationReadyRes (ready_done block)))

-- It goes to the station, the address and the port that the call came from.
abbrev pub answer_frame : Setup → Caller → Answered → List ℕ
answer_frame setup caller answer =
    plain_frame setup.plan.controller.mac caller.mac
    (UdpDatagram (calls_at setup.plan.controller.address) caller.endpoint (response_bytes answer))

-- ---- alarms

-- The PDU of an AlarmAck of a priority, and that of an ACK or NACK.
abbrev pub ack_pdu : Priority → Header → AlarmAck → Said
ack_pdu priority header ack = record { header = header; body = ack_bytes priority ack }

-- An ACK or NACK: a PDU without data.
abbrev pub reply_pdu : Header → Said
reply_pdu header = record { header = header; body = [] }

-- An ERR with the endpoints and the numbers of this header.
abbrev pub end_pdu : Header → Abort → Said
end_pdu header reason = abort_of reason header.destination header.source header.send_number header.ack_number

-- The tag of alarms of a priority: AlarmCRTagHeaderHigh and AlarmCRTagHeaderLow of the plan.
abbrev pub tag_of : Route → Priority → ℕ
tag_of route High = route.alarm_tag
tag_of route Low = alarm_block.tag_header_low

-- The frame of a PDU to the partner, of a priority.
abbrev pub alarm_frame : Setup → Route → Priority → Said → List ℕ
alarm_frame setup route priority pdu =
    tagged_frame setup.plan.controller.mac route.partner (tag_of route priority) (RealTime (frame_id_at priority pdu.header.kind) (pdu_bytes pdu))

-- An ERR has low priority: its tag is AlarmCRTagHeaderLow of the plan.
abbrev pub end_frame : Setup → Route → Said → List ℕ
end_frame setup route pdu =
    tagged_frame setup.plan.controller.mac route.partner alarm_block.tag_header_low (RealTime (frame_id_of Error) (pdu_bytes pdu))

-- ----

-- The octets of a message.
abbrev pub bytes_of : Setup → Sent → List ℕ
bytes_of setup (Requests device request) = request_frame setup device request
bytes_of setup (Accesses device request octets) = call_frame setup device (record_call setup request octets)
bytes_of setup (Parametrizes device request) = call_frame setup device (plug_call setup request)
bytes_of setup (Agrees caller answer) = answer_frame setup caller answer
bytes_of setup (Cycles route shown counter) = cyclic_frame setup.plan.controller.mac route shown counter
bytes_of setup (Confirms route priority header ack) = alarm_frame setup route priority (ack_pdu priority header ack)
bytes_of setup (Replies route priority header) = alarm_frame setup route priority (reply_pdu header)
bytes_of setup (Ends route header reason) = end_frame setup route (end_pdu header reason)
