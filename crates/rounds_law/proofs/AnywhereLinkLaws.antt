-- The laws of the crates below that say what both ends hear, as the steps of a device with any relation use them.
use Rattle.std.proofs.Common.{◌≡◌, ◌≤◌, ◌++◌, ℕ, List, Option, Some, Ok}
use Rattle.std.specs.Prelude.{length}
use Rattle.pn_values.specs.declared.identity.Identity.{Identity}
use Rattle.pn_values.specs.declared.mac.Mac.{Mac}
use Rattle.frame_codec.specs.declared.udp.Caller.{Caller}
use Rattle.frame_codec.specs.declared.udp.Endpoint.{Endpoint}
use Rattle.frame_codec.specs.Frame.{frame_bytes, frame_of, padding_of}
use Rattle.frame_codec.specs.Meaning.{RealTime, UdpDatagram}
use Rattle.frame_codec.specs.Sendable.{CanBeSent, IsMac, carrying}
use Rattle.rpc_core.specs.Call.{Asked as Call}
use Rattle.rpc_core.specs.declared.interface.Interface.TheVariants.{Device as devices}
use Rattle.rpc_core.specs.Response.{Answered}
use Rattle.rpc_core.specs.Sendable.{CanBeAnswered, CanBeCalled}
use Rattle.record_blocks.specs.declared.alarm_ack.AlarmAck.{AlarmAck}
use Rattle.block_codec.specs.Writable.{IsAck}
use Rattle.pn_alarms.specs.Abort.{status_of}
use Rattle.pn_alarms.specs.declared.abort.Abort.{Abort}
use Rattle.pn_alarms.specs.declared.message.Notice.TheVariants as notice
use Rattle.pn_alarms.specs.declared.pdu.Header.{Header}
use Rattle.pn_alarms.specs.declared.pdu.PduType.TheVariants as pdu
use Rattle.diagnosis.specs.declared.reports.priority.Priority.{Priority}
use Rattle.diagnosis.specs.declared.reports.priority.Priority.TheVariants.{High, Low}
use Rattle.diagnosis.specs.Sendable.{IsHeader}
use Rattle.cyclic_data.specs.declared.status.StationState.{StationState}
use Rattle.cyclic_data.specs.Image.{Shown}
use Rattle.cyclic_data.specs.declared.exchange.route.Route.{Route}
use Rattle.cyclic_data.specs.exchange.Frames.{body_at}
use Rattle.plans.specs.declared.parts.Controller.{Controller}
use Rattle.relations.specs.exchange.Frames.{Inputs}
use Rattle.device_frames.specs.Heard.{Alarms, Calls, Cyclic, LowConfirms, Responds, heard_of as device_hears, heard_reply}
use Rattle.device_frames.specs.Sent.{Exchanges, bytes_of as device_bytes, response_frame}
use Rattle.controller_messages.specs.declared.request.Request.{Request}
use Rattle.controller_messages.specs.declared.setup.Setup.{Setup}
use Rattle.controller_messages.specs.Heard.{Responds as Responded, heard_of as controller_hears}
use Rattle.controller_messages.specs.Requests.{call_for}
use Rattle.controller_messages.specs.Sent.{Confirms, Ends, Replies, answer_frame, bytes_of as controller_bytes, call_frame, calls_at, end_pdu}
use Rattle.end_laws.specs.hearing.Hearing.{comes, mine_reported, own_hears, own_reported, padded}
use Rattle.end_laws.specs.hearing.Stations.{IsAddress, IsCalled, IsCaller, IsDevice, IsNumbered, IsRoute}

-- Frames that can be sent are read as they are written.
pub record ReadLaws : Type 0 where
  pub real_time : (destination source : Mac) (tag : Option ℕ) (frame_id : ℕ) (body : List ℕ)
      → CanBeSent (carrying destination source tag (RealTime frame_id body))
      → frame_of (frame_bytes (carrying destination source tag (RealTime frame_id body)))
      ≡ Ok (carrying destination source tag (RealTime frame_id (body ++ padding_of (carrying destination source tag (RealTime frame_id body)))))
  pub udp : (destination source : Mac) (tag : Option ℕ) (from to : Endpoint) (body : List ℕ)
      → CanBeSent (carrying destination source tag (UdpDatagram from to body))
      → frame_of (frame_bytes (carrying destination source tag (UdpDatagram from to body)))
      ≡ Ok (carrying destination source tag (UdpDatagram from to body))

-- What a controller hears of the response to a call.
pub record AnswerLaws : Type 0 where
  pub responses : (mine : Controller) (identity : Identity) (caller : Caller) (address : List ℕ) (answer : Answered)
      → IsDevice identity → IsCaller caller → IsAddress address → CanBeAnswered answer
      → controller_hears mine (response_frame identity caller address answer) ≡ mine_reported mine caller.mac caller.endpoint (Responded answer)

-- What a device hears of a call of a controller.
pub record CallLaws (setup : Setup) : Type 0 where
  pub can : (request : Request) → IsCalled request → IsNumbered request → CanBeCalled devices (call_for setup request)
  pub heard : (identity : Identity) (to : Mac) (call : Call) → IsMac to → CanBeCalled devices call
      → device_hears identity (comes (call_frame setup to call))
      ≡ own_reported identity setup.plan.controller.mac to (calls_at setup.plan.controller.address)
      (calls_at setup.plan.station.suite.address) (Calls call)

-- What a device hears of the messages of a controller that exchanges data.
pub record ExchangeLaws (setup : Setup) : Type 0 where
  pub agrees : (identity : Identity) (caller : Caller) (answer : Answered) → IsCaller caller → CanBeAnswered answer
      → device_hears identity (comes (answer_frame setup caller answer))
      ≡ own_reported identity setup.plan.controller.mac caller.mac (calls_at setup.plan.controller.address) caller.endpoint (Responds answer)
  pub cycles : (other identity : Identity) (route : Route) (state : StationState) (inputs : Shown) (counter : ℕ)
      → IsDevice identity → IsRoute route → length (body_at state inputs counter) ≤ 1498
      → device_hears other (comes (device_bytes identity (Exchanges route (Inputs state inputs counter))))
      ≡ own_hears other route.partner (Cyclic identity.mac route.sent_id
      (padded identity.mac route.partner (Some route.sent_tag) route.sent_id (body_at state inputs counter)))
  pub confirms : (identity : Identity) (route : Route) (header : Header) (ack : AlarmAck) → IsRoute route → header.kind ≡ pdu.Data → IsHeader header → IsAck ack
      → device_hears identity (comes (controller_bytes setup (Confirms route High header ack)))
      ≡ own_hears identity route.partner (Alarms setup.plan.controller.mac header (notice.Data header.send_number ack))
  pub confirms_low : (identity : Identity) (route : Route) (header : Header) (ack : AlarmAck)
      → IsRoute route → header.kind ≡ pdu.Data → IsHeader header → IsAck ack
      → device_hears identity (comes (controller_bytes setup (Confirms route Low header ack)))
      ≡ own_hears identity route.partner (LowConfirms setup.plan.controller.mac header (notice.Data header.send_number ack))
  pub acks : (identity : Identity) (route : Route) (priority : Priority) (header : Header) → IsRoute route → header.kind ≡ pdu.Ack → IsHeader header
      → device_hears identity (comes (controller_bytes setup (Replies route priority header)))
      ≡ own_hears identity route.partner (heard_reply setup.plan.controller.mac priority header (notice.Ack header.ack_number))
  pub nacks : (identity : Identity) (route : Route) (priority : Priority) (header : Header) → IsRoute route → header.kind ≡ pdu.Nack → IsHeader header
      → device_hears identity (comes (controller_bytes setup (Replies route priority header)))
      ≡ own_hears identity route.partner (Alarms setup.plan.controller.mac header notice.Nack)
  pub ends : (identity : Identity) (route : Route) (header : Header) (reason : Abort) → IsRoute route → IsHeader header
      → device_hears identity (comes (controller_bytes setup (Ends route header reason)))
      ≡ own_hears identity route.partner (Alarms setup.plan.controller.mac (end_pdu header reason).header (notice.Abort (status_of reason)))
