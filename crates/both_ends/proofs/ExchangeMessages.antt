-- Each message whose fields have their sizes is heard as it is meant.
use Rattle.std.proofs.Common.{◌≡◌, ◌⊎◌, inl, inr, ◌==◌, ◌&&◌, ◌++◌, ◌<◌, ℕ, Bool, true, false, cond, List, [], ◌∷◌, length, Option, Some, None, Ok, refl, sym, ap, subst, ◌∙◌, append-nil, arith}
use Rattle.std.specs.Prelude.{IsErr, nat_eq}
use Rattle.std.specs.List.{AllByRecursion}
use Rattle.std.specs.Cmp.Lexicographic.{other_text, pointwise, same_text}
use Rattle.pn_values.specs.declared.identity.Identity.{Identity}
use Rattle.pn_values.specs.declared.mac.Mac.{Mac}
use Rattle.pn_values.specs.declared.real.Real.{Real}
use Rattle.frame_codec.specs.declared.arp.Arp.{Arp}
use Rattle.frame_codec.specs.declared.udp.Caller.{Caller}
use Rattle.frame_codec.specs.declared.udp.Endpoint.{Endpoint}
use Rattle.frame_codec.specs.FrameId.{is_alarm}
use Rattle.frame_codec.specs.Frame.{frame_bytes, frame_of, padding_of}
use Rattle.frame_codec.specs.Meaning.{ArpPacket, RealTime, UdpDatagram}
use Rattle.frame_codec.specs.Sendable.{CanBeSent, IsMac, carrying}
use Rattle.dcp_core.specs.Request.{Asked}
use Rattle.rpc_core.specs.declared.header.CallHeader.{CallHeader}
use Rattle.rpc_core.specs.declared.interface.Interface.{Interface}
use Rattle.rpc_core.specs.declared.interface.Interface.TheVariants.{Controller as controllers, Device as devices}
use Rattle.rpc_core.specs.Call.{Asked as Call, call_of}
use Rattle.rpc_core.specs.Interface.{interface_uuid}
use Rattle.rpc_core.specs.Response.{Answered as Response, response_bytes}
use Rattle.rpc_core.specs.Sendable.{CanBeAnswered, CanBeCalled, IsHeader as IsCallHeader, IsUuid}
use Rattle.connect_blocks.specs.declared.control.ControlBlock.{ControlBlock}
use Rattle.connects.specs.requests.Request.{Request as Asked_for}
use Rattle.record_blocks.specs.declared.alarm_ack.AlarmAck.{AlarmAck}
use Rattle.record_blocks.specs.declared.alarm_notification.AlarmNotification.{AlarmNotification}
use Rattle.pn_alarms.specs.Abort.{status_of}
use Rattle.pn_alarms.specs.declared.abort.Abort.{Abort}
use Rattle.pn_alarms.specs.declared.message.Notice.TheVariants as notice
use Rattle.pn_alarms.specs.declared.pdu.Header.{Header}
use Rattle.pn_alarms.specs.declared.pdu.PduType.{PduType}
use Rattle.pn_alarms.specs.declared.pdu.PduType.TheVariants as pdu
use Rattle.diagnosis.specs.declared.reports.priority.Priority.{Priority}
use Rattle.diagnosis.specs.declared.reports.priority.Priority.TheVariants.{High, Low}
use Rattle.pn_alarms.specs.Format.{frame_id_of}
use Rattle.diagnosis.specs.declared.reports.report.Report.{Report}
use Rattle.diagnosis.specs.reports.Report.{low_report, ours}
use Rattle.pn_alarms.specs.declared.message.Notice.{Notice}
use Rattle.cyclic_data.specs.declared.exchange.route.Route.{Route}
use Rattle.cyclic_data.specs.exchange.Frames.{body_at, cyclic_body}
use Rattle.relations.specs.exchange.Frames.{Frame, Inputs, Notifies, Replies as Answers, Reports, RepliesLow, body_of}
use Rattle.plans.specs.declared.parts.Controller.{Controller}
use Rattle.both_ends.specs.startup.request.Request.{request_for}
use Rattle.connect_blocks.specs.declared.plug_control.PlugControlBlock.{PlugControlBlock}
use Rattle.relations.specs.declared.plugging.PlugReady.{PlugReady}
use Rattle.relations.specs.declared.ready.Ready.{Ready}
use Rattle.relations.specs.declared.farewell.Farewell.{Farewell}
use Rattle.relations.specs.Connect.{connect_blocks, differing_of}
use Rattle.relations.specs.Farewells.{said_by}
use Rattle.device_frames.specs.Heard as device
use Rattle.device_frames.specs.Heard.{Heard, heard_of, heard_reply, is_own}
use Rattle.device_frames.specs.Sendable.{IsSendable}
use Rattle.device_frames.specs.Sent as sent
use Rattle.device_frames.specs.Sent.{bytes_of, plug_ready_frame, ready_frame, response_frame}
use Rattle.device_core.specs.State.{Live}
use Rattle.controller_messages.specs.declared.plug_request.PlugRequest.{PlugRequest}
use Rattle.controller_messages.specs.declared.record_request.RecordRequest.{RecordRequest}
use Rattle.controller_messages.specs.declared.request.Request.{Request}
use Rattle.controller_messages.specs.declared.request.Request.TheVariants as asks
use Rattle.controller_messages.specs.declared.setup.Setup.{Setup}
use Rattle.controller_messages.specs.Heard as controller
use Rattle.controller_messages.specs.Heard.{heard_of as heard_by, is_to}
use Rattle.controller_messages.specs.PlugRequests.{plug_call}
use Rattle.controller_messages.specs.RecordRequests.{record_call}
use Rattle.controller_messages.specs.Requests.{address_asked, call_for, identify_asked}
use Rattle.controller_messages.specs.Sent as said
use Rattle.controller_messages.specs.Sent.{answer_frame, call_frame, calls_at, end_pdu}
use Rattle.block_codec.specs.Writable.{IsAck, IsAlarm}
use Rattle.diagnosis.specs.Sendable.{IsHeader}
use Rattle.end_laws.specs.hearing.Hearing.{comes, mine_hears, mine_reported, own_hears, own_reported}
use Rattle.end_laws.specs.hearing.Stations.{IsAddress, IsCalled, IsCaller, IsDevice, IsNumbered, IsPlugCall, IsRecordCall, IsRoute, IsSetup, plug_ready_call, ready_call}
use Rattle.end_laws.specs.sending.Messages.{CanBeSent as CanBeSaid}
use Rattle.end_laws.specs.sending.Sized.{IsNoted}
use Rattle.end_laws.specs.device.Orderly.{IsOrderlyIn}
use Rattle.end_laws.specs.device.Owed.{IsOwed}
use Rattle.both_ends.specs.exchange.Sized.{IsChosenWell}
use Rattle.both_ends.proofs.ExchangeLists.{holds_if}
use Rattle.both_ends.proofs.ExchangeSizes.{AreSizedIn, IsSizedFrame, IsSizedSent}
use Rattle.both_ends.proofs.ExchangeReported.{IsGood, IsNotedAs, IsNotedBy, IsReportedAs, IsReportedBy, low_is, noted_at, noted_by, noted_of, reply_of, reported_at, reported_of, reported_reply}
use Rattle.both_ends.proofs.ExchangeHearing.{data_good, data_unheard, data_unnoted, data_unreported, datagram_good, packet_good, packet_unnoted, packet_unreported}
use Rattle.both_ends.proofs.ExchangeOpening.{IsAlarming, alarms_unheard, asks_unheard}

-- ---- a message of the controller

-- outputs have a FrameID that is not one of alarms, and every message but calls and messages to all stations goes to
-- another station
abbrev pub IsAimed : Setup → said.Sent → Type 0
IsAimed setup (said.Cycles route shown counter) = (is_alarm route.sent_id ≡ false) × (route.partner ≡ setup.plan.controller.mac → ⊥)
IsAimed setup (said.Confirms route priority header ack) = route.partner ≡ setup.plan.controller.mac → ⊥
IsAimed setup (said.Replies route priority header) = route.partner ≡ setup.plan.controller.mac → ⊥
IsAimed setup (said.Ends route header reason) = route.partner ≡ setup.plan.controller.mac → ⊥
IsAimed setup (said.Requests to asks.Address) = to ≡ setup.plan.controller.mac → ⊥
IsAimed setup (said.Agrees caller answer) = caller.mac ≡ setup.plan.controller.mac → ⊥
IsAimed setup other = Unit {0}

-- each field of a message has its size, so that it can be sent
abbrev pub IsSizedSaid : Setup → said.Sent → Type 0
IsSizedSaid setup message = CanBeSaid setup message × IsAimed setup message

pub both_sized : (setup : Setup) (messages : List said.Sent) → AllByRecursion (CanBeSaid setup) messages → AllByRecursion (IsAimed setup) messages → AllByRecursion (IsSizedSaid setup) messages
both_sized setup [] can aimed = tt
both_sized setup (message ∷ messages) can aimed = ((can.0, aimed.0), both_sized setup messages can.1 aimed.1)

-- ---- the laws of the crates below

pub record HearsSo : Type 0 where
  pub data_read : (destination source : Mac) (tag : Option ℕ) (frame_id : ℕ) (body : List ℕ) → CanBeSent (carrying destination source tag (RealTime frame_id body))
      → frame_of (frame_bytes (carrying destination source tag (RealTime frame_id body)))
      ≡ Ok (carrying destination source tag (RealTime frame_id (body ++ padding_of (carrying destination source tag (RealTime frame_id body)))))
  pub packet_read : (destination source : Mac) (tag : Option ℕ) (packet : Arp) → CanBeSent (carrying destination source tag (ArpPacket packet))
      → frame_of (frame_bytes (carrying destination source tag (ArpPacket packet))) ≡ Ok (carrying destination source tag (ArpPacket packet))
  pub datagram_read : (destination source : Mac) (tag : Option ℕ) (from to : Endpoint) (body : List ℕ) → CanBeSent (carrying destination source tag (UdpDatagram from to body))
      → frame_of (frame_bytes (carrying destination source tag (UdpDatagram from to body))) ≡ Ok (carrying destination source tag (UdpDatagram from to body))
  pub alarm : (mine : Controller) (identity : Identity) (route : Route) (header : Header) (one : AlarmNotification)
      → IsDevice identity → IsRoute route → header.kind ≡ pdu.Data → IsHeader header → IsAlarm one
      → heard_by mine (bytes_of identity (sent.Exchanges route (Notifies header one))) ≡ mine_hears mine route.partner (controller.Alarms identity.mac High header (notice.Data header.send_number (ours one)))
  pub ack : (mine : Controller) (identity : Identity) (route : Route) (header : Header) → IsDevice identity → IsRoute route → header.kind ≡ pdu.Ack → IsHeader header
      → heard_by mine (bytes_of identity (sent.Exchanges route (Answers header))) ≡ mine_hears mine route.partner (controller.Alarms identity.mac High header (notice.Ack header.ack_number))
  pub nack : (mine : Controller) (identity : Identity) (route : Route) (header : Header) → IsDevice identity → IsRoute route → header.kind ≡ pdu.Nack → IsHeader header
      → heard_by mine (bytes_of identity (sent.Exchanges route (Answers header))) ≡ mine_hears mine route.partner (controller.Alarms identity.mac High header notice.Nack)
  pub low_alarm : (mine : Controller) (identity : Identity) (route : Route) (tag : ℕ) (header : Header) (one : AlarmNotification)
      → IsDevice identity → IsRoute route → tag < 65536 → header.kind ≡ pdu.Data → IsHeader header → IsAlarm one
      → heard_by mine (bytes_of identity (sent.Exchanges route (Reports tag header one))) ≡ mine_hears mine route.partner (controller.Alarms identity.mac Low header (notice.Data header.send_number (low_report one)))
  pub low_ack : (mine : Controller) (identity : Identity) (route : Route) (tag : ℕ) (header : Header) → IsDevice identity → IsRoute route → tag < 65536 → header.kind ≡ pdu.Ack → IsHeader header
      → heard_by mine (bytes_of identity (sent.Exchanges route (RepliesLow tag header))) ≡ mine_hears mine route.partner (controller.Alarms identity.mac Low header (notice.Ack header.ack_number))
  pub low_nack : (mine : Controller) (identity : Identity) (route : Route) (tag : ℕ) (header : Header) → IsDevice identity → IsRoute route → tag < 65536 → header.kind ≡ pdu.Nack → IsHeader header
      → heard_by mine (bytes_of identity (sent.Exchanges route (RepliesLow tag header))) ≡ mine_hears mine route.partner (controller.Alarms identity.mac Low header notice.Nack)
  pub end_heard : (mine : Controller) (identity : Identity) (farewell : Farewell) → IsDevice identity → IsMac farewell.initiator → farewell.tag < 65536 → IsHeader (said_by farewell).header
      → heard_by mine (bytes_of identity (sent.Ends farewell)) ≡ mine_hears mine farewell.initiator (controller.Alarms identity.mac Low (said_by farewell).header (notice.Abort (status_of farewell.reason)))
  pub confirms : (identity : Identity) (setup : Setup) (route : Route) (header : Header) (one : AlarmAck)
      → IsSetup setup → IsRoute route → header.kind ≡ pdu.Data → IsHeader header → IsAck one
      → heard_of identity (comes (said.bytes_of setup (said.Confirms route High header one))) ≡ own_hears identity route.partner (device.Alarms setup.plan.controller.mac header (notice.Data header.send_number one))
  pub low : (identity : Identity) (setup : Setup) (route : Route) (header : Header) (one : AlarmAck)
      → IsSetup setup → IsRoute route → header.kind ≡ pdu.Data → IsHeader header → IsAck one
      → heard_of identity (comes (said.bytes_of setup (said.Confirms route Low header one))) ≡ own_hears identity route.partner (device.LowConfirms setup.plan.controller.mac header (notice.Data header.send_number one))
  pub unheard : (mine : Controller) (setup : Setup) (route : Route) (header : Header) (one : AlarmAck)
      → IsSetup setup → IsRoute route → header.kind ≡ pdu.Data → pointwise nat_eq route.partner.octets mine.mac.octets ≡ false
      → heard_by mine (said.bytes_of setup (said.Confirms route Low header one)) ≡ controller.Nothing
  pub acks : (identity : Identity) (setup : Setup) (route : Route) (priority : Priority) (header : Header) → IsSetup setup → IsRoute route → header.kind ≡ pdu.Ack → IsHeader header
      → heard_of identity (comes (said.bytes_of setup (said.Replies route priority header))) ≡ own_hears identity route.partner (heard_reply setup.plan.controller.mac priority header (notice.Ack header.ack_number))
  pub nacks : (identity : Identity) (setup : Setup) (route : Route) (priority : Priority) (header : Header) → IsSetup setup → IsRoute route → header.kind ≡ pdu.Nack → IsHeader header
      → heard_of identity (comes (said.bytes_of setup (said.Replies route priority header))) ≡ own_hears identity route.partner (device.Alarms setup.plan.controller.mac header notice.Nack)
  pub ends : (identity : Identity) (setup : Setup) (route : Route) (header : Header) (reason : Abort) → IsSetup setup → IsRoute route → IsHeader header
      → heard_of identity (comes (said.bytes_of setup (said.Ends route header reason))) ≡ own_hears identity route.partner (device.Alarms setup.plan.controller.mac (end_pdu header reason).header (notice.Abort (status_of reason)))
  pub identify : (identity : Identity) (setup : Setup) (to : Mac) → IsSetup setup
      → heard_of identity (comes (said.bytes_of setup (said.Requests to asks.Identify))) ≡ device.Asks setup.plan.controller.mac (identify_asked setup.plan)
  pub address : (identity : Identity) (setup : Setup) (to : Mac) → IsSetup setup → IsMac to
      → heard_of identity (comes (said.bytes_of setup (said.Requests to asks.Address))) ≡ own_hears identity to (device.Asks setup.plan.controller.mac (address_asked setup.plan))
  pub call_can : (setup : Setup) (request : Request) → IsSetup setup → IsCalled request → IsNumbered request → CanBeCalled devices (call_for setup request)
  pub record_can : (setup : Setup) (request : RecordRequest) (octets : List ℕ) → IsSetup setup → IsRecordCall request octets → CanBeCalled devices (record_call setup request octets)
  pub plug_call_can : (setup : Setup) (request : PlugRequest) → IsSetup setup → IsPlugCall request → CanBeCalled devices (plug_call setup request)
  pub call_at_device : (identity : Identity) (setup : Setup) (to : Mac) (call : Call) → IsSetup setup → IsMac to → CanBeCalled devices call
      → heard_of identity (comes (call_frame setup to call))
      ≡ own_reported identity setup.plan.controller.mac to (calls_at setup.plan.controller.address) (calls_at setup.plan.station.suite.address) (device.Calls call)
  pub call_at_controller : (mine : Controller) (setup : Setup) (to : Mac) (call : Call) → IsSetup setup → IsMac to → CanBeCalled devices call
      → heard_by mine (call_frame setup to call) ≡ controller.Nothing
  pub agreed_at_device : (identity : Identity) (setup : Setup) (caller : Caller) (answer : Response) → IsSetup setup → IsCaller caller → CanBeAnswered answer
      → heard_of identity (comes (answer_frame setup caller answer))
      ≡ own_reported identity setup.plan.controller.mac caller.mac (calls_at setup.plan.controller.address) caller.endpoint (device.Responds answer)
  pub agreed_at_controller : (mine : Controller) (setup : Setup) (caller : Caller) (answer : Response) → IsSetup setup → IsCaller caller → CanBeAnswered answer
      → heard_by mine (answer_frame setup caller answer) ≡ mine_reported mine caller.mac caller.endpoint (controller.Responds answer)
  pub ready_can : (ready : Ready) → IsCallHeader ready.header → ready.header.interface ≡ interface_uuid controllers → IsUuid ready.block.ar_uuid → CanBeCalled controllers (ready_call ready)
  pub ready_at_controller : (mine : Controller) (identity : Identity) (address : List ℕ) (ready : Ready)
      → IsDevice identity → IsMac ready.partner.mac → IsAddress ready.partner.address → IsAddress address → CanBeCalled controllers (ready_call ready)
      → heard_by mine (ready_frame identity address ready)
      ≡ mine_reported mine ready.partner.mac (calls_at ready.partner.address) (controller.Calls (record { mac = identity.mac; endpoint = calls_at address }) (ready_call ready))
  pub plug_can : (ready : PlugReady) → IsCallHeader ready.header → ready.header.interface ≡ interface_uuid controllers → IsUuid ready.block.ar_uuid → CanBeCalled controllers (plug_ready_call ready)
  pub plug_at_controller : (mine : Controller) (identity : Identity) (address : List ℕ) (ready : PlugReady)
      → IsDevice identity → IsMac ready.partner.mac → IsAddress ready.partner.address → IsAddress address → CanBeCalled controllers (plug_ready_call ready)
      → heard_by mine (plug_ready_frame identity address ready)
      ≡ mine_reported mine ready.partner.mac (calls_at ready.partner.address) (controller.Calls (record { mac = identity.mac; endpoint = calls_at address }) (plug_ready_call ready))
  pub response_at_controller : (mine : Controller) (identity : Identity) (caller : Caller) (address : List ℕ) (answer : Response)
      → IsDevice identity → IsCaller caller → IsAddress address → CanBeAnswered answer
      → heard_by mine (response_frame identity caller address answer) ≡ mine_reported mine caller.mac caller.endpoint (controller.Responds answer)
  pub chosen : (setup : Setup) (identity : Identity) (real : Real) (number : ℕ) → IsSetup setup → IsDevice identity → number < 14336
      → IsChosenWell (connect_blocks identity number (request_for setup.plan setup.ar) (differing_of (request_for setup.plan setup.ar) real))
  pub response_no_call : (interface : Interface) (response : Response) (more : List ℕ) → IsErr (call_of interface (response_bytes response ++ more))

-- ---- addresses

same_mac : (one other : Mac) → one.octets ≡ other.octets → one ≡ other
same_mac one other e = ap (λ (octets : List ℕ). record { octets = octets }) e

pub other_mac : (one other : Mac) → (one ≡ other → ⊥) → pointwise nat_eq one.octets other.octets ≡ false
other_mac one other apart = by_test (pointwise nat_eq one.octets other.octets) refl
  where
    by_test : (b : Bool) → pointwise nat_eq one.octets other.octets ≡ b → b ≡ false
    by_test true e = absurd (apart (same_mac one other (same_text one.octets other.octets (sym e))))
    by_test false e = refl

own_mac : (mac : Mac) → pointwise nat_eq mac.octets mac.octets ≡ true
own_mac mac = by_test (pointwise nat_eq mac.octets mac.octets) refl
  where
    by_test : (b : Bool) → b ≡ pointwise nat_eq mac.octets mac.octets → pointwise nat_eq mac.octets mac.octets ≡ true
    by_test true e = sym e
    by_test false e = absurd (other_text mac.octets mac.octets e refl)

-- a route of which only the partner and the tag of alarms matter
abbrev alarm_route : Route → Route
alarm_route route = record { partner = route.partner; sent_id = 0x8000; sent_tag = 0; taken_id = 0; alarm_tag = route.alarm_tag; reference = 0 }

route_is : (route : Route) → IsMac route.partner → route.alarm_tag < 65536 → IsRoute (alarm_route route)
route_is route mac tag = record { partner = mac; cyclic = refl; tag = omega arith; alarm_tag = tag }

-- the same of low priority, whose tag is another
abbrev way_to : Route → Route
way_to route = record { partner = route.partner; sent_id = 0x8000; sent_tag = 0; taken_id = 0; alarm_tag = 0; reference = 0 }

way_is : (route : Route) → IsMac route.partner → IsRoute (way_to route)
way_is route mac = record { partner = mac; cyclic = refl; tag = omega arith; alarm_tag = omega arith }

-- what is heard in a frame to this controller, or nothing in a frame to another station
noted_or : (b : Bool) (heard : controller.Heard) → (noted_at (cond b heard controller.Nothing) ≡ noted_at heard) ⊎ (noted_at (cond b heard controller.Nothing) ≡ None)
noted_or true heard = inl refl
noted_or false heard = inr refl

reported_or : (b : Bool) (heard : Heard) → (reported_at (cond b heard device.Elsewhere) ≡ reported_at heard) ⊎ (reported_at (cond b heard device.Elsewhere) ≡ None)
reported_or true heard = inl refl
reported_or false heard = inr refl

reported_none : (b : Bool) (heard : Heard) → reported_at heard ≡ None → reported_at (cond b heard device.Elsewhere) ≡ None
reported_none true heard e = e
reported_none false heard e = refl

-- an alarm for which an AlarmAck can be written
noted_alarm : (alarm : AlarmNotification) → IsAlarm alarm → IsNoted alarm
noted_alarm alarm is = record {
  alarm_type = is.alarm_type;
  api = is.api;
  slot_number = is.slot_number;
  subslot_number = is.subslot_number;
  alarm_specifier = is.alarm_specifier;
}

-- a datagram says nothing of alarms to either end, and neither does a DCP request
datagram_reported : (identity : Identity) (source destination : Mac) (from to : Endpoint) (body : device.Said) → reported_at (own_reported identity source destination from to body) ≡ None
datagram_reported identity source destination from to body =
    reported_none (is_own identity destination && to.port == 34964) (device.Reported (record { mac = source; endpoint = from }) to.address body) refl

datagram_unheard : (mine : Controller) (destination : Mac) (to : Endpoint) (answer : Response) → pointwise nat_eq destination.octets mine.mac.octets ≡ false
    → mine_reported mine destination to (controller.Responds answer) ≡ controller.Nothing
datagram_unheard mine destination to answer other =
    ap (λ (b : Bool). cond b (cond (is_to mine.address to) (controller.Responds answer) controller.Nothing) controller.Nothing) other

request_unreported : (identity : Identity) (destination source : Mac) (request : Asked) → reported_at (own_hears identity destination (device.Asks source request)) ≡ None
request_unreported identity destination source request = reported_none (is_own identity destination) (device.Asks source request) refl

module _ (so : HearsSo) (setup : Setup) (identity : Identity) where
  abbrev mine : Controller
  mine = setup.plan.controller

  noted_by_law : (octets : List ℕ) (destination : Mac) (heard : controller.Heard) → heard_by mine octets ≡ mine_hears mine destination heard
      → (noted_of setup octets ≡ noted_at heard) ⊎ (noted_of setup octets ≡ None)
  noted_by_law octets destination heard e =
      subst (λ (h : controller.Heard). (noted_at h ≡ noted_at heard) ⊎ (noted_at h ≡ None)) (sym e) (noted_or (pointwise nat_eq destination.octets mine.mac.octets) heard)

  reported_by_law : (octets : List ℕ) (destination : Mac) (heard : Heard) → heard_of identity (comes octets) ≡ own_hears identity destination heard
      → (reported_of identity octets ≡ reported_at heard) ⊎ (reported_of identity octets ≡ None)
  reported_by_law octets destination heard e = subst (λ (h : Heard). (reported_at h ≡ reported_at heard) ⊎ (reported_at h ≡ None)) (sym e) (reported_or (is_own identity destination) heard)

  good_by_law : (octets : List ℕ) (destination : Mac) (heard : controller.Heard) → heard_by mine octets ≡ mine_hears mine destination heard → IsGood identity.mac heard
      → IsGood identity.mac (heard_by mine octets)
  good_by_law octets destination heard e good =
      subst (λ (h : controller.Heard). IsGood identity.mac h) (sym e) (holds_if (IsGood identity.mac) (pointwise nat_eq destination.octets mine.mac.octets) heard controller.Nothing good tt)

  -- ---- the messages of the device

  -- ApplicationReady is of the relation of the plan
  abbrev pub IsReady : sent.Sent → Type 0
  IsReady (sent.ReadyCall address ready) = CanBeCalled controllers (ready_call ready)
  IsReady (sent.PlugReadyCall address ready) = CanBeCalled controllers (plug_ready_call ready)
  IsReady other = Unit {0}

  ready_can_be : IsSetup setup → (ready : Ready) → IsUuid ready.header.activity → IsUuid ready.header.object → ready.header.interface ≡ interface_uuid controllers
      → ready.header.sequence ≡ 0 → ready.header.operation ≡ 4 → IsUuid ready.block.ar_uuid → CanBeCalled controllers (ready_call ready)
  ready_can_be good ready activity object interface sequence operation named =
      so.ready_can ready
      (record {
        object = object;
        interface = ap (λ (octets : List ℕ). length octets) interface;
        activity = activity;
        sequence = subst (λ (n : ℕ). n < 4294967296) (sym sequence) (omega arith);
        operation = subst (λ (n : ℕ). n < 65536) (sym operation) (omega arith);
      })
      interface named

  owed_ready : IsSetup setup → (heard : Heard) (live : Live) (message : sent.Sent) → AreSizedIn live.rest.real.modules.items (request_for setup.plan setup.ar) live.rest.link → IsOrderlyIn live.rest.link → IsOwed heard live message → IsReady message
  owed_ready good heard live (sent.ReadyCall address ready) sized orderly owed =
      let made : owed.link.request ≡ request_for setup.plan setup.ar = (sized owed.link owed.is).same in
      let own : IsUuid owed.link.request.ar.uuid = ap (λ (r : Asked_for). length r.ar.uuid) made ∙ good.ar in
      ready_can_be good ready (ap (λ (h : CallHeader). length h.activity) owed.header ∙ own)
      (ap (λ (h : CallHeader). length h.object) owed.header ∙ ap (λ (r : Asked_for). length r.ar.object) made)
      (ap (λ (h : CallHeader). h.interface) owed.header) (ap (λ (h : CallHeader). h.sequence) owed.header) (ap (λ (h : CallHeader). h.operation) owed.header)
      (ap (λ (b : ControlBlock). length b.ar_uuid) owed.block ∙ own)
  owed_ready good heard live (sent.PlugReadyCall address ready) sized orderly owed =
      let made : owed.link.request ≡ request_for setup.plan setup.ar = (sized owed.link owed.is).same in
      let own : IsUuid owed.link.request.ar.uuid = ap (λ (r : Asked_for). length r.ar.uuid) made ∙ good.ar in
      so.plug_can ready
      (record {
        object = ap (λ (h : CallHeader). length h.object) owed.header ∙ ap (λ (r : Asked_for). length r.ar.object) made;
        interface = ap (λ (h : CallHeader). length h.interface) owed.header;
        activity = ap (λ (h : CallHeader). length h.activity) owed.header ∙ own;
        sequence = subst (λ (h : CallHeader). h.sequence < 4294967296) (sym owed.header) (owed.sequence orderly);
        operation = subst (λ (h : CallHeader). h.operation < 65536) (sym owed.header) (omega arith);
      })
      (ap (λ (h : CallHeader). h.interface) owed.header) (ap (λ (b : PlugControlBlock). length b.ar_uuid) owed.block ∙ own)
  owed_ready good heard live other sized orderly owed = tt

  pub all_ready : IsSetup setup → (heard : Heard) (live : Live) (messages : List sent.Sent) → AreSizedIn live.rest.real.modules.items (request_for setup.plan setup.ar) live.rest.link
      → IsOrderlyIn live.rest.link → AllByRecursion (IsOwed heard live) messages → AllByRecursion IsReady messages
  all_ready good heard live [] sized orderly owed = tt
  all_ready good heard live (message ∷ messages) sized orderly owed = (owed_ready good heard live message sized orderly owed.0, all_ready good heard live messages sized orderly owed.1)

  -- data that is not of alarms
  plain_noted : (destination : Mac) (tag : Option ℕ) (frame_id : ℕ) (body : List ℕ) → is_alarm frame_id ≡ false → CanBeSent (carrying destination identity.mac tag (RealTime frame_id body))
      → IsNotedBy setup identity (frame_bytes (carrying destination identity.mac tag (RealTime frame_id body))) None
  plain_noted destination tag frame_id body plain can =
      let reads = so.data_read destination identity.mac tag frame_id body can in (
        inl (data_unnoted mine destination identity.mac tag frame_id body _ reads (inr plain)),
        data_unreported identity destination identity.mac tag frame_id body _ reads (inr plain),
        data_good mine destination identity.mac tag frame_id body _ reads plain can.source,
      )

  -- the device does not hear its own alarm frames
  alarm_unreported : (destination : Mac) (tag : Option ℕ) (frame_id : ℕ) (body : List ℕ) → (destination ≡ identity.mac → ⊥) → CanBeSent (carrying destination identity.mac tag (RealTime frame_id body))
      → reported_of identity (frame_bytes (carrying destination identity.mac tag (RealTime frame_id body))) ≡ None
  alarm_unreported destination tag frame_id body apart can =
      data_unreported identity destination identity.mac tag frame_id body _ (so.data_read destination identity.mac tag frame_id body can) (inl (other_mac destination identity.mac apart))

  -- a reply, an ACK or a NACK
  abbrev HeardAs : Route → Frame → Option (Notice Report) → Type 0
  HeardAs route frame says = (heard : controller.Heard) × (noted_at heard ≡ says) × IsGood identity.mac heard
      × (heard_by mine (bytes_of identity (sent.Exchanges route frame)) ≡ mine_hears mine route.partner heard)

  as_noted : (route : Route) (frame : Frame) (says : Option (Notice Report)) → reported_of identity (bytes_of identity (sent.Exchanges route frame)) ≡ None → HeardAs route frame says
      → IsNotedBy setup identity (bytes_of identity (sent.Exchanges route frame)) says
  as_noted route frame says none law = (
    subst (λ (o : Option (Notice Report)). (noted_of setup (bytes_of identity (sent.Exchanges route frame)) ≡ o) ⊎ (noted_of setup (bytes_of identity (sent.Exchanges route frame)) ≡ None)) law.1
        (noted_by_law (bytes_of identity (sent.Exchanges route frame)) route.partner law.0 law.3),
    none,
    good_by_law (bytes_of identity (sent.Exchanges route frame)) route.partner law.0 law.3 law.2,
  )

  replied_as : (route : Route) (frame : Frame) (number : ℕ) (kind : PduType) → reported_of identity (bytes_of identity (sent.Exchanges route frame)) ≡ None
      → (kind ≡ pdu.Ack → HeardAs route frame (Some (notice.Ack number))) → (kind ≡ pdu.Nack → HeardAs route frame (Some notice.Nack)) → (kind ≡ pdu.Ack) ⊎ (kind ≡ pdu.Nack)
      → IsNotedBy setup identity (bytes_of identity (sent.Exchanges route frame)) (reply_of number kind)
  replied_as route frame number kind none ack nack (inl is) =
      subst (λ (k : PduType). IsNotedBy setup identity (bytes_of identity (sent.Exchanges route frame)) (reply_of number k)) (sym is) (as_noted route frame (Some (notice.Ack number)) none (ack is))
  replied_as route frame number kind none ack nack (inr is) =
      subst (λ (k : PduType). IsNotedBy setup identity (bytes_of identity (sent.Exchanges route frame)) (reply_of number k)) (sym is) (as_noted route frame (Some notice.Nack) none (nack is))

  frame_noted : (route : Route) (frame : Frame) → IsSendable identity (sent.Exchanges route frame) → IsSizedFrame identity route frame
      → IsNotedBy setup identity (bytes_of identity (sent.Exchanges route frame)) (noted_by frame)
  frame_noted route (Inputs state inputs counter) can sized = plain_noted route.partner (Some route.sent_tag) route.sent_id (body_at state inputs counter) sized can
  frame_noted route (Notifies header one) can sized = (
    noted_by_law (bytes_of identity (sent.Exchanges route (Notifies header one))) route.partner (controller.Alarms identity.mac High header (notice.Data header.send_number (ours one)))
        (so.alarm mine identity (alarm_route route) header one can.source (route_is route can.destination can.tag) sized.1 sized.2 sized.3),
    alarm_unreported route.partner (Some route.alarm_tag) (frame_id_of pdu.Data) (body_of (Notifies header one)) sized.0 can,
    good_by_law (bytes_of identity (sent.Exchanges route (Notifies header one))) route.partner (controller.Alarms identity.mac High header (notice.Data header.send_number (ours one)))
        (so.alarm mine identity (alarm_route route) header one can.source (route_is route can.destination can.tag) sized.1 sized.2 sized.3) ((sized.2.send_number, noted_alarm one sized.3), (refl, sized.4)),
  )
  frame_noted route (Reports tag header one) can sized =
      let law = so.low_alarm mine identity (way_to route) tag header one can.source (way_is route can.destination) can.tag sized.1 sized.2 sized.3 in
      let heard = controller.Alarms identity.mac Low header (notice.Data header.send_number (low_report one)) in (
        noted_by_law (bytes_of identity (sent.Exchanges route (Reports tag header one))) route.partner heard law,
        alarm_unreported route.partner (Some tag) _ (body_of (Reports tag header one)) sized.0 can,
        good_by_law (bytes_of identity (sent.Exchanges route (Reports tag header one))) route.partner heard law
            (subst (λ (r : Report). IsGood identity.mac (controller.Alarms identity.mac Low header (notice.Data header.send_number r))) (sym (low_is one))
            ((sized.2.send_number, noted_alarm one sized.3), (refl, tt))),
      )
  frame_noted route (Answers header) can sized =
      replied_as route (Answers header) header.ack_number header.kind (alarm_unreported route.partner (Some route.alarm_tag) (frame_id_of header.kind) (body_of (Answers header)) sized.0 can)
      (λ kind. (controller.Alarms identity.mac High header (notice.Ack header.ack_number), refl, (tt, tt), so.ack mine identity (alarm_route route) header can.source (route_is route can.destination can.tag) kind sized.2))
      (λ kind. (controller.Alarms identity.mac High header notice.Nack, refl, (tt, tt), so.nack mine identity (alarm_route route) header can.source (route_is route can.destination can.tag) kind sized.2)) sized.1
  frame_noted route (RepliesLow tag header) can sized =
      replied_as route (RepliesLow tag header) header.ack_number header.kind (alarm_unreported route.partner (Some tag) _ (body_of (RepliesLow tag header)) sized.0 can)
      (λ kind. (controller.Alarms identity.mac Low header (notice.Ack header.ack_number), refl, (tt, tt), so.low_ack mine identity (way_to route) tag header can.source (way_is route can.destination) can.tag kind sized.2))
      (λ kind. (controller.Alarms identity.mac Low header notice.Nack, refl, (tt, tt), so.low_nack mine identity (way_to route) tag header can.source (way_is route can.destination) can.tag kind sized.2)) sized.1

  message_noted : (message : sent.Sent) → IsSendable identity message → IsSizedSent identity message → IsReady message → IsNotedAs setup identity message
  message_noted (sent.Exchanges route frame) can sized ready_so = frame_noted route frame can sized
  message_noted (sent.Ends farewell) can sized ready_so = (
    noted_by_law (bytes_of identity (sent.Ends farewell)) farewell.initiator (controller.Alarms identity.mac Low (said_by farewell).header (notice.Abort (status_of farewell.reason)))
        (so.end_heard mine identity farewell can.source can.destination can.tag sized.1),
    alarm_unreported farewell.initiator (Some farewell.tag) _ _ sized.0 can,
    good_by_law (bytes_of identity (sent.Ends farewell)) farewell.initiator (controller.Alarms identity.mac Low (said_by farewell).header (notice.Abort (status_of farewell.reason)))
        (so.end_heard mine identity farewell can.source can.destination can.tag sized.1) (tt, tt),
  )
  message_noted (sent.IdentifyAnswer asker running xid) can sized ready_so = plain_noted asker None 65279 _ refl can
  message_noted (sent.GetAnswer asker running alias request) can sized ready_so = plain_noted asker None 65277 _ refl can
  message_noted (sent.SetAnswer asker request answers) can sized ready_so = plain_noted asker None 65277 _ refl can
  message_noted (sent.ArpReply asker address target) can sized ready_so =
      let reads = so.packet_read asker identity.mac None _ can in
      (inl (packet_unnoted mine _ _ reads tt), packet_unreported identity _ _ reads tt, packet_good mine identity.mac _ asker identity.mac None _ reads)
  message_noted (sent.CallAnswer caller address answer) can sized ready_so =
      let reads = so.datagram_read caller.mac identity.mac None _ _ _ can.0 in
      let none : IsErr (call_of controllers (response_bytes answer)) =
      subst (λ (octets : List ℕ). IsErr (call_of controllers octets)) (append-nil (response_bytes answer)) (so.response_no_call controllers answer []) in
      (inl (packet_unnoted mine _ _ reads tt), packet_unreported identity _ _ reads tt, datagram_good mine identity.mac _ caller.mac identity.mac None _ _ (response_bytes answer) reads none)
  message_noted (sent.ReadyCall address ready) can sized ready_so =
      let reads = so.datagram_read ready.partner.mac identity.mac None _ _ _ can in
      let caller : Caller = record { mac = identity.mac; endpoint = calls_at address } in
      let to = calls_at ready.partner.address in
      let calls : IsCaller caller = record { mac = can.source; endpoint = (can.content.0.0, omega arith) } in (
        inl (packet_unnoted mine _ _ reads tt),
        packet_unreported identity _ _ reads tt,
        good_by_law (bytes_of identity (sent.ReadyCall address ready)) ready.partner.mac (cond (is_to mine.address to) (controller.Calls caller (ready_call ready)) controller.Nothing)
            (so.ready_at_controller mine identity address ready can.source can.destination can.content.1.0 can.content.0.0 ready_so)
            (holds_if (IsGood identity.mac) (is_to mine.address to) (controller.Calls caller (ready_call ready)) controller.Nothing (refl, calls, ready_so.header, ready_so.maximum) tt),
      )
  message_noted (sent.PlugReadyCall address ready) can sized ready_so =
      let reads = so.datagram_read ready.partner.mac identity.mac None _ _ _ can in
      let caller : Caller = record { mac = identity.mac; endpoint = calls_at address } in
      let to = calls_at ready.partner.address in
      let calls : IsCaller caller = record { mac = can.source; endpoint = (can.content.0.0, omega arith) } in (
        inl (packet_unnoted mine _ _ reads tt),
        packet_unreported identity _ _ reads tt,
        good_by_law (bytes_of identity (sent.PlugReadyCall address ready)) ready.partner.mac (cond (is_to mine.address to) (controller.Calls caller (plug_ready_call ready)) controller.Nothing)
            (so.plug_at_controller mine identity address ready can.source can.destination can.content.1.0 can.content.0.0 ready_so)
            (holds_if (IsGood identity.mac) (is_to mine.address to) (controller.Calls caller (plug_ready_call ready)) controller.Nothing (refl, calls, ready_so.header, ready_so.maximum) tt),
      )
  message_noted (sent.Again frame) can sized ready_so = tt

  pub all_noted : (messages : List sent.Sent) → AllByRecursion (IsSendable identity) messages → AllByRecursion (IsSizedSent identity) messages → AllByRecursion IsReady messages → AllByRecursion (IsNotedAs setup identity) messages
  all_noted [] can sized ready_so = tt
  all_noted (message ∷ messages) can sized ready_so = (message_noted message can.0 sized.0 ready_so.0, all_noted messages can.1 sized.1 ready_so.1)

  -- ---- the messages of the controller

  -- a station that a frame goes to hears it
  abbrev at_partner : Mac → Identity
  at_partner destination = record identity { mac = destination }

  own_heard : (destination : Mac) (octets : List ℕ) (heard : Heard) → heard_of (at_partner destination) (comes octets) ≡ own_hears (at_partner destination) destination heard
      → heard_of (at_partner destination) (comes octets) ≡ heard
  own_heard destination octets heard e = e ∙ ap (λ (b : Bool). cond b heard device.Elsewhere) (own_mac destination)

  module _ (good : IsSetup setup) (apart : identity.mac ≡ setup.plan.controller.mac → ⊥) where
    -- the controller does not hear an alarm frame to another station
    alarm_unheard : (destination : Mac) (octets : List ℕ) (heard : Heard) → IsAlarming heard → (destination ≡ mine.mac → ⊥)
        → heard_of (at_partner destination) (comes octets) ≡ own_hears (at_partner destination) destination heard → heard_by mine octets ≡ controller.Nothing
    alarm_unheard destination octets heard alarming apart e =
        alarms_unheard (at_partner destination) setup octets heard alarming (own_heard destination octets heard e) (other_mac destination mine.mac apart)

    -- an ACK is heard under the FrameID of its priority
    ack_alarming : (source : Mac) (priority : Priority) (header : Header) (number : ℕ) → IsAlarming (heard_reply source priority header (notice.Ack number))
    ack_alarming source High header number = tt
    ack_alarming source Low header number = tt

    ack_way : (source : Mac) (priority : Priority) (header : Header) (number : ℕ) → reported_at (heard_reply source priority header (notice.Ack number)) ≡ reported_reply priority number pdu.Ack
    ack_way source High header number = refl
    ack_way source Low header number = refl

    nack_way : (priority : Priority) (number : ℕ) → reported_reply priority number pdu.Nack ≡ Some (Some High, notice.Nack)
    nack_way High number = refl
    nack_way Low number = refl

    called_reported : (to : Mac) (call : Call) → IsMac to → CanBeCalled devices call → IsReportedBy setup identity (call_frame setup to call) None
    called_reported to call mac can = (
      inl (ap reported_at (so.call_at_device identity setup to call good mac can)
          ∙ datagram_reported identity mine.mac to (calls_at mine.address) (calls_at setup.plan.station.suite.address) (device.Calls call)),
      so.call_at_controller mine setup to call good mac can,
    )

    call_reported : (to : Mac) (request : Request) → IsMac to → IsCalled request → IsNumbered request → IsReportedBy setup identity (call_frame setup to (call_for setup request)) None
    call_reported to request mac called numbered = called_reported to (call_for setup request) mac (so.call_can setup request good called numbered)

    request_reported : (to : Mac) (request : Request) → IsMac to → IsNumbered request → IsAimed setup (said.Requests to request) → IsReportedBy setup identity (said.bytes_of setup (said.Requests to request)) None
    request_reported to asks.Identify mac numbered aimed =
        (inl (ap reported_at (so.identify identity setup to good)), asks_unheard identity setup _ _ _ (so.identify identity setup to good) (other_mac identity.mac mine.mac apart))
    request_reported to asks.Address mac numbered aimed = (
      inl (ap reported_at (so.address identity setup to good mac) ∙ request_unreported identity to mine.mac (address_asked setup.plan)),
      asks_unheard (at_partner to) setup _ _ _ (own_heard to _ _ (so.address (at_partner to) setup to good mac)) (other_mac to mine.mac aimed),
    )
    request_reported to asks.Connect mac numbered aimed = call_reported to asks.Connect mac tt numbered
    request_reported to (asks.Write number) mac numbered aimed = call_reported to (asks.Write number) mac tt numbered
    request_reported to asks.PrmEnd mac numbered aimed = call_reported to asks.PrmEnd mac tt numbered
    request_reported to (asks.Release sequence) mac numbered aimed = call_reported to (asks.Release sequence) mac tt numbered
    request_reported to (asks.WriteAfter number tries) mac numbered aimed = call_reported to (asks.WriteAfter number tries) mac tt numbered
    request_reported to (asks.PrmEndAfter tries) mac numbered aimed = call_reported to (asks.PrmEndAfter tries) mac tt numbered

    reply_reported : (route : Route) (priority : Priority) (header : Header) → IsMac route.partner → route.alarm_tag < 65536 → (route.partner ≡ mine.mac → ⊥) → (header.kind ≡ pdu.Ack) ⊎ (header.kind ≡ pdu.Nack) → IsHeader header
        → IsReportedBy setup identity (said.bytes_of setup (said.Replies route priority header)) (reported_reply priority header.ack_number header.kind)
    reply_reported route priority header mac tag apart (inl kind) sized =
        let way = route_is route mac tag in
        let octets = said.bytes_of setup (said.Replies route priority header) in (
          subst (λ (o : Option (Option Priority × Notice AlarmAck)). (reported_of identity octets ≡ o) ⊎ (reported_of identity octets ≡ None))
              (ack_way mine.mac priority header header.ack_number ∙ ap (λ (k : PduType). reported_reply priority header.ack_number k) (sym kind))
              (reported_by_law octets route.partner _ (so.acks identity setup (alarm_route route) priority header good way kind sized)),
          alarm_unheard route.partner octets _ (ack_alarming mine.mac priority header header.ack_number) apart (so.acks (at_partner route.partner) setup (alarm_route route) priority header good way kind sized),
        )
    reply_reported route priority header mac tag apart (inr kind) sized =
        let way = route_is route mac tag in
        let octets = said.bytes_of setup (said.Replies route priority header) in (
          subst (λ (o : Option (Option Priority × Notice AlarmAck)). (reported_of identity octets ≡ o) ⊎ (reported_of identity octets ≡ None))
              (sym (nack_way priority header.ack_number) ∙ ap (λ (k : PduType). reported_reply priority header.ack_number k) (sym kind))
              (reported_by_law octets route.partner _ (so.nacks identity setup (alarm_route route) priority header good way kind sized)),
          alarm_unheard route.partner octets _ tt apart (so.nacks (at_partner route.partner) setup (alarm_route route) priority header good way kind sized),
        )

    message_reported : (message : said.Sent) → IsSizedSaid setup message → IsReportedAs setup identity message
    message_reported (said.Requests to request) sized = request_reported to request sized.0.0 sized.0.1 sized.1
    message_reported (said.Accesses device_mac request octets) sized = called_reported device_mac (record_call setup request octets) sized.0.0 (so.record_can setup request octets good sized.0.1)
    message_reported (said.Parametrizes device_mac request) sized = called_reported device_mac (plug_call setup request) sized.0.0 (so.plug_call_can setup request good sized.0.1)
    message_reported (said.Agrees caller answer) sized = (
      inl (ap reported_at (so.agreed_at_device identity setup caller answer good sized.0.0 sized.0.1)
          ∙ datagram_reported identity mine.mac caller.mac (calls_at mine.address) caller.endpoint (device.Responds answer)),
      so.agreed_at_controller mine setup caller answer good sized.0.0 sized.0.1 ∙ datagram_unheard mine caller.mac caller.endpoint answer (other_mac caller.mac mine.mac sized.1),
    )
    message_reported (said.Cycles route shown counter) sized =
        let way = sized.0.0 in
        let can : CanBeSent (carrying route.partner mine.mac (Some route.sent_tag) (RealTime route.sent_id (cyclic_body shown counter))) =
        record { destination = way.partner; source = good.mac; tag = way.sent_tag; content = (way.sent_id, sized.0.1) } in
        let reads = so.data_read route.partner mine.mac (Some route.sent_tag) route.sent_id (cyclic_body shown counter) can in (
          inl (data_unreported identity route.partner mine.mac (Some route.sent_tag) route.sent_id (cyclic_body shown counter) _ reads (inr sized.1.0)),
          data_unheard mine route.partner mine.mac (Some route.sent_tag) route.sent_id (cyclic_body shown counter) _ reads (other_mac route.partner mine.mac sized.1.1),
        )
    message_reported (said.Confirms route Low header one) sized =
        let way = route_is route sized.0.0.partner sized.0.0.alarm_tag in (
          reported_by_law (said.bytes_of setup (said.Confirms route Low header one)) route.partner _ (so.low identity setup (alarm_route route) header one good way sized.0.1 sized.0.2 sized.0.3),
          so.unheard mine setup (alarm_route route) header one good way sized.0.1 (other_mac route.partner mine.mac sized.1),
        )
    message_reported (said.Confirms route High header one) sized =
        let way = route_is route sized.0.0.partner sized.0.0.alarm_tag in (
          reported_by_law (said.bytes_of setup (said.Confirms route High header one)) route.partner _ (so.confirms identity setup (alarm_route route) header one good way sized.0.1 sized.0.2 sized.0.3),
          alarm_unheard route.partner (said.bytes_of setup (said.Confirms route High header one)) _ tt sized.1
              (so.confirms (at_partner route.partner) setup (alarm_route route) header one good way sized.0.1 sized.0.2 sized.0.3),
        )
    message_reported (said.Replies route priority header) sized = reply_reported route priority header sized.0.0.partner sized.0.0.alarm_tag sized.1 sized.0.1 sized.0.2
    message_reported (said.Ends route header reason) sized =
        let way = route_is route sized.0.0.partner sized.0.0.alarm_tag in (
          reported_by_law (said.bytes_of setup (said.Ends route header reason)) route.partner _ (so.ends identity setup (alarm_route route) header reason good way sized.0.1),
          alarm_unheard route.partner (said.bytes_of setup (said.Ends route header reason)) _ tt sized.1 (so.ends (at_partner route.partner) setup (alarm_route route) header reason good way sized.0.1),
        )

    pub all_reported : (messages : List said.Sent) → AllByRecursion (IsSizedSaid setup) messages → AllByRecursion (IsReportedAs setup identity) messages
    all_reported [] sized = tt
    all_reported (message ∷ messages) sized = (message_reported message sized.0, all_reported messages sized.1)
