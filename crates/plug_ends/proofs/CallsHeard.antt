-- What the controller hears in any frame of both ends: no reject and no fault, and calls of its device alone.
use Rattle.std.proofs.Common.{◌≡◌, ◌<◌, ◌==◌, ℕ, Bool, true, false, cond, List, [], ◌∷◌, length, map, Option, Some, None, Result, Ok, Err, refl, sym}
use Rattle.std.proofs.Common.{ap, subst, ◌∙◌, arith}
use Rattle.std.specs.Prelude.{nat_eq, nat_lt}
use Rattle.std.specs.List.{AllByRecursion}
use Rattle.std.specs.Cmp.Lexicographic.{pointwise}
use Rattle.wire.specs.Codec.{IsSoundWhole}
use Rattle.wire.proofs.Fields.{bind_ok}
use Rattle.pn_values.specs.declared.identity.Identity.{Identity}
use Rattle.pn_values.specs.declared.mac.Mac.{Mac}
use Rattle.frame_codec.specs.declared.fault.FrameFault.{FrameFault}
use Rattle.frame_codec.specs.declared.fault.FrameFault.TheVariants.{TooLong}
use Rattle.frame_codec.specs.declared.arp.Holder.{Holder}
use Rattle.frame_codec.specs.declared.udp.Caller.{Caller}
use Rattle.frame_codec.specs.declared.udp.Endpoint.{Endpoint}
use Rattle.frame_codec.specs.FrameId.{is_alarm, is_cyclic}
use Rattle.frame_codec.specs.Frame.{frame_bytes, frame_of, ethernet, layers, longest, mac}
use Rattle.frame_codec.specs.Meaning.{ArpPacket, Content, Meaning, RealTime, UdpDatagram}
use Rattle.frame_codec.specs.Sendable.{IsHolder, IsMac, IsTag, carrying}
use Rattle.dcp_core.specs.declared.request.DcpFault.{DcpFault}
use Rattle.dcp_core.specs.Answer.{answer_of}
use Rattle.dcp_core.specs.Response.{Answered}
use Rattle.rpc_core.specs.declared.header.CallHeader.{CallHeader}
use Rattle.rpc_core.specs.declared.interface.Interface.TheVariants.{Controller as controllers, Device as devices}
use Rattle.rpc_core.specs.Interface.{interface_uuid}
use Rattle.rpc_core.specs.Call.{Asked as Call, call_of}
use Rattle.rpc_core.specs.Response.{Answered as Response, response_of}
use Rattle.rpc_core.specs.declared.fault.RpcFault.{RpcFault}
use Rattle.controller_messages.specs.Refusal.{refusal_of}
use Rattle.rpc_core.specs.Sendable.{CanBeAnswered, CanBeCalled, IsHeader, IsUuid}
use Rattle.connect_blocks.specs.declared.control.ControlBlock.{ControlBlock}
use Rattle.connect_blocks.specs.declared.plug_control.PlugControlBlock.{PlugControlBlock}
use Rattle.connects.specs.requests.Request.{Request as Asked_for}
use Rattle.pn_alarms.specs.declared.fault.AlarmFault.{AlarmFault}
use Rattle.pn_alarms.specs.declared.pdu.Header.{Header}
use Rattle.diagnosis.specs.declared.reports.priority.Priority.{Priority}
use Rattle.diagnosis.specs.declared.reports.priority.Priority.TheVariants.{High, Low}
use Rattle.diagnosis.specs.reports.Message.{ToController as AlarmReported, alarm_of}
use Rattle.cyclic_data.specs.declared.exchange.route.Route.{Route}
use Rattle.expected_places.specs.declared.calls.PlugCall.{PlugCall}
use Rattle.plans.specs.declared.parts.Controller.{Controller}
use Rattle.plans.specs.Connect.{alarm_block}
use Rattle.relations.specs.declared.plugging.PlugReady.{PlugReady}
use Rattle.relations.specs.declared.ready.Ready.{Ready}
use Rattle.relations.specs.Plugging.{ready_for}
use Rattle.relations.specs.RelationState.{RelationState}
use Rattle.relations.specs.Ready.{ready_of}
use Rattle.device_frames.specs.Heard.{Heard}
use Rattle.device_frames.specs.Sendable.{IsSendable}
use Rattle.device_frames.specs.Sent.{Sent, IdentifyAnswer, GetAnswer, SetAnswer, ArpReply, CallAnswer, Again, ReadyCall, PlugReadyCall, Ends}
use Rattle.device_frames.specs.Sent.{Exchanges, bytes_of, plug_ready_frame, ready_frame, response_frame}
use Rattle.device_core.specs.State.{Live}
use Rattle.controller_messages.specs.declared.plug_request.PlugRequest.{PlugRequest}
use Rattle.controller_messages.specs.declared.record_request.RecordRequest.{RecordRequest}
use Rattle.controller_messages.specs.declared.refusal.Refusal.{Refusal}
use Rattle.controller_messages.specs.declared.request.Request.{Request}
use Rattle.controller_messages.specs.declared.request.Request.TheVariants as asks
use Rattle.controller_messages.specs.declared.setup.Setup.{Setup}
use Rattle.controller_messages.specs.Heard as controller
use Rattle.controller_messages.specs.Heard.{heard_alarm, heard_answer, heard_content, heard_real_time, is_to}
use Rattle.controller_messages.specs.PlugRequests.{plug_call}
use Rattle.controller_messages.specs.RecordRequests.{record_call}
use Rattle.controller_messages.specs.Requests.{call_for}
use Rattle.controller_messages.specs.Sent as said
use Rattle.controller_messages.specs.Sent.{answer_frame, call_frame, calls_at, identify_multicast, tag_of}
use Rattle.end_laws.specs.hearing.Hearing.{IsUncalled, mine_reported}
use Rattle.end_laws.specs.hearing.Stations.{IsAddress, IsCalled, IsCaller, IsDevice, IsNumbered, IsPlugCall, IsRecordCall, IsSetup, plug_ready_call, ready_call}
use Rattle.end_laws.specs.sending.Addressed.{IsAimedAt, IsDirection, IsHeardFrom}
use Rattle.end_laws.specs.device.Orderly.{IsOrderlyIn}
use Rattle.end_laws.specs.device.Owed.{IsOfKept, IsOwed}
use Rattle.both_ends.specs.startup.request.Request.{request_for}

-- the laws of the crates below
pub record HeardSo : Type 0 where
  pub sound : IsSoundWhole layers
  pub uncalled : (mine : Controller) (destination source : Mac) (tag : Option ℕ) (frame_id : ℕ) (body : List ℕ) → IsMac destination → IsMac source → IsTag tag
      → IsUncalled (controller.heard_of mine (frame_bytes (carrying destination source tag (RealTime frame_id body))))
  pub packet : (mine : Controller) (identity : Identity) (asker : Mac) (address : List ℕ) (target : Holder)
      → IsDevice identity → IsMac asker → IsAddress address → IsHolder target
      → controller.heard_of mine (bytes_of identity (ArpReply asker address target)) ≡ controller.Nothing
  pub call_can : (setup : Setup) (request : Request) → IsSetup setup → IsCalled request → IsNumbered request → CanBeCalled devices (call_for setup request)
  pub record_can : (setup : Setup) (request : RecordRequest) (octets : List ℕ) → IsSetup setup → IsRecordCall request octets
      → CanBeCalled devices (record_call setup request octets)
  pub plug_call_can : (setup : Setup) (request : PlugRequest) → IsSetup setup → IsPlugCall request → CanBeCalled devices (plug_call setup request)
  pub ready_can : (ready : Ready) → IsHeader ready.header → ready.header.interface ≡ interface_uuid controllers → IsUuid ready.block.ar_uuid
      → CanBeCalled controllers (ready_call ready)
  pub call : (mine : Controller) (setup : Setup) (to : Mac) (call : Call) → IsSetup setup → IsMac to → CanBeCalled devices call
      → controller.heard_of mine (call_frame setup to call) ≡ controller.Nothing
  pub response : (mine : Controller) (identity : Identity) (caller : Caller) (address : List ℕ) (answer : Response)
      → IsDevice identity → IsCaller caller → IsAddress address → CanBeAnswered answer
      → controller.heard_of mine (response_frame identity caller address answer) ≡ mine_reported mine caller.mac caller.endpoint (controller.Responds answer)
  pub ready : (mine : Controller) (identity : Identity) (address : List ℕ) (ready : Ready)
      → IsDevice identity → IsMac ready.partner.mac → IsAddress ready.partner.address → IsAddress address → CanBeCalled controllers (ready_call ready)
      → controller.heard_of mine (ready_frame identity address ready)
      ≡ mine_reported mine ready.partner.mac (calls_at ready.partner.address)
      (controller.Calls (record { mac = identity.mac; endpoint = calls_at address }) (ready_call ready))
  pub plug_can : (ready : PlugReady) → IsHeader ready.header → ready.header.interface ≡ interface_uuid controllers → IsUuid ready.block.ar_uuid
      → CanBeCalled controllers (plug_ready_call ready)
  pub plug : (mine : Controller) (identity : Identity) (address : List ℕ) (ready : PlugReady)
      → IsDevice identity → IsMac ready.partner.mac → IsAddress ready.partner.address → IsAddress address → CanBeCalled controllers (plug_ready_call ready)
      → controller.heard_of mine (plug_ready_frame identity address ready)
      ≡ mine_reported mine ready.partner.mac (calls_at ready.partner.address)
      (controller.Calls (record { mac = identity.mac; endpoint = calls_at address }) (plug_ready_call ready))
  pub agreed : (mine : Controller) (setup : Setup) (caller : Caller) (answer : Response) → IsSetup setup → IsCaller caller → CanBeAnswered answer
      → controller.heard_of mine (answer_frame setup caller answer) ≡ mine_reported mine caller.mac caller.endpoint (controller.Responds answer)

-- no reject and no fault; a station that responds has an address of six octets, and calls come from this station
abbrev pub IsFine : Mac → controller.Heard → Type 0
IsFine own (controller.Answers source answer) = IsMac source
IsFine own (controller.Calls caller call) = (caller.mac ≡ own) × IsCaller caller × IsHeader call.header × (call.args_maximum < 4294967296)
IsFine own (controller.Refuses refusal) = ⊥
IsFine own heard = Unit {0}

-- what the controller hears in a frame is fine
abbrev pub IsFineAt : Setup → Identity → List ℕ → Type 0
IsFineAt setup identity frame = IsFine identity.mac (controller.heard_of setup.plan.controller frame)

-- the relation of the device is the plan's
abbrev pub IsPlans : Setup → Option RelationState → Type 0
IsPlans setup relation = (l : RelationState) → relation ≡ Some l → l.request ≡ request_for setup.plan setup.ar

pub fine_from : (own : Mac) (heard : controller.Heard) → IsFine own heard → IsHeardFrom own heard
fine_from own (controller.Answers source answer) is = is
fine_from own (controller.Calls caller call) is = is
fine_from own (controller.Refuses refusal) is = absurd is
fine_from own controller.Nothing is = tt
fine_from own (controller.Responds response) is = tt
fine_from own (controller.Cyclic source frame_id body) is = tt
fine_from own (controller.Alarms source under header reported) is = tt

pub fine_unrefused : (own : Mac) (heard : controller.Heard) → IsFine own heard → (refusal : Refusal) → heard ≡ controller.Refuses refusal → ⊥
fine_unrefused own heard is refusal e = subst (λ (h : controller.Heard). IsFine own h) e is

holds_if : {A : Type 0} (P : A → Type 0) (b : Bool) (x y : A) → P x → P y → P (cond b x y)
holds_if P true x y one other = one
holds_if P false x y one other = other

-- ---- what is read has addresses of six octets

layers_read : (bytes : List ℕ) (meaning : Meaning) → frame_of bytes ≡ Ok meaning → layers.read bytes ≡ Ok meaning
unfolding frame_of
layers_read bytes meaning e =
    let there = bind_ok (ethernet.read bytes) (λ header. cond (nat_lt (longest header.0.tag) (length bytes)) (Err TooLong) (layers.read bytes)) meaning e in
    by_length (nat_lt (longest there.0.0.tag) (length bytes)) there.2
  where
    by_length : (b : Bool) → cond b (Err TooLong) (layers.read bytes) ≡ Ok meaning → layers.read bytes ≡ Ok meaning
    by_length true f = absurd cc
    by_length false f = f

-- equal values give equal results
along : {A B : Type 0} (x y : A) → x ≡ y → (make : A → B) → make x ≡ make y
along x y e make = ap make e

source_six : IsSoundWhole layers → (bytes : List ℕ) (meaning : Meaning) → frame_of bytes ≡ Ok meaning → IsMac meaning.source
unfolding layers ethernet mac
source_six sound bytes meaning e =
    let spelled = sound.takes bytes meaning (layers_read bytes meaning e) in
    let header = spelled.2.1 in
    let source = header.2.2.1 in
    ap (λ (m : Meaning). length m.source.octets) (sym spelled.1)
    ∙ along _ _ (sym header.1) (λ head. length head.source.octets)
    ∙ ap (λ (m : Mac). length m.octets) (sym source.1)
    ∙ source.2.0

-- real-time data of such a station

six_answer : (own : Mac) (source : Mac) (read : Result Answered DcpFault) → IsMac source → IsFine own (heard_answer source read)
six_answer own source (Ok answer) six = six
six_answer own source (Err fault) six = tt

six_alarm : (own : Mac) (source : Mac) (frame_id : ℕ) (read : Result (Header × AlarmReported) AlarmFault) → IsFine own (heard_alarm source frame_id read)
six_alarm own source frame_id (Ok x) = tt
six_alarm own source frame_id (Err fault) = tt

six_real_time : (own : Mac) (source : Mac) (frame_id : ℕ) (body : List ℕ) → IsMac source → IsFine own (heard_real_time source frame_id body)
unfolding heard_real_time
six_real_time own source frame_id body six =
    holds_if (IsFine own) (is_cyclic frame_id) (controller.Cyclic source frame_id body) _ tt
    (holds_if (IsFine own) (is_alarm frame_id) (heard_alarm source frame_id (alarm_of body)) _ (six_alarm own source frame_id (alarm_of body))
    (holds_if (IsFine own) (frame_id == 0xFEFD) (heard_answer source (answer_of frame_id body)) _ (six_answer own source (answer_of frame_id body) six)
    (holds_if (IsFine own) (frame_id == 0xFEFF) (heard_answer source (answer_of frame_id body)) controller.Nothing
    (six_answer own source (answer_of frame_id body) six) tt)))

-- what an answer says is fine if it comes from such a station
abbrev IsSix : controller.Heard → Type 0
IsSix (controller.Answers source answer) = IsMac source
IsSix heard = Unit {0}

fine_six : (own : Mac) (heard : controller.Heard) → IsFine own heard → IsSix heard
fine_six own (controller.Answers source answer) is = is
fine_six own heard is = tt

six_uncalled : (own : Mac) (heard : controller.Heard) → IsSix heard → IsUncalled heard → IsFine own heard
six_uncalled own (controller.Answers source answer) six un = six
six_uncalled own (controller.Calls caller call) six un = absurd un
six_uncalled own (controller.Refuses refusal) six un = absurd un
six_uncalled own heard six un = tt

six_call : (caller : Caller) (call : Call) (blocks : Option (List ℕ)) → IsSix (controller.heard_call caller call blocks)
six_call caller call (Some blocks) = tt
six_call caller call None = tt

six_refusal : (read : Result Refusal RpcFault) → IsSix (controller.heard_refusal read)
six_refusal (Ok refusal) = tt
six_refusal (Err fault) = tt

six_response : (read : Result Response RpcFault) (refusal : Result Refusal RpcFault) → IsSix (controller.heard_response read refusal)
six_response (Ok response) refusal = tt
six_response (Err fault) refusal = six_refusal refusal

six_first : (caller : Caller) (call : Result Call RpcFault) (response : Result Response RpcFault) (refusal : Result Refusal RpcFault)
    → IsSix (controller.heard_first caller call response refusal)
six_first caller (Ok call) response refusal = six_call caller call call.blocks
six_first caller (Err fault) response refusal = six_response response refusal

six_body : (caller : Caller) (body : List ℕ) → IsSix (controller.heard_body caller body)
unfolding controller.heard_body
six_body caller body = six_first caller (call_of controllers body) (response_of body) (refusal_of body)

six_content : (own : Mac) (address : List ℕ) (source : Mac) (content : Content) → IsMac source → IsSix (heard_content address source content)
six_content own address source (RealTime frame_id body) six = fine_six own (heard_real_time source frame_id body) (six_real_time own source frame_id body six)
six_content own address source (ArpPacket packet) six = tt
six_content own address source (UdpDatagram from to body) six =
    holds_if IsSix (is_to address to) (controller.heard_body (record { mac = source; endpoint = from }) body) controller.Nothing (six_body _ body) tt

six_read : IsSoundWhole layers → (own : Mac) (mine : Controller) (octets : List ℕ) (read : Result Meaning FrameFault) → frame_of octets ≡ read
    → IsSix (controller.heard_read mine read)
six_read sound own mine octets (Ok meaning) e =
    holds_if IsSix (pointwise nat_eq meaning.destination.octets mine.mac.octets) (heard_content mine.address meaning.source meaning.content) controller.Nothing
    (six_content own mine.address meaning.source meaning.content (source_six sound octets meaning e)) tt
six_read sound own mine octets (Err fault) e = tt

six_heard : IsSoundWhole layers → (own : Mac) (mine : Controller) (octets : List ℕ) → IsSix (controller.heard_of mine octets)
unfolding controller.heard_of
six_heard sound own mine octets = six_read sound own mine octets (frame_of octets) refl

-- ---- messages

module _ (so : HeardSo) (setup : Setup) (identity : Identity) (good : IsSetup setup) (real : IsDevice identity) where
  abbrev mine : Controller
  mine = setup.plan.controller

  abbrev IsFineFrame : List ℕ → Type 0
  IsFineFrame frame = IsFineAt setup identity frame

  data_fine : (destination source : Mac) (tag : Option ℕ) (frame_id : ℕ) (body : List ℕ) → IsMac destination → IsMac source → IsTag tag
      → IsFineFrame (frame_bytes (carrying destination source tag (RealTime frame_id body)))
  data_fine destination source tag frame_id body one other tagged =
      let frame = frame_bytes (carrying destination source tag (RealTime frame_id body)) in
      six_uncalled identity.mac (controller.heard_of mine frame) (six_heard so.sound identity.mac mine frame)
      (so.uncalled mine destination source tag frame_id body one other tagged)

  fine_by : (frame : List ℕ) (heard : controller.Heard) → controller.heard_of mine frame ≡ heard → IsFine identity.mac heard → IsFineFrame frame
  fine_by frame heard e is = subst (λ (h : controller.Heard). IsFine identity.mac h) (sym e) is

  -- what is heard of a datagram, if it is for the controller
  mine_fine : (destination : Mac) (to : Endpoint) (heard : controller.Heard) → IsFine identity.mac heard
      → IsFine identity.mac (mine_reported mine destination to heard)
  mine_fine destination to heard is =
      holds_if (IsFine identity.mac) (pointwise nat_eq destination.octets mine.mac.octets)
      (cond (is_to mine.address to) heard controller.Nothing) controller.Nothing
      (holds_if (IsFine identity.mac) (is_to mine.address to) heard controller.Nothing is tt) tt

  -- ---- of the device

  pub ready_can_be : (link : RelationState) (ready : Ready) → link.request ≡ request_for setup.plan setup.ar → ready.header ≡ (ready_of link).header
      → ready.block ≡ (ready_of link).block
      → CanBeCalled controllers (ready_call ready)
  ready_can_be link ready made header block =
      so.ready_can ready
      (record {
        object = ap (λ (h : CallHeader). length h.object) header ∙ ap (λ (r : Asked_for). length r.ar.object) made;
        interface = ap (λ (h : CallHeader). length h.interface) header;
        activity = ap (λ (h : CallHeader). length h.activity) header ∙ (ap (λ (r : Asked_for). length r.ar.uuid) made ∙ good.ar);
        sequence = subst (λ (n : ℕ). n < 4294967296) (sym (ap (λ (h : CallHeader). h.sequence) header)) (omega arith);
        operation = subst (λ (n : ℕ). n < 65536) (sym (ap (λ (h : CallHeader). h.operation) header)) (omega arith);
      })
      (ap (λ (h : CallHeader). h.interface) header)
      (ap (λ (b : ControlBlock). length b.ar_uuid) block ∙ (ap (λ (r : Asked_for). length r.ar.uuid) made ∙ good.ar))

  pub plug_can_be : (link : RelationState) (call : PlugCall) (ready : PlugReady) → link.request ≡ request_for setup.plan setup.ar → call.sequence < 4294967296
      → ready.header ≡ (ready_for link call).header → ready.block ≡ (ready_for link call).block → CanBeCalled controllers (plug_ready_call ready)
  plug_can_be link call ready made few header block =
      so.plug_can ready
      (record {
        object = ap (λ (h : CallHeader). length h.object) header ∙ ap (λ (r : Asked_for). length r.ar.object) made;
        interface = ap (λ (h : CallHeader). length h.interface) header;
        activity = ap (λ (h : CallHeader). length h.activity) header ∙ (ap (λ (r : Asked_for). length r.ar.uuid) made ∙ good.ar);
        sequence = subst (λ (h : CallHeader). h.sequence < 4294967296) (sym header) few;
        operation = subst (λ (h : CallHeader). h.operation < 65536) (sym header) (omega arith);
      })
      (ap (λ (h : CallHeader). h.interface) header)
      (ap (λ (b : PlugControlBlock). length b.ar_uuid) block ∙ (ap (λ (r : Asked_for). length r.ar.uuid) made ∙ good.ar))

  message_fine : (heard : Heard) (live : Live) (message : Sent) → IsPlans setup live.rest.link → IsOrderlyIn live.rest.link
      → ((frame : List ℕ) → IsOfKept heard live frame → IsFineFrame frame) → IsOwed heard live message → IsSendable identity message
      → IsFineFrame (bytes_of identity message)
  message_fine heard live (Again frame) plans orderly kept owed can = kept frame owed
  message_fine heard live (IdentifyAnswer asker running xid) plans orderly kept owed can = data_fine asker identity.mac None _ _ can.destination real tt
  message_fine heard live (GetAnswer asker running alias request) plans orderly kept owed can = data_fine asker identity.mac None _ _ can.destination real tt
  message_fine heard live (SetAnswer asker request answers) plans orderly kept owed can = data_fine asker identity.mac None _ _ can.destination real tt
  message_fine heard live (ArpReply asker address target) plans orderly kept owed can =
      fine_by (bytes_of identity (ArpReply asker address target)) controller.Nothing
      (so.packet mine identity asker address target real can.destination can.content.0.1 can.content.1) tt
  message_fine heard live (CallAnswer caller address answer) plans orderly kept owed can =
      fine_by (bytes_of identity (CallAnswer caller address answer)) (mine_reported mine caller.mac caller.endpoint (controller.Responds answer))
      (so.response mine identity caller address answer real (record { mac = can.0.destination; endpoint = can.0.content.1 }) can.0.content.0.0 can.1)
      (mine_fine caller.mac caller.endpoint (controller.Responds answer) tt)
  message_fine heard live (ReadyCall address ready) plans orderly kept owed can =
      let called = ready_can_be owed.link ready (plans owed.link owed.is) owed.header owed.block in
      let caller : Caller = record { mac = identity.mac; endpoint = calls_at address } in
      fine_by (bytes_of identity (ReadyCall address ready)) (mine_reported mine ready.partner.mac (calls_at ready.partner.address)
      (controller.Calls caller (ready_call ready)))
      (so.ready mine identity address ready real can.destination can.content.1.0 can.content.0.0 called)
      (mine_fine ready.partner.mac (calls_at ready.partner.address) (controller.Calls caller (ready_call ready))
      (refl, record { mac = real; endpoint = (can.content.0.0, omega arith) }, called.header, called.maximum))
  message_fine heard live (PlugReadyCall address ready) plans orderly kept owed can =
      let called = plug_can_be owed.link owed.call ready (plans owed.link owed.is) (owed.sequence orderly) owed.header owed.block in
      let caller : Caller = record { mac = identity.mac; endpoint = calls_at address } in
      fine_by (bytes_of identity (PlugReadyCall address ready)) (mine_reported mine ready.partner.mac (calls_at ready.partner.address)
      (controller.Calls caller (plug_ready_call ready)))
      (so.plug mine identity address ready real can.destination can.content.1.0 can.content.0.0 called)
      (mine_fine ready.partner.mac (calls_at ready.partner.address) (controller.Calls caller (plug_ready_call ready))
      (refl, record { mac = real; endpoint = (can.content.0.0, omega arith) }, called.header, called.maximum))
  message_fine heard live (Ends farewell) plans orderly kept owed can = data_fine farewell.initiator identity.mac
      (Some farewell.tag) _ _ can.destination real can.tag
  message_fine heard live (Exchanges route frame) plans orderly kept owed can = data_fine route.partner identity.mac (Some _) _ _ can.destination real can.tag

  pub messages_fine : (heard : Heard) (live : Live) (messages : List Sent) → IsPlans setup live.rest.link → IsOrderlyIn live.rest.link
      → ((frame : List ℕ) → IsOfKept heard live frame → IsFineFrame frame) → AllByRecursion (IsOwed heard live) messages
      → AllByRecursion (IsSendable identity) messages
      → AllByRecursion IsFineFrame (map (bytes_of identity) messages)
  messages_fine heard live [] plans orderly kept owed can = tt
  messages_fine heard live (message ∷ messages) plans orderly kept owed can =
      (message_fine heard live message plans orderly kept owed.0 can.0, messages_fine heard live messages plans orderly kept owed.1 can.1)

  -- ---- of the controller

  multicast_six : IsMac identify_multicast
  unfolding identify_multicast
  multicast_six = refl

  call_fine : (to : Mac) (call : Call) → IsMac to → CanBeCalled devices call → IsFineFrame (call_frame setup to call)
  call_fine to call six can = fine_by (call_frame setup to call) controller.Nothing (so.call mine setup to call good six can) tt

  tag_sized : (route : Route) (priority : Priority) → IsDirection route → tag_of route priority < 65536
  tag_sized route High aimed = aimed.alarm_tag
  tag_sized route Low aimed = omega arith

  pub said_fine : (message : said.Sent) → IsAimedAt identity.mac message → IsFineFrame (said.bytes_of setup message)
  said_fine (said.Requests to asks.Identify) aimed = data_fine identify_multicast mine.mac None _ _ multicast_six good.mac tt
  said_fine (said.Requests to asks.Address) aimed = data_fine to mine.mac None _ _ aimed.0 good.mac tt
  said_fine (said.Requests to asks.Connect) aimed = call_fine to (call_for setup asks.Connect) aimed.0 (so.call_can setup asks.Connect good tt tt)
  said_fine (said.Requests to (asks.Write number)) aimed = call_fine to (call_for setup (asks.Write number)) aimed.0
      (so.call_can setup (asks.Write number) good tt aimed.1)
  said_fine (said.Requests to asks.PrmEnd) aimed = call_fine to (call_for setup asks.PrmEnd) aimed.0 (so.call_can setup asks.PrmEnd good tt tt)
  said_fine (said.Requests to (asks.WriteAfter number tries)) aimed = call_fine to (call_for setup (asks.WriteAfter number tries)) aimed.0
      (so.call_can setup (asks.WriteAfter number tries) good tt aimed.1)
  said_fine (said.Requests to (asks.PrmEndAfter tries)) aimed = call_fine to (call_for setup (asks.PrmEndAfter tries)) aimed.0
      (so.call_can setup (asks.PrmEndAfter tries) good tt aimed.1)
  said_fine (said.Requests to (asks.Release sequence)) aimed = call_fine to (call_for setup (asks.Release sequence)) aimed.0
      (so.call_can setup (asks.Release sequence) good tt aimed.1)
  said_fine (said.Accesses to request octets) aimed = call_fine to (record_call setup request octets) aimed.0 (so.record_can setup request octets good aimed.1)
  said_fine (said.Parametrizes to request) aimed = call_fine to (plug_call setup request) aimed.0 (so.plug_call_can setup request good aimed.1)
  said_fine (said.Agrees caller answer) aimed =
      fine_by (answer_frame setup caller answer) (mine_reported mine caller.mac caller.endpoint (controller.Responds answer))
      (so.agreed mine setup caller answer good aimed.1 aimed.2)
      (mine_fine caller.mac caller.endpoint (controller.Responds answer) tt)
  said_fine (said.Cycles route shown counter) aimed = data_fine route.partner mine.mac (Some route.sent_tag) _ _ aimed.partner good.mac aimed.sent_tag
  said_fine (said.Confirms route priority header ack) aimed = data_fine route.partner mine.mac (Some (tag_of route priority)) _ _ aimed.partner good.mac
      (tag_sized route priority aimed)
  said_fine (said.Replies route priority header) aimed = data_fine route.partner mine.mac (Some (tag_of route priority)) _ _ aimed.partner good.mac
      (tag_sized route priority aimed)
  said_fine (said.Ends route header reason) aimed = data_fine route.partner mine.mac (Some alarm_block.tag_header_low) _ _ aimed.partner good.mac (omega arith)
