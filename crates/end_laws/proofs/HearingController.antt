-- What a controller hears.
use Rattle.std.proofs.Common.{◌≡◌, ◌==◌, ℕ, true, nat_eq, List, [], ◌++◌, Option, Some, None, Result, Ok, Err, refl, ap, ◌∙◌}
use Rattle.std.specs.Cmp.Lexicographic.{pointwise}
use Rattle.pn_values.specs.declared.mac.Mac.{Mac}
use Rattle.frame_codec.specs.declared.arp.Arp.{Arp}
use Rattle.frame_codec.specs.declared.fault.FrameFault.{FrameFault}
use Rattle.frame_codec.specs.declared.udp.Caller.{Caller}
use Rattle.frame_codec.specs.declared.udp.Endpoint.{Endpoint}
use Rattle.frame_codec.specs.FrameId.{is_alarm, is_cyclic}
use Rattle.frame_codec.specs.Meaning.{ArpPacket, Content, Meaning, RealTime, UdpDatagram}
use Rattle.frame_codec.specs.Frame.{frame_bytes, padding_of}
use Rattle.dcp_core.specs.declared.request.DcpFault.{DcpFault}
use Rattle.dcp_core.specs.Answer.{answer_of}
use Rattle.dcp_core.specs.Response.{Answered as Reported}
use Rattle.rpc_core.specs.declared.fault.RpcFault.{RpcFault}
use Rattle.rpc_core.specs.declared.interface.Interface.TheVariants.{Controller as controllers, Device as devices}
use Rattle.rpc_core.specs.Call.{Asked as Call, call_bytes, call_of}
use Rattle.rpc_core.specs.Response.{Answered, response_bytes, response_of}
use Rattle.pn_alarms.specs.declared.fault.AlarmFault.{AlarmFault}
use Rattle.pn_alarms.specs.declared.pdu.Header.{Header}
use Rattle.pn_alarms.specs.declared.pdu.PduType.{PduType}
use Rattle.pn_alarms.specs.declared.pdu.PduType.TheVariants.{Data, Nack, Ack, Error}
use Rattle.diagnosis.specs.declared.reports.priority.Priority.{Priority}
use Rattle.diagnosis.specs.declared.reports.priority.Priority.TheVariants.{High, Low}
use Rattle.diagnosis.specs.reports.Message.{ToController, alarm_of}
use Rattle.diagnosis.specs.reports.Priority.{frame_id_at, priority_of}
use Rattle.plans.specs.declared.parts.Controller.{Controller}
use Rattle.controller_messages.specs.Heard.{Alarms, Answers, Calls, Cyclic, Heard, Nothing, Responds, heard_alarm, heard_answer, heard_body, heard_call, heard_content, heard_first, heard_of, heard_read, heard_real_time, heard_refusal, heard_response, is_to}
use Rattle.controller_messages.specs.Refusal.{refusal_of}
use Rattle.frame_codec.specs.Sendable.{CanBeSent, IsMac, IsRealTime, IsRealTimeOrNone, IsTag, carrying}
use Rattle.rpc_core.specs.Sendable.{CanBeAnswered, CanBeCalled}
use Rattle.end_laws.specs.hearing.Hearing.{IsUncalled, mine_hears, mine_reported, padded}
use Rattle.end_laws.proofs.HearingGiven.{CallsAreNoRefusals, CallsAreNoResponses, CallsAreRead, DataIsAlone, DataIsRead, DatagramsAreRead, DeviceIsMeant, PacketsAreRead, ResponsesAreNoCalls, ResponsesAreRead}
use Rattle.end_laws.proofs.HearingChoices.{bare, faulty, holds_if, same_chosen}

-- ---- real-time data

pub data_heard : DataIsRead → (mine : Controller) (destination source : Mac) (tag : Option ℕ) (frame_id : ℕ) (body : List ℕ)
    → CanBeSent (carrying destination source tag (RealTime frame_id body))
    → heard_of mine (frame_bytes (carrying destination source tag (RealTime frame_id body)))
    ≡ mine_hears mine destination (heard_real_time source frame_id (padded source destination tag frame_id body))
unfolding heard_of
data_heard reads mine destination source tag frame_id body is = ap (λ (r : Result Meaning FrameFault). heard_read mine r) (reads destination source tag frame_id body is)

cyclic_is : (source : Mac) (frame_id : ℕ) (body : List ℕ) → is_cyclic frame_id ≡ true → heard_real_time source frame_id body ≡ Cyclic source frame_id body
unfolding heard_real_time
cyclic_is source frame_id body e = rw e refl

pub cyclic_heard : DataIsRead → (mine : Controller) (destination source : Mac) (tag : Option ℕ) (frame_id : ℕ) (body : List ℕ)
    → CanBeSent (carrying destination source tag (RealTime frame_id body)) → is_cyclic frame_id ≡ true
    → heard_of mine (frame_bytes (carrying destination source tag (RealTime frame_id body)))
    ≡ mine_hears mine destination (Cyclic source frame_id (padded source destination tag frame_id body))
cyclic_heard reads mine destination source tag frame_id body is cyclic =
    data_heard reads mine destination source tag frame_id body is
    ∙ ap (λ (h : Heard). mine_hears mine destination h) (cyclic_is source frame_id (padded source destination tag frame_id body) cyclic)

alarm_is : (source : Mac) (priority : Priority) (kind : PduType) (body : List ℕ) → heard_real_time source (frame_id_at priority kind) body ≡ heard_alarm source (frame_id_at priority kind) (alarm_of body)
unfolding heard_real_time
alarm_is source Low kind body = refl
alarm_is source High Data body = refl
alarm_is source High Nack body = refl
alarm_is source High Ack body = refl
alarm_is source High Error body = refl

pub alarm_heard : DataIsRead → (mine : Controller) (destination source : Mac) (tag : Option ℕ) (priority : Priority) (kind : PduType) (body : List ℕ) (header : Header) (reported : ToController)
    → CanBeSent (carrying destination source tag (RealTime (frame_id_at priority kind) body)) → ((more : List ℕ) → alarm_of (body ++ more) ≡ Ok (header, reported))
    → heard_of mine (frame_bytes (carrying destination source tag (RealTime (frame_id_at priority kind) body)))
    ≡ mine_hears mine destination (Alarms source (priority_of (frame_id_at priority kind)) header reported)
alarm_heard reads mine destination source tag priority kind body header reported is says =
    let frame_id = frame_id_at priority kind in
    data_heard reads mine destination source tag frame_id body is
    ∙ ap (λ (h : Heard). mine_hears mine destination h)
    (alarm_is source priority kind (padded source destination tag frame_id body)
    ∙ ap (λ (r : Result (Header × ToController) AlarmFault). heard_alarm source frame_id r) (says (padding_of (carrying destination source tag (RealTime frame_id body)))))

-- responses of DCP: to an Identify, and to a Get or a Set
pub identify_is : (source : Mac) (body : List ℕ) → heard_real_time source 65279 body ≡ heard_answer source (answer_of 65279 body)
unfolding heard_real_time
identify_is source body = refl

pub get_set_is : (source : Mac) (body : List ℕ) → heard_real_time source 65277 body ≡ heard_answer source (answer_of 65277 body)
unfolding heard_real_time
get_set_is source body = refl

pub answer_heard : DataIsRead → (frame_id : ℕ) → ((source : Mac) (body : List ℕ) → heard_real_time source frame_id body ≡ heard_answer source (answer_of frame_id body)) → (mine : Controller) (destination source : Mac) (tag : Option ℕ) (body : List ℕ) (reported : Reported)
    → CanBeSent (carrying destination source tag (RealTime frame_id body)) → ((more : List ℕ) → answer_of frame_id (body ++ more) ≡ Ok reported)
    → heard_of mine (frame_bytes (carrying destination source tag (RealTime frame_id body))) ≡ mine_hears mine destination (Answers source reported)
answer_heard reads frame_id answers mine destination source tag body reported is says =
    data_heard reads mine destination source tag frame_id body is
    ∙ ap (λ (h : Heard). mine_hears mine destination h)
    (answers source (padded source destination tag frame_id body) ∙ ap (λ (r : Result Reported DcpFault). heard_answer source r) (says (padding_of (carrying destination source tag (RealTime frame_id body)))))

-- ---- ARP

pub packet_heard : PacketsAreRead → (mine : Controller) (destination source : Mac) (packet : Arp) → CanBeSent (carrying destination source None (ArpPacket packet))
    → heard_of mine (frame_bytes (carrying destination source None (ArpPacket packet))) ≡ Nothing
unfolding heard_of
packet_heard reads mine destination source packet is =
    ap (λ (r : Result Meaning FrameFault). heard_read mine r) (reads destination source None packet is) ∙ same_chosen (pointwise nat_eq destination.octets mine.mac.octets) Nothing

-- ---- datagrams

pub body_heard : DatagramsAreRead → (mine : Controller) (destination source : Mac) (from to : Endpoint) (body : List ℕ) (heard : Heard)
    → CanBeSent (carrying destination source None (UdpDatagram from to body)) → heard_body (record { mac = source; endpoint = from }) body ≡ heard
    → heard_of mine (frame_bytes (carrying destination source None (UdpDatagram from to body))) ≡ mine_reported mine destination to heard
unfolding heard_of
body_heard reads mine destination source from to body heard is says =
    ap (λ (r : Result Meaning FrameFault). heard_read mine r) (reads destination source None from to body is)
    ∙ ap (λ (h : Heard). mine_reported mine destination to h) says

-- the case that nothing was said
pub nothing_reported : (mine : Controller) (destination : Mac) (to : Endpoint) → mine_reported mine destination to Nothing ≡ Nothing
nothing_reported mine destination to =
    ap (λ (h : Heard). mine_hears mine destination h) (same_chosen (is_to mine.address to) Nothing) ∙ same_chosen (pointwise nat_eq destination.octets mine.mac.octets) Nothing

pub response_is : ResponsesAreRead → ResponsesAreNoCalls → (caller : Caller) (answer : Answered) → CanBeAnswered answer → heard_body caller (response_bytes answer) ≡ Responds answer
unfolding heard_body
response_is reads differ caller answer is =
    let octets = response_bytes answer in
    let read = bare (λ xs. response_of xs) octets (Ok answer) (reads answer [] is) in
    faulty (λ (first : Result Call RpcFault). heard_first caller first (response_of octets) (refusal_of octets)) (heard_response (response_of octets) (refusal_of octets)) (call_of controllers octets) (λ fault. refl)
    (differ controllers octets answer read)
    ∙ ap (λ (r : Result Answered RpcFault). heard_response r (refusal_of octets)) read

whole : (caller : Caller) (call : Call) (blocks : Option (List ℕ)) (octets : List ℕ) → blocks ≡ Some octets → heard_call caller call blocks ≡ Calls caller call
whole caller call (Some blocks) octets e = refl
whole caller call None octets e = absurd cc

pub call_is : CallsAreRead → (caller : Caller) (call : Call) → CanBeCalled controllers call → heard_body caller (call_bytes controllers call) ≡ Calls caller call
unfolding heard_body
call_is reads caller call is =
    let octets = call_bytes controllers call in
    ap (λ (r : Result Call RpcFault). heard_first caller r (response_of octets) (refusal_of octets)) (bare (λ xs. call_of controllers xs) octets (Ok call) (reads controllers call [] is))
    ∙ whole caller call call.blocks is.blocks is.whole

-- a call to a device is neither
pub other_is : CallsAreRead → CallsAreNoResponses → CallsAreNoRefusals → DeviceIsMeant → (caller : Caller) (call : Call) → CanBeCalled devices call → heard_body caller (call_bytes devices call) ≡ Nothing
unfolding heard_body
other_is reads differ unrefused meant caller call is =
    let octets = call_bytes devices call in
    let read = bare (λ xs. call_of devices xs) octets (Ok call) (reads devices call [] is) in
    faulty (λ (first : Result Call RpcFault). heard_first caller first (response_of octets) (refusal_of octets)) (heard_response (response_of octets) (refusal_of octets)) (call_of controllers octets) (λ fault. refl)
    (meant octets call read)
    ∙ (faulty (λ (second : Result Answered RpcFault). heard_response second (refusal_of octets)) (heard_refusal (refusal_of octets)) (response_of octets) (λ fault. refl) (differ devices octets call read)
    ∙ ap heard_refusal (unrefused devices call).1)

-- ---- real-time data is not a call

uncalled_answer : (source : Mac) (read : Result Reported DcpFault) → IsUncalled (heard_answer source read)
uncalled_answer source (Ok answer) = tt
uncalled_answer source (Err fault) = tt

uncalled_alarm : (source : Mac) (frame_id : ℕ) (read : Result (Header × ToController) AlarmFault) → IsUncalled (heard_alarm source frame_id read)
uncalled_alarm source frame_id (Ok x) = tt
uncalled_alarm source frame_id (Err fault) = tt

uncalled_data : (source : Mac) (frame_id : ℕ) (body : List ℕ) → IsUncalled (heard_real_time source frame_id body)
unfolding heard_real_time
uncalled_data source frame_id body =
    holds_if IsUncalled (is_cyclic frame_id) (Cyclic source frame_id body) _ tt (holds_if IsUncalled (is_alarm frame_id) _ _ (uncalled_alarm source frame_id (alarm_of body))
    (holds_if IsUncalled (frame_id == 0xFEFD) _ _ (uncalled_answer source (answer_of frame_id body)) (holds_if IsUncalled (frame_id == 0xFEFF) _ Nothing (uncalled_answer source (answer_of frame_id body)) tt)))

uncalled_content : (address : List ℕ) (source : Mac) (content : Content) → IsRealTime content → IsUncalled (heard_content address source content)
uncalled_content address source (RealTime frame_id body) is = uncalled_data source frame_id body
uncalled_content address source (ArpPacket arp) is = absurd is
uncalled_content address source (UdpDatagram from to body) is = absurd is

uncalled_read : (mine : Controller) (read : Result Meaning FrameFault) → IsRealTimeOrNone read → IsUncalled (heard_read mine read)
uncalled_read mine (Ok meaning) is =
    holds_if IsUncalled (pointwise nat_eq meaning.destination.octets mine.mac.octets) _ Nothing (uncalled_content mine.address meaning.source meaning.content is) tt
uncalled_read mine (Err fault) is = tt

pub uncalled : DataIsAlone → (mine : Controller) (destination source : Mac) (tag : Option ℕ) (frame_id : ℕ) (body : List ℕ) → IsMac destination → IsMac source → IsTag tag
    → IsUncalled (heard_of mine (frame_bytes (carrying destination source tag (RealTime frame_id body))))
unfolding heard_of
uncalled stays mine destination source tag frame_id body one other tagged = uncalled_read mine _ (stays destination source tag frame_id body one other tagged)
