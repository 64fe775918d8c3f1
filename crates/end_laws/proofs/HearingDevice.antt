-- What a device hears.
use Rattle.std.proofs.Common.{◌≡◌, ◌==◌, ◌&&◌, ℕ, true, nat_eq, List, [], ◌++◌, Option, None, Result, Ok, Err, refl, ap, ◌∙◌}
use Rattle.std.specs.Cmp.Lexicographic.{pointwise}
use Rattle.pn_values.specs.declared.identity.Identity.{Identity}
use Rattle.pn_values.specs.declared.mac.Mac.{Mac}
use Rattle.frame_codec.specs.declared.fault.FrameFault.{FrameFault}
use Rattle.frame_codec.specs.declared.udp.Endpoint.{Endpoint}
use Rattle.frame_codec.specs.FrameId.{is_alarm, is_cyclic}
use Rattle.frame_codec.specs.Meaning.{ArpPacket, Content, Meaning, RealTime, UdpDatagram}
use Rattle.frame_codec.specs.declared.arp.Arp.{Arp}
use Rattle.frame_codec.specs.Frame.{frame_bytes, padding_of}
use Rattle.dcp_core.specs.declared.request.DcpFault.{DcpFault}
use Rattle.dcp_core.specs.Reading.{request_of}
use Rattle.dcp_core.specs.Request.{Asked}
use Rattle.rpc_core.specs.declared.fault.RpcFault.{RpcFault}
use Rattle.rpc_core.specs.declared.interface.Interface.TheVariants.{Controller, Device}
use Rattle.rpc_core.specs.Call.{Asked as Call, call_bytes, call_of}
use Rattle.rpc_core.specs.Response.{Answered, response_bytes, response_of}
use Rattle.pn_alarms.specs.declared.fault.AlarmFault.{AlarmFault}
use Rattle.pn_alarms.specs.declared.pdu.Header.{Header}
use Rattle.pn_alarms.specs.declared.pdu.PduType.{PduType}
use Rattle.diagnosis.specs.declared.reports.priority.Priority.{Priority}
use Rattle.diagnosis.specs.declared.reports.priority.Priority.TheVariants.{High, Low}
use Rattle.diagnosis.specs.reports.Message.{low_message_of}
use Rattle.diagnosis.specs.reports.Priority.{frame_id_at, priority_of}
use Rattle.pn_alarms.specs.declared.message.Notice.TheVariants as notice
use Rattle.pn_alarms.specs.Message.{ToDevice, message_of}
use Rattle.device_frames.specs.Heard.{Calls, Cyclic, Elsewhere, Garbled, Heard, Resolves, Responds, Said, heard_alarm, heard_content, heard_frame, heard_low, heard_of, heard_reply, heard_request, identify_multicast, is_own, is_taken, said_by, said_else, said_first}
use Rattle.frame_codec.specs.Sendable.{CanBeSent, IsMac, IsRealTime, IsRealTimeOrNone, IsTag, carrying}
use Rattle.rpc_core.specs.Sendable.{CanBeAnswered, CanBeCalled}
use Rattle.end_laws.specs.hearing.Hearing.{IsUnreported, all_hears, comes, own_hears, own_reported, padded}
use Rattle.end_laws.proofs.HearingGiven.{CallsAreNoResponses, CallsAreRead, ControllerIsMeant, DataIsAlone, DataIsRead, DatagramsAreRead, PacketsAreRead, ResponsesAreNoCalls, ResponsesAreRead}
use Rattle.end_laws.proofs.HearingChoices.{alarm_chosen, alarm_is, alarm_no_get_set, alarm_no_identify, bare, cyclic_chosen, faulty, holds_if, no_alarm, no_get_set, no_identify}

-- ---- real-time data

pub data_heard : DataIsRead → (identity : Identity) (destination source : Mac) (tag : Option ℕ) (frame_id : ℕ) (body : List ℕ)
    → CanBeSent (carrying destination source tag (RealTime frame_id body))
    → heard_of identity (comes (frame_bytes (carrying destination source tag (RealTime frame_id body))))
    ≡ heard_content identity destination source (RealTime frame_id (padded source destination tag frame_id body))
unfolding heard_of
data_heard reads identity destination source tag frame_id body is = ap (λ (r : Result Meaning FrameFault). heard_frame identity r) (reads destination source tag frame_id body is)

pub cyclic_heard : DataIsRead → (identity : Identity) (destination source : Mac) (tag : Option ℕ) (frame_id : ℕ) (body : List ℕ)
    → CanBeSent (carrying destination source tag (RealTime frame_id body)) → is_cyclic frame_id ≡ true
    → heard_of identity (comes (frame_bytes (carrying destination source tag (RealTime frame_id body))))
    ≡ own_hears identity destination (Cyclic source frame_id (padded source destination tag frame_id body))
cyclic_heard reads identity destination source tag frame_id body is cyclic =
    let all = padded source destination tag frame_id body in
    data_heard reads identity destination source tag frame_id body is
    ∙ cyclic_chosen (is_own identity destination) (pointwise nat_eq destination.octets identify_multicast) (frame_id == 65277) (frame_id == 65278) (is_alarm frame_id) (is_cyclic frame_id)
    (heard_request source (request_of frame_id all)) (heard_alarm source frame_id all (message_of all)) (Cyclic source frame_id all) Elsewhere
    (no_get_set frame_id cyclic) (no_identify frame_id cyclic) (no_alarm frame_id cyclic) cyclic

-- an alarm frame, of which something is read whatever follows it
pub alarm_heard : DataIsRead → (identity : Identity) (destination source : Mac) (tag : Option ℕ) (priority : Priority) (kind : PduType) (body : List ℕ) (heard : Heard)
    → CanBeSent (carrying destination source tag (RealTime (frame_id_at priority kind) body)) → ((more : List ℕ) → heard_alarm source (frame_id_at priority kind) (body ++ more) (message_of (body ++ more)) ≡ heard)
    → heard_of identity (comes (frame_bytes (carrying destination source tag (RealTime (frame_id_at priority kind) body)))) ≡ own_hears identity destination heard
alarm_heard reads identity destination source tag priority kind body heard is says =
    let frame_id = frame_id_at priority kind in
    let all = padded source destination tag frame_id body in
    data_heard reads identity destination source tag frame_id body is
    ∙ alarm_chosen (is_own identity destination) (pointwise nat_eq destination.octets identify_multicast) (frame_id == 65277) (frame_id == 65278) (is_alarm frame_id) (is_cyclic frame_id)
    (heard_request source (request_of frame_id all)) (heard_alarm source frame_id all (message_of all)) (Cyclic source frame_id all) Elsewhere
    (alarm_no_get_set priority kind) (alarm_no_identify priority kind) (alarm_is priority kind)
    ∙ ap (λ (h : Heard). own_hears identity destination h) (says (padding_of (carrying destination source tag (RealTime frame_id body))))

-- ---- ARP

pub packet_heard : PacketsAreRead → (identity : Identity) (destination source : Mac) (packet : Arp) → CanBeSent (carrying destination source None (ArpPacket packet))
    → heard_of identity (comes (frame_bytes (carrying destination source None (ArpPacket packet)))) ≡ all_hears identity destination (Resolves source packet)
unfolding heard_of
packet_heard reads identity destination source packet is = ap (λ (r : Result Meaning FrameFault). heard_frame identity r) (reads destination source None packet is)

-- ---- datagrams

pub reported_heard : DatagramsAreRead → (identity : Identity) (destination source : Mac) (from to : Endpoint) (body : List ℕ) (said : Said)
    → CanBeSent (carrying destination source None (UdpDatagram from to body)) → said_by body ≡ said
    → heard_of identity (comes (frame_bytes (carrying destination source None (UdpDatagram from to body)))) ≡ own_reported identity source destination from to said
unfolding heard_of
reported_heard reads identity destination source from to body said is says =
    ap (λ (r : Result Meaning FrameFault). heard_frame identity r) (reads destination source None from to body is)
    ∙ ap (λ (s : Said). own_reported identity source destination from to s) says

pub call_said : CallsAreRead → (call : Call) → CanBeCalled Device call → said_by (call_bytes Device call) ≡ Calls call
unfolding said_by
call_said reads call is =
    let octets = call_bytes Device call in
    ap (λ (r : Result Call RpcFault). said_first r (response_of octets)) (bare (λ xs. call_of Device xs) octets (Ok call) (reads Device call [] is))

pub response_said : ResponsesAreRead → ResponsesAreNoCalls → (answer : Answered) → CanBeAnswered answer → said_by (response_bytes answer) ≡ Responds answer
unfolding said_by
response_said reads differ answer is =
    let octets = response_bytes answer in
    let read = bare (λ xs. response_of xs) octets (Ok answer) (reads answer [] is) in
    faulty (λ (first : Result Call RpcFault). said_first first (response_of octets)) (said_else (response_of octets)) (call_of Device octets) (λ fault. refl) (differ Device octets answer read) ∙ ap said_else read

-- a call to a controller is neither
pub ready_said : CallsAreRead → CallsAreNoResponses → ControllerIsMeant → (call : Call) → CanBeCalled Controller call → said_by (call_bytes Controller call) ≡ Garbled
unfolding said_by
ready_said reads differ meant call is =
    let octets = call_bytes Controller call in
    let read = bare (λ xs. call_of Controller xs) octets (Ok call) (reads Controller call [] is) in
    faulty (λ (first : Result Call RpcFault). said_first first (response_of octets)) (said_else (response_of octets)) (call_of Device octets) (λ fault. refl) (meant octets call read)
    ∙ faulty (λ (second : Result Answered RpcFault). said_else second) Garbled (response_of octets) (λ fault. refl) (differ Controller octets call read)

-- ---- real-time data is never a call or a response

unreported_request : (source : Mac) (read : Result Asked DcpFault) → IsUnreported (heard_request source read)
unreported_request source (Ok request) = tt
unreported_request source (Err fault) = tt

unreported_reply : (source : Mac) (priority : Priority) (header : Header) (message : ToDevice) → IsUnreported (heard_reply source priority header message)
unreported_reply source Low header (notice.Ack number) = tt
unreported_reply source Low header (notice.Data number ack) = tt
unreported_reply source Low header notice.Nack = tt
unreported_reply source Low header (notice.Abort status) = tt
unreported_reply source High header message = tt

unreported_low : (source : Mac) (read : Result (Header × ToDevice) AlarmFault) → IsUnreported (heard_low source read)
unreported_low source (Ok x) = tt
unreported_low source (Err fault) = tt

unreported_alarm : (source : Mac) (frame_id : ℕ) (body : List ℕ) (read : Result (Header × ToDevice) AlarmFault) → IsUnreported (heard_alarm source frame_id body read)
unreported_alarm source frame_id body (Ok x) = unreported_reply source (priority_of frame_id) x.0 x.1
unreported_alarm source frame_id body (Err fault) = unreported_low source (low_message_of body)

unreported_content : (identity : Identity) (destination source : Mac) (content : Content) → IsRealTime content → IsUnreported (heard_content identity destination source content)
unreported_content identity destination source (RealTime frame_id body) is =
    holds_if IsUnreported (is_taken identity destination frame_id) _ _ (unreported_request source (request_of frame_id body))
    (holds_if IsUnreported (is_own identity destination && is_alarm frame_id) _ _ (unreported_alarm source frame_id body (message_of body))
    (holds_if IsUnreported (is_own identity destination && is_cyclic frame_id) (Cyclic source frame_id body) Elsewhere tt tt))
unreported_content identity destination source (ArpPacket arp) is = absurd is
unreported_content identity destination source (UdpDatagram from to body) is = absurd is

unreported_read : (identity : Identity) (read : Result Meaning FrameFault) → IsRealTimeOrNone read → IsUnreported (heard_frame identity read)
unreported_read identity (Ok meaning) is = unreported_content identity meaning.destination meaning.source meaning.content is
unreported_read identity (Err fault) is = tt

pub unreported : DataIsAlone → (identity : Identity) (destination source : Mac) (tag : Option ℕ) (frame_id : ℕ) (body : List ℕ) → IsMac destination → IsMac source → IsTag tag
    → IsUnreported (heard_of identity (comes (frame_bytes (carrying destination source tag (RealTime frame_id body)))))
unfolding heard_of
unreported stays identity destination source tag frame_id body one other tagged = unreported_read identity _ (stays destination source tag frame_id body one other tagged)
