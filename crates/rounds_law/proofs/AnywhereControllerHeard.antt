-- The station that answers a controller by DCP has a MAC address of six octets, in frames of any octets.
use Rattle.std.proofs.Common.{◌≡◌, ◌==◌, ℕ, Bool, true, false, nat_eq, nat_lt, List, length, Option, Some, None, Result, Ok, Err, if◌then◌else◌, refl, subst}
use Rattle.std.specs.Cmp.Lexicographic.{pointwise}
use Rattle.pn_values.specs.declared.mac.Mac.{Mac}
use Rattle.wire.specs.Codec.{Codec, IsSound}
use Rattle.wire.specs.Formats.{number, ◌⨾◌}
use Rattle.wire.proofs.Fields.{bind_ok, number_sound, ok_is, raw_sound}
use Rattle.wire.proofs.Joined.{seen_sound, then_by_sound, when_sound}
use Rattle.frame_codec.specs.declared.fault.FrameFault.{FrameFault}
use Rattle.frame_codec.specs.declared.fault.FrameFault.TheVariants.{TooLong, TooShort}
use Rattle.frame_codec.specs.declared.udp.Caller.{Caller}
use Rattle.frame_codec.specs.Frame.{content_under, ethernet, frame_of, layers, longest, mac, parts_of_tag, tag_and_type, tag_and_type_of, vlan}
use Rattle.frame_codec.specs.FrameId.{is_alarm, is_cyclic}
use Rattle.frame_codec.specs.Meaning.{ArpPacket, Content, Meaning, RealTime, UdpDatagram}
use Rattle.frame_codec.specs.Sendable.{IsMac}
use Rattle.dcp_core.specs.declared.request.DcpFault.{DcpFault}
use Rattle.dcp_core.specs.Answer.{answer_of}
use Rattle.dcp_core.specs.Response.{Answered}
use Rattle.rpc_core.specs.declared.fault.RpcFault.{RpcFault}
use Rattle.rpc_core.specs.declared.interface.Interface.TheVariants.{Controller as controllers}
use Rattle.rpc_core.specs.Call.{Asked as Call, call_of}
use Rattle.rpc_core.specs.Response.{Answered as Response, response_of}
use Rattle.pn_alarms.specs.declared.fault.AlarmFault.{AlarmFault}
use Rattle.pn_alarms.specs.declared.pdu.Header.{Header}
use Rattle.diagnosis.specs.reports.Message.{ToController, alarm_of}
use Rattle.plans.specs.declared.parts.Controller.{Controller}
use Rattle.controller_messages.specs.declared.refusal.Refusal.{Refusal}
use Rattle.controller_messages.specs.Refusal.{refusal_of}
use Rattle.controller_messages.specs.Heard.{Answers, Heard, Nothing}
use Rattle.controller_messages.specs.Heard.{heard_alarm, heard_answer, heard_body, heard_call, heard_content, heard_first, heard_frame, heard_of, heard_read}
use Rattle.controller_messages.specs.Heard.{heard_real_time, heard_refusal, heard_response, is_to}

-- ---- a source

-- The values of a format.
abbrev ValueOf : {F A : Type 0} → Codec F A → Type 0
ValueOf {A = A} codec = A

mac_sound : IsSound mac
unfolding mac
mac_sound = seen_sound _ _ _ (λ address. refl) (raw_sound TooShort 6)

tag_and_type_sound : IsSound tag_and_type
unfolding tag_and_type
tag_and_type_sound =
    seen_sound tag_and_type_of parts_of_tag _ back (then_by_sound _ _ (number_sound TooShort 2)
    (λ first. when_sound (number TooShort 2 ⨾ number TooShort 2) (first == vlan) (then_by_sound _ _ (number_sound TooShort 2) (λ _. number_sound TooShort 2))))
  where
    back : (value : Option ℕ × ℕ) → tag_and_type_of (parts_of_tag value) ≡ value
    back (None, ether_type) = refl
    back (Some tag, ether_type) = refl

ethernet_sound : IsSound ethernet
unfolding ethernet
ethernet_sound = seen_sound _ _ _ (λ header. refl) (then_by_sound _ _ mac_sound (λ _. then_by_sound _ _ mac_sound (λ _. tag_and_type_sound)))

six : (bytes : List ℕ) (value : Mac) (rest : List ℕ) → mac.Spells bytes value rest → IsMac value
unfolding mac
six bytes value rest spelled = subst (λ (m : Mac). IsMac m) spelled.1 spelled.2.0

header_six : (bytes : List ℕ) (header : ValueOf ethernet) (rest : List ℕ) → ethernet.Spells bytes header rest → IsMac header.source
unfolding ethernet
header_six bytes header rest spelled = subst (λ (h : ValueOf ethernet). IsMac h.source) spelled.1 (six _ _ _ spelled.2.2.1)

-- A frame of a length that is read.
short_read : (is_long : Bool) (read : Result Meaning FrameFault) (meaning : Meaning) → (if is_long then Err TooLong else read) ≡ Ok meaning → read ≡ Ok meaning
short_read true read meaning e = absurd cc
short_read false read meaning e = e

layers_six : (bytes : List ℕ) (meaning : Meaning) → layers.read bytes ≡ Ok meaning → IsMac meaning.source
unfolding layers
layers_six bytes meaning e =
    let whole = bind_ok _ _ meaning e in
    let header = bind_ok (ethernet.read bytes) _ whole.0 whole.1 in
    let content = bind_ok ((content_under header.0.0.ether_type).read header.0.1) _ whole.0 header.2 in
    let both : (header.0.0, content.0) ≡ whole.0 = ok_is {F = FrameFault} _ _ content.2 in
    let all = ok_is {F = FrameFault} _ _ whole.2 in
    subst (λ (m : Meaning). IsMac m.source) all
    (subst (λ (x : ValueOf ethernet × Content). IsMac x.0.source) both (header_six _ _ _ (ethernet_sound.takes bytes header.0.0 header.0.1 header.1)))

-- The source of a frame that is read.
meaning_six : (bytes : List ℕ) (meaning : Meaning) → frame_of bytes ≡ Ok meaning → IsMac meaning.source
unfolding frame_of
meaning_six bytes meaning e =
    let header = bind_ok (ethernet.read bytes) _ meaning e in
    layers_six bytes meaning (short_read (nat_lt (longest header.0.0.tag) (length bytes)) (layers.read bytes) meaning header.2)

-- ---- who answers

-- An answer by DCP comes from this station.
abbrev IsFrom : Mac → Heard → Type 0
IsFrom station (Answers source answer) = station ≡ source
IsFrom station heard = Unit {0}

either_from : (station : Mac) (is : Bool) (one other : Heard) → IsFrom station one → IsFrom station other → IsFrom station (if is then one else other)
either_from station true one other first second = first
either_from station false one other first second = second

answer_from : (station : Mac) (read : Result Answered DcpFault) → IsFrom station (heard_answer station read)
answer_from station (Ok answer) = refl
answer_from station (Err fault) = tt

alarm_from : (station : Mac) (frame_id : ℕ) (read : Result (Header × ToController) AlarmFault) → IsFrom station (heard_alarm station frame_id read)
alarm_from station frame_id (Ok x) = tt
alarm_from station frame_id (Err fault) = tt

real_time_from : (station : Mac) (frame_id : ℕ) (body : List ℕ) → IsFrom station (heard_real_time station frame_id body)
unfolding heard_real_time
real_time_from station frame_id body =
    either_from station (is_cyclic frame_id) _ _ tt (either_from station (is_alarm frame_id) _ _ (alarm_from station frame_id (alarm_of body))
    (either_from station (frame_id == 0xFEFD) _ _ (answer_from station (answer_of frame_id body))
    (either_from station (frame_id == 0xFEFF) _ _ (answer_from station (answer_of frame_id body)) tt)))

call_from : (station : Mac) (caller : Caller) (call : Call) (blocks : Option (List ℕ)) → IsFrom station (heard_call caller call blocks)
call_from station caller call (Some blocks) = tt
call_from station caller call None = tt

refusal_from : (station : Mac) (read : Result Refusal RpcFault) → IsFrom station (heard_refusal read)
refusal_from station (Ok refusal) = tt
refusal_from station (Err fault) = tt

response_from : (station : Mac) (response : Result Response RpcFault) (refusal : Result Refusal RpcFault) → IsFrom station (heard_response response refusal)
response_from station (Ok response) refusal = tt
response_from station (Err fault) refusal = refusal_from station refusal

first_from : (station : Mac) (caller : Caller) (call : Result Call RpcFault) (response : Result Response RpcFault) (refusal : Result Refusal RpcFault)
    → IsFrom station (heard_first caller call response refusal)
first_from station caller (Ok call) response refusal = call_from station caller call call.blocks
first_from station caller (Err fault) response refusal = response_from station response refusal

body_from : (station : Mac) (caller : Caller) (body : List ℕ) → IsFrom station (heard_body caller body)
unfolding heard_body
body_from station caller body = first_from station caller (call_of controllers body) (response_of body) (refusal_of body)

content_from : (station : Mac) (address : List ℕ) (content : Content) → IsFrom station (heard_content address station content)
content_from station address (RealTime frame_id body) = real_time_from station frame_id body
content_from station address (ArpPacket arp) = tt
content_from station address (UdpDatagram from to body) = either_from station (is_to address to) _ _ (body_from station _ body) tt

read_from : (mine : Controller) (octets : List ℕ) (read : Result Meaning FrameFault) (source : Mac) (answer : Answered) → frame_of octets ≡ read
    → heard_read mine read ≡ Answers source answer → IsMac source
read_from mine octets (Ok meaning) source answer is heard =
    let from : IsFrom meaning.source (heard_frame mine meaning) =
    either_from meaning.source (pointwise nat_eq meaning.destination.octets mine.mac.octets) _ Nothing
    (content_from meaning.source mine.address meaning.content) tt in
    let same : meaning.source ≡ source = subst (λ (h : Heard). IsFrom meaning.source h) heard from in
    subst (λ (m : Mac). IsMac m) same (meaning_six octets meaning is)
read_from mine octets (Err fault) source answer is heard = absurd cc

pub answered_by : (mine : Controller) (octets : List ℕ) (source : Mac) (answer : Answered) → heard_of mine octets ≡ Answers source answer → IsMac source
unfolding heard_of
answered_by mine octets source answer heard = read_from mine octets (frame_of octets) source answer refl heard
