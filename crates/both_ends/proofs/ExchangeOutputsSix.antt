-- Each station that is heard has a MAC address of six octets, since all that are read have.
use Rattle.std.proofs.Common.{◌≡◌, ◌==◌, ℕ, Bool, true, false, cond, nat_lt, nat_eq, List, length, Option, Some, None, Result, Ok, Err, refl, sym, ap, ◌∙◌}
use Rattle.std.specs.Cmp.Lexicographic.{pointwise}
use Rattle.wire.specs.Codec.{IsSoundWhole, ◌>>=◌}
use Rattle.pn_values.specs.declared.mac.Mac.{Mac}
use Rattle.frame_codec.specs.declared.fault.FrameFault.{FrameFault}
use Rattle.frame_codec.specs.declared.fault.FrameFault.TheVariants.{TooLong}
use Rattle.frame_codec.specs.declared.udp.Caller.{Caller}
use Rattle.frame_codec.specs.FrameId.{is_alarm, is_cyclic}
use Rattle.frame_codec.specs.Meaning.{Content, RealTime, ArpPacket, UdpDatagram, Meaning}
use Rattle.frame_codec.specs.Frame.{ethernet, frame_of, layers, longest, mac}
use Rattle.frame_codec.specs.Sendable.{IsMac}
use Rattle.dcp_core.specs.declared.request.DcpFault.{DcpFault}
use Rattle.dcp_core.specs.Response.{Answered}
use Rattle.dcp_core.specs.Answer.{answer_of}
use Rattle.rpc_core.specs.declared.fault.RpcFault.{RpcFault}
use Rattle.rpc_core.specs.declared.interface.Interface.TheVariants.{Controller as controllers}
use Rattle.rpc_core.specs.Call.{Asked as Call, call_of}
use Rattle.rpc_core.specs.Response.{Answered as Response, response_of}
use Rattle.pn_alarms.specs.declared.fault.AlarmFault.{AlarmFault}
use Rattle.pn_alarms.specs.declared.pdu.Header.{Header}
use Rattle.diagnosis.specs.reports.Message.{ToController, alarm_of}
use Rattle.plans.specs.declared.parts.Controller.{Controller}
use Rattle.controller_messages.specs.declared.setup.Setup.{Setup}
use Rattle.controller_messages.specs.Heard.{Nothing, Cyclic, heard_alarm, heard_answer, heard_body, heard_call, heard_content, heard_first, heard_of, heard_read, heard_real_time, heard_refusal, heard_response, is_to}
use Rattle.controller_messages.specs.declared.refusal.Refusal.{Refusal}
use Rattle.controller_messages.specs.Refusal.{refusal_of}
use Rattle.controller_core.specs.declared.stored.event.Event.{Event}
use Rattle.controller_core.specs.declared.stored.event.Event.TheVariants.{Frame}
use Rattle.both_ends.proofs.ExchangeOutputsRead.{EthernetHeader}
use Rattle.both_ends.proofs.ExchangeOutputsTurns.{IsSix, IsSixAt}

holds_if : {A : Type 0} (P : A → Type 0) (b : Bool) (x y : A) → P x → P y → P (cond b x y)
holds_if P true x y one other = one
holds_if P false x y one other = other

bind_ok : {A B F : Type 0} (r : Result A F) (next : A → Result B F) (y : B) → (r >>= next) ≡ Ok y → (x : A) × (r ≡ Ok x) × (next x ≡ Ok y)
bind_ok (Ok x) next y e = (x, refl, e)
bind_ok (Err fault) next y e = absurd cc

layers_read : (bytes : List ℕ) (meaning : Meaning) → frame_of bytes ≡ Ok meaning → layers.read bytes ≡ Ok meaning
unfolding frame_of
layers_read bytes meaning e =
    let there = bind_ok (ethernet.read bytes) (λ header. cond (nat_lt (longest header.0.tag) (length bytes)) (Err TooLong) (layers.read bytes)) meaning e in
    by_length (nat_lt (longest there.0.0.tag) (length bytes)) there.2
  where
    by_length : (b : Bool) → cond b (Err TooLong) (layers.read bytes) ≡ Ok meaning → layers.read bytes ≡ Ok meaning
    by_length true f = absurd cc
    by_length false f = f

source_six : IsSoundWhole layers → (bytes : List ℕ) (meaning : Meaning) → frame_of bytes ≡ Ok meaning → IsMac meaning.source
unfolding layers ethernet mac
source_six sound bytes meaning e =
    let spelled = sound.takes bytes meaning (layers_read bytes meaning e) in
    let header = spelled.2.1 in
    let source = header.2.2.1 in
    ap (λ (m : Meaning). length m.source.octets) (sym spelled.1)
    ∙ (ap (λ (l : EthernetHeader). length l.source.octets) (sym header.1)
    ∙ (ap (λ (m : Mac). length m.octets) (sym source.1) ∙ source.2.0))

six_answer : (source : Mac) (read : Result Answered DcpFault) → IsMac source → IsSix (heard_answer source read)
six_answer source (Ok answer) six = six
six_answer source (Err fault) six = tt

six_alarm : (source : Mac) (frame_id : ℕ) (read : Result (Header × ToController) AlarmFault) → IsSix (heard_alarm source frame_id read)
six_alarm source frame_id (Ok x) = tt
six_alarm source frame_id (Err fault) = tt

six_dcp : (source : Mac) (frame_id : ℕ) (body : List ℕ) → IsMac source
    → IsSix (cond (frame_id == 0xFEFD) (heard_answer source (answer_of frame_id body)) (cond (frame_id == 0xFEFF) (heard_answer source (answer_of frame_id body)) Nothing))
six_dcp source frame_id body six = by_first (frame_id == 0xFEFD) (frame_id == 0xFEFF)
  where
    by_first : (b c : Bool) → IsSix (cond b (heard_answer source (answer_of frame_id body)) (cond c (heard_answer source (answer_of frame_id body)) Nothing))
    by_first true c = six_answer source (answer_of frame_id body) six
    by_first false true = six_answer source (answer_of frame_id body) six
    by_first false false = tt

six_real_time : (source : Mac) (frame_id : ℕ) (body : List ℕ) → IsMac source → IsSix (heard_real_time source frame_id body)
unfolding heard_real_time
six_real_time source frame_id body six = by_kind (is_cyclic frame_id) (is_alarm frame_id)
  where
    by_kind : (b c : Bool) → IsSix (cond b (Cyclic source frame_id body) (cond c (heard_alarm source frame_id (alarm_of body))
        (cond (frame_id == 0xFEFD) (heard_answer source (answer_of frame_id body)) (cond (frame_id == 0xFEFF) (heard_answer source (answer_of frame_id body)) Nothing))))
    by_kind true c = tt
    by_kind false true = six_alarm source frame_id (alarm_of body)
    by_kind false false = six_dcp source frame_id body six

six_call : (caller : Caller) (call : Call) (blocks : Option (List ℕ)) → IsMac caller.mac → IsSix (heard_call caller call blocks)
six_call caller call (Some blocks) six = six
six_call caller call None six = tt

six_refusal : (read : Result Refusal RpcFault) → IsSix (heard_refusal read)
six_refusal (Ok refusal) = tt
six_refusal (Err fault) = tt

six_response : (read : Result Response RpcFault) (refusal : Result Refusal RpcFault) → IsSix (heard_response read refusal)
six_response (Ok response) refusal = tt
six_response (Err fault) refusal = six_refusal refusal

six_first : (caller : Caller) (call : Result Call RpcFault) (response : Result Response RpcFault) (refusal : Result Refusal RpcFault) → IsMac caller.mac
    → IsSix (heard_first caller call response refusal)
six_first caller (Ok call) response refusal six = six_call caller call call.blocks six
six_first caller (Err fault) response refusal six = six_response response refusal

six_body : (caller : Caller) (body : List ℕ) → IsMac caller.mac → IsSix (heard_body caller body)
unfolding heard_body
six_body caller body six = six_first caller (call_of controllers body) (response_of body) (refusal_of body) six

six_content : (address : List ℕ) (source : Mac) (content : Content) → IsMac source → IsSix (heard_content address source content)
six_content address source (RealTime frame_id body) six = six_real_time source frame_id body six
six_content address source (ArpPacket packet) six = tt
six_content address source (UdpDatagram from to body) six =
    let caller : Caller = record { mac = source; endpoint = from } in
    holds_if IsSix (is_to address to) (heard_body caller body) Nothing (six_body caller body six) tt

six_read : IsSoundWhole layers → (mine : Controller) (octets : List ℕ) (read : Result Meaning FrameFault) → frame_of octets ≡ read → IsSix (heard_read mine read)
six_read sound mine octets (Ok meaning) e =
    holds_if IsSix (pointwise nat_eq meaning.destination.octets mine.mac.octets) (heard_content mine.address meaning.source meaning.content) Nothing
    (six_content mine.address meaning.source meaning.content (source_six sound octets meaning e)) tt
six_read sound mine octets (Err fault) e = tt

six_heard : IsSoundWhole layers → (mine : Controller) (octets : List ℕ) → IsSix (heard_of mine octets)
unfolding heard_of
six_heard sound mine octets = six_read sound mine octets (frame_of octets) refl

-- any event at a controller
pub six_event : IsSoundWhole layers → (setup : Setup) (event : Event) → IsSixAt setup event
six_event sound setup (Frame bytes) = six_heard sound setup.plan.controller bytes.items
six_event sound setup other = tt
