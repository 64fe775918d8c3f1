-- What either end hears of alarms in a message of the other, and in its own.
use Rattle.std.proofs.Common.{◌≡◌, ◌⊎◌, inl, inr, ◌==◌, ◌&&◌, ◌||◌, ℕ, Bool, true, false, cond, List, Option, Some, None, Result, Ok, Err, refl, sym, ap, subst, ◌∙◌}
use Rattle.std.specs.Prelude.{IsErr, nat_eq}
use Rattle.std.specs.Cmp.Lexicographic.{pointwise}
use Rattle.pn_values.specs.declared.identity.Identity.{Identity}
use Rattle.pn_values.specs.declared.mac.Mac.{Mac}
use Rattle.frame_codec.specs.declared.fault.FrameFault.{FrameFault}
use Rattle.frame_codec.specs.declared.arp.Arp.{Arp}
use Rattle.frame_codec.specs.declared.udp.Caller.{Caller}
use Rattle.frame_codec.specs.declared.udp.Endpoint.{Endpoint}
use Rattle.frame_codec.specs.FrameId.{is_alarm, is_cyclic}
use Rattle.frame_codec.specs.Frame.{frame_bytes, frame_of}
use Rattle.frame_codec.specs.Meaning.{ArpPacket, Content, Meaning, RealTime, UdpDatagram}
use Rattle.frame_codec.specs.Sendable.{IsMac, carrying}
use Rattle.dcp_core.specs.declared.request.DcpFault.{DcpFault}
use Rattle.dcp_core.specs.Answer.{answer_of}
use Rattle.dcp_core.specs.Reading.{request_of}
use Rattle.dcp_core.specs.Request.{Asked}
use Rattle.dcp_core.specs.Response.{Answered}
use Rattle.rpc_core.specs.declared.fault.RpcFault.{RpcFault}
use Rattle.rpc_core.specs.Call.{Asked as Call, call_of}
use Rattle.rpc_core.specs.Response.{Answered as Response, response_of}
use Rattle.rpc_core.specs.declared.interface.Interface.TheVariants.{Controller as controllers}
use Rattle.pn_alarms.specs.Message.{message_of}
use Rattle.diagnosis.specs.reports.Message.{alarm_of}
use Rattle.plans.specs.declared.parts.Controller.{Controller}
use Rattle.device_frames.specs.Heard.{Heard, Elsewhere, Resolves, Reported, Cyclic, broadcast, heard_alarm, heard_content, heard_frame, heard_of, heard_request, is_own, is_taken, said_by}
use Rattle.controller_messages.specs.Heard as controller
use Rattle.controller_messages.specs.Heard.{heard_answer, heard_body, heard_call, heard_first, heard_read, heard_real_time, heard_refusal, heard_response, is_to}
use Rattle.controller_messages.specs.declared.refusal.Refusal.{Refusal}
use Rattle.controller_messages.specs.Refusal.{refusal_of}
use Rattle.end_laws.specs.hearing.Hearing.{comes}
use Rattle.both_ends.proofs.ExchangeReported.{IsGood, noted_at, reported_at}
use Rattle.both_ends.proofs.ExchangeLists.{holds_if}

-- ---- no alarm is heard

abbrev IsUnreported : Heard → Type 0
IsUnreported heard = reported_at heard ≡ None

abbrev IsUnnoted : controller.Heard → Type 0
IsUnnoted heard = noted_at heard ≡ None

none_of_both : {A : Type 0} (P : A → Type 0) (b c : Bool) (x y : A) → (b ≡ false) ⊎ (c ≡ false) → P y → P (cond (b && c) x y)
none_of_both P true c x y (inl e) p = absurd cc
none_of_both P true true x y (inr e) p = absurd cc
none_of_both P true false x y (inr e) p = p
none_of_both P false c x y e p = p

-- ---- at the device

unreported_request : (source : Mac) (read : Result Asked DcpFault) → IsUnreported (heard_request source read)
unreported_request source (Ok request) = refl
unreported_request source (Err fault) = refl

-- a frame whose data is not for this device, or which is not an alarm frame, says nothing of alarms to it
unreported_content : (identity : Identity) (destination source : Mac) (frame_id : ℕ) (body : List ℕ) → (is_own identity destination ≡ false) ⊎ (is_alarm frame_id ≡ false)
    → IsUnreported (heard_content identity destination source (RealTime frame_id body))
unreported_content identity destination source frame_id body e =
    holds_if IsUnreported (is_taken identity destination frame_id) (heard_request source (request_of frame_id body)) _ (unreported_request source (request_of frame_id body))
    (none_of_both IsUnreported (is_own identity destination) (is_alarm frame_id) (heard_alarm source frame_id body (message_of body)) _ e
    (holds_if IsUnreported (is_own identity destination && is_cyclic frame_id) (Cyclic source frame_id body) Elsewhere refl refl))

pub data_unreported : (identity : Identity) (destination source : Mac) (tag : Option ℕ) (frame_id : ℕ) (body more : List ℕ)
    → frame_of (frame_bytes (carrying destination source tag (RealTime frame_id body))) ≡ Ok (carrying destination source tag (RealTime frame_id more))
    → (is_own identity destination ≡ false) ⊎ (is_alarm frame_id ≡ false)
    → reported_at (heard_of identity (comes (frame_bytes (carrying destination source tag (RealTime frame_id body))))) ≡ None
unfolding heard_of
data_unreported identity destination source tag frame_id body more reads e =
    subst (λ (read : Result Meaning FrameFault). IsUnreported (heard_frame identity read)) (sym reads) (unreported_content identity destination source frame_id more e)

-- ---- at the controller

unnoted_answer : (source : Mac) (read : Result Answered DcpFault) → IsUnnoted (heard_answer source read)
unnoted_answer source (Ok answer) = refl
unnoted_answer source (Err fault) = refl

unnoted_real_time : (source : Mac) (frame_id : ℕ) (body : List ℕ) → is_alarm frame_id ≡ false → IsUnnoted (heard_real_time source frame_id body)
unfolding heard_real_time
unnoted_real_time source frame_id body e =
    holds_if IsUnnoted (is_cyclic frame_id) (controller.Cyclic source frame_id body) _ refl
    (subst (λ (b : Bool). IsUnnoted (cond b (controller.heard_alarm source frame_id (alarm_of body))
    (cond (frame_id == 0xFEFD) (heard_answer source (answer_of frame_id body)) (cond (frame_id == 0xFEFF) (heard_answer source (answer_of frame_id body)) controller.Nothing)))) (sym e)
    (holds_if IsUnnoted (frame_id == 0xFEFD) (heard_answer source (answer_of frame_id body)) _ (unnoted_answer source (answer_of frame_id body))
    (holds_if IsUnnoted (frame_id == 0xFEFF) (heard_answer source (answer_of frame_id body)) controller.Nothing (unnoted_answer source (answer_of frame_id body)) refl)))

unnoted_frame : (mine : Controller) (destination source : Mac) (tag : Option ℕ) (frame_id : ℕ) (more : List ℕ) (b : Bool) → (b ≡ false) ⊎ (is_alarm frame_id ≡ false)
    → IsUnnoted (cond b (heard_real_time source frame_id more) controller.Nothing)
unnoted_frame mine destination source tag frame_id more true (inl e) = absurd cc
unnoted_frame mine destination source tag frame_id more true (inr e) = unnoted_real_time source frame_id more e
unnoted_frame mine destination source tag frame_id more false e = refl

pub data_unnoted : (mine : Controller) (destination source : Mac) (tag : Option ℕ) (frame_id : ℕ) (body more : List ℕ)
    → frame_of (frame_bytes (carrying destination source tag (RealTime frame_id body))) ≡ Ok (carrying destination source tag (RealTime frame_id more))
    → (pointwise nat_eq destination.octets mine.mac.octets ≡ false) ⊎ (is_alarm frame_id ≡ false)
    → noted_at (controller.heard_of mine (frame_bytes (carrying destination source tag (RealTime frame_id body)))) ≡ None
unfolding controller.heard_of
data_unnoted mine destination source tag frame_id body more reads e =
    subst (λ (read : Result Meaning FrameFault). IsUnnoted (heard_read mine read)) (sym reads)
    (unnoted_frame mine destination source tag frame_id more (pointwise nat_eq destination.octets mine.mac.octets) e)

-- ---- contents that are not real-time data

unnoted_call : (caller : Caller) (call : Call) (blocks : Option (List ℕ)) → IsUnnoted (heard_call caller call blocks)
unnoted_call caller call (Some blocks) = refl
unnoted_call caller call None = refl

unnoted_refusal : (read : Result Refusal RpcFault) → IsUnnoted (heard_refusal read)
unnoted_refusal (Ok refusal) = refl
unnoted_refusal (Err fault) = refl

unnoted_response : (read : Result Response RpcFault) (refusal : Result Refusal RpcFault) → IsUnnoted (heard_response read refusal)
unnoted_response (Ok response) refusal = refl
unnoted_response (Err fault) refusal = unnoted_refusal refusal

unnoted_first : (caller : Caller) (call : Result Call RpcFault) (response : Result Response RpcFault) (refusal : Result Refusal RpcFault)
    → IsUnnoted (heard_first caller call response refusal)
unnoted_first caller (Ok call) response refusal = unnoted_call caller call call.blocks
unnoted_first caller (Err fault) response refusal = unnoted_response response refusal

unnoted_body : (caller : Caller) (body : List ℕ) → IsUnnoted (heard_body caller body)
unfolding heard_body
unnoted_body caller body = unnoted_first caller (call_of controllers body) (response_of body) (refusal_of body)

abbrev pub IsNoData : Content → Type 0
IsNoData (RealTime frame_id body) = ⊥
IsNoData (ArpPacket packet) = Unit {0}
IsNoData (UdpDatagram from to body) = Unit {0}

other_unreported : (identity : Identity) (destination source : Mac) (content : Content) → IsNoData content → IsUnreported (heard_content identity destination source content)
other_unreported identity destination source (RealTime frame_id body) none = absurd none
other_unreported identity destination source (ArpPacket packet) none =
    holds_if IsUnreported (is_own identity destination || pointwise nat_eq destination.octets broadcast) (Resolves source packet) Elsewhere refl refl
other_unreported identity destination source (UdpDatagram from to body) none =
    holds_if IsUnreported (is_own identity destination && to.port == 34964) (Reported (record { mac = source; endpoint = from }) to.address (said_by body)) Elsewhere refl refl

other_unnoted : (address : List ℕ) (source : Mac) (content : Content) → IsNoData content → IsUnnoted (controller.heard_content address source content)
other_unnoted address source (RealTime frame_id body) none = absurd none
other_unnoted address source (ArpPacket packet) none = refl
other_unnoted address source (UdpDatagram from to body) none =
    holds_if IsUnnoted (is_to address to) (heard_body (record { mac = source; endpoint = from }) body) controller.Nothing (unnoted_body _ body) refl

-- packets and datagrams say nothing of alarms to either end
pub packet_unreported : (identity : Identity) (octets : List ℕ) (meaning : Meaning) → frame_of octets ≡ Ok meaning → IsNoData meaning.content → reported_at (heard_of identity (comes octets)) ≡ None
unfolding heard_of
packet_unreported identity octets meaning reads none =
    subst (λ (read : Result Meaning FrameFault). IsUnreported (heard_frame identity read)) (sym reads) (other_unreported identity meaning.destination meaning.source meaning.content none)

pub packet_unnoted : (mine : Controller) (octets : List ℕ) (meaning : Meaning) → frame_of octets ≡ Ok meaning → IsNoData meaning.content → noted_at (controller.heard_of mine octets) ≡ None
unfolding controller.heard_of
packet_unnoted mine octets meaning reads none =
    subst (λ (read : Result Meaning FrameFault). IsUnnoted (heard_read mine read)) (sym reads)
    (holds_if IsUnnoted (pointwise nat_eq meaning.destination.octets mine.mac.octets) (controller.heard_content mine.address meaning.source meaning.content) controller.Nothing
    (other_unnoted mine.address meaning.source meaning.content none) refl)

-- ---- what has its size at the controller

good_answer : (source : Mac) (read : Result Answered DcpFault) → IsMac source → IsGood source (heard_answer source read)
good_answer source (Ok answer) six = (refl, six)
good_answer source (Err fault) six = tt

good_real_time : (source : Mac) (frame_id : ℕ) (body : List ℕ) → is_alarm frame_id ≡ false → IsMac source → IsGood source (heard_real_time source frame_id body)
unfolding heard_real_time
good_real_time source frame_id body e six =
    holds_if (IsGood source) (is_cyclic frame_id) (controller.Cyclic source frame_id body) _ tt
    (subst (λ (b : Bool). IsGood source (cond b (controller.heard_alarm source frame_id (alarm_of body))
    (cond (frame_id == 0xFEFD) (heard_answer source (answer_of frame_id body)) (cond (frame_id == 0xFEFF) (heard_answer source (answer_of frame_id body)) controller.Nothing)))) (sym e)
    (holds_if (IsGood source) (frame_id == 0xFEFD) (heard_answer source (answer_of frame_id body)) _ (good_answer source (answer_of frame_id body) six)
    (holds_if (IsGood source) (frame_id == 0xFEFF) (heard_answer source (answer_of frame_id body)) controller.Nothing (good_answer source (answer_of frame_id body) six) tt)))

pub data_good : (mine : Controller) (destination source : Mac) (tag : Option ℕ) (frame_id : ℕ) (body more : List ℕ)
    → frame_of (frame_bytes (carrying destination source tag (RealTime frame_id body))) ≡ Ok (carrying destination source tag (RealTime frame_id more))
    → is_alarm frame_id ≡ false → IsMac source → IsGood source (controller.heard_of mine (frame_bytes (carrying destination source tag (RealTime frame_id body))))
unfolding controller.heard_of
data_good mine destination source tag frame_id body more reads e six =
    subst (λ (read : Result Meaning FrameFault). IsGood source (heard_read mine read)) (sym reads)
    (holds_if (IsGood source) (pointwise nat_eq destination.octets mine.mac.octets) (heard_real_time source frame_id more) controller.Nothing (good_real_time source frame_id more e six) tt)

-- the controller does not hear real-time data to another station
pub data_unheard : (mine : Controller) (destination source : Mac) (tag : Option ℕ) (frame_id : ℕ) (body more : List ℕ)
    → frame_of (frame_bytes (carrying destination source tag (RealTime frame_id body))) ≡ Ok (carrying destination source tag (RealTime frame_id more))
    → pointwise nat_eq destination.octets mine.mac.octets ≡ false → controller.heard_of mine (frame_bytes (carrying destination source tag (RealTime frame_id body))) ≡ controller.Nothing
unfolding controller.heard_of
data_unheard mine destination source tag frame_id body more reads other =
    ap (λ (read : Result Meaning FrameFault). heard_read mine read) reads ∙ ap (λ (b : Bool). cond b (heard_real_time source frame_id more) controller.Nothing) other

pub packet_good : (mine : Controller) (mac : Mac) (octets : List ℕ) (destination source : Mac) (tag : Option ℕ) (packet : Arp)
    → frame_of octets ≡ Ok (carrying destination source tag (ArpPacket packet)) → IsGood mac (controller.heard_of mine octets)
unfolding controller.heard_of
packet_good mine mac octets destination source tag packet reads =
    subst (λ (read : Result Meaning FrameFault). IsGood mac (heard_read mine read)) (sym reads)
    (holds_if (IsGood mac) (pointwise nat_eq destination.octets mine.mac.octets) controller.Nothing controller.Nothing tt tt)

good_refusal : (mac : Mac) (read : Result Refusal RpcFault) → IsGood mac (heard_refusal read)
good_refusal mac (Ok refusal) = tt
good_refusal mac (Err fault) = tt

good_response : (mac : Mac) (read : Result Response RpcFault) (refusal : Result Refusal RpcFault) → IsGood mac (heard_response read refusal)
good_response mac (Ok response) refusal = tt
good_response mac (Err fault) refusal = good_refusal mac refusal

good_first : (mac : Mac) (caller : Caller) (call : Result Call RpcFault) (response : Result Response RpcFault) (refusal : Result Refusal RpcFault) → IsErr call
    → IsGood mac (heard_first caller call response refusal)
good_first mac caller (Ok call) response refusal none = absurd cc
good_first mac caller (Err fault) response refusal none = good_response mac response refusal

good_body : (mac : Mac) (caller : Caller) (body : List ℕ) → IsErr (call_of controllers body) → IsGood mac (heard_body caller body)
unfolding heard_body
good_body mac caller body none = good_first mac caller (call_of controllers body) (response_of body) (refusal_of body) none

-- a datagram that is not a call
pub datagram_good : (mine : Controller) (mac : Mac) (octets : List ℕ) (destination source : Mac) (tag : Option ℕ) (from to : Endpoint) (body : List ℕ)
    → frame_of octets ≡ Ok (carrying destination source tag (UdpDatagram from to body)) → IsErr (call_of controllers body) → IsGood mac (controller.heard_of mine octets)
unfolding controller.heard_of
datagram_good mine mac octets destination source tag from to body reads none =
    subst (λ (read : Result Meaning FrameFault). IsGood mac (heard_read mine read)) (sym reads)
    (holds_if (IsGood mac) (pointwise nat_eq destination.octets mine.mac.octets) (cond (is_to mine.address to) (heard_body (record { mac = source; endpoint = from }) body) controller.Nothing) controller.Nothing
    (holds_if (IsGood mac) (is_to mine.address to) (heard_body (record { mac = source; endpoint = from }) body) controller.Nothing (good_body mac _ body none) tt) tt)
