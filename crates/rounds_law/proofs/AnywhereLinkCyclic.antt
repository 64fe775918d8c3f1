-- Which frames are cyclic frames to a controller, and what they have.
use Rattle.std.proofs.Common.{◌≡◌, ◌==◌, ◌&&◌, ◌++◌, ℕ, Bool, true, false, nat_eq, List, Option, Some, None, Result, Ok, Err, refl, sym, ap, subst, ◌∙◌}
use Rattle.std.specs.Prelude.{if◌then◌else◌}
use Rattle.std.specs.Cmp.Lexicographic.{pointwise, same_text}
use Rattle.pn_values.specs.declared.mac.Mac.{Mac}
use Rattle.frame_codec.specs.declared.fault.FrameFault.{FrameFault}
use Rattle.frame_codec.specs.declared.udp.Caller.{Caller}
use Rattle.frame_codec.specs.declared.udp.Endpoint.{Endpoint}
use Rattle.frame_codec.specs.FrameId.{is_alarm as is_alarm_id, is_cyclic}
use Rattle.frame_codec.specs.Frame.{frame_bytes, frame_of, padding_of}
use Rattle.frame_codec.specs.Meaning.{Meaning, RealTime, UdpDatagram}
use Rattle.frame_codec.specs.Sendable.{CanBeSent, carrying}
use Rattle.dcp_core.specs.declared.request.DcpFault.{DcpFault}
use Rattle.dcp_core.specs.Answer.{answer_of}
use Rattle.dcp_core.specs.Response.{Answered as Found}
use Rattle.rpc_core.specs.declared.fault.RpcFault.{RpcFault}
use Rattle.rpc_core.specs.declared.interface.Interface.TheVariants.{Controller as controllers}
use Rattle.rpc_core.specs.Call.{Asked as Call, call_of}
use Rattle.rpc_core.specs.Response.{Answered, response_of}
use Rattle.pn_alarms.specs.declared.fault.AlarmFault.{AlarmFault}
use Rattle.pn_alarms.specs.declared.pdu.Header.{Header}
use Rattle.diagnosis.specs.reports.Message.{ToController, alarm_of}
use Rattle.plans.specs.declared.parts.Controller.{Controller}
use Rattle.controller_messages.specs.declared.refusal.Refusal.{Refusal}
use Rattle.controller_messages.specs.Refusal.{refusal_of}
use Rattle.controller_messages.specs.Heard.{Heard, Cyclic, Nothing}
use Rattle.controller_messages.specs.Heard.{heard_alarm, heard_answer, heard_body, heard_call, heard_content, heard_first, heard_of}
use Rattle.controller_messages.specs.Heard.{heard_read, heard_real_time, heard_refusal, heard_response, is_to}
use Rattle.rounds_law.proofs.AnywhereLinkLaws.{ReadLaws}
use Rattle.rounds_law.proofs.Choices.{where_not, where_so}
-- ---- what is no cyclic frame to a controller

pub use Rattle.rounds_law.specs.Anywhere.{IsNoData}

pub not_data : (heard : Heard) (source : Mac) (frame_id : ℕ) (body : List ℕ) → IsNoData heard → heard ≡ Cyclic source frame_id body → ⊥
not_data heard source frame_id body none e = subst IsNoData e none

alarm_no_data : (source : Mac) (frame_id : ℕ) (read : Result (Header × ToController) AlarmFault) → IsNoData (heard_alarm source frame_id read)
alarm_no_data source frame_id (Ok x) = tt
alarm_no_data source frame_id (Err fault) = tt

answer_no_data : (source : Mac) (read : Result Found DcpFault) → IsNoData (heard_answer source read)
answer_no_data source (Ok answer) = tt
answer_no_data source (Err fault) = tt

other_no_data : (source : Mac) (frame_id : ℕ) (body : List ℕ) (alarm one other : Bool)
    → IsNoData (if alarm then heard_alarm source frame_id (alarm_of body)
    else if one then heard_answer source (answer_of frame_id body)
    else if other then heard_answer source (answer_of frame_id body) else Nothing)
other_no_data source frame_id body true one other = alarm_no_data source frame_id (alarm_of body)
other_no_data source frame_id body false true other = answer_no_data source (answer_of frame_id body)
other_no_data source frame_id body false false true = answer_no_data source (answer_of frame_id body)
other_no_data source frame_id body false false false = tt

real_time_no_data : (source : Mac) (frame_id : ℕ) (body : List ℕ) → is_cyclic frame_id ≡ false → IsNoData (heard_real_time source frame_id body)
unfolding heard_real_time
real_time_no_data source frame_id body acyclic =
    subst IsNoData (sym (where_not (is_cyclic frame_id) (Cyclic source frame_id body) _ acyclic))
    (other_no_data source frame_id body (is_alarm_id frame_id) (frame_id == 0xFEFD) (frame_id == 0xFEFF))

refusal_no_data : (read : Result Refusal RpcFault) → IsNoData (heard_refusal read)
refusal_no_data (Ok refusal) = tt
refusal_no_data (Err fault) = tt

response_no_data : (response : Result Answered RpcFault) (refusal : Result Refusal RpcFault) → IsNoData (heard_response response refusal)
response_no_data (Ok response) refusal = tt
response_no_data (Err fault) refusal = refusal_no_data refusal

call_no_data : (caller : Caller) (call : Call) (blocks : Option (List ℕ)) → IsNoData (heard_call caller call blocks)
call_no_data caller call (Some blocks) = tt
call_no_data caller call None = tt

first_no_data : (caller : Caller) (call : Result Call RpcFault) (response : Result Answered RpcFault) (refusal : Result Refusal RpcFault)
    → IsNoData (heard_first caller call response refusal)
first_no_data caller (Ok call) response refusal = call_no_data caller call call.blocks
first_no_data caller (Err fault) response refusal = response_no_data response refusal

body_no_data : (caller : Caller) (body : List ℕ) → IsNoData (heard_body caller body)
unfolding heard_body
body_no_data caller body = first_no_data caller (call_of controllers body) (response_of body) (refusal_of body)

datagram_no_data : (address : List ℕ) (source : Mac) (from to : Endpoint) (body : List ℕ) → IsNoData (heard_content address source (UdpDatagram from to body))
datagram_no_data address source from to body = by_to (is_to address to)
  where
    by_to : (here : Bool) → IsNoData (if here then heard_body (record { mac = source; endpoint = from }) body else Nothing)
    by_to true = body_no_data (record { mac = source; endpoint = from }) body
    by_to false = tt

-- ---- frames that can be sent

-- What a controller hears of a frame that is read as this.
abbrev pub read_here : Controller → Meaning → Heard
read_here mine meaning =
    if pointwise nat_eq meaning.destination.octets mine.mac.octets then heard_content mine.address meaning.source meaning.content else Nothing

pub is_read : (mine : Controller) (octets : List ℕ) (meaning : Meaning) → frame_of octets ≡ Ok meaning → heard_of mine octets ≡ read_here mine meaning
unfolding heard_of
is_read mine octets meaning e = ap (λ (r : Result Meaning FrameFault). heard_read mine r) e

here_no_data : (mine : Controller) (meaning : Meaning) → IsNoData (heard_content mine.address meaning.source meaning.content)
    → IsNoData (read_here mine meaning)
here_no_data mine meaning none = by_own (pointwise nat_eq meaning.destination.octets mine.mac.octets)
  where
    by_own : (own : Bool) → IsNoData (if own then heard_content mine.address meaning.source meaning.content else Nothing)
    by_own true = none
    by_own false = tt

module _ (laws : ReadLaws) (mine : Controller) where
  pub tagged_no_data : (destination source : Mac) (tag frame_id : ℕ) (body : List ℕ) → is_cyclic frame_id ≡ false
      → CanBeSent (carrying destination source (Some tag) (RealTime frame_id body))
      → IsNoData (heard_of mine (frame_bytes (carrying destination source (Some tag) (RealTime frame_id body))))
  tagged_no_data destination source tag frame_id body acyclic can =
      let padded = body ++ padding_of (carrying destination source (Some tag) (RealTime frame_id body)) in
      let meaning = carrying destination source (Some tag) (RealTime frame_id padded) in
      subst IsNoData (sym (is_read mine _ meaning (laws.real_time destination source (Some tag) frame_id body can)))
      (here_no_data mine meaning (real_time_no_data source frame_id padded acyclic))

  pub udp_no_data : (destination source : Mac) (from to : Endpoint) (body : List ℕ) → CanBeSent (carrying destination source None (UdpDatagram from to body))
      → IsNoData (heard_of mine (frame_bytes (carrying destination source None (UdpDatagram from to body))))
  udp_no_data destination source from to body can =
      let meaning = carrying destination source None (UdpDatagram from to body) in
      subst IsNoData (sym (is_read mine _ meaning (laws.udp destination source None from to body can)))
      (here_no_data mine meaning (datagram_no_data mine.address source from to body))

-- ---- a cyclic frame

-- A frame of this destination, source and FrameID.
pub record IsHeardFrom (mine : Controller) (destination source from : Mac) (sent_id frame_id : ℕ) : Type 0 where
  pub to : destination ≡ mine.mac
  pub sender : source ≡ from
  pub id : sent_id ≡ frame_id

pub same_mac : (one other : Mac) → pointwise nat_eq one.octets other.octets ≡ true → one ≡ other
same_mac one other e = ap (λ (octets : List ℕ). record { octets = octets }) (same_text one.octets other.octets (sym e))

-- The sender of a cyclic frame.
abbrev source_in : Mac → Heard → Mac
source_in other (Cyclic source frame_id body) = source
source_in other heard = other

-- The FrameID of a cyclic frame.
abbrev id_in : Heard → ℕ
id_in (Cyclic source frame_id body) = frame_id
id_in heard = 0

cyclic_from : (source from : Mac) (sent_id frame_id : ℕ) (body bytes : List ℕ) → (cyclic : Bool) → is_cyclic sent_id ≡ cyclic
    → heard_real_time source sent_id body ≡ Cyclic from frame_id bytes → (source ≡ from) × (sent_id ≡ frame_id)
unfolding heard_real_time
cyclic_from source from sent_id frame_id body bytes true is e =
    let heard = sym (where_so (is_cyclic sent_id) (Cyclic source sent_id body) _ is) ∙ e in
    (ap (source_in source) heard, ap id_in heard)
cyclic_from source from sent_id frame_id body bytes false is e =
    absurd (not_data (heard_real_time source sent_id body) from frame_id bytes (real_time_no_data source sent_id body is) e)

pub here_from : (mine : Controller) (destination source from : Mac) (sent_id frame_id : ℕ) (body bytes : List ℕ) (own : Bool)
    → pointwise nat_eq destination.octets mine.mac.octets ≡ own
    → (if own then heard_real_time source sent_id body else Nothing) ≡ Cyclic from frame_id bytes
    → IsHeardFrom mine destination source from sent_id frame_id
here_from mine destination source from sent_id frame_id body bytes true own e =
    let both = cyclic_from source from sent_id frame_id body bytes (is_cyclic sent_id) refl e in
    record { to = same_mac destination mine.mac own; sender = both.0; id = both.1 }
here_from mine destination source from sent_id frame_id body bytes false own e = absurd (not_data Nothing from frame_id bytes tt e)

pub and_true : (one other : Bool) → (one && other) ≡ true → (one ≡ true) × (other ≡ true)
and_true true true e = (refl, refl)
and_true true false e = absurd cc
and_true false other e = absurd cc
