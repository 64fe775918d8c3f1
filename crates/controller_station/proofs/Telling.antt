-- The DCP station beside a controller: what it answers, the controller drops, and its services do not answer.
use Rattle.std.proofs.Common.{◌≡◌, ◌≢◌, ◌⊎◌, ◌≤◌, inl, inr, ℕ, Bool, true, false, List, [], ◌∷◌, length, Option, Some, None, Result, Ok, Err, refl, sym, ap, subst, ◌∙◌, arith}
use Rattle.std.specs.Prelude.{◌==◌, ◌&&◌, ◌||◌, nat_eq, if◌then◌else◌}
use Rattle.std.specs.Cmp.Lexicographic.{pointwise}
use Rattle.std.specs.List.{cons_option}
use Rattle.std.proofs.lemmas.Bool.{and_parts, eqb-true}
use Rattle.pn_values.specs.declared.mac.Mac.{Mac}
use Rattle.wire.specs.Codec.{Codec}
use Rattle.wire.specs.Formats.{framed, number, raw, then_by, unchecked, ◌⨾◌}
use Rattle.wire.specs.Whole.{refused}
use Rattle.wire.proofs.Fields.{bind_ok}
use Rattle.frame_codec.specs.declared.arp.Arp.{Arp}
use Rattle.frame_codec.specs.declared.fault.FrameFault.{FrameFault}
use Rattle.frame_codec.specs.Frame.{frame_of}
use Rattle.frame_codec.specs.FrameId.{is_cyclic}
use Rattle.frame_codec.specs.Meaning.{Meaning, Content, RealTime, ArpPacket, UdpDatagram}
use Rattle.dcp_core.specs.declared.request.DcpFault.{DcpFault}
use Rattle.dcp_core.specs.declared.request.DcpFault.TheVariants as fault
use Rattle.dcp_core.specs.declared.request.Service.{Service}
use Rattle.dcp_core.specs.declared.request.Service.TheVariants.{Get, Set, Identify}
use Rattle.dcp_core.specs.Answer.{answer, answer_data, answer_header_and_data, answer_of, answer_to as answer_under, answered_service}
use Rattle.dcp_core.specs.Format.{data_of, header_and_data, is_for, request, service_of}
use Rattle.dcp_core.specs.Reading.{request_of}
use Rattle.dcp_core.specs.Request.{Asked, AskedBlock}
use Rattle.dcp_core.specs.Response.{Answered, AnsweredBlock}
use Rattle.plans.specs.Identity.{OwnIdentity}
use Rattle.plans.specs.declared.parts.Parts.{Parts}
use Rattle.controller_dcp.specs.Station.{answer_by, answer_to, is_aimed, is_another, is_own, identify_multicast, to_content, to_frame, to_read, to_real_time}
use Rattle.services.specs.Answer.{answer_to as ip_answer_to}
use Rattle.services.specs.State.{State}
use Rattle.controller_messages.specs.Heard.{Heard, Nothing, heard_answer, heard_content, heard_of, heard_read, heard_real_time}
use Rattle.controller_core.specs.Quiet.{IsRealTime}
use Rattle.controller_station.proofs.RealTime.{real_time_unanswered}
use Rattle.controller_station.specs.Served.{told_frame}

-- ---- what a frame that is answered is

-- A frame that is answered: real-time data that asks the controller, with a request that can be read.
record IsTold (plan : Parts) (octets : List ℕ) : Type 0 where
  meaning : Meaning
  frame_id : ℕ
  body : List ℕ
  asked : Asked
  read : frame_of octets ≡ Ok meaning
  content : meaning.content ≡ RealTime frame_id body
  aimed : is_aimed plan meaning.destination frame_id ≡ true
  heard : request_of frame_id body ≡ Ok asked

none_some : {A : Type 0} (x : A) → None ≡ Some x → ⊥
none_some x e = cc

err_not : {F A : Type 0} (why : F) (value : A) → Err why ≡ Ok value → ⊥
err_not why value e = cc

not_true : false ≡ true → ⊥
not_true e = cc

module _ (plan : Parts) (own : OwnIdentity) (octets frame : List ℕ) where
  by_request : (meaning : Meaning) (frame_id : ℕ) (body : List ℕ) (found : Result Asked DcpFault) → frame_of octets ≡ Ok meaning → meaning.content ≡ RealTime frame_id body
      → is_aimed plan meaning.destination frame_id ≡ true → request_of frame_id body ≡ found → to_read plan own meaning.source found ≡ Some frame → IsTold plan octets
  by_request meaning frame_id body (Err fault) read content aimed is told = absurd (none_some frame told)
  by_request meaning frame_id body (Ok asked) read content aimed is told = record {
    meaning = meaning;
    frame_id = frame_id;
    body = body;
    asked = asked;
    read = read;
    content = content;
    aimed = aimed;
    heard = is;
  }

  by_aim : (meaning : Meaning) (frame_id : ℕ) (body : List ℕ) (b : Bool) → frame_of octets ≡ Ok meaning → meaning.content ≡ RealTime frame_id body
      → (is_aimed plan meaning.destination frame_id && is_another plan meaning.source) ≡ b
      → (if b then to_read plan own meaning.source (request_of frame_id body) else None) ≡ Some frame → IsTold plan octets
  by_aim meaning frame_id body false read content aim told = absurd (none_some frame told)
  by_aim meaning frame_id body true read content aim told =
      by_request meaning frame_id body (request_of frame_id body) read content
      (and_parts (is_aimed plan meaning.destination frame_id) (is_another plan meaning.source) aim).0 refl told

  by_content : (meaning : Meaning) (content : Content) → frame_of octets ≡ Ok meaning → meaning.content ≡ content → to_content plan own meaning content ≡ Some frame
      → IsTold plan octets
  by_content meaning (RealTime frame_id body) read is told =
      by_aim meaning frame_id body (is_aimed plan meaning.destination frame_id && is_another plan meaning.source) read is refl told
  by_content meaning (ArpPacket packet) read is told = absurd (none_some frame told)
  by_content meaning (UdpDatagram from to body) read is told = absurd (none_some frame told)

  by_frame : (found : Result Meaning FrameFault) → frame_of octets ≡ found → to_frame plan own found ≡ Some frame → IsTold plan octets
  by_frame (Err fault) is told = absurd (none_some frame told)
  by_frame (Ok meaning) is told = by_content meaning meaning.content is refl told

by_identity : (plan : Parts) (identity : Option OwnIdentity) (octets frame : List ℕ) → answer_by plan identity octets ≡ Some frame → IsTold plan octets
by_identity plan None octets frame told = absurd (none_some frame told)
by_identity plan (Some own) octets frame told = by_frame plan own octets frame (frame_of octets) refl told

is_told : (plan : Parts) (octets frame : List ℕ) → answer_to plan octets ≡ Some frame → IsTold plan octets
unfolding answer_to
is_told plan octets frame told = by_identity plan plan.identity octets frame told

-- ---- a request is no answer

ok_same : {F A : Type 0} (a b : A) (read : Result A F) → read ≡ Ok a → read ≡ Ok b → a ≡ b
ok_same a b read one other = cc

-- ServiceType of a request is 0.
type_of_one : (service : Service) (frame_id id type : ℕ) → is_for service frame_id id type ≡ true → type ≡ 0
type_of_one Get frame_id id type is = eqb-true type 0 (and_parts ((frame_id == 0xFEFD) && (id == 3)) (type == 0) is).1
type_of_one Set frame_id id type is = eqb-true type 0 (and_parts ((frame_id == 0xFEFD) && (id == 4)) (type == 0) is).1
type_of_one Identify frame_id id type is = eqb-true type 0 (and_parts ((frame_id == 0xFEFE) && (id == 5)) (type == 0) is).1

type_by : (frame_id id type : ℕ) (get set identify : Bool) (service : Service) → is_for Get frame_id id type ≡ get → is_for Set frame_id id type ≡ set
    → is_for Identify frame_id id type ≡ identify
    → (if get then Ok Get else (if set then Ok Set else (if identify then Ok Identify else Err fault.Service))) ≡ Ok service → type ≡ 0
type_by frame_id id type true set identify service g s i e = type_of_one Get frame_id id type g
type_by frame_id id type false true identify service g s i e = type_of_one Set frame_id id type s
type_by frame_id id type false false true service g s i e = type_of_one Identify frame_id id type i
type_by frame_id id type false false false service g s i e = absurd (err_not fault.Service service e)

type_zero : (frame_id id type : ℕ) (service : Service) → service_of frame_id id type ≡ Ok service → type ≡ 0
type_zero frame_id id type service e =
    type_by frame_id id type (is_for Get frame_id id type) (is_for Set frame_id id type) (is_for Identify frame_id id type) service refl refl refl e

-- What is cut by a length, and then refused, is not read.
framed_refused : {A : Type 0} (why short : DcpFault) (lengths : Codec DcpFault ℕ) (bytes : List ℕ) (value : A × List ℕ)
    → (framed lengths short (refused why)).read bytes ≡ Ok value → ⊥
framed_refused why short lengths bytes value e =
    let a = bind_ok (lengths.read bytes) _ value e in
    let b = bind_ok ((raw short a.0.0).read a.0.1) _ value a.2 in
    err_not why value b.2

-- The head of a request and of an answer: ServiceID, ServiceType, Xid and ResponseDelay.
abbrev Head : Type 0
Head = ℕ × (ℕ × (ℕ × Unit {0}))

abbrev heads : Codec DcpFault Head
heads = number fault.Length 1 ⨾ number fault.Length 1 ⨾ number fault.Length 4 ⨾ unchecked fault.Length 2 0

abbrev request_tail : ℕ → Head → Codec DcpFault (Service × List AskedBlock)
request_tail frame_id head = framed (number fault.Length 2) fault.Length (data_of (service_of frame_id head.0 head.1.0))

abbrev answer_tail : ℕ → Head → Codec DcpFault ((Service × Bool) × List AnsweredBlock)
answer_tail frame_id head = framed (number fault.Length 2) fault.Length (answer_data (answer_under frame_id head.0 head.1.0))

-- A head whose ServiceType is 0.
record IsHeaded (bytes : List ℕ) : Type 0 where
  front : Head × List ℕ
  read : heads.read bytes ≡ Ok front
  type : front.0.1.0 ≡ 0

requested : (frame_id id type : ℕ) (rest : List ℕ) (found : Result Service DcpFault) (value : (Service × List AskedBlock) × List ℕ) → service_of frame_id id type ≡ found
    → (framed (number fault.Length 2) fault.Length (data_of found)).read rest ≡ Ok value → type ≡ 0
unfolding data_of
requested frame_id id type rest (Ok service) value is e = type_zero frame_id id type service is
requested frame_id id type rest (Err why) value is e = absurd (framed_refused why fault.Length (number fault.Length 2) rest value e)

headed : (frame_id : ℕ) (bytes : List ℕ) (asked : Asked) → request_of frame_id bytes ≡ Ok asked → IsHeaded bytes
unfolding request_of request header_and_data
headed frame_id bytes asked e =
    let a = bind_ok ((header_and_data frame_id).read bytes) _ asked e in
    let b = bind_ok ((then_by heads (request_tail frame_id)).read bytes) _ a.0 a.1 in
    let c = bind_ok (heads.read bytes) _ b.0 b.1 in
    let d = bind_ok ((request_tail frame_id c.0.0).read c.0.1) _ b.0 c.2 in
    record {
      front = c.0;
      read = c.1;
      type = requested frame_id c.0.0.0 c.0.0.1.0 c.0.1 (service_of frame_id c.0.0.0 c.0.0.1.0) d.0 refl d.1;
    }

-- ServiceType 0 is that of no answer.
unsupported : (frame_id id type : ℕ) (said : Service × Bool) → type ≡ 0 → answer_under frame_id id type ≡ Ok said → ⊥
unsupported frame_id id type said zero is =
    let here : answer_under frame_id id 0 ≡ Ok said = subst (λ (t : ℕ). answer_under frame_id id t ≡ Ok said) zero is in
    let a = bind_ok (answered_service frame_id id) _ said here in
    err_not fault.Service said a.2

unanswered : (frame_id id type : ℕ) (rest : List ℕ) (found : Result (Service × Bool) DcpFault) (value : ((Service × Bool) × List AnsweredBlock) × List ℕ) → type ≡ 0
    → answer_under frame_id id type ≡ found → (framed (number fault.Length 2) fault.Length (answer_data found)).read rest ≡ Ok value → ⊥
unfolding answer_data
unanswered frame_id id type rest (Ok said) value zero is e = unsupported frame_id id type said zero is
unanswered frame_id id type rest (Err why) value zero is e = framed_refused why fault.Length (number fault.Length 2) rest value e

no_answer : (frame_id : ℕ) (bytes : List ℕ) (asked : Asked) (said : Answered) → request_of frame_id bytes ≡ Ok asked → answer_of frame_id bytes ≡ Ok said → ⊥
unfolding answer_of answer answer_header_and_data
no_answer frame_id bytes asked said e f =
    let h = headed frame_id bytes asked e in
    let a = bind_ok ((answer_header_and_data frame_id).read bytes) _ said f in
    let b = bind_ok ((then_by heads (answer_tail frame_id)).read bytes) _ a.0 a.1 in
    let c = bind_ok (heads.read bytes) _ b.0 b.1 in
    let d = bind_ok ((answer_tail frame_id c.0.0).read c.0.1) _ b.0 c.2 in
    let zero : c.0.0.1.0 ≡ 0 = ap (λ (front : Head × List ℕ). front.0.1.0) (ok_same c.0 h.front (heads.read bytes) c.1 h.read) ∙ h.type in
    unanswered frame_id c.0.0.0 c.0.0.1.0 c.0.1 (answer_under frame_id c.0.0.0 c.0.0.1.0) d.0 zero refl d.1

-- ---- the controller drops it

dropped_answer : (source : Mac) (frame_id : ℕ) (body : List ℕ) (asked : Asked) (found : Result Answered DcpFault) → request_of frame_id body ≡ Ok asked
    → answer_of frame_id body ≡ found → heard_answer source found ≡ Nothing
dropped_answer source frame_id body asked (Ok said) e f = absurd (no_answer frame_id body asked said e f)
dropped_answer source frame_id body asked (Err why) e f = refl

aimed_by : (plan : Parts) (destination : Mac) (frame_id : ℕ) (identify getting : Bool) → (frame_id == 0xFEFE) ≡ identify → (frame_id == 0xFEFD) ≡ getting
    → (if identify then is_own plan destination || pointwise nat_eq destination.octets identify_multicast else (if getting then is_own plan destination else false)) ≡ true
    → (frame_id ≡ 0xFEFE) ⊎ (frame_id ≡ 0xFEFD)
aimed_by plan destination frame_id true getting i g e = inl (eqb-true frame_id 0xFEFE i)
aimed_by plan destination frame_id false true i g e = inr (eqb-true frame_id 0xFEFD g)
aimed_by plan destination frame_id false false i g e = absurd (not_true e)

-- A frame that asks the controller has one of two FrameIDs.
aimed_under : (plan : Parts) (destination : Mac) (frame_id : ℕ) → is_aimed plan destination frame_id ≡ true → (frame_id ≡ 0xFEFE) ⊎ (frame_id ≡ 0xFEFD)
aimed_under plan destination frame_id e = aimed_by plan destination frame_id (frame_id == 0xFEFE) (frame_id == 0xFEFD) refl refl e

identify_dropped : (source : Mac) (body : List ℕ) → heard_real_time source 0xFEFE body ≡ Nothing
unfolding heard_real_time
identify_dropped source body = refl

getting_dropped : (source : Mac) (body : List ℕ) (asked : Asked) → request_of 0xFEFD body ≡ Ok asked → heard_real_time source 0xFEFD body ≡ Nothing
unfolding heard_real_time
getting_dropped source body asked e = dropped_answer source 0xFEFD body asked (answer_of 0xFEFD body) e refl

real_time_dropped : (source : Mac) (frame_id : ℕ) (body : List ℕ) (asked : Asked) → (frame_id ≡ 0xFEFE) ⊎ (frame_id ≡ 0xFEFD) → request_of frame_id body ≡ Ok asked
    → heard_real_time source frame_id body ≡ Nothing
real_time_dropped source frame_id body asked (inl identify) e = subst (λ (id : ℕ). heard_real_time source id body ≡ Nothing) (sym identify) (identify_dropped source body)
real_time_dropped source frame_id body asked (inr getting) e =
    subst (λ (id : ℕ). heard_real_time source id body ≡ Nothing) (sym getting)
    (getting_dropped source body asked (subst (λ (id : ℕ). request_of id body ≡ Ok asked) getting e))

own_or_nothing : (b : Bool) (heard : Heard) → heard ≡ Nothing → (if b then heard else Nothing) ≡ Nothing
own_or_nothing true heard e = e
own_or_nothing false heard e = refl

-- A request that is answered is dropped by the controller.
pub told_unheard : (plan : Parts) (octets frame : List ℕ) → answer_to plan octets ≡ Some frame → heard_of plan.controller octets ≡ Nothing
unfolding heard_of
told_unheard plan octets frame told =
    let it = is_told plan octets frame told in
    let none = real_time_dropped it.meaning.source it.frame_id it.body it.asked (aimed_under plan it.meaning.destination it.frame_id it.aimed) it.heard in
    ap (heard_read plan.controller) it.read
    ∙ own_or_nothing (pointwise nat_eq it.meaning.destination.octets plan.controller.mac.octets) (heard_content plan.controller.address it.meaning.source it.meaning.content)
    (ap (heard_content plan.controller.address it.meaning.source) it.content ∙ none)

-- Nor do its services answer it.
pub told_unanswered : (plan : Parts) (state : State) (octets frame : List ℕ) → answer_to plan octets ≡ Some frame → ip_answer_to state octets ≡ None
told_unanswered plan state octets frame told =
    let it = is_told plan octets frame told in
    real_time_unanswered state octets it.meaning it.frame_id it.body it.read it.content

-- ---- frames that are not answered

not_told : (plan : Parts) (octets : List ℕ) (found : Option (List ℕ)) → (IsTold plan octets → ⊥) → answer_to plan octets ≡ found → answer_to plan octets ≡ None
not_told plan octets None not is = is
not_told plan octets (Some frame) not is = absurd (not (is_told plan octets frame is))

cyclic_not : (frame_id : ℕ) → is_cyclic frame_id ≡ true → (frame_id ≡ 0xFEFE) ⊎ (frame_id ≡ 0xFEFD) → ⊥
cyclic_not frame_id cyclic (inl identify) = not_true (subst (λ (id : ℕ). is_cyclic id ≡ true) identify cyclic)
cyclic_not frame_id cyclic (inr getting) = not_true (subst (λ (id : ℕ). is_cyclic id ≡ true) getting cyclic)

abbrev id_of : Content → ℕ
id_of (RealTime frame_id body) = frame_id
id_of (ArpPacket packet) = 0
id_of (UdpDatagram from to body) = 0

-- A cyclic frame is not answered.
pub cyclic_untold : (plan : Parts) (octets : List ℕ) → IsRealTime octets → answer_to plan octets ≡ None
cyclic_untold plan octets real = not_told plan octets (answer_to plan octets) (λ it.
    let same : real.meaning ≡ it.meaning = ok_same real.meaning it.meaning (frame_of octets) real.read it.read in
    let id : real.frame_id ≡ it.frame_id = ap id_of (sym real.content ∙ ap (λ (m : Meaning). m.content) same ∙ it.content) in
    cyclic_not it.frame_id (subst (λ (n : ℕ). is_cyclic n ≡ true) id real.cyclic) (aimed_under plan it.meaning.destination it.frame_id it.aimed)) refl

arp_not : (packet : Arp) (frame_id : ℕ) (body : List ℕ) → ArpPacket packet ≡ RealTime frame_id body → ⊥
arp_not packet frame_id body e = cc

-- A packet of ARP is not answered.
pub arp_untold : (plan : Parts) (octets : List ℕ) (meaning : Meaning) (packet : Arp) → frame_of octets ≡ Ok meaning → meaning.content ≡ ArpPacket packet → answer_to plan octets ≡ None
arp_untold plan octets meaning packet read content = not_told plan octets (answer_to plan octets) (λ it.
    arp_not packet it.frame_id it.body (sym content ∙ ap (λ (m : Meaning). m.content) (ok_same meaning it.meaning (frame_of octets) read it.read) ∙ it.content)) refl

-- ---- what is sent beside

-- If nothing is answered, what is sent beside is what the services send.
pub untold_same : (plan : Parts) (octets : List ℕ) (controller services : List (List ℕ)) → answer_to plan octets ≡ None → told_frame plan octets controller services ≡ services
untold_same plan octets [] [] none = ap (λ (found : Option (List ℕ)). cons_option found []) none
untold_same plan octets [] (frame ∷ frames) none = refl
untold_same plan octets (frame ∷ frames) services none = refl

pub few_told : (plan : Parts) (octets : List ℕ) (controller services : List (List ℕ)) → length services ≤ 2 → length (told_frame plan octets controller services) ≤ 2
few_told plan octets [] [] few = by (answer_to plan octets)
  where
    by : (found : Option (List ℕ)) → length (cons_option found []) ≤ 2
    by None = omega arith
    by (Some frame) = omega arith
few_told plan octets [] (frame ∷ frames) few = few
few_told plan octets (frame ∷ frames) services few = few

-- Frames that the services send are all that is sent beside.
pub told_by_services : (plan : Parts) (octets : List ℕ) (frames : List (List ℕ)) → length frames ≢ 0 → told_frame plan octets [] frames ≡ frames
told_by_services plan octets [] some = absurd (some refl)
told_by_services plan octets (frame ∷ frames) some = refl

pub told_after_none : (plan : Parts) (octets : List ℕ) (frames : List (List ℕ)) → frames ≡ [] → told_frame plan octets [] frames ≡ cons_option (answer_to plan octets) []
told_after_none plan octets frames none = rw none refl

-- After frames of the controller nothing is sent beside.
pub told_by_controller : (plan : Parts) (octets : List ℕ) (controller services : List (List ℕ)) → length controller ≢ 0 → told_frame plan octets controller services ≡ services
told_by_controller plan octets [] services some = absurd (some refl)
told_by_controller plan octets (frame ∷ frames) services some = refl
