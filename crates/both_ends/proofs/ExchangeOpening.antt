-- A controller with another address does not hear a frame in which a device hears a DCP request or an alarm.
use Rattle.std.proofs.Common.{◌≡◌, ◌⊎◌, inl, inr, ◌==◌, ◌&&◌, ◌||◌, ℕ, Bool, true, false, cond, List, Result, Ok, Err, refl, sym, ap, subst, ◌∙◌}
use Rattle.std.specs.Prelude.{nat_eq}
use Rattle.std.specs.Cmp.Lexicographic.{pointwise, same_text}
use Rattle.std.proofs.lemmas.Bool.{eqb-true}
use Rattle.pn_values.specs.declared.identity.Identity.{Identity}
use Rattle.pn_values.specs.declared.mac.Mac.{Mac}
use Rattle.frame_codec.specs.declared.fault.FrameFault.{FrameFault}
use Rattle.frame_codec.specs.FrameId.{is_alarm, is_cyclic}
use Rattle.frame_codec.specs.Frame.{frame_of}
use Rattle.frame_codec.specs.Meaning.{ArpPacket, Content, Meaning, RealTime, UdpDatagram}
use Rattle.dcp_core.specs.declared.request.DcpFault.{DcpFault}
use Rattle.dcp_core.specs.Reading.{request_of}
use Rattle.dcp_core.specs.Request.{Asked}
use Rattle.pn_alarms.specs.declared.fault.AlarmFault.{AlarmFault}
use Rattle.pn_alarms.specs.declared.pdu.Header.{Header}
use Rattle.pn_alarms.specs.Message.{ToDevice, message_of}
use Rattle.plans.specs.declared.parts.Controller.{Controller}
use Rattle.device_frames.specs.Heard.{Heard, Elsewhere, Asks, Resolves, Reported, Cyclic, Alarms, LowConfirms, LowReplies, broadcast, heard_alarm, heard_content, heard_frame, heard_of, heard_request, identify_multicast, is_own, is_taken, said_by}
use Rattle.controller_messages.specs.declared.setup.Setup.{Setup}
use Rattle.controller_messages.specs.Heard as controller
use Rattle.controller_messages.specs.Heard.{heard_real_time, heard_read}
use Rattle.end_laws.specs.hearing.Hearing.{comes}
use Rattle.both_ends.proofs.ExchangeHeardAlarm.{alarm_holds}
use Rattle.both_ends.proofs.ExchangeLists.{holds_if}

-- a DCP request is heard
abbrev IsAsking : Heard → Type 0
IsAsking (Asks source request) = Unit {0}
IsAsking other = ⊥

no_alarm : (source : Mac) (frame_id : ℕ) (body : List ℕ) (read : Result (Header × ToDevice) AlarmFault) → IsAsking (heard_alarm source frame_id body read) → ⊥
no_alarm = alarm_holds (λ (h : Heard). IsAsking h → ⊥) (λ source header message is. is) (λ source header message is. is) (λ source header message is. is) (λ is. is)

identify_heard : (source : Mac) (body : List ℕ) → heard_real_time source 65278 body ≡ controller.Nothing
unfolding heard_real_time
identify_heard source body = refl

either : (a b c d : Bool) → ((a && b) || (c && d)) ≡ true → (b ≡ true) ⊎ (c ≡ true)
either true true c d e = inl refl
either true false true d e = inr refl
either true false false d e = absurd cc
either false b true d e = inr refl
either false b false d e = absurd cc

-- the frame goes to that device, or is an Identify
asks_owned : (identity : Identity) (destination source : Mac) (frame_id : ℕ) (body : List ℕ) → IsAsking (heard_content identity destination source (RealTime frame_id body))
    → (is_own identity destination ≡ true) ⊎ ((frame_id == 65278) ≡ true)
asks_owned identity destination source frame_id body is = by_taken (is_taken identity destination frame_id) refl is
  where
    none_asked : IsAsking (cond (is_own identity destination && is_alarm frame_id) (heard_alarm source frame_id body (message_of body))
        (cond (is_own identity destination && is_cyclic frame_id) (Cyclic source frame_id body) Elsewhere)) → ⊥
    none_asked = holds_if (λ (h : Heard). IsAsking h → ⊥) (is_own identity destination && is_alarm frame_id) (heard_alarm source frame_id body (message_of body)) _ (no_alarm source frame_id body (message_of body))
        (holds_if (λ (h : Heard). IsAsking h → ⊥) (is_own identity destination && is_cyclic frame_id) (Cyclic source frame_id body) Elsewhere (λ i. i) (λ i. i))

    by_taken : (b : Bool) → is_taken identity destination frame_id ≡ b
        → IsAsking (cond b (heard_request source (request_of frame_id body)) (cond (is_own identity destination && is_alarm frame_id) (heard_alarm source frame_id body (message_of body))
        (cond (is_own identity destination && is_cyclic frame_id) (Cyclic source frame_id body) Elsewhere)))
        → (is_own identity destination ≡ true) ⊎ ((frame_id == 65278) ≡ true)
    by_taken true e asking =
        either (frame_id == 65277) (is_own identity destination) (frame_id == 65278) (is_own identity destination || pointwise nat_eq destination.octets identify_multicast) e
    by_taken false e asking = absurd (none_asked asking)

none_of : (b : Bool) → cond b controller.Nothing controller.Nothing ≡ controller.Nothing
none_of true = refl
none_of false = refl

-- a controller with another address does not hear what goes to a device
to_another : (identity : Identity) (mine : Controller) (destination : Mac) (heard : controller.Heard) → pointwise nat_eq identity.mac.octets mine.mac.octets ≡ false
    → is_own identity destination ≡ true → cond (pointwise nat_eq destination.octets mine.mac.octets) heard controller.Nothing ≡ controller.Nothing
to_another identity mine destination heard apart own =
    let same : destination.octets ≡ identity.mac.octets = same_text destination.octets identity.mac.octets (sym own) in
    let other : pointwise nat_eq destination.octets mine.mac.octets ≡ false = ap (λ (octets : List ℕ). pointwise nat_eq octets mine.mac.octets) same ∙ apart in
    ap (λ (b : Bool). cond b heard controller.Nothing) other

asks_heard : (identity : Identity) (mine : Controller) (destination source : Mac) (content : Content) → pointwise nat_eq identity.mac.octets mine.mac.octets ≡ false
    → IsAsking (heard_content identity destination source content)
    → cond (pointwise nat_eq destination.octets mine.mac.octets) (controller.heard_content mine.address source content) controller.Nothing ≡ controller.Nothing
asks_heard identity mine destination source (RealTime frame_id body) apart is = by_owned (asks_owned identity destination source frame_id body is)
  where
    by_owned : (is_own identity destination ≡ true) ⊎ ((frame_id == 65278) ≡ true)
        → cond (pointwise nat_eq destination.octets mine.mac.octets) (heard_real_time source frame_id body) controller.Nothing ≡ controller.Nothing
    by_owned (inl own) = to_another identity mine destination (heard_real_time source frame_id body) apart own
    by_owned (inr e) =
        subst (λ (n : ℕ). cond (pointwise nat_eq destination.octets mine.mac.octets) (heard_real_time source n body) controller.Nothing ≡ controller.Nothing) (sym (eqb-true frame_id 65278 e))
        (ap (λ (h : controller.Heard). cond (pointwise nat_eq destination.octets mine.mac.octets) h controller.Nothing) (identify_heard source body)
        ∙ none_of (pointwise nat_eq destination.octets mine.mac.octets))
asks_heard identity mine destination source (ArpPacket packet) apart is =
    absurd (holds_if (λ (h : Heard). IsAsking h → ⊥) (is_own identity destination || pointwise nat_eq destination.octets broadcast) (Resolves source packet) Elsewhere (λ i. i) (λ i. i) is)
asks_heard identity mine destination source (UdpDatagram from to body) apart is =
    absurd (holds_if (λ (h : Heard). IsAsking h → ⊥) (is_own identity destination && to.port == 34964) (Reported (record { mac = source; endpoint = from }) to.address (said_by body)) Elsewhere (λ i. i) (λ i. i) is)

asks_read : (identity : Identity) (mine : Controller) (read : Result Meaning FrameFault) → pointwise nat_eq identity.mac.octets mine.mac.octets ≡ false → IsAsking (heard_frame identity read)
    → heard_read mine read ≡ controller.Nothing
asks_read identity mine (Ok meaning) apart is = asks_heard identity mine meaning.destination meaning.source meaning.content apart is
asks_read identity mine (Err fault) apart is = refl

-- a controller with another address does not hear what a device hears as a DCP request
pub asks_unheard : (identity : Identity) (setup : Setup) (octets : List ℕ) (source : Mac) (request : Asked) → heard_of identity (comes octets) ≡ Asks source request
    → pointwise nat_eq identity.mac.octets setup.plan.controller.mac.octets ≡ false → controller.heard_of setup.plan.controller octets ≡ controller.Nothing
unfolding heard_of controller.heard_of
asks_unheard identity setup octets source request e apart =
    asks_read identity setup.plan.controller (frame_of octets) apart (subst (λ (h : Heard). IsAsking h) (sym e) tt)

-- ---- an alarm frame that a device hears goes to it, and to no controller with another address

abbrev pub IsAlarming : Heard → Type 0
IsAlarming (Alarms source header message) = Unit {0}
IsAlarming (LowReplies source header message) = Unit {0}
IsAlarming (LowConfirms source header message) = Unit {0}
IsAlarming other = ⊥

no_request : (source : Mac) (read : Result Asked DcpFault) → IsAlarming (heard_request source read) → ⊥
no_request source (Ok request) is = is
no_request source (Err fault) is = is

owned : (taken own alarm cyclic : Bool) (request data_of_alarms cyclic_frame : Heard) → (IsAlarming request → ⊥)
    → IsAlarming (cond taken request (cond (own && alarm) data_of_alarms (cond (own && cyclic) cyclic_frame Elsewhere))) → own ≡ true
owned taken true alarm cyclic request data_of_alarms cyclic_frame none is = refl
owned true false alarm cyclic request data_of_alarms cyclic_frame none is = absurd (none is)
owned false false alarm cyclic request data_of_alarms cyclic_frame none is = absurd is

alarms_owned : (identity : Identity) (destination source : Mac) (content : Content) → IsAlarming (heard_content identity destination source content) → is_own identity destination ≡ true
alarms_owned identity destination source (RealTime frame_id body) is =
    owned (is_taken identity destination frame_id) (is_own identity destination) (is_alarm frame_id) (is_cyclic frame_id) (heard_request source (request_of frame_id body))
    (heard_alarm source frame_id body (message_of body)) (Cyclic source frame_id body) (no_request source (request_of frame_id body)) is
alarms_owned identity destination source (ArpPacket packet) is =
    absurd (holds_if (λ (h : Heard). IsAlarming h → ⊥) (is_own identity destination || pointwise nat_eq destination.octets broadcast) (Resolves source packet) Elsewhere (λ i. i) (λ i. i) is)
alarms_owned identity destination source (UdpDatagram from to body) is =
    absurd (holds_if (λ (h : Heard). IsAlarming h → ⊥) (is_own identity destination && to.port == 34964) (Reported (record { mac = source; endpoint = from }) to.address (said_by body)) Elsewhere (λ i. i) (λ i. i) is)

alarms_read : (identity : Identity) (mine : Controller) (read : Result Meaning FrameFault) → pointwise nat_eq identity.mac.octets mine.mac.octets ≡ false → IsAlarming (heard_frame identity read)
    → heard_read mine read ≡ controller.Nothing
alarms_read identity mine (Ok meaning) apart is =
    to_another identity mine meaning.destination (controller.heard_content mine.address meaning.source meaning.content) apart (alarms_owned identity meaning.destination meaning.source meaning.content is)
alarms_read identity mine (Err fault) apart is = refl

pub alarms_unheard : (identity : Identity) (setup : Setup) (octets : List ℕ) (heard : Heard) → IsAlarming heard → heard_of identity (comes octets) ≡ heard
    → pointwise nat_eq identity.mac.octets setup.plan.controller.mac.octets ≡ false → controller.heard_of setup.plan.controller octets ≡ controller.Nothing
unfolding heard_of controller.heard_of
alarms_unheard identity setup octets heard alarming e apart =
    alarms_read identity setup.plan.controller (frame_of octets) apart (subst (λ (h : Heard). IsAlarming h) (sym e) alarming)
