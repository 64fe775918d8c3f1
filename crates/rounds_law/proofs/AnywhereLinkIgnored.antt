-- A controller of another start ignores the responses to the calls of this one.
use Rattle.std.proofs.Common.{◌≡◌, ◌&&◌, ◌==◌, ℕ, Bool, true, false, List, Option, Some, None, refl, sym, ap, ◌∙◌}
use Rattle.std.specs.Prelude.{nat_eq, if◌then◌else◌}
use Rattle.std.specs.Cmp.Lexicographic.{pointwise, same_text}
use Rattle.pn_values.specs.declared.identity.Identity.{Identity}
use Rattle.pn_values.specs.declared.mac.Mac.{Mac}
use Rattle.frame_codec.specs.declared.udp.Caller.{Caller}
use Rattle.frame_codec.specs.declared.udp.Endpoint.{Endpoint}
use Rattle.rpc_core.specs.declared.header.CallHeader.{CallHeader}
use Rattle.rpc_core.specs.Response.{Answered}
use Rattle.device_frames.specs.Sendable.{IsSendable}
use Rattle.device_frames.specs.Sent.{CallAnswer, bytes_of}
use Rattle.controller_messages.specs.declared.plug_request.PlugRequest.{PlugRequest}
use Rattle.controller_messages.specs.declared.record_request.RecordRequest.{RecordRequest}
use Rattle.controller_messages.specs.declared.request.Request.{Request}
use Rattle.controller_messages.specs.declared.setup.Setup.{Setup}
use Rattle.controller_messages.specs.Access.{is_reply}
use Rattle.controller_messages.specs.Heard.{Heard, Nothing, Responds, heard_of, is_to}
use Rattle.controller_messages.specs.PlugRequests.{is_plug_answer}
use Rattle.controller_messages.specs.Requests.{sequence_of}
use Rattle.controller_core.specs.start_up.Answers.{is_answer, is_call}
use Rattle.controller_core.specs.stored.State.{Live}
use Rattle.controller_core.specs.Machine.{after_turn, asks_next, beside, can_begin, decided, plug_replied, replied, replied_by, responded, step_of, stepped}
use Rattle.controller_core.specs.Machine.{stays, turned}
use Rattle.end_laws.specs.hearing.Hearing.{mine_reported}
use Rattle.end_laws.specs.hearing.Stations.{IsDevice}
use Rattle.rounds_law.specs.Path.{IsIgnored}
use Rattle.rounds_law.proofs.AnywhereLinkLaws.{AnswerLaws}
use Rattle.rounds_law.proofs.Choices.{and_false, where_not}
use Rattle.rounds_law.proofs.PlaceTurns.{unchanged}

other_activity : (one other : List ℕ) → (one ≡ other → ⊥) → pointwise nat_eq one other ≡ false
other_activity one other differs = by_test (pointwise nat_eq one other) refl
  where
    by_test : (same : Bool) → pointwise nat_eq one other ≡ same → pointwise nat_eq one other ≡ false
    by_test true e = absurd (differs (same_text one other (sym e)))
    by_test false e = e

unanswered : (setup : Setup) (request : Request) (header : CallHeader) → (header.activity ≡ setup.activity → ⊥) → is_answer setup request header ≡ false
unanswered setup request header other =
    ap (λ (b : Bool). is_call request && (b && header.sequence == sequence_of setup.plan request)) (other_activity header.activity setup.activity other)
    ∙ and_false (is_call request)

unreplied : (setup : Setup) (live : Live) (response : Answered) (waiting : Option RecordRequest) → (response.header.activity ≡ setup.activity → ⊥)
    → replied setup live response waiting ≡ live
unreplied setup live response None other = refl
unreplied setup live response (Some request) other =
    where_not (is_reply setup request response.header) (replied_by live response request) live
    (ap (λ (b : Bool). b && response.header.sequence == request.sequence) (other_activity response.header.activity setup.activity other))

unresponded_beside : (setup : Setup) (live : Live) (response : Answered) (plug : Option PlugRequest) → (response.header.activity ≡ setup.activity → ⊥)
    → beside setup live response plug ≡ stays live
unresponded_beside setup live response None other = ap stays (unreplied setup live response live.access.waiting other)
unresponded_beside setup live response (Some request) other =
    where_not (is_plug_answer setup request response.header.activity response.header.sequence)
    (asks_next (plug_replied setup live response.status request)) (stays live)
    (ap (λ (b : Bool). b && response.header.sequence == request.sequence) (other_activity response.header.activity setup.activity other))

unresponded : (setup : Setup) (live : Live) (response : Answered) (asked : Option Request) → (response.header.activity ≡ setup.activity → ⊥)
    → responded setup live response asked ≡ stays live
unresponded setup live response None other = unresponded_beside setup live response live.access.plug other
unresponded setup live response (Some request) other =
    where_not (is_answer setup request response.header) (decided setup live response request) (stays live) (unanswered setup request response.header other)

reported_other : (setup : Setup) (live : Live) (destination : Mac) (to : Endpoint) (answer : Answered) → (answer.header.activity ≡ setup.activity → ⊥)
    → turned setup live (mine_reported setup.plan.controller destination to (Responds answer)) ≡ stays live
reported_other setup live destination to answer other =
    outer (pointwise nat_eq destination.octets setup.plan.controller.mac.octets) (is_to setup.plan.controller.address to)
  where
    outer : (own here : Bool) → turned setup live (if own then (if here then Responds answer else Nothing) else Nothing) ≡ stays live
    outer true true = ap (after_turn setup (can_begin live)) (unresponded setup live answer live.asked other) ∙ unchanged setup live
    outer true false = refl
    outer false here = refl

-- It ignores the response of a device to any call that has not its activity.
pub answer_ignored : AnswerLaws → (next : Setup) (identity : Identity) (caller : Caller) (address : List ℕ) (answer : Answered) → IsDevice identity
    → IsSendable identity (CallAnswer caller address answer) → (answer.header.activity ≡ next.activity → ⊥)
    → IsIgnored next (bytes_of identity (CallAnswer caller address answer))
unfolding step_of
answer_ignored laws next identity caller address answer device can other = λ controller same unrelated.
    let octets = bytes_of identity (CallAnswer caller address answer) in
    let hears = laws.responses next.plan.controller identity caller address answer device
    (record { mac = can.0.destination; endpoint = can.0.content.1 }) can.0.content.0.0 can.1 in
    ap (λ (s : Setup). stepped controller (turned s controller.live (heard_of s.plan.controller octets))) same
    ∙ ap (λ (h : Heard). stepped controller (turned next controller.live h)) hears
    ∙ ap (stepped controller) (reported_other next controller.live caller.mac caller.endpoint answer other)
