-- A response of a device, as a controller hears it.
use Rattle.std.proofs.Common.{◌≡◌, ◌==◌, ◌&&◌, ◌++◌, ℕ, nat_eq, Bool, true, List, [], None, Result, Ok, append-nil, ap, subst, ◌∙◌, arith}
use Rattle.std.specs.Prelude.{if◌then◌else◌}
use Rattle.std.specs.Cmp.Lexicographic.{pointwise}
use Rattle.std.proofs.lemmas.Cmp.{nat_list_eq_equiv}
use Rattle.pn_values.specs.declared.identity.Identity.{Identity}
use Rattle.frame_codec.specs.declared.udp.Caller.{Caller}
use Rattle.frame_codec.specs.Frame.{IsReadBack, frame_bytes, frame_of, padding_of, with_behind}
use Rattle.frame_codec.specs.Meaning.{Meaning, UdpDatagram}
use Rattle.rpc_core.specs.declared.fault.RpcFault.{RpcFault}
use Rattle.rpc_core.specs.declared.interface.Interface.TheVariants.{Controller as controllers}
use Rattle.rpc_core.specs.Call.{Asked as Call}
use Rattle.rpc_core.specs.Response.{Answered, response_bytes, response_of}
use Rattle.plans.specs.declared.parts.Controller.{Controller}
use Rattle.device_frames.specs.Sent.{response_frame}
use Rattle.controller_messages.specs.Heard.{Nothing, Responds, heard_body, heard_content, heard_first, heard_of, heard_read, heard_response, is_to}
use Rattle.controller_messages.specs.Refusal.{refusal_of}
use Rattle.controller_messages.specs.Sent.{calls_at}
use Rattle.both_ends.specs.startup.answer.Answer.{caller_of}
use Rattle.both_ends.proofs.StartupAnswerResponses.{no_call}

where_so : {A : Type 0} (is : Bool) (x y : A) → is ≡ true → (if is then x else y) ≡ x
where_so is x y e = ap (λ (b : Bool). if b then x else y) e

-- the meaning of its frame, by its body
abbrev pub meaning_with : Controller → Identity → List ℕ → List ℕ → Meaning
meaning_with controller identity address body = record {
  destination = controller.mac;
  source = identity.mac;
  tag = None;
  content = UdpDatagram (record { address = address; port = 34964 }) (calls_at controller.address) body;
}

abbrev pub answer_meaning : Controller → Identity → List ℕ → Answered → Meaning
answer_meaning controller identity address answer = meaning_with controller identity address (response_bytes answer)

-- the frame is read as this meaning
frame_is : (meaning : Meaning) → IsReadBack meaning → frame_of (frame_bytes meaning ++ []) ≡ Ok (with_behind meaning (padding_of meaning ++ []))
frame_is meaning back = back.again [] (omega (arith, back.most))

-- the body is not a call, so it is the response
body_is : (controller : Controller) (answer : Answered) (from : Caller) → response_of (response_bytes answer) ≡ Ok answer
    → heard_body from (response_bytes answer) ≡ Responds answer
unfolding heard_body
body_is controller answer from read =
    let none = no_call controllers (response_bytes answer) answer read in
    ap (λ (r : Result Call RpcFault). heard_first from r (response_of (response_bytes answer)) (refusal_of (response_bytes answer))) none.1
    ∙ ap (λ (r : Result Answered RpcFault). heard_response r (refusal_of (response_bytes answer))) read

to_it : (address : List ℕ) → is_to address (calls_at address) ≡ true
to_it address = ap (λ (is : Bool). is && 34964 == 34964) (nat_list_eq_equiv.refl address)

pub answer_heard : (controller : Controller) (identity : Identity) (address : List ℕ) (answer : Answered)
    → IsReadBack (answer_meaning controller identity address answer) → response_of (response_bytes answer) ≡ Ok answer
    → heard_of controller (response_frame identity (caller_of controller) address answer) ≡ Responds answer
unfolding heard_of
answer_heard controller identity address answer back read =
    let meaning = answer_meaning controller identity address answer in
    let from : Caller = record { mac = identity.mac; endpoint = record { address = address; port = 34964 } } in
    let whole : frame_of (frame_bytes meaning) ≡ Ok meaning =
    subst (λ (bytes : List ℕ). frame_of bytes ≡ Ok meaning) (append-nil (frame_bytes meaning)) (frame_is meaning back) in
    ap (heard_read controller) whole
    ∙ (where_so (pointwise nat_eq controller.mac.octets controller.mac.octets) (heard_content controller.address identity.mac meaning.content) Nothing (nat_list_eq_equiv.refl controller.mac.octets)
    ∙ (where_so (is_to controller.address (calls_at controller.address)) (heard_body from (response_bytes answer)) Nothing (to_it controller.address)
    ∙ body_is controller answer from read))
