-- A PrmEnd that is accepted is answered, and ApplicationReady follows, unless the application says when it is ready. One
-- that is refused is only answered.
use Rattle.std.proofs.Common.{◌≡◌, ◌&&◌, ℕ, Bool, true, false, cond, not, List, [], ◌∷◌, map, Option, Result, Ok, Err, IfOk, IfErr, is_ok, refl, sym, ap, subst, ◌∙◌}
use Rattle.connect_blocks.specs.declared.control.ControlBlock.{ControlBlock}
use Rattle.records.specs.declared.status.call_fault.CallFault.{CallFault}
use Rattle.records.specs.declared.status.operation.Operation.TheVariants as operation
use Rattle.rpc_core.specs.Call.{asked}
use Rattle.relations.specs.Calls.{prm_end_answer, prm_end_of}
use Rattle.relations.specs.RelationState.{RelationState}
use Rattle.relations.specs.Phases.{Handled as Moving, Named, Parameterized, answered, updated}
use Rattle.device_frames.specs.Relation.{ready_calls, where_due}
use Rattle.device_frames.specs.Sendable.{AreSendable}
use Rattle.device_frames.specs.Sent.{Sent, bytes_of}
use Rattle.device_core.specs.Behind.{CanSend, frames_of, parameters_ended}
use Rattle.frame_codec.specs.Outbox.{boxed}
use Rattle.device_core.specs.Handled.{answer_from, came_with, partner_of, ready_behind}
use Rattle.device_core.proofs.device.Device.end_parameters.Goals as goal

-- The answer is the specified one.
answer_as : (came : Result (Unit {0}) CallFault) (answer : Result (List ℕ) CallFault) (blocks : List ℕ)
    → IfOk came (λ _. answer ≡ Ok blocks) → IfErr came (λ fault. (answer ≡ Err fault) × (blocks ≡ [])) → came_with came blocks ≡ answer
answer_as (Ok it) answer blocks done refused = sym done
answer_as (Err fault) answer blocks done refused = sym refused.0

-- What follows it.
due_where : (by_application : Bool) (calls : List Sent) → cond by_application [] calls ≡ where_due (true && not by_application) calls
due_where true calls = refl
due_where false calls = refl

follows : (by_application : Bool) (address : List ℕ) (now link : Option RelationState) (octets : List ℕ) (came : Result (Unit {0}) CallFault) (ended : Result ControlBlock CallFault) (blocks : List ℕ)
    → prm_end_of link octets ≡ ended → IfOk came (λ _. prm_end_answer link octets ≡ Ok blocks) → IfErr came (λ fault. (prm_end_answer link octets ≡ Err fault) × (blocks ≡ []))
    → ready_behind by_application address now ended ≡ where_due (is_ok came && not by_application) (ready_calls address now)
follows by_application address now link octets (Ok it) (Ok block) blocks is done refused = due_where by_application (ready_calls address now)
follows by_application address now link octets (Ok it) (Err fault) blocks is done refused =
    let e : ◌≡◌ {A = Result (List ℕ) CallFault} (Err fault) (Ok blocks) = rw is at done in absurd cc
follows by_application address now link octets (Err fault) (Err other) blocks is done refused = refl
follows by_application address now link octets (Err fault) (Ok block) blocks is done refused = let e = rw is at refused.0 in absurd cc

-- A PrmEnd shows that the controller is alive if it is accepted.
shows : (moving : Moving) (link : Option RelationState) (octets : List ℕ) (came : Result (Unit {0}) CallFault) (ended : Result ControlBlock CallFault) (blocks : List ℕ)
    → prm_end_of link octets ≡ ended → IfOk came (λ _. prm_end_answer link octets ≡ Ok blocks) → IfErr came (λ fault. (prm_end_answer link octets ≡ Err fault) × (blocks ≡ []))
    → answered moving came ≡ answered moving ended
shows moving link octets (Ok it) (Ok block) blocks is done refused = refl
shows moving link octets (Ok it) (Err fault) blocks is done refused =
    let e : ◌≡◌ {A = Result (List ℕ) CallFault} (Err fault) (Ok blocks) = rw is at done in absurd cc
shows moving link octets (Err fault) (Err other) blocks is done refused = refl
shows moving link octets (Err fault) (Ok block) blocks is done refused = let e = rw is at refused.0 in absurd cc

-- An answer, and what follows it.
behind_answer : (f : Sent → List ℕ) (frames : List (List ℕ)) (answer : Sent) (ready behind : List Sent)
    → frames ≡ f answer ∷ map f ready → behind ≡ ready → frames ≡ map f (answer ∷ behind)
behind_answer f frames answer ready behind is same = is ∙ ap (λ sent. f answer ∷ map f sent) (sym same)

pub returns-clause-frames : goal.returns-clause-frames
returns-clause-frames g c =
    let link = c.self.inside.relation in
    let address = c.self.inside.store.values.running.suite.address in
    let by_application = c.self.inside.options.ready_by_application in
    let blocks = c.args.serving.now.blocks.now in
    let ended = prm_end_of link blocks in
    let moving = Named (partner_of c.args.serving.now.caller.now) in
    let now = updated (answered moving ended) (updated (answered (Parameterized by_application) ended) link) in
    let named = shows moving link blocks c.control-came.result ended c.control-came.new.answer.items refl c.control-came.ensures.done c.control-came.ensures.refused in
    let becomes = rw (c.source_of.ensures, named, c.control-came.ensures.state) at c.hear_controller.ensures in
    let f = bytes_of c.self.inside.identity in
    let answer = answer_from address c.args.serving.now.caller.now (asked c.args.serving.now.call.now) operation.Control (prm_end_answer link blocks) in
    let out = answer_as c.control-came.result (prm_end_answer link blocks) c.control-came.new.answer.items c.control-came.ensures.done c.control-came.ensures.refused in
    let first = rw (c.address-address.ensures.value, c.running.ensures, c.requires.operation, out) at c.give.ensures.frames in
    let all = rw (first, c.address-address.ensures.value, c.running.ensures, c.is_ready_due-is_due.ensures, becomes) at c.send_ready_again.ensures.frames in
    let same = follows by_application address now link blocks c.control-came.result ended c.control-came.new.answer.items refl c.control-came.ensures.done c.control-came.ensures.refused in
    subst (λ old. boxed c.send_ready_again.new.outbox ≡ frames_of old (parameters_ended old c.args.serving.now)) c.self.view_is
    (behind_answer f (boxed c.send_ready_again.new.outbox) answer _ (ready_behind by_application address now ended) all same)

pub returns-clause-sendable : goal.returns-clause-sendable
returns-clause-sendable g c =
    let link = c.self.inside.relation in
    let address = c.self.inside.store.values.running.suite.address in
    let by_application = c.self.inside.options.ready_by_application in
    let blocks = c.args.serving.now.blocks.now in
    let ended = prm_end_of link blocks in
    let moving = Named (partner_of c.args.serving.now.caller.now) in
    let now = updated (answered moving ended) (updated (answered (Parameterized by_application) ended) link) in
    let named = shows moving link blocks c.control-came.result ended c.control-came.new.answer.items refl c.control-came.ensures.done c.control-came.ensures.refused in
    let becomes = rw (c.source_of.ensures, named, c.control-came.ensures.state) at c.hear_controller.ensures in
    let out = answer_as c.control-came.result (prm_end_answer link blocks) c.control-came.new.answer.items c.control-came.ensures.done c.control-came.ensures.refused in
    let first = rw (c.address-address.ensures.value, c.running.ensures, c.requires.operation, out) at c.give.ensures.sendable in
    let ready = rw (c.address-address.ensures.value, c.running.ensures, c.is_ready_due-is_due.ensures, becomes) at c.send_ready_again.ensures.sendable in
    let same = follows by_application address now link blocks c.control-came.result ended c.control-came.new.answer.items refl c.control-came.ensures.done c.control-came.ensures.refused in
    subst (λ old. CanSend old (parameters_ended old c.args.serving.now)) c.self.view_is
    (first, subst (λ (sent : List Sent). AreSendable c.self.inside.identity sent) (sym same) ready)

pub returns-clause-state : goal.returns-clause-state
returns-clause-state g c =
    let link = c.self.inside.relation in
    let blocks = c.args.serving.now.blocks.now in
    let out = answer_as c.control-came.result (prm_end_answer link blocks) c.control-came.new.answer.items c.control-came.ensures.done c.control-came.ensures.refused in
    let calls = rw (c.address-address.ensures.value, c.running.ensures, c.requires.operation, out) at c.give.ensures.kept in
    let moving = Named (partner_of c.args.serving.now.caller.now) in
    let named = shows moving link blocks c.control-came.result (prm_end_of link blocks) c.control-came.new.answer.items refl c.control-came.ensures.done c.control-came.ensures.refused in
    let becomes = rw (c.source_of.ensures, named, c.control-came.ensures.state) at c.hear_controller.ensures in
    rw (← c.self.view_is) (rw (calls, becomes) refl)
