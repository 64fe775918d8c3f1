-- A PrmEnd after a plug is answered, and the next ApplicationReady of a plug follows, if one is called.
use Rattle.std.proofs.Common.{◌≡◌, ℕ, List, [], Option, Result, Ok, Err, IfOk, IfErr, refl, sym, subst}
use Rattle.connect_blocks.specs.declared.plug_control.PlugControlBlock.{PlugControlBlock}
use Rattle.records.specs.declared.status.call_fault.CallFault.{CallFault}
use Rattle.relations.specs.Plugging.{plug_end_answer, plug_end_in, plug_ending}
use Rattle.relations.specs.Phases.{Handled as Moving, Named, answered, updated}
use Rattle.relations.specs.RelationState.{RelationState}
use Rattle.frame_codec.specs.Outbox.{boxed}
use Rattle.device_core.specs.Behind.{CanSend, frames_of, plug_ended}
use Rattle.device_core.specs.Handled.{came_with, partner_of}
use Rattle.device_core.specs.Modules.{call_after, calling_after}
use Rattle.device_core.proofs.device.Device.end_plug.Goals as goal

-- The answer is the specified one.
answer_as : (came : Result (Unit {0}) CallFault) (answer : Result (List ℕ) CallFault) (blocks : List ℕ)
    → IfOk came (λ _. answer ≡ Ok blocks) → IfErr came (λ fault. (answer ≡ Err fault) × (blocks ≡ [])) → came_with came blocks ≡ answer
answer_as (Ok it) answer blocks done refused = sym done
answer_as (Err fault) answer blocks done refused = sym refused.0

-- It shows that the controller is alive if it is accepted.
shows : (moving : Moving) (came : Result (Unit {0}) CallFault) (ended : Result PlugControlBlock CallFault) (blocks : List ℕ)
    → IfOk came (λ _. plug_end_answer ended ≡ Ok blocks) → IfErr came (λ fault. (plug_end_answer ended ≡ Err fault) × (blocks ≡ []))
    → answered moving came ≡ answered moving ended
shows moving (Ok it) (Ok block) blocks done refused = refl
shows moving (Ok it) (Err fault) blocks done refused = let e : ◌≡◌ {A = Result (List ℕ) CallFault} (Err fault) (Ok blocks) = done in absurd cc
shows moving (Err fault) (Err other) blocks done refused = refl
shows moving (Err fault) (Ok block) blocks done refused = let e = refused.0 in absurd cc

-- What follows is decided by whether it is accepted.
follows : (came : Result (Unit {0}) CallFault) (ended : Result PlugControlBlock CallFault) (blocks : List ℕ)
    → IfOk came (λ _. plug_end_answer ended ≡ Ok blocks) → IfErr came (λ fault. (plug_end_answer ended ≡ Err fault) × (blocks ≡ []))
    → (address : List ℕ) (link : Option RelationState) → (calling_after came link ≡ calling_after ended link) × (call_after came address link ≡ call_after ended address link)
follows (Ok it) (Ok block) blocks done refused address link = (refl, refl)
follows (Ok it) (Err fault) blocks done refused address link = let e : ◌≡◌ {A = Result (List ℕ) CallFault} (Err fault) (Ok blocks) = done in absurd cc
follows (Err fault) (Err other) blocks done refused address link = (refl, refl)
follows (Err fault) (Ok block) blocks done refused address link = let e = refused.0 in absurd cc

pub returns-clause-state : goal.returns-clause-state
returns-clause-state g c =
    let caller = c.args.serving.now.caller.now in
    let blocks = c.args.serving.now.blocks.now in
    let answer = c.end_plug-came.new.answer.items in
    let ended = plug_end_in blocks c.self.inside.relation in
    let out = answer_as c.end_plug-came.result (plug_end_answer ended) answer c.end_plug-came.ensures.done c.end_plug-came.ensures.refused in
    let named = shows (Named (partner_of caller)) c.end_plug-came.result ended answer c.end_plug-came.ensures.done c.end_plug-came.ensures.refused in
    let becomes = rw (c.source_of.ensures, named, c.end_plug-came.ensures.state) at c.hear_controller.ensures in
    let address = c.self.inside.store.values.running.suite.address in
    let link = updated (answered (Named (partner_of caller)) ended) (plug_ending c.self.inside.options.ready_by_application blocks c.self.inside.relation) in
    let next = follows c.end_plug-came.result ended answer c.end_plug-came.ensures.done c.end_plug-came.ensures.refused address link in
    let kept = rw (c.address-address.ensures.value, c.running.ensures, c.requires.operation, out) at c.give.ensures.kept in
    rw (← c.self.view_is) (rw (c.call_after.ensures.state, becomes, next.0, kept) refl)

pub returns-clause-frames : goal.returns-clause-frames
returns-clause-frames g c =
    let caller = c.args.serving.now.caller.now in
    let blocks = c.args.serving.now.blocks.now in
    let answer = c.end_plug-came.new.answer.items in
    let ended = plug_end_in blocks c.self.inside.relation in
    let out = answer_as c.end_plug-came.result (plug_end_answer ended) answer c.end_plug-came.ensures.done c.end_plug-came.ensures.refused in
    let named = shows (Named (partner_of caller)) c.end_plug-came.result ended answer c.end_plug-came.ensures.done c.end_plug-came.ensures.refused in
    let becomes = rw (c.source_of.ensures, named, c.end_plug-came.ensures.state) at c.hear_controller.ensures in
    let address = c.self.inside.store.values.running.suite.address in
    let link = updated (answered (Named (partner_of caller)) ended) (plug_ending c.self.inside.options.ready_by_application blocks c.self.inside.relation) in
    let next = follows c.end_plug-came.result ended answer c.end_plug-came.ensures.done c.end_plug-came.ensures.refused address link in
    let first = rw (c.address-address.ensures.value, c.running.ensures, c.requires.operation, out) at c.give.ensures.frames in
    subst (λ old. boxed c.call_after.new.outbox ≡ frames_of old (plug_ended old c.args.serving.now)) c.self.view_is (rw (c.call_after.ensures.frames, first, becomes, next.1) refl)

pub returns-clause-sendable : goal.returns-clause-sendable
returns-clause-sendable g c =
    let caller = c.args.serving.now.caller.now in
    let blocks = c.args.serving.now.blocks.now in
    let answer = c.end_plug-came.new.answer.items in
    let ended = plug_end_in blocks c.self.inside.relation in
    let out = answer_as c.end_plug-came.result (plug_end_answer ended) answer c.end_plug-came.ensures.done c.end_plug-came.ensures.refused in
    let named = shows (Named (partner_of caller)) c.end_plug-came.result ended answer c.end_plug-came.ensures.done c.end_plug-came.ensures.refused in
    let becomes = rw (c.source_of.ensures, named, c.end_plug-came.ensures.state) at c.hear_controller.ensures in
    let address = c.self.inside.store.values.running.suite.address in
    let link = updated (answered (Named (partner_of caller)) ended) (plug_ending c.self.inside.options.ready_by_application blocks c.self.inside.relation) in
    let next = follows c.end_plug-came.result ended answer c.end_plug-came.ensures.done c.end_plug-came.ensures.refused address link in
    let first = rw (c.address-address.ensures.value, c.running.ensures, c.requires.operation, out) at c.give.ensures.sendable in
    subst (λ old. CanSend old (plug_ended old c.args.serving.now)) c.self.view_is (first, rw (becomes, next.1) at c.call_after.ensures.sendable)
