-- The answer depends on the outcome of the command.
use Rattle.std.proofs.Common.{◌≡◌, [], ◌∷◌, refl, sym, ap, ◌∙◌, arith}
use Rattle.rpc_core.specs.Call.{asked}
use Rattle.records.specs.writes.Answer.{answer_of}
use Rattle.relations.specs.Phases.{Named, answered}
use Rattle.device_core.specs.Handled.{Writes, partner_of}
use Rattle.device_core.specs.Machine.{written_as}
use Rattle.device_core.proofs.Served.{same_moving}
use Rattle.device_core.proofs.Steps.{settled_steps}
use Rattle.device_core.proofs.device.Device.store_text.Goals as goal

pub returns-clause-steps : goal.returns-clause-steps
returns-clause-steps g c =
    let header = c.args.header.now in
    let out = c.written_as-came.ensures header in
    let moving = Named (partner_of c.args.serving.now.caller.now) in
    let named : answered moving c.written_as-came.result ≡ answered moving (written_as header c.carry.result) =
    sym (same_moving moving c.written_as-came.result (answer_of header)) ∙ ap (answered moving) out in
    let calls = rw (c.address-address.ensures.value, c.running.ensures, c.requires.operation, c.put_written.ensures, out) at c.give.ensures.kept in
    let frames = rw (c.address-address.ensures.value, c.running.ensures, c.requires.operation, c.put_written.ensures, out) at c.give.ensures.frames in
    let sendable = rw (c.address-address.ensures.value, c.running.ensures, c.requires.operation, c.put_written.ensures, out) at c.give.ensures.sendable in
    let link = rw (c.source_of.ensures, named) at c.hear_controller.ensures in
    rw (← c.self.view_is) (λ heard is.
    settled_steps g.F.Flash _ _ heard
    (Writes c.args.serving.now.caller.now c.self.inside.store.values.running.suite.address (asked c.args.serving.now.call.now) header c.args.value) (c.carry.result ∷ []) _ _ is (omega arith) c.carry.ensures.listed refl
    (rw (calls, link) refl) frames refl (sendable, tt))

pub returns-clause-reliable : goal.returns-clause-reliable
returns-clause-reliable g c = rw (← c.self.view_is) c.carry.ensures.reliable
