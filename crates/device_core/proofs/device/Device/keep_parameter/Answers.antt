-- A record that is kept, or not.
use Rattle.std.proofs.Common.{refl}
use Rattle.relations.specs.Phases.{Named, keeping}
use Rattle.device_core.specs.Handled.{partner_of}
use Rattle.device_core.proofs.Served.{kept_as, kept_moving}
use Rattle.device_core.proofs.device.Device.keep_parameter.Goals as goal

pub returns-clause-state : goal.returns-clause-state
returns-clause-state g c =
    let kept = keeping c.args.parameter c.self.inside.relation in
    let out = kept_as c.keep-came.result kept c.args.header.now c.keep-came.ensures.kept c.keep-came.ensures.refused in
    let moves = kept_moving (Named (partner_of c.args.serving.now.caller.now)) c.keep-came.result kept c.keep-came.ensures.kept c.keep-came.ensures.refused in
    let calls = rw (c.address-address.ensures.value, c.running.ensures, c.requires.operation, c.put_written.ensures, out) at c.give.ensures.kept in
    let link = rw (c.source_of.ensures, moves, c.keep-came.ensures.state) at c.hear_controller.ensures in
    rw (← c.self.view_is) (rw (calls, link) refl)

pub returns-clause-sendable : goal.returns-clause-sendable
returns-clause-sendable g c =
    let kept = keeping c.args.parameter c.self.inside.relation in
    let out = kept_as c.keep-came.result kept c.args.header.now c.keep-came.ensures.kept c.keep-came.ensures.refused in
    let sendable = rw (c.address-address.ensures.value, c.running.ensures, c.requires.operation, c.put_written.ensures, out) at c.give.ensures.sendable in
    rw (← c.self.view_is) (sendable, tt)

pub returns-clause-frames : goal.returns-clause-frames
returns-clause-frames g c =
    let kept = keeping c.args.parameter c.self.inside.relation in
    let out = kept_as c.keep-came.result kept c.args.header.now c.keep-came.ensures.kept c.keep-came.ensures.refused in
    rw (← c.self.view_is) (rw (c.address-address.ensures.value, c.running.ensures, c.requires.operation, c.put_written.ensures, out) at c.give.ensures.frames)
