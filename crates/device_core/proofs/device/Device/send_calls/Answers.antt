-- At most one of both is due.
use Rattle.std.proofs.lemmas.List.{append-nil}
use Rattle.device_frames.specs.Relation.{ready_calls, where_due}
use Rattle.device_core.proofs.device.Device.send_calls.Goals as goal

pub returns-then-is_ready-clause-frames : goal.returns-then-is_ready-clause-frames
returns-then-is_ready-clause-frames g c =
    let ready = where_due c.args.is_ready (ready_calls c.self.inside.store.values.running.suite.address c.self.inside.relation) in
    rw (← c.self.view_is) (rw (c.requires.apart c.if-is_ready.true, append-nil ready)
    (rw (c.address-address.ensures.value, c.running.ensures) at c.send_ready_again.ensures.frames))

pub returns-then-is_ready-clause-sendable : goal.returns-then-is_ready-clause-sendable
returns-then-is_ready-clause-sendable g c =
    let ready = where_due c.args.is_ready (ready_calls c.self.inside.store.values.running.suite.address c.self.inside.relation) in
    rw (← c.self.view_is) (rw (c.requires.apart c.if-is_ready.true, append-nil ready)
    (rw (c.address-address.ensures.value, c.running.ensures) at c.send_ready_again.ensures.sendable))

pub returns-clause-frames : goal.returns-clause-frames
returns-clause-frames g c =
    rw (← c.self.view_is) (rw c.if-is_ready.false (rw (c.address-address.ensures.value, c.running.ensures) at c.send_plug_ready.ensures.frames))

pub returns-clause-sendable : goal.returns-clause-sendable
returns-clause-sendable g c =
    rw (← c.self.view_is) (rw c.if-is_ready.false (rw (c.address-address.ensures.value, c.running.ensures) at c.send_plug_ready.ensures.sendable))
