-- A leap: units with which nothing is due, and then one more.
use Rattle.std.proofs.Common.{refl, rules, arith}
use Rattle.device_core.proofs.Leaping.{leap_frames_to}
use Rattle.device_core.proofs.device.Device.elapse.Goals as goal

pub returns-then-units-eq0-clause-device : goal.returns-then-units-eq0-clause-device
returns-then-units-eq0-clause-device g c = rw c.if-units-eq0.true refl

pub returns-then-units-eq0-clause-frames : goal.returns-then-units-eq0-clause-frames
returns-then-units-eq0-clause-frames g c = rw (c.if-units-eq0.true, c.clear.ensures) refl

pub returns-then-units-eq0-clause-last : goal.returns-then-units-eq0-clause-last
returns-then-units-eq0-clause-last g c before earlier = absurd (omega (arith, c.if-units-eq0.true, earlier))

pub returns-clause-frames : goal.returns-clause-frames
returns-clause-frames g c = leap_frames_to c.args.self.now c.pass.new.self _ c.args.units (omega (arith, c.if-units-eq0.false)) (search (rules, c.pass.ensures.device)) (search (rules, c.pass.ensures.none)) c.tick.ensures.frames
