-- Only the timers of an exchange run, and a frame remains.
use Rattle.std.proofs.Common.{◌<◌, sym, ap, ◌∙◌, arith}
use Rattle.device_station.specs.port.State.{closed}
use Rattle.device_station.proofs.port.device.DevicePort.sends.Goals as goal

pub returns-clause-open : goal.returns-clause-open
returns-clause-open c = λ is.
    let known = c.self.invariant.3 (omega (arith, c.if-self-eq0.false)) in
    rw (← c.self.view_is) (ap closed known.1)

pub returns-clause-calls : goal.returns-clause-calls
returns-clause-calls c = λ is.
    let known = c.self.invariant.3 (omega (arith, c.if-self-eq0.false)) in
    rw (← c.self.view_is) known.2

pub returns-clause-frames : goal.returns-clause-frames
returns-clause-frames c = λ is. sym c.has_frames.ensures ∙ is
