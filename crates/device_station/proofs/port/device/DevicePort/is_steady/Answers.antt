-- Only the timers of an exchange run, and no frame remains.
use Rattle.std.proofs.Common.{◌<◌, sym, ap, ◌∙◌, arith}
use Rattle.device_station.specs.port.State.{State, has_some}
use Rattle.device_station.proofs.PortSteady.{closed_of, not_so}
use Rattle.device_station.proofs.PortStages.{free_at}
use Rattle.device_station.proofs.port.device.DevicePort.is_steady.Goals as goal

pub returns-clause-open : goal.returns-clause-open
returns-clause-open c = λ is.
    let port = c.self.inside in
    let known = c.self.invariant.3 (omega (arith, c.if-self-eq0.false)) in
    let none = ap (λ (s : State). has_some s.frames) c.self.view_is ∙ (sym c.has_frames.ensures ∙ not_so c.has_frames.result is) in
    rw (← c.self.view_is) (free_at port.stage _ _ known.1 known.2 none)

pub returns-clause-closed : goal.returns-clause-closed
returns-clause-closed c = λ is.
    let port = c.self.inside in
    let known = c.self.invariant.3 (omega (arith, c.if-self-eq0.false)) in
    rw (← c.self.view_is) (closed_of port.steady port.device.live.rest.link known.0.relation)
