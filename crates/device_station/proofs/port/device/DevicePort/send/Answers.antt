-- Units up to the first that sends inputs: the work after them is their frame.
use Rattle.std.proofs.Common.{◌<◌, ◌≤◌, drop, length, sym, ap, ◌∙◌, arith}
use Rattle.device_station.specs.recorded.Record.{recalled}
use Rattle.device_station.specs.port.State.{State, has_some}
use Rattle.device_station.specs.contracts.port.device.DevicePort.{the_view}
use Rattle.device_station.proofs.PortSteady.{sends_at}
use Rattle.device_station.proofs.PortStages.{going_of, steady_of}
use Rattle.device_station.proofs.port.device.DevicePort.send.Goals as goal

pub leap_steady-requires : goal.leap_steady-requires
leap_steady-requires c =
    let port = c.self.inside in
    let known = c.self.invariant.3 (omega (arith, c.if-inputs-eq0.false)) in
    (omega arith, (omega arith, (going_of port.stage _ _ _ known.1 c.self.invariant.2, (known.0, omega (arith, c.if-inputs-self.false)))))

pub due_of-requires : goal.due_of-requires
due_of-requires c = c.leap_steady.ensures.due

pub invariant_of-self : goal.invariant_of-self
invariant_of-self c =
    let port = c.self.inside in
    let known = c.self.invariant.3 (omega (arith, c.if-inputs-eq0.false)) in (
      omega (arith, ap (λ f. length (recalled f)) c.leap_steady.ensures.flash),
      omega arith,
      steady_of port.stage _ _ _ known.1 c.leap_steady.ensures.going,
      λ some. (c.leap_steady.ensures.steady some, known.1, ap (λ f. drop port.calls_past (recalled f)) c.leap_steady.ensures.flash ∙ known.2),
    )

pub returns : goal.returns
returns c =
    let port = c.self.inside in
    let none = ap (λ (s : State). has_some s.frames) c.self.view_is ∙ (sym c.has_frames.ensures ∙ c.if-has_frames.false) in
    rw (← c.self.view_is) (sends_at port.steady c.args.units _ (the_view port) c.leap_steady.new.device _ _ (omega (arith, c.if-inputs-eq0.false)) (omega (arith, c.if-units-inputs.false))
    c.self.invariant.3 none (ap (λ f. drop port.calls_past (recalled f)) c.leap_steady.ensures.flash) c.leap_steady.ensures.passes c.leap_steady.ensures.one c.due_of.ensures)
