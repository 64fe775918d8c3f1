-- Units with which nothing is due: no work remains after them.
use Rattle.std.proofs.Common.{◌<◌, drop, length, sym, ap, ◌∙◌, arith}
use Rattle.device_station.specs.recorded.Record.{recalled}
use Rattle.device_station.specs.port.State.{State, has_some}
use Rattle.device_station.specs.contracts.port.device.DevicePort.{the_view}
use Rattle.device_station.proofs.PortSteady.{glides_at}
use Rattle.device_station.proofs.PortStages.{going_of, steady_of}
use Rattle.device_station.proofs.port.device.DevicePort.glide.Goals as goal

pub skip_steady-requires : goal.skip_steady-requires
skip_steady-requires c =
    let port = c.self.inside in
    let few : c.args.units < port.steady.inputs = omega (arith, c.if-units-self.false) in
    let known = c.self.invariant.3 (omega (arith, few)) in
    (omega arith, (omega arith, (going_of port.stage _ _ _ known.1 c.self.invariant.2, (known.0, few))))

pub invariant_of-self : goal.invariant_of-self
invariant_of-self c =
    let port = c.self.inside in
    let known = c.self.invariant.3 (omega (arith, c.if-units-self.false)) in (
      omega (arith, ap (λ f. length (recalled f)) c.skip_steady.ensures.flash),
      c.self.invariant.1,
      steady_of port.stage _ _ _ known.1 c.skip_steady.ensures.going,
      λ some. (c.skip_steady.ensures.steady, known.1, ap (λ f. drop port.calls_past (recalled f)) c.skip_steady.ensures.flash ∙ known.2),
    )

pub returns : goal.returns
returns c =
    let port = c.self.inside in
    let none = ap (λ (s : State). has_some s.frames) c.self.view_is ∙ (sym c.has_frames.ensures ∙ c.if-has_frames.false) in
    rw (← c.self.view_is) (glides_at port.steady c.args.units _ (the_view port) c.skip_steady.new.device _ (omega (arith, c.if-units-self.false)) c.self.invariant.3 none
    (ap (λ f. drop port.calls_past (recalled f)) c.skip_steady.ensures.flash) c.skip_steady.ensures.passes c.skip_steady.ensures.before c.skip_steady.ensures.due)
