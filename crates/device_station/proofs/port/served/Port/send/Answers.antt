-- Units pass up to the first that sends inputs, in which the services have no part.
use Rattle.std.proofs.Common.{◌-◌, ◌∙◌, ◌<◌, drop, sym, ap, subst, arith}
use Rattle.device_station.specs.port.Pace.{IsPaced, caught_up}
use Rattle.device_station.specs.port.State.{State}
use Rattle.device_station.proofs.ServedBarring.{barred_alone, only_frame}
use Rattle.device_station.proofs.ServedComposed.{due_calm, passed_paced, passes_left}
use Rattle.device_station.proofs.ServedPacing.{resting_of}
use Rattle.device_station.proofs.ServedTicking.{at}
use Rattle.device_station.proofs.port.served.Port.send.Goals as goal

pub invariant_of-self : goal.invariant_of-self
invariant_of-self c =
    let all = c.self.inside in
    subst (λ (p : State). IsPaced all.rest all.limit p.device.live.values all.services (drop all.frames_past all.own.frames)) (sym c.in_default.ensures) c.self.invariant

pub returns-in_default : goal.returns-in_default
returns-in_default c =
    let all = c.self.inside in
    rw (← c.self.view_is) (ap (λ (p : State). at all.serves p (caught_up (all.limit - all.rest) all.services) (drop all.frames_past all.own.frames)) c.in_default.ensures)

pub overflow_sub-self : goal.overflow_sub-self
overflow_sub-self c = omega (arith, c.in-Some.ensures.passes.few, c.if-units-self.false)

pub invariant_of-self-2 : goal.invariant_of-self-2
invariant_of-self-2 c =
    let all = c.self.inside in
    let frames = drop all.frames_past all.own.frames in
    let sends = c.in-Some.ensures in
    let passed = c.args.units - c.in-Some.passed.left in
    passed_paced passed all.rest all.limit all.port c.send.new.self all.services frames (omega (arith, c.if-units-self.false)) c.self.invariant sends.passes.ticks

pub returns : goal.returns
returns c =
    let all = c.self.inside in
    let frames = drop all.frames_past all.own.frames in
    let laws = c.quiet_units_are_ticks.ensures in
    let new = c.send.new.self in
    let sends = c.in-Some.ensures in
    let left = c.in-Some.passed.left in
    let few : c.args.units < all.rest = omega (arith, c.if-units-self.false) in
    let some : c.args.units - left < all.rest = omega (arith, few) in
    let fetched = (resting_of all.rest all.limit all.port.device.live.values all.services frames (omega (arith, few)) c.self.invariant).fetched in
    let paced = passed_paced (c.args.units - left) all.rest all.limit all.port new all.services frames some c.self.invariant sends.passes.ticks in
    rw (← c.self.view_is) (
      barred_alone (at all.serves all.port (caught_up (all.limit - all.rest) all.services) frames) fetched ∙ sends.free,
      passes_left laws.ticks laws.count laws.news c.args.units left all.rest all.limit all.serves all.port new all.services frames few c.self.invariant sends.passes,
      due_calm laws.count laws.down laws.news c.soonest.result c.in-Some.passed.due (all.rest - (c.args.units - left)) all.limit new all.services frames c.soonest.ensures sends.due
          (omega (arith, some)) paced,
      only_frame new.calls new.frames frames sends.calls sends.frames fetched,
      sends.closed,
    )
