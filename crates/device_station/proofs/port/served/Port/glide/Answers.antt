-- Units pass in which the services have no part.
use Rattle.std.proofs.Common.{◌-◌, ◌∙◌, ◌<◌, drop, refl, sym, ap, subst, arith}
use Rattle.device_core.specs.Leaps.{live_due_in}
use Rattle.device_station.specs.port.Pace.{IsPaced, caught_up}
use Rattle.device_station.specs.port.State.{State}
use Rattle.device_station.proofs.ServedBarring.{barred_alone, waits_free}
use Rattle.device_station.proofs.ServedComposed.{due_calm, passed_paced, passes_calm}
use Rattle.device_station.proofs.ServedPacing.{due_soonest, few_soonest, resting_of}
use Rattle.device_station.proofs.ServedTicking.{at}
use Rattle.device_station.proofs.port.served.Port.glide.Goals as goal

pub invariant_of-self : goal.invariant_of-self
invariant_of-self c =
    let all = c.self.inside in
    subst (λ (p : State). IsPaced all.rest all.limit p.device.live.values all.services (drop all.frames_past all.own.frames)) (sym c.in_default.ensures) c.self.invariant

pub returns-in_default : goal.returns-in_default
returns-in_default c =
    let all = c.self.inside in
    rw (← c.self.view_is) (ap (λ (p : State). at all.serves p (caught_up (all.limit - all.rest) all.services) (drop all.frames_past all.own.frames)) c.in_default.ensures)

pub invariant_of-self-2 : goal.invariant_of-self-2
invariant_of-self-2 c =
    let all = c.self.inside in
    let frames = drop all.frames_past all.own.frames in
    let new = c.glide.new.self in
    let glides = c.in-Some.ensures in
    passed_paced c.args.units all.rest all.limit all.port new all.services frames (omega (arith, c.if-units-self.false)) c.self.invariant glides.ticks

pub returns : goal.returns
returns c =
    let all = c.self.inside in
    let frames = drop all.frames_past all.own.frames in
    let laws = c.quiet_units_are_ticks.ensures in
    let values = all.port.device.live.values in
    let new = c.glide.new.self in
    let glides = c.in-Some.ensures in
    let few : c.args.units < all.rest = omega (arith, c.if-units-self.false) in
    let resting = resting_of all.rest all.limit values all.services frames (omega (arith, few)) c.self.invariant in
    let paced = passed_paced c.args.units all.rest all.limit all.port new all.services frames few c.self.invariant glides.ticks in
    let before = at all.serves all.port (caught_up (all.limit - all.rest) all.services) frames in
    let after = at all.serves new (caught_up (all.limit - (all.rest - c.args.units)) all.services) frames in
    let due = due_soonest laws.count laws.down laws.news (live_due_in all.port.device.live) all.rest all.limit all.port.device.live all.services refl (omega (arith, few)) resting.inside resting.calm in
    let free_after = barred_alone after resting.fetched ∙ glides.after in
    rw (← c.self.view_is) (
      barred_alone before resting.fetched ∙ glides.free,
      passes_calm laws.ticks laws.count laws.news c.args.units all.rest all.limit all.serves all.port new all.services frames few c.self.invariant glides.ticks,
      due_calm laws.count laws.down laws.news c.soonest.result c.in-Some.due (all.rest - c.args.units) all.limit new all.services frames c.soonest.ensures glides.due
          (omega (arith, few)) paced,
      waits_free after free_after,
      subst (λ n. c.args.units < n) due (few_soonest c.args.units (live_due_in all.port.device.live) all.rest all.services glides.few few),
      free_after,
      glides.closed,
    )
