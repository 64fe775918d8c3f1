-- Units pass in which the services have no part: they are counted for these.
use Rattle.std.proofs.Common.{◌-◌, ◌∙◌, ◌<◌, drop, arith}
use Rattle.device_station.specs.port.Pace.{caught_up}
use Rattle.device_station.proofs.ServedBarring.{barred_alone}
use Rattle.device_station.proofs.ServedComposed.{due_calm, passed_paced, passes_left}
use Rattle.device_station.proofs.ServedPacing.{resting_of}
use Rattle.device_station.proofs.ServedTicking.{at}
use Rattle.device_station.proofs.port.served.Port.tick.Goals as goal

pub invariant_of-self-2 : goal.invariant_of-self-2
invariant_of-self-2 c =
    let all = c.self.inside in
    let frames = drop all.frames_past all.own.frames in
    let new = c.tick.new.self in
    let count = c.args.units - c.in_ok-passed.passed.left in
    let passes = c.in_ok-passed.ensures.passes.1 in
    let few : count < all.rest = omega (arith, c.if-units-self.false) in
    passed_paced count all.rest all.limit all.port new all.services frames few c.self.invariant passes.ticks

pub returns : goal.returns
returns c =
    let all = c.self.inside in
    let frames = drop all.frames_past all.own.frames in
    let laws = c.quiet_units_are_ticks.ensures in
    let new = c.tick.new.self in
    let left = c.in_ok-passed.passed.left in
    let passes = c.in_ok-passed.ensures.passes.1 in
    let few : c.args.units < all.rest = omega (arith, c.if-units-self.false) in
    let some : c.args.units - left < all.rest = omega (arith, few) in
    let fetched = (resting_of all.rest all.limit all.port.device.live.values all.services frames (omega (arith, few)) c.self.invariant).fetched in
    let paced = passed_paced (c.args.units - left) all.rest all.limit all.port new all.services frames some c.self.invariant passes.ticks in
    rw (← c.self.view_is) (
      barred_alone (at all.serves all.port (caught_up (all.limit - all.rest) all.services) frames) fetched ∙ c.in_ok-passed.ensures.passes.0,
      passes_left laws.ticks laws.count laws.news c.args.units left all.rest all.limit all.serves all.port new all.services frames few c.self.invariant passes,
      due_calm laws.count laws.down laws.news c.soonest.result c.in_ok-passed.passed.due (all.rest - (c.args.units - left)) all.limit new all.services frames c.soonest.ensures c.in_ok-passed.ensures.passes.2
          (omega (arith, some)) paced,
    )
