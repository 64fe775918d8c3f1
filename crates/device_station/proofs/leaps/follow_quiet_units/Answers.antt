-- They are ticks of the services, which send nothing.
use Rattle.std.proofs.Common.{sym, arith, ◌∙◌}
use Rattle.device_station.proofs.Leaping.{lost_quiet, quiet_passed, within}
use Rattle.device_station.proofs.leaps.follow_quiet_units.Goals as goal

pub pass-requires : goal.pass-requires
pass-requires g c =
    (within c.args.units c.args.device.now.live.values c.args.services.now (sym c.is_lost.ensures ∙ c.if-is_lost.false) (omega (arith, c.requires))).0

pub returns-then-is_lost-clause-state : goal.returns-then-is_lost-clause-state
returns-then-is_lost-clause-state g c =
    let device = c.args.device.now in
    (lost_quiet device.station.identity device.live.values c.args.units c.args.services.now (sym c.is_lost.ensures ∙ c.if-is_lost.true)).0

pub returns-then-is_lost-clause-none : goal.returns-then-is_lost-clause-none
returns-then-is_lost-clause-none g c =
    let device = c.args.device.now in
    (lost_quiet device.station.identity device.live.values c.args.units c.args.services.now (sym c.is_lost.ensures ∙ c.if-is_lost.true)).1

pub returns-then-is_lost-clause-quiet : goal.returns-then-is_lost-clause-quiet
returns-then-is_lost-clause-quiet g c =
    let device = c.args.device.now in
    (lost_quiet device.station.identity device.live.values c.args.units c.args.services.now (sym c.is_lost.ensures ∙ c.if-is_lost.true)).2

pub returns-clause-state : goal.returns-clause-state
returns-clause-state g c =
    let device = c.args.device.now in
    (quiet_passed device.station.identity device.live.values c.args.units c.args.services.now c.pass.new.self (sym c.is_lost.ensures ∙ c.if-is_lost.false) c.requires c.pass.ensures.state).0

pub returns-clause-none : goal.returns-clause-none
returns-clause-none g c =
    let device = c.args.device.now in
    (quiet_passed device.station.identity device.live.values c.args.units c.args.services.now c.pass.new.self (sym c.is_lost.ensures ∙ c.if-is_lost.false) c.requires c.pass.ensures.state).1

pub returns-clause-quiet : goal.returns-clause-quiet
returns-clause-quiet g c =
    let device = c.args.device.now in
    (quiet_passed device.station.identity device.live.values c.args.units c.args.services.now c.pass.new.self (sym c.is_lost.ensures ∙ c.if-is_lost.false) c.requires c.pass.ensures.state).2
