-- Only whether power is lost, and the running settings count.
use Rattle.std.proofs.Common.{◌≤◌, ◌-◌, ℕ, List, length, subst, sym}
use Rattle.device_station.specs.Leaps.{beside_ticks}
use Rattle.device_station.proofs.Leaping.{parts_of_due}
use Rattle.device_station.proofs.Sparing.{tick_few}
use Rattle.device_station.proofs.leaps.follow_units.Goals as goal

pub pass_units-requires-clause-due : goal.pass_units-requires-clause-due
pass_units-requires-clause-due g c =
    parts_of_due c.args.units c.args.device.now.live.values c.args.services.now c.is_lost.result c.running.result.now c.is_lost.ensures c.running.ensures c.requires.due

pub returns-clause-state : goal.returns-clause-state
returns-clause-state g c =
    (c.pass_units.ensures c.args.device.now.station.identity c.args.device.now.live.values (sym c.is_lost.ensures) (sym c.running.ensures)).is

pub returns-clause-none : goal.returns-clause-none
returns-clause-none g c =
    (c.pass_units.ensures c.args.device.now.station.identity c.args.device.now.live.values (sym c.is_lost.ensures) (sym c.running.ensures)).none

pub returns-clause-quiet : goal.returns-clause-quiet
returns-clause-quiet g c =
    (c.pass_units.ensures c.args.device.now.station.identity c.args.device.now.live.values (sym c.is_lost.ensures) (sym c.running.ensures)).quiet

pub returns-clause-frames : goal.returns-clause-frames
returns-clause-frames g c =
    (c.pass_units.ensures c.args.device.now.station.identity c.args.device.now.live.values (sym c.is_lost.ensures) (sym c.running.ensures)).frames

pub returns-clause-few : goal.returns-clause-few
returns-clause-few g c =
    let identity = c.args.device.now.station.identity in
    let values = c.args.device.now.live.values in
    let follows = c.pass_units.ensures identity values (sym c.is_lost.ensures) (sym c.running.ensures) in
    subst (λ (f : List (List ℕ)). length f ≤ 2) (sym follows.frames) (tick_few identity values (beside_ticks identity values (c.args.units - 1) c.args.services.now))
