-- The units so far passed, one step each.
use Rattle.std.proofs.Common.{◌≡◌, ◌-◌, ◌≤◌, None}
use Rattle.device_station.specs.port.Served.{barred_both}
use Rattle.device_station.specs.port.ServedSteps.{TicksBoth}
use Rattle.device_station.proofs.port.served.Port.tick_both.Given as goal

abbrev pub invariant-loop-left : goal.invariant-loop-left
invariant-loop-left l = record {
  few : l.left ≤ l.units;
  ticks : TicksBoth (l.units - l.left) l.initial.self l.self;
  free : barred_both l.self ≡ None;
}

abbrev pub decreases-loop-left : goal.decreases-loop-left
decreases-loop-left l = l.left
