-- The units so far passed, one step each, and nothing is due before that many more.
use Rattle.std.proofs.Common.{◌≡◌, ◌-◌, ◌≤◌, ◌<◌, None}
use Rattle.device_core.specs.Leaps.{live_due_in}
use Rattle.device_station.specs.port.State.{barred}
use Rattle.device_station.specs.port.Steps.{Ticks}
use Rattle.device_station.proofs.port.device.DevicePort.pass.Given as goal

abbrev pub invariant-loop-due : goal.invariant-loop-due
invariant-loop-due l = record {
  few : l.left ≤ l.units;
  ticks : Ticks (l.units - l.left) l.initial.self l.self;
  free : barred l.self ≡ None;
  due : l.due ≤ live_due_in l.self.device.live;
  some : 0 < l.due;
}

abbrev pub decreases-loop-due : goal.decreases-loop-due
decreases-loop-due l = l.left
