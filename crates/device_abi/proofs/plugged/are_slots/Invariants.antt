-- The test of all items is the test of the remaining ones.
use Rattle.std.proofs.Common.{◌≡◌, drop}
use Rattle.device_abi.specs.Stations.{are_slots}
use Rattle.device_abi.proofs.plugged.are_slots.Given as goal

abbrev pub invariant-loop-i : goal.invariant-loop-i
invariant-loop-i l = are_slots l.modules ≡ are_slots (drop l.i l.modules)
