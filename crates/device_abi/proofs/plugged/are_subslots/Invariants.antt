-- The test of all items is the test of the remaining ones.
use Rattle.std.proofs.Common.{◌≡◌, drop}
use Rattle.device_abi.specs.Stations.{are_subslots}
use Rattle.device_abi.proofs.plugged.are_subslots.Given as goal

abbrev pub invariant-loop-i : goal.invariant-loop-i
invariant-loop-i l = are_subslots l.submodules ≡ are_subslots (drop l.i l.submodules)
