-- The test of all items is the test of the remaining ones.
use Rattle.std.proofs.Common.{◌≡◌, drop}
use Rattle.c_layout.specs.Modules.{are_parameters}
use Rattle.c_layout.proofs.plugged.are_parameters.Given as goal

abbrev pub invariant-loop-i : goal.invariant-loop-i
invariant-loop-i l = are_parameters l.items ≡ are_parameters (drop l.i l.items)
