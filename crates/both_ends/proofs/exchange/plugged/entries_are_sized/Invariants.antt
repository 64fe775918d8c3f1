-- this holds of each module so far
use Rattle.std.proofs.Common.{take}
use Rattle.both_ends.specs.exchange.Sized.{AreSizedModules}
use Rattle.both_ends.proofs.exchange.plugged.entries_are_sized.Given as goal

abbrev pub invariant-loop-entry : goal.invariant-loop-entry
invariant-loop-entry l = AreSizedModules (take l.entry-index l.modules)
