-- the copies so far and the remaining submodules are all of them
use Rattle.std.proofs.Common.{◌≡◌, ◌++◌, drop}
use Rattle.pn_values.proofs.real.RealModule.copy.Given as goal

abbrev pub invariant-loop-part : goal.invariant-loop-part
invariant-loop-part l = l.submodules.items ++ drop l.part-index l.self.submodules.items ≡ l.self.submodules.items
