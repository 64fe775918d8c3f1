-- the copies so far and the remaining modules are all of them
use Rattle.std.proofs.Common.{◌≡◌, ◌++◌, drop}
use Rattle.pn_values.proofs.real.Real.replace_by.Given as goal

abbrev pub invariant-loop-entry : goal.invariant-loop-entry
invariant-loop-entry l = l.self.modules.items ++ drop l.entry-index l.given.modules.items ≡ l.given.modules.items
