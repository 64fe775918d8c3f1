-- What remains to be cleared.
use Rattle.std.proofs.Common.{◌≡◌, drop}
use Rattle.relations.specs.exchange.Modules.{all_cleared}
use Rattle.relations.proofs.exchange.data_exchange.clear_inputs.Given as goal

abbrev pub invariant-loop-mark : goal.invariant-loop-mark
invariant-loop-mark l = all_cleared l.affected (drop l.mark-index l.marks) l.cyclic ≡ all_cleared l.affected l.marks l.initial.cyclic
