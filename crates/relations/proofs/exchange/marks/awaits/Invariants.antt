-- None of the marks so far is that of the submodule.
use Rattle.std.proofs.Common.{◌≡◌, drop}
use Rattle.relations.specs.exchange.Marks.{mark_at}
use Rattle.relations.proofs.exchange.marks.awaits.Given as goal

abbrev pub invariant-loop-mark : goal.invariant-loop-mark
invariant-loop-mark l = mark_at l.slot l.subslot (drop l.mark-index l.marks) ≡ mark_at l.slot l.subslot l.marks
