-- None of the marks so far is that of the submodule.
use Rattle.std.proofs.Common.{◌≡◌, drop}
use Rattle.controller_core.specs.stored.Outputs.{mark_at}
use Rattle.controller_core.proofs.stored.outputs.awaits.Given as goal

abbrev pub invariant-loop-mark : goal.invariant-loop-mark
invariant-loop-mark l = mark_at l.slot l.subslot (drop l.mark-index l.marks) ≡ mark_at l.slot l.subslot l.marks
