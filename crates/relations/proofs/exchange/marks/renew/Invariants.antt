-- The marks so far are changed, and the rest is as it was.
use Rattle.std.proofs.Common.{◌≡◌, ◌++◌, drop, map, take}
use Rattle.relations.specs.exchange.Modules.{renewed_mark}
use Rattle.relations.proofs.exchange.marks.renew.Given as goal

abbrev pub invariant-loop-mark : goal.invariant-loop-mark
invariant-loop-mark l = l.marks ≡ map (renewed_mark l.affected l.begin_bad) (take l.mark-index l.initial.marks) ++ drop l.mark-index l.initial.marks
