-- The marks so far are changed, and the rest is as it was.
use Rattle.std.proofs.Common.{◌≡◌, ◌++◌, drop, map, take}
use Rattle.relations.specs.exchange.Modules.{restated_mark}
use Rattle.relations.proofs.exchange.marks.restate.Given as goal

abbrev pub invariant-loop-mark : goal.invariant-loop-mark
invariant-loop-mark l = l.marks ≡ map (restated_mark l.plugs) (take l.mark-index l.initial.marks) ++ drop l.mark-index l.initial.marks
