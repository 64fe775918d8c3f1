use Rattle.std.proofs.Common.{length}
use Rattle.script_runner.proofs.Known.{IsSoFar}
use Rattle.script_runner.proofs.output.put_all.Given as goal

abbrev pub invariant-loop-rest : goal.invariant-loop-rest
invariant-loop-rest g l = IsSoFar (g.W.Write.contents l.initial.writer) (g.W.Write.contents l.writer) l.rest l.text

abbrev pub decreases-loop-rest : goal.decreases-loop-rest
decreases-loop-rest g l = length l.rest
