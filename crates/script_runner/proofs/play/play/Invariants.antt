use Rattle.std.proofs.Common.{ℕ, List, Option, ◌+◌, ◌≤◌, length}
use Rattle.plans.specs.declared.parts.Parts.{Parts}
use Rattle.script_runner.specs.Script.{ArePlansOf}
use Rattle.script_runner.proofs.Playing.{IsBetween}
use Rattle.script_runner.proofs.play.play.Given as goal

abbrev pub invariant-loop-rest : goal.invariant-loop-rest
invariant-loop-rest g l =
    (l.number + length l.rest ≤ length l.input)
    × ((plans : List ℕ → Option Parts) → ArePlansOf plans l.input → IsBetween plans (g.W.Write.contents l.fn.writer) (g.W.Write.contents l.writer) l.session l.number l.rest l.input)

abbrev pub decreases-loop-rest : goal.decreases-loop-rest
decreases-loop-rest g l = length l.rest
