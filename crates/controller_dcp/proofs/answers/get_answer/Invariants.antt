-- what was written and what follows make the whole response, and there is room
use Rattle.std.proofs.Common.{◌≤◌, length}
use Rattle.controller_dcp.proofs.Pairs.{IsSoFar}
use Rattle.controller_dcp.specs.Answers.{got}
use Rattle.controller_dcp.proofs.answers.get_answer.Given as goal

abbrev pub invariant-loop-index : goal.invariant-loop-index
invariant-loop-index l = record {
  so_far : IsSoFar (got l.plan l.own) l.blocks.items l.asked_for l.index;
  few : length l.asked_for ≤ 16;
}
