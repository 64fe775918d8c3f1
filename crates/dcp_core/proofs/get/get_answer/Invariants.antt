-- what was written and what follows make the whole response, and there is room
use Rattle.std.proofs.Common.{◌≤◌, length, option_map}
use Rattle.dcp_core.specs.Get.{got}
use Rattle.dcp_core.proofs.Pairs.{IsSoFar}
use Rattle.dcp_core.proofs.get.get_answer.Given as goal

abbrev pub invariant-loop-index : goal.invariant-loop-index
invariant-loop-index l = record {
  so_far : IsSoFar (got l.identity l.settings (option_map (λ alias. alias.now.items) l.alias)) l.blocks.items l.asked_for l.index;
  few : length l.asked_for ≤ 16;
}
