-- The refusals so far, and those of the remaining blocks.
use Rattle.std.proofs.Common.{◌≡◌, ◌≤◌, ◌++◌, drop, length, map}
use Rattle.dcp_core.specs.declared.request.Block.{Block}
use Rattle.controller_dcp.specs.Answers.{refusal}
use Rattle.controller_dcp.proofs.answers.refusals.Given as goal

abbrev pub invariant-loop-block : goal.invariant-loop-block
invariant-loop-block l = record {
  items : l.errors.items ++ map (λ (block : Block). refusal block.kind) (drop l.block-index l.blocks) ≡ map (λ (block : Block). refusal block.kind) l.blocks;
  len : length l.errors.items ≡ l.block-index;
}
