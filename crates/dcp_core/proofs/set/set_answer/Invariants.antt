-- the outcomes written so far, and those of the remaining pairs, for which there is room
use Rattle.std.proofs.Common.{◌≡◌, ◌+◌, ◌*◌, ◌≤◌, ◌++◌, length}
use Rattle.std.specs.List.{flat_map, zip}
use Rattle.pn_values.specs.declared.set_item.BlockError.{BlockError}
use Rattle.dcp_core.specs.declared.request.Block.{Block}
use Rattle.dcp_core.specs.Bytes.{response_bytes}
use Rattle.dcp_core.proofs.set.set_answer.Given as goal

abbrev pub invariant-loop-block : goal.invariant-loop-block
invariant-loop-block l = record {
  all : l.responses.items ++ flat_map (λ (pair : Block × BlockError). response_bytes pair.0.kind pair.1) (zip l.block-iterator.a.rest.now l.block-iterator.b.rest.now)
      ≡ flat_map (λ (pair : Block × BlockError). response_bytes pair.0.kind pair.1) (zip l.request.blocks.items l.answers.items);
  room : length l.responses.items + 8 * length l.block-iterator.b.rest.now ≤ 128;
}
