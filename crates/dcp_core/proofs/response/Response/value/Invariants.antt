-- the first value is among the blocks that are still to come
use Rattle.std.proofs.Common.{◌≡◌}
use Rattle.dcp_core.specs.Answered.{blocks_left, value_among}
use Rattle.dcp_core.proofs.response.Response.value.Given as goal

abbrev pub invariant-loop-block : goal.invariant-loop-block
invariant-loop-block l = record {
  can : (goal.iterator-loop-block).can_next l.block-iterator;
  finite : (goal.iterator-loop-block).is_finite l.block-iterator;
  first : value_among l.kind (blocks_left l.block-iterator) ≡ value_among l.kind (blocks_left l.self.blocks);
}
