-- the first error is among the blocks that are still to come
use Rattle.std.proofs.Common.{◌≡◌}
use Rattle.dcp_core.specs.Answered.{blocks_left}
use Rattle.commissioning.specs.Named.{error_in}
use Rattle.commissioning.proofs.naming.error_in.Given as goal

abbrev pub invariant-loop-block : goal.invariant-loop-block
invariant-loop-block l = record {
  can : (goal.iterator-loop-block).can_next l.block-iterator;
  finite : (goal.iterator-loop-block).is_finite l.block-iterator;
  first : error_in (blocks_left l.block-iterator) ≡ error_in (blocks_left l.answer.blocks);
}
