-- what is written so far, followed by the remaining blocks, is everything
use Rattle.std.proofs.Common.{◌≡◌, ◌++◌, drop, map}
use Rattle.wire.specs.Filled.{write_all}
use Rattle.dcp_core.specs.Format.{block_of}
use Rattle.dcp_core.specs.Request.{asked_block}
use Rattle.dcp_core.proofs.writing.put_all.Given as goal

abbrev pub invariant-loop-block : goal.invariant-loop-block
invariant-loop-block l =
    l.data.items ++ write_all (block_of l.request.service) (map asked_block (drop l.block-index l.block-items))
    ≡ write_all (block_of l.request.service) (map asked_block l.request.blocks.items)
