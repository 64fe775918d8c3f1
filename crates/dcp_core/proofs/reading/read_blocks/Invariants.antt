-- the blocks read so far, and those still to be read
use Rattle.std.proofs.Common.{◌≡◌, ◌-◌, length, map}
use Rattle.wire.specs.Filled.{read_all}
use Rattle.wire.proofs.Lists.{with_front}
use Rattle.dcp_core.specs.declared.request.DcpFault.TheVariants as fault
use Rattle.dcp_core.specs.Request.{asked_block}
use Rattle.dcp_core.specs.Format.{block_of}
use Rattle.dcp_core.proofs.reading.read_blocks.Given as goal

abbrev pub invariant-loop-rest : goal.invariant-loop-rest
invariant-loop-rest l =
    with_front (map asked_block l.found.items) (read_all (16 - length (map asked_block l.found.items)) fault.Block (block_of l.service) l.rest)
    ≡ read_all 16 fault.Block (block_of l.service) l.fn.bytes

abbrev pub decreases-loop-rest : goal.decreases-loop-rest
decreases-loop-rest l = 16 - length l.found.items
