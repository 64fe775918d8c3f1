-- the rest of the bytes has the same fault as all of them, if there is one
use Rattle.std.proofs.Common.{◌≡◌, length}
use Rattle.dcp_core.specs.Answer.{answer_blocks}
use Rattle.dcp_core.proofs.Every.{fault_in}
use Rattle.dcp_core.proofs.answers.blocks_at.Given as goal

abbrev pub invariant-loop-rest : goal.invariant-loop-rest
invariant-loop-rest l = fault_in (answer_blocks.read l.rest) ≡ fault_in (answer_blocks.read l.fn.bytes)

abbrev pub decreases-loop-rest : goal.decreases-loop-rest
decreases-loop-rest l = length l.rest
