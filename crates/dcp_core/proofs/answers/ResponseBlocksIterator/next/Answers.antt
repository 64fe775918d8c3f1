-- The first block of the bytes.
use Rattle.std.proofs.Common.{length, ap, rules}
use Rattle.dcp_core.specs.declared.request.DcpFault.TheVariants as fault
use Rattle.dcp_core.specs.Answer.{answer_block}
use Rattle.dcp_core.specs.Answered.{answered_block, blocks_left}
use Rattle.dcp_core.proofs.Every.{values_step, values_end}
use Rattle.dcp_core.proofs.AnswerSound.{answer_block_shrinks}
use Rattle.dcp_core.proofs.answers.ResponseBlocksIterator.next.Goals as goal

pub returns-in-Ok-clause-steps : goal.returns-in-Ok-clause-steps
unfolding blocks_left
returns-in-Ok-clause-steps c =
    values_step fault.Block answer_block answer_block_shrinks c.args.self.now.bytes.now (answered_block c.in-Ok.block) c.in-Ok.rest.now c.in-Ok.ensures

pub returns-in-Ok-clause-goes : goal.returns-in-Ok-clause-goes
unfolding blocks_left
returns-in-Ok-clause-goes c =
    let step = values_step fault.Block answer_block answer_block_shrinks c.args.self.now.bytes.now (answered_block c.in-Ok.block) c.in-Ok.rest.now c.in-Ok.ensures in
    let shorter = ap length step in search rules

pub returns-in-Err-clause-steps : goal.returns-in-Err-clause-steps
unfolding blocks_left
returns-in-Err-clause-steps c =
    let none = values_end fault.Block answer_block answer_block_shrinks c.args.self.now.bytes.now c.in-Err.field-0 c.in-Err.ensures in (none, none)
