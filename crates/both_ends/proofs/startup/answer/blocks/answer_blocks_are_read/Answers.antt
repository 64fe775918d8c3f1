-- Each block is read back, and found.
use Rattle.both_ends.proofs.StartupAnswerFound.{input_first, output_first}
use Rattle.both_ends.proofs.startup.answer.blocks.answer_blocks_are_read.Goals as goal

pub returns-clause-input_first : goal.returns-clause-input_first
returns-clause-input_first c =
    λ number few. input_first c.args.relation.now c.args.input.now c.args.output.now
    (record { read = c.block_is_read.ensures.read; some = c.block_is_read.ensures.some })
    (record { read = c.block_is_read-2.ensures.read; some = c.block_is_read-2.ensures.some })
    (record { read = c.block_is_read-3.ensures.read; some = c.block_is_read-3.ensures.some })
    c.blocks_are_found.ensures.known c.blocks_are_found.ensures.written number few

pub returns-clause-output_first : goal.returns-clause-output_first
returns-clause-output_first c =
    λ number few. output_first c.args.relation.now c.args.input.now c.args.output.now
    (record { read = c.block_is_read.ensures.read; some = c.block_is_read.ensures.some })
    (record { read = c.block_is_read-2.ensures.read; some = c.block_is_read-2.ensures.some })
    (record { read = c.block_is_read-3.ensures.read; some = c.block_is_read-3.ensures.some })
    c.blocks_are_found.ensures.known c.blocks_are_found.ensures.written number few
