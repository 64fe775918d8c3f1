-- This follows from the law of the plan's Connect and the laws of this crate.
use Rattle.std.proofs.Common.{◌+◌, refl, ◌∙◌, arith}
use Rattle.both_ends.specs.startup.answer.Answer.{answer_blocks, answer_frame}
use Rattle.both_ends.proofs.StartupAnswerAnswered.{all_there, answers_so, blocks_written, goes_on, heard_as_made}
use Rattle.both_ends.proofs.startup.answer.law.connect_answer_is_read.Goals as goal

pub returns-clause-answered : goal.returns-clause-answered
returns-clause-answered c = answers_so c.args.setup.now c.args.identity.now

pub returns-clause-accepts : goal.returns-clause-accepts
returns-clause-accepts c = c.connect_is_taken.ensures.least

pub returns-clause-heard : goal.returns-clause-heard
returns-clause-heard c = λ some options accepts.
    heard_as_made c.args.setup.now c.args.identity.now options c.args.number c.args.address c.as_slice.result.now c.controller.result.now c.header_of.result
    (c.connect_is_taken.ensures.own options some accepts) c.connect_is_taken.ensures.same c.controller.ensures.value c.header_of.ensures
    (c.as_slice.ensures.value ∙ (c.blocks_of-blocks.ensures.value ∙ blocks_written c.args.setup.now c.args.identity.now c.args.number (c.args.number + 1) (omega arith))) c.answers_are_read.ensures.heard

pub returns-clause-found : goal.returns-clause-found
returns-clause-found c = all_there c.args.setup.now c.args.identity.now c.args.number (c.answer_blocks_are_read.ensures.input_first c.args.number c.requires refl refl)

pub returns-clause-goes_on : goal.returns-clause-goes_on
returns-clause-goes_on c = λ some options accepts live asked.
    goes_on c.args.setup.now live (answer_frame c.args.setup.now c.args.identity.now options c.args.number c.args.address) (answer_blocks c.args.setup.now c.args.identity.now c.args.number) c.args.number
    (returns-clause-found c) (returns-clause-heard c some options accepts) asked
