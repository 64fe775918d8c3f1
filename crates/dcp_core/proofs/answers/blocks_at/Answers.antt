-- One block after another is read.
use Rattle.std.proofs.Common.{◌≡◌, ◌<◌, length, None, Ok, sym, ap, ◌∙◌, arith}
use Rattle.std.proofs.lemmas.Result.{err_from_is_err_and}
use Rattle.std.proofs.lemmas.Bool.Decides.{nat_tests}
use Rattle.dcp_core.specs.declared.request.DcpFault.TheVariants as fault
use Rattle.dcp_core.specs.Answer.{answer_block, answer_blocks}
use Rattle.dcp_core.specs.Answered.{answered_block, blocks_left}
use Rattle.dcp_core.proofs.Every.{fault_in, same_fault, faultless, faulty, read_step, read_fails, read_ends, values_are}
use Rattle.dcp_core.proofs.AnswerSound.{answer_block_shrinks}
use Rattle.dcp_core.proofs.answers.blocks_at.Goals as goal

pub loop-rest-preserved : goal.loop-rest-preserved
unfolding answer_blocks
loop-rest-preserved c =
    let block = answered_block c.in_ok-_block._block in
    let rest = c.in_ok-_block.behind.now in
    sym (same_fault block (answer_blocks.read rest))
    ∙ sym (ap fault_in (read_step fault.Block answer_block answer_block_shrinks c.loop-rest.rest.now block rest c.in_ok-_block.ensures))
    ∙ c.loop-rest.invariant

pub loop-rest-smaller : goal.loop-rest-smaller
loop-rest-smaller c =
    answer_block_shrinks.less c.loop-rest.rest.now (answered_block c.in_ok-_block._block) c.in_ok-_block.behind.now c.in_ok-_block.ensures

pub returns-in_err-_block : goal.returns-in_err-_block
unfolding answer_blocks
returns-in_err-_block c =
    let p = err_from_is_err_and c.from_residual.result c.from_residual.ensures.1 in
    let some : 0 < length c.loop-rest.rest.now = grind (arith, nat_tests) in
    let fault = ap fault_in (read_fails fault.Block answer_block answer_block_shrinks c.loop-rest.rest.now c.in_err-_block.field-0.0 some c.in_err-_block.ensures) in
    rw (p.1, p.2) (faulty (answer_blocks.read c.args.bytes.now) c.in_err-_block.field-0.0 (sym c.loop-rest.invariant ∙ fault))

pub returns : goal.returns
unfolding answer_blocks blocks_left
returns c =
    let none : length c.loop-rest.rest.now ≡ 0 = grind (arith, nat_tests) in
    let clean : fault_in (answer_blocks.read c.args.bytes.now) ≡ None =
    sym c.loop-rest.invariant ∙ ap fault_in (read_ends fault.Block answer_block answer_block_shrinks c.loop-rest.rest.now none) in
    let all = faultless (answer_blocks.read c.args.bytes.now) clean in
    all.1 ∙ ap (λ values. Ok values) (sym (values_are fault.Block answer_block answer_block_shrinks c.args.bytes.now all.0 all.1))
