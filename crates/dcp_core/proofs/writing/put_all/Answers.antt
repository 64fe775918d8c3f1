-- One more block is written, and none is left after the last one.
use Rattle.std.proofs.Common.{ℕ, List, drop, length, ap, arith, ◌∙◌}
use Rattle.std.proofs.lemmas.List.{drop_all}
use Rattle.dcp_core.specs.Request.{asked}
use Rattle.dcp_core.proofs.Written.{room, sized, step, whole}
use Rattle.dcp_core.proofs.writing.put_all.Goals as goal

pub put_asked-requires : goal.put_asked-requires
put_asked-requires c =
    room c.args.request.now.service c.as_slice-block-items.result.now c.loop-block.block-index _ c.loop-block.data.items _ 1488 c.loop-block-test.true
    c.loop-block.invariant c.requires.few

pub loop-block-preserved : goal.loop-block-preserved
loop-block-preserved c =
    step c.args.request.now.service c.as_slice-block-items.result.now c.loop-block.block-index _ c.loop-block.data.items c.put_asked.new.data.items _
    c.loop-block-test.true c.loop-block.invariant c.put_asked.ensures.items

pub returns-clause-len : goal.returns-clause-len
returns-clause-len c =
    let request = asked c.args.request.now in
    let left = drop_all c.loop-block.block-index c.as_slice-block-items.result.now (omega (arith, c.loop-block-test.false, c.loop-block.auto)) in
    ap (λ (xs : List ℕ). length xs) (whole request.service c.loop-block.data.items (drop c.loop-block.block-index c.as_slice-block-items.result.now) request.blocks left c.loop-block.invariant)
    ∙ sized request.service request.blocks

pub returns-clause-items : goal.returns-clause-items
returns-clause-items c =
    let request = asked c.args.request.now in
    let left = drop_all c.loop-block.block-index c.as_slice-block-items.result.now (omega (arith, c.loop-block-test.false, c.loop-block.auto)) in
    whole request.service c.loop-block.data.items (drop c.loop-block.block-index c.as_slice-block-items.result.now) request.blocks left c.loop-block.invariant
