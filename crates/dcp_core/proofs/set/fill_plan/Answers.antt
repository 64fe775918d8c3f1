-- The items of all blocks are the plan.
use Rattle.std.proofs.Common.{◌≡◌, Bool, List, map, take, ap, sym, ◌∙◌, take_all}
use Rattle.std.proofs.lemmas.Simd.{map-map}
use Rattle.dcp_core.specs.declared.request.Block.{Block}
use Rattle.dcp_core.specs.declared.request.Request.{Request}
use Rattle.dcp_core.specs.Request.{AskedBlock, asked, asked_block}
use Rattle.dcp_core.specs.Set.{item_of, plan_of}
use Rattle.dcp_core.proofs.set.fill_plan.Goals as goal

-- the plan, block by block
whole : (in_operation : Bool) (request : Request) → map (λ (block : Block). item_of in_operation block.kind block.contents.now) request.blocks.items ≡ plan_of in_operation (asked request)
unfolding plan_of
whole in_operation request =
    sym (map-map (λ (block : AskedBlock). item_of in_operation block.kind block.contents) asked_block request.blocks.items)

pub returns-clause-items : goal.returns-clause-items
returns-clause-items c =
    let all : take c.loop-block.block-index c.as_slice-blocks.result.now ≡ c.args.request.now.blocks.items =
    take_all c.loop-block.block-index c.as_slice-blocks.result.now c.loop-block-test.false ∙ c.as_slice-blocks.ensures.value in
    c.loop-block.invariant.planned
    ∙ ap (λ (blocks : List Block). map (λ (block : Block). item_of c.args.in_operation block.kind block.contents.now) blocks) all
    ∙ whole c.args.in_operation c.args.request.now
