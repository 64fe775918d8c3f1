-- Every block of the request matches if and only if every block of its contents does.
use Rattle.std.proofs.Common.{rules, tests, arith, sym, ◌∙◌}
use Rattle.std.proofs.lemmas.Grind.{common_steps}
use Rattle.std.proofs.lemmas.Iterator.{YieldsList-from_slice}
use Rattle.std.proofs.lemmas.Iterator.Search.{all_from_yields_List}
use Rattle.std.proofs.lemmas.List.Folds.{list_all-map}
use Rattle.dcp_core.specs.declared.request.Block.{Block}
use Rattle.dcp_core.specs.Request.{AskedBlock, asked_block}
use Rattle.controller_dcp.specs.Answers.{matches, kind_matches}
use Rattle.controller_dcp.proofs.answers.is_matched.Goals as goal

pub returns-then-not-is_empty : goal.returns-then-not-is_empty
unfolding matches
returns-then-not-is_empty c =
    let all =
    all_from_yields_List (λ (block : Block). kind_matches c.args.plan.now c.args.own.now block.kind block.contents.now) _ _ c.all.result c.all.ensures.ran
    (YieldsList-from_slice c.args.request.now.blocks.items cc) (λ x b q k. search (rules, tests))
    ∙ sym (list_all-map (λ (block : AskedBlock). kind_matches c.args.plan.now c.args.own.now block.kind block.contents) asked_block c.args.request.now.blocks.items) in
    grind (arith, common_steps, all)

pub returns-else-not-is_empty : goal.returns-else-not-is_empty
unfolding matches
returns-else-not-is_empty c = grind (arith, common_steps)
