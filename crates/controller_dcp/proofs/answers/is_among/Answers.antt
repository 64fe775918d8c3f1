-- The iterator chain compares the kind with that of each block.
use Rattle.std.proofs.Common.{rules, tests, sym, ◌∙◌}
use Rattle.std.proofs.lemmas.Iterator.{YieldsList-from_slice}
use Rattle.std.proofs.lemmas.Iterator.Search.{any_from_yields_List}
use Rattle.dcp_core.specs.declared.request.Block.{Block}
use Rattle.dcp_core.specs.Kinds.{is_same}
use Rattle.controller_dcp.proofs.Lists.{list_any-map}
use Rattle.controller_dcp.proofs.answers.is_among.Goals as goal

pub returns : goal.returns
returns c =
    any_from_yields_List (λ (block : Block). is_same c.args.kind block.kind) _ _ c.any.result c.any.ensures.ran
    (YieldsList-from_slice c.args.earlier.now cc) (λ x b q k. search (rules, tests))
    ∙ sym (list_any-map (is_same c.args.kind) (λ (block : Block). block.kind) c.args.earlier.now)
