-- The blocks that are tested are those of the response.
use Rattle.std.proofs.Common.{rules, tests, refl}
use Rattle.std.proofs.lemmas.Iterator.Search.{all_from_yields_List}
use Rattle.std.proofs.lemmas.Iterator.Consumers.{YieldsList-from_first}
use Rattle.dcp_core.specs.Answered.{answered_block, blocks_left, is_positive}
use Rattle.dcp_core.proofs.response.Response.refuses_nothing.Goals as goal

pub returns : goal.returns
returns c =
    all_from_yields_List is_positive _ _ c.all.result c.all.ensures.ran
    (YieldsList-from_first answered_block blocks_left (blocks_left c.args.self.now.blocks) refl) (λ x b q k. search (rules, tests))
