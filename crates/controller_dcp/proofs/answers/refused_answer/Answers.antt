-- The refusal of each block.
use Rattle.std.proofs.Common.{List, map, sym, ap, ◌∙◌}
use Rattle.std.proofs.lemmas.Simd.{map-map}
use Rattle.pn_values.specs.declared.set_item.BlockError.{BlockError}
use Rattle.dcp_core.specs.declared.request.Block.{Block}
use Rattle.dcp_core.specs.Request.{AskedBlock, asked, asked_block}
use Rattle.dcp_core.specs.Set.{set_bytes}
use Rattle.controller_dcp.specs.Answers.{refusal}
use Rattle.controller_dcp.proofs.answers.refused_answer.Goals as goal

pub returns-clause-items : goal.returns-clause-items
returns-clause-items c =
    c.set_answer.ensures.items
    ∙ ap (λ (errors : List BlockError). set_bytes (asked c.args.request.now) errors)
    (c.refusals.ensures
    ∙ ap (λ (blocks : List Block). map (λ (block : Block). refusal block.kind) blocks) c.as_slice.ensures.value
    ∙ sym (map-map (λ (block : AskedBlock). refusal block.kind) asked_block c.args.request.now.blocks.items))
