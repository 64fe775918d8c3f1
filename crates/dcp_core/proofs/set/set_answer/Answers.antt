-- No pair is left at the end.
use Rattle.std.proofs.Common.{◌≡◌, ◌++◌, ℕ, List, sym, ap, ◌∙◌}
use Rattle.std.specs.List.{flat_map, zip}
use Rattle.std.proofs.lemmas.List.{append-nil}
use Rattle.std.proofs.lemmas.Slice.Zip.{either_empty_from_Zip}
use Rattle.pn_values.specs.declared.set_item.BlockError.{BlockError}
use Rattle.dcp_core.specs.declared.request.Block.{Block}
use Rattle.dcp_core.specs.Request.{AskedBlock, asked_block}
use Rattle.dcp_core.specs.Bytes.{response_bytes, answer_bytes}
use Rattle.dcp_core.specs.Set.{set_bytes}
use Rattle.dcp_core.proofs.Lists.{flat_map-zip-map, flat_map-zip-nil}
use Rattle.dcp_core.proofs.set.set_answer.Goals as goal

pub returns-clause-items : goal.returns-clause-items
unfolding set_bytes
returns-clause-items c =
    let response : Block × BlockError → List ℕ = λ pair. response_bytes pair.0.kind pair.1 in
    let seen : AskedBlock × BlockError → List ℕ = λ pair. response_bytes pair.0.kind pair.1 in
    let none = flat_map-zip-nil response c.loop-block.block-iterator.a.rest.now c.loop-block.block-iterator.b.rest.now
    (either_empty_from_Zip c.loop-block.block-iterator c.next.new.self c.next.result c.in-None.is c.next.ensures.steps) in
    let all : c.loop-block.responses.items ≡ flat_map response (zip c.args.request.now.blocks.items c.args.answers.now.items) =
    sym (append-nil c.loop-block.responses.items) ∙ ap (λ (rest : List ℕ). c.loop-block.responses.items ++ rest) (sym none) ∙ c.loop-block.invariant.all in
    c.put_answer.ensures.items ∙ ap (λ (blocks : List ℕ). answer_bytes 4 c.args.request.now.xid blocks)
    (all ∙ sym (flat_map-zip-map seen asked_block c.args.request.now.blocks.items c.args.answers.now.items))
