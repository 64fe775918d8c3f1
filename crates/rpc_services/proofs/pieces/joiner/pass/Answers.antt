-- One place after another.
use Rattle.std.proofs.Common.{ℕ, ap, ◌∙◌, set, get_or}
use Rattle.std.proofs.lemmas.List.Edits.{map_over_more}
use Rattle.rpc_services.specs.pieces.State.{older_than}
use Rattle.rpc_services.proofs.PiecesPlaces.{get_same}
use Rattle.rpc_services.proofs.pieces.joiner.pass.Goals as goal

pub loop-index-preserved : goal.loop-index-preserved
loop-index-preserved c =
    let at = get_or c.loop-index.ages c.loop-index.index 0 in
    ap (λ (n : ℕ). set c.loop-index.ages c.loop-index.index n) c.older_than.ensures
    ∙ map_over_more (older_than c.args.age) c.args.ages.now c.loop-index.ages c.loop-index.index at c.loop-index-test.true c.loop-index.invariant (get_same c.loop-index.ages c.loop-index.index)
