-- Only one place changes.
use Rattle.std.proofs.Common.{◌≤◌, ◌∙◌, arith}
use Rattle.std.proofs.lemmas.List.{length-set}
use Rattle.std.proofs.lemmas.List.Elements.{All-set}
use Rattle.rpc_services.specs.pieces.State.{Unfinished}
use Rattle.rpc_services.proofs.pieces.joiner.Joiner.join.Goals as goal

pub invariant_of-self : goal.invariant_of-self
invariant_of-self c =
    let j = c.self.inside in
    let busy = c.self.invariant.2 in
    let old = c.self.invariant.1 c.place_of-place.result c.index-self-place.result c.place_of-place.ensures.there in (
      length-set j.calls _ _ ∙ c.self.invariant.0,
      All-set (λ (u : Unfinished). u.left ≤ 64000) j.calls _ _ (c.take.ensures.young (omega (arith, old, busy)))
          (λ k d there. let few = c.self.invariant.1 k d there in omega (arith, few, busy)),
      omega arith,
      omega (arith, c.begin_at.auto.ages, c.self.invariant.3),
      c.begin_at.ensures.few,
    )
