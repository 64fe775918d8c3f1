use Rattle.std.proofs.Common.{◌+◌, ℕ, List, ap, ◌∙◌, arith}
use Rattle.frame_codec.specs.Sum.{words_total, carried}
use Rattle.frame_codec.proofs.Sums.{behind_eight, eight_on}
use Rattle.frame_codec.proofs.sum.sum_on.Goals as goal

-- eight octets more
pub loop-rest-preserved : goal.loop-rest-preserved
loop-rest-preserved c =
    let rest = c.loop-rest.rest.now in
    let next = c.plus_eight-total.result in
    let number = ap (λ (n : ℕ). carried (c.loop-rest.total + n)) c.read_u64.ensures in
    ap (λ (xs : List ℕ). carried (next + words_total xs)) (behind_eight rest)
    ∙ (eight_on rest c.loop-rest.total next (omega arith) (c.plus_eight-total.ensures ∙ number) ∙ c.loop-rest.invariant)
