use Rattle.std.proofs.Common.{◌+◌, ℕ, List, ap, ◌∙◌}
use Rattle.frame_codec.specs.Sum.{words_total, carried}
use Rattle.frame_codec.proofs.Sums.{behind_four, four_on}
use Rattle.frame_codec.proofs.sum.sum_four.Goals as goal

-- four octets more
pub returns : goal.returns
returns c =
    let rest = c.args.rest.now in
    let next = c.plus_eight-next.result in
    let number = ap (λ (n : ℕ). carried (c.args.total + n)) c.read_u32.ensures in
    c.sum_end.ensures ∙ ap (λ (xs : List ℕ). carried (next + words_total xs)) (behind_four rest)
    ∙ four_on rest c.args.total next c.requires (c.plus_eight-next.ensures ∙ number)
