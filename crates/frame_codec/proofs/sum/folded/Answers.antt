use Rattle.std.proofs.Common.{◌≡◌, ◌+◌, ◌/◌, ◌%◌, ℕ, ap, ◌∙◌, arith}
use Rattle.frame_codec.specs.Sum.{carried}
use Rattle.frame_codec.proofs.Sums.{carried_halves, carried_quarters}
use Rattle.frame_codec.proofs.sum.folded.Goals as goal

-- each time the number stays the same modulo 65,535
pub returns : goal.returns
returns c =
    let once : ℕ = c.args.total / 4294967296 + c.args.total % 4294967296 in
    let twice : ℕ = once / 65536 + once % 65536 in
    let turned : twice % 65536 + twice / 65536 ≡ twice / 65536 + twice % 65536 = omega arith in
    c.plus.ensures ∙ ap carried turned ∙ carried_quarters twice ∙ carried_quarters once ∙ carried_halves c.args.total
