use Rattle.std.proofs.Common.{ℕ, ap, ◌∙◌}
use Rattle.frame_codec.specs.Sum.{complement_of_sum}
use Rattle.frame_codec.proofs.Sums.{all_ones, not_all_ones}
use Rattle.frame_codec.proofs.udp.UdpHeader.seal.Goals as goal

pub returns-then-sum : goal.returns-then-sum
returns-then-sum c = ap (λ (n : ℕ). record c.args.self { checksum = n }) (all_ones c.sum_with-sum.result c.if-sum.true ∙ ap complement_of_sum c.sum_with-sum.ensures)

pub returns-else-sum : goal.returns-else-sum
returns-else-sum c = ap (λ (n : ℕ). record c.args.self { checksum = n }) (not_all_ones c.sum_with-sum.result c.if-sum.false ∙ ap complement_of_sum c.sum_with-sum.ensures)
