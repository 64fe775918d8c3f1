use Rattle.std.proofs.Common.{◌≤◌, ◌+◌, ℕ, refl, subst, sym, arith}
use Rattle.frame_codec.proofs.Sums.{carried_most, sum_goes_on, sum_ends}
use Rattle.frame_codec.proofs.sum.sum_words.Goals as goal

pub loop-index-preserved : goal.loop-index-preserved
loop-index-preserved c = record {
  most = subst (λ (n : ℕ). n ≤ 65535) (sym c.plus-total.ensures) (carried_most (c.loop-index.total + c.word.result));
  whole = sum_goes_on c.args.bytes.now c.loop-index.index c.loop-index.total _ _ _ _ _ (omega arith) refl refl c.word.ensures c.plus-total.ensures c.loop-index.invariant.whole;
}

pub returns-in-0 : goal.returns-in-0
returns-in-0 c = sum_ends c.args.bytes.now c.loop-index.index c.loop-index.total _ (omega arith) c.loop-index.invariant.most c.loop-index.invariant.whole
