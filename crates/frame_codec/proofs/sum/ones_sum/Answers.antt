use Rattle.std.proofs.Common.{◌≡◌, ℕ, ◌%◌, ap, sym, ◌∙◌, arith}
use Rattle.frame_codec.specs.Sum.{words_total, carried, ones_sum_of}
use Rattle.frame_codec.proofs.Sums.{carried_zero, carried_equal, no_words, only_no_words}
use Rattle.frame_codec.proofs.sum.ones_sum.Goals as goal

abbrev summed : (c : goal.After-sum_on) → c.sum_on.result ≡ carried (words_total c.args.bytes.now)
summed c = c.sum_on.ensures ∙ ap carried (omega arith)

pub returns-clause-zero : goal.returns-clause-zero
returns-clause-zero c = λ all. summed c ∙ ap carried (no_words c.args.bytes.now all)

pub returns-clause-only_zero : goal.returns-clause-only_zero
returns-clause-only_zero c = λ none. only_no_words c.args.bytes.now (carried_zero _ (sym (summed c) ∙ none))

pub returns-clause-equal : goal.returns-clause-equal
returns-clause-equal c = ap (λ (n : ℕ). n % 65535) (summed c) ∙ carried_equal (words_total c.args.bytes.now)

pub returns-clause-exact : goal.returns-clause-exact
unfolding ones_sum_of
returns-clause-exact c = summed c
