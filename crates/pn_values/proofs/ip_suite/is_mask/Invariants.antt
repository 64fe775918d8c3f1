-- no number of zeros below this one fits
use Rattle.std.proofs.Common.{◌≢◌, ◌+◌, ◌<◌, ◌^◌, ℕ}
use Rattle.pn_values.proofs.ip_suite.is_mask.Given as goal

abbrev pub invariant-loop-zeros : goal.invariant-loop-zeros
invariant-loop-zeros l = (k : ℕ) → k < l.zeros → l.number + 2 ^ k ≢ 2 ^ 32
