use Rattle.std.proofs.Common.{◌≡◌, ◌+◌, length}
use Rattle.frame_codec.specs.Sum.{words_total, carried}
use Rattle.frame_codec.proofs.sum.sum_on.Given as goal

-- the total so far and the remaining octets make the whole
abbrev pub invariant-loop-rest : goal.invariant-loop-rest
invariant-loop-rest l = carried (l.total + words_total l.rest) ≡ carried (l.sum + words_total l.bytes)

abbrev pub decreases-loop-rest : goal.decreases-loop-rest
decreases-loop-rest l = length l.rest
