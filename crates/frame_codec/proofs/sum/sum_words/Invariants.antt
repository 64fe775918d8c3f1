use Rattle.std.proofs.Common.{◌≡◌, ◌≤◌, ◌+◌, ◌*◌, drop}
use Rattle.frame_codec.specs.Sum.{words_total, carried}
use Rattle.frame_codec.proofs.sum.sum_words.Given as goal

-- the sum so far and the remaining words make the whole
abbrev pub invariant-loop-index : goal.invariant-loop-index
invariant-loop-index l = record {
  most : l.total ≤ 65535;
  whole : carried (l.total + words_total (drop (2 * l.index) l.bytes)) ≡ carried (l.sum + words_total l.bytes);
}
