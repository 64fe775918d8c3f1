-- The places so far are new, and the marks are theirs.
use Rattle.std.proofs.Common.{◌≡◌, length, drop}
use Rattle.cyclic_data.specs.Seen.{has_unknown, seen_behind}
use Rattle.cyclic_data.proofs.judge.Judge.has_unknown.Given as goal

abbrev pub invariant-loop-place : goal.invariant-loop-place
invariant-loop-place l = record {
  size : length l.seen ≡ 128;
  value : has_unknown l.self.direction l.self.expected.now l.seen (drop l.place-index l.places)
      ≡ has_unknown l.self.direction l.self.expected.now l.initial.seen l.places;
  seen : seen_behind l.self.direction l.self.expected.now l.seen (drop l.place-index l.places)
      ≡ seen_behind l.self.direction l.self.expected.now l.initial.seen l.places;
}
