-- No place of the submodules so far is missing.
use Rattle.std.proofs.Common.{◌≡◌, drop}
use Rattle.cyclic_data.specs.Seen.{has_missing}
use Rattle.cyclic_data.proofs.judge.Judge.has_missing.Given as goal

abbrev pub invariant-loop-index : goal.invariant-loop-index
invariant-loop-index l = has_missing l.self.direction l.self.expected.now l.seen (drop l.index l.self.expected.now)
    ≡ has_missing l.self.direction l.self.expected.now l.seen l.self.expected.now
