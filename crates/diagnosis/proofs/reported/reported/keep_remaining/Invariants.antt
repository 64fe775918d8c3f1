-- Those that remain so far, and that there is room for the rest.
use Rattle.std.proofs.Common.{◌≡◌, ◌++◌, ◌≤◌, length, drop}
use Rattle.diagnosis.specs.Existing.{remaining}
use Rattle.diagnosis.proofs.reported.reported.keep_remaining.Given as goal

abbrev pub invariant-loop-other : goal.invariant-loop-other
invariant-loop-other l = record {
  items : l.next.items ++ remaining l.gone (drop l.other-index l.other-items) ≡ remaining l.gone l.other-items;
  few : length l.next.items ≤ l.other-index;
}
