-- The others so far, and that there is room for the rest.
use Rattle.std.proofs.Common.{◌≡◌, ◌++◌, ◌≤◌, not, length, drop}
use Rattle.std.specs.List.{filter}
use Rattle.diagnosis.specs.reported.Reported.{is_gone}
use Rattle.diagnosis.proofs.reported.reported.keep_others.Given as goal

abbrev pub invariant-loop-other : goal.invariant-loop-other
invariant-loop-other l = record {
  items : l.next.items ++ filter (λ other. not (is_gone l.whole_channel l.diagnosis other)) (drop l.other-index l.other-items)
      ≡ filter (λ other. not (is_gone l.whole_channel l.diagnosis other)) l.other-items;
  few : length l.next.items ≤ l.other-index;
}
