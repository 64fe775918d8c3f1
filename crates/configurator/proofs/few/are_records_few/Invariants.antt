use Rattle.std.proofs.Common.{◌≡◌, ◌+◌, ◌≤◌, drop, length, sum_by}
use Rattle.configurator.proofs.few.are_records_few.Given as goal

-- how many of the 32 remain, and the remaining records
abbrev pub invariant-loop-entry : goal.invariant-loop-entry
invariant-loop-entry l = record {
  value : sum_by (λ entry. length entry.records) l.slots + l.left ≡ 32 + sum_by (λ entry. length entry.records) (drop l.entry-index l.slots);
  few : l.left ≤ 32;
}
