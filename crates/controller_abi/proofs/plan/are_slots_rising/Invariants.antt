-- The test of all items is the test of the remaining ones.
use Rattle.std.proofs.Common.{◌≡◌, ◌≤◌, drop, map}
use Rattle.controller_abi.specs.Plans.{is_rising}
use Rattle.controller_abi.proofs.plan.are_slots_rising.Given as goal

abbrev pub invariant-loop-entry : goal.invariant-loop-entry
invariant-loop-entry l = record {
  left : is_rising 1 (map (λ entry. entry.slot) l.modules) ≡ is_rising l.least (map (λ entry. entry.slot) (drop l.entry-index l.modules));
  low : l.least ≤ 65536;
}
