-- The test of all items is the test of the remaining ones.
use Rattle.std.proofs.Common.{◌≡◌, ◌==◌, drop}
use Rattle.std.specs.Prelude.{not}
use Rattle.std.specs.List.{list_all}
use Rattle.controller_abi.proofs.plan.are_past_point.Given as goal

abbrev pub invariant-loop-entry : goal.invariant-loop-entry
invariant-loop-entry l = list_all (λ entry. not (entry.slot == 0)) l.records ≡ list_all (λ entry. not (entry.slot == 0)) (drop l.entry-index l.records)
