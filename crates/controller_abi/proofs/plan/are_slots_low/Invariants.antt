-- The test of all items is the test of the remaining ones.
use Rattle.std.proofs.Common.{◌≡◌, drop}
use Rattle.std.specs.Prelude.{nat_le}
use Rattle.std.specs.List.{list_all}
use Rattle.controller_abi.proofs.plan.are_slots_low.Given as goal

abbrev pub invariant-loop-entry : goal.invariant-loop-entry
invariant-loop-entry l = list_all (λ entry. nat_le entry.slot 15) l.modules ≡ list_all (λ entry. nat_le entry.slot 15) (drop l.entry-index l.modules)
