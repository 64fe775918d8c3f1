-- The test of all items is the test of the remaining ones.
use Rattle.std.proofs.Common.{◌≡◌, drop}
use Rattle.std.specs.List.{list_all}
use Rattle.controller_abi.specs.Plans.{is_record}
use Rattle.controller_abi.proofs.plan.are_records.Given as goal

abbrev pub invariant-loop-entry : goal.invariant-loop-entry
invariant-loop-entry l = list_all (is_record l.modules) l.records ≡ list_all (is_record l.modules) (drop l.entry-index l.records)
