-- The test of all items is the test of the remaining ones.
use Rattle.std.proofs.Common.{◌≡◌, drop}
use Rattle.std.specs.List.{list_any}
use Rattle.controller_abi.specs.Plans.{is_item}
use Rattle.controller_abi.proofs.plan.is_item.Given as goal

abbrev pub invariant-loop-item : goal.invariant-loop-item
invariant-loop-item l = list_any (is_item l.entry) l.items ≡ list_any (is_item l.entry) (drop l.item-index l.items)
