-- the cyclic data of the submodules so far, and their number
use Rattle.std.proofs.Common.{◌≡◌, ◌+◌, ◌++◌, length, drop}
use Rattle.plans.specs.Parts.{data_in_slot}
use Rattle.plans.proofs.data.push_data.Given as goal

abbrev pub invariant-loop-part : goal.invariant-loop-part
invariant-loop-part l = record {
  items : l.subs.items ++ data_in_slot l.entry.slot (drop l.part-index l.entry.submodules.items)
      ≡ l.initial.subs.items ++ data_in_slot l.entry.slot l.entry.submodules.items;
  len : length l.subs.items ≡ length l.initial.subs.items + l.part-index;
}
