-- What the submodules so far have, and that there is room for the rest.
use Rattle.std.proofs.Common.{◌≡◌, ◌+◌, ◌++◌, length, drop}
use Rattle.connects.specs.requests.Layouts.{data_in_slot}
use Rattle.connects.proofs.requests.expected.push_data.Given as goal

abbrev pub invariant-loop-part : goal.invariant-loop-part
invariant-loop-part l = record {
  items : l.parts.items ++ data_in_slot l.slot (drop l.part-index l.own) ≡ l.initial.parts.items ++ data_in_slot l.slot l.own;
  len : length l.parts.items ≡ length l.initial.parts.items + l.part-index;
}
