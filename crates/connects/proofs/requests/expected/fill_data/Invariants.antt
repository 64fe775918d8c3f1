-- What the submodules of the modules so far have, and that there is room for the rest.
use Rattle.std.proofs.Common.{◌≡◌, ◌+◌, ◌≤◌, ◌++◌, length, drop}
use Rattle.connects.specs.requests.Layouts.{data_of, data_of_modules}
use Rattle.connects.proofs.requests.expected.fill_data.Given as goal

abbrev pub invariant-loop-entry : goal.invariant-loop-entry
invariant-loop-entry l = record {
  items : l.parts.items ++ data_of_modules (drop l.entry-index l.expected.modules.items) l.left ≡ data_of l.expected;
  few : length l.parts.items + length l.left ≤ 64;
}
