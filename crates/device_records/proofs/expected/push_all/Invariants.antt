-- The entries so far, and those of the remaining modules with the remaining submodules.
use Rattle.std.proofs.Common.{◌≡◌, ◌+◌, ◌≤◌, ◌++◌, length, drop}
use Rattle.module_diff.specs.Diff.{wanted_in}
use Rattle.device_records.specs.Expected.{modules_at, submodules_at}
use Rattle.device_records.proofs.expected.push_all.Given as goal

abbrev pub invariant-loop-entry : goal.invariant-loop-entry
invariant-loop-entry l = record {
  modules : l.modules.items ++ modules_at l.level l.slot l.subslot (wanted_in (drop l.entry-index l.expected.modules.items) l.left)
      ≡ modules_at l.level l.slot l.subslot (wanted_in l.expected.modules.items l.expected.submodules.items);
  submodules : l.submodules.items ++ submodules_at l.level l.slot l.subslot (wanted_in (drop l.entry-index l.expected.modules.items) l.left)
      ≡ submodules_at l.level l.slot l.subslot (wanted_in l.expected.modules.items l.expected.submodules.items);
  few_modules : length l.modules.items ≤ l.entry-index;
  few_submodules : length l.submodules.items + length l.left ≤ 64;
}
