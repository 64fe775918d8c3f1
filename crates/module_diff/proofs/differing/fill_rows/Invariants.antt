-- The rows so far, and those of the remaining modules with the remaining submodules.
use Rattle.std.proofs.Common.{◌≡◌, ◌+◌, ◌≤◌, ◌++◌, length, drop}
use Rattle.module_diff.specs.Diff.{module_rows, submodule_rows, wanted_in}
use Rattle.module_diff.proofs.differing.fill_rows.Given as goal

abbrev pub invariant-loop-entry : goal.invariant-loop-entry
invariant-loop-entry l = record {
  modules : l.modules.items ++ module_rows l.real.modules.items (wanted_in (drop l.entry-index l.expected.modules.items) l.left)
      ≡ module_rows l.real.modules.items (wanted_in l.expected.modules.items l.expected.submodules.items);
  submodules : l.submodules.items ++ submodule_rows l.real.modules.items (wanted_in (drop l.entry-index l.expected.modules.items) l.left)
      ≡ submodule_rows l.real.modules.items (wanted_in l.expected.modules.items l.expected.submodules.items);
  few_modules : length l.modules.items ≤ l.entry-index;
  few_submodules : length l.submodules.items + length l.left ≤ 64;
}
