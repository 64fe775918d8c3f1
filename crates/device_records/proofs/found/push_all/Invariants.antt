-- The entries so far, and those of the remaining modules.
use Rattle.std.proofs.Common.{◌≡◌, ◌*◌, ◌≤◌, ◌++◌, length, drop}
use Rattle.module_diff.specs.Diff.{wanted_in}
use Rattle.device_records.specs.Found.{modules_found, submodules_found}
use Rattle.device_records.proofs.found.push_all.Given as goal

abbrev pub invariant-loop-entry : goal.invariant-loop-entry
invariant-loop-entry l = record {
  modules : l.modules.items ++ modules_found (wanted_in l.expected.modules.items l.expected.submodules.items) (drop l.entry-index l.real.modules.items)
      ≡ modules_found (wanted_in l.expected.modules.items l.expected.submodules.items) l.real.modules.items;
  submodules : l.submodules.items ++ submodules_found (wanted_in l.expected.modules.items l.expected.submodules.items) (drop l.entry-index l.real.modules.items)
      ≡ submodules_found (wanted_in l.expected.modules.items l.expected.submodules.items) l.real.modules.items;
  few_modules : length l.modules.items ≤ l.entry-index;
  few_submodules : length l.submodules.items ≤ 4 * l.entry-index;
}
