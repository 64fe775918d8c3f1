-- The entries so far, and those of the remaining modules.
use Rattle.std.proofs.Common.{◌≡◌, ◌*◌, ◌≤◌, ◌++◌, length, drop}
use Rattle.im_records.specs.Plugged.{modules_in, submodules_in}
use Rattle.im_records.proofs.plugged.push_all.Given as goal

abbrev pub invariant-loop-entry : goal.invariant-loop-entry
invariant-loop-entry l = record {
  modules : l.modules.items ++ modules_in (drop l.entry-index l.real.modules.items) ≡ modules_in l.real.modules.items;
  submodules : l.submodules.items ++ submodules_in (drop l.entry-index l.real.modules.items) ≡ submodules_in l.real.modules.items;
  few_modules : length l.modules.items ≤ l.entry-index;
  few_submodules : length l.submodules.items ≤ 4 * l.entry-index;
}
