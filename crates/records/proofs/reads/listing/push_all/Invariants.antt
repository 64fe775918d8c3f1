-- The entries so far, and those of the remaining modules.
use Rattle.std.proofs.Common.{◌≡◌, ◌*◌, ◌≤◌, ◌++◌, length, drop}
use Rattle.records.specs.reads.Listing.{modules_at, submodules_at}
use Rattle.records.proofs.reads.listing.push_all.Given as goal

abbrev pub invariant-loop-entry : goal.invariant-loop-entry
invariant-loop-entry l = record {
  modules : l.modules.items ++ modules_at l.level l.slot l.subslot (drop l.entry-index l.real.modules.items) ≡ modules_at l.level l.slot l.subslot l.real.modules.items;
  submodules : l.submodules.items ++ submodules_at l.level l.slot l.subslot (drop l.entry-index l.real.modules.items) ≡ submodules_at l.level l.slot l.subslot l.real.modules.items;
  few_modules : length l.modules.items ≤ l.entry-index;
  few_submodules : length l.submodules.items ≤ 4 * l.entry-index;
}
