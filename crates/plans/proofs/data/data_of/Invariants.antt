-- the cyclic data of the submodules of the modules so far, at most four for each
use Rattle.std.proofs.Common.{◌≡◌, ◌*◌, ◌≤◌, ◌++◌, length, drop}
use Rattle.plans.specs.Parts.{data_of}
use Rattle.plans.proofs.data.data_of.Given as goal

abbrev pub invariant-loop-entry : goal.invariant-loop-entry
invariant-loop-entry l = record {
  items : l.subs.items ++ data_of (drop l.entry-index l.real.modules.items) ≡ data_of l.real.modules.items;
  few : length l.subs.items ≤ 4 * l.entry-index;
}
