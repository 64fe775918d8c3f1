-- the submodules so far
use Rattle.std.proofs.Common.{◌≡◌, ◌++◌, drop, length, map}
use Rattle.plans.specs.Parts.{submodule_of}
use Rattle.plans.proofs.data.submodules_of.Given as goal

abbrev pub invariant-loop-part : goal.invariant-loop-part
invariant-loop-part l = record {
  items : l.submodules.items ++ map submodule_of (drop l.part-index l.entry.submodules.items) ≡ map submodule_of l.entry.submodules.items;
  len : length l.submodules.items ≡ l.part-index;
}
