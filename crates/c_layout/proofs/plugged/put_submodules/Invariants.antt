-- The items so far, and the remaining ones.
use Rattle.std.proofs.Common.{◌≡◌, ◌++◌, drop, length, map, true}
use Rattle.std.specs.List.{list_all}
use Rattle.c_layout.specs.Modules.{is_submodule, submodule_of}
use Rattle.c_layout.proofs.plugged.put_submodules.Given as goal

abbrev pub invariant-loop-submodule : goal.invariant-loop-submodule
invariant-loop-submodule l = record {
  items : l.submodules.items ++ map submodule_of (drop l.submodule-index l.written) ≡ map submodule_of l.written;
  len : length l.submodules.items ≡ l.submodule-index;
  small : list_all is_submodule (drop l.submodule-index l.written) ≡ true;
}
