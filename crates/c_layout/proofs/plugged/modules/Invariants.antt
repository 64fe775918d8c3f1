-- The items so far, and the remaining ones.
use Rattle.std.proofs.Common.{◌≡◌, ◌++◌, drop, length, map, true}
use Rattle.std.specs.List.{list_all}
use Rattle.c_layout.specs.Modules.{is_module, module_of}
use Rattle.c_layout.proofs.plugged.modules.Given as goal

abbrev pub invariant-loop-entry : goal.invariant-loop-entry
invariant-loop-entry l = record {
  items : l.modules.items ++ map module_of (drop l.entry-index l.written) ≡ map module_of l.written;
  len : length l.modules.items ≡ l.entry-index;
  small : list_all is_module (drop l.entry-index l.written) ≡ true;
}
