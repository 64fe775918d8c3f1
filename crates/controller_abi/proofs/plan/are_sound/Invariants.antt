-- The test of all items is the test of the remaining ones.
use Rattle.std.proofs.Common.{◌≡◌, drop, true}
use Rattle.std.specs.List.{list_all}
use Rattle.c_layout.specs.Modules.{is_module}
use Rattle.controller_abi.specs.Plans.{is_sound}
use Rattle.controller_abi.proofs.plan.are_sound.Given as goal

abbrev pub invariant-loop-entry : goal.invariant-loop-entry
invariant-loop-entry l = record {
  left : list_all is_sound l.modules ≡ list_all is_sound (drop l.entry-index l.modules);
  small : list_all is_module (drop l.entry-index l.modules) ≡ true;
}
