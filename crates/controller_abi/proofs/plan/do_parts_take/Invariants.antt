-- The test of all items is the test of the remaining ones.
use Rattle.std.proofs.Common.{◌≡◌, drop, true}
use Rattle.std.specs.List.{list_all, list_any}
use Rattle.c_layout.specs.Modules.{is_submodule}
use Rattle.controller_abi.specs.Plans.{does_part_take}
use Rattle.controller_abi.proofs.plan.do_parts_take.Given as goal

abbrev pub invariant-loop-submodule : goal.invariant-loop-submodule
invariant-loop-submodule l = record {
  left : list_any (does_part_take l.entry) l.submodules ≡ list_any (does_part_take l.entry) (drop l.submodule-index l.submodules);
  small : list_all is_submodule (drop l.submodule-index l.submodules) ≡ true;
}
