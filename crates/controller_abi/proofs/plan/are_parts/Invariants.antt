-- The test of all items is the test of the remaining ones.
use Rattle.std.proofs.Common.{◌≡◌, drop, true}
use Rattle.std.specs.List.{list_all}
use Rattle.c_layout.specs.Modules.{is_submodule}
use Rattle.controller_abi.specs.Plans.{is_part}
use Rattle.controller_abi.proofs.plan.are_parts.Given as goal

abbrev pub invariant-loop-submodule : goal.invariant-loop-submodule
invariant-loop-submodule l = record {
  left : list_all is_part l.submodules ≡ list_all is_part (drop l.submodule-index l.submodules);
  small : list_all is_submodule (drop l.submodule-index l.submodules) ≡ true;
}
