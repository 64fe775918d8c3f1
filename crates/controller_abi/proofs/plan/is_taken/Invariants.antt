-- The test of all items is the test of the remaining ones.
use Rattle.std.proofs.Common.{◌≡◌, drop, true}
use Rattle.std.specs.List.{list_all, list_any}
use Rattle.c_layout.specs.Modules.{is_module}
use Rattle.controller_abi.specs.Plans.{does_take}
use Rattle.controller_abi.proofs.plan.is_taken.Given as goal

abbrev pub invariant-loop-plugged : goal.invariant-loop-plugged
invariant-loop-plugged l = record {
  left : list_any (does_take l.entry) l.modules ≡ list_any (does_take l.entry) (drop l.plugged-index l.modules);
  small : list_all is_module (drop l.plugged-index l.modules) ≡ true;
}
