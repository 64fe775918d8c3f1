-- The rows so far do not list the submodule, and the remaining submodules are those of the remaining modules.
use Rattle.std.proofs.Common.{◌≡◌, drop}
use Rattle.module_diff.specs.Diff.{lists}
use Rattle.plan_places.proofs.listed.lists.Given as goal

abbrev pub invariant-loop-row : goal.invariant-loop-row
invariant-loop-row l = lists l.slot l.subslot (drop l.row-index l.modules) l.left ≡ lists l.slot l.subslot l.modules l.submodules
