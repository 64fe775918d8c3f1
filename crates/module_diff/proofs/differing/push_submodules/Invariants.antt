-- The rows so far, and those of the remaining submodules.
use Rattle.std.proofs.Common.{◌≡◌, ◌+◌, ◌≤◌, ◌++◌, ◌&&◌, not, length, drop, map}
use Rattle.std.specs.List.{filter}
use Rattle.module_diff.specs.Diff.{is_as_expected, submodule_row}
use Rattle.module_diff.proofs.differing.push_submodules.Given as goal

abbrev pub invariant-loop-part : goal.invariant-loop-part
invariant-loop-part l = record {
  rows : l.submodules.items ++ map (submodule_row l.real.modules.items l.slot) (filter (λ part. not (l.proper && is_as_expected l.real.modules.items l.slot part)) (drop l.part-index l.own))
      ≡ l.initial.submodules.items ++ map (submodule_row l.real.modules.items l.slot) (filter (λ part. not (l.proper && is_as_expected l.real.modules.items l.slot part)) l.own);
  count : l.count + length (filter (λ part. not (l.proper && is_as_expected l.real.modules.items l.slot part)) (drop l.part-index l.own))
      ≡ length (filter (λ part. not (l.proper && is_as_expected l.real.modules.items l.slot part)) l.own);
  few_counted : l.count ≤ l.part-index;
  few : length l.submodules.items ≤ length l.initial.submodules.items + l.part-index;
}
