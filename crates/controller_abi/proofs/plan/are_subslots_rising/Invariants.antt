-- The test of all items is the test of the remaining ones.
use Rattle.std.proofs.Common.{◌≡◌, ◌≤◌, drop, map}
use Rattle.controller_abi.specs.Plans.{is_rising}
use Rattle.controller_abi.proofs.plan.are_subslots_rising.Given as goal

abbrev pub invariant-loop-submodule : goal.invariant-loop-submodule
invariant-loop-submodule l = record {
  left : is_rising 1 (map (λ part. part.subslot) l.submodules) ≡ is_rising l.next (map (λ part. part.subslot) (drop l.submodule-index l.submodules));
  low : l.next ≤ 65536;
}
