-- The submodules so far are in other subslots.
use Rattle.std.proofs.Common.{◌≡◌, ◌+◌, drop}
use Rattle.std.specs.List.{position_or_len}
use Rattle.module_diff.specs.Changes.{is_in_subslot}
use Rattle.module_diff.proofs.changes.part_place.Given as goal

abbrev pub invariant-loop-place : goal.invariant-loop-place
invariant-loop-place l = position_or_len (is_in_subslot l.subslot) l.parts ≡ l.place + position_or_len (is_in_subslot l.subslot) (drop l.place l.parts)
