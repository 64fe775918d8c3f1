-- The modules so far are in other slots.
use Rattle.std.proofs.Common.{◌≡◌, ◌+◌, drop}
use Rattle.std.specs.List.{position_or_len}
use Rattle.module_diff.specs.Changes.{is_in_slot}
use Rattle.module_diff.proofs.changes.module_place.Given as goal

abbrev pub invariant-loop-place : goal.invariant-loop-place
invariant-loop-place l = position_or_len (is_in_slot l.slot) l.modules ≡ l.place + position_or_len (is_in_slot l.slot) (drop l.place l.modules)
