-- The modules so far are not in later slots.
use Rattle.std.proofs.Common.{◌≡◌, ◌+◌, drop}
use Rattle.std.specs.List.{position_or_len}
use Rattle.module_diff.specs.Changes.{is_past_slot}
use Rattle.module_diff.proofs.changes.modules_before.Given as goal

abbrev pub invariant-loop-place : goal.invariant-loop-place
invariant-loop-place l = position_or_len (is_past_slot l.slot) l.modules ≡ l.place + position_or_len (is_past_slot l.slot) (drop l.place l.modules)
