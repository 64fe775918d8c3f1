-- The places so far, and that there is room for the rest.
use Rattle.std.proofs.Common.{◌≡◌, ◌+◌, ◌≤◌, ◌++◌, length, drop}
use Rattle.std.specs.List.{filter}
use Rattle.plan_places.specs.Places.{is_moved, moved}
use Rattle.plan_places.proofs.places.push_moved.Given as goal

abbrev pub invariant-loop-place : goal.invariant-loop-place
invariant-loop-place l = record {
  items : l.next.items ++ moved l.is_plugged l.report (drop l.place-index l.places) ≡ l.initial.next.items ++ moved l.is_plugged l.report l.places;
  few : length l.next.items + length (filter (is_moved l.is_plugged l.report) (drop l.place-index l.places)) ≤ 64;
}
