-- The places so far, and those of the remaining submodules.
use Rattle.std.proofs.Common.{◌≡◌, ◌+◌, ◌≤◌, ◌++◌, length, drop, map}
use Rattle.expected_places.specs.Places.{first_place}
use Rattle.expected_places.proofs.places.push_places.Given as goal

abbrev pub invariant-loop-part : goal.invariant-loop-part
invariant-loop-part l = record {
  places : l.places.items ++ map (first_place l.rows l.slot) (drop l.part-index l.parts) ≡ l.initial.places.items ++ map (first_place l.rows l.slot) l.parts;
  few : length l.places.items ≤ length l.initial.places.items + l.part-index;
}
