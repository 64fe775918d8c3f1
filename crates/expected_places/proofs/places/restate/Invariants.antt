-- The places so far are stated, and the rest is as it was.
use Rattle.std.proofs.Common.{◌≡◌, ◌++◌, drop, map, take}
use Rattle.expected_places.specs.Places.{restated_place}
use Rattle.expected_places.proofs.places.restate.Given as goal

abbrev pub invariant-loop-place : goal.invariant-loop-place
invariant-loop-place l = l.places ≡ map (restated_place l.rows) (take l.place-index l.initial.places) ++ drop l.place-index l.initial.places
