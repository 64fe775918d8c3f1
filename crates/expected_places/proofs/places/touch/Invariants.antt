-- The places so far are touched, and the rest is as it was.
use Rattle.std.proofs.Common.{◌≡◌, ◌++◌, drop, map, take}
use Rattle.expected_places.specs.Places.{touched_place}
use Rattle.expected_places.proofs.places.touch.Given as goal

abbrev pub invariant-loop-place : goal.invariant-loop-place
invariant-loop-place l =
    l.places ≡ map (touched_place l.affected l.step) (take l.place-index l.initial.places) ++ drop l.place-index l.initial.places
