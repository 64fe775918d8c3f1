-- The places so far are changed, and the rest is as it was.
use Rattle.std.proofs.Common.{◌≡◌, ◌++◌, drop, map, take}
use Rattle.plan_places.specs.Places.{made_ready}
use Rattle.plan_places.proofs.places.ready_all.Given as goal

abbrev pub invariant-loop-place : goal.invariant-loop-place
invariant-loop-place l = l.places ≡ map (made_ready l.number) (take l.place-index l.initial.places) ++ drop l.place-index l.initial.places
