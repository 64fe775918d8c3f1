-- The places so far are others.
use Rattle.std.proofs.Common.{◌≡◌, drop}
use Rattle.plan_places.specs.Places.{place_at}
use Rattle.plan_places.proofs.places.place_at.Given as goal

abbrev pub invariant-loop-place : goal.invariant-loop-place
invariant-loop-place l = place_at l.slot l.subslot (drop l.place-index l.places) ≡ place_at l.slot l.subslot l.places
