-- The places so far are changed, and the rest is as it was.
use Rattle.std.proofs.Common.{◌≡◌, ◌++◌, drop, map, take}
use Rattle.plan_places.specs.Places.{set_at}
use Rattle.plan_places.proofs.places.set_at.Given as goal

abbrev pub invariant-loop-place : goal.invariant-loop-place
invariant-loop-place l =
    l.places ≡ map (set_at l.slot l.subslot l.state) (take l.place-index l.initial.places) ++ drop l.place-index l.initial.places
