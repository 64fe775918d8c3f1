-- None of the places so far waits.
use Rattle.std.proofs.Common.{◌≡◌, drop}
use Rattle.plan_places.specs.Places.{first_waiting}
use Rattle.plan_places.proofs.places.first_waiting.Given as goal

abbrev pub invariant-loop-place : goal.invariant-loop-place
invariant-loop-place l = first_waiting (drop l.place-index l.places) ≡ first_waiting l.places
