-- The places so far are others.
use Rattle.std.proofs.Common.{◌≡◌, drop}
use Rattle.expected_places.specs.Places.{place_at}
use Rattle.device_abi.proofs.reason.why_not_ready_in.Given as goal

abbrev pub invariant-loop-place : goal.invariant-loop-place
invariant-loop-place l = place_at l.slot l.subslot (drop l.place-index l.places) ≡ place_at l.slot l.subslot l.places
