-- The places so far are of other kinds or submodules.
use Rattle.std.proofs.Common.{◌≡◌, drop}
use Rattle.cyclic_data.specs.Image.{place_at}
use Rattle.cyclic_data.proofs.octets.place_at.Given as goal

abbrev pub invariant-loop-place : goal.invariant-loop-place
invariant-loop-place l = place_at l.kind l.slot l.subslot (drop l.place-index l.places) ≡ place_at l.kind l.slot l.subslot l.places
