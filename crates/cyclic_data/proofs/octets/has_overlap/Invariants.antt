-- The remaining places, checked with the marks of those before them, give the result for all places.
use Rattle.std.proofs.Common.{◌≡◌, drop, length}
use Rattle.std.specs.List.{AllByRecursion}
use Rattle.cyclic_data.specs.Layout.{IsInside, AreAllApart, DoMeet}
use Rattle.cyclic_data.proofs.Overlap.{IsHit, IsClear}
use Rattle.cyclic_data.proofs.octets.has_overlap.Given as goal

abbrev pub invariant-loop-place : goal.invariant-loop-place
invariant-loop-place l = record {
  size : length l.marked ≡ 1440;
  inside : AllByRecursion (IsInside 1440) (drop l.place-index l.places);
  hit : IsHit l.marked (drop l.place-index l.places) → DoMeet l.places;
  clear : IsClear l.marked (drop l.place-index l.places) → AreAllApart l.places;
}
