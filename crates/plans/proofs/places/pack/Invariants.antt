-- the places so far, and those of the remaining submodules
use Rattle.std.proofs.Common.{◌≡◌, ◌+◌, ◌≤◌, ◌++◌, drop, length, map}
use Rattle.plans.specs.Packed.{object_of, octets_of, packed}
use Rattle.plans.proofs.places.pack.Given as goal

abbrev pub invariant-loop-sub : goal.invariant-loop-sub
invariant-loop-sub l = record {
  items : l.objects.items ++ map object_of (packed l.direction l.kind l.offset (drop l.sub-index l.subs))
      ≡ map object_of (packed l.direction l.kind l.start l.subs);
  offset : l.offset + octets_of l.direction l.kind (drop l.sub-index l.subs) ≡ l.start + octets_of l.direction l.kind l.subs;
  few : length l.objects.items ≤ l.sub-index;
}
