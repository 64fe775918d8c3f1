-- The places of the submodules so far, and their number.
use Rattle.std.proofs.Common.{◌≡◌, ◌+◌, ◌++◌, length, drop, map}
use Rattle.plan_places.specs.Places.{first_place}
use Rattle.plan_places.proofs.places.push_module.Given as goal

abbrev pub invariant-loop-part : goal.invariant-loop-part
invariant-loop-part l = record {
  items : l.places.items ++ map (first_place l.most l.blocks l.entry.slot) (drop l.part-index l.entry.submodules.items)
      ≡ l.initial.places.items ++ map (first_place l.most l.blocks l.entry.slot) l.entry.submodules.items;
  len : length l.places.items ≡ length l.initial.places.items + l.part-index;
}
