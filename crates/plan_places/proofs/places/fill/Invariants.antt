-- The places of the modules so far, at most four for each.
use Rattle.std.proofs.Common.{◌≡◌, ◌*◌, ◌≤◌, ◌++◌, length, drop}
use Rattle.plan_places.specs.Places.{places_of}
use Rattle.plan_places.proofs.places.fill.Given as goal

abbrev pub invariant-loop-entry : goal.invariant-loop-entry
invariant-loop-entry l = record {
  items : l.places.items ++ places_of l.most l.blocks (drop l.entry-index l.real.modules.items) ≡ places_of l.most l.blocks l.real.modules.items;
  few : length l.places.items ≤ 4 * l.entry-index;
}
