-- The marks so far, and that there is room for the rest.
use Rattle.std.proofs.Common.{◌≡◌, ◌++◌, length, drop, map}
use Rattle.controller_core.specs.stored.Outputs.{first_mark}
use Rattle.controller_core.proofs.stored.outputs.begin.Given as goal

abbrev pub invariant-loop-place : goal.invariant-loop-place
invariant-loop-place l = record {
  items : l.marks.items ++ map first_mark (drop l.place-index l.places) ≡ map first_mark l.places;
  len : length l.marks.items ≡ l.place-index;
}
