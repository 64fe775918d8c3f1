-- The places so far, and those of the remaining modules with the remaining submodules.
use Rattle.std.proofs.Common.{◌≡◌, ◌+◌, ◌≤◌, ◌++◌, length, drop}
use Rattle.module_diff.specs.Diff.{wanted_in}
use Rattle.expected_places.specs.Places.{places_of}
use Rattle.expected_places.proofs.places.open.Given as goal

abbrev pub invariant-loop-entry : goal.invariant-loop-entry
invariant-loop-entry l = record {
  places : l.places.items ++ places_of l.rows (wanted_in (drop l.entry-index l.expected.modules.items) l.left)
      ≡ places_of l.rows (wanted_in l.expected.modules.items l.expected.submodules.items);
  few : length l.places.items + length l.left ≤ 64;
}
