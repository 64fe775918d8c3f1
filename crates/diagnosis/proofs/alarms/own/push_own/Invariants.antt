-- The submodules so far, and those of the slot that remain.
use Rattle.std.proofs.Common.{◌≡◌, ◌+◌, ◌≤◌, ◌++◌, length, drop}
use Rattle.diagnosis.specs.alarms.Own.{places_in}
use Rattle.diagnosis.proofs.alarms.own.push_own.Given as goal

abbrev pub invariant-loop-part : goal.invariant-loop-part
invariant-loop-part l = record {
  items : l.entries.items ++ places_in l.rows l.slot (drop l.part-index l.parts) ≡ l.initial.entries.items ++ places_in l.rows l.slot l.parts;
  room : length l.entries.items ≤ length l.initial.entries.items + l.part-index;
}
