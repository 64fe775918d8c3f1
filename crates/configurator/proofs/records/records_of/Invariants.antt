use Rattle.std.proofs.Common.{◌≡◌, ◌+◌, ◌≤◌, ◌++◌, true, drop, length, sum_by}
use Rattle.catalogue.specs.Kept.{AreSlotsShort}
use Rattle.configurator.specs.Few.{are_slots_low}
use Rattle.configurator.specs.Planned.{records_of}
use Rattle.configurator.proofs.records.records_of.Given as goal

-- the records so far, and what is true of the remaining slots
abbrev pub invariant-loop-entry : goal.invariant-loop-entry
invariant-loop-entry l = record {
  items : l.records.items ++ records_of (drop l.entry-index l.slots) ≡ records_of l.slots;
  room : length l.records.items + sum_by (λ entry. length entry.records) (drop l.entry-index l.slots) ≤ 32;
  low : are_slots_low (drop l.entry-index l.slots) ≡ true;
  short : AreSlotsShort (drop l.entry-index l.slots);
}
