-- The entries so far, and those of the remaining submodules.
use Rattle.std.proofs.Common.{◌≡◌, ◌+◌, ◌≤◌, ◌++◌, length, drop}
use Rattle.device_records.specs.Expected.{parts_at}
use Rattle.device_records.proofs.expected.push_parts.Given as goal

abbrev pub invariant-loop-part : goal.invariant-loop-part
invariant-loop-part l = record {
  items : l.entries.items ++ parts_at l.level l.subslot (drop l.part-index l.parts) ≡ l.initial.entries.items ++ parts_at l.level l.subslot l.parts;
  room : length l.entries.items ≤ length l.initial.entries.items + l.part-index;
  more : length l.initial.entries.items ≤ length l.entries.items;
}
