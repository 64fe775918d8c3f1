-- The entries so far, and those of the remaining submodules.
use Rattle.std.proofs.Common.{◌≡◌, ◌+◌, ◌≤◌, ◌++◌, length, drop}
use Rattle.device_records.specs.Found.{parts_found}
use Rattle.device_records.proofs.found.push_parts.Given as goal

abbrev pub invariant-loop-part : goal.invariant-loop-part
invariant-loop-part l = record {
  items : l.entries.items ++ parts_found l.own (drop l.part-index l.parts) ≡ l.initial.entries.items ++ parts_found l.own l.parts;
  room : length l.entries.items ≤ length l.initial.entries.items + l.part-index;
  more : length l.initial.entries.items ≤ length l.entries.items;
}
