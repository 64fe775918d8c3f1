-- The entries so far, and the remaining ones.
use Rattle.std.proofs.Common.{◌≡◌, ◌+◌, ◌++◌, length, drop}
use Rattle.im_records.specs.Plugged.{parts_in}
use Rattle.im_records.proofs.plugged.push_parts.Given as goal

abbrev pub invariant-loop-part : goal.invariant-loop-part
invariant-loop-part l = record {
  items : l.entries.items ++ parts_in (drop l.part-index l.parts) ≡ l.initial.entries.items ++ parts_in l.parts;
  room : length l.entries.items ≡ length l.initial.entries.items + l.part-index;
}
