-- The octets so far and those of the remaining entries, and that there is room for these.
use Rattle.std.proofs.Common.{◌≡◌, ◌+◌, ◌*◌, ◌++◌, length, drop}
use Rattle.device_records.specs.log_data.Log.{entries_bytes}
use Rattle.device_records.proofs.log_data.writing.append_entries.Given as goal

abbrev pub invariant-loop-entry : goal.invariant-loop-entry
invariant-loop-entry g l = record {
  items : l.out.items ++ entries_bytes (drop l.entry-index l.entries) ≡ l.initial.out.items ++ entries_bytes l.entries;
  room : length l.out.items ≡ length l.initial.out.items + 32 * l.entry-index;
}
