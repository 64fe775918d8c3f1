-- The octets so far followed by those of the remaining ones, cut to the room, are those of all.
use Rattle.std.proofs.Common.{◌≡◌, ◌≤◌, ◌++◌, length, take, drop}
use Rattle.diagnosis.specs.Record.{modules_bytes, record_bytes}
use Rattle.diagnosis.proofs.record.put_diagnosis_data.Given as goal

abbrev pub invariant-loop-entry : goal.invariant-loop-entry
invariant-loop-entry g l = record {
  octets : take 1308 (l.octets.items ++ modules_bytes (g.P.Places.has_of l.places) l.diagnoses (drop l.entry-index l.entry-items))
      ≡ take 1308 (modules_bytes (g.P.Places.has_of l.places) l.diagnoses l.entry-items);
  few : length l.octets.items ≤ 1308;
}
