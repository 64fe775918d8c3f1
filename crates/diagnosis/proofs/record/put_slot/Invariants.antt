-- The octets so far followed by those of the remaining ones, cut to the room, are those of all.
use Rattle.std.proofs.Common.{◌≡◌, ◌≤◌, ◌++◌, length, take, drop}
use Rattle.diagnosis.specs.Record.{slot_bytes}
use Rattle.diagnosis.proofs.record.put_slot.Given as goal

abbrev pub invariant-loop-part : goal.invariant-loop-part
invariant-loop-part g l = record {
  octets : take 1308 (l.octets.items ++ slot_bytes (g.P.Places.has_of l.places) l.diagnoses l.slot (drop l.part-index l.parts))
      ≡ take 1308 (l.initial.octets.items ++ slot_bytes (g.P.Places.has_of l.places) l.diagnoses l.slot l.parts);
  few : length l.octets.items ≤ 1308;
}
