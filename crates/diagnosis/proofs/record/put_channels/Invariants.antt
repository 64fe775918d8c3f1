-- The octets so far followed by those of the remaining ones, cut to the room, are those of all.
use Rattle.std.proofs.Common.{◌≡◌, ◌≤◌, ◌++◌, length, take, drop}
use Rattle.diagnosis.specs.Record.{channels_bytes}
use Rattle.diagnosis.proofs.record.put_channels.Given as goal

abbrev pub invariant-loop-diagnosis : goal.invariant-loop-diagnosis
invariant-loop-diagnosis l = record {
  octets : take 1308 (l.octets.items ++ channels_bytes (drop l.diagnosis-index l.own))
      ≡ take 1308 (l.initial.octets.items ++ channels_bytes l.own);
  few : length l.octets.items ≤ 1308;
}
