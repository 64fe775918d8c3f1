-- the state between two bytes, with at most as many labels as bytes
use Rattle.std.proofs.Common.{◌≤◌, drop}
use Rattle.std.specs.List.{slice_range}
use Rattle.station_names.proofs.Labels.{Between}
use Rattle.station_names.proofs.scan.Found.of.Given as goal

abbrev pub invariant-loop-index : goal.invariant-loop-index
invariant-loop-index l = record {
  in_text : l.start ≤ l.index;
  few : l.labels.count ≤ l.start;
  between : Between l.bytes (slice_range l.bytes l.start l.index) (drop l.index l.bytes) l.labels l.has_bad_byte;
}
