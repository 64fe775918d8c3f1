-- The records so far, and the remaining ones.
use Rattle.std.proofs.Common.{◌≡◌, ◌++◌, drop, length, map, take}
use Rattle.device_abi.specs.Stations.{name_of}
use Rattle.device_abi.proofs.c_station.names_in.Given as goal

abbrev pub invariant-loop-written : goal.invariant-loop-written
invariant-loop-written l = record {
  items : l.names.items ++ map name_of (drop l.written-index (take l.station.record_count l.station.records)) ≡ map name_of (take l.station.record_count l.station.records);
  len : length l.names.items ≡ l.written-index;
}
