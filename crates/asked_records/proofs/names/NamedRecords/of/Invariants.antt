-- The records so far, which have no fault: the first fault is that of the others, which come after them.
use Rattle.std.proofs.Common.{◌≡◌, [], drop, take}
use Rattle.asked_records.specs.Names.{first_fault}
use Rattle.asked_records.proofs.names.NamedRecords.of.Given as goal

abbrev pub invariant-loop-name : goal.invariant-loop-name
invariant-loop-name l = record {
  named : l.named.items ≡ take l.name-index l.names;
  fault : first_fault l.named.items (drop l.name-index l.names) ≡ first_fault [] l.names;
}
