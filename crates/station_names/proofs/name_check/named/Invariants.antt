-- the text has none of the faults that were looked for
use Rattle.std.proofs.Common.{◌≤◌}
use Rattle.station_names.specs.declared.name_fault.NameFault.{NameFault}
use Rattle.station_names.specs.NameFault.{HasFault, number_of}
use Rattle.station_names.proofs.name_check.named.Given as goal

abbrev pub invariant-loop-fault : goal.invariant-loop-fault
invariant-loop-fault l = (other : NameFault) → number_of other ≤ l.fault-index → ¬ HasFault l.bytes other
