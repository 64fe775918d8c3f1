-- The modules so far do not have the record.
use Rattle.std.proofs.Common.{◌≡◌, drop}
use Rattle.records.specs.reads.Parameters.{parameter_length}
use Rattle.records.proofs.reads.parameters.parameter_length.Given as goal

abbrev pub invariant-loop-entry : goal.invariant-loop-entry
invariant-loop-entry l = parameter_length (drop l.entry-index l.real.modules.items) l.slot l.subslot l.index ≡ parameter_length l.real.modules.items l.slot l.subslot l.index
