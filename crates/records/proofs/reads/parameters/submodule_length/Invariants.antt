-- The submodules so far do not have the record.
use Rattle.std.proofs.Common.{◌≡◌, drop}
use Rattle.records.specs.reads.Parameters.{submodule_length}
use Rattle.records.proofs.reads.parameters.submodule_length.Given as goal

abbrev pub invariant-loop-part : goal.invariant-loop-part
invariant-loop-part l = submodule_length l.subslot l.index (drop l.part-index l.parts) ≡ submodule_length l.subslot l.index l.parts
