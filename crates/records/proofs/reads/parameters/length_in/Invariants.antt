-- The records so far have another index.
use Rattle.std.proofs.Common.{◌≡◌, drop}
use Rattle.records.specs.reads.Parameters.{length_in}
use Rattle.records.proofs.reads.parameters.length_in.Given as goal

abbrev pub invariant-loop-parameter : goal.invariant-loop-parameter
invariant-loop-parameter l = length_in l.index (drop l.parameter-index l.parameters) ≡ length_in l.index l.parameters
