-- The outputs of the modules so far.
use Rattle.std.proofs.Common.{◌≡◌, take}
use Rattle.startup_octets.specs.Outputs.{outputs_in}
use Rattle.startup_octets.proofs.outputs.planned_outputs.Given as goal

abbrev pub invariant-loop-entry : goal.invariant-loop-entry
invariant-loop-entry l = l.outputs.items ≡ outputs_in (take l.entry-index l.entry-items)
