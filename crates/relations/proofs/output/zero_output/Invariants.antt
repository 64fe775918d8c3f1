-- The modules so far are in other slots.
use Rattle.std.proofs.Common.{◌≡◌, drop}
use Rattle.relations.specs.Outputs.{module_at}
use Rattle.relations.proofs.output.zero_output.Given as goal

abbrev pub invariant-loop-entry : goal.invariant-loop-entry
invariant-loop-entry l = module_at l.slot (drop l.entry-index l.real.modules.items) ≡ module_at l.slot l.real.modules.items
