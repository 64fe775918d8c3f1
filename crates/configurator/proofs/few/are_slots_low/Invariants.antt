use Rattle.std.proofs.Common.{◌≡◌, drop}
use Rattle.configurator.specs.Few.{are_slots_low}
use Rattle.configurator.proofs.few.are_slots_low.Given as goal

-- the result for all is that for the rest
abbrev pub invariant-loop-entry : goal.invariant-loop-entry
invariant-loop-entry l = are_slots_low l.slots ≡ are_slots_low (drop l.entry-index l.slots)
