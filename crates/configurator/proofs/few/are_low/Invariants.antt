use Rattle.std.proofs.Common.{◌≡◌, drop}
use Rattle.configurator.specs.Few.{are_low}
use Rattle.configurator.proofs.few.are_low.Given as goal

-- the result for all is that for the rest
abbrev pub invariant-loop-slot : goal.invariant-loop-slot
invariant-loop-slot l = are_low l.slots ≡ are_low (drop l.slot-index l.slots)
