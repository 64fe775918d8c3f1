-- each record so far
use Rattle.std.proofs.Common.{take}
use Rattle.plans.specs.Plan.{AreShort}
use Rattle.plans.proofs.plan.are_short.Given as goal

abbrev pub invariant-loop-entry : goal.invariant-loop-entry
invariant-loop-entry l = AreShort (take l.entry-index l.records)
