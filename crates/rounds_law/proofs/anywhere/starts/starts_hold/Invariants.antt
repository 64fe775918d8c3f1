-- This holds of each start so far.
use Rattle.std.proofs.Common.{take}
use Rattle.std.specs.List.{AllByRecursion}
use Rattle.rounds_law.specs.AnywhereAgain.{StartLaws}
use Rattle.rounds_law.proofs.anywhere.starts.starts_hold.Given as goal

abbrev pub invariant-loop-start : goal.invariant-loop-start
invariant-loop-start g l = AllByRecursion (StartLaws g.F.Flash l.identity) (take l.start-index l.starts)
