-- this holds of each move so far
use Rattle.std.proofs.Common.{take}
use Rattle.std.specs.List.{AllByRecursion}
use Rattle.both_ends.specs.exchange.Told.{IsSizedMove}
use Rattle.both_ends.proofs.exchange.plugged.moves_are_sized.Given as goal

abbrev pub invariant-loop-one : goal.invariant-loop-one
invariant-loop-one l = AllByRecursion IsSizedMove (take l.one-index l.moves)
