-- this holds of each submodule so far
use Rattle.std.proofs.Common.{take}
use Rattle.std.specs.List.{AllByRecursion}
use Rattle.both_ends.specs.exchange.Sized.{IsSizedPart}
use Rattle.both_ends.proofs.exchange.plugged.parts_are_sized.Given as goal

abbrev pub invariant-loop-part : goal.invariant-loop-part
invariant-loop-part l = AllByRecursion IsSizedPart (take l.part-index l.parts)
