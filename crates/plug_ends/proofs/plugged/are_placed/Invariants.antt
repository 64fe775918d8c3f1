-- this holds of each record so far
use Rattle.std.proofs.Common.{take}
use Rattle.both_ends.specs.startup.Played.{ArePlaced}
use Rattle.plug_ends.proofs.plugged.are_placed.Given as goal

abbrev pub invariant-loop-entry : goal.invariant-loop-entry
invariant-loop-entry l = ArePlaced (take l.entry-index l.records)
