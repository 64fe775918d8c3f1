-- the moves so far were made
use Rattle.std.proofs.Common.{take}
use Rattle.network_world.specs.World.{Played}
use Rattle.network_world.proofs.world.World.play.Given as goal

abbrev pub invariant-loop-one : goal.invariant-loop-one
invariant-loop-one g l = Played g.F.Flash l.initial.self (take l.one-index l.moves) l.self
