-- The moves so far were made, and their entries are in the log.
use Rattle.std.proofs.Common.{◌≡◌, length, take}
use Rattle.startup_octets.specs.Run.{IsRun}
use Rattle.startup_octets.proofs.playing.play_all.Given as goal

abbrev pub invariant-loop-one : goal.invariant-loop-one
invariant-loop-one g l =
    IsRun g.F.Flash l.fn.world (take l.one-index l.moves) (g.W.Witness.log l.fn.witness) (g.W.Witness.log l.witness) l.world × (length l.world.sent ≡ l.count)
