-- The events so far.
use Rattle.std.proofs.Common.{take}
use Rattle.octets_law.specs.Turns.{TurnsAll}
use Rattle.octets_law.proofs.life.turn_all.Given as goal

abbrev pub invariant-loop-event : goal.invariant-loop-event
invariant-loop-event g l = TurnsAll g.F.Flash l.initial.device (take l.event-index l.events) (g.W.Witness.told l.initial.witness) (g.W.Witness.told l.witness) l.device
