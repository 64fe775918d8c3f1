-- What happened so far.
use Rattle.std.proofs.Common.{take}
use Rattle.exchange_law.specs.Run.{Runs}
use Rattle.exchange_law.proofs.controller.run.Given as goal

abbrev pub invariant-loop-one : goal.invariant-loop-one
invariant-loop-one g l = Runs l.initial.controller (take l.one-index l.happenings) (g.W.Witness.told l.initial.witness) (g.W.Witness.told l.witness) l.controller
