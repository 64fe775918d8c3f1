-- An output sends nothing.
use Rattle.std.proofs.Common.{sym, ap}
use Rattle.controller_core.specs.Machine.{step_of}
use Rattle.controller_core.specs.Quiet.{silently}
use Rattle.controller_core.proofs.controller.Controller.take_output.Goals as goal

pub returns-clause-given : goal.returns-clause-given
unfolding step_of
returns-clause-given c = ap silently (sym c.give.ensures)
