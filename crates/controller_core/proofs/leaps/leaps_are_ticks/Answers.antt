use Rattle.controller_core.proofs.Leaping.{leaps_are_ticks}
use Rattle.controller_core.proofs.leaps.leaps_are_ticks.Goals as goal

pub returns : goal.returns
returns c = leaps_are_ticks
