-- By induction over the events.
use Rattle.lldp.proofs.Runs.{lives}
use Rattle.lldp.proofs.law.neighbours_live_as_long_as_told.Goals as goal

pub returns : goal.returns
returns c = lives
