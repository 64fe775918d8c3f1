-- By induction over the events.
use Rattle.services.proofs.Runs.{rare}
use Rattle.services.proofs.law.defences_are_rare.Goals as goal

pub returns : goal.returns
returns c = rare
