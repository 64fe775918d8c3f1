-- By induction over the events.
use Rattle.services.proofs.Runs.{announced_twice, silent}
use Rattle.services.proofs.law.addresses_are_announced_twice.Goals as goal

pub returns-clause-announced : goal.returns-clause-announced
returns-clause-announced c = announced_twice

pub returns-clause-silent : goal.returns-clause-silent
returns-clause-silent c = silent
