-- This follows from what a frame carries.
use Rattle.services.proofs.Facts.{undisputed}
use Rattle.services.proofs.law.only_conflicts_are_counted.Goals as goal

pub returns : goal.returns
returns c = undisputed
