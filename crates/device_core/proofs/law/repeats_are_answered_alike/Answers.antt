use Rattle.device_core.proofs.Repeats.{reads_between, repeats_alike}
use Rattle.device_core.proofs.law.repeats_are_answered_alike.Goals as goal

pub returns-clause-alike : goal.returns-clause-alike
returns-clause-alike c = repeats_alike

pub returns-clause-reads : goal.returns-clause-reads
returns-clause-reads c = reads_between
