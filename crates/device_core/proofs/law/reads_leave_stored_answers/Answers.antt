use Rattle.device_core.proofs.Repeats.{reads_leave}
use Rattle.device_core.proofs.law.reads_leave_stored_answers.Goals as goal

pub returns : goal.returns
returns c = reads_leave
