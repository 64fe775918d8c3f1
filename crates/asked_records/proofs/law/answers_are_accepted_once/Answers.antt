use Rattle.asked_records.proofs.Runs.{answers_ascend}
use Rattle.asked_records.proofs.law.answers_are_accepted_once.Goals as goal

pub returns : goal.returns
returns c events state few = answers_ascend events state few
