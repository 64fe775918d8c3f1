use Rattle.device_core.proofs.Applied.{answer_goes}
use Rattle.device_core.proofs.law.answers_go_to_the_question.Goals as goal

pub returns : goal.returns
returns c = answer_goes
