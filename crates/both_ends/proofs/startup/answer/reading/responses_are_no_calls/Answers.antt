use Rattle.both_ends.proofs.StartupAnswerResponses.{no_call}
use Rattle.both_ends.proofs.startup.answer.reading.responses_are_no_calls.Goals as goal

pub returns : goal.returns
returns c = record { apart = no_call }
