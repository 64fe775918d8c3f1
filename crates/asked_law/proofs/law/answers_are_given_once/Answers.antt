use Rattle.asked_law.proofs.Given.{step_accepts}
use Rattle.asked_law.proofs.Runs.{answers_ascend, own_given, was_asked}
use Rattle.asked_law.proofs.law.answers_are_given_once.Goals as goal

pub returns-clause-once : goal.returns-clause-once
returns-clause-once c = λ station live steps few. answers_ascend station steps live few

pub returns-clause-own : goal.returns-clause-own
returns-clause-own c = λ station live step number others is. own_given station live step number others is (step_accepts station live step.outcomes step.heard)

pub returns-clause-heard : goal.returns-clause-heard
returns-clause-heard c = λ station live steps question asked. was_asked station steps live question asked
