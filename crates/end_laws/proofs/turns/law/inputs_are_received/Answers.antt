use Rattle.end_laws.proofs.TurnsInputs.{shows_nothing_without, shows_what_came}
use Rattle.end_laws.proofs.turns.law.inputs_are_received.Goals as goal

pub returns-clause-one : goal.returns-clause-one
returns-clause-one c = shows_what_came

pub returns-clause-none : goal.returns-clause-none
returns-clause-none c = shows_nothing_without
