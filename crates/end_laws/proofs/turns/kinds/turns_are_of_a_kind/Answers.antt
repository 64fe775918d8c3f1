use Rattle.end_laws.proofs.TurnsOneTurn.{event_is, turn_is}
use Rattle.end_laws.proofs.turns.kinds.turns_are_of_a_kind.Goals as goal

pub returns-clause-came : goal.returns-clause-came
returns-clause-came c = turn_is

pub returns-clause-event : goal.returns-clause-event
returns-clause-event c = event_is
