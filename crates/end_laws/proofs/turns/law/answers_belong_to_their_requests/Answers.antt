use Rattle.end_laws.proofs.TurnsBelongs.{are_numbered_apart, are_numbered_in_order, are_numbered_later, drops_answers_to_others, waits_for_what_is_sent}
use Rattle.end_laws.proofs.turns.law.answers_belong_to_their_requests.Goals as goal

pub returns-clause-dropped : goal.returns-clause-dropped
returns-clause-dropped c = drops_answers_to_others

pub returns-clause-waiting : goal.returns-clause-waiting
returns-clause-waiting c = waits_for_what_is_sent

pub returns-clause-apart : goal.returns-clause-apart
returns-clause-apart c = are_numbered_apart

pub returns-clause-later : goal.returns-clause-later
returns-clause-later c = are_numbered_later

pub returns-clause-ordered : goal.returns-clause-ordered
returns-clause-ordered c = are_numbered_in_order
