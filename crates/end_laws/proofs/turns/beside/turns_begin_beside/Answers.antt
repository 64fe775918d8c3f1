-- Each follows from its lemma.
use Rattle.end_laws.proofs.TurnsBeside.{begins, flows, follows}
use Rattle.end_laws.proofs.turns.beside.turns_begin_beside.Goals as goal

pub returns-clause-follows : goal.returns-clause-follows
returns-clause-follows c = follows

pub returns-clause-begins : goal.returns-clause-begins
returns-clause-begins c = begins

pub returns-clause-flows : goal.returns-clause-flows
returns-clause-flows c = flows
