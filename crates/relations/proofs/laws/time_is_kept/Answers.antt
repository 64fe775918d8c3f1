use Rattle.relations.proofs.Kept.{stands_until, ends_at, is_due_each_second}
use Rattle.relations.proofs.Held.{is_held_for, is_given_up}
use Rattle.relations.proofs.Own.{is_held_by_its_own}
use Rattle.relations.proofs.Waiting.{is_due_whatever_comes}
use Rattle.relations.proofs.laws.time_is_kept.Goals as goal

pub returns-clause-stands : goal.returns-clause-stands
returns-clause-stands c = stands_until

pub returns-clause-ends : goal.returns-clause-ends
returns-clause-ends c = ends_at

pub returns-clause-again : goal.returns-clause-again
returns-clause-again c = is_due_each_second

pub returns-clause-whatever : goal.returns-clause-whatever
returns-clause-whatever c = is_due_whatever_comes

pub returns-clause-own : goal.returns-clause-own
returns-clause-own c = is_held_by_its_own

pub returns-clause-hold : goal.returns-clause-hold
returns-clause-hold c = is_held_for

pub returns-clause-spent : goal.returns-clause-spent
returns-clause-spent c = is_given_up
