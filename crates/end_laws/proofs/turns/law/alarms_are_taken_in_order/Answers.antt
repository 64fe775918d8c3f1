use Rattle.end_laws.proofs.TurnsAlarms.{are_all_taken, are_taken_in_order, lack_at_most_the_last, shows_the_last}
use Rattle.end_laws.proofs.TurnsListed.{lists_what_is_reported}
use Rattle.end_laws.proofs.turns.law.alarms_are_taken_in_order.Goals as goal

pub returns-clause-prefix : goal.returns-clause-prefix
returns-clause-prefix c = are_taken_in_order c.alarms_are_taken_in_order.ensures.prefix

pub returns-clause-last : goal.returns-clause-last
returns-clause-last c = lack_at_most_the_last c.alarms_are_taken_in_order.ensures.last

pub returns-clause-all : goal.returns-clause-all
returns-clause-all c = are_all_taken c.alarms_are_taken_in_order.ensures.all

pub returns-clause-shown : goal.returns-clause-shown
returns-clause-shown c = shows_the_last

pub returns-clause-listed : goal.returns-clause-listed
returns-clause-listed c = lists_what_is_reported
