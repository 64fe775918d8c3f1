use Rattle.relations.proofs.ExchangeKept.{are_of_the_last, is_due_each_interval, is_held_so_long}
use Rattle.relations.proofs.ExchangeInputs.{are_still_the_iocs, are_the_iops, are_the_last_given}
use Rattle.relations.proofs.ExchangeRuns.{runs_as_said}
use Rattle.relations.proofs.ExchangeShut.{are_consumed_where_open, are_good_where_open}
use Rattle.relations.proofs.exchange.laws.exchange_is_kept.Goals as goal

pub returns-clause-interval : goal.returns-clause-interval
returns-clause-interval c = is_due_each_interval c.cyclic_data_is_kept.ensures.interval

pub returns-clause-last : goal.returns-clause-last
returns-clause-last c = are_of_the_last c.cyclic_data_is_kept.ensures.last

pub returns-clause-given : goal.returns-clause-given
returns-clause-given c = are_the_last_given

pub returns-clause-iops : goal.returns-clause-iops
returns-clause-iops c = are_the_iops

pub returns-clause-run : goal.returns-clause-run
returns-clause-run c = runs_as_said

pub returns-clause-iocs : goal.returns-clause-iocs
returns-clause-iocs c = are_still_the_iocs

pub returns-clause-hold : goal.returns-clause-hold
returns-clause-hold c = is_held_so_long c.cyclic_data_is_kept.ensures.hold

pub returns-clause-open : goal.returns-clause-open
returns-clause-open c = are_good_where_open

pub returns-clause-consumed : goal.returns-clause-consumed
returns-clause-consumed c = are_consumed_where_open
