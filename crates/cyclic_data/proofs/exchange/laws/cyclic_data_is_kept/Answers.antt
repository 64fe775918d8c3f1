use Rattle.cyclic_data.proofs.ExchangeKept.{are_of_the_last, is_due_each_interval, is_held_so_long}
use Rattle.cyclic_data.proofs.exchange.laws.cyclic_data_is_kept.Goals as goal

pub returns-clause-interval : goal.returns-clause-interval
returns-clause-interval c = is_due_each_interval

pub returns-clause-last : goal.returns-clause-last
returns-clause-last c = are_of_the_last

pub returns-clause-hold : goal.returns-clause-hold
returns-clause-hold c = is_held_so_long
