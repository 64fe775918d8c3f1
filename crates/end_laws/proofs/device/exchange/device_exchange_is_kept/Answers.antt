use Rattle.end_laws.proofs.DeviceExchangeLaws.{ends_without_data, sends_each_interval, sends_the_last_given}
use Rattle.end_laws.proofs.DeviceOpenLaws.{sends_good_where_open}
use Rattle.end_laws.proofs.device.exchange.device_exchange_is_kept.Goals as goal

pub returns-clause-interval : goal.returns-clause-interval
returns-clause-interval c = sends_each_interval c.exchange_is_kept.ensures.interval

pub returns-clause-given : goal.returns-clause-given
returns-clause-given c = sends_the_last_given

pub returns-clause-hold : goal.returns-clause-hold
returns-clause-hold c = ends_without_data c.exchange_is_kept.ensures.hold

pub returns-clause-open : goal.returns-clause-open
returns-clause-open c = sends_good_where_open c.exchange_is_kept.ensures.open c.exchange_is_kept.ensures.consumed
