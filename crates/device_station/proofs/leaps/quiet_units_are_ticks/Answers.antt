use Rattle.device_station.proofs.Leaping.{quiet_count, quiet_down, quiet_no_news, quiet_units}
use Rattle.device_station.proofs.leaps.quiet_units_are_ticks.Goals as goal

pub returns-clause-ticks : goal.returns-clause-ticks
returns-clause-ticks c = quiet_units

pub returns-clause-count : goal.returns-clause-count
returns-clause-count c = quiet_count

pub returns-clause-news : goal.returns-clause-news
returns-clause-news c = quiet_no_news

pub returns-clause-down : goal.returns-clause-down
returns-clause-down c = quiet_down
