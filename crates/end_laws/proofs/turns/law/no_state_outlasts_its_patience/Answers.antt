use Rattle.end_laws.proofs.TurnsPatience.{ends_in_time, has_time_left, none_lasts_longer}
use Rattle.end_laws.proofs.turns.law.no_state_outlasts_its_patience.Goals as goal

pub returns-clause-left : goal.returns-clause-left
returns-clause-left c = has_time_left

pub returns-clause-lasts : goal.returns-clause-lasts
returns-clause-lasts c = none_lasts_longer

pub returns-clause-ends : goal.returns-clause-ends
returns-clause-ends c = ends_in_time
