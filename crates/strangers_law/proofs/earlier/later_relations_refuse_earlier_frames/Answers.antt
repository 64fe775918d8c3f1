-- The frames of an earlier relation are refused.
use Rattle.strangers_law.proofs.Late.{late_alarms, late_outputs, numbers_differ}
use Rattle.strangers_law.proofs.Numbered.{stay_numbered}
use Rattle.strangers_law.proofs.earlier.later_relations_refuse_earlier_frames.Goals as goal

pub returns-clause-numbers : goal.returns-clause-numbers
returns-clause-numbers c = numbers_differ

pub returns-clause-alarms : goal.returns-clause-alarms
returns-clause-alarms c = late_alarms

pub returns-clause-outputs : goal.returns-clause-outputs
returns-clause-outputs c = late_outputs

pub returns-clause-numbered : goal.returns-clause-numbered
returns-clause-numbered c = stay_numbered
