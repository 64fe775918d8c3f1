-- The numbers of the causes.
use Rattle.std.specs.Prelude.{ℕ}
use Rattle.controller_core.specs.declared.stored.state.Cause.{Cause}
use Rattle.controller_core.specs.declared.stored.state.Cause.TheVariants.{WrongDevice, Refused, ModuleDiff, DataHold, Aborted, AlarmRetries, Stopped, NoProgress}
use Rattle.pn_alarms.specs.declared.abort.Abort.{Abort}
use Rattle.pn_alarms.specs.declared.abort.Abort.TheVariants as reason
use Rattle.controller_core.specs.declared.stored.state.Cause.TheVariants as cause

-- The number of each cause, as a host sees it.
abbrev pub number_of : Cause → ℕ
number_of WrongDevice = 1
number_of Refused = 2
number_of ModuleDiff = 3
number_of DataHold = 4
number_of Aborted = 5
number_of AlarmRetries = 6
number_of Stopped = 7
number_of NoProgress = 8

-- Why the controller ends with the relation.
abbrev pub cause_of : Abort → Cause
cause_of reason.DataHold = cause.DataHold
cause_of reason.Activity = cause.AlarmRetries
cause_of reason.Other = cause.AlarmRetries
