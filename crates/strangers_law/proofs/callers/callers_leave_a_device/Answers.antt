-- Calls of others leave a device.
use Rattle.strangers_law.proofs.CallingLeft.{calls_leave}
use Rattle.strangers_law.proofs.CallingHeard.{own_are_heard}
use Rattle.strangers_law.proofs.CallingSteps.{goes_alike}
use Rattle.strangers_law.proofs.CallingStore.{four_replace}
use Rattle.strangers_law.proofs.callers.callers_leave_a_device.Goals as goal

pub returns-clause-left : goal.returns-clause-left
returns-clause-left g c = λ own others old new octets sent said are is steps. calls_leave g.F.Flash own others old new octets sent said are is steps

pub returns-clause-alike : goal.returns-clause-alike
returns-clause-alike g c = λ own others old new alone heard sent said like is steps. goes_alike g.F.Flash own others old new alone heard sent said like is steps

pub returns-clause-heard : goal.returns-clause-heard
returns-clause-heard g c = own_are_heard

pub returns-clause-four : goal.returns-clause-four
returns-clause-four g c = four_replace
