-- This follows from the proofs of the formats.
use Rattle.rpc_core.proofs.Heads.{call_names, controller_alone, device_alone}
use Rattle.rpc_core.proofs.law.calls_name_their_interface.Goals as goal

pub returns-clause-named : goal.returns-clause-named
returns-clause-named c = call_names

pub returns-clause-device : goal.returns-clause-device
returns-clause-device c = device_alone

pub returns-clause-controller : goal.returns-clause-controller
returns-clause-controller c = controller_alone
