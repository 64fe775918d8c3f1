-- What the services send belongs to no relation.
use Rattle.strangers_law.proofs.Sizes.{addresses_are_kept, sizes_are_kept}
use Rattle.strangers_law.proofs.Unasked.{services_leave_controllers, services_leave_devices}
use Rattle.strangers_law.proofs.WholeCalls.{services_leave_calls}
use Rattle.strangers_law.proofs.beside.services_leave_relations.Goals as goal

pub returns-clause-device : goal.returns-clause-device
returns-clause-device g c = services_leave_controllers g.F.Flash

pub returns-clause-calls : goal.returns-clause-calls
returns-clause-calls g c = services_leave_calls g.F.Flash

pub returns-clause-sizes : goal.returns-clause-sizes
returns-clause-sizes g c = sizes_are_kept g.F.Flash

pub returns-clause-controller : goal.returns-clause-controller
returns-clause-controller g c = services_leave_devices

pub returns-clause-addresses : goal.returns-clause-addresses
returns-clause-addresses g c = addresses_are_kept
