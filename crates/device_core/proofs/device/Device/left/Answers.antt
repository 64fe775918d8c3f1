-- The number of remaining commits.
use Rattle.device_core.proofs.device.Device.left.Goals as goal

pub returns-clause-read : goal.returns-clause-read
returns-clause-read g c = rw (← c.self.view_is) c.left.ensures.read
