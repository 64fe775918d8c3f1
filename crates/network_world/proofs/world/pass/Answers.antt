use Rattle.std.proofs.Common.{refl}
use Rattle.device_frames.specs.Heard.{heard_of}
use Rattle.network_world.proofs.world.pass.Goals as goal

pub returns-in-Device : goal.returns-in-Device
unfolding heard_of
returns-in-Device g c = rw c.in-Device.is (record { hears = c.happen_at_device.ensures; controller = refl })
