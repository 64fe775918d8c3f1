-- The device is that of the port.
use Rattle.std.proofs.Common.{◌∙◌, ap}
use Rattle.device_core.specs.OpenAlarm.{has_open_alarm}
use Rattle.device_abi.proofs.confirmation.is_open.Goals as goal

pub returns : goal.returns
returns c = c.has_open_alarm.ensures ∙ ap (λ device. has_open_alarm device.live.rest.link) c.device.ensures
