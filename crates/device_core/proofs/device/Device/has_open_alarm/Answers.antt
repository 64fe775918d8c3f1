-- The open alarm is that of the exchange.
use Rattle.std.proofs.Common.{◌∙◌}
use Rattle.device_core.proofs.OpenAlarm.{none_open, open_in}
use Rattle.device_core.proofs.device.Device.has_open_alarm.Goals as goal

pub returns-in-Some : goal.returns-in-Some
returns-in-Some g c = rw (← c.self.view_is) (open_in _ _ _ c.in-Some.ensures (c.is_some.ensures ∙ c.alarm.ensures.stands))

pub returns-in-None : goal.returns-in-None
returns-in-None g c = rw (← c.self.view_is) (none_open _ c.in-None.ensures)
