-- The phase says it.
use Rattle.std.proofs.Common.{ap, ◌∙◌}
use Rattle.device_core.specs.Behind.{exchanging_of}
use Rattle.device_core.proofs.Changing.{exchanging_as}
use Rattle.device_core.proofs.device.Device.is_in_exchange.Goals as goal

pub returns : goal.returns
returns g c = rw (← c.self.view_is) (c.is_exchanging.ensures ∙ (ap exchanging_of c.phase.ensures.phase ∙ exchanging_as c.self.inside.relation))
