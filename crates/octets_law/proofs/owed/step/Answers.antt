-- A whole Write is answered, by the step of the device.
use Rattle.octets_law.proofs.Owing.{step_owed}
use Rattle.octets_law.proofs.owed.step.Goals as goal

pub returns : goal.returns
returns g c = record { owed = step_owed g.F.Flash c.args.device.now _ c.args.event.now _ _ c.step.ensures.steps }
