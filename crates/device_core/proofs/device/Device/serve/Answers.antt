-- An Identify request and a Get change nothing.
use Rattle.dcp_core.specs.Request.{asked}
use Rattle.device_core.proofs.Steps.{identify_steps, get_steps}
use Rattle.device_core.proofs.device.Device.serve.Goals as goal

pub returns-in-Identify-clause-steps : goal.returns-in-Identify-clause-steps
returns-in-Identify-clause-steps g c =
    identify_steps g.F.Flash c.args.self.now c.args.asker (asked c.args.request.now) _ _ c.requires.stored c.in-Identify.is c.identify.ensures.frames c.identify.ensures.note c.identify.ensures.sendable

pub returns-in-Get-clause-steps : goal.returns-in-Get-clause-steps
returns-in-Get-clause-steps g c =
    get_steps g.F.Flash c.args.self.now c.args.asker (asked c.args.request.now) _ _ c.requires.stored c.in-Get.is c.get.ensures.frames c.get.ensures.note c.get.ensures.sendable
