-- A unit of time at a device with a relation.
use Rattle.strangers_law.proofs.Endings.{unit_passes}
use Rattle.strangers_law.proofs.silence.pass_unit.Goals as goal

pub returns-clause-left : goal.returns-clause-left
returns-clause-left g c = λ link exists timed. (unit_passes g.F.Flash c.args.device.now _ link _ _ c.step.ensures.steps exists timed).left

pub returns-clause-ends : goal.returns-clause-ends
returns-clause-ends g c = λ link exists timed last. (unit_passes g.F.Flash c.args.device.now _ link _ _ c.step.ensures.steps exists timed).ends last

pub returns-clause-says : goal.returns-clause-says
returns-clause-says g c = λ link exists timed none. (unit_passes g.F.Flash c.args.device.now _ link _ _ c.step.ensures.steps exists timed).says none
