-- The laws of a step, of this step.
use Rattle.strangers_law.proofs.device.step_device.Goals as goal

pub returns-clause-left : goal.returns-clause-left
returns-clause-left g c = λ link exists strange. c.strangers_leave_a_device.ensures.left c.args.device.now _ link c.args.event.now _ _ c.step.ensures.steps exists strange

pub returns-clause-silent : goal.returns-clause-silent
returns-clause-silent g c = λ link exists strange. c.strangers_leave_a_device.ensures.silent c.args.device.now _ link c.args.event.now _ _ c.step.ensures.steps exists strange
