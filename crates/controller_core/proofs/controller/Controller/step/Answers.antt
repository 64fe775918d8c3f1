-- Data is exchanged from exactly the step that answers an ApplicationReady of the relation.
use Rattle.controller_core.specs.Machine.{step_of}
use Rattle.controller_core.proofs.ExchangeBegins.{step_begins, step_exchanges}
use Rattle.controller_core.proofs.controller.Controller.step.Goals as goal

pub returns-clause-exchanging : goal.returns-clause-exchanging
unfolding step_of
returns-clause-exchanging c = step_begins c.args.self.now _ c.args.event.now _ c.handle.ensures.state c.handle.ensures.frames

pub returns-clause-answered : goal.returns-clause-answered
unfolding step_of
returns-clause-answered c = step_exchanges c.args.self.now _ c.args.event.now _ c.handle.ensures.state c.handle.ensures.frames
