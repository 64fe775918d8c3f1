-- The step of a device answers what it must, and is silent to all else.
use Rattle.answers_law.proofs.Calls.{implicit_at}
use Rattle.answers_law.proofs.Law.{elsewhere_at, get_at, identify_at, of_other_at, resolve_at, set_at, unasked_at}
use Rattle.answers_law.proofs.device.device_answers.Goals as goal

pub returns-clause-elsewhere : goal.returns-clause-elsewhere
returns-clause-elsewhere g c = λ frame is it. elsewhere_at _ _ _ c.args.event.now _ _ c.step.ensures.steps frame is it

pub returns-clause-of_other : goal.returns-clause-of_other
returns-clause-of_other g c = λ frame is it. of_other_at _ _ _ c.args.event.now _ _ c.step.ensures.steps frame is it

pub returns-clause-unasked : goal.returns-clause-unasked
returns-clause-unasked g c = λ frame is it. unasked_at _ _ _ c.args.event.now _ _ c.step.ensures.steps frame is it

pub returns-clause-identify : goal.returns-clause-identify
returns-clause-identify g c = λ frame is it. identify_at _ _ _ c.args.event.now _ _ c.step.ensures.steps frame is c.look.ensures it

pub returns-clause-get : goal.returns-clause-get
returns-clause-get g c = λ frame pairs is it. get_at _ _ _ c.args.event.now _ _ c.step.ensures.steps frame is c.look.ensures pairs it

pub returns-clause-set : goal.returns-clause-set
returns-clause-set g c = λ frame blocks is it. set_at _ _ _ c.args.event.now _ _ c.step.ensures.steps frame is c.look.ensures blocks it

pub returns-clause-resolve : goal.returns-clause-resolve
returns-clause-resolve g c = λ frame is it. resolve_at _ _ _ c.args.event.now _ _ c.step.ensures.steps frame is it

pub returns-clause-implicit : goal.returns-clause-implicit
returns-clause-implicit g c = λ call it. implicit_at _ _ _ c.args.event.now _ _ c.step.ensures.steps call it
