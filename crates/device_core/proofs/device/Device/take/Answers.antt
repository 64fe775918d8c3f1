-- A flash that is reliable stays so with one event.
use Rattle.device_core.proofs.device.Device.take.Goals as goal

pub returns-then-not-is_lost-clause-reliable : goal.returns-then-not-is_lost-clause-reliable
returns-then-not-is_lost-clause-reliable g c = λ reliable fine.
    let now = c.step.ensures.reliable reliable fine in
    (now.0, now.1)

pub returns-else-not-is_lost-clause-reliable : goal.returns-else-not-is_lost-clause-reliable
returns-else-not-is_lost-clause-reliable g c = λ reliable fine.
    let now = c.step.ensures.reliable reliable fine in
    (now.0, now.1)
