-- This follows from the laws of the crates below.
use Rattle.end_laws.proofs.HearingExchanges.{inputs_at_controller, inputs_at_device}
use Rattle.end_laws.proofs.hearing.cyclic.inputs_are_heard.Goals as goal

pub returns-clause-controller : goal.returns-clause-controller
returns-clause-controller c =
    inputs_at_controller c.frames_are_read.ensures.real_time

pub returns-clause-device : goal.returns-clause-device
returns-clause-device c =
    inputs_at_device c.frames_are_read.ensures.real_time
