-- This follows from the laws of the crates below.
use Rattle.end_laws.proofs.HearingDatagrams.{ready_at_controller, ready_at_device}
use Rattle.end_laws.proofs.hearing.calls.ready_calls_are_heard.Goals as goal

pub returns-clause-controller : goal.returns-clause-controller
returns-clause-controller c =
    ready_at_controller c.frames_are_read.ensures.udp c.calls_are_read.ensures.read c.calls_are_read.ensures.short

pub returns-clause-device : goal.returns-clause-device
returns-clause-device c =
    ready_at_device c.frames_are_read.ensures.udp c.calls_are_read.ensures.read c.calls_are_read.ensures.short c.calls_and_responses_differ.ensures.call c.calls_name_their_interface.ensures.controller
