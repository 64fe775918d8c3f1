-- This follows from the laws of the crates below.
use Rattle.end_laws.proofs.HearingDatagrams.{answer_at_controller, answer_at_device}
use Rattle.end_laws.proofs.hearing.calls.ready_answers_are_heard.Goals as goal

pub returns-clause-device : goal.returns-clause-device
returns-clause-device c =
    answer_at_device c.frames_are_read.ensures.udp c.responses_are_read.ensures.read c.responses_are_read.ensures.short c.calls_and_responses_differ.ensures.response

pub returns-clause-controller : goal.returns-clause-controller
returns-clause-controller c =
    answer_at_controller c.frames_are_read.ensures.udp c.responses_are_read.ensures.read c.responses_are_read.ensures.short c.calls_and_responses_differ.ensures.response
