-- This follows from the laws of the crates below.
use Rattle.end_laws.proofs.HearingDatagrams.{response_at_controller, response_at_device, response_lost, response_unread}
use Rattle.end_laws.proofs.hearing.calls.responses_are_heard.Goals as goal

pub returns-clause-controller : goal.returns-clause-controller
returns-clause-controller c =
    response_at_controller c.frames_are_read.ensures.udp c.responses_are_read.ensures.read c.responses_are_read.ensures.short c.calls_and_responses_differ.ensures.response

pub returns-clause-device : goal.returns-clause-device
returns-clause-device c =
    response_at_device c.frames_are_read.ensures.udp c.responses_are_read.ensures.read c.responses_are_read.ensures.short c.calls_and_responses_differ.ensures.response

pub returns-clause-long : goal.returns-clause-long
returns-clause-long c = response_lost c.frames_are_read.ensures.long c.responses_are_read.ensures.long

pub returns-clause-unread : goal.returns-clause-unread
returns-clause-unread c = response_unread c.frames_are_read.ensures.long c.responses_are_read.ensures.long
