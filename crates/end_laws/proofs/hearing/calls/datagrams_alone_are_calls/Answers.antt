-- This follows from the laws of the crates below.
use Rattle.end_laws.proofs.HearingController.{uncalled}
use Rattle.end_laws.proofs.HearingDevice.{unreported}
use Rattle.end_laws.proofs.hearing.calls.datagrams_alone_are_calls.Goals as goal

pub returns-clause-device : goal.returns-clause-device
returns-clause-device c =
    unreported c.frames_are_read.ensures.alone

pub returns-clause-controller : goal.returns-clause-controller
returns-clause-controller c =
    uncalled c.frames_are_read.ensures.alone
