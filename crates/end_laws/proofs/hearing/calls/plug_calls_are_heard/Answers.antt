-- This follows from the laws of the crates below.
use Rattle.end_laws.proofs.HearingDatagrams.{plug_at_controller, plug_at_device}
use Rattle.end_laws.proofs.HearingLow.{plug_unready}
use Rattle.end_laws.proofs.HearingSendings.{plug_can}
use Rattle.end_laws.proofs.hearing.calls.plug_calls_are_heard.Goals as goal

pub returns-clause-sent : goal.returns-clause-sent
returns-clause-sent c = plug_can

pub returns-clause-controller : goal.returns-clause-controller
returns-clause-controller c =
    plug_at_controller c.frames_are_read.ensures.udp c.calls_are_read.ensures.read c.calls_are_read.ensures.short

pub returns-clause-other : goal.returns-clause-other
returns-clause-other c = plug_unready

pub returns-clause-device : goal.returns-clause-device
returns-clause-device c =
    plug_at_device c.frames_are_read.ensures.udp c.calls_are_read.ensures.read c.calls_are_read.ensures.short c.calls_and_responses_differ.ensures.call c.calls_name_their_interface.ensures.controller
