-- Frames of the device remain, and the services rest.
use Rattle.std.proofs.Common.{◌<◌, drop, arith}
use Rattle.device_station.proofs.ServedPacing.{resting_of}
use Rattle.device_station.proofs.port.served.Port.sends.Goals as goal

pub returns-clause-open : goal.returns-clause-open
returns-clause-open c = λ is. rw (← c.self.view_is) (c.sends.ensures.open is)

pub returns-clause-calls : goal.returns-clause-calls
returns-clause-calls c = λ is. rw (← c.self.view_is) (c.sends.ensures.calls is)

pub returns-clause-frames : goal.returns-clause-frames
returns-clause-frames c = λ is. rw (← c.self.view_is) (c.sends.ensures.frames is)

pub returns-clause-own : goal.returns-clause-own
returns-clause-own c = λ is.
    let all = c.self.inside in
    let frames = drop all.frames_past all.own.frames in
    rw (← c.self.view_is) (resting_of all.rest all.limit all.port.device.live.values all.services frames (omega (arith, c.if-self-eq0.false)) c.self.invariant).fetched
