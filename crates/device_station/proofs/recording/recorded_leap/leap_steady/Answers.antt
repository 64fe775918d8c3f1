-- What the units up to the next inputs record: nothing, one step each.
use Rattle.std.proofs.Common.{refl}
use Rattle.device_station.proofs.RecordingLeaps.{goes_on, passes_all}
use Rattle.device_station.proofs.recording.recorded_leap.leap_steady.Goals as goal

pub returns-clause-passes : goal.returns-clause-passes
returns-clause-passes g c =
    rw (c.send_steady.ensures.device, c.send_steady.ensures.frames)
    (passes_all c.args.device.now c.args.steady.now.inputs (c.stored.ensures.holds c.requires.going) c.send_steady.ensures.last)

pub returns-clause-flash : goal.returns-clause-flash
returns-clause-flash g c = rw c.send_steady.ensures.device refl

pub returns-clause-going : goal.returns-clause-going
returns-clause-going g c = rw c.send_steady.ensures.device (goes_on c.args.device.now.station c.args.device.now.live c.args.steady.now.inputs c.requires.going)
