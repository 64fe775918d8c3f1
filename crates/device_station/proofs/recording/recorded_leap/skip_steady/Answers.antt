-- What units record with which nothing is due: nothing, and they send nothing.
use Rattle.std.proofs.Common.{refl}
use Rattle.device_station.proofs.RecordingLeaps.{goes_on, passes_quietly}
use Rattle.device_station.proofs.recording.recorded_leap.skip_steady.Goals as goal

pub returns-clause-passes : goal.returns-clause-passes
returns-clause-passes g c = rw c.pass_steady.ensures.device (passes_quietly c.args.device.now c.args.units (c.stored.ensures.holds c.requires.going) c.pass_steady.ensures.none)

pub returns-clause-flash : goal.returns-clause-flash
returns-clause-flash g c = rw c.pass_steady.ensures.device refl

pub returns-clause-going : goal.returns-clause-going
returns-clause-going g c = rw c.pass_steady.ensures.device (goes_on c.args.device.now.station c.args.device.now.live c.args.units c.requires.going)
