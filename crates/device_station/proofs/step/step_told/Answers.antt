-- The device's step, what the services do beside it, and the step of a call that was completed.
use Rattle.device_frames.specs.declared.note.Note.TheVariants.{Done}
use Rattle.device_station.proofs.Stepping.{call_given, none_given, station_steps}
use Rattle.device_station.proofs.step.step_told.Goals as goal

pub returns-in-Noted : goal.returns-in-Noted
returns-in-Noted g c =
    let both = c.step_both-attended in
    let beside = rw c.in-Noted.is at both.ensures.beside in
    let call = rw c.in-Noted.is at both.ensures.call in
    station_steps g.F.Flash c.args.device.now both.new.device both.new.device c.args.event.now _ _ _ both.result.0 c.in-Noted.note c.args.services.now both.new.services both.ensures.alone beside
    (none_given g.F.Flash _ both.new.device _ call)

pub returns-in-Joined : goal.returns-in-Joined
returns-in-Joined g c =
    let both = c.step_both-attended in
    let beside = rw c.in-Joined.is at both.ensures.beside in
    let call = rw c.in-Joined.is at both.ensures.call in
    station_steps g.F.Flash c.args.device.now both.new.device c.give.new.device c.args.event.now _ _ _ both.result.0 Done c.args.services.now both.new.services both.ensures.alone beside
    (call_given g.F.Flash c.args.device.now both.new.device c.give.new.device c.args.event.now both.new.call _ _ both.result.0 c.give.result c.args.services.now both.ensures.alone call c.give.ensures)
