-- Several units at once, beside services or without.
use Rattle.std.proofs.Common.{◌≡◌, replicate, Option, Some, None, sym, subst}
use Rattle.device_frames.specs.declared.event.Event.TheVariants as event
use Rattle.device_station.specs.Serving.{Serving}
use Rattle.script_session.specs.Ends.{device_run}
use Rattle.script_session.specs.Power.{Runs}
use Rattle.script_session.specs.Session.{IsLeapt}
use Rattle.script_session.proofs.Begins.{running_of}
use Rattle.script_session.proofs.Leaping.{leapt_alone, leapt_beside}
use Rattle.script_session.proofs.power.DemoStation.elapse.Goals as goal

pub returns-in-Some-clause-leapt : goal.returns-in-Some-clause-leapt
returns-in-Some-clause-leapt c station runs =
    let same : c.args.self.now ≡ running_of c.self.inside.device (Some c.in-Some.services) = cc in
    leapt_beside station c.self.inside.device c.elapse_beside.new.device c.in-Some.services c.elapse_beside.new.services c.args.units c.elapse_beside.new.outbox
    (subst (Runs station) same runs) c.elapse_beside.ensures.device c.elapse_beside.ensures.services c.elapse_beside.ensures.frames

pub returns-in-None-clause-leapt : goal.returns-in-None-clause-leapt
returns-in-None-clause-leapt c station runs =
    let same : c.args.self.now ≡ running_of c.self.inside.device None = cc in
    subst (λ (had : Option Serving). IsLeapt (device_run station (replicate c.args.units event.Tick)) (running_of c.elapse_alone.new.device had) c.elapse_alone.new.outbox) (sym c.in-None.is)
    (leapt_alone station c.self.inside.device c.elapse_alone.new.device c.args.units c.elapse_alone.new.outbox
    (subst (Runs station) same runs) c.elapse_alone.ensures.device c.elapse_alone.ensures.frames c.elapse_alone.ensures.services)
