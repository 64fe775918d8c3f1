-- A step beside services.
use Rattle.std.proofs.Common.{◌≡◌, Option, Some, None, refl, sym, subst}
use Rattle.device_station.specs.Serving.{Serving}
use Rattle.script_session.specs.Power.{Runs}
use Rattle.script_session.proofs.Begins.{running_of}
use Rattle.script_session.proofs.Stepping.{stepped}
use Rattle.script_session.proofs.AnyFlash.{step_with, step_without}
use Rattle.script_session.specs.Ends.{Running, station_in}
use Rattle.script_session.specs.Session.{IsStepFor}
use Rattle.script_session.proofs.power.DemoStation.step.Goals as goal

pub returns-in-Some-clause-steps : goal.returns-in-Some-clause-steps
returns-in-Some-clause-steps c station runs =
    let same : c.args.self.now ≡ running_of c.self.inside.device (Some c.in-Some.services) = cc in
    stepped _ (λ flash reliable. reliable) (λ flash reliable. reliable) (λ flash. refl) station c.self.inside.device c.step_beside.new.device c.in-Some.services c.step_beside.new.services
    c.args.event.now c.step_beside.new.outbox c.step_beside.result (subst (Runs station) same runs) c.step_beside.ensures

pub returns-in-Some-clause-any : goal.returns-in-Some-clause-any
returns-in-Some-clause-any c =
    let same : c.args.self.now ≡ running_of c.self.inside.device (Some c.in-Some.services) = cc in
    subst (λ (r : Running). IsStepFor (station_in r) c.args.event.now (running_of c.step_beside.new.device (Some c.step_beside.new.services)) c.step_beside.new.outbox c.step_beside.result) (sym same)
    (step_with _ c.self.inside.device c.step_beside.new.device c.in-Some.services c.step_beside.new.services c.args.event.now c.step_beside.new.outbox c.step_beside.result c.step_beside.ensures)

pub returns-in-None-clause-any : goal.returns-in-None-clause-any
returns-in-None-clause-any c =
    let none : c.self.inside.services ≡ None = c.in-None.is in
    let same : c.args.self.now ≡ running_of c.self.inside.device None = cc in
    subst (λ (s : Option Serving). IsStepFor (station_in c.args.self.now) c.args.event.now (running_of c.step_alone.new.device s) c.step_alone.new.outbox c.step_alone.result) (sym none)
    (subst (λ (r : Running). IsStepFor (station_in r) c.args.event.now (running_of c.step_alone.new.device None) c.step_alone.new.outbox c.step_alone.result) (sym same)
    (step_without _ c.self.inside.device c.step_alone.new.device c.args.event.now c.step_alone.new.outbox c.step_alone.result c.step_alone.ensures.alone c.step_alone.ensures.services))
