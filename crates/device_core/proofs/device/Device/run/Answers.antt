-- One event after another.
use Rattle.std.proofs.Common.{◌≡◌, ◌+◌, take, ◌++◌, ◌∷◌, [], sym, ap, subst, ◌∙◌}
use Rattle.std.proofs.lemmas.List.{take_more, take_all}
use Rattle.device_core.specs.State.{Live}
use Rattle.device_core.specs.Faults.{RunGoesOn}
use Rattle.device_core.specs.Steps.{Runs, IsBehindCalls}
use Rattle.device_core.proofs.Called.{run_called}
use Rattle.device_core.proofs.Faults.{no_event, event_more}
use Rattle.device_core.proofs.Runs.{no_run, run_more, run_quietly, run_finely, run_takes_room}
use Rattle.device_core.proofs.device.Device.run.Goals as goal

pub loop-event-init : goal.loop-event-init
loop-event-init g c = record {
  runs = no_run g.F.Flash c.args.self.now _ (rw (← c.self.view_is) c.self.invariant);
  goes_on = λ _. no_event c.args.self.now _;
  reliable = λ reliable fine. (reliable, fine);
}

pub loop-event-preserved : goal.loop-event-preserved
loop-event-preserved g c =
    let events = c.args.events.now in
    let so_far = c.loop-event.event-index in
    let more : take (so_far + 1) events ≡ take so_far events ++ c.event-item.result ∷ [] =
    take_more events so_far c.event-item.result c.loop-event-test.true ∙ ap (λ e. take so_far events ++ e ∷ []) (sym c.event-item.is) in
    record {
      runs = subst (λ es. Runs g.F.Flash c.args.self.now es (g.K.Sink.taken c.args.sink.now) (g.K.Sink.taken c.take.new.sink) c.take.new.self) (sym more)
          (run_more g.F.Flash c.args.self.now c.loop-event.self c.take.new.self (take so_far events) c.event-item.result _ _ _ c.loop-event.invariant.runs c.take.ensures.steps);
      goes_on = λ there. subst (λ es. RunGoesOn c.args.self.now es (g.K.Sink.taken c.args.sink.now) (g.K.Sink.taken c.take.new.sink) c.take.new.self) (sym more)
          (event_more g.F.Flash c.args.self.now c.loop-event.self c.take.new.self (take so_far events) c.event-item.result _ _ _
          c.loop-event.invariant.runs.same c.loop-event.invariant.goes_on c.take.ensures.steps there);
      reliable = λ reliable fine. let was = c.loop-event.invariant.reliable reliable fine in c.take.ensures.reliable was.0 was.1;
    }

pub returns-clause-runs : goal.returns-clause-runs
returns-clause-runs g c =
    subst (λ es. Runs g.F.Flash c.args.self.now es (g.K.Sink.taken c.args.sink.now) (g.K.Sink.taken c.loop-event.sink) c.loop-event.self)
    (take_all c.loop-event.event-index c.args.events.now c.loop-event-test.false) c.loop-event.invariant.runs

pub returns-clause-goes_on : goal.returns-clause-goes_on
returns-clause-goes_on g c = λ there.
    subst (λ es. RunGoesOn c.args.self.now es (g.K.Sink.taken c.args.sink.now) (g.K.Sink.taken c.loop-event.sink) c.loop-event.self)
    (take_all c.loop-event.event-index c.args.events.now c.loop-event-test.false) (c.loop-event.invariant.goes_on there)

pub returns-clause-exact : goal.returns-clause-exact
returns-clause-exact g c = run_quietly g.F.Flash c.args.self.now c.loop-event.self c.args.events.now _ _ (returns-clause-runs g c)

pub returns-clause-calls : goal.returns-clause-calls
returns-clause-calls g c =
    let runs = returns-clause-runs g c in
    let old = c.args.self.now in
    subst (λ (live : Live). IsBehindCalls old.live.rest.calls live.rest.calls) (sym runs.live) (run_called runs.outcomes old.station old.live c.args.events.now)

pub returns-clause-reliable : goal.returns-clause-reliable
returns-clause-reliable g c = λ reliable fine.
    let now = c.loop-event.invariant.reliable reliable fine in
    (now.0, now.1, run_finely g.F.Flash c.args.self.now c.loop-event.self c.args.events.now _ _ (returns-clause-runs g c) now.1)

pub returns-clause-room : goal.returns-clause-room
returns-clause-room g c = λ fine.
    run_takes_room g.F.Flash c.args.self.now c.loop-event.self c.args.events.now _ _ (returns-clause-runs g c) fine
