-- One event after another.
use Rattle.std.proofs.Common.{◌≡◌, ◌+◌, take, ◌++◌, ◌∷◌, [], sym, ap, subst, ◌∙◌}
use Rattle.std.proofs.lemmas.List.{take_more, take_all}
use Rattle.device_station.specs.Runs.{StationRuns}
use Rattle.device_station.proofs.Running.{Laws, run_more, run_none}
use Rattle.device_station.proofs.station.IoStation.run.Goals as goal

pub loop-event-init : goal.loop-event-init
loop-event-init g c =
    let law = c.steps_make_runs.ensures in
    let laws : Laws g.F.Flash = record { goes_on = law.goes_on; all_go_on = law.all_go_on; exact = law.exact; fine = law.fine; calls = law.calls; room = law.room } in
    let begun = law.begins c.args.self.now.device [] (rw (← c.self.view_is) c.stored.ensures.holds) in
    run_none g.F.Flash laws c.args.self.now _ begun.0 begun.1

pub loop-event-preserved : goal.loop-event-preserved
loop-event-preserved g c =
    let law = c.steps_make_runs.ensures in
    let laws : Laws g.F.Flash = record { goes_on = law.goes_on; all_go_on = law.all_go_on; exact = law.exact; fine = law.fine; calls = law.calls; room = law.room } in
    let events = c.args.events.now in
    let so_far = c.loop-event.event-index in
    let more : take (so_far + 1) events ≡ take so_far events ++ c.event-item.result ∷ [] =
    take_more events so_far c.event-item.result c.loop-event-test.true ∙ ap (λ e. take so_far events ++ e ∷ []) (sym c.event-item.is) in
    subst (λ es. StationRuns g.F.Flash c.args.self.now es (g.K.Sink.taken c.args.sink.now) (g.K.Sink.taken c.take.new.sink) c.take.new.self) (sym more)
    (run_more g.F.Flash laws c.args.self.now c.loop-event.self c.take.new.self (take so_far events) c.event-item.result _ _ _ c.loop-event.invariant c.take.ensures)

pub returns : goal.returns
returns g c =
    subst (λ es. StationRuns g.F.Flash c.args.self.now es (g.K.Sink.taken c.args.sink.now) (g.K.Sink.taken c.loop-event.sink) c.loop-event.self)
    (take_all c.loop-event.event-index c.args.events.now c.loop-event-test.false) c.loop-event.invariant
