-- What is proved of the run, of what the witness learned.
use Rattle.std.proofs.Common.{◌∷◌, [], drop, refl, sym, ap, subst, ◌∙◌}
use Rattle.std.proofs.lemmas.List.{append-nil}
use Rattle.std.proofs.lemmas.Result.{err_from_is_err_and}
use Rattle.pn_values.specs.declared.real.Real.{Real}
use Rattle.relations.specs.declared.options.DeviceOptions.{DeviceOptions}
use Rattle.both_ends.specs.exchange.Sized.{AreSizedModules}
use Rattle.startup_octets.specs.Alarms.{AreAlarmsTaken}
use Rattle.startup_octets.specs.StartUp.{AreDelivered, AreStartUps}
use Rattle.startup_octets.specs.Outputs.{AreKept, AreShown, outputs_in}
use Rattle.startup_octets.specs.Played.{records_for}
use Rattle.startup_octets.specs.Log.{sent_in, turns_in}
use Rattle.startup_octets.specs.Run.{entries_of, opening_entry}
use Rattle.startup_octets.proofs.AlarmRuns.{none_taken}
use Rattle.startup_octets.proofs.Entries.{added_is, cut_so, cut_turns, entries_delivered, entries_said, entries_sent, no_start_ups, none_added, run_so, run_turns, sized_cut, sized_so}
use Rattle.startup_octets.proofs.OutputRuns.{none_shown}
use Rattle.startup_octets.proofs.OutputSteps.{none_kept}
use Rattle.startup_octets.proofs.playing.play.Goals as goal

-- ---- the device does not start, or the two ends cannot meet

pub returns-in_err-world-clause-turns : goal.returns-in_err-world-clause-turns
returns-in_err-world-clause-turns g c =
    let p = err_from_is_err_and c.from_residual.result c.from_residual.ensures.1 in
    ([], c.args.moves.now, sym (append-nil (g.W.Witness.log c.args.witness.now)), tt, refl, rw (p.1) tt)

pub returns-in_err-world-clause-meets : goal.returns-in_err-world-clause-meets
returns-in_err-world-clause-meets g c = λ can unnamed.
    let p = err_from_is_err_and c.from_residual.result c.from_residual.ensures.1 in
    rw (p.1, p.2) (c.in_err-world.ensures.meets can unnamed)

pub returns-in_err-world-clause-starts : goal.returns-in_err-world-clause-starts
returns-in_err-world-clause-starts g c = λ left.
    let p = err_from_is_err_and c.from_residual.result c.from_residual.ensures.1 in
    rw (p.1, p.2) (c.in_err-world.ensures.starts left)

pub returns-in_err-world-clause-delivered : goal.returns-in_err-world-clause-delivered
returns-in_err-world-clause-delivered g c = λ entries is. subst (λ l. AreDelivered [] (turns_in l)) (none_added _ _ entries refl is) tt

pub returns-in_err-world-clause-start_ups : goal.returns-in_err-world-clause-start_ups
returns-in_err-world-clause-start_ups g c = λ entries is strict.
    subst (λ l. AreStartUps c.args.station.identity.mac c.args.setup.ar (records_for c.args.setup.plan.records.items) (drop 1 (turns_in l))) (none_added _ _ entries refl is) (no_start_ups _ _ _)

pub returns-in_err-world-clause-alarms : goal.returns-in_err-world-clause-alarms
returns-in_err-world-clause-alarms g c = λ entries is. subst AreAlarmsTaken (none_added _ _ entries refl is) none_taken

pub returns-in_err-world-clause-outputs : goal.returns-in_err-world-clause-outputs
returns-in_err-world-clause-outputs g c = λ entries is. subst (AreShown c.args.station.options (outputs_in c.args.setup.plan.real.modules.items)) (none_added _ _ entries refl is) (none_shown _ _)

pub returns-in_err-world-clause-changes : goal.returns-in_err-world-clause-changes
returns-in_err-world-clause-changes g c = λ entries is. subst (AreKept c.args.station.options (outputs_in c.args.setup.plan.real.modules.items)) (none_added _ _ entries refl is) (none_kept _ _)

-- ---- all moves

pub returns-in-Ok-clause-turns : goal.returns-in-Ok-clause-turns
returns-in-Ok-clause-turns g c =
    let first = c.in_ok-world.world in
    let it = c.in-Ok.ensures.played in
    let are = run_turns g.F.Flash first c.args.moves.now c.args.moves.now [] _ _ c.in-Ok.last it (append-nil c.args.moves.now) in
    (opening_entry first ∷ entries_of first it.run, [], are.0, are.1, are.2, refl)

pub returns-in-Ok-clause-sent : goal.returns-in-Ok-clause-sent
returns-in-Ok-clause-sent g c = λ entries is.
    let first = c.in_ok-world.world in
    let it = c.in-Ok.ensures.played in
    ap sent_in (sym (added_is _ _ (opening_entry first ∷ entries_of first it.run) entries it.logged is)) ∙ entries_sent g.F.Flash first it.run it.made ∙ ap (λ w. w.sent) it.ends

pub returns-in-Ok-clause-delivered : goal.returns-in-Ok-clause-delivered
returns-in-Ok-clause-delivered g c =
    let first = c.in_ok-world.world in
    run_so g.F.Flash first (λ l. AreDelivered [] (turns_in l)) (entries_delivered g.F.Flash first) c.args.moves.now _ _ c.in-Ok.last c.in-Ok.ensures.played

pub returns-in-Ok-clause-start_ups : goal.returns-in-Ok-clause-start_ups
returns-in-Ok-clause-start_ups g c = λ entries is strict.
    let first = c.in_ok-world.world in
    let records = records_for c.args.setup.plan.records.items in
    run_so g.F.Flash first (λ l. AreStartUps c.args.station.identity.mac c.args.setup.ar records (drop 1 (turns_in l)))
    (λ run made. entries_said g.F.Flash first run c.args.station.identity.mac c.args.setup.ar records
    (c.start_ups_are_read.ensures.start_up c.in_ok-world.ensures.can strict first run c.in_ok-world.ensures.begins made))
    c.args.moves.now _ _ c.in-Ok.last c.in-Ok.ensures.played entries is

pub returns-in-Ok-clause-alarms : goal.returns-in-Ok-clause-alarms
returns-in-Ok-clause-alarms g c =
    let first = c.in_ok-world.world in
    sized_so g.F.Flash first AreAlarmsTaken
    (λ run made. c.alarms_are_read.ensures.taken c.in_ok-world.ensures.can first run c.in_ok-world.ensures.begins made
    (subst (λ (r : Real). AreSizedModules r.modules.items) (c.real.ensures ∙ ap (λ d. d.live.rest.real) c.device.ensures) c.modules_are_sized.ensures))
    c.args.moves.now c.moves_are_sized.ensures _ _ c.in-Ok.last c.in-Ok.ensures.played

pub returns-in-Ok-clause-outputs : goal.returns-in-Ok-clause-outputs
returns-in-Ok-clause-outputs g c =
    let first = c.in_ok-world.world in
    run_so g.F.Flash first (AreShown c.args.station.options (outputs_in c.args.setup.plan.real.modules.items))
    (λ run made. subst (λ (o : DeviceOptions). AreShown o (outputs_in c.args.setup.plan.real.modules.items) (opening_entry first ∷ entries_of first run)) c.in_ok-world.ensures.options
    (c.outputs_are_shown.ensures.shown c.in_ok-world.ensures.can first run c.in_ok-world.ensures.begins made))
    c.args.moves.now _ _ c.in-Ok.last c.in-Ok.ensures.played

pub returns-in-Ok-clause-changes : goal.returns-in-Ok-clause-changes
returns-in-Ok-clause-changes g c =
    let first = c.in_ok-world.world in
    run_so g.F.Flash first (AreKept c.args.station.options (outputs_in c.args.setup.plan.real.modules.items))
    (λ run made. subst (λ (o : DeviceOptions). AreKept o (outputs_in c.args.setup.plan.real.modules.items) (opening_entry first ∷ entries_of first run)) c.in_ok-world.ensures.options
    (c.outputs_are_shown.ensures.kept c.in_ok-world.ensures.can first run c.in_ok-world.ensures.begins made))
    c.args.moves.now _ _ c.in-Ok.last c.in-Ok.ensures.played

-- ---- no memory for all moves

pub returns-in-Err-clause-turns : goal.returns-in-Err-clause-turns
returns-in-Err-clause-turns g c =
    let are = cut_turns g.F.Flash c.in_ok-world.world c.args.moves.now _ _ c.in-Err.ensures.cut in
    (are.0, are.1, are.2, are.3, are.4, tt)

pub returns-in-Err-clause-delivered : goal.returns-in-Err-clause-delivered
returns-in-Err-clause-delivered g c =
    let first = c.in_ok-world.world in
    cut_so g.F.Flash first (λ l. AreDelivered [] (turns_in l)) (entries_delivered g.F.Flash first) tt c.args.moves.now _ _ c.in-Err.ensures.cut

pub returns-in-Err-clause-start_ups : goal.returns-in-Err-clause-start_ups
returns-in-Err-clause-start_ups g c = λ entries is strict.
    let first = c.in_ok-world.world in
    let records = records_for c.args.setup.plan.records.items in
    cut_so g.F.Flash first (λ l. AreStartUps c.args.station.identity.mac c.args.setup.ar records (drop 1 (turns_in l)))
    (λ run made. entries_said g.F.Flash first run c.args.station.identity.mac c.args.setup.ar records
    (c.start_ups_are_read.ensures.start_up c.in_ok-world.ensures.can strict first run c.in_ok-world.ensures.begins made))
    (no_start_ups _ _ _) c.args.moves.now _ _ c.in-Err.ensures.cut entries is

pub returns-in-Err-clause-alarms : goal.returns-in-Err-clause-alarms
returns-in-Err-clause-alarms g c =
    let first = c.in_ok-world.world in
    sized_cut g.F.Flash first AreAlarmsTaken
    (λ run made. c.alarms_are_read.ensures.taken c.in_ok-world.ensures.can first run c.in_ok-world.ensures.begins made
    (subst (λ (r : Real). AreSizedModules r.modules.items) (c.real.ensures ∙ ap (λ d. d.live.rest.real) c.device.ensures) c.modules_are_sized.ensures))
    none_taken c.args.moves.now c.moves_are_sized.ensures _ _ c.in-Err.ensures.cut

pub returns-in-Err-clause-outputs : goal.returns-in-Err-clause-outputs
returns-in-Err-clause-outputs g c =
    let first = c.in_ok-world.world in
    cut_so g.F.Flash first (AreShown c.args.station.options (outputs_in c.args.setup.plan.real.modules.items))
    (λ run made. subst (λ (o : DeviceOptions). AreShown o (outputs_in c.args.setup.plan.real.modules.items) (opening_entry first ∷ entries_of first run)) c.in_ok-world.ensures.options
    (c.outputs_are_shown.ensures.shown c.in_ok-world.ensures.can first run c.in_ok-world.ensures.begins made))
    (none_shown _ _) c.args.moves.now _ _ c.in-Err.ensures.cut

pub returns-in-Err-clause-changes : goal.returns-in-Err-clause-changes
returns-in-Err-clause-changes g c =
    let first = c.in_ok-world.world in
    cut_so g.F.Flash first (AreKept c.args.station.options (outputs_in c.args.setup.plan.real.modules.items))
    (λ run made. subst (λ (o : DeviceOptions). AreKept o (outputs_in c.args.setup.plan.real.modules.items) (opening_entry first ∷ entries_of first run)) c.in_ok-world.ensures.options
    (c.outputs_are_shown.ensures.kept c.in_ok-world.ensures.can first run c.in_ok-world.ensures.begins made))
    (none_kept _ _) c.args.moves.now _ _ c.in-Err.ensures.cut
