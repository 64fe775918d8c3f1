-- A flash that a device left is refused only if it cannot be read, and no record of the plan is one that the application answers.
use Rattle.std.proofs.Common.{List, rules, sym, ap, subst, ◌∙◌}
use Rattle.asked_records.specs.declared.names.RecordName.{RecordName}
use Rattle.plans.specs.declared.parts.PlanRecord.{PlanRecord}
use Rattle.rpc_core.specs.Cache.{kept_of}
use Rattle.asked_records.specs.Asked.{question_in}
use Rattle.device_core.specs.State.{Live, Station}
use Rattle.both_ends.specs.startup.Played.{AreUnnamed}
use Rattle.startup_octets.proofs.Entries.{same_cause}
use Rattle.startup_octets.proofs.playing.begin.Goals as goal

pub begin_world-requires : goal.begin_world-requires
begin_world-requires g c =
    let records = c.args.setup.plan.records.items in
    let fresh = c.in-Ok.ensures.fresh in
    let uncalled = ap (λ (live : Live). kept_of c.args.setup.activity live.rest.calls) fresh in
    let unrelated = ap (λ (live : Live). live.rest.link) fresh in
    let unasked = ap (λ (live : Live). question_in live.rest.asked) fresh in
    let unnamed = subst (λ (s : Station). AreUnnamed s.named records) (sym c.in-Ok.ensures.station)
    (subst (λ (names : List RecordName). AreUnnamed names records) c.as_slice.ensures.value
    (subst (λ (entries : List PlanRecord). AreUnnamed c.as_slice.result.now entries) c.records.ensures.value
    (c.are_unnamed.ensures.0 c.if-not-are_unnamed.false))) in
    (search rules, (search rules, (uncalled, (unrelated, (unasked, unnamed)))))

pub returns-in-Err-clause-starts : goal.returns-in-Err-clause-starts
returns-in-Err-clause-starts g c = λ left cause is. sym (same_cause c.in-Err.refused.0 cause is) ∙ c.in-Err.ensures.left left
