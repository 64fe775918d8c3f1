-- The parts of the relation change one after another.
use Rattle.std.proofs.Common.{refl}
use Rattle.relations.specs.RelationState.{RelationState}
use Rattle.relations.proofs.Changed.{begun_changed, called_to, changed_to}
use Rattle.relations.proofs.relation.Relation.change_modules.Goals as goal

pub invariant_of-self : goal.invariant_of-self
invariant_of-self c = (
  c.self.invariant.0,
  c.self.invariant.1,
  rw (c.restate.ensures, c.renew.ensures, c.report_change-is_alarm.ensures.state)
      (begun_changed c.self.inside.phase c.change_places.new.plugs c.affected-2.result c.self.inside.options.inputs_begin_bad c.is_any-is_own.result
      c.self.inside.request c.diff-rows.result c.args.change.now c.args.diagnoses.now c.self.inside.exchange c.self.invariant.2),
)

pub returns-clause-alarm : goal.returns-clause-alarm
returns-clause-alarm c =
    rw (← c.self.view_is, c.in-Some.is, c.report_change-is_alarm.ensures.sent, c.is_any-is_own.ensures, c.affected.ensures, c.change_places.ensures, c.diff-rows.ensures, c.expected.ensures) refl

pub returns-clause-ready : goal.returns-clause-ready
returns-clause-ready c =
    let link : RelationState = record {
      phase = c.in-Some.field-0;
      request = c.self.inside.request;
      partner = c.self.inside.partner;
      options = c.self.inside.options;
      began = c.self.inside.began;
      inactive = c.self.inside.inactive;
      waited = c.self.inside.waited;
      taken = c.self.inside.taken;
      passed = c.self.inside.passed;
      plugs = c.self.inside.plugs;
      flow = c.self.inside.exchange;
    } in
    rw (← c.self.view_is, c.in-Some.is)
    (called_to c.args.real.now.modules.items c.args.change.now c.args.diagnoses.now link c.diff-rows.result c.change_places.new.plugs c.follow.new.plugs
    c.is_any-is_own.result c.report_change-is_alarm.result c.call_next-is_ready.result c.restate.new.self
    (rw (c.diff-rows.ensures, c.expected.ensures) refl) c.change_places.ensures (rw (c.is_any-is_own.ensures, c.affected.ensures) refl)
    c.report_change-is_alarm.ensures.sent
    (rw (c.restate.ensures, c.renew.ensures, c.affected-2.ensures, c.report_change-is_alarm.ensures.state) refl)
    c.follow.ensures.plugs c.call_next-is_ready.ensures.sent)

pub returns-clause-state : goal.returns-clause-state
returns-clause-state c =
    let link : RelationState = record {
      phase = c.in-Some.field-0;
      request = c.self.inside.request;
      partner = c.self.inside.partner;
      options = c.self.inside.options;
      began = c.self.inside.began;
      inactive = c.self.inside.inactive;
      waited = c.self.inside.waited;
      taken = c.self.inside.taken;
      passed = c.self.inside.passed;
      plugs = c.self.inside.plugs;
      flow = c.self.inside.exchange;
    } in
    rw (← c.self.view_is, c.in-Some.is)
    (changed_to c.args.real.now.modules.items c.args.change.now c.args.diagnoses.now link c.diff-rows.result c.change_places.new.plugs c.follow.new.plugs
    c.call_next-is_ready.new.self c.is_any-is_own.result c.report_change-is_alarm.result c.restate.new.self c.follow.new.taken
    (rw (c.diff-rows.ensures, c.expected.ensures) refl) c.change_places.ensures (rw (c.is_any-is_own.ensures, c.affected.ensures) refl)
    c.report_change-is_alarm.ensures.sent
    (rw (c.restate.ensures, c.renew.ensures, c.affected-2.ensures, c.report_change-is_alarm.ensures.state) refl)
    c.follow.ensures.taken c.follow.ensures.plugs c.call_next-is_ready.ensures.state)
