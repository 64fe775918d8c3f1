-- An input changes nothing that is due.
use Rattle.relations.specs.RelationState.{RelationState}
use Rattle.relations.proofs.InputsDue.{given_due, given_steady}
use Rattle.relations.proofs.relation.Relation.give.Goals as goal

pub returns-in-Some-clause-due : goal.returns-in-Some-clause-due
returns-in-Some-clause-due c =
    let link : RelationState = record {
      phase = c.in-Some.field-0;
      request = c.self.inside.request;
      partner = c.self.inside.partner;
      options = c.self.inside.options;
      began = c.self.inside.began;
      inactive = c.self.inside.inactive;
      waited = c.self.inside.waited;
      taken = c.self.inside.taken;
      passed = c.self.inside.passed;
      plugs = c.self.inside.plugs;
      flow = c.self.inside.exchange;
    } in
    rw (← c.self.view_is, c.in-Some.is) (given_due link c.args.slot c.args.subslot c.args.value.now c.give.new.self c.give.ensures.state)

pub returns-in-Some-clause-steady : goal.returns-in-Some-clause-steady
returns-in-Some-clause-steady c =
    let link : RelationState = record {
      phase = c.in-Some.field-0;
      request = c.self.inside.request;
      partner = c.self.inside.partner;
      options = c.self.inside.options;
      began = c.self.inside.began;
      inactive = c.self.inside.inactive;
      waited = c.self.inside.waited;
      taken = c.self.inside.taken;
      passed = c.self.inside.passed;
      plugs = c.self.inside.plugs;
      flow = c.self.inside.exchange;
    } in
    rw (← c.self.view_is, c.in-Some.is) (λ steady old. given_steady steady link c.args.slot c.args.subslot c.args.value.now c.give.new.self c.give.ensures.state old)
