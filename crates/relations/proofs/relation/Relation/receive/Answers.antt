-- A cyclic frame only puts off what is due.
use Rattle.relations.specs.RelationState.{RelationState}
use Rattle.relations.proofs.DueReceived.{received_due, received_steady}
use Rattle.relations.proofs.relation.Relation.receive.Goals as goal

pub returns-in-Some-clause-due : goal.returns-in-Some-clause-due
returns-in-Some-clause-due c =
    let link : RelationState = record {
      phase = c.in-Some.field-0;
      request = c.self.inside.request;
      partner = c.self.inside.partner;
      options = c.self.inside.options;
      began = c.self.inside.began;
      inactive = c.self.inside.inactive;
      waited = c.self.inside.waited;
      taken = c.self.inside.taken;
      passed = c.self.inside.passed;
      plugs = c.self.inside.plugs;
      flow = c.self.inside.exchange;
    } in
    rw (← c.self.view_is, c.in-Some.is)
    (received_due link c.args.source c.args.frame_id c.args.body.now c.receive.new.self c.receive.ensures.state)

pub returns-in-Some-clause-steady : goal.returns-in-Some-clause-steady
returns-in-Some-clause-steady c =
    let link : RelationState = record {
      phase = c.in-Some.field-0;
      request = c.self.inside.request;
      partner = c.self.inside.partner;
      options = c.self.inside.options;
      began = c.self.inside.began;
      inactive = c.self.inside.inactive;
      waited = c.self.inside.waited;
      taken = c.self.inside.taken;
      passed = c.self.inside.passed;
      plugs = c.self.inside.plugs;
      flow = c.self.inside.exchange;
    } in
    rw (← c.self.view_is, c.in-Some.is) (λ steady old. received_steady steady link c.args.source c.args.frame_id c.args.body.now c.receive.new.self c.receive.ensures.state old)
