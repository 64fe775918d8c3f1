-- Units that bring nothing, while only the timers of the exchange run, or if there is no relation.
use Rattle.std.proofs.Common.{Some, None, refl, sym, arith}
use Rattle.relations.specs.RelationState.{RelationState}
use Rattle.relations.specs.Steady.{IsSteady}
use Rattle.relations.proofs.Leaps.{begun_kept, none_after, none_due}
use Rattle.relations.proofs.SteadyRuns.{inputs_never, steady_due, steady_later, steady_nothing, steady_passes}
use Rattle.relations.proofs.relation.Relation.pass_steady.Goals as goal

pub returns-in_default-clause-state : goal.returns-in_default-clause-state
returns-in_default-clause-state c = rw (← c.self.view_is, c.in_default.is) (sym (none_after c.args.units))

pub returns-in_default-clause-nothing : goal.returns-in_default-clause-nothing
returns-in_default-clause-nothing c = rw (← c.self.view_is, c.in_default.is) (none_due c.args.units)

pub returns-in_default-clause-due : goal.returns-in_default-clause-due
returns-in_default-clause-due c =
    let is : IsSteady c.args.steady.now None = rw (← c.self.view_is, c.in_default.is) at c.requires.steady in
    rw (← c.self.view_is, c.in_default.is) (sym (inputs_never c.args.steady.now is.runs))

pub returns-in_default-clause-before : goal.returns-in_default-clause-before
returns-in_default-clause-before c =
    let is : IsSteady c.args.steady.now None = rw (← c.self.view_is, c.in_default.is) at c.requires.steady in
    rw (← c.self.view_is, c.in_default.is) (sym (inputs_never c.args.steady.now is.runs))

pub pass_calm-requires-clause-calm : goal.pass_calm-requires-clause-calm
pass_calm-requires-clause-calm c =
    let link : RelationState = record {
      phase = c.in-Some.field-0;
      request = c.self.inside.request;
      partner = c.self.inside.partner;
      options = c.self.inside.options;
      began = c.self.inside.began;
      inactive = c.self.inside.inactive;
      waited = c.self.inside.waited;
      taken = c.self.inside.taken;
      passed = c.self.inside.passed;
      plugs = c.self.inside.plugs;
      flow = c.self.inside.exchange;
    } in
    let is : IsSteady c.args.steady.now (Some link) = rw (← c.self.view_is, c.in-Some.is) at c.requires.steady in
    is.runs.calm

pub pass_calm-requires-clause-few : goal.pass_calm-requires-clause-few
pass_calm-requires-clause-few c =
    let link : RelationState = record {
      phase = c.in-Some.field-0;
      request = c.self.inside.request;
      partner = c.self.inside.partner;
      options = c.self.inside.options;
      began = c.self.inside.began;
      inactive = c.self.inside.inactive;
      waited = c.self.inside.waited;
      taken = c.self.inside.taken;
      passed = c.self.inside.passed;
      plugs = c.self.inside.plugs;
      flow = c.self.inside.exchange;
    } in
    let is : IsSteady c.args.steady.now (Some link) = rw (← c.self.view_is, c.in-Some.is) at c.requires.steady in
    let first = is.first in
    let inputs = is.runs.inputs in
    let held = is.runs.held in
    omega (arith, c.requires.few, first, inputs, held)

pub returns-clause-state : goal.returns-clause-state
returns-clause-state c =
    let link : RelationState = record {
      phase = c.in-Some.field-0;
      request = c.self.inside.request;
      partner = c.self.inside.partner;
      options = c.self.inside.options;
      began = c.self.inside.began;
      inactive = c.self.inside.inactive;
      waited = c.self.inside.waited;
      taken = c.self.inside.taken;
      passed = c.self.inside.passed;
      plugs = c.self.inside.plugs;
      flow = c.self.inside.exchange;
    } in
    let is : IsSteady c.args.steady.now (Some link) = rw (← c.self.view_is, c.in-Some.is) at c.requires.steady in
    rw (← c.self.view_is, c.in-Some.is) (sym (steady_passes c.args.steady.now link c.args.units c.pass_calm.new.self is c.requires.few c.pass_calm.ensures.nothing c.pass_calm.ensures.state))

pub returns-clause-nothing : goal.returns-clause-nothing
returns-clause-nothing c =
    let link : RelationState = record {
      phase = c.in-Some.field-0;
      request = c.self.inside.request;
      partner = c.self.inside.partner;
      options = c.self.inside.options;
      began = c.self.inside.began;
      inactive = c.self.inside.inactive;
      waited = c.self.inside.waited;
      taken = c.self.inside.taken;
      passed = c.self.inside.passed;
      plugs = c.self.inside.plugs;
      flow = c.self.inside.exchange;
    } in
    let is : IsSteady c.args.steady.now (Some link) = rw (← c.self.view_is, c.in-Some.is) at c.requires.steady in
    rw (← c.self.view_is, c.in-Some.is) (steady_nothing c.args.steady.now link c.args.units is c.requires.few c.pass_calm.ensures.nothing)

pub returns-clause-steady : goal.returns-clause-steady
returns-clause-steady c =
    let link : RelationState = record {
      phase = c.in-Some.field-0;
      request = c.self.inside.request;
      partner = c.self.inside.partner;
      options = c.self.inside.options;
      began = c.self.inside.began;
      inactive = c.self.inside.inactive;
      waited = c.self.inside.waited;
      taken = c.self.inside.taken;
      passed = c.self.inside.passed;
      plugs = c.self.inside.plugs;
      flow = c.self.inside.exchange;
    } in
    let is : IsSteady c.args.steady.now (Some link) = rw (← c.self.view_is, c.in-Some.is) at c.requires.steady in
    rw c.in-Some.is (steady_later c.args.steady.now _ link c.args.units c.pass_calm.new.self is c.requires.few refl refl c.pass_calm.ensures.calm c.pass_calm.ensures.frame c.pass_calm.ensures.held)

pub returns-clause-due : goal.returns-clause-due
returns-clause-due c =
    let link : RelationState = record {
      phase = c.in-Some.field-0;
      request = c.self.inside.request;
      partner = c.self.inside.partner;
      options = c.self.inside.options;
      began = c.self.inside.began;
      inactive = c.self.inside.inactive;
      waited = c.self.inside.waited;
      taken = c.self.inside.taken;
      passed = c.self.inside.passed;
      plugs = c.self.inside.plugs;
      flow = c.self.inside.exchange;
    } in
    let is : IsSteady c.args.steady.now (Some link) = rw (← c.self.view_is, c.in-Some.is) at c.requires.steady in
    rw c.in-Some.is (steady_due _ _ (steady_later c.args.steady.now _ link c.args.units c.pass_calm.new.self is c.requires.few refl refl c.pass_calm.ensures.calm c.pass_calm.ensures.frame c.pass_calm.ensures.held))

pub returns-clause-before : goal.returns-clause-before
returns-clause-before c =
    let link : RelationState = record {
      phase = c.in-Some.field-0;
      request = c.self.inside.request;
      partner = c.self.inside.partner;
      options = c.self.inside.options;
      began = c.self.inside.began;
      inactive = c.self.inside.inactive;
      waited = c.self.inside.waited;
      taken = c.self.inside.taken;
      passed = c.self.inside.passed;
      plugs = c.self.inside.plugs;
      flow = c.self.inside.exchange;
    } in
    let is : IsSteady c.args.steady.now (Some link) = rw (← c.self.view_is, c.in-Some.is) at c.requires.steady in
    rw (← c.self.view_is, c.in-Some.is) (steady_due c.args.steady.now link is)

pub invariant_of-self : goal.invariant_of-self
invariant_of-self c = (
  c.self.invariant.0,
  c.self.invariant.1,
  begun_kept c.self.inside.phase c.self.inside.exchange c.pass_calm.new.self c.args.units c.pass_calm.ensures.state c.self.invariant.2,
)
