-- Several units that bring nothing to a relation, or to none.
use Rattle.std.proofs.Common.{◌*◌, ◌<◌, refl, sym, arith}
use Rattle.relations.specs.RelationState.{RelationState}
use Rattle.relations.specs.Leaps.{link_due_in, plug_again_in}
use Rattle.relations.specs.exchange.Leaps.{flow_due_in}
use Rattle.relations.proofs.DueLater.{timers_nearer}
use Rattle.relations.proofs.Leaps.{begun_kept, below_left, below_right, later_after, none_after, none_due, nothing_after}
use Rattle.relations.proofs.relation.Relation.pass.Goals as goal

pub returns-in_default-clause-state : goal.returns-in_default-clause-state
returns-in_default-clause-state c = rw (← c.self.view_is, c.in_default.is) (sym (none_after c.args.units))

pub returns-in_default-clause-nothing : goal.returns-in_default-clause-nothing
returns-in_default-clause-nothing c = rw (← c.self.view_is, c.in_default.is) (none_due c.args.units)

pub pass-requires : goal.pass-requires
pass-requires c = below_left c.args.units _ _ (rw (← c.self.view_is, c.in-Some.is) at c.requires)

pub returns-clause-state : goal.returns-clause-state
returns-clause-state c =
    let link : RelationState = record {
      phase = c.in-Some.phase;
      request = c.self.inside.request;
      partner = c.self.inside.partner;
      options = c.self.inside.options;
      began = c.self.inside.began;
      inactive = c.self.inside.inactive;
      waited = c.self.inside.waited;
      taken = c.self.inside.taken;
      passed = c.self.inside.passed;
      plugs = c.self.inside.plugs;
      flow = c.self.inside.exchange;
    } in
    let below : c.args.units < link_due_in link = rw (← c.self.view_is, c.in-Some.is) at c.requires in
    rw (← c.self.view_is, c.in-Some.is) (rw (later_after link c.args.units below c.pass.ensures.nothing)
    (rw (c.pass_timers.ensures.inactive, c.pass_timers.ensures.waited, c.pass_plugs.ensures.state, c.pass.ensures.state) refl))

pub returns-clause-nothing : goal.returns-clause-nothing
returns-clause-nothing c =
    let link : RelationState = record {
      phase = c.in-Some.phase;
      request = c.self.inside.request;
      partner = c.self.inside.partner;
      options = c.self.inside.options;
      began = c.self.inside.began;
      inactive = c.self.inside.inactive;
      waited = c.self.inside.waited;
      taken = c.self.inside.taken;
      passed = c.self.inside.passed;
      plugs = c.self.inside.plugs;
      flow = c.self.inside.exchange;
    } in
    let below : c.args.units < link_due_in link = rw (← c.self.view_is, c.in-Some.is) at c.requires in
    rw (← c.self.view_is, c.in-Some.is) (nothing_after link c.args.units below c.pass.ensures.nothing c.pass_plugs.ensures.nothing)

pub returns-in_default-clause-due : goal.returns-in_default-clause-due
returns-in_default-clause-due c = rw (← c.self.view_is, c.in_default.is) (omega arith)

pub returns-clause-due : goal.returns-clause-due
returns-clause-due c =
    rw (← c.self.view_is, c.in-Some.is) (rw (c.pass_timers.ensures.inactive, c.pass_timers.ensures.waited)
    (timers_nearer c.in-Some.phase (c.self.inside.request.ar.timeout_factor * 3200) c.self.inside.inactive c.self.inside.waited c.args.units
    (flow_due_in c.self.inside.exchange) (flow_due_in c.pass.new.self)
    (plug_again_in c.in-Some.phase c.self.inside.plugs) (plug_again_in c.in-Some.phase c.pass_plugs.new.plugs)
    c.pass.ensures.due c.pass_plugs.ensures.due))

pub pass_timers-requires-clause-over : goal.pass_timers-requires-clause-over
pass_timers-requires-clause-over c =
    rw c.limit_of-limit.ensures.value
    (below_left c.args.units _ _ (below_right c.args.units _ _ (below_right c.args.units _ _ (rw (← c.self.view_is, c.in-Some.is) at c.requires))))

pub pass_timers-requires-clause-again : goal.pass_timers-requires-clause-again
pass_timers-requires-clause-again c =
    below_right c.args.units _ _ (below_right c.args.units _ _ (below_right c.args.units _ _ (rw (← c.self.view_is, c.in-Some.is) at c.requires)))

pub pass_plugs-requires : goal.pass_plugs-requires
pass_plugs-requires c = below_left c.args.units _ _ (below_right c.args.units _ _ (rw (← c.self.view_is, c.in-Some.is) at c.requires))

pub invariant_of-self : goal.invariant_of-self
invariant_of-self c = (
  c.pass_timers.ensures.most c.self.invariant.0 c.limit_of-limit.ensures.most,
  c.pass_timers.ensures.few c.self.invariant.1,
  begun_kept c.self.inside.phase c.self.inside.exchange c.pass.new.self c.args.units c.pass.ensures.state c.self.invariant.2,
)
