-- Units up to the next one that brings inputs, while only the timers of the exchange run. There is a relation: without one nothing is
-- ever due.
use Rattle.std.proofs.Common.{Some, refl, sym, arith}
use Rattle.relations.specs.declared.phase.Phase.{Phase}
use Rattle.relations.specs.RelationState.{RelationState, link_in}
use Rattle.relations.specs.Steady.{IsSteady}
use Rattle.relations.proofs.Leaps.{begun_kept}
use Rattle.relations.proofs.SteadyRuns.{known_again, stands, steady_before, steady_due, steady_sends, steady_sent, steady_settles}
use Rattle.relations.proofs.relation.Relation.send_steady.Goals as goal

pub send_calm-requires-clause-calm : goal.send_calm-requires-clause-calm
send_calm-requires-clause-calm c =
    let of : Phase → RelationState = λ phase. record {
      phase = phase;
      request = c.self.inside.request;
      partner = c.self.inside.partner;
      options = c.self.inside.options;
      began = c.self.inside.began;
      inactive = c.self.inside.inactive;
      waited = c.self.inside.waited;
      taken = c.self.inside.taken;
      passed = c.self.inside.passed;
      plugs = c.self.inside.plugs;
      flow = c.self.inside.exchange;
    } in
    let inside : IsSteady c.args.steady.now (link_in c.self.inside.phase of) = rw (← c.self.view_is) at c.requires.steady in
    let found = stands c.args.steady.now c.self.inside.phase of inside c.requires.first in
    let link = of found.0 in
    let is : IsSteady c.args.steady.now (Some link) = rw found.1 at inside in
    is.runs.calm

pub send_calm-requires-clause-due : goal.send_calm-requires-clause-due
send_calm-requires-clause-due c =
    let of : Phase → RelationState = λ phase. record {
      phase = phase;
      request = c.self.inside.request;
      partner = c.self.inside.partner;
      options = c.self.inside.options;
      began = c.self.inside.began;
      inactive = c.self.inside.inactive;
      waited = c.self.inside.waited;
      taken = c.self.inside.taken;
      passed = c.self.inside.passed;
      plugs = c.self.inside.plugs;
      flow = c.self.inside.exchange;
    } in
    let inside : IsSteady c.args.steady.now (link_in c.self.inside.phase of) = rw (← c.self.view_is) at c.requires.steady in
    let found = stands c.args.steady.now c.self.inside.phase of inside c.requires.first in
    let link = of found.0 in
    let is : IsSteady c.args.steady.now (Some link) = rw found.1 at inside in
    is.runs.inputs

pub send_calm-requires-clause-held : goal.send_calm-requires-clause-held
send_calm-requires-clause-held c =
    let of : Phase → RelationState = λ phase. record {
      phase = phase;
      request = c.self.inside.request;
      partner = c.self.inside.partner;
      options = c.self.inside.options;
      began = c.self.inside.began;
      inactive = c.self.inside.inactive;
      waited = c.self.inside.waited;
      taken = c.self.inside.taken;
      passed = c.self.inside.passed;
      plugs = c.self.inside.plugs;
      flow = c.self.inside.exchange;
    } in
    let inside : IsSteady c.args.steady.now (link_in c.self.inside.phase of) = rw (← c.self.view_is) at c.requires.steady in
    let found = stands c.args.steady.now c.self.inside.phase of inside c.requires.first in
    let link = of found.0 in
    let is : IsSteady c.args.steady.now (Some link) = rw found.1 at inside in
    let held = is.runs.held in
    omega (arith, c.requires.first, held)

pub returns-clause-state : goal.returns-clause-state
returns-clause-state c =
    let of : Phase → RelationState = λ phase. record {
      phase = phase;
      request = c.self.inside.request;
      partner = c.self.inside.partner;
      options = c.self.inside.options;
      began = c.self.inside.began;
      inactive = c.self.inside.inactive;
      waited = c.self.inside.waited;
      taken = c.self.inside.taken;
      passed = c.self.inside.passed;
      plugs = c.self.inside.plugs;
      flow = c.self.inside.exchange;
    } in
    let inside : IsSteady c.args.steady.now (link_in c.self.inside.phase of) = rw (← c.self.view_is) at c.requires.steady in
    let found = stands c.args.steady.now c.self.inside.phase of inside c.requires.first in
    let link = of found.0 in
    let is : IsSteady c.args.steady.now (Some link) = rw found.1 at inside in
    rw (← c.self.view_is, found.1) (sym (steady_sent c.args.steady.now link c.send_calm.new.self is c.send_calm.ensures.some c.send_calm.ensures.nothing c.send_calm.ensures.last c.send_calm.ensures.state))

pub returns-clause-nothing : goal.returns-clause-nothing
returns-clause-nothing c =
    let of : Phase → RelationState = λ phase. record {
      phase = phase;
      request = c.self.inside.request;
      partner = c.self.inside.partner;
      options = c.self.inside.options;
      began = c.self.inside.began;
      inactive = c.self.inside.inactive;
      waited = c.self.inside.waited;
      taken = c.self.inside.taken;
      passed = c.self.inside.passed;
      plugs = c.self.inside.plugs;
      flow = c.self.inside.exchange;
    } in
    let inside : IsSteady c.args.steady.now (link_in c.self.inside.phase of) = rw (← c.self.view_is) at c.requires.steady in
    let found = stands c.args.steady.now c.self.inside.phase of inside c.requires.first in
    let link = of found.0 in
    let is : IsSteady c.args.steady.now (Some link) = rw found.1 at inside in
    rw (← c.self.view_is, found.1) (steady_before c.args.steady.now link is c.send_calm.ensures.some c.send_calm.ensures.nothing)

pub returns-clause-last : goal.returns-clause-last
returns-clause-last c =
    let of : Phase → RelationState = λ phase. record {
      phase = phase;
      request = c.self.inside.request;
      partner = c.self.inside.partner;
      options = c.self.inside.options;
      began = c.self.inside.began;
      inactive = c.self.inside.inactive;
      waited = c.self.inside.waited;
      taken = c.self.inside.taken;
      passed = c.self.inside.passed;
      plugs = c.self.inside.plugs;
      flow = c.self.inside.exchange;
    } in
    let inside : IsSteady c.args.steady.now (link_in c.self.inside.phase of) = rw (← c.self.view_is) at c.requires.steady in
    let found = stands c.args.steady.now c.self.inside.phase of inside c.requires.first in
    let link = of found.0 in
    let is : IsSteady c.args.steady.now (Some link) = rw found.1 at inside in
    rw (← c.self.view_is, found.1) (steady_sends c.args.steady.now link is c.send_calm.ensures.some c.send_calm.ensures.nothing c.send_calm.ensures.last)

pub returns-clause-stands : goal.returns-clause-stands
returns-clause-stands c =
    let of : Phase → RelationState = λ phase. record {
      phase = phase;
      request = c.self.inside.request;
      partner = c.self.inside.partner;
      options = c.self.inside.options;
      began = c.self.inside.began;
      inactive = c.self.inside.inactive;
      waited = c.self.inside.waited;
      taken = c.self.inside.taken;
      passed = c.self.inside.passed;
      plugs = c.self.inside.plugs;
      flow = c.self.inside.exchange;
    } in
    let inside : IsSteady c.args.steady.now (link_in c.self.inside.phase of) = rw (← c.self.view_is) at c.requires.steady in
    let found = stands c.args.steady.now c.self.inside.phase of inside c.requires.first in
    let link = of found.0 in
    let is : IsSteady c.args.steady.now (Some link) = rw found.1 at inside in
    rw found.1 refl

pub returns-clause-value : goal.returns-clause-value
returns-clause-value c =
    let of : Phase → RelationState = λ phase. record {
      phase = phase;
      request = c.self.inside.request;
      partner = c.self.inside.partner;
      options = c.self.inside.options;
      began = c.self.inside.began;
      inactive = c.self.inside.inactive;
      waited = c.self.inside.waited;
      taken = c.self.inside.taken;
      passed = c.self.inside.passed;
      plugs = c.self.inside.plugs;
      flow = c.self.inside.exchange;
    } in
    let inside : IsSteady c.args.steady.now (link_in c.self.inside.phase of) = rw (← c.self.view_is) at c.requires.steady in
    let found = stands c.args.steady.now c.self.inside.phase of inside c.requires.first in
    let link = of found.0 in
    let is : IsSteady c.args.steady.now (Some link) = rw found.1 at inside in
    rw found.1 (known_again link c.send_calm.new.self c.steady_of.result is.runs.exchanging is.runs.answered c.send_calm.ensures.calm c.steady_of.ensures.value)

pub returns-clause-steady : goal.returns-clause-steady
returns-clause-steady c =
    let of : Phase → RelationState = λ phase. record {
      phase = phase;
      request = c.self.inside.request;
      partner = c.self.inside.partner;
      options = c.self.inside.options;
      began = c.self.inside.began;
      inactive = c.self.inside.inactive;
      waited = c.self.inside.waited;
      taken = c.self.inside.taken;
      passed = c.self.inside.passed;
      plugs = c.self.inside.plugs;
      flow = c.self.inside.exchange;
    } in
    let inside : IsSteady c.args.steady.now (link_in c.self.inside.phase of) = rw (← c.self.view_is) at c.requires.steady in
    let found = stands c.args.steady.now c.self.inside.phase of inside c.requires.first in
    let link = of found.0 in
    let is : IsSteady c.args.steady.now (Some link) = rw found.1 at inside in
    λ some. rw found.1 (steady_settles link c.send_calm.new.self c.steady_of.result is.runs.exchanging c.steady_of.ensures.value c.steady_of.ensures.few is.runs.answered c.send_calm.ensures.calm some)

pub returns-clause-due : goal.returns-clause-due
returns-clause-due c =
    let of : Phase → RelationState = λ phase. record {
      phase = phase;
      request = c.self.inside.request;
      partner = c.self.inside.partner;
      options = c.self.inside.options;
      began = c.self.inside.began;
      inactive = c.self.inside.inactive;
      waited = c.self.inside.waited;
      taken = c.self.inside.taken;
      passed = c.self.inside.passed;
      plugs = c.self.inside.plugs;
      flow = c.self.inside.exchange;
    } in
    let inside : IsSteady c.args.steady.now (link_in c.self.inside.phase of) = rw (← c.self.view_is) at c.requires.steady in
    let found = stands c.args.steady.now c.self.inside.phase of inside c.requires.first in
    let link = of found.0 in
    let is : IsSteady c.args.steady.now (Some link) = rw found.1 at inside in
    λ some. rw found.1 (steady_due c.steady_of.result _ (steady_settles link c.send_calm.new.self c.steady_of.result is.runs.exchanging c.steady_of.ensures.value c.steady_of.ensures.few is.runs.answered c.send_calm.ensures.calm some))

pub invariant_of-self : goal.invariant_of-self
invariant_of-self c = (
  c.self.invariant.0,
  c.self.invariant.1,
  begun_kept c.self.inside.phase c.self.inside.exchange c.send_calm.new.self c.args.steady.now.inputs c.send_calm.ensures.state c.self.invariant.2,
)
