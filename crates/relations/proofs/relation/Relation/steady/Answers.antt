-- When the next units bring something.
use Rattle.std.proofs.Common.{◌≡◌, true, false, sym, ◌∙◌}
use Rattle.relations.specs.RelationState.{RelationState}
use Rattle.relations.specs.Steady.{is_alone}
use Rattle.relations.proofs.SteadyRuns.{alone_runs, inputs_never, known_by, never_steady, not_known, steady_due, unknown_by}
use Rattle.relations.proofs.relation.Relation.steady.Goals as goal

pub returns-in_default-clause-value : goal.returns-in_default-clause-value
returns-in_default-clause-value c = rw (← c.self.view_is, c.in_default.is) c.never.ensures

pub returns-in_default-clause-steady : goal.returns-in_default-clause-steady
returns-in_default-clause-steady c some = rw (← c.self.view_is, c.in_default.is) (never_steady c.never.result c.never.ensures)

pub returns-in_default-clause-due : goal.returns-in_default-clause-due
returns-in_default-clause-due c some = rw (← c.self.view_is, c.in_default.is) (sym (inputs_never c.never.result c.never.ensures))

pub returns-then-not-is_alone-clause-value : goal.returns-then-not-is_alone-clause-value
returns-then-not-is_alone-clause-value c =
    let link : RelationState = record {
      phase = c.in-Some.phase;
      request = c.self.inside.request;
      partner = c.self.inside.partner;
      options = c.self.inside.options;
      began = c.self.inside.began;
      inactive = c.self.inside.inactive;
      waited = c.self.inside.waited;
      taken = c.self.inside.taken;
      passed = c.self.inside.passed;
      plugs = c.self.inside.plugs;
      flow = c.self.inside.exchange;
    } in
    let alone : is_alone link.phase link.plugs link.flow ≡ false = sym c.is_alone.ensures ∙ c.if-not-is_alone.true in
    rw (← c.self.view_is, c.in-Some.is) (unknown_by link c.unknown.result alone c.unknown.ensures)

pub returns-then-not-is_alone-clause-steady : goal.returns-then-not-is_alone-clause-steady
returns-then-not-is_alone-clause-steady c some = absurd (not_known c.unknown.result c.unknown.ensures some)

pub returns-then-not-is_alone-clause-due : goal.returns-then-not-is_alone-clause-due
returns-then-not-is_alone-clause-due c some = absurd (not_known c.unknown.result c.unknown.ensures some)

pub returns-clause-value : goal.returns-clause-value
returns-clause-value c =
    let link : RelationState = record {
      phase = c.in-Some.phase;
      request = c.self.inside.request;
      partner = c.self.inside.partner;
      options = c.self.inside.options;
      began = c.self.inside.began;
      inactive = c.self.inside.inactive;
      waited = c.self.inside.waited;
      taken = c.self.inside.taken;
      passed = c.self.inside.passed;
      plugs = c.self.inside.plugs;
      flow = c.self.inside.exchange;
    } in
    let alone : is_alone link.phase link.plugs link.flow ≡ true = sym c.is_alone.ensures ∙ c.if-not-is_alone.false in
    rw (← c.self.view_is, c.in-Some.is) (known_by link c.steady_of.result alone c.steady_of.ensures.value)

pub returns-clause-steady : goal.returns-clause-steady
returns-clause-steady c some =
    let link : RelationState = record {
      phase = c.in-Some.phase;
      request = c.self.inside.request;
      partner = c.self.inside.partner;
      options = c.self.inside.options;
      began = c.self.inside.began;
      inactive = c.self.inside.inactive;
      waited = c.self.inside.waited;
      taken = c.self.inside.taken;
      passed = c.self.inside.passed;
      plugs = c.self.inside.plugs;
      flow = c.self.inside.exchange;
    } in
    let alone : is_alone link.phase link.plugs link.flow ≡ true = sym c.is_alone.ensures ∙ c.if-not-is_alone.false in
    rw (← c.self.view_is, c.in-Some.is) (alone_runs link c.steady_of.result alone c.steady_of.ensures.value c.steady_of.ensures.few some)

pub returns-clause-due : goal.returns-clause-due
returns-clause-due c some =
    let link : RelationState = record {
      phase = c.in-Some.phase;
      request = c.self.inside.request;
      partner = c.self.inside.partner;
      options = c.self.inside.options;
      began = c.self.inside.began;
      inactive = c.self.inside.inactive;
      waited = c.self.inside.waited;
      taken = c.self.inside.taken;
      passed = c.self.inside.passed;
      plugs = c.self.inside.plugs;
      flow = c.self.inside.exchange;
    } in
    let alone : is_alone link.phase link.plugs link.flow ≡ true = sym c.is_alone.ensures ∙ c.if-not-is_alone.false in
    rw (← c.self.view_is, c.in-Some.is)
    (steady_due c.steady_of.result link (alone_runs link c.steady_of.result alone c.steady_of.ensures.value c.steady_of.ensures.few some))
