use Rattle.std.proofs.Common.{◌+◌, ◌≤◌, refl, subst, sym}
use Rattle.cyclic_data.specs.exchange.Leaps.{IsQuietFor}
use Rattle.pn_alarms.specs.Device.{end_later}
use Rattle.pn_alarms.specs.Leaps.{NothingDue, device_due}
use Rattle.relations.specs.exchange.Flow.{Flow}
use Rattle.relations.specs.exchange.Leaps.{flow_due_in}
use Rattle.relations.proofs.DueLater.{units_nearer}
use Rattle.relations.proofs.ExchangeLeaps.{brings_nothing, flow_after}
use Rattle.relations.proofs.exchange.data_exchange.DataExchange.pass.Goals as goal

pub returns-clause-state : goal.returns-clause-state
returns-clause-state c =
    let quiet : IsQuietFor c.args.units c.args.self.now.cyclic = rw (← c.self.view_is) c.pass.ensures.quiet in
    let nothing : NothingDue device_due end_later c.args.units c.args.self.now.alarms = rw (← c.self.view_is) c.pass-2.ensures.nothing in
    let low : NothingDue device_due end_later c.args.units c.args.self.now.low.alarms = rw (← c.self.view_is) c.pass-3.ensures.nothing in
    rw (flow_after c.args.self.now c.args.units quiet nothing low) (rw (← c.self.view_is, c.pass.ensures.state, c.pass-2.ensures.state, c.pass-3.ensures.state) refl)

pub returns-clause-due : goal.returns-clause-due
returns-clause-due c =
    subst (λ (now : Flow). flow_due_in c.args.self.now ≤ flow_due_in now + c.args.units) (sym (returns-clause-state c)) (units_nearer c.args.self.now c.args.units c.requires)

pub returns-clause-nothing : goal.returns-clause-nothing
returns-clause-nothing c =
    let quiet : IsQuietFor c.args.units c.args.self.now.cyclic = rw (← c.self.view_is) c.pass.ensures.quiet in
    let nothing : NothingDue device_due end_later c.args.units c.args.self.now.alarms = rw (← c.self.view_is) c.pass-2.ensures.nothing in
    let low : NothingDue device_due end_later c.args.units c.args.self.now.low.alarms = rw (← c.self.view_is) c.pass-3.ensures.nothing in
    brings_nothing c.args.self.now c.args.units quiet nothing low
