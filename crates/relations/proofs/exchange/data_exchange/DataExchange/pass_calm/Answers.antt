-- Units that bring nothing to an exchange whose alarms have nothing to do.
use Rattle.std.proofs.Common.{refl}
use Rattle.cyclic_data.specs.exchange.Leaps.{IsQuietFor}
use Rattle.relations.proofs.ExchangeCalm.{calm_after, calm_nothing}
use Rattle.relations.proofs.exchange.data_exchange.DataExchange.pass_calm.Goals as goal

pub returns-clause-state : goal.returns-clause-state
returns-clause-state c =
    let quiet : IsQuietFor c.args.units c.args.self.now.cyclic = rw (← c.self.view_is) c.pass.ensures.quiet in
    rw (calm_after c.args.self.now c.args.units c.requires.calm quiet) (rw (← c.self.view_is, c.pass.ensures.state) refl)

pub returns-clause-nothing : goal.returns-clause-nothing
returns-clause-nothing c =
    let quiet : IsQuietFor c.args.units c.args.self.now.cyclic = rw (← c.self.view_is) c.pass.ensures.quiet in
    calm_nothing c.args.self.now c.args.units c.requires.calm quiet

pub returns-clause-calm : goal.returns-clause-calm
returns-clause-calm c =
    let calm = rw (← c.self.view_is) at c.requires.calm in
    record { closed = calm.closed; high = calm.high; low = calm.low }
