-- Units up to the next one with which a frame of inputs is due, at an exchange whose alarms have nothing to do.
use Rattle.std.proofs.Common.{◌≡◌, ◌-◌, refl}
use Rattle.pn_alarms.specs.declared.repeats.Due.TheVariants.{Nothing}
use Rattle.pn_alarms.specs.Leaps.{after}
use Rattle.cyclic_data.specs.exchange.Leaps.{IsQuietFor, frame_alone}
use Rattle.cyclic_data.specs.exchange.Units.{cyclic_later}
use Rattle.cyclic_data.specs.exchange.Units.{tick_of as cyclic_tick}
use Rattle.relations.proofs.ExchangeCalm.{calm_last, calm_nothing, calm_sent_by}
use Rattle.relations.proofs.exchange.data_exchange.DataExchange.send_calm.Goals as goal

pub returns-clause-state : goal.returns-clause-state
returns-clause-state c =
    let old = c.args.self.now in
    let quiet : IsQuietFor (c.args.units - 1) old.cyclic = rw (← c.self.view_is) c.send.ensures.quiet in
    let last : cyclic_tick (after cyclic_later (c.args.units - 1) old.cyclic) Nothing ≡ frame_alone = rw (← c.self.view_is) c.send.ensures.last in
    rw (calm_sent_by old c.args.units c.send.ensures.some c.requires.calm quiet last) (rw (← c.self.view_is, c.send.ensures.state, c.state-self-inside.ensures) refl)

pub returns-clause-nothing : goal.returns-clause-nothing
returns-clause-nothing c =
    let quiet : IsQuietFor (c.args.units - 1) c.args.self.now.cyclic = rw (← c.self.view_is) c.send.ensures.quiet in
    calm_nothing c.args.self.now (c.args.units - 1) c.requires.calm quiet

pub returns-clause-last : goal.returns-clause-last
returns-clause-last c =
    let old = c.args.self.now in
    let quiet : IsQuietFor (c.args.units - 1) old.cyclic = rw (← c.self.view_is) c.send.ensures.quiet in
    let last : cyclic_tick (after cyclic_later (c.args.units - 1) old.cyclic) Nothing ≡ frame_alone = rw (← c.self.view_is) c.send.ensures.last in
    calm_last old (c.args.units - 1) c.requires.calm quiet last

pub returns-clause-calm : goal.returns-clause-calm
returns-clause-calm c =
    let calm = rw (← c.self.view_is) at c.requires.calm in
    record { closed = calm.closed; high = calm.high; low = calm.low }
