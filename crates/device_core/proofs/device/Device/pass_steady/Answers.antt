-- Units with which nothing is due, while only the timers of an exchange run.
use Rattle.std.proofs.Common.{◌≡◌, ◌<◌, refl}
use Rattle.relations.specs.Leaps.{NothingDueFor}
use Rattle.device_core.proofs.Leaping.{none_sends, ticks_live}
use Rattle.device_core.proofs.SteadyUnits.{never_over, steady_due, steady_later}
use Rattle.device_core.proofs.device.Device.pass_steady.Goals as goal

pub returns-clause-device : goal.returns-clause-device
returns-clause-device g c =
    let old = c.args.self.now in
    let is = c.requires.steady in
    let fits : old.live.rest.units < 18446744073709551616 = rw (← c.self.view_is) c.units_later-self-inside.ensures.fits in
    let none : NothingDueFor c.args.units old.live.rest.link = rw (← c.self.view_is) c.pass_steady.ensures.nothing in
    rw (ticks_live old.station old.live c.args.units fits none (never_over old.live.rest.asked c.args.units is.unasked))
    (rw (steady_later old.live c.args.units is.dark is.unasked)
    (rw (← c.self.view_is) (rw (c.units_later-self-inside.ensures.value, c.pass_steady.ensures.state) refl)))

pub returns-clause-none : goal.returns-clause-none
returns-clause-none g c =
    let old = c.args.self.now in
    let fits : old.live.rest.units < 18446744073709551616 = rw (← c.self.view_is) c.units_later-self-inside.ensures.fits in
    let none : NothingDueFor c.args.units old.live.rest.link = rw (← c.self.view_is) c.pass_steady.ensures.nothing in
    none_sends old.station old.live c.args.units fits none (never_over old.live.rest.asked c.args.units c.requires.steady.unasked)

pub returns-clause-steady : goal.returns-clause-steady
returns-clause-steady g c =
    let is = rw (← c.self.view_is) at c.requires.steady in
    record { relation = c.pass_steady.ensures.steady; unasked = is.unasked; dark = is.dark }

pub returns-clause-due : goal.returns-clause-due
returns-clause-due g c = steady_due _ _ (returns-clause-steady g c) c.pass_steady.ensures.due

pub returns-clause-before : goal.returns-clause-before
returns-clause-before g c = steady_due _ _ c.requires.steady (rw (← c.self.view_is) c.pass_steady.ensures.before)
