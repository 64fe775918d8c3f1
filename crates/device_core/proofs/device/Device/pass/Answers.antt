-- Units with which nothing is due: the relation passes them, what is asked waits, and the lamp and CycleCounter count.
use Rattle.std.proofs.Common.{◌<◌, refl}
use Rattle.std.specs.Prelude.{min}
use Rattle.relations.specs.Leaps.{NothingDueFor, due_within}
use Rattle.asked_records.specs.Asked.{NeverOver, due_in}
use Rattle.device_core.specs.Leaps.{lamp_off_in}
use Rattle.device_core.proofs.Leaping.{below_left, below_right, both_nearer, due_nearer, none_sends, ticks_live}
use Rattle.device_core.proofs.device.Device.pass.Goals as goal

pub pass-requires : goal.pass-requires
pass-requires g c = below_left c.args.units _ _ (below_right c.args.units _ _ (rw (← c.self.view_is) at c.requires))

pub pass-requires-2 : goal.pass-requires-2
pass-requires-2 g c = below_right c.args.units _ _ (below_right c.args.units _ _ (rw (← c.self.view_is) at c.requires))

pub returns-clause-device : goal.returns-clause-device
returns-clause-device g c =
    let fits : c.args.self.now.live.rest.units < 18446744073709551616 = rw (← c.self.view_is) c.units_later-self-inside.ensures.fits in
    let none : NothingDueFor c.args.units c.args.self.now.live.rest.link = rw (← c.self.view_is) c.pass.ensures.nothing in
    let going : NeverOver c.args.units c.args.self.now.live.rest.asked = rw (← c.self.view_is) c.pass-2.ensures.nothing in
    rw (ticks_live c.args.self.now.station c.args.self.now.live c.args.units fits none going)
    (rw (← c.self.view_is) (rw (c.saturating_sub-self-inside.ensures, c.units_later-self-inside.ensures.value, c.pass.ensures.state, c.pass-2.ensures.state) refl))

pub returns-clause-due : goal.returns-clause-due
returns-clause-due g c =
    let below : c.args.units < min (lamp_off_in c.self.inside.lamp) (min (due_within c.self.inside.relation) (due_in c.self.inside.asked)) = rw (← c.self.view_is) at c.requires in
    rw (← c.self.view_is) (rw c.saturating_sub-self-inside.ensures
    (due_nearer c.self.inside.lamp (min (due_within c.self.inside.relation) (due_in c.self.inside.asked))
    (min (due_within c.pass.new.self) (due_in c.pass-2.new.self)) c.args.units below
    (both_nearer (due_within c.self.inside.relation) (due_in c.self.inside.asked) (due_within c.pass.new.self) (due_in c.pass-2.new.self) c.args.units c.pass.ensures.due c.pass-2.ensures.due)))

pub returns-clause-none : goal.returns-clause-none
returns-clause-none g c =
    let fits : c.args.self.now.live.rest.units < 18446744073709551616 = rw (← c.self.view_is) c.units_later-self-inside.ensures.fits in
    let none : NothingDueFor c.args.units c.args.self.now.live.rest.link = rw (← c.self.view_is) c.pass.ensures.nothing in
    let going : NeverOver c.args.units c.args.self.now.live.rest.asked = rw (← c.self.view_is) c.pass-2.ensures.nothing in
    none_sends c.args.self.now.station c.args.self.now.live c.args.units fits none going
