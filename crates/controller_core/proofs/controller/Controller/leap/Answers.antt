-- Units with which nothing is due: the counters pass them, and those of the relation if it is established.
use Rattle.std.proofs.Common.{◌≡◌, ◌+◌, ◌<◌, ◌≤◌, true, false, refl, sym, subst, ◌∙◌}
use Rattle.pn_alarms.specs.Controller.{controller_later}
use Rattle.pn_alarms.specs.Leaps.{NothingDue, ack_due}
use Rattle.cyclic_data.specs.exchange.Leaps.{IsQuietFor}
use Rattle.controller_core.specs.Leaps.{access_due_in, exchange_due_in, live_due_in}
use Rattle.controller_core.proofs.Leaping.{below_left, below_right, brings_nothing, exchange_below, off_ends, off_sends, off_state, on_ends, on_sends, on_state}
use Rattle.controller_core.specs.stored.State.{Controlling}
use Rattle.controller_core.proofs.Nearer.{off_nearer, on_nearer}
use Rattle.controller_core.proofs.controller.Controller.leap.Goals as goal

pub returns-then-not-self-clause-state : goal.returns-then-not-self-clause-state
returns-then-not-self-clause-state c =
    let old = c.args.self.now in
    let stands : old.live.stands ≡ false = rw (← c.self.view_is) c.if-not-self.true in
    let few : old.live.waited < 32000 = rw (← c.self.view_is) c.self.invariant in
    let fits : old.live.units < 65536 = rw (← c.self.view_is) c.counter_later-self-inside.ensures.fits in
    rw (off_state old c.args.units stands few fits (below_left c.args.units _ _ c.requires) (below_left c.args.units _ _ (below_right c.args.units _ _ c.requires)))
    (rw (← c.self.view_is) (rw (c.counter_later-self-inside.ensures.value, c.waited_later-self-inside.ensures.value, c.saturating_sub-self-inside.ensures) refl))

pub returns-then-not-self-clause-none : goal.returns-then-not-self-clause-none
returns-then-not-self-clause-none c =
    let old = c.args.self.now in
    let stands : old.live.stands ≡ false = rw (← c.self.view_is) c.if-not-self.true in
    let few : old.live.waited < 32000 = rw (← c.self.view_is) c.self.invariant in
    let fits : old.live.units < 65536 = rw (← c.self.view_is) c.counter_later-self-inside.ensures.fits in
    off_sends old c.args.units stands few fits (below_left c.args.units _ _ c.requires) (below_left c.args.units _ _ (below_right c.args.units _ _ c.requires))

pub pass-requires : goal.pass-requires
pass-requires c =
    let below : c.args.units < exchange_due_in c.args.self.now.live = below_right c.args.units _ _ (below_right c.args.units _ _ c.requires) in
    let there = rw (← c.self.view_is, c.if-not-self.false) at below in
    below_left c.args.units _ _ (below_left c.args.units _ _ (below_right c.args.units _ _ there))

pub pass-requires-2 : goal.pass-requires-2
pass-requires-2 c =
    let below : c.args.units < exchange_due_in c.args.self.now.live = below_right c.args.units _ _ (below_right c.args.units _ _ c.requires) in
    let there = rw (← c.self.view_is, c.if-not-self.false) at below in
    below_right c.args.units _ _ (below_left c.args.units _ _ (below_right c.args.units _ _ there))

pub pass-requires-3 : goal.pass-requires-3
pass-requires-3 c =
    let below : c.args.units < exchange_due_in c.args.self.now.live = below_right c.args.units _ _ (below_right c.args.units _ _ c.requires) in
    let there = rw (← c.self.view_is, c.if-not-self.false) at below in
    below_right c.args.units _ _ (below_right c.args.units _ _ there)

pub returns-clause-state : goal.returns-clause-state
returns-clause-state c =
    let old = c.args.self.now in
    let stands : old.live.stands ≡ true = rw (← c.self.view_is) c.if-not-self.false in
    let few : old.live.waited < 32000 = rw (← c.self.view_is) c.self.invariant in
    let fits : old.live.units < 65536 = rw (← c.self.view_is) c.counter_later-self-inside.ensures.fits in
    let quiet : IsQuietFor c.args.units old.live.cyclic = rw (← c.self.view_is) c.pass.ensures.quiet in
    let nothing : NothingDue ack_due controller_later c.args.units old.live.alarms = rw (← c.self.view_is) c.pass-2.ensures.nothing in
    let nothing_low : NothingDue ack_due controller_later c.args.units old.live.low_alarms = rw (← c.self.view_is) c.pass-3.ensures.nothing in
    let sooner : c.args.units < access_due_in old.live = below_left c.args.units _ _ (exchange_below old.live c.args.units stands (below_right c.args.units _ _ (below_right c.args.units _ _ c.requires))) in
    rw (on_state old c.args.units stands few fits (below_left c.args.units _ _ c.requires) (below_left c.args.units _ _ (below_right c.args.units _ _ c.requires)) sooner (brings_nothing old.live.cyclic old.live.alarms old.live.low_alarms c.args.units quiet nothing nothing_low))
    (rw (← c.self.view_is) (rw (c.counter_later-self-inside.ensures.value, c.waited_later-self-inside.ensures.value, c.saturating_sub-self-inside.ensures, c.pass.ensures.state, c.pass-2.ensures.state, c.pass-3.ensures.state) refl))

pub returns-clause-none : goal.returns-clause-none
returns-clause-none c =
    let old = c.args.self.now in
    let stands : old.live.stands ≡ true = rw (← c.self.view_is) c.if-not-self.false in
    let few : old.live.waited < 32000 = rw (← c.self.view_is) c.self.invariant in
    let fits : old.live.units < 65536 = rw (← c.self.view_is) c.counter_later-self-inside.ensures.fits in
    let quiet : IsQuietFor c.args.units old.live.cyclic = rw (← c.self.view_is) c.pass.ensures.quiet in
    let nothing : NothingDue ack_due controller_later c.args.units old.live.alarms = rw (← c.self.view_is) c.pass-2.ensures.nothing in
    let nothing_low : NothingDue ack_due controller_later c.args.units old.live.low_alarms = rw (← c.self.view_is) c.pass-3.ensures.nothing in
    let sooner : c.args.units < access_due_in old.live = below_left c.args.units _ _ (exchange_below old.live c.args.units stands (below_right c.args.units _ _ (below_right c.args.units _ _ c.requires))) in
    on_sends old c.args.units stands few fits (below_left c.args.units _ _ c.requires) (below_left c.args.units _ _ (below_right c.args.units _ _ c.requires)) sooner (brings_nothing old.live.cyclic old.live.alarms old.live.low_alarms c.args.units quiet nothing nothing_low)

pub returns-then-not-self-clause-phase : goal.returns-then-not-self-clause-phase
returns-then-not-self-clause-phase c =
    let old = c.args.self.now in
    let stands : old.live.stands ≡ false = rw (← c.self.view_is) c.if-not-self.true in
    let few : old.live.waited < 32000 = rw (← c.self.view_is) c.self.invariant in
    let fits : old.live.units < 65536 = rw (← c.self.view_is) c.counter_later-self-inside.ensures.fits in
    off_ends old c.args.units stands few fits (below_left c.args.units _ _ c.requires) (below_left c.args.units _ _ (below_right c.args.units _ _ c.requires))

pub returns-clause-phase : goal.returns-clause-phase
returns-clause-phase c =
    let old = c.args.self.now in
    let stands : old.live.stands ≡ true = rw (← c.self.view_is) c.if-not-self.false in
    let few : old.live.waited < 32000 = rw (← c.self.view_is) c.self.invariant in
    let fits : old.live.units < 65536 = rw (← c.self.view_is) c.counter_later-self-inside.ensures.fits in
    let quiet : IsQuietFor c.args.units old.live.cyclic = rw (← c.self.view_is) c.pass.ensures.quiet in
    let nothing : NothingDue ack_due controller_later c.args.units old.live.alarms = rw (← c.self.view_is) c.pass-2.ensures.nothing in
    let nothing_low : NothingDue ack_due controller_later c.args.units old.live.low_alarms = rw (← c.self.view_is) c.pass-3.ensures.nothing in
    let sooner : c.args.units < access_due_in old.live = below_left c.args.units _ _ (exchange_below old.live c.args.units stands (below_right c.args.units _ _ (below_right c.args.units _ _ c.requires))) in
    on_ends old c.args.units stands few fits (below_left c.args.units _ _ c.requires) (below_left c.args.units _ _ (below_right c.args.units _ _ c.requires)) sooner (brings_nothing old.live.cyclic old.live.alarms old.live.low_alarms c.args.units quiet nothing nothing_low)

pub returns-then-not-self-clause-due : goal.returns-then-not-self-clause-due
returns-then-not-self-clause-due c =
    let old = c.args.self.now in
    let stands : old.live.stands ≡ false = rw (← c.self.view_is) c.if-not-self.true in
    let few : old.live.waited < 32000 = rw (← c.self.view_is) c.self.invariant in
    let fits : old.live.units < 65536 = rw (← c.self.view_is) c.counter_later-self-inside.ensures.fits in
    let nearer = off_nearer old.live c.args.units stands (below_left c.args.units _ _ c.requires) in
    let same = off_state old c.args.units stands few fits (below_left c.args.units _ _ c.requires) (below_left c.args.units _ _ (below_right c.args.units _ _ c.requires)) in
    subst (λ (n : Controlling). live_due_in old.live ≤ c.args.units + live_due_in n.live) (sym (returns-then-not-self-clause-state c ∙ same)) nearer

pub returns-clause-due : goal.returns-clause-due
returns-clause-due c =
    let old = c.args.self.now in
    let stands : old.live.stands ≡ true = rw (← c.self.view_is) c.if-not-self.false in
    let few : old.live.waited < 32000 = rw (← c.self.view_is) c.self.invariant in
    let fits : old.live.units < 65536 = rw (← c.self.view_is) c.counter_later-self-inside.ensures.fits in
    let quiet : IsQuietFor c.args.units old.live.cyclic = rw (← c.self.view_is) c.pass.ensures.quiet in
    let nothing : NothingDue ack_due controller_later c.args.units old.live.alarms = rw (← c.self.view_is) c.pass-2.ensures.nothing in
    let nothing_low : NothingDue ack_due controller_later c.args.units old.live.low_alarms = rw (← c.self.view_is) c.pass-3.ensures.nothing in
    let sooner : c.args.units < access_due_in old.live = below_left c.args.units _ _ (exchange_below old.live c.args.units stands (below_right c.args.units _ _ (below_right c.args.units _ _ c.requires))) in
    let nearer = on_nearer old.live c.args.units (below_left c.args.units _ _ c.requires) in
    let same = on_state old c.args.units stands few fits (below_left c.args.units _ _ c.requires) (below_left c.args.units _ _ (below_right c.args.units _ _ c.requires)) sooner (brings_nothing old.live.cyclic old.live.alarms old.live.low_alarms c.args.units quiet nothing nothing_low) in
    subst (λ (n : Controlling). live_due_in old.live ≤ c.args.units + live_due_in n.live) (sym (returns-clause-state c ∙ same)) nearer
