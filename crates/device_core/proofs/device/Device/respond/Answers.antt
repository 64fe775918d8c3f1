-- A unit of time is a move, and so is a neighbour. What the application says asks nothing of the settings.
use Rattle.std.proofs.Common.{[], ap, map, option_map, refl, rules, subst}
use Rattle.settings_journal.specs.settings_store.Carries.{Holds}
use Rattle.lldp.specs.Views.{peer_as}
use Rattle.device_frames.specs.declared.event.Event.TheVariants.{Frame, Call as Joined}
use Rattle.device_frames.specs.Heard.{Ticks, Met, Applied, heard_of}
use Rattle.device_core.specs.Handled.{handled_local}
use Rattle.device_core.specs.Steps.{Steps}
use Rattle.device_core.proofs.Handled.{local_asks_nothing}
use Rattle.device_core.proofs.Steps.{inactive_steps, moves_steps}
use Rattle.device_core.proofs.device.Device.respond.Goals as goal

pub hear-requires : goal.hear-requires
hear-requires g c =
    let holds : Holds (g.F.Flash.image c.args.self.now.flash) c.args.self.now.live.values = subst (λ s. Holds (g.F.Flash.image s.flash) s.live.values) c.self.view_is c.self.invariant in
    search rules

pub returns-in-Tick-clause-steps : goal.returns-in-Tick-clause-steps
unfolding heard_of
returns-in-Tick-clause-steps g c = rw c.in-Tick.is
    (moves_steps g.F.Flash c.args.self.now _ Ticks _ _ _ _ (subst (λ s. Holds (g.F.Flash.image s.flash) s.live.values) c.self.view_is c.self.invariant) refl c.tick.ensures.state c.tick.ensures.frames c.tick.ensures.note c.tick.ensures.sendable)

pub returns-in-Application-clause-steps : goal.returns-in-Application-clause-steps
unfolding heard_of
returns-in-Application-clause-steps g c =
    let old = c.args.self.now in
    let said = c.in-Application.local in
    rw c.in-Application.is
    (inactive_steps g.F.Flash old _ (Applied said) (handled_local old.station old.live said) _ _ (subst (λ s. Holds (g.F.Flash.image s.flash) s.live.values) c.self.view_is c.self.invariant) refl
    (local_asks_nothing old.station old.live said) c.apply.ensures.state c.apply.ensures.frames c.apply.ensures.note c.apply.ensures.sendable)

pub returns-in-Neighbour-clause-steps : goal.returns-in-Neighbour-clause-steps
unfolding heard_of
returns-in-Neighbour-clause-steps g c =
    let old = c.args.self.now in
    let peer = option_map peer_as c.in-Neighbour.neighbour in
    rw c.in-Neighbour.is
    (moves_steps g.F.Flash old _ (Met peer) (record old.live.rest { peer = peer }) [] _ _ (subst (λ s. Holds (g.F.Flash.image s.flash) s.live.values) c.self.view_is c.self.invariant) refl
    c.meet.ensures.state (ap (map (λ frame. frame.items)) c.requires.empty) c.meet.ensures.note tt)

-- A joined call is heard as a datagram is.
pub hear_datagram-requires : goal.hear_datagram-requires
hear_datagram-requires g c =
    let holds : Holds (g.F.Flash.image c.args.self.now.flash) c.args.self.now.live.values = subst (λ s. Holds (g.F.Flash.image s.flash) s.live.values) c.self.view_is c.self.invariant in
    search rules

pub returns-in-Call-clause-steps : goal.returns-in-Call-clause-steps
unfolding heard_of
returns-in-Call-clause-steps g c =
    let old = c.args.self.now in
    rw c.in-Call.is
    (subst (λ items. Steps g.F.Flash old (heard_of old.station.identity (Joined c.in-Call.caller c.in-Call.address (record { items = items }))) (map (λ frame. frame.items) c.hear_datagram.new.outbox.items) c.hear_datagram.result c.hear_datagram.new.self)
    c.as_slice-in-Call.ensures.value c.hear_datagram.ensures.steps)

-- The octets of the event are those that are heard.
pub returns-in-Frame-clause-steps : goal.returns-in-Frame-clause-steps
returns-in-Frame-clause-steps g c =
    let old = c.args.self.now in
    rw c.in-Frame.is
    (subst (λ items. Steps g.F.Flash old (heard_of old.station.identity (Frame (record { items = items }))) (map (λ frame. frame.items) c.hear.new.outbox.items) c.hear.result c.hear.new.self)
    c.as_slice.ensures.value c.hear.ensures.steps)
