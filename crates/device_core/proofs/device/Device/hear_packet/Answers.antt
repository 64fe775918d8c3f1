-- An ARP packet to this station or to all stations is handled.
use Rattle.std.proofs.Common.{ap, map, nat_eq, refl, subst, sym, ◌∙◌, ◌||◌, if◌then◌else◌}
use Rattle.std.specs.Cmp.Lexicographic.{pointwise}
use Rattle.frame_codec.specs.Meaning.{ArpPacket}
use Rattle.device_frames.specs.declared.note.Note.TheVariants.{NotMine}
use Rattle.device_core.specs.State.{with_rest}
use Rattle.device_frames.specs.Heard.{Elsewhere, Resolves, broadcast, is_own}
use Rattle.device_core.specs.Handled.{handled_arp}
use Rattle.device_core.specs.Steps.{Steps}
use Rattle.device_core.proofs.Handled.{arp_asks_nothing, arp_leaves}
use Rattle.device_core.proofs.OfKind.{read_steps, unread_steps}
use Rattle.device_core.proofs.Steps.{inactive_steps, refuses_steps}
use Rattle.device_core.proofs.device.Device.hear_packet.Goals as goal

pub returns-in_default-clause-steps : goal.returns-in_default-clause-steps
returns-in_default-clause-steps g c =
    unread_steps g.F.Flash c.args.self.now c.args.frame.now.destination c.args.frame.now.source c.packet_at.result _ _ _ c.requires.stored (λ fault e. rw e at c.packet_at.ensures) c.in_default.not-Ok (ap (map (λ frame. frame.items)) c.requires.empty) refl

pub returns-then-not-is_asked-clause-steps : goal.returns-then-not-is_asked-clause-steps
returns-then-not-is_asked-clause-steps g c =
    let said = sym (ap (λ s. is_own s.station.identity c.args.frame.now.destination || pointwise nat_eq c.args.frame.now.destination.octets broadcast) c.self.view_is) ∙ sym c.is_asked.ensures ∙ c.if-not-is_asked.true in
    read_steps g.F.Flash c.args.self.now _ c.args.frame.now.destination c.args.frame.now.source _ (ArpPacket c.in-Ok.packet) _ _ c.in-Ok.ensures
    (subst (λ is_asked. Steps g.F.Flash c.args.self.now (if is_asked then Resolves c.args.frame.now.source c.in-Ok.packet else Elsewhere) (map (λ frame. frame.items) c.args.outbox.now.items) NotMine c.args.self.now) (sym said)
    (refuses_steps g.F.Flash c.args.self.now Elsewhere NotMine _ _ c.requires.stored refl (ap (map (λ frame. frame.items)) c.requires.empty) refl))

pub returns-clause-steps : goal.returns-clause-steps
returns-clause-steps g c =
    let old = c.args.self.now in
    let asker = c.args.frame.now.source in
    let packet = c.in-Ok.packet in
    let said = sym (ap (λ s. is_own s.station.identity c.args.frame.now.destination || pointwise nat_eq c.args.frame.now.destination.octets broadcast) c.self.view_is) ∙ sym c.is_asked.ensures ∙ c.if-not-is_asked.false in
    read_steps g.F.Flash old _ c.args.frame.now.destination asker _ (ArpPacket packet) _ _ c.in-Ok.ensures
    (subst (λ is_asked. Steps g.F.Flash old (if is_asked then Resolves asker packet else Elsewhere) (map (λ frame. frame.items) c.resolve.new.outbox.items) c.resolve.result old) (sym said)
    (inactive_steps g.F.Flash old _ (Resolves asker packet) (handled_arp old.live asker packet) _ _ c.requires.stored refl
    (arp_asks_nothing old.live asker packet) (ap (with_rest old) (sym (arp_leaves old.station old.live asker packet))) c.resolve.ensures.frames c.resolve.ensures.note c.resolve.ensures.sendable))
