-- A datagram to the port of calls is handled.
use Rattle.std.proofs.Common.{ap, map, refl, subst, sym, ◌∙◌, ◌==◌, ◌&&◌, if◌then◌else◌}
use Rattle.frame_codec.specs.Meaning.{UdpDatagram}
use Rattle.device_frames.specs.declared.note.Note.TheVariants.{NotMine}
use Rattle.device_frames.specs.Heard.{Elsewhere, Reported, is_own, said_by}
use Rattle.device_core.specs.Steps.{Steps}
use Rattle.device_core.proofs.OfKind.{read_steps, unread_steps}
use Rattle.device_core.proofs.Steps.{refuses_steps}
use Rattle.device_core.proofs.device.Device.hear_udp.Goals as goal

pub returns-in_default-clause-steps : goal.returns-in_default-clause-steps
returns-in_default-clause-steps g c =
    unread_steps g.F.Flash c.args.self.now c.args.frame.now.destination c.args.frame.now.source c.datagram_at.result _ _ _ c.requires.stored (λ fault e. rw e at c.datagram_at.ensures) c.in_default.not-Ok (ap (map (λ frame. frame.items)) c.requires.empty) refl

pub returns-then-not-is_called-clause-steps : goal.returns-then-not-is_called-clause-steps
returns-then-not-is_called-clause-steps g c =
    let udp = c.in-Ok.datagram in
    let said = sym (ap (λ s. is_own s.station.identity c.args.frame.now.destination && udp.destination.port == 34964) c.self.view_is) ∙ sym c.is_called.ensures ∙ c.if-not-is_called.true in
    read_steps g.F.Flash c.args.self.now _ c.args.frame.now.destination c.args.frame.now.source _ (UdpDatagram udp.source udp.destination udp.body.now) _ _ c.in-Ok.ensures
    (subst (λ is_called. Steps g.F.Flash c.args.self.now (if is_called then Reported (record { mac = c.args.frame.now.source; endpoint = udp.source }) udp.destination.address (said_by udp.body.now) else Elsewhere) (map (λ frame. frame.items) c.args.outbox.now.items) NotMine c.args.self.now) (sym said)
    (refuses_steps g.F.Flash c.args.self.now Elsewhere NotMine _ _ c.requires.stored refl (ap (map (λ frame. frame.items)) c.requires.empty) refl))

pub returns-clause-steps : goal.returns-clause-steps
returns-clause-steps g c =
    let udp = c.in-Ok.datagram in
    let said = sym (ap (λ s. is_own s.station.identity c.args.frame.now.destination && udp.destination.port == 34964) c.self.view_is) ∙ sym c.is_called.ensures ∙ c.if-not-is_called.false in
    read_steps g.F.Flash c.args.self.now _ c.args.frame.now.destination c.args.frame.now.source _ (UdpDatagram udp.source udp.destination udp.body.now) _ _ c.in-Ok.ensures
    (subst (λ is_called. Steps g.F.Flash c.args.self.now (if is_called then Reported (record { mac = c.args.frame.now.source; endpoint = udp.source }) udp.destination.address (said_by udp.body.now) else Elsewhere) (map (λ frame. frame.items) c.hear_datagram.new.outbox.items) c.hear_datagram.result c.hear_datagram.new.self) (sym said)
    c.hear_datagram.ensures.steps)
