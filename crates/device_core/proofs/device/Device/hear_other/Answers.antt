-- A frame is handled by its kind, or cannot be read.
use Rattle.std.proofs.Common.{ap, map, refl, ◌∙◌}
use Rattle.frame_codec.specs.declared.ethernet.ContentKind.TheVariants as kind
use Rattle.device_frames.specs.declared.note.Note.TheVariants.{Fault}
use Rattle.device_frames.specs.Hearing.{heard_in}
use Rattle.device_core.specs.Handled.{handled}
use Rattle.device_core.proofs.OfKind.{opened_steps}
use Rattle.device_core.proofs.Steps.{refuses_steps}
use Rattle.device_core.proofs.device.Device.hear_other.Goals as goal

pub returns-in_default-clause-steps : goal.returns-in_default-clause-steps
returns-in_default-clause-steps g c =
    let old = c.args.self.now in
    let said = c.open_frame.ensures.said old.station.identity ∙ ap (heard_in old.station.identity) c.in_default.is in
    refuses_steps g.F.Flash old _ Fault _ _ c.requires.stored (ap (handled old.station old.live) said) (ap (map (λ frame. frame.items)) c.requires.empty) refl

pub returns-in-RealTime-clause-steps : goal.returns-in-RealTime-clause-steps
returns-in-RealTime-clause-steps g c =
    let old = c.args.self.now in
    let said = c.in-Some.ensures.short c.requires.other c.in-RealTime.is old.station.identity in
    refuses_steps g.F.Flash old _ Fault _ _ c.requires.stored (ap (handled old.station old.live) said) (ap (map (λ frame. frame.items)) c.requires.empty) refl

pub returns-in-Arp-clause-steps : goal.returns-in-Arp-clause-steps
returns-in-Arp-clause-steps g c =
    let old = c.args.self.now in
    opened_steps g.F.Flash old _ _ c.in-Some.frame kind.Arp _ _ (c.open_frame.ensures.said old.station.identity ∙ ap (heard_in old.station.identity) c.in-Some.is) c.in-Arp.is c.hear_packet.ensures.steps

pub returns-in-Internet-clause-steps : goal.returns-in-Internet-clause-steps
returns-in-Internet-clause-steps g c =
    let old = c.args.self.now in
    opened_steps g.F.Flash old _ _ c.in-Some.frame kind.Internet _ _ (c.open_frame.ensures.said old.station.identity ∙ ap (heard_in old.station.identity) c.in-Some.is) c.in-Internet.is c.hear_udp.ensures.steps
