-- What a frame of EtherType 0x8892 asks of the relation is carried out, and a frame for another station is refused.
use Rattle.std.proofs.Common.{ap, map, refl, sym, ◌∙◌}
use Rattle.device_frames.specs.declared.note.Note.TheVariants.{NotMine}
use Rattle.device_frames.specs.Sent.{bytes_of}
use Rattle.device_frames.specs.Heard.{Cyclic, Elsewhere as elsewhere}
use Rattle.device_frames.specs.declared.hearing.RealTimeKind.TheVariants as kind
use Rattle.device_core.specs.Handled.{handled_cyclic}
use Rattle.device_core.proofs.Handled.{cyclic_asks_nothing, cyclic_sends_nothing}
use Rattle.device_core.proofs.OfKind.{kind_steps}
use Rattle.device_core.proofs.Sendable.{none_sendable}
use Rattle.device_core.proofs.Steps.{inactive_steps, refuses_steps}
use Rattle.device_core.proofs.device.Device.hear_real_time.Goals as goal

pub returns-in-Cyclic-clause-steps : goal.returns-in-Cyclic-clause-steps
returns-in-Cyclic-clause-steps g c =
    let old = c.args.self.now in
    let source = c.args.frame.now.source in
    let frame_id = c.args.frame.now.frame_id in
    let body = c.args.frame.now.body.now in
    kind_steps g.F.Flash old _ _ c.args.frame.now.destination source frame_id body _ kind.Cyclic _ _
    (ap (λ s. s.station.identity) c.self.view_is) (c.kind_of.ensures source body) c.in-Cyclic.is
    (inactive_steps g.F.Flash old _ (Cyclic source frame_id body) (handled_cyclic old.live source frame_id body) _ _ c.requires.stored refl
    (cyclic_asks_nothing old.live source frame_id body) c.hear_cyclic.ensures.state
    (ap (map (λ frame. frame.items)) c.requires.empty ∙ sym (ap (map (bytes_of old.station.identity)) (cyclic_sends_nothing old.station old.live source frame_id body)))
    c.hear_cyclic.ensures.note (none_sendable old.station.identity _ (cyclic_sends_nothing old.station old.live source frame_id body)))

pub returns-in-Alarm-clause-steps : goal.returns-in-Alarm-clause-steps
returns-in-Alarm-clause-steps g c =
    kind_steps g.F.Flash c.args.self.now _ _ c.args.frame.now.destination c.args.frame.now.source c.args.frame.now.frame_id c.args.frame.now.body.now _ kind.Alarm _ _
    (ap (λ s. s.station.identity) c.self.view_is) (c.kind_of.ensures c.args.frame.now.source c.args.frame.now.body.now) c.in-Alarm.is c.read_alarm.ensures.steps

pub returns-in-Request-clause-steps : goal.returns-in-Request-clause-steps
returns-in-Request-clause-steps g c =
    kind_steps g.F.Flash c.args.self.now _ _ c.args.frame.now.destination c.args.frame.now.source c.args.frame.now.frame_id c.args.frame.now.body.now _ kind.Request _ _
    (ap (λ s. s.station.identity) c.self.view_is) (c.kind_of.ensures c.args.frame.now.source c.args.frame.now.body.now) c.in-Request.is c.read_and_serve.ensures.steps

pub returns-in-Elsewhere-clause-steps : goal.returns-in-Elsewhere-clause-steps
returns-in-Elsewhere-clause-steps g c =
    kind_steps g.F.Flash c.args.self.now _ _ c.args.frame.now.destination c.args.frame.now.source c.args.frame.now.frame_id c.args.frame.now.body.now _ kind.Elsewhere _ _
    (ap (λ s. s.station.identity) c.self.view_is) (c.kind_of.ensures c.args.frame.now.source c.args.frame.now.body.now) c.in-Elsewhere.is
    (refuses_steps g.F.Flash c.args.self.now elsewhere NotMine _ _ c.requires.stored refl (ap (map (λ frame. frame.items)) c.requires.empty) refl)
