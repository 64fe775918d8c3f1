-- A cyclic frame that the relation accepts asks nothing of the settings, and sends nothing. Any other frame changes nothing.
use Rattle.std.proofs.Common.{◌≡◌, ap, sym, ◌∙◌}
use Rattle.frame_codec.specs.Meaning.{RealTime}
use Rattle.device_frames.specs.Heard.{heard_content}
use Rattle.device_frames.specs.Hearing.{heard_as}
use Rattle.device_frames.specs.declared.event.Event.{Event}
use Rattle.device_frames.specs.declared.event.Event.TheVariants.{Frame}
use Rattle.device_frames.specs.declared.hearing.RealTimeKind.TheVariants.{Cyclic}
use Rattle.device_core.specs.Handled.{handled, handled_cyclic}
use Rattle.device_core.specs.State.{with_rest}
use Rattle.device_core.proofs.Exchanged.{cyclic_undone}
use Rattle.device_core.proofs.Handled.{cyclic_asks_nothing, cyclic_sends_nothing}
use Rattle.device_core.proofs.Steps.{quiet_step}
use Rattle.device_core.proofs.device.Device.take_real_time.Goals as goal

pub returns-in-Cyclic-clause-taken : goal.returns-in-Cyclic-clause-taken
returns-in-Cyclic-clause-taken g c = λ octets said taken.
    let old = c.args.self.now in
    let source = c.args.frame.now.source in
    let frame_id = c.args.frame.now.frame_id in
    let body = c.args.frame.now.body.now in
    let event : Event = Frame (record { items = octets }) in
    let own = ap (λ s. s.station.identity) c.self.view_is in
    let heard : heard_content old.station.identity c.args.frame.now.destination source (RealTime frame_id body) ≡ heard_as Cyclic source frame_id body =
    sym (ap (λ identity. heard_content identity c.args.frame.now.destination source (RealTime frame_id body)) own)
    ∙ (c.kind_of.ensures source body ∙ ap (λ k. heard_as k source frame_id body) c.in-Cyclic.is) in
    quiet_step old _ event (handled_cyclic old.live source frame_id body) _ (ap (handled old.station old.live) (said ∙ heard))
    (cyclic_asks_nothing old.live source frame_id body) c.hear_cyclic.ensures.state (cyclic_sends_nothing old.station old.live source frame_id body)
    (sym (c.is_done.ensures.done taken) ∙ c.hear_cyclic.ensures.note)

pub returns-in-Cyclic-clause-left : goal.returns-in-Cyclic-clause-left
returns-in-Cyclic-clause-left g c = λ untaken.
    let old = c.args.self.now in
    let source = c.args.frame.now.source in
    let frame_id = c.args.frame.now.frame_id in
    let body = c.args.frame.now.body.now in
    c.hear_cyclic.ensures.state
    ∙ ap (with_rest old) (cyclic_undone old.station old.live source frame_id body (λ done. c.is_done.ensures.undone untaken (c.hear_cyclic.ensures.note ∙ done)))
