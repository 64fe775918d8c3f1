use Rattle.std.proofs.Common.{ap, ◌∙◌, ◌++◌}
use Rattle.frame_codec.specs.Outbox.{boxed}
use Rattle.device_frames.specs.Heard.{Ticks, heard_of}
use Rattle.network_world.specs.Sent.{octets_of}
use Rattle.rounds_law.proofs.RoundsNet.{added}
use Rattle.rounds_law.proofs.rounds.pass_at_device.Goals as goal

pub returns : goal.returns
unfolding heard_of
returns g c = λ reliable.
    let stays = c.step.ensures.reliable reliable.flash reliable.unfailed in
    let sent = octets_of c.args.sent.now.items in
    added g.F.Flash c.args.device.now Ticks sent (boxed c.step.new.outbox) c.step.result c.step.new.self
    (octets_of c.append.new.all.items) reliable c.step.ensures.steps
    (record { flash = stays.0; unfailed = stays.1 }) (c.in_ok-append.ensures ∙ ap (λ frames. sent ++ octets_of frames) c.as_slice.ensures.value)
