use Rattle.std.proofs.Common.{◌≤◌, ℕ, List, length, ap, subst, ◌∙◌, ◌++◌, arith}
use Rattle.arrayvec.specs.ArrayVec.{ArrayVec}
use Rattle.frame_codec.specs.Outbox.{boxed}
use Rattle.device_frames.specs.declared.event.Event.TheVariants.{Frame as comes}
use Rattle.device_frames.specs.Heard.{heard_of}
use Rattle.network_world.specs.Sent.{octets_of}
use Rattle.rounds_law.specs.Rounds.{Adds}
use Rattle.rounds_law.proofs.RoundsNet.{added}
use Rattle.rounds_law.proofs.rounds.hear_at_device.Goals as goal

pub returns : goal.returns
returns g c = λ reliable.
    let stays = c.step.ensures.reliable reliable.flash reliable.unfailed in
    let device = c.args.device.now in
    let sent = octets_of c.args.sent.now.items in
    let most : length c.as_slice.result.now ≤ 1518 = c.as_slice.ensures.most in
    let few : length c.as_slice.result.now ≤ 1519 = omega arith in
    let whole = c.of.ensures.whole few ∙ ap (λ (items : List ℕ). let octets : ArrayVec ℕ = record { items = items } in octets) c.as_slice.ensures.value in
    subst (λ (octets : ArrayVec ℕ). Adds g.F.Flash device (heard_of device.station.identity (comes octets)) sent c.step.new.self
    (octets_of c.append.new.all.items))
    whole
    (added g.F.Flash device (heard_of device.station.identity (comes c.of.result)) sent
    (boxed c.step.new.outbox) c.step.result
    c.step.new.self (octets_of c.append.new.all.items) reliable c.step.ensures.steps (record { flash = stays.0; unfailed = stays.1 })
    (c.in_ok-append.ensures ∙ ap (λ frames. sent ++ octets_of frames) c.as_slice-2.ensures.value))
