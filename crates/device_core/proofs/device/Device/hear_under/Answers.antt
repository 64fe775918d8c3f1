-- An ACK under the FrameID of low priority may be one of low priority; anything else is of high priority.
use Rattle.std.proofs.Common.{ap, sym, ◌∙◌}
use Rattle.device_frames.specs.Heard.{heard_reply}
use Rattle.device_core.specs.Handled.{handled, handled_alarm, handled_low_reply}
use Rattle.device_core.proofs.Handled.{alarm_asks_nothing, low_reply_asks_nothing}
use Rattle.device_core.proofs.Replies.{reply_high, reply_low}
use Rattle.device_core.proofs.Steps.{inactive_steps}
use Rattle.device_core.proofs.device.Device.hear_under.Goals as goal

pub returns-then-is_low_reply-clause-steps : goal.returns-then-is_low_reply-clause-steps
returns-then-is_low_reply-clause-steps g c =
    let old = c.args.self.now in
    let source = c.args.source in
    let header = c.args.header.now in
    let message = c.args.message.now in
    let is = reply_low source c.args.priority header message (sym c.is_low_reply.ensures ∙ c.if-is_low_reply.true) in
    inactive_steps g.F.Flash old _ (heard_reply source c.args.priority header message) (handled_low_reply old.station old.live source header message) _ _ c.requires.stored
    (ap (handled old.station old.live) is) (low_reply_asks_nothing old.station old.live source header message)
    c.hear_low_reply.ensures.state c.hear_low_reply.ensures.frames c.hear_low_reply.ensures.note c.hear_low_reply.ensures.sendable

pub returns-clause-steps : goal.returns-clause-steps
returns-clause-steps g c =
    let old = c.args.self.now in
    let source = c.args.source in
    let header = c.args.header.now in
    let message = c.args.message.now in
    let is = reply_high source c.args.priority header message (sym c.is_low_reply.ensures ∙ c.if-is_low_reply.false) in
    inactive_steps g.F.Flash old _ (heard_reply source c.args.priority header message) (handled_alarm old.live source header message) _ _ c.requires.stored
    (ap (handled old.station old.live) is) (alarm_asks_nothing old.live source header message)
    c.hear_alarm.ensures.state c.hear_alarm.ensures.frames c.hear_alarm.ensures.note c.hear_alarm.ensures.sendable
