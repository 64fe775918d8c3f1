-- The outcome of an alarm frame follows from its content, or it may carry an AlarmAck of low priority.
use Rattle.std.proofs.Common.{ap, map, subst, sym, ◌∙◌}
use Rattle.device_frames.specs.Heard.{heard_alarm, heard_reply}
use Rattle.device_core.specs.Steps.{Steps}
use Rattle.device_core.proofs.device.Device.read_alarm.Goals as goal

pub returns-in-Ok-clause-steps : goal.returns-in-Ok-clause-steps
returns-in-Ok-clause-steps g c =
    let said = ap (heard_alarm c.args.source c.args.frame_id c.args.body.now) (sym c.read_message.ensures ∙ c.in-Ok.is) in
    let under = ap (λ priority. heard_reply c.args.source priority c.in-Ok.header c.in-Ok.message) (sym c.of.ensures) in
    subst (λ heard. Steps g.F.Flash c.args.self.now heard (map (λ frame. frame.items) c.hear_under.new.outbox.items) c.hear_under.result c.hear_under.new.self)
    (sym (said ∙ under)) c.hear_under.ensures.steps

pub returns-in-Err-clause-steps : goal.returns-in-Err-clause-steps
returns-in-Err-clause-steps g c =
    let said = ap (heard_alarm c.args.source c.args.frame_id c.args.body.now) (sym c.read_message.ensures ∙ c.in-Err.is) in
    subst (λ heard. Steps g.F.Flash c.args.self.now heard (map (λ frame. frame.items) c.read_low_confirm.new.outbox.items) c.read_low_confirm.result c.read_low_confirm.new.self)
    (sym said) c.read_low_confirm.ensures.steps
