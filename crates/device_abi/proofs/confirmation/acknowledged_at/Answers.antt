-- Only an alarm frame has one.
use Rattle.std.proofs.Common.{◌∙◌, sym, ap}
use Rattle.device_abi.specs.Confirmed.{status_by}
use Rattle.device_abi.proofs.confirmation.acknowledged_at.Goals as goal

pub returns-in-Alarm : goal.returns-in-Alarm
returns-in-Alarm c =
    let frame = c.args.frame.now in
    c.status_of.ensures frame.source frame.frame_id ∙ sym (ap status_by (c.in-Alarm.ensures frame.source frame.body.now))
