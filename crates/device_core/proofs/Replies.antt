-- An alarm frame by the priority of its FrameID.
use Rattle.std.proofs.Common.{◌≡◌, true, false, refl}
use Rattle.pn_values.specs.declared.mac.Mac.{Mac}
use Rattle.pn_alarms.specs.declared.message.Notice.TheVariants as message
use Rattle.pn_alarms.specs.declared.pdu.Header.{Header}
use Rattle.pn_alarms.specs.Message.{ToDevice}
use Rattle.diagnosis.specs.declared.reports.priority.Priority.{Priority}
use Rattle.diagnosis.specs.declared.reports.priority.Priority.TheVariants.{High, Low}
use Rattle.device_frames.specs.Heard.{Alarms, LowReplies, heard_reply}
use Rattle.device_core.specs.Behind.{is_low_reply}

pub reply_low : (source : Mac) (priority : Priority) (header : Header) (told : ToDevice) → is_low_reply priority told ≡ true
    → heard_reply source priority header told ≡ LowReplies source header told
reply_low source High header told is = cc
reply_low source Low header (message.Ack number) is = refl
reply_low source Low header (message.Data number ack) is = cc
reply_low source Low header message.Nack is = cc
reply_low source Low header (message.Abort status) is = cc

pub reply_high : (source : Mac) (priority : Priority) (header : Header) (told : ToDevice) → is_low_reply priority told ≡ false
    → heard_reply source priority header told ≡ Alarms source header told
reply_high source High header told is = refl
reply_high source Low header (message.Ack number) is = cc
reply_high source Low header (message.Data number ack) is = refl
reply_high source Low header message.Nack is = refl
reply_high source Low header (message.Abort status) is = refl
