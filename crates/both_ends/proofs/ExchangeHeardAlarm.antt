-- What a device hears of an alarm frame.
use Rattle.std.proofs.Common.{ℕ, List, Result, Ok, Err}
use Rattle.pn_values.specs.declared.mac.Mac.{Mac}
use Rattle.pn_alarms.specs.declared.fault.AlarmFault.{AlarmFault}
use Rattle.pn_alarms.specs.declared.message.Notice.TheVariants as notice
use Rattle.pn_alarms.specs.declared.pdu.Header.{Header}
use Rattle.pn_alarms.specs.Message.{ToDevice}
use Rattle.diagnosis.specs.declared.reports.priority.Priority.{Priority}
use Rattle.diagnosis.specs.declared.reports.priority.Priority.TheVariants.{High, Low}
use Rattle.diagnosis.specs.reports.Message.{low_message_of}
use Rattle.diagnosis.specs.reports.Priority.{priority_of}
use Rattle.device_frames.specs.Heard.{Heard, Alarms, LowConfirms, LowReplies, Unreadable, heard_alarm, heard_low, heard_reply}

-- what holds of each of these holds of what is heard
module _ (P : Heard → Type 0) (alarms : (source : Mac) (header : Header) (message : ToDevice) → P (Alarms source header message))
    (replies : (source : Mac) (header : Header) (message : ToDevice) → P (LowReplies source header message))
    (confirms : (source : Mac) (header : Header) (message : ToDevice) → P (LowConfirms source header message)) (unread : P Unreadable) where
  reply_holds : (source : Mac) (priority : Priority) (header : Header) (message : ToDevice) → P (heard_reply source priority header message)
  reply_holds source Low header (notice.Ack number) = replies source header (notice.Ack number)
  reply_holds source Low header (notice.Data number ack) = alarms source header (notice.Data number ack)
  reply_holds source Low header notice.Nack = alarms source header notice.Nack
  reply_holds source Low header (notice.Abort status) = alarms source header (notice.Abort status)
  reply_holds source High header message = alarms source header message

  low_holds : (source : Mac) (read : Result (Header × ToDevice) AlarmFault) → P (heard_low source read)
  low_holds source (Ok x) = confirms source x.0 x.1
  low_holds source (Err fault) = unread

  pub alarm_holds : (source : Mac) (frame_id : ℕ) (body : List ℕ) (read : Result (Header × ToDevice) AlarmFault) → P (heard_alarm source frame_id body read)
  alarm_holds source frame_id body (Ok x) = reply_holds source (priority_of frame_id) x.0 x.1
  alarm_holds source frame_id body (Err fault) = low_holds source (low_message_of body)
