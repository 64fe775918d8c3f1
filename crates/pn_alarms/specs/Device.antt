-- A device's end of the alarms of a relation: it sends alarms and accepts AlarmAcks.
use Rattle.std.specs.Prelude.{ℕ, None, if◌then◌else◌}
use Rattle.record_blocks.specs.declared.alarm_ack.AlarmAck.{AlarmAck}
use Rattle.record_blocks.specs.declared.alarm_notification.AlarmNotification.{AlarmNotification}
use Rattle.pn_alarms.specs.declared.device.PduFate.{PduFate}
use Rattle.pn_alarms.specs.declared.device.PduFate.TheVariants.{Data, Done, Ignored, Aborted}
use Rattle.pn_alarms.specs.Message.{ToDevice}
use Rattle.pn_alarms.specs.declared.message.Notice.TheVariants as message
use Rattle.pn_alarms.specs.declared.pdu.Header.{Header}
use Rattle.pn_alarms.specs.declared.pdu.PduType.{PduType}
use Rattle.pn_alarms.specs.declared.receiver.Taken.{Taken}
use Rattle.pn_alarms.specs.declared.receiver.Taken.TheVariants.{New, Again, Refused}
use Rattle.pn_alarms.specs.declared.sender.Alarm.{Alarm}
use Rattle.pn_alarms.specs.declared.sender.Reply.TheVariants as reply
use Rattle.pn_alarms.specs.Numbers.{is_last, send_number, ack_number}
use Rattle.pn_alarms.specs.Alarming.{Alarming}
use Rattle.pn_alarms.specs.Ends.{DeviceEnd}
use Rattle.pn_alarms.specs.Sender.{inactive, standing_with, raised, answered, later}
use Rattle.pn_alarms.specs.Receiver.{taken_as, last_behind}

-- Nothing was raised and nothing was accepted.
abbrev pub idle : ℕ → ℕ → DeviceEnd
idle factor retries = record { sender = inactive factor retries; seen = None }

-- What happens to a PDU: data is accepted or refused; an ACK counts if it acknowledges the last alarm that was sent; a
-- NACK does not count; an ERR ends the relation.
abbrev pub heard_as : DeviceEnd → ToDevice → PduFate
heard_as e (message.Data number ack) = Data (taken_as e.seen number)
heard_as e (message.Ack number) = if is_last e.sender.sending.last number then Done else Ignored
heard_as e message.Nack = Ignored
heard_as e (message.Abort status) = Aborted status

-- An AlarmAck that is accepted may end the active alarm.
abbrev pub sender_after : Alarming → AlarmAck → Taken → Alarming
sender_after sender ack New = answered sender (reply.AlarmAck ack)
sender_after sender ack Again = sender
sender_after sender ack Refused = sender

-- The state after a PDU.
abbrev pub end_behind : DeviceEnd → ToDevice → DeviceEnd
end_behind e (message.Data number ack) = record { sender = sender_after e.sender ack (taken_as e.seen number); seen = last_behind e.seen number }
end_behind e (message.Ack number) = record { sender = answered e.sender (reply.Ack number); seen = e.seen }
end_behind e message.Nack = e
end_behind e (message.Abort status) = e

-- The header of a PDU that is sent now.
abbrev pub header_now : DeviceEnd → PduType → ℕ → ℕ → Header
header_now e kind destination source = record {
  destination = destination;
  source = source;
  kind = kind;
  send_number = send_number e.sender.sending.last;
  ack_number = ack_number e.seen;
}

-- The state after an alarm becomes active, after the application raises one, and after a unit.
abbrev pub end_with : DeviceEnd → AlarmNotification → DeviceEnd
end_with e notice = record { sender = standing_with notice e.sender; seen = e.seen }

-- The device's end after an alarm is raised.
abbrev pub end_raised : DeviceEnd → Alarm → DeviceEnd
end_raised e alarm = record { sender = raised alarm e.sender; seen = e.seen }

-- The device's end after a unit of time.
abbrev pub end_later : DeviceEnd → DeviceEnd
end_later e = record { sender = later e.sender; seen = e.seen }
