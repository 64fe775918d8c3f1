-- The sender of alarms: one alarm at a time, until it is acknowledged (IEC 61158-6-10, 4.8 and 5.2.5).
use Rattle.std.specs.Prelude.{◌+◌, ◌%◌, ◌==◌, ◌&&◌, ℕ, Bool, true, false, List, Option, Some, None, if◌then◌else◌}
use Rattle.record_blocks.specs.declared.alarm_ack.AlarmAck.{AlarmAck}
use Rattle.record_blocks.specs.declared.alarm_notification.AlarmNotification.{AlarmNotification}
use Rattle.pn_alarms.specs.declared.sender.Alarm.{Alarm}
use Rattle.pn_alarms.specs.declared.sender.Reply.{Reply}
use Rattle.pn_alarms.specs.declared.sender.Reply.TheVariants as reply
use Rattle.pn_alarms.specs.Numbers.{is_last}
use Rattle.pn_alarms.specs.Alarming.{Alarming}
use Rattle.pn_alarms.specs.Sending.{sent, silent, ticked, rested, acked}

-- A process alarm, of type 2, in API 0, with its slot and subslot, the module and submodule that are plugged there, and
-- its octets.
abbrev pub notice_of : ℕ → ℕ → ℕ → ℕ → ℕ → List ℕ → AlarmNotification
notice_of specifier slot subslot module_ident submodule_ident octets = record {
  alarm_type = 2;
  api = 0;
  slot_number = slot;
  subslot_number = subslot;
  module_ident_number = module_ident;
  submodule_ident_number = submodule_ident;
  alarm_specifier = specifier;
  alarm_data = octets;
}

-- The alarm that the application raises.
abbrev pub notified : ℕ → Alarm → AlarmNotification
notified specifier alarm =
    notice_of specifier alarm.slot_number alarm.subslot_number alarm.module_ident_number alarm.submodule_ident_number alarm.alarm_data.now

-- No alarm was raised yet.
abbrev pub inactive : ℕ → ℕ → Alarming
inactive factor retries = record { sending = silent factor retries; specifier = 0; standing = None }

-- The alarm is active, and is sent under the next number. AlarmSpecifier counts modulo 2,048.
abbrev pub standing_with : AlarmNotification → Alarming → Alarming
standing_with notice a = record { sending = sent a.sending; specifier = (a.specifier + 1) % 2048; standing = Some notice }

-- An alarm is raised.
abbrev pub raised : Alarm → Alarming → Alarming
raised alarm a = standing_with (notified a.specifier alarm) a

-- Whether an AlarmAck acknowledges this alarm: it has the same type, API, slot, subslot and AlarmSpecifier.
abbrev pub is_of : AlarmAck → AlarmNotification → Bool
is_of ack alarm =
    (ack.alarm_type == alarm.alarm_type) && (ack.api == alarm.api) && (ack.slot_number == alarm.slot_number)
    && (ack.subslot_number == alarm.subslot_number) && (ack.alarm_specifier == alarm.alarm_specifier)

-- Whether it ends the active alarm.
abbrev pub is_end : AlarmAck → Option AlarmNotification → Bool
is_end ack None = false
is_end ack (Some alarm) = is_of ack alarm

-- The state after an AlarmAck, which ends the alarm that it acknowledges, and its repeats.
abbrev pub ended_by : Alarming → AlarmAck → Alarming
ended_by a ack = if is_end ack a.standing then record { sending = rested a.sending; specifier = a.specifier; standing = None } else a

-- Whether a reply counts: an ACK of the last data that was sent, or any AlarmAck.
abbrev pub counts : Alarming → Reply → Bool
counts a (reply.Ack number) = is_last a.sending.last number
counts a (reply.AlarmAck ack) = true

-- The state after a reply: an ACK ends the repeats; the AlarmAck of the alarm also ends the alarm.
abbrev pub answered : Alarming → Reply → Alarming
answered a (reply.Ack number) = record { sending = acked a.sending number; specifier = a.specifier; standing = a.standing }
answered a (reply.AlarmAck ack) = ended_by a ack

-- The state after a unit of time.
abbrev pub later : Alarming → Alarming
later a = record { sending = ticked a.sending; specifier = a.specifier; standing = a.standing }
