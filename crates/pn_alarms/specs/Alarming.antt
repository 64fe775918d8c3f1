-- The state of the sender of alarms.
use Rattle.std.specs.Prelude.{ℕ, Option}
use Rattle.record_blocks.specs.declared.alarm_notification.AlarmNotification.{AlarmNotification}
use Rattle.pn_alarms.specs.Sending.{Sending}

-- The sender of alarms: how alarms are sent, the AlarmSpecifier of the next alarm, and the active alarm.
pub record Alarming : Type 0 where
  pub sending : Sending
  pub specifier : ℕ
  pub standing : Option AlarmNotification
