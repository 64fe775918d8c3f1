-- The states of both ends of the alarms of a relation.
use Rattle.std.specs.Prelude.{ℕ, Option}
use Rattle.record_blocks.specs.declared.alarm_ack.AlarmAck.{AlarmAck}
use Rattle.pn_alarms.specs.Alarming.{Alarming}
use Rattle.pn_alarms.specs.Sending.{Sending}

-- A device: the sender of alarms, and the number of the last AlarmAck that was accepted.
pub record DeviceEnd : Type 0 where
  pub sender : Alarming
  pub seen : Option ℕ

-- A controller: how AlarmAcks are sent, the last AlarmAck, and the number of the last alarm that was accepted.
pub record ControllerEnd : Type 0 where
  pub sending : Sending
  pub confirming : Option AlarmAck
  pub seen : Option ℕ
