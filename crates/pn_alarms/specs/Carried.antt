-- The blocks that data of high priority carries: an AlarmNotification to a controller, an AlarmAck to a device.
use Rattle.std.specs.Prelude.{◌++◌, ℕ, List, Option, Result, Ok, Err}
use Rattle.wire.specs.Checks.{or_fault}
use Rattle.wire.specs.declared.blocks.fault.BlockFault.{BlockFault}
use Rattle.record_blocks.specs.declared.alarm_ack.AlarmAck.{AlarmAck}
use Rattle.record_blocks.specs.declared.alarm_notification.AlarmNotification.{AlarmNotification}
use Rattle.block_codec.specs.declared.block.Block.{Block}
use Rattle.block_codec.specs.declared.block.Block.TheVariants as is
use Rattle.block_codec.specs.Block.{IsBlock, block_of, block_bytes, in_alarm_ack, in_alarm_notification}
use Rattle.pn_alarms.specs.declared.fault.AlarmFault.{AlarmFault}
use Rattle.pn_alarms.specs.declared.pdu.Header.{Header}
use Rattle.pn_alarms.specs.Format.{Said}
use Rattle.pn_alarms.specs.declared.fault.AlarmFault.TheVariants as fault

-- These octets begin with this block.
abbrev pub IsAck : List ℕ → AlarmAck → Type 0
IsAck body ack = (rest : List ℕ) × IsBlock body (is.AlarmAck ack) rest

-- The block of the expected type, if the block that was read is one.
abbrev pub wanted : {A X : Type 0} → (Block → Option A) → Result (Block × X) BlockFault → Result A AlarmFault
wanted pick (Ok x) = or_fault fault.Block (pick x.0)
wanted pick (Err reason) = Err fault.Block

-- The block at the start of these octets, if it has the expected type.
abbrev pub ack_of : List ℕ → Result AlarmAck AlarmFault
ack_of body = wanted in_alarm_ack (block_of body)

-- The AlarmNotification in the body of a PDU, or the fault.
abbrev pub notification_of : List ℕ → Result AlarmNotification AlarmFault
notification_of body = wanted in_alarm_notification (block_of body)

-- Data that carries an alarm.
abbrev pub alarm_pdu : Header → AlarmNotification → Said
alarm_pdu header alarm = record { header = header; body = block_bytes (is.AlarmNotification alarm) }

-- Data whose block has these octets up to an alarm's own data, and then these.
abbrev pub block_pdu : Header → List ℕ → List ℕ → Said
block_pdu header front octets = record { header = header; body = front ++ octets }
