-- A controller's end of the alarms of a relation: it accepts alarms and sends AlarmAcks.
use Rattle.std.specs.Prelude.{ℕ, Some, None}
use Rattle.record_blocks.specs.declared.alarm_ack.AlarmAck.{AlarmAck}
use Rattle.pn_alarms.specs.declared.pdu.Header.{Header}
use Rattle.pn_alarms.specs.declared.pdu.PduType.{PduType}
use Rattle.pn_alarms.specs.Numbers.{send_number, ack_number}
use Rattle.pn_alarms.specs.Sending.{silent, sent, ticked, acked}
use Rattle.pn_alarms.specs.Ends.{ControllerEnd}
use Rattle.pn_alarms.specs.Receiver.{last_behind}

-- Nothing was accepted and nothing was sent.
abbrev pub unheard : ℕ → ℕ → ControllerEnd
unheard factor retries = record { sending = silent factor retries; confirming = None; seen = None }

-- The state after an AlarmAck is sent, which replaces the one before it.
abbrev pub confirmed : ControllerEnd → AlarmAck → ControllerEnd
confirmed c ack = record { sending = sent c.sending; confirming = Some ack; seen = c.seen }

-- The state after a unit.
abbrev pub controller_later : ControllerEnd → ControllerEnd
controller_later c = record { sending = ticked c.sending; confirming = c.confirming; seen = c.seen }

-- The state after data of this number, and the state after an ACK of this number.
abbrev pub with_data : ControllerEnd → ℕ → ControllerEnd
with_data c number = record { sending = c.sending; confirming = c.confirming; seen = last_behind c.seen number }

-- The controller's end after an ACK with this number.
abbrev pub with_ack : ControllerEnd → ℕ → ControllerEnd
with_ack c number = record { sending = acked c.sending number; confirming = c.confirming; seen = c.seen }

-- The header of a PDU that is sent now.
abbrev pub controller_header : ControllerEnd → PduType → ℕ → ℕ → Header
controller_header c kind destination source = record {
  destination = destination;
  source = source;
  kind = kind;
  send_number = send_number c.sending.last;
  ack_number = ack_number c.seen;
}
