-- Both ends of a relation, and each PDU that either end ever sent: what may happen between them, in any order and
-- number.
use Rattle.std.specs.Prelude.{◌≡◌, ℕ, List, [], ◌∷◌, ◌++◌, length, nat_lt, slice_get, Option, Some, None, if◌then◌else◌}
use Rattle.record_blocks.specs.declared.alarm_ack.AlarmAck.{AlarmAck}
use Rattle.record_blocks.specs.declared.alarm_notification.AlarmNotification.{AlarmNotification}
use Rattle.pn_alarms.specs.declared.message.Notice.TheVariants as message
use Rattle.pn_alarms.specs.declared.repeats.Due.{Due}
use Rattle.pn_alarms.specs.declared.repeats.Due.TheVariants as due_is
use Rattle.pn_alarms.specs.Numbers.{send_number}
use Rattle.pn_alarms.specs.Sending.{due}
use Rattle.pn_alarms.specs.Ends.{DeviceEnd, ControllerEnd}
use Rattle.pn_alarms.specs.Device.{idle, end_with, end_later, end_behind}
use Rattle.pn_alarms.specs.Controller.{unheard, confirmed, controller_later, with_data, with_ack}
use Rattle.diagnosis.specs.Line.{Line, empty, with_sent, with_again, with_come}

-- Both ends; and the alarms on their way to the controller, and the AlarmAcks on their way to the device. ERRs are left
-- out: the sender of one has ended the relation, and its receiver ends it, so nothing is accepted after it. So are NACKs,
-- which change nothing at either end.
pub record World : Type 0 where
  pub device : DeviceEnd
  pub controller : ControllerEnd
  pub alarms : Line AlarmNotification
  pub confirms : Line AlarmAck

-- What may happen between both ends. The device raises an alarm, which is refused if another one is unconfirmed. The
-- controller sends an AlarmAck, if it accepted more alarms than it sent AlarmAcks. A unit passes at either end. The data
-- at an index, among all that one end ever sent, arrives at the other. An ACK arrives at either end: of any number, also
-- of one that the other never acknowledged.
pub data Move : Type 0 where
  Raise : (alarm : AlarmNotification) → Move
  Confirm : (ack : AlarmAck) → Move
  DeviceTick : Move
  ControllerTick : Move
  AlarmComes : (place : ℕ) → Move
  ConfirmComes : (place : ℕ) → Move
  AckComesToDevice : (number : ℕ) → Move
  AckComesToController : (number : ℕ) → Move

-- the start of a relation with this RTATimeoutFactor and these RTARetries: nothing has happened yet
abbrev pub start : ℕ → ℕ → World
start factor retries = record { device = idle factor retries; controller = unheard factor retries; alarms = empty; confirms = empty }

-- an alarm is raised, and sent, if no other one is unconfirmed
abbrev pub after_raise : World → AlarmNotification → Option AlarmNotification → World
after_raise w alarm None = record w {
  device = end_with w.device alarm;
  alarms = with_sent w.alarms (send_number (end_with w.device alarm).sender.sending.last) alarm;
}
after_raise w alarm (Some standing) = w

-- an AlarmAck is sent, if fewer were sent than alarms were accepted
abbrev pub after_confirm : World → AlarmAck → World
after_confirm w ack =
    if nat_lt (length w.confirms.sent) (length w.alarms.taken)
    then record w {
      controller = confirmed w.controller ack;
      confirms = with_sent w.confirms (send_number (confirmed w.controller ack).sending.last) ack;
    }
    else w

-- what was sent last is repeated
abbrev pub repeated : {A : Type 0} → Line A → ℕ → Option A → Line A
repeated line number None = line
repeated line number (Some value) = with_again line number value

-- what is due
abbrev pub line_after : {A : Type 0} → Line A → ℕ → Option A → Due → Line A
line_after line number value due_is.Nothing = line
line_after line number value due_is.Again = repeated line number value
line_after line number value due_is.Spent = line

-- a unit passes at the device
abbrev pub after_device_tick : World → World
after_device_tick w = record w {
  device = end_later w.device;
  alarms = line_after w.alarms (send_number w.device.sender.sending.last) w.device.sender.standing (due w.device.sender.sending);
}

-- a unit passes at the controller
abbrev pub after_controller_tick : World → World
after_controller_tick w = record w {
  controller = controller_later w.controller;
  confirms = line_after w.confirms (send_number w.controller.sending.last) w.controller.confirming (due w.controller.sending);
}

-- an alarm arrives at the controller, if there is one
abbrev pub after_alarm : World → Option (ℕ × AlarmNotification) → World
after_alarm w None = w
after_alarm w (Some pdu) = record w { controller = with_data w.controller pdu.0; alarms = with_come w.alarms w.controller.seen pdu }

-- an AlarmAck arrives at the device, if there is one
abbrev pub after_confirms : World → Option (ℕ × AlarmAck) → World
after_confirms w None = w
after_confirms w (Some pdu) = record w { device = end_behind w.device (message.Data pdu.0 pdu.1); confirms = with_come w.confirms w.device.seen pdu }

-- the world after a move
abbrev pub happens : World → Move → World
happens w (Raise alarm) = after_raise w alarm w.device.sender.standing
happens w (Confirm ack) = after_confirm w ack
happens w DeviceTick = after_device_tick w
happens w ControllerTick = after_controller_tick w
happens w (AlarmComes k) = after_alarm w (slice_get w.alarms.pdus k)
happens w (ConfirmComes k) = after_confirms w (slice_get w.confirms.pdus k)
happens w (AckComesToDevice number) = record w { device = end_behind w.device (message.Ack number) }
happens w (AckComesToController number) = record w { controller = with_ack w.controller number }

-- the world after a list of moves
abbrev pub behind_all : List Move → World → World
behind_all [] w = w
behind_all (move ∷ moves) w = behind_all moves (happens w move)

-- the first list is a prefix of the second
abbrev pub IsPrefixOf : {A : Type 0} → List A → List A → Type 0
IsPrefixOf {A = A} xs ys = (rest : List A) × (xs ++ rest ≡ ys)
