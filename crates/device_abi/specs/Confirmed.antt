-- How a controller confirms a process alarm. One alarm at a time is open: from the event that raised it to the one that brings its AlarmAck, or
-- with which its relation ends. The alarm that was open before a frame or units of time is over if none is open afterwards: only the
-- application raises one.
use Rattle.std.specs.Prelude.{ℕ, Bool, true, false, Option, Some, None}
use Rattle.pn_alarms.specs.declared.message.Notice.TheVariants as message
use Rattle.pn_alarms.specs.Message.{ToDevice}
use Rattle.device_frames.specs.declared.event.Event.{Event}
use Rattle.device_frames.specs.Heard.{Heard, Alarms, heard_of}
use Rattle.device_core.specs.OpenAlarm.{has_open_alarm}
use Rattle.c_layout.specs.declared.op.Op.{Op}
use Rattle.device_station.specs.port.Served.{Served}
use Rattle.device_abi.specs.declared.confirmation.Confirmation.{Confirmation}
use Rattle.device_abi.specs.declared.confirmation.Confirmation.TheVariants.{Nothing, Acknowledged, GivenUp}

-- Whether a process alarm of a device is open.
abbrev pub is_open : Served → Bool
is_open served = has_open_alarm served.port.device.live.rest.link

-- The PNIOStatus of an AlarmAck of high priority, if it is one.
abbrev pub status_in : ToDevice → Option ℕ
status_in (message.Data number ack) = Some ack.pnio_status
status_in message.Nack = None
status_in (message.Ack number) = None
status_in (message.Abort status) = None

-- The PNIOStatus of the AlarmAck of high priority that an event is to a device, if it is one.
abbrev pub status_by : Heard → Option ℕ
status_by (Alarms source header said) = status_in said
status_by heard = None

-- What became of an alarm that is over: an AlarmAck ends no relation, and nothing else ends an alarm whose relation goes on.
abbrev pub over_by : Option ℕ → Confirmation
over_by (Some status) = Acknowledged status
over_by None = GivenUp

-- What became of the alarm that was open before an event, if one was, from whether it is open afterwards.
abbrev pub confirmation : Bool → Bool → Option ℕ → Confirmation
confirmation true false status = over_by status
confirmation true true status = Nothing
confirmation false still status = Nothing

-- What became of it with a frame.
abbrev pub confirmed_by : Served → Event → Served → Confirmation
confirmed_by old event new = confirmation (is_open old) (is_open new) (status_by (heard_of old.port.device.station.identity event))

-- What became of it with units of time.
abbrev pub confirmed_in_time : Served → Served → Confirmation
confirmed_in_time old new = confirmation (is_open old) (is_open new) None

-- How it is reported: 0, nothing; 1, acknowledged, with this PNIOStatus; 2, given up.
abbrev pub with_confirmation : Confirmation → Op → Op
with_confirmation Nothing asked = record asked { confirmed = 0 }
with_confirmation (Acknowledged status) asked = record asked { confirmed = 1; status = status }
with_confirmation GivenUp asked = record asked { confirmed = 2 }
