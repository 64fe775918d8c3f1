-- The alarms of a relation at a controller (IEC 61158-6-10, 4.8 and 5.2.5).
use Rattle.std.specs.Prelude.{ℕ, Bool, ◌==◌, ◌&&◌, nat_eq, take, Option, Some, None}
use Rattle.std.specs.Cmp.Lexicographic.{pointwise}
use Rattle.pn_values.specs.declared.mac.Mac.{Mac}
use Rattle.record_blocks.specs.declared.alarm_ack.AlarmAck.{AlarmAck}
use Rattle.record_blocks.specs.declared.alarm_notification.AlarmNotification.{AlarmNotification}
use Rattle.pn_alarms.specs.declared.pdu.Header.{Header}
use Rattle.pn_alarms.specs.declared.pdu.PduType.{PduType}
use Rattle.pn_alarms.specs.Controller.{controller_header}
use Rattle.pn_alarms.specs.Ends.{ControllerEnd}
use Rattle.cyclic_data.specs.declared.exchange.route.Route.{Route}
use Rattle.plans.specs.Numbers.{alarm_endpoint}
use Rattle.controller_core.specs.declared.stored.kept.KeptAlarm.{KeptAlarm}

-- The AlarmAck of an alarm, without an error.
abbrev pub ack_of : AlarmNotification → AlarmAck
ack_of alarm = record {
  alarm_type = alarm.alarm_type;
  api = alarm.api;
  slot_number = alarm.slot_number;
  subslot_number = alarm.subslot_number;
  alarm_specifier = alarm.alarm_specifier;
  pnio_status = 0;
}

-- An alarm as it is stored. A frame holds fewer than 1,500 octets of its data.
abbrev pub kept_alarm : AlarmNotification → AlarmNotification
kept_alarm alarm = record alarm { alarm_data = take 1500 alarm.alarm_data }

-- The block of an alarm that is stored.
abbrev pub alarm_in : KeptAlarm → AlarmNotification
alarm_in kept = record {
  alarm_type = kept.alarm_type;
  api = kept.api;
  slot_number = kept.slot_number;
  subslot_number = kept.subslot_number;
  module_ident_number = kept.module_ident_number;
  submodule_ident_number = kept.submodule_ident_number;
  alarm_specifier = kept.alarm_specifier;
  alarm_data = kept.alarm_data.items;
}

-- Its UserStructureIdentifier.
abbrev pub structure_in : Option KeptAlarm → Option ℕ
structure_in (Some kept) = kept.user_structure
structure_in None = None

-- The header of a PDU that is sent now, from the endpoint of the controller to that of the device.
abbrev pub header_of : ControllerEnd → Route → PduType → Header
header_of alarms route kind = controller_header alarms kind route.reference alarm_endpoint

-- Whether an alarm frame belongs to the relation.
abbrev pub is_alarm : Route → Mac → Header → Bool
is_alarm route source header =
    pointwise nat_eq source.octets route.partner.octets && (header.destination == alarm_endpoint && header.source == route.reference)
