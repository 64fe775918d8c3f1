-- An alarm as it is stored while it is active.
use Rattle.std.specs.Prelude.{[]}
use Rattle.record_blocks.specs.declared.alarm_notification.AlarmNotification.{AlarmNotification}
use Rattle.pn_alarms.specs.declared.sender.Standing.{Standing}

-- Its block: an alarm in API 0.
abbrev pub kept_as : Standing → AlarmNotification
kept_as alarm = record {
  alarm_type = alarm.alarm_type;
  api = 0;
  slot_number = alarm.slot_number;
  subslot_number = alarm.subslot_number;
  module_ident_number = alarm.module_ident_number;
  submodule_ident_number = alarm.submodule_ident_number;
  alarm_specifier = alarm.alarm_specifier;
  alarm_data = alarm.alarm_data.items;
}

-- A block without its data.
abbrev pub emptied : AlarmNotification → AlarmNotification
emptied alarm = record {
  alarm_type = alarm.alarm_type;
  api = alarm.api;
  slot_number = alarm.slot_number;
  subslot_number = alarm.subslot_number;
  module_ident_number = alarm.module_ident_number;
  submodule_ident_number = alarm.submodule_ident_number;
  alarm_specifier = alarm.alarm_specifier;
  alarm_data = [];
}
