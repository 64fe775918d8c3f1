-- What an alarm reports of a submodule or a module that was pulled or plugged (IEC 61158-6-10, 5.2.5).
use Rattle.std.specs.Prelude.{◌==◌, ◌%◌, ℕ, Option, Some, None, if◌then◌else◌}
use Rattle.record_blocks.specs.declared.alarm_notification.AlarmNotification.{AlarmNotification}
use Rattle.module_diff.specs.declared.changes.Affected.{Affected}
use Rattle.diagnosis.specs.declared.reports.report.Report.{Report}
use Rattle.plan_places.specs.declared.report.PlaceReport.{PlaceReport}
use Rattle.plan_places.specs.declared.report.PlaceReport.TheVariants.{Pulled, PluggedWrong, Plugged}
use Rattle.plan_places.specs.declared.report.Plug.{Plug}

-- What a pull takes away: a submodule, or without a subslot all of the module.
abbrev pub pulled_at : ℕ → ℕ → Affected
pulled_at slot subslot = record { slot = slot; subslot = if subslot == 0 then None else Some subslot }

-- A plug at the alarm's submodule. SequenceNumber of AlarmSpecifier is in bits 0 to 10.
abbrev pub plug_of : AlarmNotification → Plug
plug_of alarm = record { slot = alarm.slot_number; subslot = alarm.subslot_number; number = alarm.alarm_specifier % 0x800 }

-- What an alarm reports, by its AlarmType: 0x0003 pull, 0x001F pull module, 0x000A plug wrong submodule, 0x0004 plug.
abbrev pub report_by_type : AlarmNotification → Option PlaceReport
report_by_type alarm =
    if alarm.alarm_type == 0x0003 then Some (Pulled (pulled_at alarm.slot_number alarm.subslot_number))
    else if alarm.alarm_type == 0x001F then Some (Pulled (pulled_at alarm.slot_number 0))
    else if alarm.alarm_type == 0x000A then Some (PluggedWrong (plug_of alarm))
    else if alarm.alarm_type == 0x0004 then Some (Plugged (plug_of alarm))
    else None

-- What an alarm reports of a submodule or a module, if it does. Other APIs than 0 have places of their own.
abbrev pub place_report : Report → Option PlaceReport
place_report report = if report.notification.api == 0 then report_by_type report.notification else None
