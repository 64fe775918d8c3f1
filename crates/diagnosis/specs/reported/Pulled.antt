-- What an alarm reports as pulled (IEC 61158-6-10, 5.2.5).
use Rattle.std.specs.Prelude.{◌==◌, ℕ, Option, Some, None, if◌then◌else◌}
use Rattle.record_blocks.specs.declared.alarm_notification.AlarmNotification.{AlarmNotification}
use Rattle.module_diff.specs.declared.changes.Affected.{Affected}
use Rattle.diagnosis.specs.declared.reports.report.Report.{Report}

-- A submodule, or without a subslot all of the module.
abbrev pub pulled_at : ℕ → ℕ → Affected
pulled_at slot subslot = record { slot = slot; subslot = if subslot == 0 then None else Some subslot }

-- What was pulled, by AlarmType: 0x0003 pull, 0x001F pull module.
abbrev pub pulled_by_type : AlarmNotification → Option Affected
pulled_by_type alarm =
    if alarm.alarm_type == 0x0003 then Some (pulled_at alarm.slot_number alarm.subslot_number)
    else if alarm.alarm_type == 0x001F then Some (pulled_at alarm.slot_number 0)
    else None

-- What an alarm reports as pulled, if it does. Other APIs than 0 have submodules of their own.
abbrev pub pulled_by : Report → Option Affected
pulled_by report = if report.notification.api == 0 then pulled_by_type report.notification else None
