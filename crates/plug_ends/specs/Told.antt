-- What the alarms of low priority that a device reports say of a submodule.
use Rattle.std.specs.Prelude.{◌≡◌, ◌++◌, ◌%◌, ℕ, suc, Bool, false, List, [], ◌∷◌, length, Option, Some, None}
use Rattle.std.specs.List.{list_any}
use Rattle.record_blocks.specs.declared.alarm_notification.AlarmNotification.{AlarmNotification}
use Rattle.diagnosis.specs.declared.reports.priority.Priority.TheVariants.{Low}
use Rattle.plan_places.specs.declared.place.PlaceState.TheVariants.{There}
use Rattle.plan_places.specs.declared.report.PlaceReport.{PlaceReport}
use Rattle.plan_places.specs.declared.report.PlaceReport.TheVariants as reports
use Rattle.plan_places.specs.Places.{is_about}
use Rattle.plan_places.specs.Reports.{place_report}
use Rattle.end_laws.specs.turns.Alarms.{report_as}

-- What an alarm of low priority reports of a submodule or a module, if it does.
abbrev pub report_in : AlarmNotification → Option PlaceReport
report_in alarm = place_report (report_as Low alarm)

-- It reports that the expected submodule was plugged here: AlarmType 0x0004 (IEC 61158-6-10, 5.2.5).
abbrev pub IsPlugAt : ℕ → ℕ → AlarmNotification → Type 0
IsPlugAt slot subslot alarm =
    report_in alarm ≡ Some (reports.Plugged (record { slot = slot; subslot = subslot; number = alarm.alarm_specifier % 0x800 }))

-- A report is about this submodule, if there is one.
abbrev pub is_about_any : ℕ → ℕ → Option PlaceReport → Bool
is_about_any slot subslot None = false
is_about_any slot subslot (Some report) = is_about report (record { slot = slot; subslot = subslot; state = There })

-- An alarm reports that something was pulled or plugged here.
abbrev pub concerns : ℕ → ℕ → AlarmNotification → Bool
concerns slot subslot alarm = is_about_any slot subslot (report_in alarm)

-- One of these alarms does.
abbrev pub concerns_any : ℕ → ℕ → List AlarmNotification → Bool
concerns_any slot subslot alarms = list_any (concerns slot subslot) alarms

-- The last of these alarms that does reports a plug of the expected submodule, and there are this many alarms before it.
pub record LastPlug (slot subslot number : ℕ) (alarms : List AlarmNotification) : Type 0 where
  pub front : List AlarmNotification
  pub alarm : AlarmNotification
  pub rest : List AlarmNotification
  pub are : alarms ≡ front ++ alarm ∷ rest
  pub count : length front ≡ number
  pub plug : IsPlugAt slot subslot alarm
  pub none : concerns_any slot subslot rest ≡ false

-- The SequenceNumber of each of these alarms is one more than that of the one before it, modulo 2,048. That of the first is this.
abbrev pub AreNumberedFrom : ℕ → List AlarmNotification → Type 0
AreNumberedFrom number [] = Unit {0}
AreNumberedFrom number (alarm ∷ alarms) = (alarm.alarm_specifier % 0x800 ≡ number % 0x800) × AreNumberedFrom (suc number) alarms
