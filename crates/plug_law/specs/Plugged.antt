-- Which alarms a controller accepted that say that an expected submodule was plugged.
use Rattle.std.specs.Prelude.{◌≡◌, ◌&&◌, ◌++◌, ℕ, List, ◌∷◌, Option, Some, None, if◌then◌else◌}
use Rattle.pn_alarms.specs.declared.message.Notice.TheVariants as notice
use Rattle.pn_alarms.specs.declared.receiver.Taken.{Taken}
use Rattle.pn_alarms.specs.declared.receiver.Taken.TheVariants.{New, Again, Refused}
use Rattle.pn_alarms.specs.Receiver.{taken_as}
use Rattle.diagnosis.specs.declared.reports.report.Report.{Report}
use Rattle.plan_places.specs.declared.report.PlaceReport.TheVariants as reports
use Rattle.plan_places.specs.Reports.{place_report}
use Rattle.controller_messages.specs.declared.setup.Setup.{Setup}
use Rattle.controller_messages.specs.Heard.{Heard, Alarms, heard_of}
use Rattle.controller_core.specs.declared.stored.event.Event.{Event}
use Rattle.controller_core.specs.declared.stored.event.Event.TheVariants.{Frame}
use Rattle.controller_core.specs.stored.Alarms.{is_alarm}
use Rattle.controller_core.specs.stored.State.{Live}
use Rattle.controller_core.specs.Machine.{end_of}
use Rattle.plug_law.specs.Written.{after_events}

-- A report, if its alarm is a new one.
abbrev pub accepted_by : Taken → Report → Option Report
accepted_by New report = Some report
accepted_by Again report = None
accepted_by Refused report = None

-- The report of an alarm that is heard, if it is of the relation and is accepted.
abbrev pub accepted_in : Live → Heard → Option Report
accepted_in live (Alarms source under header (notice.Data number report)) =
    if live.stands && is_alarm live.cyclic.route source header then accepted_by (taken_as (end_of live report.priority).seen number) report else None
accepted_in live heard = None

-- The report of an alarm that is accepted with an event.
abbrev pub accepted_with : Setup → Live → Event → Option Report
accepted_with setup live (Frame bytes) = accepted_in live (heard_of setup.plan.controller bytes.items)
accepted_with setup live event = None

-- With one of these events the controller accepted an alarm which says that the submodule in this slot and subslot was plugged, and has
-- this number.
pub record WasPlugged (setup : Setup) (live : Live) (events : List Event) (slot subslot number : ℕ) : Type 0 where
  pub before : List Event
  pub one : Event
  pub later : List Event
  pub all : events ≡ before ++ one ∷ later
  pub report : Report
  pub accepted : accepted_with setup (after_events setup live before) one ≡ Some report
  pub plugs : place_report report ≡ Some (reports.Plugged (record { slot = slot; subslot = subslot; number = number }))
