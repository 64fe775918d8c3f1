-- The changes that a device reported, as the controller follows them: with a pull goes what its alarm says, as long as nothing is
-- plugged in a subslot 0.
use Rattle.std.proofs.Common.{◌≡◌, ◌==◌, ◌&&◌, ◌||◌, ◌++◌, ◌<◌, ℕ, Bool, true, false, cond, List, [], ◌∷◌, map, Option, Some, None, refl, sym, ap, subst, ◌∙◌, if◌then◌else◌}
use Rattle.record_blocks.specs.declared.alarm_notification.AlarmNotification.{AlarmNotification}
use Rattle.module_diff.specs.declared.changes.Affected.{Affected}
use Rattle.diagnosis.specs.Existing.{changed}
use Rattle.diagnosis.specs.Queue.{kind_type}
use Rattle.diagnosis.specs.alarms.Alarms.{Low}
use Rattle.diagnosis.specs.alarms.Own.{is_own}
use Rattle.diagnosis.specs.declared.diagnosis.Change.{Change}
use Rattle.diagnosis.specs.declared.diagnosis.Diagnosis.{Diagnosis}
use Rattle.diagnosis.specs.declared.module_change.ModuleChange.{ModuleChange}
use Rattle.diagnosis.specs.declared.module_change.ModuleChangeKind.{ModuleChangeKind}
use Rattle.diagnosis.specs.declared.module_change.ModuleChangeKind.TheVariants as kind_is
use Rattle.diagnosis.specs.declared.queue.LowChange.{LowChange}
use Rattle.diagnosis.specs.declared.queue.LowChange.TheVariants as change_is
use Rattle.diagnosis.specs.declared.reports.priority.Priority.TheVariants.{Low as low_priority}
use Rattle.diagnosis.specs.declared.reports.report.Report.{Report}
use Rattle.diagnosis.specs.declared.reported.channel.ChannelReport.{ChannelReport}
use Rattle.diagnosis.specs.reported.Channel.{channel, channel_by, channel_report, is_channel_structure, report_by}
use Rattle.diagnosis.specs.reported.Followed.{Reports, at_places}
use Rattle.diagnosis.specs.reported.Pulled.{pulled_at, pulled_by, pulled_by_type}
use Rattle.diagnosis.specs.reported.Reported.{Reported, after_found, after_pull, after_report}
use Rattle.end_laws.specs.turns.Alarms.{after_reports, report_as}
use Rattle.both_ends.specs.exchange.Told.{AreOwn, AreReports, IsReport, IsStep, IsTold, Leads, ReportsModule, change_in}

-- What a reported change takes away: with a pull a submodule, or a module.
abbrev pub pulled_with : ModuleChangeKind → ModuleChange → Option Affected
pulled_with kind_is.Pull made = Some (pulled_at made.slot made.subslot)
pulled_with kind_is.PullModule made = Some (pulled_at made.slot 0)
pulled_with kind_is.Plug made = None
pulled_with kind_is.PlugWrong made = None

-- The list of a controller in which these are.
abbrev pub listed : List Diagnosis → Reported
listed diagnoses = record { existing = diagnoses; left_out = 0 }

-- A pull or a plug leads to the diagnoses without those of what its alarm reports as pulled.
abbrev pub IsSeen : LowChange → List Diagnosis → List Diagnosis → Type 0
IsSeen (change_is.Diagnosis change) from next = Unit {0}
IsSeen (change_is.Module made) from next = after_pull (pulled_with made.kind made) (listed from) ≡ listed next

-- A change leads from the first of these lists to the second; for a controller too, if this holds.
pub record IsStepIf (Apart : Type 0) (change : LowChange) (from next : List Diagnosis) : Type 0 where
  pub step : IsStep change from next
  pub seen : Apart → IsSeen change from next

-- So do these changes, one after the other.
abbrev pub LeadsIf : Type 0 → List LowChange → List Diagnosis → List Diagnosis → Type 0
LeadsIf Apart [] from last = from ≡ last
LeadsIf Apart (change ∷ changes) from last = (next : List Diagnosis) × IsStepIf Apart change from next × LeadsIf Apart changes next last

-- What was reported, and what waits, leads to the diagnoses at the submodules of the relation; for a controller too, if this holds.
pub record IsToldIf (Apart : Type 0) (low : Low) (diagnoses : List Diagnosis) (reported : List AlarmNotification) : Type 0 where
  pub changes : List LowChange
  pub reports : AreReports changes reported
  pub leads : LeadsIf Apart (changes ++ map change_in low.waiting) [] (at_places (is_own low.places) diagnoses)
  pub own : AreOwn (is_own low.places) (changes ++ map change_in low.waiting)

leads_on : (Apart : Type 0) (changes : List LowChange) (from last : List Diagnosis) → LeadsIf Apart changes from last → Leads changes from last
leads_on Apart [] from last leads = leads
leads_on Apart (change ∷ changes) from last leads = (leads.0, leads.1.step, leads_on Apart changes leads.0 last leads.2)

pub told_on : (Apart : Type 0) (low : Low) (diagnoses : List Diagnosis) (reported : List AlarmNotification) → IsToldIf Apart low diagnoses reported → IsTold low diagnoses reported
told_on Apart low diagnoses reported told = record {
  changes = told.changes;
  reports = told.reports;
  leads = leads_on Apart (told.changes ++ map change_in low.waiting) [] (at_places (is_own low.places) diagnoses) told.leads;
  own = told.own;
}

-- ---- changes one after the other

pub one_more : (Apart : Type 0) (changes : List LowChange) (change : LowChange) (from middle last : List Diagnosis) → LeadsIf Apart changes from middle → IsStepIf Apart change middle last
    → LeadsIf Apart (changes ++ change ∷ []) from last
one_more Apart [] change from middle last leads step = (last, subst (λ (xs : List Diagnosis). IsStepIf Apart change xs last) (sym leads) step, refl)
one_more Apart (first ∷ changes) change from middle last leads step = (leads.0, leads.1, one_more Apart changes change leads.0 middle last leads.2 step)

pub all_more : (Apart : Type 0) (changes more : List LowChange) (from middle last : List Diagnosis) → LeadsIf Apart changes from middle → LeadsIf Apart more middle last
    → LeadsIf Apart (changes ++ more) from last
all_more Apart [] more from middle last leads later = subst (λ (xs : List Diagnosis). LeadsIf Apart more xs last) (sym leads) later
all_more Apart (first ∷ changes) more from middle last leads later = (leads.0, leads.1, all_more Apart changes more leads.0 middle last leads.2 later)

-- ---- the list of a controller that accepted them all

-- a law of the crate below
abbrev pub FollowsSo : Type 0
FollowsSo = (has : ℕ → ℕ → Bool) (change : Change) (report : Report) (before after : List Diagnosis) (left_out : ℕ) → Reports change report
    → change.diagnosis.channel < 65536 → change.diagnosis.error < 65536 → has change.diagnosis.slot change.diagnosis.subslot ≡ true
    → changed change before ≡ Some after
    → after_report report (record { existing = at_places has before; left_out = left_out }) ≡ record { existing = at_places has after; left_out = left_out }

-- a pull or a plug reports nothing of a channel
module_quiet : (report : Report) (kind : ModuleChangeKind) → report.notification.alarm_type ≡ kind_type kind → channel_report report ≡ None
module_quiet report kind e = by_kind kind e
  where
    no_type : (n : ℕ) → report.notification.alarm_type ≡ n → (n == 1 || n == 0x000C) ≡ false → channel_report report ≡ None
    no_type n f none =
        ap (λ (b : Bool). cond (b && is_channel_structure report.user_structure) (report_by report.notification (channel_by (channel.read report.notification.alarm_data))) None)
        (ap (λ (m : ℕ). m == 1 || m == 0x000C) f ∙ none)

    by_kind : (k : ModuleChangeKind) → report.notification.alarm_type ≡ kind_type k → channel_report report ≡ None
    by_kind kind_is.Pull f = no_type 0x0003 f refl
    by_kind kind_is.PullModule f = no_type 0x001F f refl
    by_kind kind_is.Plug f = no_type 0x0004 f refl
    by_kind kind_is.PlugWrong f = no_type 0x000A f refl

-- an alarm of a pull or a plug reports as pulled what the change takes away
module_pulled : (made : ModuleChange) (alarm : AlarmNotification) → ReportsModule made alarm → pulled_by (report_as low_priority alarm) ≡ pulled_with made.kind made
module_pulled made alarm reports =
    ap (λ (n : ℕ). let o : Option Affected = if n == 0 then pulled_by_type alarm else None in o) reports.api ∙ by_kind made.kind reports.type_is
  where
    by_type : (n : ℕ) → alarm.alarm_type ≡ n
        → pulled_by_type alarm ≡ (if n == 0x0003 then Some (pulled_at made.slot made.subslot) else if n == 0x001F then Some (pulled_at made.slot 0) else None)
    by_type n e = rw (e, reports.slot, reports.subslot) refl

    by_kind : (kind : ModuleChangeKind) → alarm.alarm_type ≡ kind_type kind → pulled_by_type alarm ≡ pulled_with kind made
    by_kind kind_is.Pull e = by_type 0x0003 e
    by_kind kind_is.PullModule e = by_type 0x001F e
    by_kind kind_is.Plug e = by_type 0x0004 e
    by_kind kind_is.PlugWrong e = by_type 0x000A e

one_listed : FollowsSo → (change : LowChange) (alarm : AlarmNotification) (from next : List Diagnosis) → IsReport change alarm → IsStep change from next → IsSeen change from next
    → after_report (report_as low_priority alarm) (listed from) ≡ listed next
one_listed law (change_is.Diagnosis made) alarm from next reports step seen =
    ap (λ (xs : List Diagnosis). after_report (report_as low_priority alarm) (listed xs)) step.from_is
    ∙ (law step.has made (report_as low_priority alarm) step.before step.after 0 reports step.channel step.error step.own step.is ∙ ap listed (sym step.next_is))
one_listed law (change_is.Module made) alarm from next reports step seen =
    let report = report_as low_priority alarm in
    ap (λ (found : Option ChannelReport). after_pull (pulled_by report) (after_found found (listed from))) (module_quiet report made.kind reports.type_is)
    ∙ (ap (λ (gone : Option Affected). after_pull gone (listed from)) (module_pulled made alarm reports) ∙ seen)

pub all_listed : FollowsSo → (Apart : Type 0) → Apart → (changes : List LowChange) (alarms : List AlarmNotification) (from last : List Diagnosis) → AreReports changes alarms
    → LeadsIf Apart changes from last → after_reports alarms (listed from) ≡ listed last
all_listed law Apart apart [] [] from last reports leads = ap listed leads
all_listed law Apart apart [] (alarm ∷ alarms) from last reports leads = absurd reports
all_listed law Apart apart (change ∷ changes) [] from last reports leads = absurd reports
all_listed law Apart apart (change ∷ changes) (alarm ∷ alarms) from last reports leads =
    ap (λ (r : Reported). after_reports alarms r) (one_listed law change alarm from leads.0 reports.0 leads.1.step (leads.1.seen apart))
    ∙ all_listed law Apart apart changes alarms leads.0 last reports.1 leads.2
