-- What both ends of a network know of the places of a relation.
use Rattle.std.specs.Prelude.{◌≡◌, ◌==◌, ◌&&◌, ℕ, Bool, true, false, List, [], ◌∷◌, Option, Some, None, is_some}
use Rattle.std.specs.List.{AllByRecursion, list_any}
use Rattle.pn_values.specs.declared.real.RealModule.{RealModule}
use Rattle.pn_values.specs.declared.real.RealSubmodule.{RealSubmodule}
use Rattle.record_blocks.specs.declared.alarm_notification.AlarmNotification.{AlarmNotification}
use Rattle.module_diff.specs.Changes.{covers}
use Rattle.module_diff.specs.Diff.{is_listed}
use Rattle.diagnosis.specs.declared.reports.priority.Priority.TheVariants.{Low}
use Rattle.plan_places.specs.declared.place.PlaceState.{PlaceState}
use Rattle.plan_places.specs.declared.place.PlaceState.TheVariants.{There, Differs, Gone, Wrong, Plugged, Writing, Ending, Ready, Refused}
use Rattle.plan_places.specs.declared.report.PlaceReport.{PlaceReport}
use Rattle.plan_places.specs.declared.report.PlaceReport.TheVariants as reports
use Rattle.plan_places.specs.Places.{Told, state_at}
use Rattle.plan_places.specs.Reports.{place_report}
use Rattle.relations.specs.Plugging.{rows_now}
use Rattle.relations.specs.RelationState.{RelationState}
use Rattle.end_laws.specs.turns.Alarms.{report_as}

-- ---- a place

-- To a controller a place is not as the plan expects it: something was pulled there, the wrong submodule was plugged, or it differed
-- when the relation was made.
abbrev pub is_amiss : PlaceState → Bool
is_amiss There = false
is_amiss Differs = true
is_amiss Gone = true
is_amiss Wrong = true
is_amiss (Plugged number) = false
is_amiss (Writing number) = false
is_amiss (Ending number) = false
is_amiss (Ready number) = false
is_amiss Refused = false

-- ---- what was reported

-- The pull or the plug that an alarm reports is at this submodule, or takes its whole slot.
abbrev pub concerns : ℕ → ℕ → PlaceReport → Bool
concerns slot subslot (reports.Pulled affected) = covers affected slot subslot
concerns slot subslot (reports.PluggedWrong plug) = slot == plug.slot && subslot == plug.subslot
concerns slot subslot (reports.Plugged plug) = slot == plug.slot && subslot == plug.subslot

-- The same, if there is one.
abbrev pub concerns_any : ℕ → ℕ → Option PlaceReport → Bool
concerns_any slot subslot (Some report) = concerns slot subslot report
concerns_any slot subslot None = false

-- An alarm of low priority reports a pull or a plug there.
abbrev pub reports_at : ℕ → ℕ → AlarmNotification → Bool
reports_at slot subslot alarm = concerns_any slot subslot (place_report (report_as Low alarm))

-- One of these does.
abbrev pub is_reported : ℕ → ℕ → List AlarmNotification → Bool
is_reported slot subslot alarms = list_any (reports_at slot subslot) alarms

-- ---- the plan

-- A submodule of this module is in this slot and subslot.
abbrev pub has_submodule : ℕ → ℕ → RealModule → Bool
has_submodule slot subslot entry = entry.slot == slot && list_any (λ part. part.subslot == subslot) entry.submodules.items

-- One of these modules has a submodule there.
abbrev pub is_in_plan : List RealModule → ℕ → ℕ → Bool
is_in_plan modules slot subslot = list_any (has_submodule slot subslot) modules

-- A controller says what it knows of each submodule of these modules, and of no other.
abbrev pub AreThePlaces : List RealModule → Told → Type 0
AreThePlaces modules places = (slot subslot : ℕ) → is_some (state_at slot subslot places) ≡ is_in_plan modules slot subslot

-- ---- what is plugged

-- No two of these have the same number.
abbrev pub AreApart : {A : Type 0} → (A → ℕ) → List A → Type 0
AreApart number [] = Unit {0}
AreApart number (one ∷ others) = (list_any (λ other. number other == number one) others ≡ false) × AreApart number others

-- The submodules of a module are in different subslots.
abbrev pub HasPartsApart : RealModule → Type 0
HasPartsApart entry = AreApart (λ (part : RealSubmodule). part.subslot) entry.submodules.items

-- Each slot has at most one module, and each subslot of it at most one submodule.
abbrev pub ArePluggedApart : List RealModule → Type 0
ArePluggedApart modules = AreApart (λ (entry : RealModule). entry.slot) modules × AllByRecursion HasPartsApart modules

-- ---- the law

-- Of each of its places a controller says that it is not as the plan expects exactly where a row of the diff lists it: what the Connect
-- expects, compared with what is plugged now.
abbrev pub AreAgreed : List RealModule → RelationState → Told → Type 0
AreAgreed real link places = (slot subslot : ℕ) (state : PlaceState) → state_at slot subslot places ≡ Some state
    → is_amiss state ≡ is_listed slot subslot (rows_now real link)

-- Of each submodule of the plan of which no pull or plug was reported, a controller says that it is there, and no row of the diff lists it.
abbrev pub AreUntouched : List RealModule → List RealModule → RelationState → List AlarmNotification → Told → Type 0
AreUntouched modules real link reported places = (slot subslot : ℕ) → is_in_plan modules slot subslot ≡ true → is_reported slot subslot reported ≡ false
    → (state_at slot subslot places ≡ Some There) × (is_listed slot subslot (rows_now real link) ≡ false)
