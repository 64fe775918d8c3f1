-- What a device reports in a relation by alarms of low priority, and what it leads to: changes of diagnosis, pulls and plugs.
use Rattle.std.specs.Prelude.{◌≡◌, ◌⊎◌, ◌<◌, ◌++◌, ℕ, Bool, true, false, List, [], ◌∷◌, length, map, Some, None}
use Rattle.std.specs.List.{AllByRecursion, list_any}
use Rattle.module_diff.specs.declared.changes.Affected.{Affected}
use Rattle.module_diff.specs.Changes.{covers}
use Rattle.diagnosis.specs.Existing.{changed, exists, is_valid, remaining}
use Rattle.diagnosis.specs.Queue.{module_type, reach_of}
use Rattle.diagnosis.specs.declared.diagnosis.Change.{Change}
use Rattle.diagnosis.specs.declared.diagnosis.Diagnosis.{Diagnosis}
use Rattle.diagnosis.specs.declared.module_change.ModuleChange.{ModuleChange}
use Rattle.diagnosis.specs.declared.module_change.ModuleChangeKind.{ModuleChangeKind}
use Rattle.diagnosis.specs.declared.module_change.ModuleChangeKind.TheVariants as kind_is
use Rattle.diagnosis.specs.declared.queue.LowChange.{LowChange}
use Rattle.diagnosis.specs.declared.queue.LowChange.TheVariants as change_is
use Rattle.diagnosis.specs.declared.queue.QueuedAlarm.{QueuedAlarm}
use Rattle.diagnosis.specs.alarms.Alarms.{Low}
use Rattle.diagnosis.specs.alarms.Own.{is_own}
use Rattle.diagnosis.specs.declared.reports.priority.Priority.TheVariants.{Low as low_priority}
use Rattle.record_blocks.specs.declared.alarm_notification.AlarmNotification.{AlarmNotification}
use Rattle.diagnosis.specs.reported.Followed.{Reports, at_places}
use Rattle.diagnosis.specs.reported.Reported.{Reported}
use Rattle.device_frames.specs.declared.local.Local.TheVariants as local
use Rattle.network_world.specs.declared.moves.Move.{Move}
use Rattle.network_world.specs.declared.moves.Move.TheVariants as move
use Rattle.network_world.specs.World.{World}
use Rattle.end_laws.specs.turns.Alarms.{report_as}

-- ---- changes

-- A change of diagnosis, which a device accepts, leads from the first of these lists to the second: the diagnoses at some submodules,
-- of which the change is at one.
pub record IsDiagnosed (change : Change) (from next : List Diagnosis) : Type 0 where
  pub has : ℕ → ℕ → Bool
  pub before : List Diagnosis
  pub after : List Diagnosis
  pub own : has change.diagnosis.slot change.diagnosis.subslot ≡ true
  pub channel : change.diagnosis.channel < 65536
  pub error : change.diagnosis.error < 65536
  pub is : changed change before ≡ Some after
  pub from_is : from ≡ at_places has before
  pub next_is : next ≡ at_places has after

-- What a reported pull reaches: its subslot, or, if that is 0, its whole slot.
pub record IsReachOf (made : ModuleChange) (affected : Affected) : Type 0 where
  pub slot : affected.slot ≡ made.slot
  pub subslot : (affected.subslot ≡ Some made.subslot) ⊎ ((made.subslot ≡ 0) × (affected.subslot ≡ None))

-- A pull leads to the diagnoses elsewhere.
pub record IsPulled (made : ModuleChange) (from next : List Diagnosis) : Type 0 where
  pub affected : Affected
  pub reach : IsReachOf made affected
  pub gone : next ≡ remaining affected from

-- A pull or a plug, by its kind: a plug leaves the diagnoses as they are.
abbrev pub IsModuleStep : ModuleChangeKind → ModuleChange → List Diagnosis → List Diagnosis → Type 0
IsModuleStep kind_is.Pull made from next = IsPulled made from next
IsModuleStep kind_is.PullModule made from next = IsPulled made from next
IsModuleStep kind_is.Plug made from next = next ≡ from
IsModuleStep kind_is.PlugWrong made from next = next ≡ from

-- A change leads from the first of these lists of diagnoses to the second.
abbrev pub IsStep : LowChange → List Diagnosis → List Diagnosis → Type 0
IsStep (change_is.Diagnosis change) from next = IsDiagnosed change from next
IsStep (change_is.Module made) from next = IsModuleStep made.kind made from next

-- These changes, one after the other, lead from the first list to the second.
abbrev pub Leads : List LowChange → List Diagnosis → List Diagnosis → Type 0
Leads [] from last = from ≡ last
Leads (change ∷ changes) from last = (next : List Diagnosis) × IsStep change from next × Leads changes next last

-- The change that waits.
abbrev pub change_in : QueuedAlarm → LowChange
change_in alarm = alarm.change

-- An alarm reports a pull or a plug: its AlarmType and its place, in API 0, are those of the change, and it has no data.
pub record ReportsModule (made : ModuleChange) (alarm : AlarmNotification) : Type 0 where
  pub type_is : alarm.alarm_type ≡ module_type made
  pub api : alarm.api ≡ 0
  pub slot : alarm.slot_number ≡ made.slot
  pub subslot : alarm.subslot_number ≡ made.subslot
  pub octets : alarm.alarm_data ≡ []

-- An alarm of low priority reports this change.
abbrev pub IsReport : LowChange → AlarmNotification → Type 0
IsReport (change_is.Diagnosis change) alarm = Reports change (report_as low_priority alarm)
IsReport (change_is.Module made) alarm = ReportsModule made alarm

-- These alarms of low priority report these changes, one by one.
abbrev pub AreReports : List LowChange → List AlarmNotification → Type 0
AreReports [] [] = Unit {0}
AreReports (change ∷ changes) (alarm ∷ alarms) = IsReport change alarm × AreReports changes alarms
AreReports _ _ = ⊥

-- A pull or a plug reaches a submodule.
abbrev pub reaches_at : ℕ → ℕ → LowChange → Bool
reaches_at slot subslot (change_is.Diagnosis change) = false
reaches_at slot subslot (change_is.Module made) = covers (reach_of made) slot subslot

-- One of these changes does.
abbrev pub is_reached : List LowChange → ℕ → ℕ → Bool
is_reached changes slot subslot = list_any (reaches_at slot subslot) changes

-- A change of diagnosis is at one of these submodules, unless a later pull or plug reached that.
abbrev pub IsOwnChange : (ℕ → ℕ → Bool) → List LowChange → LowChange → Type 0
IsOwnChange has later (change_is.Diagnosis change) =
    is_reached later change.diagnosis.slot change.diagnosis.subslot ≡ false → has change.diagnosis.slot change.diagnosis.subslot ≡ true
IsOwnChange has later (change_is.Module made) = Unit {0}

-- Each of these changes, one after the other, is.
abbrev pub AreOwn : (ℕ → ℕ → Bool) → List LowChange → Type 0
AreOwn has [] = Unit {0}
AreOwn has (change ∷ changes) = IsOwnChange has changes change × AreOwn has changes

-- The alarms that reported these changes, and the changes that wait, lead from none to the diagnoses at the submodules of the
-- relation, and are changes at these.
pub record IsTold (low : Low) (diagnoses : List Diagnosis) (reported : List AlarmNotification) : Type 0 where
  pub changes : List LowChange
  pub reports : AreReports changes reported
  pub leads : Leads (changes ++ map change_in low.waiting) [] (at_places (is_own low.places) diagnoses)
  pub own : AreOwn (is_own low.places) (changes ++ map change_in low.waiting)

-- What a controller knows when all changes were reported: the diagnoses at the submodules of the relation.
abbrev pub known_at : Low → List Diagnosis → Reported
known_at low diagnoses = record { existing = at_places (is_own low.places) diagnoses; left_out = 0 }

-- ---- the diagnoses of a device

-- A device accepts one more after these.
pub record IsNew (before : List Diagnosis) (one : Diagnosis) : Type 0 where
  pub valid : is_valid one ≡ true
  pub new : exists one before ≡ false
  pub few : length before < 32
  pub error : one.error < 65536

-- It accepts each of these, one after the other, after the first ones.
abbrev pub AreNew : List Diagnosis → List Diagnosis → Type 0
AreNew before [] = Unit {0}
AreNew before (one ∷ diagnoses) = IsNew before one × AreNew (before ++ one ∷ []) diagnoses

-- The diagnoses of a device that began with none: each appeared after the ones before it.
abbrev pub AreKnown : List Diagnosis → Type 0
AreKnown diagnoses = AreNew [] diagnoses

-- ---- moves

-- ChannelErrorType has 16 bits, and the ident numbers of a submodule that is plugged, and of its module, have 32.
abbrev pub IsSizedMove : Move → Type 0
IsSizedMove (move.Application (local.Diagnosis slot subslot channel error appears)) = error < 65536
IsSizedMove (move.Application (local.Plug slot ident part)) = (ident < 4294967296) × (part.ident < 4294967296)
IsSizedMove _ = Unit {0}

-- Each of these moves has its sizes.
abbrev pub AreSizedMoves : {F : Type 0} → List (Move × World F) → Type 0
AreSizedMoves run = AllByRecursion (λ one. IsSizedMove one.0) run
