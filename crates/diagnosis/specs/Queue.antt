-- The alarms of low priority of a relation in one queue: changes of diagnosis, pulls and plugs (IEC 61158-6-10, 4.8 and 5.2.5).
use Rattle.std.specs.Prelude.{◌+◌, ◌-◌, ◌==◌, ◌&&◌, ◌++◌, ℕ, Bool, true, false, nat_lt, List, [], ◌∷◌, length, map, take, Option, Some, None}
use Rattle.std.specs.Prelude.{is_none, is_some, unwrap_or, if◌then◌else◌}
use Rattle.std.specs.List.{list_any}
use Rattle.pn_values.specs.declared.real.RealModule.{RealModule}
use Rattle.wire.specs.blocks.modules.Lists.{Listed}
use Rattle.record_blocks.specs.declared.alarm_notification.AlarmNotification.{AlarmNotification}
use Rattle.connect_blocks.specs.declared.module_diff.DiffModule.{DiffModule}
use Rattle.connect_blocks.specs.declared.module_diff.DiffSubmodule.{DiffSubmodule}
use Rattle.module_diff.specs.declared.expected.Expected.{Expected}
use Rattle.module_diff.specs.declared.changes.Affected.{Affected}
use Rattle.module_diff.specs.declared.changes.ChangeKind.{ChangeKind}
use Rattle.module_diff.specs.declared.changes.ChangeKind.TheVariants as made
use Rattle.module_diff.specs.declared.changes.RealChange.{RealChange}
use Rattle.module_diff.specs.Diff.{ident_or_zero, wanted_in}
use Rattle.module_diff.specs.Plugged.{module_ident, submodule_ident}
use Rattle.pn_alarms.specs.declared.pdu.Header.{Header}
use Rattle.pn_alarms.specs.Device.{end_with}
use Rattle.pn_alarms.specs.Format.{pdu_bytes}
use Rattle.diagnosis.specs.Existing.{is_any_at, is_any_in}
use Rattle.diagnosis.specs.Notices.{channel_bytes, first_notices, flag, notice_of, type_of}
use Rattle.diagnosis.specs.declared.diagnosis.Change.{Change}
use Rattle.diagnosis.specs.declared.diagnosis.Diagnosis.{Diagnosis}
use Rattle.diagnosis.specs.declared.module_change.ModuleChange.{ModuleChange}
use Rattle.diagnosis.specs.declared.module_change.ModuleChangeKind.{ModuleChangeKind}
use Rattle.diagnosis.specs.declared.module_change.ModuleChangeKind.TheVariants.{Pull, PullModule, Plug, PlugWrong}
use Rattle.diagnosis.specs.declared.queue.LowChange.{LowChange}
use Rattle.diagnosis.specs.declared.queue.LowChange.TheVariants as is
use Rattle.diagnosis.specs.declared.queue.QueuedAlarm.{QueuedAlarm}
use Rattle.diagnosis.specs.declared.notice.Notice.{Notice}
use Rattle.diagnosis.specs.reports.Report.{low_pdu}
use Rattle.diagnosis.specs.alarms.Own.{is_own, places_of}
use Rattle.diagnosis.specs.alarms.Alarms.{Low, noted}

-- ---- pulls and plugs

-- AlarmType: 0x0003 pull, 0x001F pull module, 0x0004 plug, 0x000A plug wrong submodule.
abbrev pub kind_type : ModuleChangeKind → ℕ
kind_type Pull = 0x0003
kind_type PullModule = 0x001F
kind_type Plug = 0x0004
kind_type PlugWrong = 0x000A

-- That of a change.
abbrev pub module_type : ModuleChange → ℕ
module_type made = kind_type made.kind

-- As what a change is reported: a pulled module by a type of its own if the controller asks for that (ARProperties bit 31), and a
-- plug after which the place differs as a wrong one.
abbrev pub kind_by : ChangeKind → Bool → Bool → ModuleChangeKind
kind_by made.Pull asks differs = Pull
kind_by made.PullModule asks differs = if asks then PullModule else Pull
kind_by made.Plug asks differs = if differs then PlugWrong else Plug

-- An accepted change as the alarm of a relation reports it.
abbrev pub alarmed : RealChange → Bool → Bool → ModuleChange
alarmed change asks differs = record { kind = kind_by change.kind asks differs; slot = change.slot; subslot = change.subslot }

-- SubslotNumber 0 is the whole slot.
abbrev pub reach_of : ModuleChange → Affected
reach_of made = record { slot = made.slot; subslot = if made.subslot == 0 then None else Some made.subslot }

-- Whether the expected submodule was plugged.
abbrev pub is_plug : ModuleChangeKind → Bool
is_plug Pull = false
is_plug PullModule = false
is_plug Plug = true
is_plug PlugWrong = false

-- Whether it was plugged in this slot and subslot.
abbrev pub is_plug_at : ℕ → ℕ → ModuleChange → Bool
is_plug_at slot subslot made = is_plug made.kind && (made.slot == slot && made.subslot == subslot)

-- ---- a change, as its alarm reports it

-- AlarmType.
abbrev pub change_type : LowChange → ℕ
change_type (is.Diagnosis diagnosis) = type_of diagnosis
change_type (is.Module made) = module_type made

-- SlotNumber.
abbrev pub slot_of : LowChange → ℕ
slot_of (is.Diagnosis diagnosis) = diagnosis.diagnosis.slot
slot_of (is.Module made) = made.slot

-- SubslotNumber, 0 for a whole module.
abbrev pub subslot_of : LowChange → ℕ
subslot_of (is.Diagnosis diagnosis) = diagnosis.diagnosis.subslot
subslot_of (is.Module made) = made.subslot

-- What follows UserStructureIdentifier 0x8000. A pull or a plug has neither.
abbrev pub change_bytes : LowChange → List ℕ
change_bytes (is.Diagnosis diagnosis) = channel_bytes diagnosis
change_bytes (is.Module made) = []

-- A change of diagnosis with the idents that are plugged at it, 0 for none.
abbrev pub diagnosis_queued : List RealModule → Notice → QueuedAlarm
diagnosis_queued real notice = record {
  change = is.Diagnosis notice.change;
  module_ident_number = ident_or_zero (module_ident real notice.change.diagnosis.slot);
  submodule_ident_number = ident_or_zero (submodule_ident real notice.change.diagnosis.slot notice.change.diagnosis.subslot);
  is_any_at_submodule = notice.is_any_at_submodule;
  is_any_in_relation = notice.is_any_in_relation;
}

-- A pull or a plug with the idents that it had, and with what exists after it.
abbrev pub module_queued : (ℕ → ℕ → Bool) → ModuleChange → RealChange → List Diagnosis → QueuedAlarm
module_queued has change made after = record {
  change = is.Module change;
  module_ident_number = made.module_ident_number;
  submodule_ident_number = made.submodule_ident_number;
  is_any_at_submodule = is_any_at change.slot change.subslot after;
  is_any_in_relation = is_any_in has after;
}

-- AlarmSpecifier (5.2.5.11): the sequence number, and whether a diagnosis exists at the submodule and in the relation.
abbrev pub queued_specifier : QueuedAlarm → ℕ → ℕ
queued_specifier alarm sequence = sequence + flag alarm.is_any_at_submodule 0x2800 + flag alarm.is_any_in_relation 0x8000

-- ---- the queue

-- One more, after the others, if there is room.
abbrev pub waiting_with : QueuedAlarm → List QueuedAlarm → Option (List QueuedAlarm)
waiting_with alarm alarms = if nat_lt (length alarms) 64 then Some (alarms ++ alarm ∷ []) else None

-- More changes of diagnosis, after the others, as far as there is room.
abbrev pub waiting_with_all : List RealModule → List Notice → List QueuedAlarm → List QueuedAlarm
waiting_with_all real notices alarms = alarms ++ take (64 - length alarms) (map (diagnosis_queued real) notices)

-- The first one.
abbrev pub first_of : List QueuedAlarm → Option QueuedAlarm
first_of [] = None
first_of (alarm ∷ alarms) = Some alarm

-- The others.
abbrev pub rest_of : List QueuedAlarm → List QueuedAlarm
rest_of [] = []
rest_of (alarm ∷ alarms) = alarms

-- Whether a change is a plug of the expected submodule at this place.
abbrev pub plugs_at : ℕ → ℕ → LowChange → Bool
plugs_at slot subslot (is.Diagnosis diagnosis) = false
plugs_at slot subslot (is.Module made) = is_plug_at slot subslot made

-- Whether one that waits is.
abbrev pub waits_for_plug : ℕ → ℕ → List QueuedAlarm → Bool
waits_for_plug slot subslot alarms = list_any (λ alarm. plugs_at slot subslot alarm.change) alarms

-- ---- an alarm becomes active

-- The alarm of a change under this sequence number: in API 0, with what the change left.
abbrev pub alarm_of : ℕ → QueuedAlarm → AlarmNotification
alarm_of sequence alarm = record {
  alarm_type = change_type alarm.change;
  api = 0;
  slot_number = slot_of alarm.change;
  subslot_number = subslot_of alarm.change;
  module_ident_number = alarm.module_ident_number;
  submodule_ident_number = alarm.submodule_ident_number;
  alarm_specifier = queued_specifier alarm sequence;
  alarm_data = change_bytes alarm.change;
}

-- This alarm, the first that waits, becomes active if none of low priority is. It no longer waits, and is what was sent last.
abbrev pub reported : Low → QueuedAlarm → Option Low
reported low alarm =
    if is_none low.alarms.sender.standing then Some (record low {
      alarms = end_with low.alarms (alarm_of low.alarms.sender.specifier alarm);
      waiting = rest_of low.waiting;
      sent = Some (record { change = alarm.change; number = low.alarms.sender.specifier });
    })
    else None

-- The same, if there is one.
abbrev pub first_reported : Low → Option QueuedAlarm → Option Low
first_reported low None = None
first_reported low (Some alarm) = reported low alarm

-- The state after the first that waits becomes active. None if it cannot now.
abbrev pub next_in : Low → Option Low
next_in low = first_reported low (first_of low.waiting)

-- The state after this: if it cannot, nothing changes.
abbrev pub after_next : Low → Low
after_next low = unwrap_or (next_in low) low

-- Whether an alarm becomes active, and must be sent.
abbrev pub is_next : Low → Bool
is_next low = is_some (next_in low)

-- ---- events

-- The modules changed: these rows list what differs, and these diagnoses exist.
abbrev pub restated : Expected → Listed DiffModule DiffSubmodule → List Diagnosis → Low → Low
restated expected rows diagnoses low =
    noted diagnoses (record low { places = places_of rows (wanted_in expected.modules.items expected.submodules.items) })

-- Data exchange begins: what exists waits after what waited already, as far as there is room.
abbrev pub begun : List RealModule → List Diagnosis → Low → Low
begun real diagnoses low = record low { waiting = waiting_with_all real (first_notices (is_own low.places) diagnoses) low.waiting }

-- A change waits.
abbrev pub queued : QueuedAlarm → Low → Low
queued alarm low = record low { waiting = unwrap_or (waiting_with alarm low.waiting) low.waiting }

-- Whether a change of diagnosis is reported by an alarm: data is exchanged, and its submodule belongs to the relation.
abbrev pub is_reported : Bool → Change → Low → Bool
is_reported has_begun made low = has_begun && is_own low.places made.diagnosis.slot made.diagnosis.subslot

-- Then it waits for its alarm, with the modules that are plugged and the diagnoses that exist after it.
abbrev pub waits_with : List RealModule → Change → List Diagnosis → Low → Low
waits_with real made diagnoses low = queued (diagnosis_queued real (notice_of (is_own low.places) made diagnoses)) (noted diagnoses low)

-- The state after a change of diagnosis, after which these diagnoses exist.
abbrev pub changed : List RealModule → Bool → Change → List Diagnosis → Low → Low
changed real has_begun made diagnoses low =
    if is_reported has_begun made low then after_next (waits_with real made diagnoses low) else noted diagnoses low

-- Whether an alarm becomes active with it, and must be sent.
abbrev pub is_sent : List RealModule → Bool → Change → List Diagnosis → Low → Bool
is_sent real has_begun made diagnoses low = is_reported has_begun made low && is_next (waits_with real made diagnoses low)

-- A pull or a plug at a place waits from the Connect on.
abbrev pub module_waits : ModuleChange → RealChange → List Diagnosis → Low → Low
module_waits change made diagnoses low = queued (module_queued (is_own low.places) change made diagnoses) low

-- Its alarm becomes active once data is exchanged, after those that wait already.
abbrev pub modules_changed : Bool → ModuleChange → RealChange → List Diagnosis → Low → Low
modules_changed has_begun change made diagnoses low =
    if has_begun then after_next (module_waits change made diagnoses low) else module_waits change made diagnoses low

-- Whether an alarm becomes active with it, and must be sent.
abbrev pub is_module_sent : Bool → ModuleChange → RealChange → List Diagnosis → Low → Bool
is_module_sent has_begun change made diagnoses low = has_begun && is_next (module_waits change made diagnoses low)

-- ---- octets

-- Those of the active alarm that follow the FrameID.
abbrev pub alarm_bytes : Header → Option AlarmNotification → List ℕ
alarm_bytes header None = []
alarm_bytes header (Some alarm) = pdu_bytes (low_pdu header alarm)
