-- A device's diagnosis, and the list of a controller that follows its alarms (IEC 61158-6-10, 5.2.5 and 5.2.6).
use Rattle.std.specs.Prelude.{◌≡◌, ℕ, Bool, List, Some}
use Rattle.std.specs.List.{filter}
use Rattle.diagnosis.specs.Notices.{channel_bytes, type_of}
use Rattle.diagnosis.specs.declared.diagnosis.Change.{Change}
use Rattle.diagnosis.specs.declared.diagnosis.Diagnosis.{Diagnosis}
use Rattle.diagnosis.specs.declared.reports.report.Report.{Report}

-- An alarm reports a change: its AlarmType, its submodule, and its ChannelDiagnosis are those of the change.
pub record Reports (change : Change) (report : Report) : Type 0 where
  pub kind : report.notification.alarm_type ≡ type_of change
  pub slot : report.notification.slot_number ≡ change.diagnosis.slot
  pub subslot : report.notification.subslot_number ≡ change.diagnosis.subslot
  pub structure : report.user_structure ≡ Some 0x8000
  pub octets : report.notification.alarm_data ≡ channel_bytes change

-- The diagnoses of some submodules.
abbrev pub at_places : (ℕ → ℕ → Bool) → List Diagnosis → List Diagnosis
at_places has diagnoses = filter (λ diagnosis. has diagnosis.slot diagnosis.subslot) diagnoses
