-- The changes of diagnosis that an alarm of low priority reports (IEC 61158-6-10, 5.2.5).
use Rattle.std.specs.Prelude.{◌++◌, ℕ, Bool, true, List, map, if◌then◌else◌}
use Rattle.std.specs.List.{filter}
use Rattle.wire.specs.Formats.{big_bytes}
use Rattle.diagnosis.specs.Existing.{is_any_at, is_any_in}
use Rattle.diagnosis.specs.declared.diagnosis.Change.{Change}
use Rattle.diagnosis.specs.declared.diagnosis.Diagnosis.{Diagnosis}
use Rattle.diagnosis.specs.declared.notice.Notice.{Notice}

-- A change with what exists after it: at its submodule, and at the submodules of the relation.
abbrev pub notice_of : (ℕ → ℕ → Bool) → Change → List Diagnosis → Notice
notice_of has change after = record {
  change = change;
  is_any_at_submodule = is_any_at change.diagnosis.slot change.diagnosis.subslot after;
  is_any_in_relation = is_any_in has after;
}

-- AlarmType: 1 is Diagnosis appears, 0x000C Diagnosis disappears.
abbrev pub type_of : Change → ℕ
type_of change = if change.appears then 1 else 0x000C

-- ChannelProperties: Specifier (bits 11 and 12) is 1 for appears and 2 for disappears.
abbrev pub properties_of : Change → ℕ
properties_of change = if change.appears then 0x0800 else 0x1000

-- AlarmSpecifier: the sequence in bits 0 to 10, ChannelDiagnosis (11) and SubmoduleDiagnosisState (13) if a diagnosis exists at
-- the submodule, ARDiagnosisState (15) if one exists in the relation.
abbrev pub flag : Bool → ℕ → ℕ
flag is_set value = if is_set then value else 0

-- ChannelNumber, ChannelProperties and ChannelErrorType: what follows UserStructureIdentifier 0x8000.
abbrev pub channel_bytes : Change → List ℕ
channel_bytes change = big_bytes 2 change.diagnosis.channel ++ big_bytes 2 (properties_of change) ++ big_bytes 2 change.diagnosis.error

-- What is reported of a diagnosis that exists as data exchange begins: that it appears.
abbrev pub first_notice : Diagnosis → Notice
first_notice diagnosis = record {
  change = record { diagnosis = diagnosis; appears = true };
  is_any_at_submodule = true;
  is_any_in_relation = true;
}

-- What must be reported when data exchange begins: each diagnosis that exists at a submodule of the relation, as one that
-- appears, in order of appearing.
abbrev pub first_notices : (ℕ → ℕ → Bool) → List Diagnosis → List Notice
first_notices has diagnoses = map first_notice (filter (λ diagnosis. has diagnosis.slot diagnosis.subslot) diagnoses)
