-- DiagnosisData: the record that tells what exists (IEC 61158-6-10, 5.2.6.1).
use Rattle.std.specs.Prelude.{◌+◌, ◌*◌, ◌++◌, ℕ, Bool, true, List, [], ◌∷◌, length, take, if◌then◌else◌}
use Rattle.std.specs.List.{filter}
use Rattle.wire.specs.Formats.{big_bytes}
use Rattle.pn_values.specs.declared.real.RealModule.{RealModule}
use Rattle.pn_values.specs.declared.real.RealSubmodule.{RealSubmodule}
use Rattle.diagnosis.specs.Existing.{is_at}
use Rattle.diagnosis.specs.Notices.{channel_bytes}
use Rattle.diagnosis.specs.declared.diagnosis.Diagnosis.{Diagnosis}

-- ChannelNumber, ChannelProperties and ChannelErrorType of each.
abbrev pub channels_bytes : List Diagnosis → List ℕ
channels_bytes [] = []
channels_bytes (diagnosis ∷ diagnoses) = channel_bytes (record { diagnosis = diagnosis; appears = true }) ++ channels_bytes diagnoses

-- The block of a submodule: type 0x0010, version 1.1, API, slot, subslot, ChannelNumber 0x8000, ChannelProperties 0x0800 and
-- UserStructureIdentifier 0x8000, and then its diagnoses.
abbrev pub head_bytes : ℕ → ℕ → ℕ → List ℕ
head_bytes slot subslot count = big_bytes 2 0x0010 ++ big_bytes 2 (16 + 6 * count) ++ 1 ∷ 1 ∷ [] ++ big_bytes 4 0 ++ big_bytes 2 slot
    ++ big_bytes 2 subslot ++ big_bytes 2 0x8000 ++ big_bytes 2 0x0800 ++ big_bytes 2 0x8000

-- DiagnosisData of one submodule (5.2.4.14), empty without a diagnosis.
abbrev pub block_bytes : ℕ → ℕ → List Diagnosis → List ℕ
block_bytes slot subslot [] = []
block_bytes slot subslot (diagnosis ∷ diagnoses) =
    head_bytes slot subslot (length (diagnosis ∷ diagnoses)) ++ channels_bytes (diagnosis ∷ diagnoses)

-- The blocks of the submodules of a slot, and of all slots, at the places that are asked for, each if it has a diagnosis.
abbrev pub submodule_bytes : (ℕ → ℕ → Bool) → List Diagnosis → ℕ → ℕ → List ℕ
submodule_bytes has diagnoses slot subslot =
    if has slot subslot then block_bytes slot subslot (filter (is_at slot subslot) diagnoses) else []

-- DiagnosisData of these submodules of a slot, in order.
abbrev pub slot_bytes : (ℕ → ℕ → Bool) → List Diagnosis → ℕ → List RealSubmodule → List ℕ
slot_bytes has diagnoses slot [] = []
slot_bytes has diagnoses slot (part ∷ parts) = submodule_bytes has diagnoses slot part.subslot ++ slot_bytes has diagnoses slot parts

-- DiagnosisData of these modules, in order.
abbrev pub modules_bytes : (ℕ → ℕ → Bool) → List Diagnosis → List RealModule → List ℕ
modules_bytes has diagnoses [] = []
modules_bytes has diagnoses (entry ∷ entries) =
    slot_bytes has diagnoses entry.slot entry.submodules.items ++ modules_bytes has diagnoses entries

-- The record, cut to the room of an answer.
abbrev pub room : ℕ
room = 1308

-- The record of diagnosis of the submodules that it asks for, cut at the room of a record.
abbrev pub record_bytes : (ℕ → ℕ → Bool) → List Diagnosis → List RealModule → List ℕ
record_bytes has diagnoses real = take room (modules_bytes has diagnoses real)
