-- DiagnosisData as a reader finds it (IEC 61158-6-10, 5.2.6).
use Rattle.std.specs.Prelude.{◌≡◌, ◌+◌, ◌*◌, ◌<◌, ℕ, Bool, List, [], ◌∷◌, drop, length, if◌then◌else◌}
use Rattle.std.specs.List.{AllByRecursion, filter, flat_map}
use Rattle.pn_values.specs.declared.real.RealModule.{RealModule}
use Rattle.pn_values.specs.declared.real.RealSubmodule.{RealSubmodule}
use Rattle.diagnosis.specs.Existing.{is_at}
use Rattle.diagnosis.specs.declared.diagnosis.Diagnosis.{Diagnosis}
use Rattle.end_laws.specs.log_data.Reading.{number_at, octets_at}

-- The diagnoses of a submodule.
pub record Reported : Type 0 where
  pub slot : ℕ
  pub subslot : ℕ
  pub own : List Diagnosis

-- ChannelDiagnosisData of each: ChannelNumber, ChannelProperties 0x0800 (appears, any direction), ChannelErrorType.
abbrev pub AreChannels : List ℕ → List Diagnosis → Type 0
AreChannels octets [] = Unit {0}
AreChannels octets (diagnosis ∷ diagnoses) =
    (number_at 0 2 octets ≡ diagnosis.channel) × (number_at 2 2 octets ≡ 0x0800) × (number_at 4 2 octets ≡ diagnosis.error)
    × AreChannels (drop 6 octets) diagnoses

-- A block of version 1.1: BlockType 0x0010; BlockLength; API 0, slot and subslot; ChannelNumber 0x8000, ChannelProperties 0x0800 and
-- UserStructureIdentifier 0x8000, which say that ChannelDiagnosisData follow.
pub record IsBlock (octets : List ℕ) (reported : Reported) : Type 0 where
  pub kind : number_at 0 2 octets ≡ 0x0010
  pub size : number_at 2 2 octets ≡ 16 + 6 * length reported.own
  pub version : octets_at 4 2 octets ≡ 1 ∷ 1 ∷ []
  pub api : number_at 6 4 octets ≡ 0
  pub slot : number_at 10 2 octets ≡ reported.slot
  pub subslot : number_at 12 2 octets ≡ reported.subslot
  pub channel : number_at 14 2 octets ≡ 0x8000
  pub properties : number_at 16 2 octets ≡ 0x0800
  pub structure : number_at 18 2 octets ≡ 0x8000
  pub channels : AreChannels (drop 20 octets) reported.own

-- Blocks one after another, to the end: BlockLength counts the octets of a block after these four.
abbrev pub IsDiagnosisData : List ℕ → List Reported → Type 0
IsDiagnosisData octets [] = octets ≡ []
IsDiagnosisData octets (reported ∷ more) = IsBlock octets reported × IsDiagnosisData (drop (4 + number_at 2 2 octets) octets) more

-- A submodule, if it has a diagnosis, with its diagnoses.
abbrev pub reported_of : ℕ → ℕ → List Diagnosis → List Reported
reported_of slot subslot [] = []
reported_of slot subslot (diagnosis ∷ diagnoses) = record { slot = slot; subslot = subslot; own = diagnosis ∷ diagnoses } ∷ []

-- A submodule, if it is asked for.
abbrev pub reported_at : (ℕ → ℕ → Bool) → List Diagnosis → ℕ → RealSubmodule → List Reported
reported_at has diagnoses slot part = if has slot part.subslot then reported_of slot part.subslot (filter (is_at slot part.subslot) diagnoses) else []

-- Of all modules.
abbrev pub reported_in : (ℕ → ℕ → Bool) → List Diagnosis → List RealModule → List Reported
reported_in has diagnoses real = flat_map (λ entry. flat_map (reported_at has diagnoses entry.slot) entry.submodules.items) real

-- The numbers of a diagnosis have their sizes.
pub record IsDiagnosis (diagnosis : Diagnosis) : Type 0 where
  pub channel : diagnosis.channel < 65536
  pub error : diagnosis.error < 65536

-- The numbers of a module and of its submodules have their sizes.
pub record IsModule (entry : RealModule) : Type 0 where
  pub slot : entry.slot < 65536
  pub subslots : AllByRecursion (λ part. part.subslot < 65536) entry.submodules.items
