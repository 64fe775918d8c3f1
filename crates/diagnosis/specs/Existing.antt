-- The diagnoses that exist at a device, and how they change (IEC 61158-6-10, 5.2.6).
use Rattle.std.specs.Prelude.{◌==◌, ◌&&◌, ◌++◌, ℕ, Bool, not, nat_le, nat_lt, List, [], ◌∷◌, length, Option, Some, None, if◌then◌else◌}
use Rattle.std.specs.List.{filter, list_any}
use Rattle.module_diff.specs.declared.changes.Affected.{Affected}
use Rattle.module_diff.specs.Changes.{covers}
use Rattle.diagnosis.specs.declared.diagnosis.Change.{Change}
use Rattle.diagnosis.specs.declared.diagnosis.Diagnosis.{Diagnosis}

-- Whether a diagnosis is one of this submodule.
abbrev pub is_at : ℕ → ℕ → Diagnosis → Bool
is_at slot subslot diagnosis = diagnosis.slot == slot && diagnosis.subslot == subslot

-- Whether two diagnoses are the same: of one submodule, one channel and one error.
abbrev pub is_same : Diagnosis → Diagnosis → Bool
is_same one other = is_at one.slot one.subslot other && (one.channel == other.channel && one.error == other.error)

-- Whether the numbers are in their ranges: a channel up to 0x7FFF, or 0x8000 for the submodule itself, and an error.
abbrev pub is_valid : Diagnosis → Bool
is_valid diagnosis = nat_le diagnosis.channel 0x8000 && not (diagnosis.error == 0)

-- Whether a diagnosis exists.
abbrev pub exists : Diagnosis → List Diagnosis → Bool
exists diagnosis diagnoses = list_any (is_same diagnosis) diagnoses

-- One more, after the others: if its numbers are in their ranges, it does not exist yet, and there are fewer than 32.
abbrev pub with_one : Diagnosis → List Diagnosis → Option (List Diagnosis)
with_one diagnosis diagnoses =
    if is_valid diagnosis && (not (exists diagnosis diagnoses) && nat_lt (length diagnoses) 32) then Some (diagnoses ++ diagnosis ∷ [])
    else None

-- The others without this one, if it exists.
abbrev pub others : Diagnosis → List Diagnosis → List Diagnosis
others diagnosis diagnoses = filter (λ other. not (is_same diagnosis other)) diagnoses

-- The diagnoses without this one, if it exists.
abbrev pub without : Diagnosis → List Diagnosis → Option (List Diagnosis)
without diagnosis diagnoses = if exists diagnosis diagnoses then Some (others diagnosis diagnoses) else None

-- What exists after a change. None if the change is refused.
abbrev pub changed : Change → List Diagnosis → Option (List Diagnosis)
changed change diagnoses = if change.appears then with_one change.diagnosis diagnoses else without change.diagnosis diagnoses

-- Whether one of a submodule exists; whether one exists at these places.
abbrev pub is_any_at : ℕ → ℕ → List Diagnosis → Bool
is_any_at slot subslot diagnoses = list_any (is_at slot subslot) diagnoses

-- Whether a diagnosis exists at one of these submodules.
abbrev pub is_any_in : (ℕ → ℕ → Bool) → List Diagnosis → Bool
is_any_in has diagnoses = list_any (λ diagnosis. has diagnosis.slot diagnosis.subslot) diagnoses

-- The diagnoses elsewhere, after what was pulled is gone: nothing is wrong at a submodule that is not plugged.
abbrev pub remaining : Affected → List Diagnosis → List Diagnosis
remaining gone diagnoses = filter (λ diagnosis. not (covers gone diagnosis.slot diagnosis.subslot)) diagnoses
