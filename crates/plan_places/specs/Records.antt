-- The records of a plan for a place.
use Rattle.std.specs.Prelude.{◌==◌, ◌&&◌, ◌+◌, ℕ, Bool, List, [], ◌∷◌, drop, Option, Some, None, if◌then◌else◌}
use Rattle.plans.specs.declared.parts.Parts.{Parts}
use Rattle.plans.specs.declared.parts.PlanRecord.{PlanRecord}

-- Whether a record is one of this submodule.
abbrev pub is_record_of : ℕ → ℕ → PlanRecord → Bool
is_record_of slot subslot entry = entry.slot == slot && entry.subslot == subslot

-- The number of the first of these records for a submodule, if the number of the first one of all is given.
abbrev pub first_record : ℕ → ℕ → ℕ → List PlanRecord → Option ℕ
first_record slot subslot number [] = None
first_record slot subslot number (entry ∷ entries) =
    if is_record_of slot subslot entry then Some number else first_record slot subslot (number + 1) entries

-- That of the records of a plan from a number on.
abbrev pub record_from : Parts → ℕ → ℕ → ℕ → Option ℕ
record_from plan slot subslot from = first_record slot subslot from (drop from plan.records.items)
