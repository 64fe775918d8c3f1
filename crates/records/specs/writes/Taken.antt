-- The parameter records that a relation has accepted.
use Rattle.std.specs.Prelude.{◌==◌, ◌&&◌, ◌++◌, ℕ, Bool, not, List, [], ◌∷◌, length, nat_lt, Result, Ok, Err, if◌then◌else◌}
use Rattle.std.specs.List.{filter}
use Rattle.records.specs.declared.status.call_fault.CallFault.{CallFault}
use Rattle.records.specs.declared.status.call_fault.CallFault.TheVariants as fault
use Rattle.records.specs.declared.writes.taken.TakenRecord.{TakenRecord}

-- The records with one more after them, if there are fewer than 64.
unfoldable pub keep_of : TakenRecord → List TakenRecord → Result (List TakenRecord) CallFault
keep_of taken records = if nat_lt (length records) 64 then Ok (records ++ taken ∷ []) else Err fault.TooManyRecords

-- A record of the submodule in this slot and subslot.
abbrev pub is_at : ℕ → ℕ → TakenRecord → Bool
is_at slot subslot taken = taken.slot == slot && taken.subslot == subslot

-- The records without those of a submodule.
abbrev pub forgotten_at : ℕ → ℕ → List TakenRecord → List TakenRecord
forgotten_at slot subslot records = filter (λ taken. not (is_at slot subslot taken)) records
