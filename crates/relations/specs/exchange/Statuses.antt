-- The statuses that the application of a device gives to its inputs.
use Rattle.std.specs.Prelude.{◌==◌, ◌&&◌, ◌++◌, ℕ, Bool, not, nat_lt, List, [], ◌∷◌, length, map, Option, Some, None, is_some, if◌then◌else◌}
use Rattle.std.specs.List.{filter, list_any}
use Rattle.pn_values.specs.declared.real.RealModule.{RealModule}
use Rattle.module_diff.specs.declared.changes.Affected.{Affected}
use Rattle.module_diff.specs.Changes.{covers}
use Rattle.module_diff.specs.Plugged.{submodule_ident}
use Rattle.relations.specs.declared.exchange.statuses.InputStatus.{InputStatus}

-- Whether a status is that of this submodule.
abbrev pub is_for : ℕ → ℕ → InputStatus → Bool
is_for slot subslot status = status.slot == slot && status.subslot == subslot

-- Whether the inputs of a submodule are bad. They are good as long as no status was given.
abbrev pub is_bad : ℕ → ℕ → List InputStatus → Bool
is_bad slot subslot statuses = list_any (λ status. is_for slot subslot status && not status.is_good) statuses

-- The statuses with one more: in the place of the one that was given before for the same submodule, or after all others, if
-- there is room. There is room for 64, as many as submodules can be plugged.
abbrev pub replaced : InputStatus → List InputStatus → List InputStatus
replaced status statuses = map (λ other. if is_for status.slot status.subslot other then status else other) statuses

-- The statuses of inputs with one more, if there is room for 64.
abbrev pub statuses_with : InputStatus → List InputStatus → Option (List InputStatus)
statuses_with status statuses =
    if list_any (is_for status.slot status.subslot) statuses then Some (replaced status statuses)
    else if nat_lt (length statuses) 64 then Some (statuses ++ status ∷ [])
    else None

-- The statuses of inputs with one more, if a submodule is plugged there and there is room.
abbrev pub statuses_at : List RealModule → InputStatus → List InputStatus → Option (List InputStatus)
statuses_at real status statuses =
    if is_some (submodule_ident real status.slot status.subslot) then statuses_with status statuses else None

-- The statuses of inputs without those of submodules that were pulled.
abbrev pub remaining_statuses : Affected → List InputStatus → List InputStatus
remaining_statuses gone statuses = filter (λ status. not (covers gone status.slot status.subslot)) statuses
