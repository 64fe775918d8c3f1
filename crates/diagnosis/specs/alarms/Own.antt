-- The submodules of a relation.
use Rattle.std.specs.Prelude.{◌==◌, ◌&&◌, ◌++◌, ℕ, Bool, not, List, [], ◌∷◌, map}
use Rattle.std.specs.List.{filter, list_any}
use Rattle.wire.specs.blocks.modules.Lists.{Listed}
use Rattle.connect_blocks.specs.declared.expected.ExpectedSubmodule.{ExpectedSubmodule}
use Rattle.connect_blocks.specs.declared.module_diff.DiffModule.{DiffModule}
use Rattle.connect_blocks.specs.declared.module_diff.DiffSubmodule.{DiffSubmodule}
use Rattle.module_diff.specs.Diff.{Wanted, is_listed}
use Rattle.diagnosis.specs.declared.alarms.own.Place.{Place}

-- Whether a submodule is one of these.
abbrev pub is_own : List Place → ℕ → ℕ → Bool
is_own places slot subslot = list_any (λ place. place.slot == slot && place.subslot == subslot) places

-- Those that are expected in a slot and not listed.
abbrev pub places_in : Listed DiffModule DiffSubmodule → ℕ → List ExpectedSubmodule → List Place
places_in rows slot parts =
    map (λ part. record { slot = slot; subslot = part.subslot_number }) (filter (λ part. not (is_listed slot part.subslot_number rows)) parts)

-- And in all slots.
abbrev pub places_of : Listed DiffModule DiffSubmodule → List Wanted → List Place
places_of rows [] = []
places_of rows (wanted ∷ wanteds) = places_in rows wanted.entry.slot_number wanted.submodules ++ places_of rows wanteds
