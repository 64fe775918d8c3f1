-- ExpectedIdentificationData: the modules and submodules that the Connect of a relation expects.
use Rattle.std.specs.Prelude.{◌&&◌, ◌++◌, ℕ, Bool, true, List, [], ◌∷◌, length, nat_lt, if◌then◌else◌}
use Rattle.connect_blocks.specs.declared.expected.ExpectedModule.{ExpectedModule}
use Rattle.connect_blocks.specs.declared.expected.ExpectedSubmodule.{ExpectedSubmodule}
use Rattle.module_diff.specs.declared.expected.Expected.{Expected}
use Rattle.module_diff.specs.Diff.{Wanted, wanted_in}
use Rattle.record_blocks.specs.declared.filter_data.FilterModule.{FilterModule}
use Rattle.record_blocks.specs.declared.filter_data.FilterSubmodule.{FilterSubmodule}
use Rattle.record_blocks.specs.declared.filter_data.ImFilterData.{ImFilterData}
use Rattle.records.specs.declared.reads.listing.Level.{Level}
use Rattle.records.specs.declared.reads.listing.Level.TheVariants.{Subslot, Slot, Relation, Device}
use Rattle.records.specs.reads.Listing.{covers_slot, covers_subslot, identification_bytes}

-- The entry of a submodule.
abbrev pub part_of : ExpectedSubmodule → FilterSubmodule
part_of part = record { subslot_number = part.subslot_number; submodule_ident_number = part.submodule_ident_number }

-- The entries of the submodules that are asked for.
abbrev pub parts_at : Level → ℕ → List ExpectedSubmodule → List FilterSubmodule
parts_at level subslot [] = []
parts_at level subslot (part ∷ parts) =
    if covers_subslot level subslot part.subslot_number then part_of part ∷ parts_at level subslot parts else parts_at level subslot parts

-- The entry of a module.
abbrev pub entry_of : ExpectedModule → ℕ → FilterModule
entry_of entry count =
    record { slot_number = entry.slot_number; module_ident_number = entry.module_ident_number; number_of_submodules = count }

-- Whether a module with this many of the submodules that are asked for is listed: if one submodule is asked for, only if it
-- is expected.
abbrev pub is_listed : Level → ℕ → Bool
is_listed Subslot count = nat_lt 0 count
is_listed Slot count = true
is_listed Relation count = true
is_listed Device count = true

-- The entries of the modules that are asked for.
abbrev pub modules_at : Level → ℕ → ℕ → List Wanted → List FilterModule
modules_at level slot subslot [] = []
modules_at level slot subslot (wanted ∷ wanteds) =
    if covers_slot level slot wanted.entry.slot_number && is_listed level (length (parts_at level subslot wanted.submodules))
    then entry_of wanted.entry (length (parts_at level subslot wanted.submodules)) ∷ modules_at level slot subslot wanteds
    else modules_at level slot subslot wanteds

-- The entries of their submodules.
abbrev pub submodules_at : Level → ℕ → ℕ → List Wanted → List FilterSubmodule
submodules_at level slot subslot [] = []
submodules_at level slot subslot (wanted ∷ wanteds) =
    if covers_slot level slot wanted.entry.slot_number
    then parts_at level subslot wanted.submodules ++ submodules_at level slot subslot wanteds
    else submodules_at level slot subslot wanteds

-- What is expected, of what is asked for, in API 0.
abbrev pub expected_at : Expected → Level → ℕ → ℕ → ImFilterData
expected_at expected level slot subslot =
    let wanteds = wanted_in expected.modules.items expected.submodules.items in
    record { api = 0; modules = record { modules = modules_at level slot subslot wanteds; submodules = submodules_at level slot subslot wanteds } }

-- ExpectedIdentificationData of what is asked for, of type 0x0012.
abbrev pub expected_bytes : Expected → Level → ℕ → ℕ → List ℕ
expected_bytes expected level slot subslot = identification_bytes 0x0012 (expected_at expected level slot subslot)
