-- RealIdentificationData of a relation: the modules and submodules that are plugged where its Connect expects some.
use Rattle.std.specs.Prelude.{◌==◌, ◌++◌, ℕ, Bool, List, [], ◌∷◌, length, Option, Some, None, if◌then◌else◌}
use Rattle.std.specs.List.{list_any}
use Rattle.pn_values.specs.declared.real.Real.{Real}
use Rattle.pn_values.specs.declared.real.RealModule.{RealModule}
use Rattle.pn_values.specs.declared.real.RealSubmodule.{RealSubmodule}
use Rattle.connect_blocks.specs.declared.expected.ExpectedSubmodule.{ExpectedSubmodule}
use Rattle.module_diff.specs.declared.expected.Expected.{Expected}
use Rattle.module_diff.specs.Diff.{Wanted, wanted_in}
use Rattle.record_blocks.specs.declared.filter_data.FilterModule.{FilterModule}
use Rattle.record_blocks.specs.declared.filter_data.FilterSubmodule.{FilterSubmodule}
use Rattle.record_blocks.specs.declared.filter_data.ImFilterData.{ImFilterData}
use Rattle.im_records.specs.Plugged.{part_of}
use Rattle.records.specs.reads.Listing.{entry_of, identification_bytes}

-- The submodules that are expected in a slot, if a module is.
abbrev pub own_in : ℕ → List Wanted → Option (List ExpectedSubmodule)
own_in slot [] = None
own_in slot (wanted ∷ wanteds) = if wanted.entry.slot_number == slot then Some wanted.submodules else own_in slot wanteds

-- Whether one of these is expected in this subslot.
abbrev pub expects : List ExpectedSubmodule → ℕ → Bool
expects own subslot = list_any (λ part. part.subslot_number == subslot) own

-- The entries of the submodules of a module that are expected.
abbrev pub parts_found : List ExpectedSubmodule → List RealSubmodule → List FilterSubmodule
parts_found own [] = []
parts_found own (part ∷ parts) = if expects own part.subslot then part_of part ∷ parts_found own parts else parts_found own parts

-- The entry of a module, if one is expected in its slot, and those of its submodules.
abbrev pub module_found : RealModule → Option (List ExpectedSubmodule) → List FilterModule
module_found entry (Some own) = entry_of entry (length (parts_found own entry.submodules.items)) ∷ []
module_found entry None = []

-- The submodules of a module that are plugged where the relation expects some.
abbrev pub own_found : RealModule → Option (List ExpectedSubmodule) → List FilterSubmodule
own_found entry (Some own) = parts_found own entry.submodules.items
own_found entry None = []

-- The entries of all modules, and of their submodules.
abbrev pub modules_found : List Wanted → List RealModule → List FilterModule
modules_found wanteds [] = []
modules_found wanteds (entry ∷ entries) = module_found entry (own_in entry.slot wanteds) ++ modules_found wanteds entries

-- Those of these modules.
abbrev pub submodules_found : List Wanted → List RealModule → List FilterSubmodule
submodules_found wanteds [] = []
submodules_found wanteds (entry ∷ entries) = own_found entry (own_in entry.slot wanteds) ++ submodules_found wanteds entries

-- What is plugged of what is expected, in API 0.
abbrev pub found_of : Expected → Real → ImFilterData
found_of expected real =
    let wanteds = wanted_in expected.modules.items expected.submodules.items in
    record { api = 0; modules = record { modules = modules_found wanteds real.modules.items; submodules = submodules_found wanteds real.modules.items } }

-- RealIdentificationData of it, of type 0x0013.
abbrev pub found_bytes : Expected → Real → List ℕ
found_bytes expected real = identification_bytes 0x0013 (found_of expected real)
