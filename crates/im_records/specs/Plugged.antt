-- Record 0xF840: the submodules that have I&M records (IEC 61158-6-10, 5.2.3.22).
use Rattle.std.specs.Prelude.{◌==◌, ◌++◌, ℕ, List, [], ◌∷◌, length, Option, Some, None, if◌then◌else◌}
use Rattle.pn_values.specs.declared.real.Real.{Real}
use Rattle.pn_values.specs.declared.real.RealModule.{RealModule}
use Rattle.pn_values.specs.declared.real.RealSubmodule.{RealSubmodule}
use Rattle.wire.specs.blocks.modules.Lists.{Listed}
use Rattle.record_blocks.specs.declared.filter_data.FilterModule.{FilterModule}
use Rattle.record_blocks.specs.declared.filter_data.FilterSubmodule.{FilterSubmodule}
use Rattle.record_blocks.specs.declared.filter_data.ImFilterData.{ImFilterData}
use Rattle.block_codec.specs.declared.block.Block.TheVariants as is
use Rattle.block_codec.specs.Block.{block_bytes}

-- The entry of a submodule.
abbrev pub part_of : RealSubmodule → FilterSubmodule
part_of part = record { subslot_number = part.subslot; submodule_ident_number = part.ident }

-- The entries of submodules.
abbrev pub parts_in : List RealSubmodule → List FilterSubmodule
parts_in [] = []
parts_in (part ∷ parts) = part_of part ∷ parts_in parts

-- The entry of a module; a module without submodules has none.
abbrev pub entry_of : RealModule → List FilterModule
entry_of entry = if length entry.submodules.items == 0 then []
    else (record { slot_number = entry.slot; module_ident_number = entry.ident; number_of_submodules = length entry.submodules.items } ∷ [])

-- The entries of modules.
abbrev pub modules_in : List RealModule → List FilterModule
modules_in [] = []
modules_in (entry ∷ entries) = entry_of entry ++ modules_in entries

-- The entries of the submodules of all modules.
abbrev pub submodules_in : List RealModule → List FilterSubmodule
submodules_in [] = []
submodules_in (entry ∷ entries) = parts_in entry.submodules.items ++ submodules_in entries

-- The ident number of the submodule in this subslot.
abbrev pub ident_in : ℕ → List RealSubmodule → Option ℕ
ident_in subslot [] = None
ident_in subslot (part ∷ parts) = if part.subslot == subslot then Some part.ident else ident_in subslot parts

-- The ident number with `front` before it, or `other` if there is no ident number.
abbrev pub ident_or : ℕ → Option ℕ → Option (ℕ × ℕ) → Option (ℕ × ℕ)
ident_or front (Some ident) other = Some (front, ident)
ident_or front None other = other

-- The ident numbers of the module in slot 0 and of its submodule in subslot 1, which represents the device.
abbrev pub device_in : List RealModule → Option (ℕ × ℕ)
device_in [] = None
device_in (entry ∷ entries) = if entry.slot == 0 then ident_or entry.ident (ident_in 1 entry.submodules.items) (device_in entries) else device_in entries

-- The entries of the device alone.
abbrev pub device_entries : Option (ℕ × ℕ) → Listed FilterModule FilterSubmodule
device_entries (Some idents) = record {
  modules = record { slot_number = 0; module_ident_number = idents.0; number_of_submodules = 1 } ∷ [];
  submodules = record { subslot_number = 1; submodule_ident_number = idents.1 } ∷ [];
}
device_entries None = record { modules = []; submodules = [] }

-- I&M0FilterData of all submodules.
abbrev pub all_of : Real → ImFilterData
all_of real = record {
  api = 0;
  modules = record { modules = modules_in real.modules.items; submodules = submodules_in real.modules.items };
}

-- I&M0FilterData of the device.
abbrev pub device_of : Real → ImFilterData
device_of real = record { api = 0; modules = device_entries (device_in real.modules.items) }

-- The record: 0x0030 with all real submodules, followed by 0x0032 with the one that represents the device.
abbrev pub filter_record : Real → List ℕ
filter_record real = block_bytes (is.ImFilterDataSubmodule (all_of real)) ++ block_bytes (is.ImFilterDataDevice (device_of real))
