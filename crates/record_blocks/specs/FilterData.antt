-- I&M0FilterData (IEC 61158-6-10, 5.2.3.22): the modules and submodules of a device. The submodules of all modules are in
-- one list, those of the first module first.
use Rattle.std.specs.Prelude.{◌≡◌, ℕ, length, sum_by}
use Rattle.wire.specs.Codec.{Codec}
use Rattle.wire.specs.Formats.{◌⨾◌, seen}
use Rattle.wire.specs.declared.blocks.fault.BlockFault.{BlockFault}
use Rattle.wire.specs.blocks.Fields.{two, four, fixed}
use Rattle.wire.specs.blocks.modules.Lists.{Listed, listed_modules}
use Rattle.record_blocks.specs.declared.filter_data.FilterModule.{FilterModule}
use Rattle.record_blocks.specs.declared.filter_data.FilterSubmodule.{FilterSubmodule}
use Rattle.record_blocks.specs.declared.filter_data.ImFilterData.{ImFilterData}

-- ---- one entry

-- SlotNumber, ModuleIdentNumber and NumberOfSubmodules.
unfoldable pub filter_module : Codec BlockFault FilterModule
filter_module = seen
    (λ x. record { slot_number = x.0; module_ident_number = x.1.0; number_of_submodules = x.1.1 })
    (λ entry. (entry.slot_number, (entry.module_ident_number, entry.number_of_submodules)))
    (two ⨾ four ⨾ two)

-- SubslotNumber and SubmoduleIdentNumber.
unfoldable pub filter_submodule : Codec BlockFault FilterSubmodule
filter_submodule = seen
    (λ x. record { subslot_number = x.0; submodule_ident_number = x.1 })
    (λ entry. (entry.subslot_number, entry.submodule_ident_number))
    (two ⨾ four)

-- The number of submodules that follow a module.
abbrev pub own_of : FilterModule → ℕ
own_of entry = entry.number_of_submodules

-- ---- the block

-- NumberOfModules, and each module with its submodules.
unfoldable pub filter_modules : Codec BlockFault (Listed FilterModule FilterSubmodule)
filter_modules = listed_modules (λ _. filter_module) own_of (λ _. filter_submodule)

-- NumberOfAPIs 1, API and the modules.
unfoldable pub filter_data : Codec BlockFault ImFilterData
filter_data = seen (λ x. record { api = x.1.0; modules = x.1.1 }) (λ block. (tt, (block.api, block.modules)))
    (fixed 4 1 ⨾ four ⨾ filter_modules)

-- The counts of the modules add up to the number of submodules.
abbrev pub IsCounted : Listed FilterModule FilterSubmodule → Type 0
IsCounted value = sum_by own_of value.modules ≡ length value.submodules

-- The fields of an I&M0FilterData are accepted.
abbrev pub IsFilterData : ImFilterData → Type 0
IsFilterData block = IsCounted block.modules
