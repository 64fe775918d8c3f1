-- ModuleDiffBlock (IEC 61158-6-10, 5.2.4.11): the modules that are not as requested. The submodules of all modules are in
-- one list, those of the first module first.
use Rattle.std.specs.Prelude.{◌≡◌, ℕ, length, sum_by}
use Rattle.wire.specs.Codec.{Codec}
use Rattle.wire.specs.Formats.{◌⨾◌, seen}
use Rattle.wire.specs.declared.blocks.fault.BlockFault.{BlockFault}
use Rattle.wire.specs.blocks.Fields.{two, four, fixed}
use Rattle.wire.specs.blocks.modules.Lists.{Listed, listed_modules}
use Rattle.connect_blocks.specs.declared.module_diff.DiffModule.{DiffModule}
use Rattle.connect_blocks.specs.declared.module_diff.DiffSubmodule.{DiffSubmodule}
use Rattle.connect_blocks.specs.declared.module_diff.ModuleDiffBlock.{ModuleDiffBlock}

-- ---- one entry

-- SlotNumber, ModuleIdentNumber, ModuleState and NumberOfSubmodules.
unfoldable pub diff_module : Codec BlockFault DiffModule
diff_module = seen
    (λ x. record { slot_number = x.0; module_ident_number = x.1.0; module_state = x.1.1.0; number_of_submodules = x.1.1.1 })
    (λ entry. (entry.slot_number, (entry.module_ident_number, (entry.module_state, entry.number_of_submodules))))
    (two ⨾ four ⨾ two ⨾ two)

-- SubslotNumber, SubmoduleIdentNumber and SubmoduleState.
unfoldable pub diff_submodule : Codec BlockFault DiffSubmodule
diff_submodule = seen
    (λ x. record { subslot_number = x.0; submodule_ident_number = x.1.0; submodule_state = x.1.1 })
    (λ entry. (entry.subslot_number, (entry.submodule_ident_number, entry.submodule_state)))
    (two ⨾ four ⨾ two)

-- The number of submodules that follow a module.
abbrev pub own_of : DiffModule → ℕ
own_of entry = entry.number_of_submodules

-- ---- the block

-- NumberOfModules, and each module with its submodules.
unfoldable pub diff_modules : Codec BlockFault (Listed DiffModule DiffSubmodule)
diff_modules = listed_modules (λ _. diff_module) own_of (λ _. diff_submodule)

-- NumberOfAPIs 1, API and the modules.
unfoldable pub module_diff : Codec BlockFault ModuleDiffBlock
module_diff = seen (λ x. record { api = x.1.0; modules = x.1.1 }) (λ block. (tt, (block.api, block.modules)))
    (fixed 4 1 ⨾ four ⨾ diff_modules)

-- The counts of the modules add up to the number of submodules.
abbrev pub IsCounted : Listed DiffModule DiffSubmodule → Type 0
IsCounted value = sum_by own_of value.modules ≡ length value.submodules

-- The fields of a ModuleDiffBlock are accepted.
abbrev pub IsModuleDiff : ModuleDiffBlock → Type 0
IsModuleDiff block = IsCounted block.modules
