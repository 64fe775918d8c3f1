-- Modules that deviate from the plan's, and yet do what the plan asks of them (IEC 61158-6-10, 5.2.4.11).
use Rattle.std.specs.Prelude.{◌==◌, ◌&&◌, ◌||◌, ◌%◌, ◌/◌, Bool, nat_le}
use Rattle.std.specs.List.{list_all}
use Rattle.wire.specs.blocks.modules.Lists.{Listed}
use Rattle.connect_blocks.specs.declared.module_diff.DiffModule.{DiffModule}
use Rattle.connect_blocks.specs.declared.module_diff.DiffSubmodule.{DiffSubmodule}

-- ModuleState is 2, the proper module, or 3, a substitute.
abbrev pub is_usable_module : DiffModule → Bool
is_usable_module row = row.module_state == 2 || row.module_state == 3

-- SubmoduleState has FormatIndicator 1 (bit 15), IdentInfo (bits 11 to 14) 0, the proper submodule, or 1, a substitute,
-- and ARInfo (bits 7 to 10) 0: the relation owns it. Its other bits report a diagnosis or a request for maintenance.
abbrev pub is_usable_submodule : DiffSubmodule → Bool
is_usable_submodule row =
    row.submodule_state / 0x8000 == 1 && (nat_le (row.submodule_state / 0x800 % 16) 1 && row.submodule_state / 0x80 % 16 == 0)

-- All rows are of such modules and submodules.
abbrev pub is_usable : Listed DiffModule DiffSubmodule → Bool
is_usable rows = list_all is_usable_module rows.modules && list_all is_usable_submodule rows.submodules
