-- The number of octets that the rows take.
use Rattle.std.proofs.Common.{◌≤◌, ◌+◌, ◌*◌, length, arith}
use Rattle.connect_blocks.specs.declared.module_diff.ModuleDiffBlock.{ModuleDiffBlock}
use Rattle.connect_blocks.specs.ModuleDiff.{module_diff}

-- The clause of the format that bounds the size of a ModuleDiffBlock.
abbrev pub DiffsAreShort : Type 0
DiffsAreShort = (block : ModuleDiffBlock) → module_diff.size block ≤ 8 + length block.modules.modules * 10 + length block.modules.submodules * 8

pub rows_small : DiffsAreShort → (block : ModuleDiffBlock) → length block.modules.modules ≤ 64 → length block.modules.submodules ≤ 64 → module_diff.size block ≤ 1160
rows_small short block few_modules few_submodules = let most = short block in omega (arith, most, few_modules, few_submodules)
