-- The rows of a ModuleDiffBlock.
use Rattle.std.specs.Prelude.{◌≡◌, ◌≤◌, List, length, sum_by}
use Rattle.connect_blocks.specs.declared.module_diff.DiffModule.{DiffModule}
use Rattle.connect_blocks.specs.declared.module_diff.DiffSubmodule.{DiffSubmodule}
use Rattle.connect_blocks.specs.ModuleDiff.{own_of}

-- The counts of the modules add up to the number of submodules, and each list has at most 64 entries.
pub record AreRows (modules : List DiffModule) (submodules : List DiffSubmodule) : Type 0 where
  pub counted : sum_by own_of modules ≡ length submodules
  pub few_modules : length modules ≤ 64
  pub few_submodules : length submodules ≤ 64
