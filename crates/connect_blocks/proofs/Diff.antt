-- The modules of a ModuleDiffBlock, one after another.
use Rattle.std.proofs.Common.{ℕ, ◌+◌, ◌*◌, ◌≤◌, List, length, refl, subst, arith}
use Rattle.wire.specs.Codec.{IsSound}
use Rattle.wire.specs.Nested.{FitsNested}
use Rattle.wire.proofs.Joined.{then_by_sound, seen_sound}
use Rattle.wire.specs.blocks.Fields.{body}
use Rattle.wire.proofs.BlocksSound.{numeral_sound, fixed_sound}
use Rattle.wire.proofs.BlocksModulesTaken.{listed_sound, listed_counted}
use Rattle.wire.proofs.BlocksModulesWritten.{modules_few as few, modules_fit as fit}
use Rattle.wire.specs.blocks.modules.Lists.{Listed}
use Rattle.connect_blocks.specs.declared.module_diff.DiffModule.{DiffModule}
use Rattle.connect_blocks.specs.declared.module_diff.DiffSubmodule.{DiffSubmodule}
use Rattle.connect_blocks.specs.declared.module_diff.ModuleDiffBlock.{ModuleDiffBlock}
use Rattle.connect_blocks.specs.ModuleDiff.{diff_module, diff_submodule, own_of, diff_modules, module_diff, IsCounted, IsModuleDiff}

-- ---- the law

diff_module_sound : IsSound diff_module
unfolding diff_module
diff_module_sound = seen_sound _ _ _ (λ _. refl) (then_by_sound _ _ (numeral_sound 2) (λ _. then_by_sound _ _ (numeral_sound 4) (λ _. then_by_sound _ _ (numeral_sound 2) (λ _. numeral_sound 2))))

diff_submodule_sound : IsSound diff_submodule
unfolding diff_submodule
diff_submodule_sound = seen_sound _ _ _ (λ _. refl) (then_by_sound _ _ (numeral_sound 2) (λ _. then_by_sound _ _ (numeral_sound 4) (λ _. numeral_sound 2)))

diff_modules_sound : IsSound diff_modules
unfolding diff_modules
diff_modules_sound = listed_sound (λ _. diff_module) own_of (λ _. diff_submodule) (λ _. diff_module_sound) (λ _. diff_submodule_sound)

pub module_diff_sound : IsSound module_diff
unfolding module_diff
module_diff_sound = seen_sound _ _ _ (λ _. refl) (then_by_sound _ _ (fixed_sound 4 1) (λ _. then_by_sound _ _ (numeral_sound 4) (λ _. diff_modules_sound)))

-- ---- what is read

modules_counted : (bytes : List ℕ) (value : Listed DiffModule DiffSubmodule) (rest : List ℕ) → diff_modules.Spells bytes value rest → IsCounted value
unfolding diff_modules
modules_counted bytes value rest s = listed_counted (λ _. diff_module) own_of (λ _. diff_submodule) bytes value rest s

pub module_diff_accepted : (inside : List ℕ) (value : ModuleDiffBlock) → (body module_diff).Spells inside value → IsModuleDiff value
unfolding body module_diff
module_diff_accepted inside value s =
    let fields = s.2.2 in
    let all : IsModuleDiff s.0.1 = subst (λ (block : ModuleDiffBlock). IsModuleDiff block) fields.1 (modules_counted _ fields.0.1.1 _ fields.2.2.2) in
    subst (λ (block : ModuleDiffBlock). IsModuleDiff block) s.1 all

-- ---- what is written

-- 10 octets for each module, 8 for each submodule, and the count.
pub modules_few : (value : Listed DiffModule DiffSubmodule) → diff_modules.size value ≤ 2 + (length value.modules * 10 + length value.submodules * 8)
unfolding diff_modules diff_module diff_submodule
modules_few value = few (λ _. diff_module) own_of (λ _. diff_submodule) 10 8 (λ _ _. omega arith) (λ _ _. omega arith) value

pub diff_short : (block : ModuleDiffBlock) → module_diff.size block ≤ 8 + length block.modules.modules * 10 + length block.modules.submodules * 8
unfolding module_diff
diff_short block = let most = modules_few block.modules in omega arith

-- Modules whose counts add up to the number of submodules, and whose fields fit, can be written.
pub modules_fit : (value : Listed DiffModule DiffSubmodule) → length value.modules ≤ 256 → length value.submodules ≤ 256 → IsCounted value
    → FitsNested diff_module.Fits own_of diff_submodule.Fits value.modules value.submodules → diff_modules.Fits value
unfolding diff_modules
modules_fit value few_modules few_submodules counted fits = fit diff_module own_of diff_submodule value few_modules few_submodules counted fits
