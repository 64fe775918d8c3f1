-- The modules of an I&M0FilterData, one after another.
use Rattle.std.proofs.Common.{ℕ, ◌+◌, ◌*◌, ◌≤◌, List, length, refl, subst, arith}
use Rattle.wire.specs.Codec.{IsSound}
use Rattle.wire.specs.Nested.{FitsNested}
use Rattle.wire.proofs.Joined.{then_by_sound, seen_sound}
use Rattle.wire.specs.blocks.Fields.{body}
use Rattle.wire.proofs.BlocksSound.{numeral_sound, fixed_sound}
use Rattle.wire.proofs.BlocksModulesTaken.{listed_sound, listed_counted}
use Rattle.wire.proofs.BlocksModulesWritten.{modules_few as few, modules_fit as fit}
use Rattle.wire.specs.blocks.modules.Lists.{Listed}
use Rattle.record_blocks.specs.declared.filter_data.FilterModule.{FilterModule}
use Rattle.record_blocks.specs.declared.filter_data.FilterSubmodule.{FilterSubmodule}
use Rattle.record_blocks.specs.declared.filter_data.ImFilterData.{ImFilterData}
use Rattle.record_blocks.specs.FilterData.{filter_module, filter_submodule, own_of, filter_modules, filter_data, IsCounted, IsFilterData}

-- ---- the law

filter_module_sound : IsSound filter_module
unfolding filter_module
filter_module_sound = seen_sound _ _ _ (λ _. refl) (then_by_sound _ _ (numeral_sound 2) (λ _. then_by_sound _ _ (numeral_sound 4) (λ _. numeral_sound 2)))

filter_submodule_sound : IsSound filter_submodule
unfolding filter_submodule
filter_submodule_sound = seen_sound _ _ _ (λ _. refl) (then_by_sound _ _ (numeral_sound 2) (λ _. numeral_sound 4))

filter_modules_sound : IsSound filter_modules
unfolding filter_modules
filter_modules_sound = listed_sound (λ _. filter_module) own_of (λ _. filter_submodule) (λ _. filter_module_sound) (λ _. filter_submodule_sound)

pub filter_data_sound : IsSound filter_data
unfolding filter_data
filter_data_sound = seen_sound _ _ _ (λ _. refl) (then_by_sound _ _ (fixed_sound 4 1) (λ _. then_by_sound _ _ (numeral_sound 4) (λ _. filter_modules_sound)))

-- ---- what is read

modules_counted : (bytes : List ℕ) (value : Listed FilterModule FilterSubmodule) (rest : List ℕ) → filter_modules.Spells bytes value rest → IsCounted value
unfolding filter_modules
modules_counted bytes value rest s = listed_counted (λ _. filter_module) own_of (λ _. filter_submodule) bytes value rest s

pub filter_data_accepted : (inside : List ℕ) (value : ImFilterData) → (body filter_data).Spells inside value → IsFilterData value
unfolding body filter_data
filter_data_accepted inside value s =
    let fields = s.2.2 in
    let all : IsFilterData s.0.1 = subst (λ (block : ImFilterData). IsFilterData block) fields.1 (modules_counted _ fields.0.1.1 _ fields.2.2.2) in
    subst (λ (block : ImFilterData). IsFilterData block) s.1 all

-- ---- what is written

-- 8 octets for each module, 6 for each submodule, and the count.
pub modules_few : (value : Listed FilterModule FilterSubmodule) → filter_modules.size value ≤ 2 + (length value.modules * 8 + length value.submodules * 6)
unfolding filter_modules filter_module filter_submodule
modules_few value = few (λ _. filter_module) own_of (λ _. filter_submodule) 8 6 (λ _ _. omega arith) (λ _ _. omega arith) value

-- Modules whose counts add up to the number of submodules, and whose fields fit, can be written.
pub modules_fit : (value : Listed FilterModule FilterSubmodule) → length value.modules ≤ 256 → length value.submodules ≤ 256 → IsCounted value
    → FitsNested filter_module.Fits own_of filter_submodule.Fits value.modules value.submodules → filter_modules.Fits value
unfolding filter_modules
modules_fit value few_modules few_submodules counted fits = fit filter_module own_of filter_submodule value few_modules few_submodules counted fits
