-- The modules of an ExpectedSubmoduleBlockReq, one after another.
use Rattle.std.proofs.Common.{◌≡◌, ℕ, ◌+◌, ◌*◌, ◌≤◌, ◌%◌, ◌==◌, Bool, ◌||◌, List, length, Option, Some, None, refl, arith}
use Rattle.wire.specs.Codec.{IsSound}
use Rattle.wire.proofs.Joined.{then_by_sound, seen_sound, when_sound}
use Rattle.wire.proofs.Handled.{checked_sound}
use Rattle.wire.specs.declared.blocks.fault.BlockFault.TheVariants.{Field}
use Rattle.wire.specs.blocks.Fields.{two}
use Rattle.wire.proofs.BlocksSound.{numeral_sound, ranged_sound, fixed_one_sound, fixed_four_sound}
use Rattle.wire.specs.blocks.modules.Lists.{Listed}
use Rattle.wire.proofs.BlocksModulesTaken.{listed_sound}
use Rattle.wire.proofs.BlocksModulesWritten.{modules_few as few}
use Rattle.connect_blocks.specs.declared.submodule_data.SubmoduleData.{SubmoduleData}
use Rattle.connect_blocks.specs.declared.expected.ExpectedModule.{ExpectedModule}
use Rattle.connect_blocks.specs.declared.expected.ExpectedSubmodule.{ExpectedSubmodule}
use Rattle.connect_blocks.specs.Expected.{description_kind, description, no_data, data_of, submodule_data, data_size, new_slot, new_subslot, expected_module, expected_submodule, own_of, expected_modules, expected}

-- ---- the law

description_sound : (kind most : ℕ) → IsSound (description kind most)
unfolding description description_kind
description_sound kind most = seen_sound _ _ _ (λ _. refl) (then_by_sound _ _ (seen_sound _ (λ _. kind) _ (λ _. refl) (checked_sound (λ n. n % 4 == kind) (Field 13) two (numeral_sound 2)))
    (λ _. then_by_sound _ _ (ranged_sound 14 0 most) (λ _. then_by_sound _ _ (fixed_one_sound 15 1) (λ _. fixed_one_sound 16 1))))

no_data_sound : (there : Bool) → IsSound (no_data there)
unfolding no_data
no_data_sound there = seen_sound _ _ _ (λ _. refl) (when_sound (description 1 0) there (description_sound 1 0))

data_of_sound : (there : Bool) (kind : ℕ) → IsSound (data_of there kind)
unfolding data_of
data_of_sound there kind = when_sound (description kind 1440) there (description_sound kind 1440)

submodule_data_sound : IsSound submodule_data
unfolding submodule_data
submodule_data_sound = seen_sound _ _ _ (λ _. refl) (then_by_sound _ _ (numeral_sound 2) (λ n. then_by_sound _ _ (no_data_sound (n % 4 == 0))
    (λ _. then_by_sound _ _ (data_of_sound (n % 4 == 1 || n % 4 == 3) 1) (λ _. data_of_sound (n % 4 == 2 || n % 4 == 3) 2))))

new_slot_sound : (before : List ExpectedModule) → IsSound (new_slot before)
unfolding new_slot
new_slot_sound before = checked_sound _ (Field 6) two (numeral_sound 2)

new_subslot_sound : (before : List ExpectedSubmodule) → IsSound (new_subslot before)
unfolding new_subslot
new_subslot_sound before = checked_sound _ (Field 10) two (numeral_sound 2)

expected_module_sound : (before : List ExpectedModule) → IsSound (expected_module before)
unfolding expected_module
expected_module_sound before = seen_sound _ _ _ (λ _. refl) (then_by_sound _ _ (fixed_four_sound 5 0) (λ _. then_by_sound _ _ (new_slot_sound before)
    (λ _. then_by_sound _ _ (numeral_sound 4) (λ _. then_by_sound _ _ (numeral_sound 2) (λ _. numeral_sound 2)))))

expected_submodule_sound : (before : List ExpectedSubmodule) → IsSound (expected_submodule before)
unfolding expected_submodule
expected_submodule_sound before = seen_sound _ _ _ (λ _. refl) (then_by_sound _ _ (new_subslot_sound before) (λ _. then_by_sound _ _ (numeral_sound 4) (λ _. submodule_data_sound)))

expected_modules_sound : IsSound expected_modules
unfolding expected_modules
expected_modules_sound = listed_sound expected_module own_of expected_submodule expected_module_sound expected_submodule_sound

pub expected_sound : IsSound expected
unfolding expected
expected_sound = seen_sound _ _ _ (λ _. refl) expected_modules_sound

-- ---- what is written

-- The number of octets that SubmoduleProperties and the descriptions take.
pub data_sized : (value : SubmoduleData) → submodule_data.size value ≡ data_size value.input value.output
unfolding submodule_data no_data data_of description description_kind
data_sized value = by value.input value.output
  where
    by : (input output : Option ℕ) → submodule_data.size (record { input = input; output = output }) ≡ data_size input output
    by None None = refl
    by (Some i) None = refl
    by None (Some o) = refl
    by (Some i) (Some o) = refl

-- SubmoduleProperties and the descriptions take at most 14 octets.
data_few : (value : SubmoduleData) → data_size value.input value.output ≤ 14
data_few value = by value.input value.output
  where
    by : (input output : Option ℕ) → data_size input output ≤ 14
    by None None = omega arith
    by (Some i) None = omega arith
    by None (Some o) = omega arith
    by (Some i) (Some o) = omega arith

-- 14 octets for each module, at most 20 for each submodule, and the count.
pub modules_few : (value : Listed ExpectedModule ExpectedSubmodule) → expected_modules.size value ≤ 2 + (length value.modules * 14 + length value.submodules * 20)
unfolding expected_modules expected_module expected_submodule new_slot new_subslot
modules_few value =
    few expected_module own_of expected_submodule 14 20 (λ _ _. omega arith) (λ _ entry. omega (arith, data_sized entry.io_data, data_few entry.io_data)) value
