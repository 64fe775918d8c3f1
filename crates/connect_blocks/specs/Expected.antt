-- ExpectedSubmoduleBlockReq (IEC 61158-6-10, 5.2.4.5): the modules and submodules that a controller expects. The
-- submodules of all modules are in one list, those of the first module first.
use Rattle.std.specs.Prelude.{◌≡◌, ◌≤◌, ◌%◌, ◌==◌, ◌||◌, ℕ, Bool, true, false, not, List, [], ◌∷◌, length, take, drop, sum_by, Option, Some, None, IfSome, refl}
use Rattle.std.specs.List.{list_any, AllByRecursion, IsDistinct}
use Rattle.wire.specs.Codec.{Codec}
use Rattle.wire.specs.Formats.{◌⨾◌, seen, then_by, when}
use Rattle.wire.specs.Checks.{checked}
use Rattle.wire.specs.declared.blocks.fault.BlockFault.{BlockFault}
use Rattle.wire.specs.declared.blocks.fault.BlockFault.TheVariants.{Field}
use Rattle.wire.specs.blocks.Fields.{two, four, ranged, fixed_one, fixed_four}
use Rattle.wire.specs.blocks.modules.Lists.{Listed, listed_modules, WritesAlike}
use Rattle.connect_blocks.specs.declared.expected.ExpectedModule.{ExpectedModule}
use Rattle.connect_blocks.specs.declared.submodule_data.SubmoduleData.{SubmoduleData}
use Rattle.connect_blocks.specs.declared.expected.ExpectedSubmodule.{ExpectedSubmodule}
use Rattle.connect_blocks.specs.declared.expected.ExpectedSubmoduleBlockReq.{ExpectedSubmoduleBlockReq}

-- ---- the data of a submodule in cyclic frames

-- A DataDescription, field 13, whose low two bits are `kind`.
unfoldable pub description_kind : ℕ → Codec BlockFault (Unit {0})
description_kind kind = seen (λ _. tt) (λ _. kind) (checked (λ n. n % 4 == kind) (Field 13) two)

-- DataDescription, SubmoduleDataLength, LengthIOCS 1 and LengthIOPS 1; the value is the length, which is at most `most`.
unfoldable pub description : ℕ → ℕ → Codec BlockFault ℕ
description kind most = seen (λ x. x.1.0) (λ size. (tt, (size, (tt, tt))))
    (description_kind kind ⨾ ranged 14 0 most ⨾ fixed_one 15 1 ⨾ fixed_one 16 1)

-- The description of no data, if `there` is true: an input of no octets.
unfoldable pub no_data : Bool → Codec BlockFault (Unit {0})
no_data there = seen (λ _. tt) (λ _. none there) (when there (description 1 0))
  where
    none : Bool → Option ℕ
    none true = Some 0
    none false = None

-- The description of an input or an output, if `there` is true.
unfoldable pub data_of : Bool → ℕ → Codec BlockFault (Option ℕ)
data_of there kind = when there (description kind 1440)

-- The low two bits of SubmoduleProperties.
abbrev pub properties_of : Option ℕ → Option ℕ → ℕ
properties_of None None = 0
properties_of (Some input) None = 1
properties_of None (Some output) = 2
properties_of (Some input) (Some output) = 3

-- SubmoduleProperties and the descriptions: of no data, or of an input, an output or both, the input first.
unfoldable pub submodule_data : Codec BlockFault SubmoduleData
submodule_data = seen
    (λ x. record { input = x.1.1.0; output = x.1.1.1 })
    (λ value. (properties_of value.input value.output, (tt, (value.input, value.output))))
    (then_by two (λ n. no_data (n % 4 == 0) ⨾ data_of (n % 4 == 1 || n % 4 == 3) 1 ⨾ data_of (n % 4 == 2 || n % 4 == 3) 2))

-- The number of octets that SubmoduleProperties and the descriptions take.
abbrev pub data_size : Option ℕ → Option ℕ → ℕ
data_size None None = 8
data_size (Some input) None = 8
data_size None (Some output) = 8
data_size (Some input) (Some output) = 14

-- ---- one entry

-- A SlotNumber, field 6, that none of the modules before it has; `new_subslot` is a SubslotNumber, field 10, in the same
-- way.
unfoldable pub new_slot : List ExpectedModule → Codec BlockFault ℕ
new_slot before = checked (λ number. not (list_any (λ entry. entry.slot_number == number) before)) (Field 6) two

-- A SubslotNumber that none of the submodules before it has.
unfoldable pub new_subslot : List ExpectedSubmodule → Codec BlockFault ℕ
new_subslot before = checked (λ number. not (list_any (λ entry. entry.subslot_number == number) before)) (Field 10) two

-- API 0, SlotNumber, ModuleIdentNumber, ModuleProperties and NumberOfSubmodules, after these modules.
unfoldable pub expected_module : List ExpectedModule → Codec BlockFault ExpectedModule
expected_module before = seen
    (λ x. record { slot_number = x.1.0; module_ident_number = x.1.1.0; module_properties = x.1.1.1.0; number_of_submodules = x.1.1.1.1 })
    (λ entry. (tt, (entry.slot_number, (entry.module_ident_number, (entry.module_properties, entry.number_of_submodules)))))
    (fixed_four 5 0 ⨾ new_slot before ⨾ four ⨾ two ⨾ two)

-- SubslotNumber, SubmoduleIdentNumber and the data of the submodule, after these submodules of its slot.
unfoldable pub expected_submodule : List ExpectedSubmodule → Codec BlockFault ExpectedSubmodule
expected_submodule before = seen
    (λ x. record { subslot_number = x.0; submodule_ident_number = x.1.0; io_data = x.1.1 })
    (λ entry. (entry.subslot_number, (entry.submodule_ident_number, entry.io_data)))
    (new_subslot before ⨾ four ⨾ submodule_data)

-- The number of submodules that follow a module.
abbrev pub own_of : ExpectedModule → ℕ
own_of entry = entry.number_of_submodules

-- The octets of modules and of submodules do not depend on the entries before them.
pub expected_module_alike : WritesAlike expected_module
unfolding expected_module new_slot
expected_module_alike = record { write = λ before entry rest. refl; size = λ before entry. refl }

-- Writing does not depend on the submodules before.
pub expected_submodule_alike : WritesAlike expected_submodule
unfolding expected_submodule new_subslot
expected_submodule_alike = record { write = λ before entry rest. refl; size = λ before entry. refl }

-- ---- the block

-- NumberOfAPIs, and each module with its submodules.
unfoldable pub expected_modules : Codec BlockFault (Listed ExpectedModule ExpectedSubmodule)
expected_modules = listed_modules expected_module own_of expected_submodule

-- The format of ExpectedSubmoduleBlockReq.
unfoldable pub expected : Codec BlockFault ExpectedSubmoduleBlockReq
expected = seen (λ x. record { modules = x }) (λ block. block.modules) expected_modules

-- ---- what is accepted

-- An input and an output have at most 1,440 octets.
abbrev pub IsShort : SubmoduleData → Type 0
IsShort value = IfSome value.input (λ octets. octets ≤ 1440) × IfSome value.output (λ octets. octets ≤ 1440)

-- No two submodules of a slot have the same SubslotNumber.
abbrev pub SubslotsDiffer : List ExpectedModule → List ExpectedSubmodule → Type 0
SubslotsDiffer [] submodules = Unit {0}
SubslotsDiffer (entry ∷ modules) submodules =
    IsDistinct (λ one other. one.subslot_number == other.subslot_number) (take (own_of entry) submodules) × SubslotsDiffer modules (drop (own_of entry) submodules)

-- The counts of the modules add up to the number of submodules, no two modules have the same SlotNumber, and no data is
-- too long.
pub record IsExpected (value : Listed ExpectedModule ExpectedSubmodule) : Type 0 where
  pub counted : sum_by own_of value.modules ≡ length value.submodules
  pub slots : IsDistinct (λ one other. one.slot_number == other.slot_number) value.modules
  pub subslots : SubslotsDiffer value.modules value.submodules
  pub short : AllByRecursion (λ entry. IsShort entry.io_data) value.submodules

-- The fields of an ExpectedSubmoduleBlockReq are accepted.
abbrev pub IsExpectedSubmoduleBlockReq : ExpectedSubmoduleBlockReq → Type 0
IsExpectedSubmoduleBlockReq block = IsExpected block.modules

-- The fields of a submodule fit if its data is not too long.
abbrev pub SubmoduleFits : ExpectedSubmodule → Type 0
SubmoduleFits entry = IsShort entry.io_data → (expected_submodule []).Fits entry
