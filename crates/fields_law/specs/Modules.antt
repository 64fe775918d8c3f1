-- Lists of modules, each followed by its submodules, as a reader finds them (IEC 61158-6-10, 5.2.3 and 5.2.4.11).
use Rattle.std.specs.Prelude.{◌≡◌, ◌+◌, ◌*◌, ◌^◌, ◌==◌, ◌<◌, ◌≤◌, ℕ, List, [], ◌∷◌, drop, length, take, Option, Some, None, if◌then◌else◌}
use Rattle.std.specs.List.{AllByRecursion}
use Rattle.pn_values.specs.declared.real.RealModule.{RealModule}
use Rattle.pn_values.specs.declared.real.RealSubmodule.{RealSubmodule}
use Rattle.connect_blocks.specs.declared.module_diff.DiffModule.{DiffModule}
use Rattle.connect_blocks.specs.declared.module_diff.DiffSubmodule.{DiffSubmodule}
use Rattle.record_blocks.specs.declared.filter_data.FilterModule.{FilterModule}
use Rattle.record_blocks.specs.declared.filter_data.FilterSubmodule.{FilterSubmodule}
use Rattle.wire.specs.blocks.modules.Lists.{Listed}
use Rattle.end_laws.specs.log_data.Reading.{number_at, octets_at}

-- ---- ModuleDiffBlock (5.2.4.11)

-- Submodules one after another: SubslotNumber, SubmoduleIdentNumber, SubmoduleState.
abbrev pub AreDiffSubmodules : List ℕ → List DiffSubmodule → Type 0
AreDiffSubmodules octets [] = Unit {0}
AreDiffSubmodules octets (part ∷ parts) =
    (number_at 0 2 octets ≡ part.subslot_number) × (number_at 2 4 octets ≡ part.submodule_ident_number) × (number_at 6 2 octets ≡ part.submodule_state)
    × AreDiffSubmodules (drop 8 octets) parts

-- Modules one after another, to the end: SlotNumber, ModuleIdentNumber, ModuleState, NumberOfSubmodules, and that many of the submodules.
abbrev pub AreDiffModules : List ℕ → List DiffModule → List DiffSubmodule → Type 0
AreDiffModules octets [] parts = (octets ≡ []) × (parts ≡ [])
AreDiffModules octets (entry ∷ entries) parts =
    (number_at 0 2 octets ≡ entry.slot_number) × (number_at 2 4 octets ≡ entry.module_ident_number) × (number_at 6 2 octets ≡ entry.module_state)
    × (number_at 8 2 octets ≡ entry.number_of_submodules) × AreDiffSubmodules (drop 10 octets) (take entry.number_of_submodules parts)
    × AreDiffModules (drop (10 + 8 * entry.number_of_submodules) octets) entries (drop entry.number_of_submodules parts)

-- BlockType 0x8104: NumberOfAPIs 1, API 0, NumberOfModules; and the modules.
pub record IsModuleDiff (octets : List ℕ) (rows : Listed DiffModule DiffSubmodule) : Type 0 where
  pub kind : number_at 0 2 octets ≡ 0x8104
  pub size : number_at 2 2 octets + 4 ≡ length octets
  pub version : octets_at 4 2 octets ≡ 1 ∷ 0 ∷ []
  pub apis : number_at 6 2 octets ≡ 1
  pub api : number_at 8 4 octets ≡ 0
  pub count : number_at 12 2 octets ≡ length rows.modules
  pub modules : AreDiffModules (drop 14 octets) rows.modules rows.submodules

-- The numbers of a module and of a submodule have their sizes.
pub record IsSizedDiffModule (entry : DiffModule) : Type 0 where
  pub slot : entry.slot_number < 65536
  pub ident : entry.module_ident_number < 256 ^ 4
  pub state : entry.module_state < 65536
  pub count : entry.number_of_submodules < 65536

-- Those of a submodule.
pub record IsSizedDiffSubmodule (part : DiffSubmodule) : Type 0 where
  pub subslot : part.subslot_number < 65536
  pub ident : part.submodule_ident_number < 256 ^ 4
  pub state : part.submodule_state < 65536

-- How many submodules the modules count.
abbrev pub diff_count : List DiffModule → ℕ
diff_count [] = 0
diff_count (entry ∷ entries) = entry.number_of_submodules + diff_count entries

-- At most 256 of each, and the modules count all submodules.
pub record IsSizedDiff (rows : Listed DiffModule DiffSubmodule) : Type 0 where
  pub modules : AllByRecursion IsSizedDiffModule rows.modules
  pub few_modules : length rows.modules ≤ 256
  pub submodules : AllByRecursion IsSizedDiffSubmodule rows.submodules
  pub few_submodules : length rows.submodules ≤ 256
  pub counted : diff_count rows.modules ≡ length rows.submodules

-- The module in a slot, and the submodule in a subslot of a module, if one is plugged there.
abbrev pub module_at : ℕ → List RealModule → Option RealModule
module_at slot [] = None
module_at slot (entry ∷ entries) = if entry.slot == slot then Some entry else module_at slot entries

-- The submodule in a subslot.
abbrev pub submodule_at : ℕ → List RealSubmodule → Option RealSubmodule
submodule_at subslot [] = None
submodule_at subslot (part ∷ parts) = if part.subslot == subslot then Some part else submodule_at subslot parts

-- The submodules of a module, none without a module.
abbrev pub parts_of : Option RealModule → List RealSubmodule
parts_of None = []
parts_of (Some entry) = entry.submodules.items

-- What a row says of a module: the ident number that is plugged, 0 if none is; and ModuleState: 0 (no module), 2 (proper module) if it is the expected
-- one, else 1 (wrong module).
abbrev pub SaysModule : Option RealModule → ℕ → DiffModule → Type 0
SaysModule None expected row = (row.module_ident_number ≡ 0) × (row.module_state ≡ 0)
SaysModule (Some entry) expected row = (row.module_ident_number ≡ entry.ident) × (row.module_state ≡ (if entry.ident == expected then 2 else 1))

-- What a row says of a submodule: the ident number that is plugged, 0 if none is; and SubmoduleState: FormatIndicator (bit 15) 1, and IdentInfo (bits 11
-- to 14) 3 (no submodule), or 2 (wrong submodule).
abbrev pub SaysSubmodule : Option RealSubmodule → DiffSubmodule → Type 0
SaysSubmodule None row = (row.submodule_ident_number ≡ 0) × (row.submodule_state ≡ 2 ^ 15 + 3 * 2 ^ 11)
SaysSubmodule (Some part) row = (row.submodule_ident_number ≡ part.ident) × (row.submodule_state ≡ 2 ^ 15 + 2 * 2 ^ 11)

-- ---- I&M0FilterData, ExpectedIdentificationData and RealIdentificationData (5.2.3)

-- Submodules one after another: SubslotNumber, SubmoduleIdentNumber.
abbrev pub AreListedSubmodules : List ℕ → List FilterSubmodule → Type 0
AreListedSubmodules octets [] = Unit {0}
AreListedSubmodules octets (part ∷ parts) =
    (number_at 0 2 octets ≡ part.subslot_number) × (number_at 2 4 octets ≡ part.submodule_ident_number) × AreListedSubmodules (drop 6 octets) parts

-- Modules one after another, to the end: SlotNumber, ModuleIdentNumber, NumberOfSubmodules, and that many of the submodules.
abbrev pub AreListedModules : List ℕ → List FilterModule → List FilterSubmodule → Type 0
AreListedModules octets [] parts = (octets ≡ []) × (parts ≡ [])
AreListedModules octets (entry ∷ entries) parts =
    (number_at 0 2 octets ≡ entry.slot_number) × (number_at 2 4 octets ≡ entry.module_ident_number)
    × (number_at 6 2 octets ≡ entry.number_of_submodules) × AreListedSubmodules (drop 8 octets) (take entry.number_of_submodules parts)
    × AreListedModules (drop (8 + 6 * entry.number_of_submodules) octets) entries (drop entry.number_of_submodules parts)

-- A block of this type and of the version 1.`low`: NumberOfAPIs 1, API 0, NumberOfModules; and the modules.
pub record IsListing (octets : List ℕ) (type_of low : ℕ) (rows : Listed FilterModule FilterSubmodule) : Type 0 where
  pub kind : number_at 0 2 octets ≡ type_of
  pub size : number_at 2 2 octets + 4 ≡ length octets
  pub version : octets_at 4 2 octets ≡ 1 ∷ low ∷ []
  pub apis : number_at 6 2 octets ≡ 1
  pub api : number_at 8 4 octets ≡ 0
  pub count : number_at 12 2 octets ≡ length rows.modules
  pub modules : AreListedModules (drop 14 octets) rows.modules rows.submodules

-- The numbers of a module and of a submodule have their sizes.
pub record IsSizedListed (entry : FilterModule) : Type 0 where
  pub slot : entry.slot_number < 65536
  pub ident : entry.module_ident_number < 256 ^ 4
  pub count : entry.number_of_submodules < 65536

-- Those of a submodule.
pub record IsSizedListedPart (part : FilterSubmodule) : Type 0 where
  pub subslot : part.subslot_number < 65536
  pub ident : part.submodule_ident_number < 256 ^ 4

-- How many submodules the modules count.
abbrev pub listed_count : List FilterModule → ℕ
listed_count [] = 0
listed_count (entry ∷ entries) = entry.number_of_submodules + listed_count entries

-- At most 256 of each, and the modules count all submodules.
pub record IsSizedListing (rows : Listed FilterModule FilterSubmodule) : Type 0 where
  pub modules : AllByRecursion IsSizedListed rows.modules
  pub few_modules : length rows.modules ≤ 256
  pub submodules : AllByRecursion IsSizedListedPart rows.submodules
  pub few_submodules : length rows.submodules ≤ 256
  pub counted : listed_count rows.modules ≡ length rows.submodules

-- ---- what is plugged

-- The submodules of a module one after another: SubslotNumber, SubmoduleIdentNumber.
abbrev pub ArePluggedParts : List ℕ → List RealSubmodule → Type 0
ArePluggedParts octets [] = Unit {0}
ArePluggedParts octets (part ∷ parts) =
    (number_at 0 2 octets ≡ part.subslot) × (number_at 2 4 octets ≡ part.ident) × ArePluggedParts (drop 6 octets) parts

-- Modules one after another, to the end: SlotNumber, ModuleIdentNumber, NumberOfSubmodules, and all submodules.
abbrev pub ArePlugged : List ℕ → List RealModule → Type 0
ArePlugged octets [] = octets ≡ []
ArePlugged octets (entry ∷ entries) =
    (number_at 0 2 octets ≡ entry.slot) × (number_at 2 4 octets ≡ entry.ident) × (number_at 6 2 octets ≡ length entry.submodules.items)
    × ArePluggedParts (drop 8 octets) entry.submodules.items × ArePlugged (drop (8 + 6 * length entry.submodules.items) octets) entries

-- RealIdentificationData of the whole device, BlockType 0x0013, version 1.1: NumberOfAPIs 1, API 0, NumberOfModules, and each module that is plugged.
pub record IsPluggedList (octets : List ℕ) (modules : List RealModule) : Type 0 where
  pub kind : number_at 0 2 octets ≡ 0x0013
  pub size : number_at 2 2 octets + 4 ≡ length octets
  pub version : octets_at 4 2 octets ≡ 1 ∷ 1 ∷ []
  pub apis : number_at 6 2 octets ≡ 1
  pub api : number_at 8 4 octets ≡ 0
  pub count : number_at 12 2 octets ≡ length modules
  pub modules_are : ArePlugged (drop 14 octets) modules

-- A module of a device: its numbers have their sizes, and it has at most four submodules.
pub record IsPluggedModule (entry : RealModule) : Type 0 where
  pub slot : entry.slot < 65536
  pub ident : entry.ident < 256 ^ 4
  pub few : length entry.submodules.items ≤ 4
  pub submodules : AllByRecursion (λ part. (part.subslot < 65536) × (part.ident < 256 ^ 4)) entry.submodules.items
