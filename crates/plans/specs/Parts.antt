-- The parts of a plan.
use Rattle.std.specs.Prelude.{◌≡◌, ◌≤◌, ◌<◌, ◌%◌, ◌==◌, ℕ, List, [], ◌∷◌, ◌++◌, map, length, slice_index, Option, Some, None, if◌then◌else◌}
use Rattle.std.specs.List.{AllByRecursion}
use Rattle.pn_values.specs.StationName.{IsStationName}
use Rattle.pn_values.specs.declared.real.RealModule.{RealModule}
use Rattle.pn_values.specs.declared.real.RealSubmodule.{RealSubmodule}
use Rattle.connect_blocks.specs.declared.submodule_data.SubmoduleData.{SubmoduleData}
use Rattle.connect_blocks.specs.declared.expected.ExpectedModule.{ExpectedModule}
use Rattle.connect_blocks.specs.declared.expected.ExpectedSubmodule.{ExpectedSubmodule}
use Rattle.cyclic_data.specs.declared.place.ExpectedData.{ExpectedData}
use Rattle.plans.specs.declared.parts.Parts.{Parts}

-- ---- the ranges

-- each number is greater than all before it
abbrev pub IsRising : List ℕ → Type 0
IsRising [] = Unit {0}
IsRising (number ∷ numbers) = AllByRecursion (λ other. number < other) numbers × IsRising numbers

-- The slots of these modules.
abbrev pub slots_of : List RealModule → List ℕ
slots_of modules = map (λ entry. entry.slot) modules

-- The subslots of a module.
abbrev pub subslots_of : RealModule → List ℕ
subslots_of entry = map (λ part. part.subslot) entry.submodules.items

-- the modules are in the order of their slots, 0 to 15, and the submodules of each in the order of their subslots
pub record AreOrdered (modules : List RealModule) : Type 0 where
  pub slots : IsRising (slots_of modules)
  pub few : AllByRecursion (λ entry. entry.slot ≤ 15) modules
  pub subslots : AllByRecursion (λ entry. IsRising (subslots_of entry)) modules

-- each part is in its range
pub record AreParts (parts : Parts) : Type 0 where
  pub named : IsStationName parts.station.name
  pub controlled : IsStationName parts.controller.name
  pub alone : slice_index parts.controller.mac.octets 0 % 2 ≡ 0
  pub clock_least : 1 ≤ parts.times.send_clock_factor
  pub clock_greatest : parts.times.send_clock_factor ≤ 128
  pub ratio_least : 1 ≤ parts.times.reduction_ratio
  pub ratio_greatest : parts.times.reduction_ratio ≤ 512
  pub hold_least : 1 ≤ parts.times.data_hold_factor
  pub hold_greatest : parts.times.data_hold_factor ≤ 7680
  pub plugged : 1 ≤ length parts.real.modules.items
  pub ordered : AreOrdered parts.real.modules.items

-- ---- what is expected

-- a length, if it is not 0
abbrev pub some_octets : ℕ → Option ℕ
some_octets octets = if octets == 0 then None else Some octets

-- the cyclic data of a submodule
abbrev pub io_data_of : RealSubmodule → SubmoduleData
io_data_of part = record { input = some_octets part.input; output = some_octets part.output }

-- The data of the submodules of a slot.
abbrev pub data_in_slot : ℕ → List RealSubmodule → List ExpectedData
data_in_slot slot parts = map (λ part. record { slot = slot; subslot = part.subslot; io_data = io_data_of part }) parts

-- the cyclic data of all submodules, in the order of slots and subslots
abbrev pub data_of : List RealModule → List ExpectedData
data_of [] = []
data_of (entry ∷ modules) = data_in_slot entry.slot entry.submodules.items ++ data_of modules

-- a module and its submodules, as a Connect expects them
abbrev pub module_of : RealModule → ExpectedModule
module_of entry = record {
  slot_number = entry.slot;
  module_ident_number = entry.ident;
  module_properties = 0;
  number_of_submodules = length entry.submodules.items;
}

-- A submodule as the Connect expects it.
abbrev pub submodule_of : RealSubmodule → ExpectedSubmodule
submodule_of part = record { subslot_number = part.subslot; submodule_ident_number = part.ident; io_data = io_data_of part }
