-- What is true of each catalogue that was read.
use Rattle.std.specs.Prelude.{◌≤◌, ◌≢◌, ℕ, List, [], ◌∷◌, length}
use Rattle.std.specs.List.{AllByRecursion}
use Rattle.catalogue.specs.Submodules.{Submodule}
use Rattle.catalogue.specs.Modules.{Module}
use Rattle.catalogue.specs.Slots.{Slot}
use Rattle.catalogue.specs.Projects.{Project}
use Rattle.catalogue.specs.Catalogues.{Catalogue}

-- no two submodules have the same subslot
abbrev pub AreApart : List Submodule → Type 0
AreApart [] = Unit {0}
AreApart (entry ∷ entries) = AllByRecursion (λ other. other.subslot ≢ entry.subslot) entries × AreApart entries

-- each parameter record of a submodule has at most 64 octets
abbrev pub AreShort : List Submodule → Type 0
AreShort submodules = AllByRecursion (λ entry. AllByRecursion (λ item. item.length ≤ 64) entry.parameters) submodules

-- each record that is written has at most 64 octets
abbrev pub AreSlotsShort : List Slot → Type 0
AreSlotsShort slots = AllByRecursion (λ entry. AllByRecursion (λ item. length item.octets ≤ 64) entry.records) slots

-- SendClockFactor, ReductionRatio and DataHoldFactor are in their ranges, and each record has at most 64 octets
pub record IsKept (project : Project) : Type 0 where
  pub clock_least : 1 ≤ project.send_clock_factor
  pub clock_greatest : project.send_clock_factor ≤ 128
  pub ratio_least : 1 ≤ project.reduction_ratio
  pub ratio_greatest : project.reduction_ratio ≤ 512
  pub hold_least : 1 ≤ project.data_hold_factor
  pub hold_greatest : project.data_hold_factor ≤ 7680
  pub short : AreSlotsShort project.slots

-- a catalogue whose project is in its ranges, and whose subslots are different in each module
pub record IsInRange (found : Catalogue) : Type 0 where
  pub project : IsKept found.project
  pub point : AreApart found.access_point.submodules
  pub modules : AllByRecursion (λ entry. AreApart entry.submodules) found.modules
