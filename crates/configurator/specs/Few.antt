-- The limits on the numbers of slots, submodules and records.
use Rattle.std.specs.Prelude.{◌&&◌, ℕ, Bool, true, List, length, nat_le, sum_by, Option, Some, None}
use Rattle.std.specs.List.{list_all}
use Rattle.catalogue.specs.Submodules.{Submodule}
use Rattle.catalogue.specs.Slots.{Slot}
use Rattle.catalogue.specs.Catalogues.{Catalogue}
use Rattle.configurator.specs.Standing.{Stands, all_slots, stands_in}

-- at most four submodules, each with at most two parameter records
abbrev pub is_small : List Submodule → Bool
is_small submodules = nat_le (length submodules) 4 && list_all (λ entry. nat_le (length entry.parameters) 2) submodules

-- no module, or one within these limits
abbrev pub is_small_if : Option Stands → Bool
is_small_if None = true
is_small_if (Some stands) = is_small stands.submodules

-- each of these slots is at most 15
abbrev pub are_low : List ℕ → Bool
are_low slots = list_all (λ slot. nat_le slot 15) slots

-- each slot into which the project puts a module is at most 15
abbrev pub are_slots_low : List Slot → Bool
are_slots_low slots = list_all (λ entry. nat_le entry.slot 15) slots

-- the slots have at most 32 records together
abbrev pub are_records_few : List Slot → Bool
are_records_few slots = nat_le (sum_by (λ entry. length entry.records) slots) 32

-- a catalogue is within the limits: slots 0 to 15, in each no module or one within its limits, and at most 32 records
unfoldable pub are_few : Catalogue → Bool
are_few found =
    are_slots_low found.project.slots
    && list_all (λ entry. are_low entry.fixed_in) found.access_point.references
    && list_all (λ slot. is_small_if (stands_in found slot)) all_slots
    && are_records_few found.project.slots
