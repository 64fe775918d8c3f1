-- Which module may be in which slot.
use Rattle.std.specs.Prelude.{◌==◌, ◌&&◌, ◌||◌, ℕ, suc, Bool, not, List, [], ◌∷◌, if◌then◌else◌}
use Rattle.std.specs.List.{list_any, list_all}
use Rattle.std.specs.Str.{bytes_eq}
use Rattle.catalogue.specs.Slots.{Slot}
use Rattle.catalogue.specs.Modules.{Module, has_id}
use Rattle.catalogue.specs.AccessPoints.{AccessPoint, Reference}
use Rattle.catalogue.specs.Catalogues.{Catalogue}

-- a slot is one of these
abbrev pub is_in : ℕ → List ℕ → Bool
is_in slot slots = list_any (λ other. other == slot) slots

-- the module may be put into the slot or is fixed in it
abbrev pub takes : ℕ → List ℕ → Reference → Bool
takes slot target entry = bytes_eq entry.target target && (is_in slot entry.allowed_in || is_in slot entry.fixed_in)

-- another module is fixed in the slot
abbrev pub has_other : ℕ → List ℕ → Reference → Bool
has_other slot target entry = not (bytes_eq entry.target target) && is_in slot entry.fixed_in

-- a module may be in a slot: the slot is not that of the access point, the device has it, the catalogue has the module, the module may be put
-- into the slot or is fixed in it, and no other module is fixed in it
unfoldable pub may_stand : AccessPoint → List Module → ℕ → List ℕ → Bool
may_stand point modules slot target =
    not (slot == 0)
    && is_in slot point.physical_slots
    && has_id target modules
    && list_any (takes slot target) point.references
    && not (list_any (has_other slot target) point.references)

-- each module may be in the slot into which the project puts it
abbrev pub may_all_stand : AccessPoint → List Module → List Slot → Bool
may_all_stand point modules slots = list_all (λ entry. may_stand point modules entry.slot entry.target) slots

-- the number of entries that name a slot
abbrev pub uses_of : ℕ → List Slot → ℕ
uses_of slot [] = 0
uses_of slot (entry ∷ entries) = if entry.slot == slot then suc (uses_of slot entries) else uses_of slot entries

-- no two entries name the same slot
abbrev pub are_once : List Slot → Bool
are_once slots = list_all (λ entry. uses_of entry.slot slots == 1) slots

-- a module may be in each slot in which it is fixed
abbrev pub is_fixed_well : AccessPoint → List Module → Reference → Bool
is_fixed_well point modules entry = list_all (λ slot. may_stand point modules slot entry.target) entry.fixed_in

-- each module may be in its slot
unfoldable pub are_allowed : Catalogue → Bool
are_allowed found =
    may_all_stand found.access_point found.modules found.project.slots
    && are_once found.project.slots
    && list_all (is_fixed_well found.access_point found.modules) found.access_point.references
