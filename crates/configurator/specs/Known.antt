-- Maps and sets of a catalogue's modules and slots, so that checking a module does not search the lists: modules have numbers, and what is
-- fixed in a slot is found by the slot.
use Rattle.std.specs.Prelude.{◌≡◌, ◌==◌, ◌&&◌, ◌||◌, ℕ, Bool, true, false, not, List, [], ◌∷◌, length, Option, Some, None, is_some, if◌then◌else◌}
use Rattle.std.specs.List.{list_any, list_all}
use Rattle.std.specs.Option.{option_or}
use Rattle.std.specs.Ordering.{nat_cmp, ordering_then}
use Rattle.std.specs.declared.cmp.Ordering.{Ordering}
use Rattle.std.specs.BTreeMap.{get, get_by_text}
use Rattle.std.specs.BTreeSet.{contains}
use Rattle.catalogue.specs.Slots.{Slot}
use Rattle.catalogue.specs.Modules.{Module, has_id}
use Rattle.catalogue.specs.AccessPoints.{Reference}
use Rattle.catalogue.specs.Catalogues.{Catalogue}
use Rattle.configurator.specs.declared.known.Known.{Known}
use Rattle.configurator.specs.Allowed.{is_in}

-- each module's ID has a number, no other ID has one, and no two IDs have the same
pub record AreNumbers (modules : List Module) (number : List ℕ → Option ℕ) : Type 0 where
  pub known : (id : List ℕ) → is_some (number id) ≡ has_id id modules
  pub apart : (one other : List ℕ) (n : ℕ) → number one ≡ Some n → number other ≡ Some n → one ≡ other

-- the number of the module that is fixed in a slot: if several are, that of the first reference
abbrev pub fixes : (List ℕ → Option ℕ) → ℕ → Reference → Option ℕ
fixes number slot entry = if is_in slot entry.fixed_in then number entry.target else None

-- The module that is fixed in a slot, if one is.
abbrev pub fixer : (List ℕ → Option ℕ) → ℕ → List Reference → Option ℕ
fixer number slot [] = None
fixer number slot (entry ∷ entries) = option_or (fixes number slot entry) (fixer number slot entries)

-- it is this number
abbrev pub is_number : ℕ → Option ℕ → Bool
is_number n None = false
is_number n (Some other) = other == n

-- there is no number, or it is this one
abbrev pub is_no_other : ℕ → Option ℕ → Bool
is_no_other n None = true
is_no_other n (Some other) = other == n

-- the module with this number may be put into the slot or is fixed in it
abbrev pub takes_by : (List ℕ → Option ℕ) → ℕ → ℕ → Reference → Bool
takes_by number slot n entry = is_number n (number entry.target) && (is_in slot entry.allowed_in || is_in slot entry.fixed_in)

-- the device has the slot, the slot is not that of the access point, and no other module is fixed in it
abbrev pub is_open : (ℕ → Bool) → (ℕ → Option ℕ) → ℕ → ℕ → Bool
is_open physical fixed n slot = not (slot == 0) && physical slot && is_no_other n (fixed slot)

-- this is true of each slot in which a module is fixed; a module that the catalogue does not have must be fixed in no slot
abbrev pub are_open : (ℕ → Bool) → (ℕ → Option ℕ) → Option ℕ → List ℕ → Bool
are_open physical fixed None slots = length slots == 0
are_open physical fixed (Some n) slots = list_all (is_open physical fixed n) slots

-- Whether the slots in which a module is fixed exist and are not fixed for another one.
abbrev pub is_fixed_open : (ℕ → Bool) → (ℕ → Option ℕ) → (List ℕ → Option ℕ) → Reference → Bool
is_fixed_open physical fixed number entry = are_open physical fixed (number entry.target) entry.fixed_in

-- a module may be in the slot into which the project puts it
abbrev pub does_stand : (ℕ → Bool) → (ℕ → Option ℕ) → (ℕ → ℕ → Bool) → ℕ → Option ℕ → Bool
does_stand physical fixed taken slot None = false
does_stand physical fixed taken slot (Some n) = is_open physical fixed n slot && taken slot n

-- Whether the module of a slot of the project may be plugged there.
abbrev pub stands_well : (ℕ → Bool) → (ℕ → Option ℕ) → (ℕ → ℕ → Bool) → (List ℕ → Option ℕ) → Slot → Bool
stands_well physical fixed taken number entry = does_stand physical fixed taken entry.slot (number entry.target)

-- ---- as the code has it

-- the order of places: by slot, and then by the number of the module
abbrev pub place_cmp : ℕ × ℕ → ℕ × ℕ → Ordering
place_cmp one other = ordering_then (nat_cmp one.0 other.0) (nat_cmp one.1 other.1)

-- The place of a module in the catalogue, by its ID.
abbrev pub number_in : Known → List ℕ → Option ℕ
number_in known = get_by_text known.numbers

-- Whether a slot exists.
abbrev pub physical_in : Known → ℕ → Bool
physical_in known slot = contains nat_cmp known.physical slot

-- The module that is fixed in a slot.
abbrev pub fixed_by : Known → ℕ → Option ℕ
fixed_by known slot = get nat_cmp known.fixed slot

-- Whether a module is allowed in a slot.
abbrev pub taken_by : Known → ℕ → ℕ → Bool
taken_by known slot n = contains place_cmp known.taken (slot, n)

-- the maps and sets are those of a catalogue
pub record IsKnown (found : Catalogue) (known : Known) : Type 0 where
  pub physical : (slot : ℕ) → physical_in known slot ≡ is_in slot found.access_point.physical_slots
  pub numbers : AreNumbers found.modules (number_in known)
  pub fixed : (slot : ℕ) → fixed_by known slot ≡ fixer (number_in known) slot found.access_point.references
  pub taken : (slot n : ℕ) → taken_by known slot n ≡ list_any (takes_by (number_in known) slot n) found.access_point.references
