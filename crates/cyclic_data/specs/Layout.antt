-- Layouts of cyclic frames, and the faults of places that are not a layout.
use Rattle.std.specs.Prelude.{◌≡◌, ℕ, ◌+◌, ◌<◌, ◌≤◌, ◌==◌, ◌&&◌, ◌⊎◌, Bool, true, false, List, [], ◌∷◌, is_some, cond}
use Rattle.std.specs.List.{AllByRecursion}
use Rattle.connect_blocks.specs.declared.iocr.IocrType.{IocrType}
use Rattle.cyclic_data.specs.declared.place.PlaceKind.{PlaceKind}
use Rattle.cyclic_data.specs.declared.place.PlaceKind.TheVariants.{Data, Iocs}
use Rattle.cyclic_data.specs.declared.place.Place.{Place}
use Rattle.cyclic_data.specs.declared.place.ExpectedData.{ExpectedData}
use Rattle.cyclic_data.specs.declared.fault.LayoutFault.{LayoutFault}
use Rattle.cyclic_data.specs.declared.fault.LayoutFault.TheVariants as fault
use Rattle.cyclic_data.specs.Places.{taken_at}

-- A place covers an octet of the frame.
abbrev pub Covers : Place → ℕ → Type 0
Covers place k = (place.offset ≤ k) × (k < place.offset + place.size)

-- Two places have no octet in common.
abbrev pub AreApart : Place → Place → Type 0
AreApart one other = (k : ℕ) → Covers one k → Covers other k → ⊥

-- Two places have an octet in common.
abbrev pub Meet : Place → Place → Type 0
Meet one other = (k : ℕ) × Covers one k × Covers other k

-- A place ends within `data_length` octets.
abbrev pub IsInside : ℕ → Place → Type 0
IsInside data_length place = place.offset + place.size ≤ data_length

-- A place does not fit into the data of this length.
abbrev pub IsOutside : ℕ → Place → Type 0
IsOutside data_length place = data_length < place.offset + place.size

-- No place overlaps a later one.
abbrev pub AreAllApart : List Place → Type 0
AreAllApart [] = Unit {0}
AreAllApart (place ∷ places) = AllByRecursion (AreApart place) places × AreAllApart places

-- A fact holds for one of the places.
abbrev pub AnyByRecursion : (Place → Type 0) → List Place → Type 0
AnyByRecursion P [] = ⊥
AnyByRecursion P (place ∷ places) = P place ⊎ AnyByRecursion P places

-- Two of the places have an octet in common.
abbrev pub DoMeet : List Place → Type 0
DoMeet [] = ⊥
DoMeet (place ∷ places) = AnyByRecursion (Meet place) places ⊎ DoMeet places

-- Whether a place is of this kind and submodule.
abbrev pub is_same_kind : PlaceKind → PlaceKind → Bool
is_same_kind Data Data = true
is_same_kind Data Iocs = false
is_same_kind Iocs Data = false
is_same_kind Iocs Iocs = true

-- Whether a place is the data, or the IOCS, of this submodule.
abbrev pub is_of : PlaceKind → ℕ → ℕ → Place → Bool
is_of kind slot subslot place = is_same_kind kind place.kind && ((place.slot == slot) && (place.subslot == subslot))

-- How often a place is listed.
abbrev pub times_listed : PlaceKind → ℕ → ℕ → List Place → ℕ
times_listed kind slot subslot [] = 0
times_listed kind slot subslot (place ∷ places) = cond (is_of kind slot subslot place) 1 0 + times_listed kind slot subslot places

-- How often a place is required: once if it is expected, else never.
abbrev pub times_required : IocrType → List ExpectedData → PlaceKind → ℕ → ℕ → ℕ
times_required direction expected kind slot subslot = cond (is_some (taken_at direction expected kind slot subslot)) 1 0

-- No place is listed that is not expected, and none is listed twice.
abbrev pub AreKnown : IocrType → List ExpectedData → List Place → Type 0
AreKnown direction expected places = (kind : PlaceKind) (slot subslot : ℕ) →
    times_listed kind slot subslot places ≤ times_required direction expected kind slot subslot

-- A place is listed that is not expected, or one is listed twice.
abbrev pub HasUnknown : IocrType → List ExpectedData → List Place → Type 0
HasUnknown direction expected places = (kind : PlaceKind) × (slot : ℕ) × (subslot : ℕ) ×
    (times_required direction expected kind slot subslot < times_listed kind slot subslot places)

-- An expected place is not listed.
abbrev pub HasMissing : IocrType → List ExpectedData → List Place → Type 0
HasMissing direction expected places = (kind : PlaceKind) × (slot : ℕ) × (subslot : ℕ) ×
    (times_listed kind slot subslot places < times_required direction expected kind slot subslot)

-- A layout: places inside the frame and without overlap, and exactly those that the submodules need, each once.
pub record IsLayout (data_length : ℕ) (direction : IocrType) (expected : List ExpectedData) (places : List Place) : Type 0 where
  pub inside : AllByRecursion (IsInside data_length) places
  pub apart : AreAllApart places
  pub exact : (kind : PlaceKind) (slot subslot : ℕ) →
      times_listed kind slot subslot places ≡ times_required direction expected kind slot subslot

-- The first fault of places that are not a layout.
abbrev pub IsFirstFault : LayoutFault → ℕ → IocrType → List ExpectedData → List Place → Type 0
IsFirstFault fault.Outside data_length direction expected places = AnyByRecursion (IsOutside data_length) places
IsFirstFault fault.Overlap data_length direction expected places =
    AllByRecursion (IsInside data_length) places × DoMeet places
IsFirstFault fault.Unknown data_length direction expected places =
    AllByRecursion (IsInside data_length) places × AreAllApart places × HasUnknown direction expected places
IsFirstFault fault.Missing data_length direction expected places =
    AllByRecursion (IsInside data_length) places × AreAllApart places × AreKnown direction expected places
    × HasMissing direction expected places

-- The number of a fault.
abbrev pub fault_number : LayoutFault → ℕ
fault_number fault.Outside = 1
fault_number fault.Overlap = 2
fault_number fault.Unknown = 3
fault_number fault.Missing = 4

-- The places of a frame, as a layout stores them.
pub record Table : Type 0 where
  pub data_length : ℕ
  pub places : List Place

-- A place takes at least one octet.
abbrev pub IsSolid : Place → Type 0
IsSolid place = 0 < place.size

-- The table of a layout: places inside a frame, without overlap, and at most one of a kind for a submodule.
pub record IsTable (data_length : ℕ) (places : List Place) : Type 0 where
  pub short : data_length ≤ 1440
  pub inside : AllByRecursion (IsInside data_length) places
  pub apart : AreAllApart places
  pub solid : AllByRecursion IsSolid places
  pub once : (kind : PlaceKind) (slot subslot : ℕ) → times_listed kind slot subslot places ≤ 1
