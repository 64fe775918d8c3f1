-- The places of submodules in cyclic frames: without gaps, the data objects first and then the IOCS.
use Rattle.std.specs.Prelude.{ℕ, ◌+◌, List, [], ◌∷◌, ◌++◌, sum_by, max, unwrap_or, Option, Some, None}
use Rattle.connect_blocks.specs.declared.iocr.IocrType.{IocrType}
use Rattle.connect_blocks.specs.declared.io_object.IoObject.{IoObject}
use Rattle.cyclic_data.specs.declared.place.PlaceKind.{PlaceKind}
use Rattle.cyclic_data.specs.declared.place.PlaceKind.TheVariants.{Data, Iocs}
use Rattle.cyclic_data.specs.declared.place.Place.{Place}
use Rattle.cyclic_data.specs.declared.place.ExpectedData.{ExpectedData}
use Rattle.cyclic_data.specs.Layout.{Table}
use Rattle.cyclic_data.specs.Places.{taken}

-- the octets of a submodule in the frames of a direction, as data or as an IOCS: 0 if it has none
abbrev pub octets_in : IocrType → PlaceKind → ExpectedData → ℕ
octets_in direction kind sub = unwrap_or (taken direction kind sub.io_data) 0

-- the sum for all submodules
abbrev pub octets_of : IocrType → PlaceKind → List ExpectedData → ℕ
octets_of direction kind subs = sum_by (octets_in direction kind) subs

-- the sum for data and IOCS together
abbrev pub frame_octets : IocrType → List ExpectedData → ℕ
frame_octets direction subs = octets_of direction Data subs + octets_of direction Iocs subs

-- the place of a submodule, if it has one
abbrev pub place_at : PlaceKind → ℕ → ExpectedData → Option ℕ → List Place
place_at kind offset sub (Some size) =
    record { kind = kind; slot = sub.slot; subslot = sub.subslot; offset = offset; size = size } ∷ []
place_at kind offset sub None = []

-- the places of submodules, one after another from an offset on
abbrev pub packed : IocrType → PlaceKind → ℕ → List ExpectedData → List Place
packed direction kind offset [] = []
packed direction kind offset (sub ∷ subs) =
    place_at kind offset sub (taken direction kind sub.io_data) ++ packed direction kind (offset + octets_in direction kind sub) subs

-- the places of both kinds: the data objects from offset 0 on, and the IOCS after them
abbrev pub packed_places : IocrType → List ExpectedData → List Place
packed_places direction subs = packed direction Data 0 subs ++ packed direction Iocs (octets_of direction Data subs) subs

-- the layout of a direction: DataLength is the octets of the places, at least 40
abbrev pub layout_in : IocrType → List ExpectedData → Table
layout_in direction subs = record { data_length = max 40 (frame_octets direction subs); places = packed_places direction subs }

-- how a Connect asks for places
abbrev pub object_of : Place → IoObject
object_of place = record { slot_number = place.slot; subslot_number = place.subslot; frame_offset = place.offset }
