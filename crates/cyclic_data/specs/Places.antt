-- The data of submodules in cyclic frames (IEC 61158-6-10, 5.2.4.3): data and its provider status, or the consumer
-- status.
use Rattle.std.specs.Prelude.{ℕ, ◌+◌, ◌==◌, ◌&&◌, Bool, List, [], ◌∷◌, ◌++◌, map, Option, Some, None, option_map, option_and_then, unwrap_or, if◌then◌else◌}
use Rattle.connect_blocks.specs.declared.iocr.IocrType.{IocrType}
use Rattle.connect_blocks.specs.declared.iocr.IocrType.TheVariants.{Input, Output}
use Rattle.connect_blocks.specs.declared.io_object.IoObject.{IoObject}
use Rattle.connect_blocks.specs.declared.submodule_data.SubmoduleData.{SubmoduleData}
use Rattle.cyclic_data.specs.declared.place.PlaceKind.{PlaceKind}
use Rattle.cyclic_data.specs.declared.place.PlaceKind.TheVariants.{Data, Iocs}
use Rattle.cyclic_data.specs.declared.place.Place.{Place}
use Rattle.cyclic_data.specs.declared.place.ExpectedData.{ExpectedData}

-- The other direction.
abbrev pub opposite_of : IocrType → IocrType
opposite_of Input = Output
opposite_of Output = Input

-- The length of an input; a submodule with no data counts as one with an input of no octets.
abbrev pub input_of : Option ℕ → Option ℕ → Option ℕ
input_of (Some input) output = Some input
input_of None None = Some 0
input_of None (Some output) = None

-- The number of octets of data that a submodule has in the frames of a direction, if it has data there.
abbrev pub data_in : IocrType → SubmoduleData → Option ℕ
data_in Input io_data = input_of io_data.input io_data.output
data_in Output io_data = io_data.output

-- The number of octets that a submodule takes there: its data and one octet of IOPS, and one octet of IOCS for the data
-- of the other direction.
abbrev pub taken : IocrType → PlaceKind → SubmoduleData → Option ℕ
taken direction Data io_data = option_map (λ size. size + 1) (data_in direction io_data)
taken direction Iocs io_data = option_map (λ _. 1) (data_in (opposite_of direction) io_data)

-- Whether a submodule is in this subslot.
abbrev pub is_at : ℕ → ℕ → ExpectedData → Bool
is_at slot subslot sub = (sub.slot == slot) && (sub.subslot == subslot)

-- The first submodule that is expected in a subslot: its index, counted from `index`, and its data.
abbrev pub found_from : ℕ → ℕ → ℕ → List ExpectedData → Option (ℕ × SubmoduleData)
found_from slot subslot index [] = None
found_from slot subslot index (sub ∷ subs) =
    if is_at slot subslot sub then Some (index, sub.io_data) else found_from slot subslot (index + 1) subs

-- The number of octets of a place, if it is expected.
abbrev pub taken_at : IocrType → List ExpectedData → PlaceKind → ℕ → ℕ → Option ℕ
taken_at direction expected kind slot subslot =
    option_and_then (λ found. taken direction kind found.1) (found_from slot subslot 0 expected)

-- The place of an object; one that is not expected takes one octet.
abbrev pub place_of : IocrType → List ExpectedData → PlaceKind → IoObject → Place
place_of direction expected kind object = record {
  kind = kind;
  slot = object.slot_number;
  subslot = object.subslot_number;
  offset = object.frame_offset;
  size = unwrap_or (taken_at direction expected kind object.slot_number object.subslot_number) 1;
}

-- The places that a communication relation requests: those of its data objects, and then those of its IOCS.
abbrev pub asked : IocrType → List ExpectedData → List IoObject → List IoObject → List Place
asked direction expected objects iocs = map (place_of direction expected Data) objects ++ map (place_of direction expected Iocs) iocs
