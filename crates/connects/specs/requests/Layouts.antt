-- How the places of the two communication relations are checked (IEC 61158-6-10, 5.2.4.3).
use Rattle.std.specs.Prelude.{◌+◌, ◌||◌, ℕ, Bool, true, false, List, [], ◌∷◌, ◌++◌, map, take, drop, min, max, nat_lt, Result, Ok}
use Rattle.std.specs.List.{list_any}
use Rattle.connect_blocks.specs.declared.iocr.IocrType.{IocrType}
use Rattle.connect_blocks.specs.declared.iocr.IocrBlockReq.{IocrBlockReq}
use Rattle.connect_blocks.specs.declared.expected.ExpectedModule.{ExpectedModule}
use Rattle.connect_blocks.specs.declared.expected.ExpectedSubmodule.{ExpectedSubmodule}
use Rattle.connect_blocks.specs.Expected.{own_of}
use Rattle.module_diff.specs.declared.expected.Expected.{Expected}
use Rattle.cyclic_data.specs.declared.place.PlaceKind.{PlaceKind}
use Rattle.cyclic_data.specs.declared.place.PlaceKind.TheVariants.{Data, Iocs}
use Rattle.cyclic_data.specs.declared.place.Place.{Place}
use Rattle.cyclic_data.specs.declared.place.ExpectedData.{ExpectedData}
use Rattle.cyclic_data.specs.declared.fault.LayoutFault.{LayoutFault}
use Rattle.cyclic_data.specs.declared.fault.LayoutFault.TheVariants as wrong
use Rattle.cyclic_data.specs.Places.{asked}
use Rattle.cyclic_data.specs.Layout.{Table, times_listed, times_required}
use Rattle.wire.specs.Codec.{◌>>=◌}
use Rattle.records.specs.declared.status.call_fault.CallFault.{CallFault}
use Rattle.records.specs.declared.status.call_fault.CallFault.TheVariants as fault
use Rattle.records.specs.calls.Handled.{handled}

-- ---- what submodules have in cyclic frames

-- The submodules of the module in a slot.
abbrev pub data_in_slot : ℕ → List ExpectedSubmodule → List ExpectedData
data_in_slot slot submodules =
    map (λ part. record { slot = slot; subslot = part.subslot_number; io_data = part.io_data }) submodules

-- The submodules of modules, each of which has as many as it counts.
abbrev pub data_of_modules : List ExpectedModule → List ExpectedSubmodule → List ExpectedData
data_of_modules [] submodules = []
data_of_modules (entry ∷ modules) submodules =
    data_in_slot entry.slot_number (take (own_of entry) submodules) ++ data_of_modules modules (drop (own_of entry) submodules)

-- All submodules that are expected.
abbrev pub data_of : Expected → List ExpectedData
data_of expected = data_of_modules expected.modules.items expected.submodules.items

-- ---- places

-- Whether a place ends after the octets of the frame.
abbrev pub is_outside : ℕ → Place → Bool
is_outside data_length place = nat_lt data_length (place.offset + place.size)

-- Whether two places have an octet in common: the later of them begins before the earlier ends.
abbrev pub do_overlap : Place → Place → Bool
do_overlap one other = nat_lt (max one.offset other.offset) (min (one.offset + one.size) (other.offset + other.size))

-- Whether any two of them have an octet in common.
abbrev pub any_overlap : List Place → Bool
any_overlap [] = false
any_overlap (place ∷ places) = list_any (do_overlap place) places || any_overlap places

-- Whether a place is listed but not needed by a submodule, or listed twice.
abbrev pub is_unknown : IocrType → List ExpectedData → List Place → Place → Bool
is_unknown direction expected places place =
    nat_lt (times_required direction expected place.kind place.slot place.subslot) (times_listed place.kind place.slot place.subslot places)

-- Whether a submodule needs a place of this kind that is not listed.
abbrev pub lacks : IocrType → List ExpectedData → List Place → PlaceKind → ExpectedData → Bool
lacks direction expected places kind sub =
    nat_lt (times_listed kind sub.slot sub.subslot places) (times_required direction expected kind sub.slot sub.subslot)

-- The fault of a Connect if its places have a fault.
abbrev pub fault_of : LayoutFault → CallFault
fault_of wrong.Outside = fault.LayoutOutside
fault_of wrong.Overlap = fault.LayoutOverlap
fault_of wrong.Unknown = fault.LayoutUnknown
fault_of wrong.Missing = fault.LayoutMissing

-- The layout of places in a frame with this many octets of data, or the first fault over all places.
unfoldable pub layout_at : ℕ → IocrType → List ExpectedData → List Place → Result Table CallFault
layout_at data_length direction expected places = handled
    ((list_any (is_outside data_length) places, fault.LayoutOutside)
    ∷ (any_overlap places, fault.LayoutOverlap)
    ∷ (list_any (is_unknown direction expected places) places, fault.LayoutUnknown)
    ∷ (list_any (λ sub. lacks direction expected places Data sub || lacks direction expected places Iocs sub) expected, fault.LayoutMissing)
    ∷ [])
    (Ok (record { data_length = data_length; places = places }))

-- The layout that an IOCRBlockReq asks for.
abbrev pub layout_of : List ExpectedData → IocrBlockReq → Result Table CallFault
layout_of expected block =
    layout_at block.data_length block.iocr_type expected (asked block.iocr_type expected block.io_data_objects block.iocs)

-- Two results, of which the first is computed first, or else the second.
abbrev pub in_order : {A B F : Type 0} → Bool → Result A F → Result B F → Result (A × B) F
in_order true one other = one >>= λ x. other >>= λ y. Ok (x, y)
in_order false one other = other >>= λ y. one >>= λ x. Ok (x, y)
