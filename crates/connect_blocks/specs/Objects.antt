-- Lists of places in a frame (IEC 61158-6-10, 5.2.4.3).
use Rattle.std.specs.Prelude.{◌≡◌, ℕ, List, [], length, Result, Ok, Err}
use Rattle.wire.specs.Codec.{Codec}
use Rattle.wire.specs.Formats.{◌⨾◌, seen}
use Rattle.wire.specs.Counted.{counted, bounded, read_each}
use Rattle.wire.specs.declared.blocks.fault.BlockFault.{BlockFault}
use Rattle.wire.specs.declared.blocks.fault.BlockFault.TheVariants.{Count}
use Rattle.wire.specs.blocks.Fields.{two}
use Rattle.connect_blocks.specs.declared.io_object.IoObject.{IoObject}

-- SlotNumber, SubslotNumber, FrameOffset.
unfoldable pub io_object : Codec BlockFault IoObject
io_object = seen (λ x. record { slot_number = x.0; subslot_number = x.1.0; frame_offset = x.1.1 })
    (λ object. (object.slot_number, (object.subslot_number, object.frame_offset))) (two ⨾ two ⨾ two)

-- A place that follows others; at most 256 places.
unfoldable pub next_object : List IoObject → Codec BlockFault IoObject
next_object before = bounded 256 Count (λ _. io_object) before

-- A count of places, and the places.
unfoldable pub io_objects : Codec BlockFault (List IoObject)
io_objects = counted two next_object

-- The list that was read, or an empty list if reading failed.
abbrev pub read_or_none : Result (List IoObject × List ℕ) BlockFault → List IoObject
read_or_none (Ok x) = x.0
read_or_none (Err fault) = []

-- The first `count` places of octets.
abbrev pub objects_in : ℕ → List ℕ → List IoObject
objects_in count octets = read_or_none (read_each next_object count [] octets)

-- Octets begin with `count` places.
abbrev pub AreObjects : ℕ → List ℕ → Type 0
AreObjects count octets = (rest : List ℕ) × (read_each next_object count [] octets ≡ Ok (objects_in count octets, rest)) × (length (objects_in count octets) ≡ count)
