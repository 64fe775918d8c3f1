-- The data and the statuses of a submodule in cyclic frames, as records (IEC 61158-6-10, 5.2.3): input is sent by the device
-- and output by the controller.
use Rattle.std.specs.Prelude.{◌+◌, ◌*◌, ◌++◌, ℕ, List, [], ◌∷◌, length, replicate, Option, option_map, unwrap_or}
use Rattle.wire.specs.Formats.{big_bytes}
use Rattle.cyclic_data.specs.declared.place.PlaceKind.TheVariants.{Data, Iocs}
use Rattle.cyclic_data.specs.Image.{Shown, cell_at}
use Rattle.cyclic_data.specs.exchange.Cyclic.{Cyclic}

-- A block of version 1.0: BlockType, BlockLength, the version and the fields.
abbrev pub block_of : ℕ → List ℕ → List ℕ
block_of type fields = big_bytes 2 type ++ big_bytes 2 (2 + length fields) ++ 1 ∷ 0 ∷ fields

-- The IOCS of a submodule in an image, 0 if the image has none.
abbrev pub iocs_in : Shown → ℕ → ℕ → ℕ
iocs_in shown slot subslot = unwrap_or (option_map (λ cell. cell.status) (cell_at Iocs slot subslot shown.cells)) 0

-- RecordInputDataObjectElement: LengthIOCS 1, the IOCS of the last accepted frame, LengthIOPS 1, IOPS, LengthData, the data,
-- both as they are sent.
unfoldable pub input_element : ℕ → List ℕ → ℕ → List ℕ
input_element iocs value iops = block_of 0x0015 (1 ∷ iocs ∷ 1 ∷ iops ∷ (big_bytes 2 (length value) ++ value))

-- SubstituteValue: SubstitutionMode 0, the IOCS, zeros, and the status of good data.
unfoldable pub substitute : ℕ → ℕ → List ℕ
substitute iocs size = block_of 0x0014 (0 ∷ 0 ∷ iocs ∷ (replicate size 0 ++ 0x80 ∷ []))

-- RecordOutputDataObjectElement: SubstituteActiveFlag 0, LengthIOCS 1, LengthIOPS 1, LengthData, the IOCS as it is sent, the
-- data and the IOPS of the last accepted frame, and the substitute value.
unfoldable pub output_element : ℕ → List ℕ → ℕ → List ℕ
output_element iocs value iops = big_bytes 2 0x0016 ++ big_bytes 2 (2 + (18 + 2 * length value)) ++ 1 ∷ 0 ∷ 0 ∷ 0 ∷ 1 ∷ 1
    ∷ (big_bytes 2 (length value) ++ iocs ∷ (value ++ iops ∷ substitute iocs (length value)))

-- The record of the submodule in a slot and subslot, if it has input, or output, in the relation: from what is sent and from
-- the last accepted frame. A submodule without data has an input of no octets.
abbrev pub input_of : Cyclic → ℕ → ℕ → Option (List ℕ)
input_of cyclic slot subslot = option_map (λ cell. input_element (iocs_in cyclic.taken slot subslot) cell.value cell.status)
    (cell_at Data slot subslot cyclic.shown.cells)

-- RecordOutputDataObjectElement of a submodule, if it has an output.
abbrev pub output_of : Cyclic → ℕ → ℕ → Option (List ℕ)
output_of cyclic slot subslot = option_map (λ cell. output_element (iocs_in cyclic.shown slot subslot) cell.value cell.status)
    (cell_at Data slot subslot cyclic.taken.cells)
