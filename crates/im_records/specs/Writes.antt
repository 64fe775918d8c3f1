-- The command that a written record asks for.
use Rattle.std.specs.Prelude.{◌≡◌, ◌==◌, ◌+◌, ℕ, List, [], ◌∷◌, length, take, drop, nat_eq, Option, Some, Result, Ok, Err, if◌then◌else◌}
use Rattle.std.specs.Cmp.Lexicographic.{pointwise}
use Rattle.pn_values.specs.declared.im_value.ImValue.{ImValue}
use Rattle.pn_values.specs.declared.im_value.ImValue.TheVariants as im
use Rattle.pn_values.specs.declared.command.Command.{Command}
use Rattle.pn_values.specs.declared.command.Command.TheVariants.{SetIm}
use Rattle.wire.specs.Codec.{◌>>=◌}
use Rattle.im_records.specs.declared.fault.RecordFault.{RecordFault}
use Rattle.im_records.specs.declared.fault.RecordFault.TheVariants.{Index, Length, Block}
use Rattle.im_records.specs.declared.record.Record.{Record}
use Rattle.im_records.specs.declared.record.Record.TheVariants as named
use Rattle.im_records.specs.Indices.{record_with}
use Rattle.im_records.specs.Records.{im1_record, im2_record, im3_record, im4_record}

-- These octets are the whole record of this index, and hold this value.
abbrev pub IsWritten : ℕ → List ℕ → ImValue → Type 0
IsWritten index bytes (im.Im1 text) = (record_with index ≡ Some named.Im1) × (length text ≡ 54) × (bytes ≡ im1_record text)
IsWritten index bytes (im.Im2 text) = (record_with index ≡ Some named.Im2) × (length text ≡ 16) × (bytes ≡ im2_record text)
IsWritten index bytes (im.Im3 text) = (record_with index ≡ Some named.Im3) × (length text ≡ 54) × (bytes ≡ im3_record text)
IsWritten index bytes (im.Im4 text) = (record_with index ≡ Some named.Im4) × (length text ≡ 54) × (bytes ≡ im4_record text)

-- The header of a text of `size` octets: BlockType, BlockLength, version 1.0.
abbrev pub header_of : ℕ → ℕ → List ℕ
header_of kind size = 0 ∷ kind ∷ 0 ∷ (2 + size) ∷ 1 ∷ 0 ∷ []

-- The text of `size` octets after the header of its kind, or the fault; the length is checked first.
unfoldable pub text_of : ℕ → List ℕ → List ℕ → Result (List ℕ) RecordFault
text_of size header bytes =
    if length bytes == 6 + size then (if pointwise nat_eq (take 6 bytes) header then Ok (drop 6 bytes) else Err Block) else Err Length

-- The command that a record asks for, or the fault.
abbrev pub command_in : Option Record → List ℕ → Result Command RecordFault
command_in (Some named.Im1) bytes = text_of 54 (header_of 0x21 54) bytes >>= λ text. Ok (SetIm (im.Im1 text))
command_in (Some named.Im2) bytes = text_of 16 (header_of 0x22 16) bytes >>= λ text. Ok (SetIm (im.Im2 text))
command_in (Some named.Im3) bytes = text_of 54 (header_of 0x23 54) bytes >>= λ text. Ok (SetIm (im.Im3 text))
command_in (Some named.Im4) bytes = text_of 54 (header_of 0x24 54) bytes >>= λ text. Ok (SetIm (im.Im4 text))
command_in one bytes = Err Index

-- The command that the record with an index asks for, or the fault.
unfoldable pub command_of : ℕ → List ℕ → Result Command RecordFault
command_of index bytes = command_in (record_with index) bytes
