-- I&M0 to I&M4, APIData, and the records of cyclic data as a reader finds them (IEC 61158-6-10, 5.2.3).
use Rattle.std.specs.Prelude.{◌≡◌, ◌+◌, ◌<◌, ℕ, List, [], ◌∷◌, drop, length, replicate, Option, Some, None}
use Rattle.pn_values.specs.declared.identity.Identity.{Identity}
use Rattle.cyclic_data.specs.declared.place.PlaceKind.TheVariants.{Iocs}
use Rattle.cyclic_data.specs.Image.{Cell, Shown, cell_at}
use Rattle.cyclic_data.specs.exchange.Cyclic.{Cyclic}
use Rattle.end_laws.specs.log_data.Reading.{number_at, octets_at}
use Rattle.fields_law.specs.Port.{IsBlock}

-- ---- I&M0 to I&M4 (5.2.3.22)

-- I&M0, BlockType 0x0020: VendorID, OrderID, IM_Serial_Number, IM_Hardware_Revision, IM_Software_Revision, IM_RevisionCounter 0, IM_Profile_ID,
-- IM_Profile_Specific_Type, IM_Version 1.1, and IM_Supported: I&M1 to I&M4 in bits 1 to 4.
pub record IsIm0 (octets : List ℕ) (identity : Identity) : Type 0 where
  pub block : IsBlock octets 0x0020
  pub vendor_id : number_at 6 2 octets ≡ identity.vendor_id
  pub order_id : octets_at 8 20 octets ≡ identity.order_id
  pub serial_number : octets_at 28 16 octets ≡ identity.serial_number
  pub hardware_revision : number_at 44 2 octets ≡ identity.hardware_revision
  pub software_revision : octets_at 46 4 octets ≡ identity.software_revision
  pub revision_counter : number_at 50 2 octets ≡ 0
  pub profile_id : number_at 52 2 octets ≡ identity.profile_id
  pub profile_type : number_at 54 2 octets ≡ identity.profile_specific_type
  pub version : octets_at 56 2 octets ≡ 1 ∷ 1 ∷ []
  pub supported : number_at 58 2 octets ≡ 0x001E
  pub end : length octets ≡ 60

-- I&M1 to I&M4: a block of this type, and nothing but a text: of I&M1 IM_Tag_Function and IM_Tag_Location one after the other.
pub record IsText (octets : List ℕ) (type_of : ℕ) (text : List ℕ) : Type 0 where
  pub block : IsBlock octets type_of
  pub text_is : drop 6 octets ≡ text

-- There is a record, and it is this text.
abbrev pub HasText : Option (List ℕ) → ℕ → List ℕ → Type 0
HasText None type_of text = ⊥
HasText (Some octets) type_of text = IsText octets type_of text

-- There is a record, and it is I&M0 of this device.
abbrev pub HasIm0 : Option (List ℕ) → Identity → Type 0
HasIm0 None identity = ⊥
HasIm0 (Some octets) identity = IsIm0 octets identity

-- The fields of an identity have their sizes.
pub record IsSizedIdentity (identity : Identity) : Type 0 where
  pub vendor_id : identity.vendor_id < 65536
  pub order_id : length identity.order_id ≡ 20
  pub serial_number : length identity.serial_number ≡ 16
  pub hardware_revision : identity.hardware_revision < 65536
  pub software_revision : length identity.software_revision ≡ 4
  pub profile_id : identity.profile_id < 65536
  pub profile_type : identity.profile_specific_type < 65536

-- ---- APIData

-- BlockType 0x001A: NumberOfAPIs 1, API 0.
pub record IsApiData (octets : List ℕ) : Type 0 where
  pub block : IsBlock octets 0x001A
  pub count : number_at 6 2 octets ≡ 1
  pub api : number_at 8 4 octets ≡ 0
  pub end : length octets ≡ 12

-- ---- the data of a submodule

-- The status of a submodule's IOCS in an image, 0 if the image has none.
abbrev pub status_or : Option Cell → ℕ
status_or None = 0
status_or (Some cell) = cell.status

-- The IOCS of a submodule in an image, 0 if the image has none.
abbrev pub iocs_of : Shown → ℕ → ℕ → ℕ
iocs_of shown slot subslot = status_or (cell_at Iocs slot subslot shown.cells)

-- RecordInputDataObjectElement, BlockType 0x0015: LengthIOCS 1, IOCS, LengthIOPS 1, IOPS, LengthData, Data.
pub record IsInputElement (octets : List ℕ) (iocs iops : ℕ) (value : List ℕ) : Type 0 where
  pub block : IsBlock octets 0x0015
  pub length_iocs : number_at 6 1 octets ≡ 1
  pub iocs_is : octets_at 7 1 octets ≡ iocs ∷ []
  pub length_iops : number_at 8 1 octets ≡ 1
  pub iops_is : octets_at 9 1 octets ≡ iops ∷ []
  pub length_data : number_at 10 2 octets ≡ length value
  pub data_is : drop 12 octets ≡ value

-- There is a record, and it has the input that is sent with its IOPS, and the IOCS of the last accepted frame.
abbrev pub HasInput : Option (List ℕ) → Cyclic → ℕ → ℕ → Cell → Type 0
HasInput None cyclic slot subslot sent = ⊥
HasInput (Some octets) cyclic slot subslot sent = IsInputElement octets (iocs_of cyclic.taken slot subslot) sent.status sent.value

-- SubstituteValue, BlockType 0x0014: SubstitutionMode 0, IOCS, zeros of this number, and IOPS good.
pub record IsSubstitute (octets : List ℕ) (iocs size : ℕ) : Type 0 where
  pub block : IsBlock octets 0x0014
  pub mode : number_at 6 2 octets ≡ 0
  pub iocs_is : octets_at 8 1 octets ≡ iocs ∷ []
  pub value : octets_at 9 size octets ≡ replicate size 0
  pub iops : drop (9 + size) octets ≡ 0x80 ∷ []

-- RecordOutputDataObjectElement, BlockType 0x0016: SubstituteActiveFlag 0, LengthIOCS 1, LengthIOPS 1, LengthData, IOCS, Data, IOPS, SubstituteValue.
pub record IsOutputElement (octets : List ℕ) (iocs iops : ℕ) (value : List ℕ) : Type 0 where
  pub block : IsBlock octets 0x0016
  pub active : number_at 6 2 octets ≡ 0
  pub length_iocs : number_at 8 1 octets ≡ 1
  pub length_iops : number_at 9 1 octets ≡ 1
  pub length_data : number_at 10 2 octets ≡ length value
  pub iocs_is : octets_at 12 1 octets ≡ iocs ∷ []
  pub data_is : octets_at 13 (length value) octets ≡ value
  pub iops_is : octets_at (13 + length value) 1 octets ≡ iops ∷ []
  pub substitute_is : IsSubstitute (drop (14 + length value) octets) iocs (length value)

-- There is a record, and it has the output of the last accepted frame with its IOPS, and the IOCS that is sent.
abbrev pub HasOutput : Option (List ℕ) → Cyclic → ℕ → ℕ → Cell → Type 0
HasOutput None cyclic slot subslot taken = ⊥
HasOutput (Some octets) cyclic slot subslot taken = IsOutputElement octets (iocs_of cyclic.shown slot subslot) taken.status taken.value
