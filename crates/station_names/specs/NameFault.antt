-- The faults of a text that is not a station name, and which one comes first.
use Rattle.std.specs.Prelude.{◌≡◌, ◌⊎◌, ◌<◌, ◌++◌, ℕ, List, [], ◌∷◌, length, take, All, Any, false, slice_get, Some}
use Rattle.pn_values.specs.StationName.{hyphen, is_label_byte, labels_of, IsPort, LooksLikeAddress as IsAddress}
use Rattle.station_names.specs.declared.name_fault.NameFault.{NameFault}
use Rattle.station_names.specs.declared.name_fault.NameFault.TheVariants.{TooLong, EmptyLabel, LabelTooLong, BadByte, HyphenEnd, LooksLikeAddress, PortForm}

-- the first or the last byte is '-'
abbrev pub HasHyphenEnd : List ℕ → Type 0
HasHyphenEnd label = (slice_get label 0 ≡ Some hyphen) ⊎ ((front : List ℕ) × (label ≡ front ++ hyphen ∷ []))

-- a text has a fault
abbrev pub HasFault : List ℕ → NameFault → Type 0
HasFault bytes TooLong = 240 < length bytes
HasFault bytes EmptyLabel = Any (λ label. label ≡ []) (labels_of bytes)
HasFault bytes LabelTooLong = Any (λ label. 63 < length label) (labels_of bytes)
HasFault bytes BadByte = Any (λ label. Any (λ byte. is_label_byte byte ≡ false) label) (labels_of bytes)
HasFault bytes HyphenEnd = Any HasHyphenEnd (labels_of bytes)
HasFault bytes LooksLikeAddress = IsAddress (labels_of bytes)
HasFault bytes PortForm = All IsPort (take 1 (labels_of bytes))

-- the numbers of the faults, in the order in which they are looked for
abbrev pub number_of : NameFault → ℕ
number_of TooLong = 1
number_of EmptyLabel = 2
number_of LabelTooLong = 3
number_of BadByte = 4
number_of HyphenEnd = 5
number_of LooksLikeAddress = 6
number_of PortForm = 7

-- the text has the fault, and none with a smaller number
abbrev pub FirstFault : List ℕ → NameFault → Type 0
FirstFault bytes fault = HasFault bytes fault × ((other : NameFault) → number_of other < number_of fault → ¬ HasFault bytes other)
