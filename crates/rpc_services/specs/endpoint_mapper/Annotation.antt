-- The annotation of the entry: what the device is, as text.
use Rattle.std.specs.Prelude.{◌+◌, ◌-◌, ◌/◌, ◌%◌, ℕ, List, [], ◌∷◌, ◌++◌, length, replicate, slice_index, nat_lt, if◌then◌else◌}
use Rattle.pn_values.specs.declared.identity.Identity.{Identity}

-- the decimal digit of this unit, or a space if the number is less than the unit
abbrev pub digit : ℕ → ℕ → ℕ
digit unit n = if nat_lt n unit then 32 else 48 + n / unit % 10

-- a number as decimal text, right-aligned in three places or in five
abbrev pub in_three : ℕ → List ℕ
in_three n = digit 100 n ∷ digit 10 n ∷ (48 + n % 10) ∷ []

-- A number in five decimal digits.
abbrev pub in_five : ℕ → List ℕ
in_five n = digit 10000 n ∷ digit 1000 n ∷ digit 100 n ∷ digit 10 n ∷ (48 + n % 10) ∷ []

-- A space.
abbrev pub space : List ℕ
space = 32 ∷ []

-- The station type, padded with spaces to 25.
abbrev pub type_text : Identity → List ℕ
type_text identity = identity.station_type.items ++ replicate (25 - length identity.station_type.items) 32

-- SoftwareRevision: a letter, and three numbers.
abbrev pub software_text : List ℕ → List ℕ
software_text revision =
    slice_index revision 0 ∷ in_three (slice_index revision 1) ++ in_three (slice_index revision 2) ++ in_three (slice_index revision 3)

-- The station type, OrderID, HardwareRevision and SoftwareRevision, with a space between two of them, and one zero: 64 octets.
unfoldable pub annotation : Identity → List ℕ
annotation identity =
    type_text identity ++ space ++ identity.order_id ++ space ++ in_five identity.hardware_revision ++ space ++ software_text identity.software_revision ++ 0 ∷ []
