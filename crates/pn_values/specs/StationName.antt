-- The rules of a NameOfStation (IEC 61158-6-10, 4.3.1.4.15): labels, joined by dots.
use Rattle.std.specs.Prelude.{◌≡◌, ◌≢◌, ◌⊎◌, ◌≤◌, ◌<◌, ◌==◌, ℕ, Bool, List, [], ◌∷◌, ◌++◌, length, take, All, nat_le, ◌||◌, ◌&&◌, IsTrue, if◌then◌else◌, slice_get, Some}

-- the ASCII code of '-'
abbrev pub hyphen : ℕ
hyphen = 45

-- the ASCII code of '.'
abbrev pub dot : ℕ
dot = 46

-- 0 to 9
abbrev pub is_digit : ℕ → Bool
is_digit byte = nat_le 48 byte && nat_le byte 57

-- a to z, 0 to 9 or '-'
abbrev pub is_label_byte : ℕ → Bool
is_label_byte byte = (nat_le 97 byte && nat_le byte 122) || is_digit byte || byte == hyphen

-- a byte put at the front of the first label
abbrev pub onto_first : ℕ → List (List ℕ) → List (List ℕ)
onto_first byte [] = (byte ∷ []) ∷ []
onto_first byte (label ∷ labels) = (byte ∷ label) ∷ labels

-- the labels of a text, which dots separate: a text with n dots has n + 1 labels
abbrev pub labels_of : List ℕ → List (List ℕ)
labels_of [] = [] ∷ []
labels_of (byte ∷ bytes) = if byte == dot then [] ∷ labels_of bytes else onto_first byte (labels_of bytes)

-- exactly this many digits
abbrev pub IsDigits : ℕ → List ℕ → Type 0
IsDigits count label = (length label ≡ count) × All (λ byte. IsTrue (is_digit byte)) label

-- one to three digits
abbrev pub IsAddressPart : List ℕ → Type 0
IsAddressPart label = (0 < length label) × (length label ≤ 3) × All (λ byte. IsTrue (is_digit byte)) label

-- 1 to 63 bytes of a to z, 0 to 9 and '-'; the first and the last are not '-'
pub record IsLabel (label : List ℕ) : Type 0 where
  pub some : 0 < length label
  pub short : length label ≤ 63
  pub bytes : All (λ byte. IsTrue (is_label_byte byte)) label
  pub first : slice_get label 0 ≢ Some hyphen
  pub last : (front : List ℕ) → label ≢ front ++ hyphen ∷ []

-- four labels of one to three digits each, as an IP address is written
abbrev pub LooksLikeAddress : List (List ℕ) → Type 0
LooksLikeAddress labels = (length labels ≡ 4) × All IsAddressPart labels

-- "port-" and three digits, optionally followed by '-' and five digits
abbrev pub IsPort : List ℕ → Type 0
IsPort label = (digits : List ℕ) × IsDigits 3 digits
    × ((label ≡ (112 ∷ 111 ∷ 114 ∷ 116 ∷ hyphen ∷ []) ++ digits)
    ⊎ ((more : List ℕ) × IsDigits 5 more × (label ≡ ((112 ∷ 111 ∷ 114 ∷ 116 ∷ hyphen ∷ []) ++ digits) ++ hyphen ∷ more)))

-- a NameOfStation
pub record IsStationName (bytes : List ℕ) : Type 0 where
  pub short : length bytes ≤ 240
  pub labels : All IsLabel (labels_of bytes)
  pub no_address : ¬ LooksLikeAddress (labels_of bytes)
  pub no_port : ¬ All IsPort (take 1 (labels_of bytes))

-- a NameOfStation, or no name
abbrev pub IsNameOrNone : List ℕ → Type 0
IsNameOrNone bytes = (bytes ≡ []) ⊎ IsStationName bytes
