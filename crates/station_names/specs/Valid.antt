-- The rules of a name as a test, for functions of the specs. It is true exactly for a NameOfStation.
use Rattle.std.specs.Prelude.{◌-◌, ◌==◌, ◌&&◌, ◌||◌, ℕ, Bool, not, nat_lt, nat_le, nat_eq, List, [], ◌∷◌, length, take, drop, slice_index}
use Rattle.std.specs.List.{list_all}
use Rattle.std.specs.Cmp.Lexicographic.{pointwise}
use Rattle.pn_values.specs.StationName.{hyphen, is_digit, is_label_byte, labels_of}

-- the label has this byte at this index
abbrev pub has_byte : List ℕ → ℕ → ℕ → Bool
has_byte label place byte = nat_lt place (length label) && (slice_index label place == byte)

-- 1 to 63 bytes of a to z, 0 to 9 and '-'; the first and the last are not '-'
abbrev pub is_label : List ℕ → Bool
is_label label = nat_lt 0 (length label) && nat_le (length label) 63 && list_all is_label_byte label
    && not (has_byte label 0 hyphen) && not (has_byte label (length label - 1) hyphen)

-- one to three digits
abbrev pub is_address_part : List ℕ → Bool
is_address_part label = nat_lt 0 (length label) && nat_le (length label) 3 && list_all is_digit label

-- four labels of one to three digits each, as an IP address is written
abbrev pub looks_like_address : List (List ℕ) → Bool
looks_like_address labels = (length labels == 4) && list_all is_address_part labels

-- "port-" and three digits, optionally followed by '-' and five digits
abbrev pub is_port : List ℕ → Bool
is_port label = pointwise nat_eq (112 ∷ 111 ∷ 114 ∷ 116 ∷ hyphen ∷ []) (take 5 label) && list_all is_digit (take 3 (drop 5 label))
    && ((length label == 8) || ((length label == 14) && has_byte label 8 hyphen && list_all is_digit (drop 9 label)))

-- a NameOfStation
unfoldable pub is_station_name : List ℕ → Bool
is_station_name bytes = nat_le (length bytes) 240 && list_all is_label (labels_of bytes)
    && not (looks_like_address (labels_of bytes)) && not (list_all is_port (take 1 (labels_of bytes)))
