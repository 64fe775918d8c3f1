-- Numbers as a script writes them.
use Rattle.std.specs.Prelude.{ℕ, ◌+◌, ◌-◌, ◌*◌, ◌%◌, ◌==◌, ◌||◌, ◌&&◌, Bool, nat_le, List, [], ◌∷◌, length, slice_index, if◌then◌else◌, Option, Some, None}

-- The ASCII codes of 0 to 9.
abbrev pub is_digit : ℕ → Bool
is_digit byte = nat_le 48 byte && nat_le byte 57

-- The number that decimal digits spell after others, if all of them are digits.
abbrev pub digits_from : ℕ → List ℕ → Option ℕ
digits_from number [] = Some number
digits_from number (digit ∷ digits) = if is_digit digit then digits_from (number * 10 + (digit - 48)) digits else None

-- A number that is at most `most`.
abbrev pub at_most : ℕ → Option ℕ → Option ℕ
at_most most None = None
at_most most (Some number) = if nat_le number most then Some number else None

-- The number that decimal digits spell, at least one of them, if it is at most `most`.
unfoldable pub number_of : ℕ → List ℕ → Option ℕ
number_of most digits = if length digits == 0 then None else at_most most (digits_from 0 digits)

-- The byte with this index in the endless repetition of some bytes.
abbrev pub turned : List ℕ → ℕ → ℕ
turned bytes place = slice_index bytes (place % length bytes)

-- A mask of 1, 2, 4 or 8 bytes, repeated to 8.
unfoldable pub repeated : List ℕ → Option (List ℕ)
repeated bytes =
    if length bytes == 1 || length bytes == 2 || length bytes == 4 || length bytes == 8
    then Some (turned bytes 0 ∷ turned bytes 1 ∷ turned bytes 2 ∷ turned bytes 3 ∷ turned bytes 4 ∷ turned bytes 5 ∷ turned bytes 6 ∷ turned bytes 7 ∷ [])
    else None
