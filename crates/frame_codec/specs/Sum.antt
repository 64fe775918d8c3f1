-- The ones' complement sum of the Internet checksums (RFC 1071).
use Rattle.std.specs.Prelude.{◌+◌, ◌-◌, ◌*◌, ◌%◌, ◌==◌, ℕ, zero, suc, List, [], ◌∷◌, if◌then◌else◌}

-- the sum of the words of 16 bits, the high byte first; an odd last byte is followed by 0
abbrev pub words_total : List ℕ → ℕ
words_total [] = 0
words_total (high ∷ []) = 256 * high
words_total (high ∷ low ∷ rest) = 256 * high + low + words_total rest

-- a sum in 16 bits, each carry added at the low end: 0 for 0, else the number from 1 to 65,535 that equals it modulo
-- 65,535
abbrev pub carried : ℕ → ℕ
carried zero = 0
carried (suc n) = n % 65535 + 1

-- the ones' complement sum of the words
unfoldable pub ones_sum_of : List ℕ → ℕ
ones_sum_of bytes = carried (words_total bytes)

-- the value of a checksum's field, from the sum of all words with 0 in that field
abbrev pub complement : ℕ → ℕ
complement sum = 65535 - sum

-- the value of a checksum's field in which 0 means that there is no checksum: 65,535 is sent in place of 0
abbrev pub complement_of_sum : ℕ → ℕ
complement_of_sum sum = if sum == 65535 then 65535 else complement sum
