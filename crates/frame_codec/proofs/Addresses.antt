-- An address that is written as two numbers.
use Rattle.std.proofs.Common.{◌≡◌, ℕ, zero, suc, ◌<◌, length, List, [], ◌∷◌, ◌++◌, slice_index_or, arith, refl, ap₂, get_or}
use Rattle.std.proofs.lemmas.Nat.{le_bytes_2, le_bytes_4}
use Rattle.std.specs.Int.{w16, w32, from_le_bytes, to_le_bytes}

-- the octets of a number that was made of two octets are those octets
two : (a b n : ℕ) → a < 256 → b < 256 → n ≡ from_le_bytes w16 (a ∷ b ∷ []) → to_le_bytes w16 n ≡ a ∷ b ∷ []
two a b n i j is = le_bytes_2 (a ∷ b ∷ []) n refl small is
  where
    small : (k : ℕ) → get_or (a ∷ b ∷ []) k 0 < 256
    small zero = i
    small (suc zero) = j
    small (suc (suc k)) = omega arith

four : (a b c d n : ℕ) → a < 256 → b < 256 → c < 256 → d < 256 → n ≡ from_le_bytes w32 (a ∷ b ∷ c ∷ d ∷ [])
    → to_le_bytes w32 n ≡ a ∷ b ∷ c ∷ d ∷ []
four a b c d n i j k l is = le_bytes_4 (a ∷ b ∷ c ∷ d ∷ []) n refl small is
  where
    small : (m : ℕ) → get_or (a ∷ b ∷ c ∷ d ∷ []) m 0 < 256
    small zero = i
    small (suc zero) = j
    small (suc (suc zero)) = k
    small (suc (suc (suc zero))) = l
    small (suc (suc (suc (suc m)))) = omega arith

-- the octets of both numbers are the address
pub both : (o : List ℕ) (n m : ℕ) → length o ≡ 6 → slice_index_or o 0 0 < 256 → slice_index_or o 1 0 < 256
    → slice_index_or o 2 0 < 256 → slice_index_or o 3 0 < 256 → slice_index_or o 4 0 < 256 → slice_index_or o 5 0 < 256
    → n ≡ from_le_bytes w16 (slice_index_or o 0 0 ∷ slice_index_or o 1 0 ∷ [])
    → m ≡ from_le_bytes w32 (slice_index_or o 2 0 ∷ slice_index_or o 3 0 ∷ slice_index_or o 4 0 ∷ slice_index_or o 5 0 ∷ [])
    → to_le_bytes w16 n ++ to_le_bytes w32 m ≡ o
both (a ∷ b ∷ c ∷ d ∷ e ∷ f ∷ []) n m l i0 i1 i2 i3 i4 i5 is_n is_m =
    ap₂ (λ (x y : List ℕ). x ++ y) (two a b n i0 i1 is_n) (four c d e f m i2 i3 i4 i5 is_m)
both [] n m l i0 i1 i2 i3 i4 i5 is_n is_m = absurd (omega (arith, l))
both (a ∷ []) n m l i0 i1 i2 i3 i4 i5 is_n is_m = absurd (omega (arith, l))
both (a ∷ b ∷ []) n m l i0 i1 i2 i3 i4 i5 is_n is_m = absurd (omega (arith, l))
both (a ∷ b ∷ c ∷ []) n m l i0 i1 i2 i3 i4 i5 is_n is_m = absurd (omega (arith, l))
both (a ∷ b ∷ c ∷ d ∷ []) n m l i0 i1 i2 i3 i4 i5 is_n is_m = absurd (omega (arith, l))
both (a ∷ b ∷ c ∷ d ∷ e ∷ []) n m l i0 i1 i2 i3 i4 i5 is_n is_m = absurd (omega (arith, l))
both (a ∷ b ∷ c ∷ d ∷ e ∷ f ∷ g ∷ more) n m l i0 i1 i2 i3 i4 i5 is_n is_m = absurd (omega (arith, l))
