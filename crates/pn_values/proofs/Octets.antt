-- Octets are equal if and only if the numbers that they make are.
use Rattle.std.proofs.Common.{◌≡◌, nat_eq, ℕ, ◌+◌, ◌*◌, ◌<◌, length, Bool, true, false, List, [], ◌∷◌, slice_index_or, arith, refl, sym, ap, ◌∙◌}
use Rattle.std.specs.Cmp.Lexicographic.{pointwise, same_text}
use Rattle.std.proofs.lemmas.Cmp.{nat_list_eq_equiv}
use Rattle.std.proofs.lemmas.Bool.{eqb-true, eq-eqb}

-- the lowest digit, and the number above it
digit : (a u r s : ℕ) → a < 256 → u < 256 → a + r * 256 ≡ u + s * 256 → (a ≡ u) × (r ≡ s)
digit a u r s i j e = (omega (arith, i, j, e), omega (arith, i, j, e))

-- if numbers are equal exactly when lists are, the tests of both agree
pub alike : (o p : List ℕ) (n m : ℕ) → (n ≡ m → o ≡ p) → (o ≡ p → n ≡ m) → nat_eq n m ≡ pointwise nat_eq o p
alike o p n m there back = cases (nat_eq n m) (pointwise nat_eq o p) refl refl
  where
    cases : (x y : Bool) → nat_eq n m ≡ x → pointwise nat_eq o p ≡ y → x ≡ y
    cases true true e h = refl
    cases false false e h = refl
    cases true false e h =
        let same = there (eqb-true n m e) in
        sym (nat_list_eq_equiv.refl o) ∙ ap (λ (q : List ℕ). pointwise nat_eq o q) same ∙ h
    cases false true e h = sym e ∙ eq-eqb n m (back (same_text o p (sym h)))

-- six octets, each by itself
listed : (o : List ℕ) → length o ≡ 6
    → o ≡ slice_index_or o 0 0 ∷ slice_index_or o 1 0 ∷ slice_index_or o 2 0 ∷ slice_index_or o 3 0 ∷ slice_index_or o 4 0 ∷ slice_index_or o 5 0 ∷ []
listed (a ∷ b ∷ c ∷ d ∷ e ∷ f ∷ []) l = refl
listed [] l = absurd (omega (arith, l))
listed (a ∷ []) l = absurd (omega (arith, l))
listed (a ∷ b ∷ []) l = absurd (omega (arith, l))
listed (a ∷ b ∷ c ∷ []) l = absurd (omega (arith, l))
listed (a ∷ b ∷ c ∷ d ∷ []) l = absurd (omega (arith, l))
listed (a ∷ b ∷ c ∷ d ∷ e ∷ []) l = absurd (omega (arith, l))
listed (a ∷ b ∷ c ∷ d ∷ e ∷ f ∷ g ∷ more) l = absurd (omega (arith, l))

-- the lowest octets of three numbers, and the parts above them
three : (a b c d u v w x : ℕ) → a < 256 → b < 256 → c < 256 → u < 256 → v < 256 → w < 256
    → a + b * 256 + c * 65536 + d * 16777216 ≡ u + v * 256 + w * 65536 + x * 16777216 → (a ≡ u) × (b ≡ v) × (c ≡ w) × (d ≡ x)
three a b c d u v w x i j k l m n e =
    let first = digit a u (b + (c + d * 256) * 256) (v + (w + x * 256) * 256) i l (omega (arith, e)) in
    let second = digit b v (c + d * 256) (w + x * 256) j m first.1 in
    let third = digit c w d x k n second.1 in
    (first.0, second.0, third.0, third.1)

-- six octets are equal if and only if their first four and their last two are
pub six : (o p : List ℕ) → length o ≡ 6 → length p ≡ 6
    → slice_index_or o 0 0 < 256 → slice_index_or o 1 0 < 256 → slice_index_or o 2 0 < 256 → slice_index_or o 4 0 < 256
    → slice_index_or p 0 0 < 256 → slice_index_or p 1 0 < 256 → slice_index_or p 2 0 < 256 → slice_index_or p 4 0 < 256
    → slice_index_or o 0 0 + slice_index_or o 1 0 * 256 + slice_index_or o 2 0 * 65536 + slice_index_or o 3 0 * 16777216
    ≡ slice_index_or p 0 0 + slice_index_or p 1 0 * 256 + slice_index_or p 2 0 * 65536 + slice_index_or p 3 0 * 16777216
    → slice_index_or o 4 0 + slice_index_or o 5 0 * 256 ≡ slice_index_or p 4 0 + slice_index_or p 5 0 * 256
    → o ≡ p
six o p l m i0 i1 i2 i4 j0 j1 j2 j4 four two =
    let low = three _ _ _ _ _ _ _ _ i0 i1 i2 j0 j1 j2 four in
    let high = digit _ _ _ _ i4 j4 two in
    listed o l ∙ rw (low.0, low.1, low.2, low.3, high.0, high.1) refl ∙ sym (listed p m)
