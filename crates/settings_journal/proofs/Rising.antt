-- The effect of bits that rise from 0 to 1 on a number and on a head: a stored generation becomes smaller, and a closed
-- gate stays closed.
use Rattle.std.proofs.Common.{◌≡◌, ◌⊎◌, ℕ, ◌+◌, ◌*◌, ◌<◌, ◌≤◌, List, [], ◌∷◌, get_or, min, refl, ◌∙◌, inl, inr, arith}
use Rattle.std.specs.Prelude.{slice_range, bit_and}
use Rattle.std.specs.Int.{w16, bit_at, from_be_bytes}
use Rattle.std.proofs.lemmas.Nat.{and_le_l}
use Rattle.std.proofs.lemmas.Nat.Bits.{bit_at_and, bit_at-lt, same_from_bits}
use Rattle.settings_journal.specs.Head.{gate_of, generation_at, Rises}

covers : (old new : ℕ) → old < 2 → (new ≡ old) ⊎ (new ≡ 1) → min new old ≡ old
covers old new h (inl e) = omega arith
covers old new h (inr e) = omega arith

-- a number whose bits rose is not smaller
pub rises-le : (old new : ℕ) → ((bit : ℕ) → (bit_at new bit ≡ bit_at old bit) ⊎ (bit_at new bit ≡ 1)) → old ≤ new
rises-le old new h =
    let same : bit_and new old ≡ old = same_from_bits _ _ (λ i. bit_at_and new old i ∙ covers _ _ (bit_at-lt old i) (h i)) in
    rw same at (and_le_l new old)

risen : (a b c : ℕ) → (b ≡ a) ⊎ (b ≡ 1) → (c ≡ b) ⊎ (c ≡ 1) → (c ≡ a) ⊎ (c ≡ 1)
risen a b c (inl e) (inl f) = inl (f ∙ e)
risen a b c (inr e) (inl f) = inr (f ∙ e)
risen a b c h (inr f) = inr f

-- no bit has to rise
pub Rises-refl : (head : List ℕ) → Rises head head
Rises-refl head = record { length = refl; each = λ place bit. inl refl }

-- bits that rise twice have risen
pub Rises-trans : (old mid new : List ℕ) → Rises old mid → Rises mid new → Rises old new
Rises-trans old mid new r s = record {
  length = s.length ∙ r.length;
  each = λ place bit. risen _ _ _ (r.each place bit) (s.each place bit);
}

-- the two bytes that store the generation
pub stored_bytes : (head : List ℕ) → from_be_bytes w16 (slice_range head 4 6) ≡ get_or head 4 0 * 256 + get_or head 5 0
stored_bytes [] = refl
stored_bytes (a ∷ []) = refl
stored_bytes (a ∷ b ∷ []) = refl
stored_bytes (a ∷ b ∷ c ∷ []) = refl
stored_bytes (a ∷ b ∷ c ∷ d ∷ []) = refl
stored_bytes (a ∷ b ∷ c ∷ d ∷ e ∷ []) = omega arith
stored_bytes (a ∷ b ∷ c ∷ d ∷ e ∷ f ∷ rest) = omega arith

-- the generation does not become greater
pub generation_at-risen : (old new : List ℕ) → Rises old new → generation_at new ≤ generation_at old
generation_at-risen old new r =
    let high : get_or old 4 0 ≤ get_or new 4 0 = rises-le _ _ (r.each 4) in
    let low : get_or old 5 0 ≤ get_or new 5 0 = rises-le _ _ (r.each 5) in
    rw (stored_bytes old, stored_bytes new) (omega arith)

-- a gate that is open was open before
pub gate-risen : (old new : List ℕ) → Rises old new → gate_of new ≡ 0 → gate_of old ≡ 0
gate-risen old new r h =
    let le : get_or old 511 0 ≤ get_or new 511 0 = rises-le _ _ (r.each 511) in
    omega arith
