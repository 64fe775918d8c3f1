-- The test of a suite is true exactly for a suite that a station may have.
use Rattle.std.proofs.Common.{◌≡◌, ◌+◌, ◌^◌, ◌<◌, ◌≤◌, ◌&&◌, ℕ, Bool, List, [], ◌∷◌, length, get_or, refl, sym, ap, ◌∙◌, subst, arith, eqb, leb, zero-add}
use Rattle.std.specs.Prelude.{slice_index}
use Rattle.std.specs.Bool.{Decides}
use Rattle.std.specs.List.{HoldsAt, list_any, range_with_len}
use Rattle.std.specs.Int.{w32, from_be_bytes}
use Rattle.std.specs.Cmp.Lexicographic.{bytes_decides}
use Rattle.std.proofs.lemmas.Bool.Decides.{nat_tests, Decides-like, Decides-and, Decides-or, Decides-eqb, Decides-by_or}
use Rattle.std.proofs.lemmas.List.FromFn.{get_or-range_with_len}
use Rattle.pn_values.specs.IpSuite.{Suite, zero_suite, IsMask, IsHost, IsSuite, is_mask, is_zero, is_host, is_suite}

Decides-leb : (a b : ℕ) → Decides (leb a b) (a ≤ b)
Decides-leb a b = grind (arith, nat_tests)

-- the sum that shows a mask with this many zeros
abbrev is_ones : ℕ → ℕ → Bool
is_ones number zeros = eqb (number + 2 ^ zeros) (2 ^ 32)

mask_back : (number : ℕ) → (k : ℕ) × (k < length (range_with_len 0 33)) × HoldsAt (λ zeros. number + 2 ^ zeros ≡ 2 ^ 32) (range_with_len 0 33) k
    → (zeros : ℕ) × (zeros ≤ 32) × (number + 2 ^ zeros ≡ 2 ^ 32)
mask_back number (k, below, holds) =
    let here : get_or (range_with_len 0 33) k 0 ≡ k = get_or-range_with_len 0 33 k 0 below ∙ zero-add k in
    (k, omega arith, subst (λ (n : ℕ). number + 2 ^ n ≡ 2 ^ 32) here (holds 0))

mask_there : (number : ℕ) → (zeros : ℕ) × (zeros ≤ 32) × (number + 2 ^ zeros ≡ 2 ^ 32)
    → (k : ℕ) × (k < length (range_with_len 0 33)) × HoldsAt (λ zeros. number + 2 ^ zeros ≡ 2 ^ 32) (range_with_len 0 33) k
mask_there number (k, below, e) =
    (k, omega arith, λ d. subst (λ (n : ℕ). number + 2 ^ n ≡ 2 ^ 32) (sym (get_or-range_with_len 0 33 k d (omega arith) ∙ zero-add k)) e)

Decides-mask : (mask : List ℕ) → Decides (is_mask mask) (IsMask mask)
Decides-mask mask =
    let number : ℕ = from_be_bytes w32 mask in
    Decides-like (is_mask mask) (mask_back number) (mask_there number)
    (Decides-by_or (is_ones number) (λ zeros. number + 2 ^ zeros ≡ 2 ^ 32) (list_any (is_ones number))
    (λ zeros. Decides-eqb (number + 2 ^ zeros) (2 ^ 32)) refl (λ _ _. refl) (range_with_len 0 33))

Decides-host : (byte : ℕ) → Decides (is_host byte) (IsHost byte)
Decides-host byte =
    Decides-or _ _ (Decides-and _ _ (Decides-leb 1 byte) (Decides-leb byte 126))
    (Decides-and _ _ (Decides-leb 128 byte) (Decides-leb byte 223))

abbrev zeros : List ℕ
zeros = 0 ∷ 0 ∷ 0 ∷ 0 ∷ []

zero_back : (suite : Suite) → ((suite.address ≡ zeros) × (suite.mask ≡ zeros)) × (suite.gateway ≡ zeros) → suite ≡ zero_suite
zero_back suite ((a, m), g) = λ i. record { address = a i; mask = m i; gateway = g i }

zero_there : (suite : Suite) → suite ≡ zero_suite → ((suite.address ≡ zeros) × (suite.mask ≡ zeros)) × (suite.gateway ≡ zeros)
zero_there suite e = ((ap (λ s. s.address) e, ap (λ s. s.mask) e), ap (λ s. s.gateway) e)

pub Decides-suite : (suite : Suite) → Decides (is_suite suite) (IsSuite suite)
unfolding is_suite
Decides-suite suite =
    Decides-and _ _ (Decides-mask suite.mask)
    (Decides-or _ _
    (Decides-like (is_zero suite.address && is_zero suite.mask && is_zero suite.gateway) (zero_back suite) (zero_there suite)
    (Decides-and _ _ (Decides-and _ _ (bytes_decides suite.address zeros) (bytes_decides suite.mask zeros)) (bytes_decides suite.gateway zeros)))
    (Decides-host (slice_index suite.address 0)))
