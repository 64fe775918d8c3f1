-- ASCII, byte by byte.
use Rattle.std.proofs.Common.{◌≡◌, ℕ, zero, suc, ◌≤◌, nat_lt, Bool, true, false, not, List, [], ◌∷◌, slice_index, arith, refl, sym}
use Rattle.std.specs.Prelude.{MatchBool}
use Rattle.std.specs.List.{list_any}
use Rattle.std.specs.Str.{IsAscii, IsNotAscii}
use Rattle.std.proofs.lemmas.Bool.Decides.{nat_tests}

pub all_ascii : (bytes : List ℕ) → IsAscii bytes → list_any (λ b. nat_lt 127 b) bytes ≡ false
all_ascii [] is = refl
all_ascii (byte ∷ bytes) is =
    let first = is 0 in
    let later = all_ascii bytes (λ i. is (suc i)) in
    grind (arith, nat_tests)

pub some_not_ascii : (bytes : List ℕ) (i : ℕ) → 128 ≤ slice_index bytes i → list_any (λ b. nat_lt 127 b) bytes ≡ true
some_not_ascii [] i is = absurd (omega (arith, is))
some_not_ascii (byte ∷ bytes) zero is = grind (arith, nat_tests)
some_not_ascii (byte ∷ bytes) (suc i) is =
    let later = some_not_ascii bytes i is in
    grind (arith, nat_tests)

pub not_ascii : (bytes : List ℕ) (is_ascii : Bool) → MatchBool is_ascii (IsAscii bytes) (IsNotAscii bytes) → not is_ascii ≡ list_any (λ b. nat_lt 127 b) bytes
not_ascii bytes true is = sym (all_ascii bytes is)
not_ascii bytes false is = sym (some_not_ascii bytes is.0 is.1)
