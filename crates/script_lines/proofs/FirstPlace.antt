-- The first index of a byte.
use Rattle.std.proofs.Common.{◌≡◌, ℕ, ◌==◌, Bool, true, false, List, length, Option, Some, None, arith, refl}
use Rattle.std.specs.List.{position, position_or_len}
use Rattle.std.proofs.lemmas.List.Sums.{position_or_len_is}
use Rattle.std.proofs.lemmas.Bool.Decides.{nat_tests}
use Rattle.memchr.specs.Find.{IsFirstByte, is_byte}

fails : (b : Bool) → ¬ (b ≡ true) → b ≡ false
fails true is = absurd (is refl)
fails false is = refl

pub first_place : (wanted : ℕ) (bytes : List ℕ) (found : Option ℕ) → IsFirstByte (is_byte wanted) bytes found → found ≡ position (λ b. b == wanted) bytes
first_place wanted bytes None is =
    let at : position_or_len (λ b. b == wanted) bytes ≡ length bytes =
    position_or_len_is (λ b. b == wanted) bytes (length bytes) 0 (omega arith) (λ k below. fails _ (is k (omega arith) below)) (λ below. absurd (omega (arith, below))) in
    grind (arith, nat_tests)
first_place wanted bytes (Some place) is =
    let at : position_or_len (λ b. b == wanted) bytes ≡ place =
    position_or_len_is (λ b. b == wanted) bytes place 0 (omega (arith, is.0.high)) (λ k below. fails _ (is.0.before k (omega arith) below)) (λ below. is.1) in
    grind (arith, nat_tests, is.0.high)
