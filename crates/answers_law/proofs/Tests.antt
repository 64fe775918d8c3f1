-- Tests, and what follows of each result.
use Rattle.std.proofs.Common.{◌≡◌, ℕ, Bool, true, false, nat_eq, List, Some, Result, Ok, Err, refl, sym, ap, ◌∙◌}
use Rattle.std.specs.Cmp.Lexicographic.{pointwise}
use Rattle.end_laws.proofs.CyclicAccepting.{octets_same, same_octets}

-- By the result of a test.
pub by_test : {A : Type 0} (b : Bool) → (b ≡ true → A) → (b ≡ false → A) → A
by_test true one other = one refl
by_test false one other = other refl

-- A test that fails does not hold.
pub no_false : false ≡ true → ⊥
no_false is = cc

-- Two lists that are not the same, by their test.
pub differ : (one other : List ℕ) → (one ≡ other → ⊥) → pointwise nat_eq one other ≡ false
differ one other apart = by_test (pointwise nat_eq one other) (λ is. absurd (apart (octets_same one other is))) (λ is. is)

pub test_same : (one other : List ℕ) → one ≡ other → pointwise nat_eq one other ≡ true
test_same one other is = ap (λ (l : List ℕ). pointwise nat_eq one l) (sym is) ∙ same_octets one

-- What holds of two values that were read.
pub ok_same : {A E : Type 0} (a b : A) → (let r : Result A E = Ok a in r) ≡ Ok b → a ≡ b
ok_same a b is = cc

pub no_ok : {A E : Type 0} (a : A) (e : E) → (let r : Result A E = Err e in r) ≡ Ok a → ⊥
no_ok a e is = cc

pub some_same : {A : Type 0} (a b : A) → Some a ≡ Some b → a ≡ b
some_same a b is = cc
