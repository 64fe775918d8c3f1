-- The records of a Write from its first one on.
use Rattle.std.proofs.Common.{◌≡◌, ◌≤◌, ℕ, zero, suc, List, [], ◌∷◌, length, take, drop, refl, ap, ◌∙◌, arith}

drop_all : {X : Type 0} (n : ℕ) (xs : List X) → length xs ≤ n → drop n xs ≡ []
drop_all zero [] few = refl
drop_all zero (x ∷ xs) few = absurd (omega (arith, few))
drop_all (suc n) [] few = refl
drop_all (suc n) (x ∷ xs) few = drop_all n xs (omega (arith, few))

take_none : {X : Type 0} (n : ℕ) → ◌≡◌ {A = List X} (take n []) []
take_none zero = refl
take_none (suc n) = refl

-- From the end of a list on nothing is left.
pub none_left : {X : Type 0} (k n : ℕ) (xs : List X) → length xs ≤ n → take k (drop n xs) ≡ []
none_left {X} k n xs few = ap (λ (ys : List X). take k ys) (drop_all n xs few) ∙ take_none k
