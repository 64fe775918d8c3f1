-- What holds of each item of a list.
use Rattle.std.proofs.Common.{◌≡◌, ℕ, zero, suc, List, [], ◌∷◌, ◌++◌, Some, subst}
use Rattle.std.specs.Prelude.{slice_get}
use Rattle.std.specs.List.{AllByRecursion}

module _ {A : Type 0} where
  pub some_is : (x y : A) → Some x ≡ Some y → x ≡ y
  some_is x y e = cc

  pub each_behind : (P : A → Type 0) (xs more : List A) → AllByRecursion P xs → AllByRecursion P more → AllByRecursion P (xs ++ more)
  each_behind P [] more all others = others
  each_behind P (x ∷ xs) more all others = (all.0, each_behind P xs more all.1 others)

  -- one in the middle has the property
  pub each_of : (P : A → Type 0) (xs : List A) (x : A) (more : List A) → AllByRecursion P (xs ++ x ∷ more) → P x
  each_of P [] x more all = all.0
  each_of P (other ∷ xs) x more all = each_of P xs x more all.1

  -- an item at an index has the property
  pub each_at : (P : A → Type 0) (xs : List A) (number : ℕ) (x : A) → AllByRecursion P xs → slice_get xs number ≡ Some x → P x
  each_at P [] number x all there = absurd cc
  each_at P (first ∷ xs) zero x all there = subst (λ (y : A). P y) (some_is first x there) all.0
  each_at P (first ∷ xs) (suc number) x all there = each_at P xs number x all.1 there
