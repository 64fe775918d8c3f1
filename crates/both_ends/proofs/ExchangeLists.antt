-- Lists and their items.
use Rattle.std.proofs.Common.{◌≡◌, ℕ, zero, suc, Bool, true, false, cond, List, [], ◌∷◌, ◌++◌, length, Option, Some, None, refl, subst}
use Rattle.std.specs.Prelude.{slice_get}
use Rattle.std.specs.List.{AllByRecursion}

pub some_is : {A : Type 0} (x y : A) → Some x ≡ Some y → x ≡ y
some_is x y e = cc

pub none_some : {A : Type 0} (x : A) (o : Option A) → o ≡ None → o ≡ Some x → ⊥
none_some x o e f = absurd cc

-- an item at an index of the first list is at that index of the second
abbrev pub Extends : {A : Type 0} → List A → List A → Type 0
Extends {A = A} xs ys = (k : ℕ) (x : A) → slice_get xs k ≡ Some x → slice_get ys k ≡ Some x

pub unchanged : {A : Type 0} (xs : List A) → Extends xs xs
unchanged xs k x e = e

pub more_extends : {A : Type 0} (xs ys : List A) → Extends xs (xs ++ ys)
more_extends [] ys k x e = absurd cc
more_extends (z ∷ zs) ys zero x e = e
more_extends (z ∷ zs) ys (suc k) x e = more_extends zs ys k x e

pub at_end : {A : Type 0} (xs : List A) (y : A) → slice_get (xs ++ y ∷ []) (length xs) ≡ Some y
at_end [] y = refl
at_end (z ∷ zs) y = at_end zs y

pub each_behind : {A : Type 0} (P : A → Type 0) (xs more : List A) → AllByRecursion P xs → AllByRecursion P more → AllByRecursion P (xs ++ more)
each_behind P [] more all others = others
each_behind P (x ∷ xs) more all others = (all.0, each_behind P xs more all.1 others)

pub each_at : {A : Type 0} (P : A → Type 0) (xs : List A) (number : ℕ) (x : A) → AllByRecursion P xs → slice_get xs number ≡ Some x → P x
each_at P [] number x all there = absurd cc
each_at P (first ∷ xs) zero x all there = subst (λ y. P y) (some_is first x there) all.0
each_at P (first ∷ xs) (suc number) x all there = each_at P xs number x all.1 there

pub each_on : {A : Type 0} (P Q : A → Type 0) (xs : List A) → ((x : A) → P x → Q x) → AllByRecursion P xs → AllByRecursion Q xs
each_on P Q [] on all = tt
each_on P Q (x ∷ xs) on all = (on x all.0, each_on P Q xs on all.1)

-- what holds of both branches holds of the choice
pub holds_if : {A : Type 0} (P : A → Type 0) (b : Bool) (x y : A) → P x → P y → P (cond b x y)
holds_if P true x y one other = one
holds_if P false x y one other = other
