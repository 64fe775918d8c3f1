-- What holds of each item of a list.
use Rattle.std.proofs.Common.{sym, ◌≡◌, inl, inr, ◌≤◌, ℕ, zero, suc, Bool, true, false, cond, List, [], ◌∷◌, ◌++◌, length, Some, refl, ap, ◌∙◌, subst, arith}
use Rattle.std.specs.List.{AllByRecursion, filter}
use Rattle.std.specs.Prelude.{slice_get}
use Rattle.end_laws.specs.both.Steps.{IsPart}

module _ {A : Type 0} where
  some_is : (x y : A) → Some x ≡ Some y → x ≡ y
  some_is x y e = cc

  -- what follows for each item follows for all items
  pub each_so : (P Q : A → Type 0) → ((x : A) → P x → Q x) → (xs : List A) → AllByRecursion P xs → AllByRecursion Q xs
  each_so P Q so [] all = tt
  each_so P Q so (x ∷ xs) all = (so x all.0, each_so P Q so xs all.1)

  pub each_behind : (P : A → Type 0) (xs more : List A) → AllByRecursion P xs → AllByRecursion P more → AllByRecursion P (xs ++ more)
  each_behind P [] more all others = others
  each_behind P (x ∷ xs) more all others = (all.0, each_behind P xs more all.1 others)

  -- an item at an index has the property
  pub each_at : (P : A → Type 0) (xs : List A) (number : ℕ) (x : A) → AllByRecursion P xs → slice_get xs number ≡ Some x → P x
  each_at P [] number x all there = absurd cc
  each_at P (first ∷ xs) zero x all there = subst (λ (y : A). P y) (some_is first x there) all.0
  each_at P (first ∷ xs) (suc number) x all there = each_at P xs number x all.1 there

  -- ---- some items of a list, in order

  pub none_is : (xs : List A) → length xs ≤ 0 → xs ≡ []
  none_is [] few = refl
  none_is (x ∷ xs) few = absurd (omega (arith, few))

  pub part_all : (all : List A) → IsPart all all
  part_all [] = refl
  part_all (x ∷ all) = inl (refl, part_all all)

  -- with one more before the others
  pub part_more : (some : List A) (x : A) (all : List A) → IsPart some all → IsPart some (x ∷ all)
  part_more [] x all part = tt
  part_more (y ∷ some) x all part = inr part

  -- they are no more, and if they are as many, they are all
  pub part_few : (some all : List A) → IsPart some all → length some ≤ length all
  part_few some [] part = omega (arith, ap length part)
  part_few [] (x ∷ all) part = omega arith
  part_few (y ∷ some) (x ∷ all) (inl part) = omega (arith, part_few some all part.1)
  part_few (y ∷ some) (x ∷ all) (inr part) = omega (arith, part_few (y ∷ some) all part)

  part_none : (all : List A) → IsPart [] all
  part_none [] = refl
  part_none (x ∷ all) = tt

  -- some of a list are some of a longer one, and some of each of two lists are some of both
  pub part_front : (some all rest : List A) → IsPart some all → IsPart some (all ++ rest)
  part_front some [] rest part = subst (λ (xs : List A). IsPart xs rest) (sym part) (part_none rest)
  part_front [] (x ∷ all) rest part = tt
  part_front (y ∷ some) (x ∷ all) rest (inl part) = inl (part.0, part_front some all rest part.1)
  part_front (y ∷ some) (x ∷ all) rest (inr part) = inr (part_front (y ∷ some) all rest part)

  pub part_both : (some all more others : List A) → IsPart some all → IsPart more others → IsPart (some ++ more) (all ++ others)
  part_both some [] more others part next = subst (λ (xs : List A). IsPart (xs ++ more) others) (sym part) next
  part_both [] (x ∷ all) more others part next = part_more more x (all ++ others) (part_both [] all more others (part_none all) next)
  part_both (y ∷ some) (x ∷ all) more others (inl part) next = inl (part.0, part_both some all more others part.1 next)
  part_both (y ∷ some) (x ∷ all) more others (inr part) next = inr (part_both (y ∷ some) all more others part next)

  -- some of some of a list are some of it, and so are those that pass a test
  pub part_past : (few some all : List A) → IsPart few some → IsPart some all → IsPart few all
  part_past few some [] part other = subst (λ (xs : List A). IsPart few xs) other part
  part_past [] some (z ∷ all) part other = tt
  part_past (x ∷ few) [] (z ∷ all) part other = absurd cc
  part_past (x ∷ few) (y ∷ some) (z ∷ all) part (inr other) = inr (part_past (x ∷ few) (y ∷ some) all part other)
  part_past (x ∷ few) (y ∷ some) (z ∷ all) (inl part) (inl other) = inl (part.0 ∙ other.0, part_past few some all part.1 other.1)
  part_past (x ∷ few) (y ∷ some) (z ∷ all) (inr part) (inl other) = inr (part_past (x ∷ few) some all part other.1)

  part_if : (keeps : Bool) (x : A) (some all : List A) → IsPart some all → IsPart (cond keeps (x ∷ some) some) (x ∷ all)
  part_if true x some all part = inl (refl, part)
  part_if false x some all part = part_more some x all part

  pub part_filter : (stays : A → Bool) (all : List A) → IsPart (filter stays all) all
  part_filter stays [] = refl
  part_filter stays (x ∷ all) = part_if (stays x) x (filter stays all) all (part_filter stays all)

  pub part_whole : (some all : List A) → IsPart some all → length all ≤ length some → some ≡ all
  part_whole some [] part enough = part
  part_whole [] (x ∷ all) part enough = absurd (omega (arith, enough))
  part_whole (y ∷ some) (x ∷ all) (inl part) enough =
      ap (λ (z : A). z ∷ some) part.0 ∙ ap (λ (zs : List A). x ∷ zs) (part_whole some all part.1 (omega (arith, enough)))
  part_whole (y ∷ some) (x ∷ all) (inr part) enough = absurd (omega (arith, enough, part_few (y ∷ some) all part))
