-- The frames of a controller, and then those of its services, by their places.
use Rattle.std.proofs.Common.{◌≡◌, ◌+◌, ◌<◌, ◌≤◌, ◌++◌, ℕ, List, [], ◌∷◌, length, map, drop, get_or, refl, sym, ap, ◌∙◌, arith, length-append}
use Rattle.std.proofs.Math.ListN.{get_or-map}
use Rattle.std.proofs.lemmas.List.{drop_more, drop_all, drop-drop, drop_at, drop-append-le, length-map}

-- The item at a place of a mapped list is the first item after dropping the items before it.
at_place : {A B : Type 0} (f : A → B) (known : List A) (n : ℕ) (one : A) → n < length known → one ≡ get_or known n one → (rest : List B) × (drop n (map f known) ≡ f one ∷ rest)
at_place f known n one some at =
    let long = length-map known f in
    let here = drop_more (map f known) n (f one) (omega (arith, some, long)) in
    (drop (n + 1) (map f known), here ∙ ap (λ x. x ∷ drop (n + 1) (map f known)) (get_or-map f known n one ∙ ap f (sym at)))

pub first_at : {A B : Type 0} (f : A → B) (known : List A) (others : List B) (n : ℕ) (one : A) → n < length known → one ≡ get_or known n one → (rest : List B) × (drop n (map f known ++ others) ≡ f one ∷ rest)
first_at f known others n one some at =
    let here = at_place f known n one some at in
    (here.0 ++ others, drop-append-le n (map f known) others (omega (arith, some, length-map known f)) ∙ ap (λ frames. frames ++ others) here.1)

pub second_at : {A B : Type 0} (f : A → B) (before : List B) (known : List A) (n k : ℕ) (one : A) → n ≡ length before + k → k < length known → one ≡ get_or known k one
    → (rest : List B) × (drop n (before ++ map f known) ≡ f one ∷ rest)
second_at f before known n k one e some at =
    let here = at_place f known k one some at in (
      here.0,
      ap (λ n. drop n (before ++ map f known)) e ∙ sym (drop-drop k (length before) (before ++ map f known))
          ∙ ap (drop k) (drop_at before (map f known) (length before) refl) ∙ here.1,
    )

pub none_at : {A : Type 0} (before others : List A) (n : ℕ) → length before + length others ≤ n → drop n (before ++ others) ≡ []
none_at before others n none = drop_all n (before ++ others) (omega (arith, none, length-append before others))
