-- The stored answers of a device that at most three others call: the answer to the controller's activity remains.
use Rattle.std.proofs.Common.{◌≡◌, ◌≢◌, ◌||◌, ◌≤◌, ◌<◌, ℕ, zero, suc, Bool, true, false, nat_eq, List, [], ◌∷◌, length, take, if◌then◌else◌, Option, Some, None, refl, sym, ap, subst, ◌∙◌, arith}
use Rattle.std.specs.Prelude.{IsSome}
use Rattle.std.specs.List.{AllByRecursion}
use Rattle.std.specs.Cmp.Lexicographic.{pointwise, same_text, other_text}
use Rattle.rpc_core.specs.Cache.{Kept, is_of, kept_more, kept_of, without}
use Rattle.strangers_law.specs.Calling.{AreOf, FourReplace, IsRecent, is_among, newer, without_one}
use Rattle.strangers_law.specs.Strange.{same}

-- ---- activities

unlike : (b : Bool) → b ≡ true → b ≡ false → ⊥
unlike true is other = absurd cc
unlike false is other = absurd cc

itself : (activity : List ℕ) → pointwise nat_eq activity activity ≡ true
itself activity = by (pointwise nat_eq activity activity) refl
  where
    by : (b : Bool) → b ≡ pointwise nat_eq activity activity → pointwise nat_eq activity activity ≡ true
    by true e = sym e
    by false e = absurd (other_text activity activity e refl)

-- An activity that is in a list differs from one that is not.
pub differ : (own activity : List ℕ) (others : List (List ℕ)) → is_among own others ≡ false → is_among activity others ≡ true → activity ≢ own
differ own activity others apart among = λ e. unlike (is_among own others) (subst (λ a. is_among a others ≡ true) e among) apart

-- An activity that is in a list, and not the first of it, is in the rest.
among_rest : (activity other : List ℕ) (others : List (List ℕ)) → same other activity ≡ false → is_among activity (other ∷ others) ≡ true
    → is_among activity others ≡ true
among_rest activity other others e among = subst (λ b. (b || is_among activity others) ≡ true) e among

-- An activity that is in a list is in it without another one.
among_still : (one activity : List ℕ) (others : List (List ℕ)) → one ≢ activity → is_among activity others ≡ true
    → is_among activity (without_one one others) ≡ true
among_still one activity [] differs among = among
among_still one activity (other ∷ others) differs among =
    by (λ rest. among_still one activity others differs rest) (same other one) refl (same other activity) refl
  where
    by : (is_among activity others ≡ true → is_among activity (without_one one others) ≡ true) → (a : Bool) → same other one ≡ a
        → (b : Bool) → same other activity ≡ b → is_among activity (without_one one (other ∷ others)) ≡ true
    by more true e true f = absurd (differs (sym (same_text other one (sym e)) ∙ same_text other activity (sym f)))
    by more true e false f = rw e (among_rest activity other others f among)
    by more false e true f = rw (e, f) refl
    by more false e false f = rw (e, f) (more (among_rest activity other others f among))

fewer : (activity : List ℕ) (others : List (List ℕ)) → is_among activity others ≡ true → suc (length (without_one activity others)) ≡ length others
fewer activity [] among = absurd cc
fewer activity (other ∷ others) among = by (λ rest. fewer activity others rest) (same other activity) refl
  where
    by : (is_among activity others ≡ true → suc (length (without_one activity others)) ≡ length others) → (b : Bool) → same other activity ≡ b
        → suc (length (without_one activity (other ∷ others))) ≡ length (other ∷ others)
    by more true e = rw e refl
    by more false e = rw e (ap suc (more (among_rest activity other others e among)))

swapped : (one two : List ℕ) (others : List (List ℕ)) → one ≢ two → without_one one (without_one two others) ≡ without_one two (without_one one others)
swapped one two [] differs = refl
swapped one two (other ∷ others) differs = by (swapped one two others differs) (same other one) refl (same other two) refl
  where
    by : without_one one (without_one two others) ≡ without_one two (without_one one others) → (a : Bool) → same other one ≡ a → (b : Bool) → same other two ≡ b
        → without_one one (without_one two (other ∷ others)) ≡ without_one two (without_one one (other ∷ others))
    by more true e true f = absurd (differs (sym (same_text other one (sym e)) ∙ same_text other two (sym f)))
    by more true e false f = rw (e, f) (rw e refl)
    by more false e true f = rw (e, f) refl
    by more false e false f = rw (e, f) (rw e (ap (λ l. other ∷ l) more))

-- ---- answers of others

-- There are at most as many as there are others.
pub few_of : (others : List (List ℕ)) (calls : List Kept) → AreOf others calls → length calls ≤ length others
few_of others [] are = omega arith
few_of others (kept ∷ calls) are = omega (arith, few_of (without_one kept.activity others) calls are.1, fewer kept.activity others are.0)

of_still : (activity : List ℕ) (others : List (List ℕ)) (calls : List Kept) → is_among activity others ≡ true → AreOf others calls
    → AreOf (without_one activity others) (without activity calls)
of_still activity others [] among are = tt
of_still activity others (kept ∷ calls) among are =
    by (λ still. of_still activity (without_one kept.activity others) calls still are.1) (is_of activity kept) refl
  where
    by : (is_among activity (without_one kept.activity others) ≡ true
        → AreOf (without_one activity (without_one kept.activity others)) (without activity calls)) → (b : Bool) → is_of activity kept ≡ b
        → AreOf (without_one activity others) (without activity (kept ∷ calls))
    by more true e = rw e (subst (λ a. AreOf (without_one a others) calls) (same_text kept.activity activity (sym e)) are.1)
    by more false e =
        let differs : kept.activity ≢ activity = other_text kept.activity activity (sym e) in
        rw e (
          among_still activity kept.activity others (λ s. differs (sym s)) are.0,
          subst (λ l. AreOf l (without activity calls)) (swapped activity kept.activity others (λ s. differs (sym s)))
              (more (among_still kept.activity activity others differs among)),
        )

-- ---- the answer of an activity

module _ (own activity : List ℕ) (differs : activity ≢ own) where
  kept_without : (calls : List Kept) → kept_of own (without activity calls) ≡ kept_of own calls
  kept_without [] = refl
  kept_without (kept ∷ calls) = by (kept_without calls) (is_of activity kept) refl (is_of own kept) refl
    where
      by : kept_of own (without activity calls) ≡ kept_of own calls
          → (a : Bool) → is_of activity kept ≡ a → (b : Bool) → is_of own kept ≡ b
          → kept_of own (without activity (kept ∷ calls)) ≡ kept_of own (kept ∷ calls)
      by more true e true f = absurd (differs (sym (same_text kept.activity activity (sym e)) ∙ same_text kept.activity own (sym f)))
      by more true e false f = rw (e, f) refl
      by more false e true f = rw (e, f) refl
      by more false e false f = rw (e, f) more

  newer_without : (calls : List Kept) → newer own (without activity calls) ≡ without activity (newer own calls)
  newer_without [] = refl
  newer_without (kept ∷ calls) = by (newer_without calls) (is_of activity kept) refl (is_of own kept) refl
    where
      by : newer own (without activity calls) ≡ without activity (newer own calls)
          → (a : Bool) → is_of activity kept ≡ a → (b : Bool) → is_of own kept ≡ b
          → newer own (without activity (kept ∷ calls)) ≡ without activity (newer own (kept ∷ calls))
      by more true e true f = absurd (differs (sym (same_text kept.activity activity (sym e)) ∙ same_text kept.activity own (sym f)))
      by more true e false f = rw (e, f) (rw e refl)
      by more false e true f = rw (e, f) refl
      by more false e false f = rw (e, f) (rw e (ap (λ l. kept ∷ l) more))

-- Without the first answer, which is of another activity, one answer fewer is newer.
one_fewer : (own : List ℕ) (most : ℕ) (kept : Kept) (calls : List Kept) → is_of own kept ≡ false → length (newer own (kept ∷ calls)) < suc most
    → length (newer own calls) < most
one_fewer own most kept calls e few =
    let less : suc (length (newer own calls)) < suc most = subst (λ b. length (if b then [] else kept ∷ newer own calls) < suc most) e few in
    omega (arith, less)

kept_front : (own : List ℕ) (most : ℕ) (calls : List Kept) → length (newer own calls) < most → kept_of own (take most calls) ≡ kept_of own calls
kept_front own zero calls few = absurd (omega (arith, few))
kept_front own (suc most) [] few = refl
kept_front own (suc most) (kept ∷ calls) few = by (λ less. kept_front own most calls less) (is_of own kept) refl
  where
    by : (length (newer own calls) < most → kept_of own (take most calls) ≡ kept_of own calls) → (b : Bool) → is_of own kept ≡ b
        → kept_of own (take (suc most) (kept ∷ calls)) ≡ kept_of own (kept ∷ calls)
    by more true e = rw e refl
    by more false e = rw e (more (one_fewer own most kept calls e few))

newer_front : (own : List ℕ) (most : ℕ) (calls : List Kept) → length (newer own calls) < most → newer own (take most calls) ≡ newer own calls
newer_front own zero calls few = absurd (omega (arith, few))
newer_front own (suc most) [] few = refl
newer_front own (suc most) (kept ∷ calls) few = by (λ less. newer_front own most calls less) (is_of own kept) refl
  where
    by : (length (newer own calls) < most → newer own (take most calls) ≡ newer own calls) → (b : Bool) → is_of own kept ≡ b
        → newer own (take (suc most) (kept ∷ calls)) ≡ newer own (kept ∷ calls)
    by more true e = rw e refl
    by more false e = rw e (ap (λ l. kept ∷ l) (more (one_fewer own most kept calls e few)))

none_front : (own : List ℕ) (most : ℕ) (calls : List Kept) → kept_of own calls ≡ None → kept_of own (take most calls) ≡ None
none_front own zero calls none = refl
none_front own (suc most) [] none = refl
none_front own (suc most) (kept ∷ calls) none = by (λ rest. none_front own most calls rest) (is_of own kept) refl
  where
    by : (kept_of own calls ≡ None → kept_of own (take most calls) ≡ None) → (b : Bool) → is_of own kept ≡ b
        → kept_of own (take (suc most) (kept ∷ calls)) ≡ None
    by more true e = absurd (let some : Some kept ≡ None = subst (λ b. (if b then Some kept else kept_of own calls) ≡ None) e none in cc)
    by more false e = rw e (more (subst (λ b. (if b then Some kept else kept_of own calls) ≡ None) e none))

-- ---- one more answer

-- The answer of another activity is stored: the one of this activity remains, and only answers of others are newer.
pub record Remains (own : List ℕ) (others : List (List ℕ)) (calls later : List Kept) : Type 0 where
  pub kept : kept_of own later ≡ kept_of own calls
  pub recent : IsRecent own others later

module _ (own : List ℕ) (others : List (List ℕ)) (one : Kept) (calls : List Kept) (few : length others ≤ 3) (apart : is_among own others ≡ false)
    (among : is_among one.activity others ≡ true) (recent : IsRecent own others calls) where
  differs : one.activity ≢ own
  differs = differ own one.activity others apart among

  rest : List Kept
  rest = without one.activity calls

  not_own : is_of own one ≡ false
  not_own = by (is_of own one) refl
    where
      by : (b : Bool) → b ≡ is_of own one → is_of own one ≡ false
      by true e = absurd (differs (same_text one.activity own e))
      by false e = sym e

  stored : (found : Option Kept) → kept_of own calls ≡ found → Remains own others calls (kept_more 4 one calls)
  unfolding rest
  stored None is =
      let none : kept_of own (take 3 rest) ≡ None = none_front own 3 rest (kept_without own one.activity differs calls ∙ is) in
      let all : kept_of own (one ∷ take 3 rest) ≡ None =
      subst (λ b. (if b then Some one else kept_of own (take 3 rest)) ≡ None) (sym not_own) none in
      record { kept = all ∙ sym is; recent = λ some. absurd (let held : IsSome (kept_of own (one ∷ take 3 rest)) = some in nothing _ all held) }
    where
      nothing : (found : Option Kept) → found ≡ None → IsSome found → ⊥
      nothing None e some = absurd cc
      nothing (Some kept) e some = absurd cc
  stored (Some kept) is =
      let some : IsSome (kept_of own calls) = subst (λ (o : Option Kept). IsSome o) (sym is) refl in
      let are : AreOf (without_one one.activity others) (without one.activity (newer own calls)) =
      of_still one.activity others (newer own calls) among (recent some) in
      let newer_rest : newer own rest ≡ without one.activity (newer own calls) = newer_without own one.activity differs calls in
      let short : length (newer own rest) < 3 =
      omega (
        arith,
        few,
        fewer one.activity others among,
        few_of (without_one one.activity others) (without one.activity (newer own calls)) are,
        ap length newer_rest,
      ) in
      let kept_is : kept_of own (take 3 rest) ≡ kept_of own calls = kept_front own 3 rest short ∙ kept_without own one.activity differs calls in
      let newer_is : newer own (take 3 rest) ≡ without one.activity (newer own calls) = newer_front own 3 rest short ∙ newer_rest in
      record {
        kept = subst (λ b. (if b then Some one else kept_of own (take 3 rest)) ≡ kept_of own calls) (sym not_own) kept_is;
        recent = λ _. subst (λ b. AreOf others (if b then [] else one ∷ newer own (take 3 rest))) (sym not_own)
            (among, subst (AreOf (without_one one.activity others)) (sym newer_is) are);
      }

  pub other_stored : Remains own others calls (kept_more 4 one calls)
  other_stored = stored (kept_of own calls) refl

-- The answer of this activity is stored: it is the same whatever was stored before, and none is newer.
pub own_first : (own : List ℕ) (one : Kept) (calls : List Kept) → one.activity ≡ own → kept_of own (kept_more 4 one calls) ≡ Some one
own_first own one calls is =
    let test : is_of own one ≡ true = subst (λ a. pointwise nat_eq one.activity a ≡ true) is (itself one.activity) in
    subst (λ b. (if b then Some one else kept_of own (take 3 (without one.activity calls))) ≡ Some one) (sym test) refl

pub own_recent : (own : List ℕ) (others : List (List ℕ)) (one : Kept) (calls : List Kept) → one.activity ≡ own → IsRecent own others (kept_more 4 one calls)
own_recent own others one calls is =
    let test : is_of own one ≡ true = subst (λ a. pointwise nat_eq one.activity a ≡ true) is (itself one.activity) in
    λ _. subst (λ b. AreOf others (if b then [] else one ∷ newer own (take 3 (without one.activity calls)))) (sym test) tt

-- ---- four other activities

-- If no answer is of an activity, none is removed for it.
without_none : (activity : List ℕ) (calls : List Kept) → AllByRecursion (λ other. is_of activity other ≡ false) calls → without activity calls ≡ calls
without_none activity [] none = refl
without_none activity (kept ∷ calls) none = rw none.0 (ap (λ l. kept ∷ l) (without_none activity calls none.1))

-- Two activities differ in either order.
turned : (kept other : Kept) → is_of other.activity kept ≡ false → is_of kept.activity other ≡ false
turned kept other e = by (is_of kept.activity other) refl
  where
    by : (b : Bool) → b ≡ is_of kept.activity other → is_of kept.activity other ≡ false
    by true f = absurd (other_text kept.activity other.activity (sym e) (sym (same_text other.activity kept.activity f)))
    by false f = sym f

passed : (kept other : Kept) (calls : List Kept) → is_of other.activity kept ≡ false → kept_of kept.activity calls ≡ None → kept_of kept.activity (other ∷ calls) ≡ None
passed kept other calls e none = rw (turned kept other e) none

pub four_replace : FourReplace
four_replace kept one two three four apart =
    let first : kept_more 4 one (kept ∷ []) ≡ one ∷ kept ∷ [] = ap (λ l. one ∷ take 3 l) (without_none one.activity (kept ∷ []) apart.1.1.1.0) in
    let second : kept_more 4 two (one ∷ kept ∷ []) ≡ two ∷ one ∷ kept ∷ [] = ap (λ l. two ∷ take 3 l) (without_none two.activity (one ∷ kept ∷ []) apart.1.1.0) in
    let third : kept_more 4 three (two ∷ one ∷ kept ∷ []) ≡ three ∷ two ∷ one ∷ kept ∷ [] =
    ap (λ l. three ∷ take 3 l) (without_none three.activity (two ∷ one ∷ kept ∷ []) apart.1.0) in
    let fourth : kept_more 4 four (three ∷ two ∷ one ∷ kept ∷ []) ≡ four ∷ three ∷ two ∷ one ∷ [] =
    ap (λ l. four ∷ take 3 l) (without_none four.activity (three ∷ two ∷ one ∷ kept ∷ []) apart.0) in
    ap (kept_of kept.activity) (ap (λ l. kept_more 4 four (kept_more 4 three (kept_more 4 two l))) first
    ∙ ap (λ l. kept_more 4 four (kept_more 4 three l)) second ∙ ap (kept_more 4 four) third ∙ fourth)
    ∙ passed kept four (three ∷ two ∷ one ∷ []) apart.0.1.1.1.0
    (passed kept three (two ∷ one ∷ []) apart.1.0.1.1.0 (passed kept two (one ∷ []) apart.1.1.0.1.0 (passed kept one [] apart.1.1.1.0.0 refl)))
