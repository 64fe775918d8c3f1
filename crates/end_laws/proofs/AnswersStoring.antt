-- What holds of each stored answer, before and after one more is stored.
use Rattle.std.proofs.Common.{◌≡◌, ◌==◌, ℕ, zero, suc, Bool, true, false, cond, nat_lt, List, [], ◌∷◌, take, Option, Some, None, refl, subst}
use Rattle.std.proofs.lemmas.Bool.{cond_both}
use Rattle.std.specs.List.{AllByRecursion}
use Rattle.rpc_core.specs.Cache.{Kept, new, again, old, is_of, kept_of, reported_by, looked, without, kept_more}

module _ (P : List ℕ → Type 0) where
  abbrev pub Each : List Kept → Type 0
  Each calls = AllByRecursion (λ (kept : Kept). P kept.frame) calls

  each_without : (activity : List ℕ) (calls : List Kept) → Each calls → Each (without activity calls)
  each_without activity [] all = tt
  each_without activity (kept ∷ others) all =
      cond_both (is_of activity kept) _ _ Each (λ _. all.1) (λ _. (all.0, each_without activity others all.1))

  each_taken : (number : ℕ) (calls : List Kept) → Each calls → Each (take number calls)
  each_taken zero [] all = tt
  each_taken zero (kept ∷ others) all = tt
  each_taken (suc number) [] all = tt
  each_taken (suc number) (kept ∷ others) all = (all.0, each_taken number others all.1)

  -- one more answer is stored
  pub each_more : (kept : Kept) (calls : List Kept) → P kept.frame → Each calls → Each (kept_more 4 kept calls)
  each_more kept calls one all = (one, each_taken 3 (without kept.activity calls) (each_without kept.activity calls all))

  some_is : (one other : Kept) → Some one ≡ Some other → one ≡ other
  some_is one other e = cc

  each_of : (activity : List ℕ) (calls : List Kept) (kept : Kept) → Each calls → kept_of activity calls ≡ Some kept → P kept.frame
  each_of activity [] kept all there = absurd cc
  each_of activity (first ∷ others) kept all there = by_name (is_of activity first) (each_of activity others kept all.1) there
    where
      by_name : (b : Bool) → (kept_of activity others ≡ Some kept → P kept.frame) → cond b (Some first) (kept_of activity others) ≡ Some kept → P kept.frame
      by_name true later e = subst (λ (k : Kept). P k.frame) (some_is first kept e) all.0
      by_name false later e = later e

  same_frame : (one other : List ℕ) → again one ≡ again other → one ≡ other
  same_frame one other e = cc

  -- the frame of a stored answer that is sent again
  pub each_again : (activity : List ℕ) (sequence : ℕ) (calls : List Kept) (frame : List ℕ) → Each calls → looked activity sequence calls ≡ again frame → P frame
  each_again activity sequence calls frame all reported = by_kept (kept_of activity calls) refl reported
    where
      by_order : (b : Bool) → cond b old new ≡ again frame → ⊥
      by_order true e = absurd cc
      by_order false e = absurd cc

      by_number : (b : Bool) (kept : Kept) → kept_of activity calls ≡ Some kept → cond b (again kept.frame) (cond (nat_lt sequence kept.sequence) old new) ≡ again frame → P frame
      by_number true kept there e = subst P (same_frame kept.frame frame e) (each_of activity calls kept all there)
      by_number false kept there e = absurd (by_order (nat_lt sequence kept.sequence) e)

      by_kept : (found : Option Kept) → kept_of activity calls ≡ found → reported_by sequence found ≡ again frame → P frame
      by_kept None there e = absurd cc
      by_kept (Some kept) there e = by_number (sequence == kept.sequence) kept there e
