-- A list with one more item, and what holds of some or of all items.
use Rattle.std.proofs.Common.{◌≡◌, ◌⊎◌, ◌↔◌, inl, inr, Bool, true, false, ◌||◌, ◌&&◌, List, [], ◌∷◌, ◌++◌, length, get_or, All, Any, IsTrue, refl, sym, ◌∙◌, subst, arith}
use Rattle.std.proofs.lemmas.Bool.{cases_lt}
use Rattle.std.proofs.lemmas.Grind.{common_steps}
use Rattle.std.proofs.lemmas.List.{get_or_push}
use Rattle.std.proofs.lemmas.List.Quantifiers.{Any-push}
use Rattle.std.proofs.lemmas.List.Elements.{All-push}

module _ {X : Type 0} (P : X → Type 0) (xs : List X) (y : X) where
  -- if some item has the property, it is an earlier one or the last
  pub any_push_cases : Any P (xs ++ y ∷ []) → Any P xs ⊎ P y
  any_push_cases (k, x, below, at, holds) =
      elim (cases_lt k (length xs)) [
        | inl lt ↦ (let same : get_or (xs ++ y ∷ []) k x ≡ get_or xs k x = grind (arith, common_steps) in inl (k, x, lt, sym same ∙ at, holds))
        | inr ge ↦ (let last : get_or (xs ++ y ∷ []) k x ≡ y = grind (arith, common_steps) in inr (subst P (sym at ∙ last) holds))
      ]

  pub any_push_old : Any P xs → Any P (xs ++ y ∷ [])
  any_push_old (k, x, below, at, holds) =
      let same : get_or (xs ++ y ∷ []) k x ≡ get_or xs k x = grind (arith, common_steps) in
      (k, x, grind (arith, common_steps), same ∙ at, holds)

  pub all_push_old : All P (xs ++ y ∷ []) → All P xs
  all_push_old all k d below =
      let same : get_or (xs ++ y ∷ []) k d ≡ get_or xs k d = grind (arith, common_steps) in
      subst P same (all k d (grind (arith, common_steps)))

  pub all_push_last : All P (xs ++ y ∷ []) → P y
  all_push_last all = subst P (get_or_push xs y y (length xs) refl) (all (length xs) y (grind (arith, common_steps)))

  -- a test of some items, and one of the last item
  pub or_push : (before now : Bool) → IsTrue before ↔ Any P xs → IsTrue now ↔ P y → IsTrue (before || now) ↔ Any P (xs ++ y ∷ [])
  or_push true now some last = (λ _. any_push_old (some.0 refl), λ _. refl)
  or_push false now some last = (
    λ yes. Any-push P xs y (last.0 yes),
    λ any. elim (any_push_cases any) [ inl old ↦ (let e = some.1 old in cc) | inr new ↦ last.1 new ],
  )

  -- a test of all items, and one of the last item
  pub and_push : (before now : Bool) → IsTrue before ↔ All P xs → IsTrue now ↔ P y → IsTrue (before && now) ↔ All P (xs ++ y ∷ [])
  and_push true now each last = (λ yes. All-push P xs y (each.0 refl) (last.0 yes), λ all. last.1 (all_push_last all))
  and_push false now each last = (λ yes. cc, λ all. each.1 (all_push_old all))
