-- The records of a plan for a submodule, and the next of them from a number on.
use Rattle.std.proofs.Common.{◌≡◌, ◌+◌, ◌++◌, ℕ, zero, suc, Bool, true, false, cond, List, [], ◌∷◌, take, drop, Option, Some, None, refl, sym, ap, subst, ◌∙◌, arith}
use Rattle.plans.specs.declared.parts.PlanRecord.{PlanRecord}
use Rattle.plan_places.specs.Records.{first_record, is_record_of}
use Rattle.plug_law.specs.Written.{numbers_at}

module _ (slot subslot : ℕ) where
  -- What is found of these records, of which the first has a number, from a place on: none is left; or the one at a later place, with none
  -- between, and this is its number.
  abbrev pub IsNext : ℕ → ℕ → List PlanRecord → Option ℕ → Type 0
  IsNext number from entries None = numbers_at slot subslot number entries ≡ numbers_at slot subslot number (take from entries)
  IsNext number from entries (Some found) =
      (place : ℕ) × (found ≡ number + place)
      × (numbers_at slot subslot number (take place entries) ≡ numbers_at slot subslot number (take from entries))
      × (numbers_at slot subslot number (take (suc place) entries) ≡ numbers_at slot subslot number (take place entries) ++ found ∷ [])

  -- the numbers with one entry in front
  abbrev with_front : ℕ → Bool → List ℕ → List ℕ
  with_front number b numbers = cond b (number ∷ numbers) numbers

  front_more : (number : ℕ) (b : Bool) (numbers more : List ℕ) → with_front number b (numbers ++ more) ≡ with_front number b numbers ++ more
  front_more number true numbers more = refl
  front_more number false numbers more = refl

  next_number : (found number place : ℕ) → found ≡ (number + 1) + place → found ≡ number + suc place
  next_number found number place e = omega (arith, e)

  -- one entry in front of those that are passed over
  past : (number from : ℕ) (entry : PlanRecord) (entries : List PlanRecord) (found : Option ℕ) → IsNext (number + 1) from entries found → IsNext number (suc from) (entry ∷ entries) found
  past number from entry entries None next = ap (with_front number (is_record_of slot subslot entry)) next
  past number from entry entries (Some found) next =
      let b = is_record_of slot subslot entry in (
        suc next.0,
        next_number found number next.0 next.1,
        ap (with_front number b) next.2,
        ap (with_front number b) next.3 ∙ front_more number b (numbers_at slot subslot (number + 1) (take next.0 entries)) (found ∷ []),
      )

  here_is : (number : ℕ) → number ≡ number + 0
  here_is number = omega arith

  -- from the first entry on
  from_first : (number : ℕ) (entries : List PlanRecord) → IsNext number 0 entries (first_record slot subslot number entries)
  from_first number [] = refl
  from_first number (entry ∷ entries) = by_test (from_first (number + 1) entries) (is_record_of slot subslot entry) refl
    where
      none_before : (b : Bool) → is_record_of slot subslot entry ≡ b → b ≡ false → (numbers : List ℕ) → with_front number (is_record_of slot subslot entry) numbers ≡ numbers
      none_before b is e numbers = ap (λ (x : Bool). with_front number x numbers) (is ∙ e)

      -- the same from the second one on, if the first is a record of another submodule
      later : is_record_of slot subslot entry ≡ false → (found : Option ℕ) → IsNext (number + 1) 0 entries found → IsNext number 0 (entry ∷ entries) found
      later is None next = none_before false is refl (numbers_at slot subslot (number + 1) entries) ∙ next
      later is (Some found) next = (
        suc next.0,
        next_number found number next.0 next.1,
        none_before false is refl (numbers_at slot subslot (number + 1) (take next.0 entries)) ∙ next.2,
        none_before false is refl (numbers_at slot subslot (number + 1) (take (suc next.0) entries))
            ∙ (next.3 ∙ ap (λ (l : List ℕ). l ++ found ∷ []) (sym (none_before false is refl (numbers_at slot subslot (number + 1) (take next.0 entries))))),
      )

      by_test : IsNext (number + 1) 0 entries (first_record slot subslot (number + 1) entries) → (b : Bool) → is_record_of slot subslot entry ≡ b
          → IsNext number 0 (entry ∷ entries) (cond b (Some number) (first_record slot subslot (number + 1) entries))
      by_test next true is = (0, here_is number, refl, ap (λ (x : Bool). with_front number x []) is)
      by_test next false is = later is (first_record slot subslot (number + 1) entries) next

  same_place : (number from : ℕ) → (number + 1) + from ≡ number + suc from
  same_place number from = omega arith

  -- from any place on
  pub next_is : (number from : ℕ) (entries : List PlanRecord) → IsNext number from entries (first_record slot subslot (number + from) (drop from entries))
  next_is number zero entries = subst (λ (n : ℕ). IsNext number 0 entries (first_record slot subslot n entries)) (here_is number) (from_first number entries)
  next_is number (suc from) [] = refl
  next_is number (suc from) (entry ∷ entries) =
      subst (λ (n : ℕ). IsNext number (suc from) (entry ∷ entries) (first_record slot subslot n (drop from entries))) (same_place number from)
      (past number from entry entries (first_record slot subslot ((number + 1) + from) (drop from entries)) (next_is (number + 1) from entries))
