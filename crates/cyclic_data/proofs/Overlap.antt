-- Marks on octets, and the places that are checked with them.
use Rattle.std.proofs.Common.{◌≡◌, ◌⊎◌, inl, inr, ℕ, ◌+◌, Bool, false, List, [], ◌∷◌, replicate, get_or, sym, ◌∙◌, arith}
use Rattle.std.specs.List.{AllByRecursion}
use Rattle.std.proofs.lemmas.Bool.{cases_lt, true≢false}
use Rattle.std.proofs.lemmas.List.{get_or-replicate, get_or_past}
use Rattle.std.proofs.Math.ListN.{length-replicate}
use Rattle.cyclic_data.specs.declared.place.Place.{Place}
use Rattle.cyclic_data.specs.Layout.{AreApart, Meet, IsInside, IsOutside, AreAllApart, AnyByRecursion, DoMeet}
use Rattle.cyclic_data.specs.Marked.{IsTaken, IsFree, IsMarkedWith}

-- Places that overlap a mark or one another.
abbrev pub IsHit : List Bool → List Place → Type 0
IsHit marked places = AnyByRecursion (λ place. IsTaken marked place.offset place.size) places ⊎ DoMeet places

-- Places that overlap neither a mark nor one another.
abbrev pub IsClear : List Bool → List Place → Type 0
IsClear marked places = AllByRecursion (λ place. IsFree marked place.offset place.size) places × AreAllApart places

-- A mark on a place after another place was marked: the places overlap, or the mark was there before.
split_taken : (old new : List Bool) (one other : Place) → IsMarkedWith old new one.offset one.size → IsTaken new other.offset other.size
    → Meet one other ⊎ IsTaken old other.offset other.size
split_taken old new one other with' (k, from, to, is) =
    elim (cases_lt k one.offset) as (λ _. Meet one other ⊎ IsTaken old other.offset other.size) [
      | inl below ↦ inr (k, from, to, sym (with'.below k below) ∙ is)
      | inr start ↦ elim (cases_lt k (one.offset + one.size)) as (λ _. Meet one other ⊎ IsTaken old other.offset other.size) [
        | inl inside ↦ inl (k, (start, inside), (from, to))
        | inr above ↦ inr (k, from, to, sym (with'.above k above) ∙ is)
      ]
    ]

any_taken : (old new : List Bool) (one : Place) (places : List Place) → IsMarkedWith old new one.offset one.size
    → AnyByRecursion (λ place. IsTaken new place.offset place.size) places
    → AnyByRecursion (Meet one) places ⊎ AnyByRecursion (λ place. IsTaken old place.offset place.size) places
any_taken old new one [] with' any = absurd any
any_taken old new one (place ∷ places) with' (inl taken) =
    elim (split_taken old new one place with' taken) as (λ _. AnyByRecursion (Meet one) (place ∷ places) ⊎ AnyByRecursion (λ p. IsTaken old p.offset p.size) (place ∷ places)) [
      | inl meet ↦ inl (inl meet)
      | inr was ↦ inr (inl was)
    ]
any_taken old new one (place ∷ places) with' (inr any) =
    elim (any_taken old new one places with' any) as (λ _. AnyByRecursion (Meet one) (place ∷ places) ⊎ AnyByRecursion (λ p. IsTaken old p.offset p.size) (place ∷ places)) [
      | inl meet ↦ inl (inr meet)
      | inr was ↦ inr (inr was)
    ]

-- An overlap after a place is also one before it.
pub hit_before : (old new : List Bool) (one : Place) (places : List Place) → IsMarkedWith old new one.offset one.size → IsHit new places → IsHit old (one ∷ places)
hit_before old new one places with' (inl any) =
    elim (any_taken old new one places with' any) as (λ _. IsHit old (one ∷ places)) [ inl meet ↦ inr (inl meet) | inr was ↦ inl (inr was) ]
hit_before old new one places with' (inr meet) = inr (inr meet)

free_one : (old new : List Bool) (one other : Place) → IsMarkedWith old new one.offset one.size → IsFree new other.offset other.size
    → IsFree old other.offset other.size × AreApart one other
free_one old new one other with' free =
    let apart : AreApart one other = λ k in_one in_other. true≢false (sym (with'.inside k in_one.0 in_one.1) ∙ free k in_other.0 in_other.1) in (
      λ k from to. elim (cases_lt k one.offset) as (λ _. get_or old k false ≡ false) [
        | inl below ↦ sym (with'.below k below) ∙ free k from to
        | inr start ↦ elim (cases_lt k (one.offset + one.size)) as (λ _. get_or old k false ≡ false) [
          | inl inside ↦ absurd (apart k (start, inside) (from, to))
          | inr above ↦ sym (with'.above k above) ∙ free k from to
        ]
      ],
      apart,
    )

free_all : (old new : List Bool) (one : Place) (places : List Place) → IsMarkedWith old new one.offset one.size
    → AllByRecursion (λ place. IsFree new place.offset place.size) places
    → AllByRecursion (λ place. IsFree old place.offset place.size) places × AllByRecursion (AreApart one) places
free_all old new one [] with' free = (tt, tt)
free_all old new one (place ∷ places) with' free =
    let first = free_one old new one place with' free.0 in
    let rest = free_all old new one places with' free.1 in
    ((first.0, rest.0), (first.1, rest.1))

-- Places that are clear after a place are clear before it.
pub clear_before : (old new : List Bool) (one : Place) (places : List Place) → IsMarkedWith old new one.offset one.size → IsFree old one.offset one.size
    → IsClear new places → IsClear old (one ∷ places)
clear_before old new one places with' free clear =
    let rest = free_all old new one places with' clear.0 in
    ((free, rest.0), (rest.1, clear.1))

-- No octet is marked at first.
blank_at : (n k : ℕ) → get_or (replicate n false) k false ≡ false
blank_at n k =
    elim (cases_lt k n) as (λ _. get_or (replicate n false) k false ≡ false) [
      | inl below ↦ get_or-replicate n k false false below
      | inr above ↦ get_or_past (replicate n false) k false (omega (arith, length-replicate {A = Bool} n false, above))
    ]

none_taken : (n : ℕ) (places : List Place) → AnyByRecursion (λ place. IsTaken (replicate n false) place.offset place.size) places → ⊥
none_taken n [] any = any
none_taken n (place ∷ places) (inl taken) = true≢false (sym taken.3 ∙ blank_at n taken.0)
none_taken n (place ∷ places) (inr any) = none_taken n places any

pub hit_blank : (n : ℕ) (places : List Place) → IsHit (replicate n false) places → DoMeet places
hit_blank n places (inl any) = absurd (none_taken n places any)
hit_blank n places (inr meet) = meet

-- ---- the faults exclude their opposites

-- Places inside the frame are not outside.
pub not_outside : (n : ℕ) (places : List Place) → AllByRecursion (IsInside n) places → AnyByRecursion (IsOutside n) places → ⊥
not_outside n [] inside any = any
not_outside n (place ∷ places) inside (inl out) = omega (arith, inside.0, out)
not_outside n (place ∷ places) inside (inr any) = not_outside n places inside.1 any

not_met : (one : Place) (places : List Place) → AllByRecursion (AreApart one) places → AnyByRecursion (Meet one) places → ⊥
not_met one [] apart any = any
not_met one (place ∷ places) apart (inl meet) = apart.0 meet.0 meet.1 meet.2
not_met one (place ∷ places) apart (inr any) = not_met one places apart.1 any

-- Places without overlap do not meet.
pub not_meet : (places : List Place) → AreAllApart places → DoMeet places → ⊥
not_meet [] apart meet = meet
not_meet (place ∷ places) apart (inl any) = not_met place places apart.0 any
not_meet (place ∷ places) apart (inr meet) = not_meet places apart.1 meet
