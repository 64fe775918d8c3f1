-- Submodules in order: one that is found after an index is the first in its subslot.
use Rattle.std.proofs.Common.{◌≡◌, ◌⊎◌, inl, inr, ℕ, zero, suc, ◌+◌, ◌<◌, ◌==◌, ◌&&◌, true, false, List, [], ◌∷◌, drop, Option, Some, None, nat_lt, refl, sym, ap, ◌∙◌, arith}
use Rattle.std.proofs.lemmas.Bool.{cases_Bool, and_parts, or_cases, ltb-true, eqb-true}
use Rattle.connect_blocks.specs.declared.submodule_data.SubmoduleData.{SubmoduleData}
use Rattle.cyclic_data.specs.declared.place.ExpectedData.{ExpectedData}
use Rattle.cyclic_data.specs.Places.{is_at, found_from}
use Rattle.cyclic_data.specs.Rising.{is_before, rises, rises_from}
use Rattle.cyclic_data.proofs.Known.{at_parts, cond_cases}

-- A submodule is in an earlier slot, or in an earlier subslot of this slot.
Before : ExpectedData → ℕ → ℕ → Type 0
Before sub slot subslot = (sub.slot < slot) ⊎ ((sub.slot ≡ slot) × (sub.subslot < subslot))

before_of : (one other : ExpectedData) → is_before one other ≡ true → Before one other.slot other.subslot
unfolding Before
before_of one other h =
    elim (or_cases (nat_lt one.slot other.slot) ((one.slot == other.slot) && nat_lt one.subslot other.subslot) h) [
      | inl t ↦ inl (ltb-true one.slot other.slot t)
      | inr t ↦ let p = and_parts (one.slot == other.slot) (nat_lt one.subslot other.subslot) t in inr (eqb-true one.slot other.slot p.0, ltb-true one.subslot other.subslot p.1)
    ]

before_both : (one other : ExpectedData) (slot subslot : ℕ) → Before one other.slot other.subslot → Before other slot subslot → Before one slot subslot
unfolding Before
before_both one other slot subslot (inl a) (inl b) = inl (omega arith)
before_both one other slot subslot (inl a) (inr b) = inl (omega (arith, b.0))
before_both one other slot subslot (inr a) (inl b) = inl (omega (arith, a.0))
before_both one other slot subslot (inr a) (inr b) = inr (omega (arith, a.0, b.0), omega (arith, a.1, b.1))

-- Such a submodule is not the one in this subslot.
not_at : (sub : ExpectedData) (slot subslot : ℕ) → Before sub slot subslot → is_at slot subslot sub ≡ false
unfolding Before
not_at sub slot subslot before =
    elim (cases_Bool (is_at slot subslot sub)) [
      | inl t ↦ absurd (apart sub slot subslot before (at_parts slot subslot sub t))
      | inr t ↦ t
    ]
  where
    apart : (sub : ExpectedData) (slot subslot : ℕ) → Before sub slot subslot → (sub.slot ≡ slot) × (sub.subslot ≡ subslot) → ⊥
    apart sub slot subslot (inl a) e = omega (arith, a, e.0)
    apart sub slot subslot (inr a) e = omega (arith, a.1, e.1)

-- Each submodule is before the one that is found after it.
before_found : (slot subslot index : ℕ) (last : ExpectedData) (subs : List ExpectedData) (found : ℕ × SubmoduleData) → rises_from last subs ≡ true
    → found_from slot subslot index subs ≡ Some found → Before last slot subslot
before_found slot subslot index last [] found rising h = let e : ◌≡◌ {A = Option (ℕ × SubmoduleData)} None (Some found) = h in cc
before_found slot subslot index last (sub ∷ subs) found rising h =
    let p = and_parts (is_before last sub) (rises_from sub subs) rising in
    let here = before_of last sub p.0 in
    elim (cond_cases (is_at slot subslot sub) (Some (index, sub.io_data)) (found_from slot subslot (index + 1) subs) (Some found) h) [
      | inl w ↦ let a = at_parts slot subslot sub w.0 in rw (sym a.0, sym a.1) here
      | inr w ↦ before_both last sub slot subslot here (before_found slot subslot (index + 1) sub subs found p.1 w.1)
    ]

tail_rises : (sub : ExpectedData) (subs : List ExpectedData) → rises_from sub subs ≡ true → rises subs ≡ true
tail_rises sub [] rising = refl
tail_rises sub (next ∷ subs) rising = (and_parts (is_before sub next) (rises_from next subs) rising).1

found_over : (slot subslot base from : ℕ) (subs : List ExpectedData) (found : ℕ × SubmoduleData) → rises subs ≡ true
    → found_from slot subslot (base + from) (drop from subs) ≡ Some found → found_from slot subslot base subs ≡ Some found
found_over slot subslot base zero subs found rising h =
    let n : base + 0 ≡ base = omega arith in
    ap (λ (k : ℕ). found_from slot subslot k subs) (sym n) ∙ h
found_over slot subslot base (suc from) [] found rising h = let e : ◌≡◌ {A = Option (ℕ × SubmoduleData)} None (Some found) = h in cc
found_over slot subslot base (suc from) (sub ∷ subs) found rising h =
    let n : base + 1 + from ≡ base + suc from = omega arith in
    let behind = found_over slot subslot (base + 1) from subs found (tail_rises sub subs rising) (ap (λ (k : ℕ). found_from slot subslot k (drop from subs)) n ∙ h) in
    let here = not_at sub slot subslot (before_found slot subslot (base + 1) sub subs found rising behind) in
    rw here behind

pub found_first : (slot subslot from : ℕ) (subs : List ExpectedData) (found : ℕ × SubmoduleData) → rises subs ≡ true
    → found_from slot subslot from (drop from subs) ≡ Some found → found_from slot subslot 0 subs ≡ Some found
found_first slot subslot from subs found rising h =
    let n : 0 + from ≡ from = omega arith in
    found_over slot subslot 0 from subs found rising (ap (λ (k : ℕ). found_from slot subslot k (drop from subs)) n ∙ h)

-- The submodule is found if the submodules are in order, or if the search begins with the first.
pub found_so : (slot subslot from : ℕ) (subs : List ExpectedData) (found : ℕ × SubmoduleData) → (rises subs ≡ true) ⊎ (from ≡ 0)
    → Some found ≡ found_from slot subslot from (drop from subs) → Some found ≡ found_from slot subslot 0 subs
found_so slot subslot from subs found (inl rising) h = sym (found_first slot subslot from subs found rising (sym h))
found_so slot subslot from subs found (inr first) h = h ∙ ap (λ (k : ℕ). found_from slot subslot k (drop k subs)) first
