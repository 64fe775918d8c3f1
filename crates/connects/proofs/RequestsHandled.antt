-- Places that were checked.
use Rattle.std.proofs.Common.{◌≡◌, inl, inr, ℕ, ◌+◌, ◌-◌, ◌<◌, ◌≤◌, ◌==◌, ◌&&◌, ◌||◌, Bool, true, false, cond, List, [], ◌∷◌, Option, Some, None, is_some, option_and_then, Ok, Err, min, max, refl, arith}
use Rattle.std.specs.List.{list_any, AllByRecursion}
use Rattle.std.proofs.lemmas.Bool.{cases_Bool, false≢true, and_parts, or_left, or_right, or_from, eqb-true, lt-ltb, le-ltb, ltb-true, false_from_ne_true}
use Rattle.std.proofs.Math.Nat.{le-max_left, le-max_right, max-le, min-le_left, min-le_right, le-min}
use Rattle.connect_blocks.specs.declared.iocr.IocrType.{IocrType}
use Rattle.connect_blocks.specs.declared.submodule_data.SubmoduleData.{SubmoduleData}
use Rattle.cyclic_data.specs.declared.fault.LayoutFault.{LayoutFault}
use Rattle.cyclic_data.specs.declared.fault.LayoutFault.TheVariants as wrong
use Rattle.cyclic_data.specs.declared.place.PlaceKind.{PlaceKind}
use Rattle.cyclic_data.specs.declared.place.PlaceKind.TheVariants.{Data, Iocs}
use Rattle.cyclic_data.specs.declared.place.Place.{Place}
use Rattle.cyclic_data.specs.declared.place.ExpectedData.{ExpectedData}
use Rattle.cyclic_data.specs.Places.{found_from, is_at, taken}
use Rattle.cyclic_data.specs.Layout.{AnyByRecursion, AreAllApart, AreApart, AreKnown, DoMeet, HasMissing, HasUnknown, IsFirstFault, IsInside, IsLayout, IsOutside, Meet, is_of, is_same_kind, times_listed, times_required}
use Rattle.connects.specs.requests.Layouts.{any_overlap, do_overlap, fault_of, is_outside, is_unknown, lacks, layout_at}

-- ---- lists

any_of : {A : Type 0} (test : A → Bool) (xs : List A) → ((x : A) → test x ≡ false) → list_any test xs ≡ false
any_of test [] none = refl
any_of test (x ∷ xs) none = or_from (test x) (list_any test xs) (none x) (any_of test xs none)

-- ---- outside

some_outside : (size : ℕ) (places : List Place) → AnyByRecursion (IsOutside size) places → list_any (is_outside size) places ≡ true
some_outside size [] any = absurd any
some_outside size (place ∷ places) (inl out) = or_left (is_outside size place) (list_any (is_outside size) places) (lt-ltb size (place.offset + place.size) out)
some_outside size (place ∷ places) (inr any) = or_right (is_outside size place) (list_any (is_outside size) places) (some_outside size places any)

none_outside : (size : ℕ) (places : List Place) → AllByRecursion (IsInside size) places → list_any (is_outside size) places ≡ false
none_outside size [] all = refl
none_outside size (place ∷ places) all =
    or_from (is_outside size place) (list_any (is_outside size) places) (le-ltb size (place.offset + place.size) all.0) (none_outside size places all.1)

-- ---- overlap

both_below : (a b c d : ℕ) → a < c → a < d → b < c → b < d → max a b < min c d
both_below a b c d ac ad bc bd =
    let one : max a b ≤ c - 1 = max-le (omega arith) (omega arith) in
    let two : max a b ≤ d - 1 = max-le (omega arith) (omega arith) in
    le-min (omega (arith, one)) (omega (arith, two))

max_above : (a b : ℕ) → (a ≤ max a b) × (b ≤ max a b)
max_above a b = (le-max_left a b, le-max_right a b)

min_below : (a b : ℕ) → (min a b ≤ a) × (min a b ≤ b)
min_below a b = (min-le_left a b, min-le_right a b)

meet_overlaps : (one other : Place) → Meet one other → do_overlap one other ≡ true
meet_overlaps one other (k, in_one, in_other) =
    lt-ltb _ _ (both_below one.offset other.offset (one.offset + one.size) (other.offset + other.size)
    (omega (arith, in_one)) (omega (arith, in_one, in_other)) (omega (arith, in_one, in_other)) (omega (arith, in_other)))

apart_clear : (one other : Place) → AreApart one other → do_overlap one other ≡ false
apart_clear one other apart = false_from_ne_true (do_overlap one other) (λ t.
    let below = ltb-true (max one.offset other.offset) (min (one.offset + one.size) (other.offset + other.size)) t in
    let above = max_above one.offset other.offset in
    let under = min_below (one.offset + one.size) (other.offset + other.size) in
    apart (max one.offset other.offset) (above.0, omega (arith, below, under.0)) (above.1, omega (arith, below, under.1)))

some_meet : (one : Place) (places : List Place) → AnyByRecursion (Meet one) places → list_any (do_overlap one) places ≡ true
some_meet one [] any = absurd any
some_meet one (place ∷ places) (inl meet) = or_left (do_overlap one place) (list_any (do_overlap one) places) (meet_overlaps one place meet)
some_meet one (place ∷ places) (inr any) = or_right (do_overlap one place) (list_any (do_overlap one) places) (some_meet one places any)

none_meet : (one : Place) (places : List Place) → AllByRecursion (AreApart one) places → list_any (do_overlap one) places ≡ false
none_meet one [] all = refl
none_meet one (place ∷ places) all = or_from (do_overlap one place) (list_any (do_overlap one) places) (apart_clear one place all.0) (none_meet one places all.1)

some_overlap : (places : List Place) → DoMeet places → any_overlap places ≡ true
some_overlap [] meet = absurd meet
some_overlap (place ∷ places) (inl any) = or_left (list_any (do_overlap place) places) (any_overlap places) (some_meet place places any)
some_overlap (place ∷ places) (inr meet) = or_right (list_any (do_overlap place) places) (any_overlap places) (some_overlap places meet)

none_overlap : (places : List Place) → AreAllApart places → any_overlap places ≡ false
none_overlap [] apart = refl
none_overlap (place ∷ places) apart = or_from (list_any (do_overlap place) places) (any_overlap places) (none_meet place places apart.0) (none_overlap places apart.1)

-- ---- unknown

same_kind : (one other : PlaceKind) → is_same_kind one other ≡ true → one ≡ other
same_kind Data Data h = refl
same_kind Data Iocs h = absurd (false≢true h)
same_kind Iocs Data h = absurd (false≢true h)
same_kind Iocs Iocs h = refl

module _ (direction : IocrType) (expected : List ExpectedData) (all : List Place) where
  unknown_at : (kind : PlaceKind) (slot subslot : ℕ) (place : Place) → is_of kind slot subslot place ≡ true
      → times_required direction expected kind slot subslot < times_listed kind slot subslot all → is_unknown direction expected all place ≡ true
  unknown_at kind slot subslot place at more =
      let parts = and_parts (is_same_kind kind place.kind) ((place.slot == slot) && (place.subslot == subslot)) at in
      let two = and_parts (place.slot == slot) (place.subslot == subslot) parts.1 in
      let k = same_kind kind place.kind parts.0 in
      let s = eqb-true place.slot slot two.0 in
      let u = eqb-true place.subslot subslot two.1 in
      rw (← k, s, u) (lt-ltb (times_required direction expected kind slot subslot) (times_listed kind slot subslot all) more)

  unknown_in : (kind : PlaceKind) (slot subslot : ℕ) (places : List Place) → 0 < times_listed kind slot subslot places
      → times_required direction expected kind slot subslot < times_listed kind slot subslot all → list_any (is_unknown direction expected all) places ≡ true
  unknown_in kind slot subslot [] some more = absurd (omega (arith, some))
  unknown_in kind slot subslot (place ∷ places) some more =
      elim (cases_Bool (is_of kind slot subslot place)) [
        | inl t ↦ or_left (is_unknown direction expected all place) (list_any (is_unknown direction expected all) places) (unknown_at kind slot subslot place t more)
        | inr f ↦ let left : 0 < 0 + times_listed kind slot subslot places = rw f at some in
            or_right (is_unknown direction expected all place) (list_any (is_unknown direction expected all) places) (unknown_in kind slot subslot places (omega (arith, left)) more)
      ]

  some_unknown : HasUnknown direction expected all → list_any (is_unknown direction expected all) all ≡ true
  some_unknown (kind, slot, subslot, more) = unknown_in kind slot subslot all (omega (arith, more)) more

  none_unknown : AreKnown direction expected all → list_any (is_unknown direction expected all) all ≡ false
  none_unknown known = any_of (is_unknown direction expected all) all (λ place. le-ltb _ _ (known place.kind place.slot place.subslot))

  -- ---- missing

  abbrev lacks_any : ExpectedData → Bool
  lacks_any sub = lacks direction expected all Data sub || lacks direction expected all Iocs sub

  lacks_at : (kind : PlaceKind) (slot subslot : ℕ) (sub : ExpectedData) → is_at slot subslot sub ≡ true
      → times_listed kind slot subslot all < times_required direction expected kind slot subslot → lacks direction expected all kind sub ≡ true
  lacks_at kind slot subslot sub at fewer =
      let two = and_parts (sub.slot == slot) (sub.subslot == subslot) at in
      let s = eqb-true sub.slot slot two.0 in
      let u = eqb-true sub.subslot subslot two.1 in
      rw (s, u) (lt-ltb (times_listed kind slot subslot all) (times_required direction expected kind slot subslot) fewer)

  of_either : (kind : PlaceKind) (sub : ExpectedData) → lacks direction expected all kind sub ≡ true → lacks_any sub ≡ true
  of_either Data sub h = or_left (lacks direction expected all Data sub) (lacks direction expected all Iocs sub) h
  of_either Iocs sub h = or_right (lacks direction expected all Data sub) (lacks direction expected all Iocs sub) h

  missing_in : (kind : PlaceKind) (slot subslot index : ℕ) (subs : List ExpectedData) → is_some (found_from slot subslot index subs) ≡ true
      → times_listed kind slot subslot all < times_required direction expected kind slot subslot → list_any lacks_any subs ≡ true
  missing_in kind slot subslot index [] found fewer = absurd (false≢true found)
  missing_in kind slot subslot index (sub ∷ subs) found fewer =
      elim (cases_Bool (is_at slot subslot sub)) [
        | inl t ↦ or_left (lacks_any sub) (list_any lacks_any subs) (of_either kind sub (lacks_at kind slot subslot sub t fewer))
        | inr f ↦ or_right (lacks_any sub) (list_any lacks_any subs) (missing_in kind slot subslot (index + 1) subs (rw f at found) fewer)
      ]

  some_taken : (kind : PlaceKind) (found : Option (ℕ × SubmoduleData)) → 0 < cond (is_some (option_and_then (λ (x : ℕ × SubmoduleData). taken direction kind x.1) found)) 1 0
      → is_some found ≡ true
  some_taken kind None h = absurd (omega (arith, h))
  some_taken kind (Some found) h = refl

  some_missing : HasMissing direction expected all → list_any lacks_any expected ≡ true
  some_missing (kind, slot, subslot, fewer) =
      let some : 0 < times_required direction expected kind slot subslot = omega (arith, fewer) in
      missing_in kind slot subslot 0 expected (some_taken kind (found_from slot subslot 0 expected) some) fewer

  none_missing : ((kind : PlaceKind) (slot subslot : ℕ) → times_listed kind slot subslot all ≡ times_required direction expected kind slot subslot)
      → list_any lacks_any expected ≡ false
  none_missing exact = any_of lacks_any expected (λ sub.
      or_from (lacks direction expected all Data sub) (lacks direction expected all Iocs sub)
      (le-ltb _ _ (let e = exact Data sub.slot sub.subslot in omega (arith, e)))
      (le-ltb _ _ (let e = exact Iocs sub.slot sub.subslot in omega (arith, e))))

-- ---- the whole

pub layout_faulty : (size : ℕ) (direction : IocrType) (expected : List ExpectedData) (places : List Place) (fault : LayoutFault)
    → IsFirstFault fault size direction expected places → layout_at size direction expected places ≡ Err (fault_of fault)
unfolding layout_at
layout_faulty size direction expected places wrong.Outside h = rw (some_outside size places h) refl
layout_faulty size direction expected places wrong.Overlap h = rw (none_outside size places h.0, some_overlap places h.1) refl
layout_faulty size direction expected places wrong.Unknown h =
    rw (none_outside size places h.0, none_overlap places h.1, some_unknown direction expected places h.2) refl
layout_faulty size direction expected places wrong.Missing h =
    rw (none_outside size places h.0, none_overlap places h.1, none_unknown direction expected places h.2, some_missing direction expected places h.3) refl

pub layout_good : (size : ℕ) (direction : IocrType) (expected : List ExpectedData) (places : List Place)
    → IsLayout size direction expected places → layout_at size direction expected places ≡ Ok (record { data_length = size; places = places })
unfolding layout_at
layout_good size direction expected places h =
    rw (
      none_outside size places h.inside,
      none_overlap places h.apart,
      none_unknown direction expected places (λ kind slot subslot. let e = h.exact kind slot subslot in omega (arith, e)),
      none_missing direction expected places h.exact,
    ) refl
