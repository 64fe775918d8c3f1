-- Places that are known, and those that are missing.
use Rattle.std.proofs.Common.{◌≡◌, ◌≢◌, ◌⊎◌, inl, inr, ℕ, zero, suc, ◌+◌, ◌<◌, ◌≤◌, ◌==◌, ◌&&◌, ◌||◌, Bool, true, false, cond, List, [], ◌∷◌, length, replicate, get_or, set, Option, Some, None, is_some, option_map, option_and_then, refl, sym, ap, subst, ◌∙◌, arith}
use Rattle.std.proofs.lemmas.Bool.{cases_Bool, true≢false, false≢true, and_parts, and_from, or_cases, or_parts, eqb-true, eq-eqb, not-true, not-false}
use Rattle.std.proofs.lemmas.List.{get_or-replicate, get_or-set_same, get_or-set_other, length-set}
use Rattle.connect_blocks.specs.declared.iocr.IocrType.{IocrType}
use Rattle.connect_blocks.specs.declared.submodule_data.SubmoduleData.{SubmoduleData}
use Rattle.cyclic_data.specs.declared.place.PlaceKind.{PlaceKind}
use Rattle.cyclic_data.specs.declared.place.PlaceKind.TheVariants.{Data, Iocs}
use Rattle.cyclic_data.specs.declared.place.Place.{Place}
use Rattle.cyclic_data.specs.declared.place.ExpectedData.{ExpectedData}
use Rattle.cyclic_data.specs.Places.{is_at, found_from, taken, taken_at}
use Rattle.cyclic_data.specs.Layout.{is_same_kind, is_of, times_listed, times_required, AreKnown, HasUnknown, HasMissing}
use Rattle.cyclic_data.specs.Seen.{mark_in, mark_of, is_new, seen_with, lacks, has_unknown, seen_behind, has_missing}

-- ---- tests

pub cond_cases : {X : Type 0} (b : Bool) (x y r : X) → cond b x y ≡ r → ((b ≡ true) × (x ≡ r)) ⊎ ((b ≡ false) × (y ≡ r))
cond_cases true x y r h = inl (refl, h)
cond_cases false x y r h = inr (refl, h)

same_kind : (one other : PlaceKind) → is_same_kind one other ≡ true → one ≡ other
same_kind Data Data h = refl
same_kind Data Iocs h = absurd (false≢true h)
same_kind Iocs Data h = absurd (false≢true h)
same_kind Iocs Iocs h = refl

kind_itself : (kind : PlaceKind) → is_same_kind kind kind ≡ true
kind_itself Data = refl
kind_itself Iocs = refl

pub of_itself : (place : Place) → is_of place.kind place.slot place.subslot place ≡ true
of_itself place =
    and_from _ _ (kind_itself place.kind) (and_from _ _ (eq-eqb place.slot place.slot refl) (eq-eqb place.subslot place.subslot refl))

pub of_parts : (kind : PlaceKind) (slot subslot : ℕ) (place : Place) → is_of kind slot subslot place ≡ true
    → (kind ≡ place.kind) × (place.slot ≡ slot) × (place.subslot ≡ subslot)
of_parts kind slot subslot place h =
    let all = and_parts (is_same_kind kind place.kind) ((place.slot == slot) && (place.subslot == subslot)) h in
    let two = and_parts (place.slot == slot) (place.subslot == subslot) all.1 in
    (same_kind kind place.kind all.0, eqb-true place.slot slot two.0, eqb-true place.subslot subslot two.1)

pub at_parts : (slot subslot : ℕ) (sub : ExpectedData) → is_at slot subslot sub ≡ true → (sub.slot ≡ slot) × (sub.subslot ≡ subslot)
at_parts slot subslot sub h =
    let two = and_parts (sub.slot == slot) (sub.subslot == subslot) h in (eqb-true sub.slot slot two.0, eqb-true sub.subslot subslot two.1)

-- ---- the submodule of a subslot

Found : Type 0
Found = ℕ × SubmoduleData

index_of : (index : ℕ) (io_data : SubmoduleData) (found : ℕ × SubmoduleData) → Some (index, io_data) ≡ Some found → index ≡ found.0
index_of index io_data found h = let e : ◌≡◌ {A = ℕ × SubmoduleData} (index, io_data) found = cc in ap (λ (x : ℕ × SubmoduleData). x.0) e

found_between : (slot subslot index : ℕ) (subs : List ExpectedData) (found : ℕ × SubmoduleData) → found_from slot subslot index subs ≡ Some found
    → (index ≤ found.0) × (found.0 < index + length subs)
found_between slot subslot index [] found h = let e : ◌≡◌ {A = Option (ℕ × SubmoduleData)} None (Some found) = h in cc
found_between slot subslot index (sub ∷ subs) found h =
    elim (cond_cases (is_at slot subslot sub) (Some (index, sub.io_data)) (found_from slot subslot (index + 1) subs) (Some found) h) [
      | inl w ↦ let e = index_of index sub.io_data found w.1 in (omega arith, omega arith)
      | inr w ↦ let r = found_between slot subslot (index + 1) subs found w.1 in (omega arith, omega arith)
    ]

found_same : (slot subslot slot' subslot' index : ℕ) (subs : List ExpectedData) (one other : ℕ × SubmoduleData)
    → found_from slot subslot index subs ≡ Some one → found_from slot' subslot' index subs ≡ Some other → one.0 ≡ other.0
    → (slot ≡ slot') × (subslot ≡ subslot')
found_same slot subslot slot' subslot' index [] one other h h' same = let e : ◌≡◌ {A = Option (ℕ × SubmoduleData)} None (Some one) = h in cc
found_same slot subslot slot' subslot' index (sub ∷ subs) one other h h' same =
    elim (cond_cases (is_at slot subslot sub) (Some (index, sub.io_data)) (found_from slot subslot (index + 1) subs) (Some one) h) [
      | inl w ↦ elim (cond_cases (is_at slot' subslot' sub) (Some (index, sub.io_data)) (found_from slot' subslot' (index + 1) subs) (Some other) h') [
        | inl v ↦ let a = at_parts slot subslot sub w.0 in let b = at_parts slot' subslot' sub v.0 in (sym a.0 ∙ b.0, sym a.1 ∙ b.1)
        | inr v ↦ let a = index_of index sub.io_data one w.1 in let b = found_between slot' subslot' (index + 1) subs other v.1 in absurd (omega arith)
      ]
      | inr w ↦ elim (cond_cases (is_at slot' subslot' sub) (Some (index, sub.io_data)) (found_from slot' subslot' (index + 1) subs) (Some other) h') [
        | inl v ↦ let a = index_of index sub.io_data other v.1 in let b = found_between slot subslot (index + 1) subs one w.1 in absurd (omega arith)
        | inr v ↦ found_same slot subslot slot' subslot' (index + 1) subs one other w.1 v.1 same
      ]
    ]

-- ---- marks

-- The mark of a place that was found.
unpack_taken : (took : Option ℕ) (mark m : ℕ) → option_map (λ _. mark) took ≡ Some m → mark ≡ m
unpack_taken None mark m h = let e : ◌≡◌ {A = Option ℕ} None (Some m) = h in cc
unpack_taken (Some size) mark m h = let e : Some mark ≡ Some m = h in cc

unpack : (direction : IocrType) (kind : PlaceKind) (o : Option (ℕ × SubmoduleData)) (m : ℕ)
    → option_and_then (λ (found : ℕ × SubmoduleData). option_map (λ _. mark_in kind found.0) (taken direction kind found.1)) o ≡ Some m
    → (found : ℕ × SubmoduleData) × (o ≡ Some found) × (mark_in kind found.0 ≡ m)
unpack direction kind None m h = let e : ◌≡◌ {A = Option ℕ} None (Some m) = h in cc
unpack direction kind (Some found) m h = (found, refl, unpack_taken (taken direction kind found.1) (mark_in kind found.0) m h)

is_some_taken : (took : Option ℕ) (mark : ℕ) → is_some took ≡ is_some (option_map (λ (_ : ℕ). mark) took)
is_some_taken None mark = refl
is_some_taken (Some size) mark = refl

is_some_found : (direction : IocrType) (kind : PlaceKind) (o : Option (ℕ × SubmoduleData))
    → is_some (option_and_then (λ (found : ℕ × SubmoduleData). taken direction kind found.1) o)
    ≡ is_some (option_and_then (λ (found : ℕ × SubmoduleData). option_map (λ _. mark_in kind found.0) (taken direction kind found.1)) o)
is_some_found direction kind None = refl
is_some_found direction kind (Some found) = is_some_taken (taken direction kind found.1) (mark_in kind found.0)

-- How often a place with this mark is required.
abbrev times_of : Option ℕ → ℕ
times_of None = 0
times_of (Some mark) = 1

cond_some : (o : Option ℕ) → cond (is_some o) 1 0 ≡ times_of o
cond_some None = refl
cond_some (Some mark) = refl

marks_apart : (one other i j m : ℕ) (kind kind' : PlaceKind) → i < 64 → j < 64 → mark_in kind i ≡ m → mark_in kind' j ≡ m
    → (is_same_kind kind kind' ≡ true) × (i ≡ j)
marks_apart one other i j m Data Data below below' h h' = (refl, omega arith)
marks_apart one other i j m Data Iocs below below' h h' = absurd (omega arith)
marks_apart one other i j m Iocs Data below below' h h' = absurd (omega arith)
marks_apart one other i j m Iocs Iocs below below' h h' = (refl, omega arith)

mark_below : (kind : PlaceKind) (i m : ℕ) → i < 64 → mark_in kind i ≡ m → m < 128
mark_below Data i m below h = omega arith
mark_below Iocs i m below h = omega arith

-- How often a place with this mark was seen.
abbrev pub SeenAs : List Bool → Option ℕ → ℕ → Type 0
SeenAs seen None times = times ≡ 0
SeenAs seen (Some mark) times = (mark < length seen) × (times ≡ cond (get_or seen mark false) 1 0)

seen_as_along : (seen : List Bool) (o : Option ℕ) (n m : ℕ) → n ≡ m → SeenAs seen o n → SeenAs seen o m
seen_as_along seen o n m e h = subst (λ (k : ℕ). SeenAs seen o k) e h

abbrev pub Counts : Type 0
Counts = PlaceKind → ℕ → ℕ → ℕ

cond_below : (b : Bool) (n : ℕ) → n ≡ cond b 1 0 → n ≤ 1
cond_below true n h = omega arith
cond_below false n h = omega arith

seen_below : (seen : List Bool) (o : Option ℕ) (n : ℕ) → SeenAs seen o n → n ≤ times_of o
seen_below seen None n h = omega (arith, h)
seen_below seen (Some mark) n h = cond_below (get_or seen mark false) n h.1

abbrev pub trues : List Bool → ℕ
trues [] = 0
trues (b ∷ bs) = cond b 1 0 + trues bs

trues_set : (seen : List Bool) (mark : ℕ) → mark < length seen → get_or seen mark false ≡ false → trues (set seen mark true) ≡ trues seen + 1
trues_set [] mark below h = absurd (omega (arith, below))
trues_set (b ∷ bs) zero below h = rw h (omega arith)
trues_set (b ∷ bs) (suc mark) below h = let r = trues_set bs mark (omega (arith, below)) h in omega arith

trues_few : (seen : List Bool) → trues seen ≤ length seen
trues_few [] = omega arith
trues_few (true ∷ bs) = let r = trues_few bs in omega arith
trues_few (false ∷ bs) = let r = trues_few bs in omega arith

module _ (direction : IocrType) (expected : List ExpectedData) where
  abbrev mark : PlaceKind → ℕ → ℕ → Option ℕ
  mark kind slot subslot = mark_of direction expected kind slot subslot

  mark_along : (kind kind' : PlaceKind) (slot slot' subslot subslot' : ℕ) → kind ≡ kind' → slot ≡ slot' → subslot ≡ subslot'
      → mark kind slot subslot ≡ mark kind' slot' subslot'
  mark_along kind kind' slot slot' subslot subslot' k s u =
      ap (λ (x : PlaceKind). mark x slot subslot) k ∙ (ap (λ (x : ℕ). mark kind' x subslot) s ∙ ap (λ (x : ℕ). mark kind' slot' x) u)

  required_is : (kind : PlaceKind) (slot subslot : ℕ) → times_required direction expected kind slot subslot ≡ times_of (mark kind slot subslot)
  required_is kind slot subslot =
      ap (λ (b : Bool). cond b 1 0) (is_some_found direction kind (found_from slot subslot 0 expected)) ∙ cond_some (mark kind slot subslot)

  -- The marks agree with how often each place was seen.
  abbrev pub IsSeen : List Bool → Counts → Type 0
  IsSeen seen times = (kind : PlaceKind) (slot subslot : ℕ) → SeenAs seen (mark kind slot subslot) (times kind slot subslot)

  module _ (few : length expected ≤ 64) where
    mark_same : (kind kind' : PlaceKind) (slot slot' subslot subslot' m : ℕ) → mark kind slot subslot ≡ Some m → mark kind' slot' subslot' ≡ Some m
        → (is_same_kind kind kind' ≡ true) × (slot ≡ slot') × (subslot ≡ subslot')
    mark_same kind kind' slot slot' subslot subslot' m h h' =
        let a = unpack direction kind (found_from slot subslot 0 expected) m h in
        let b = unpack direction kind' (found_from slot' subslot' 0 expected) m h' in
        let u = found_between slot subslot 0 expected a.0 a.1 in
        let v = found_between slot' subslot' 0 expected b.0 b.1 in
        let s = marks_apart 0 0 a.0.0 b.0.0 m kind kind' (omega arith) (omega arith) a.2 b.2 in
        let t = found_same slot subslot slot' subslot' 0 expected a.0 b.0 a.1 b.1 s.1 in
        (s.0, t.0, t.1)

    mark_few : (kind : PlaceKind) (slot subslot m : ℕ) → mark kind slot subslot ≡ Some m → m < 128
    mark_few kind slot subslot m h =
        let a = unpack direction kind (found_from slot subslot 0 expected) m h in
        let u = found_between slot subslot 0 expected a.0 a.1 in
        mark_below kind a.0.0 m (omega arith) a.2

    -- The marks after one more place that is new.
    one_more : (seen : List Bool) (times : ℕ) (place : Place) (kind : PlaceKind) (slot subslot m : ℕ) (o : Option ℕ) → mark kind slot subslot ≡ o
        → mark place.kind place.slot place.subslot ≡ Some m → m < length seen → get_or seen m false ≡ false → SeenAs seen o times
        → SeenAs (set seen m true) o (cond (is_of kind slot subslot place) 1 0 + times)
    one_more seen times place kind slot subslot m None is at below new' was =
        elim (cases_Bool (is_of kind slot subslot place)) [
          | inl t ↦ let p = of_parts kind slot subslot place t in
              let e : ◌≡◌ {A = Option ℕ} None (Some m) = sym is ∙ (mark_along kind place.kind slot place.slot subslot place.subslot p.0 (sym p.1) (sym p.2) ∙ at) in cc
          | inr t ↦ rw t (omega (arith, was))
        ]
    one_more seen times place kind slot subslot m (Some n) is at below new' was =
        elim (cases_Bool (is_of kind slot subslot place)) [
          | inl t ↦ let p = of_parts kind slot subslot place t in
              let s : Some n ≡ Some m = sym is ∙ (mark_along kind place.kind slot place.slot subslot place.subslot p.0 (sym p.1) (sym p.2) ∙ at) in
              let e : n ≡ m = cc in
              let fresh : get_or seen n false ≡ false = ap (λ (k : ℕ). get_or seen k false) e ∙ new' in
              let none : times ≡ 0 = was.1 ∙ ap (λ (b : Bool). cond b 1 0) fresh in
              let now : get_or (set seen m true) n false ≡ true = ap (λ (k : ℕ). get_or (set seen m true) k false) e ∙ get_or-set_same seen m true false below in
              (omega (arith, length-set seen m true, was.0), rw (t, now) (omega (arith, none)))
          | inr t ↦
              let ne : n ≢ m = λ e.
              let s = mark_same kind place.kind slot place.slot subslot place.subslot m (is ∙ ap (λ (k : ℕ). Some k) e) at in
              let there : is_of kind slot subslot place ≡ true =
              and_from _ _ s.0 (and_from _ _ (eq-eqb place.slot slot (sym s.1)) (eq-eqb place.subslot subslot (sym s.2))) in
              true≢false (sym there ∙ t) in
              let now : get_or (set seen m true) n false ≡ get_or seen n false = get_or-set_other seen m n true false ne in
              (omega (arith, length-set seen m true, was.0), rw (t, now) (omega (arith, was.1)))
        ]

    -- A new place is expected, and its mark is not set.
    new_parts : (seen : List Bool) (times : ℕ) (o : Option ℕ) → is_new seen o ≡ true → SeenAs seen o times
        → (m : ℕ) × (o ≡ Some m) × (m < length seen) × (get_or seen m false ≡ false)
    new_parts seen times None h was = absurd (false≢true h)
    new_parts seen times (Some m) h was = (m, refl, was.0, not-true (get_or seen m false) h)

    with_mark : (seen : List Bool) (o : Option ℕ) (m : ℕ) → o ≡ Some m → seen_with seen o ≡ set seen m true
    with_mark seen o m e = ap (λ (x : Option ℕ). seen_with seen x) e

    step_new : (seen : List Bool) (times : Counts) (place : Place) → IsSeen seen times
        → is_new seen (mark place.kind place.slot place.subslot) ≡ true
        → IsSeen (seen_with seen (mark place.kind place.slot place.subslot)) (λ kind slot subslot. cond (is_of kind slot subslot place) 1 0 + times kind slot subslot)
    step_new seen times place was h kind slot subslot =
        let o = mark place.kind place.slot place.subslot in
        let n = new_parts seen (times place.kind place.slot place.subslot) o h (was place.kind place.slot place.subslot) in
        subst (λ (xs : List Bool). SeenAs xs (mark kind slot subslot) (cond (is_of kind slot subslot place) 1 0 + times kind slot subslot))
        (sym (with_mark seen o n.0 n.1))
        (one_more seen (times kind slot subslot) place kind slot subslot n.0 (mark kind slot subslot) refl n.1 n.2 n.3 (was kind slot subslot))

    -- If all places are new, the marks agree with how often each is listed.
    pub all_new : (places : List Place) (seen : List Bool) (times : Counts) → IsSeen seen times → has_unknown direction expected seen places ≡ false
        → IsSeen (seen_behind direction expected seen places) (λ kind slot subslot. times_listed kind slot subslot places + times kind slot subslot)
    all_new [] seen times was h = λ kind slot subslot. seen_as_along seen (mark kind slot subslot) _ _ (omega arith) (was kind slot subslot)
    all_new (place ∷ places) seen times was h =
        let o = mark place.kind place.slot place.subslot in
        elim (cond_cases (is_new seen o) (has_unknown direction expected (seen_with seen o) places) true false h) [
          | inl w ↦ λ kind slot subslot.
              let next = all_new places (seen_with seen o) (λ k s u. cond (is_of k s u place) 1 0 + times k s u) (step_new seen times place was w.0) w.1 kind slot subslot in
              rw w.0 (seen_as_along _ (mark kind slot subslot) _ _ (omega arith) next)
          | inr w ↦ absurd (true≢false w.1)
        ]

    -- If one place is not new, it is listed more often than required.
    pub not_new : (places : List Place) (seen : List Bool) (times : Counts) → IsSeen seen times → has_unknown direction expected seen places ≡ true
        → (kind : PlaceKind) × (slot : ℕ) × (subslot : ℕ) × (times_required direction expected kind slot subslot < times_listed kind slot subslot places + times kind slot subslot)
    not_new [] seen times was h = absurd (false≢true h)
    not_new (place ∷ places) seen times was h =
        let o = mark place.kind place.slot place.subslot in
        elim (cond_cases (is_new seen o) (has_unknown direction expected (seen_with seen o) places) true true h) [
          | inl w ↦
              let next = not_new places (seen_with seen o) (λ k s u. cond (is_of k s u place) 1 0 + times k s u) (step_new seen times place was w.0) w.1 in
              (next.0, next.1, next.2, omega (arith, next.3))
          | inr w ↦ (place.kind, place.slot, place.subslot, rw (of_itself place) (old_one seen o (times place.kind place.slot place.subslot) _ _ w.0 (was place.kind place.slot place.subslot) (required_is place.kind place.slot place.subslot)))
        ]
      where
        old_one : (seen : List Bool) (o : Option ℕ) (times more required : ℕ) → is_new seen o ≡ false → SeenAs seen o times → required ≡ times_of o
            → required < 1 + more + times
        old_one seen None times more required h was r = omega (arith, r)
        old_one seen (Some m) times more required h was r =
            let there : get_or seen m false ≡ true = not-false (get_or seen m false) h in
            let one : times ≡ 1 = was.1 ∙ ap (λ (b : Bool). cond b 1 0) there in omega (arith, r)

    -- There are at most as many new places as marks.
    pub new_few : (places : List Place) (seen : List Bool) (times : Counts) → IsSeen seen times → has_unknown direction expected seen places ≡ false
        → length places + trues seen ≤ length seen
    new_few [] seen times was h = let r = trues_few seen in omega arith
    new_few (place ∷ places) seen times was h =
        let o = mark place.kind place.slot place.subslot in
        elim (cond_cases (is_new seen o) (has_unknown direction expected (seen_with seen o) places) true false h) [
          | inl w ↦
              let n = new_parts seen (times place.kind place.slot place.subslot) o w.0 (was place.kind place.slot place.subslot) in
              let next = new_few places (seen_with seen o) (λ k s u. cond (is_of k s u place) 1 0 + times k s u) (step_new seen times place was w.0) w.1 in
              let e = with_mark seen o n.0 n.1 in
              omega (arith, next, ap (λ (xs : List Bool). length xs) e, ap (λ (xs : List Bool). trues xs) e, trues_set seen n.0 n.2 n.3, length-set seen n.0 true)
          | inr w ↦ absurd (true≢false w.1)
        ]

    -- ---- missing places

    -- If a mark is missing, its place is required and not listed.
    lacking : (seen : List Bool) (times : Counts) (kind : PlaceKind) (slot subslot : ℕ) → IsSeen seen times → lacks seen (mark kind slot subslot) ≡ true
        → times kind slot subslot < times_required direction expected kind slot subslot
    lacking seen times kind slot subslot was h = lacking_at (mark kind slot subslot) _ _ h (was kind slot subslot) (required_is kind slot subslot)
      where
        lacking_at : (o : Option ℕ) (times required : ℕ) → lacks seen o ≡ true → SeenAs seen o times → required ≡ times_of o → times < required
        lacking_at None times required h was r = absurd (false≢true h)
        lacking_at (Some m) times required h was r =
            let none : times ≡ 0 = was.1 ∙ ap (λ (b : Bool). cond b 1 0) (not-true (get_or seen m false) h) in omega (arith, r)

    pub one_missing : (subs : List ExpectedData) (seen : List Bool) (times : Counts) → IsSeen seen times → has_missing direction expected seen subs ≡ true
        → (kind : PlaceKind) × (slot : ℕ) × (subslot : ℕ) × (times kind slot subslot < times_required direction expected kind slot subslot)
    one_missing [] seen times was h = absurd (false≢true h)
    one_missing (sub ∷ subs) seen times was h =
        elim (or_cases (lacks seen (mark Data sub.slot sub.subslot) || lacks seen (mark Iocs sub.slot sub.subslot)) (has_missing direction expected seen subs) h) [
          | inl w ↦ elim (or_cases (lacks seen (mark Data sub.slot sub.subslot)) (lacks seen (mark Iocs sub.slot sub.subslot)) w) [
            | inl v ↦ (Data, sub.slot, sub.subslot, lacking seen times Data sub.slot sub.subslot was v)
            | inr v ↦ (Iocs, sub.slot, sub.subslot, lacking seen times Iocs sub.slot sub.subslot was v)
          ]
          | inr w ↦ one_missing subs seen times was w
        ]

    -- No place of a submodule that is found is missing.
    found_there : (kind : PlaceKind) (slot subslot index : ℕ) (subs : List ExpectedData) (seen : List Bool) (found : ℕ × SubmoduleData)
        → found_from slot subslot index subs ≡ Some found → has_missing direction expected seen subs ≡ false → lacks seen (mark kind slot subslot) ≡ false
    found_there kind slot subslot index [] seen found h none = let e : ◌≡◌ {A = Option (ℕ × SubmoduleData)} None (Some found) = h in cc
    found_there kind slot subslot index (sub ∷ subs) seen found h none =
        let all = or_parts (lacks seen (mark Data sub.slot sub.subslot) || lacks seen (mark Iocs sub.slot sub.subslot)) (has_missing direction expected seen subs) none in
        let two = or_parts (lacks seen (mark Data sub.slot sub.subslot)) (lacks seen (mark Iocs sub.slot sub.subslot)) all.0 in
        elim (cond_cases (is_at slot subslot sub) (Some (index, sub.io_data)) (found_from slot subslot (index + 1) subs) (Some found) h) [
          | inl w ↦ let p = at_parts slot subslot sub w.0 in
              subst (λ (o : Option ℕ). lacks seen o ≡ false) (mark_along kind kind sub.slot slot sub.subslot subslot refl p.0 p.1) (either kind sub two.0 two.1)
          | inr w ↦ found_there kind slot subslot (index + 1) subs seen found w.1 all.1
        ]
      where
        either : (kind : PlaceKind) (sub : ExpectedData) → lacks seen (mark Data sub.slot sub.subslot) ≡ false → lacks seen (mark Iocs sub.slot sub.subslot) ≡ false
            → lacks seen (mark kind sub.slot sub.subslot) ≡ false
        either Data sub a b = a
        either Iocs sub a b = b

    -- If no place is missing, each is listed as often as it is required.
    pub none_missing : (seen : List Bool) (times : Counts) → IsSeen seen times → has_missing direction expected seen expected ≡ false
        → (kind : PlaceKind) (slot subslot : ℕ) → times kind slot subslot ≡ times_required direction expected kind slot subslot
    none_missing seen times was h kind slot subslot =
        all_there (mark kind slot subslot) _ _ refl (was kind slot subslot) (required_is kind slot subslot)
      where
        all_there : (o : Option ℕ) (times required : ℕ) → mark kind slot subslot ≡ o → SeenAs seen o times → required ≡ times_of o → times ≡ required
        all_there None times required is was r = omega (arith, r, was)
        all_there (Some m) times required is was r =
            let a = unpack direction kind (found_from slot subslot 0 expected) m is in
            let l : lacks seen (Some m) ≡ false = subst (λ (o : Option ℕ). lacks seen o ≡ false) is (found_there kind slot subslot 0 expected seen a.0 a.1 h) in
            let there : get_or seen m false ≡ true = not-false (get_or seen m false) l in
            let one : times ≡ 1 = was.1 ∙ ap (λ (b : Bool). cond b 1 0) there in omega (arith, r)

    -- ---- no marks

    abbrev pub blank : List Bool
    blank = replicate 128 false

    seen_blank : IsSeen blank (λ _ _ _. 0)
    seen_blank kind slot subslot = at_blank (mark kind slot subslot) refl
      where
        at_blank : (o : Option ℕ) → mark kind slot subslot ≡ o → SeenAs blank o 0
        at_blank None is = refl
        at_blank (Some m) is =
            let below = mark_few kind slot subslot m is in
            let no : get_or blank m false ≡ false = get_or-replicate 128 m false false below in
            (below, sym (ap (λ (b : Bool). cond b 1 0) no))

    listed : (places : List Place) → has_unknown direction expected blank places ≡ false
        → IsSeen (seen_behind direction expected blank places) (λ kind slot subslot. times_listed kind slot subslot places)
    listed places h kind slot subslot =
        seen_as_along _ (mark kind slot subslot) _ _ (omega arith) (all_new places blank (λ _ _ _. 0) seen_blank h kind slot subslot)

    pub unknown_there : (places : List Place) → has_unknown direction expected blank places ≡ true → HasUnknown direction expected places
    unknown_there places h = let n = not_new places blank (λ _ _ _. 0) seen_blank h in (n.0, n.1, n.2, omega (arith, n.3))

    pub all_known : (places : List Place) → has_unknown direction expected blank places ≡ false → AreKnown direction expected places
    all_known places h kind slot subslot =
        omega (arith, seen_below _ (mark kind slot subslot) _ (listed places h kind slot subslot), required_is kind slot subslot)

    pub few_places : (places : List Place) → has_unknown direction expected blank places ≡ false → length places ≤ 128
    few_places places h = omega (arith, new_few places blank (λ _ _ _. 0) seen_blank h)

    pub missing_there : (places : List Place) → has_unknown direction expected blank places ≡ false
        → has_missing direction expected (seen_behind direction expected blank places) expected ≡ true → HasMissing direction expected places
    missing_there places h m = one_missing expected _ (λ kind slot subslot. times_listed kind slot subslot places) (listed places h) m

    pub all_listed : (places : List Place) → has_unknown direction expected blank places ≡ false
        → has_missing direction expected (seen_behind direction expected blank places) expected ≡ false
        → (kind : PlaceKind) (slot subslot : ℕ) → times_listed kind slot subslot places ≡ times_required direction expected kind slot subslot
    all_listed places h m = none_missing _ (λ kind slot subslot. times_listed kind slot subslot places) (listed places h) m

  pub required_few : (kind : PlaceKind) (slot subslot : ℕ) → times_required direction expected kind slot subslot ≤ 1
  required_few kind slot subslot = cond_below (is_some (taken_at direction expected kind slot subslot)) _ refl
