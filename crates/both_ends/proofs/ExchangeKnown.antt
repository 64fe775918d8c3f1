-- The diagnoses of a device: they appeared one after the other.
use Rattle.std.proofs.Common.{◌≡◌, ◌==◌, ◌&&◌, ◌||◌, ◌++◌, ◌<◌, ◌≤◌, ℕ, Bool, true, false, cond, not, List, [], ◌∷◌, length, map, Some, None, refl, sym, ap, subst, ◌∙◌, append-nil, append_assoc, arith}
use Rattle.std.specs.Prelude.{nat_le, nat_lt}
use Rattle.std.specs.List.{filter, list_any}
use Rattle.std.proofs.lemmas.Bool.{and_parts, eqb-true, false≢true, leb-true, lt-ltb, ltb-true, not-true}
use Rattle.std.proofs.lemmas.List.{length-append}
use Rattle.std.proofs.lemmas.List.Elements.{filter-append}
use Rattle.std.proofs.lemmas.List.Filters.{length-filter_both}
use Rattle.diagnosis.specs.Existing.{changed, exists, is_at, is_same, is_valid, others, remaining, with_one, without}
use Rattle.diagnosis.specs.Notices.{first_notice}
use Rattle.diagnosis.specs.declared.diagnosis.Change.{Change}
use Rattle.diagnosis.specs.declared.diagnosis.Diagnosis.{Diagnosis}
use Rattle.diagnosis.specs.reported.Followed.{at_places}
use Rattle.both_ends.specs.exchange.Told.{AreKnown, AreNew, AreOwn, IsNew, IsOwnChange, change_in, reaches_at}
use Rattle.pn_values.specs.declared.real.RealModule.{RealModule}
use Rattle.module_diff.specs.declared.changes.Affected.{Affected}
use Rattle.module_diff.specs.Changes.{covers}
use Rattle.diagnosis.specs.Queue.{diagnosis_queued, reach_of}
use Rattle.diagnosis.specs.declared.module_change.ModuleChange.{ModuleChange}
use Rattle.diagnosis.specs.declared.queue.LowChange.{LowChange}
use Rattle.diagnosis.specs.declared.queue.LowChange.TheVariants as change_is
use Rattle.diagnosis.specs.declared.queue.QueuedAlarm.{QueuedAlarm}
use Rattle.both_ends.proofs.ExchangeOwn.{any_append}
use Rattle.both_ends.proofs.ExchangeSteps.{LeadsIf}

-- a change elsewhere changes nothing at these submodules: a law of the crate below
abbrev pub ElsewhereSo : Type 0
ElsewhereSo = (has : ℕ → ℕ → Bool) (change : Change) (before after : List Diagnosis) → has change.diagnosis.slot change.diagnosis.subslot ≡ false
    → changed change before ≡ Some after → at_places has after ≡ at_places has before

-- ---- one more

changed_new : (before : List Diagnosis) (one : Diagnosis) → IsNew before one → changed (record { diagnosis = one; appears = true }) before ≡ Some (before ++ one ∷ [])
changed_new before one new = rw (new.valid, new.new, lt-ltb (length before) 32 new.few) refl

channel_small : (one : Diagnosis) → is_valid one ≡ true → one.channel < 65536
channel_small one valid =
    let most = leb-true one.channel 0x8000 (and_parts (nat_le one.channel 0x8000) (not (one.error == 0)) valid).0 in
    omega (arith, most)

append_new : (start diagnoses : List Diagnosis) (one : Diagnosis) → AreNew start diagnoses → IsNew (start ++ diagnoses) one → AreNew start (diagnoses ++ one ∷ [])
append_new start [] one all new = (subst (λ (xs : List Diagnosis). IsNew xs one) (append-nil start) new, tt)
append_new start (first ∷ diagnoses) one all new =
    (all.0, append_new (start ++ first ∷ []) diagnoses one all.1 (subst (λ (xs : List Diagnosis). IsNew xs one) (sym (append_assoc start (first ∷ []) diagnoses)) new))

-- ---- fewer

or_false : (b c : Bool) → b || c ≡ false → (b ≡ false) × (c ≡ false)
or_false true c e = absurd (false≢true (sym e))
or_false false c e = (refl, e)

any_less : {A : Type 0} (test keep : A → Bool) (xs : List A) → list_any test xs ≡ false → list_any test (filter keep xs) ≡ false
any_less test keep [] e = refl
any_less test keep (x ∷ xs) e = by_keep (keep x) (or_false (test x) (list_any test xs) e).0 (any_less test keep xs (or_false (test x) (list_any test xs) e).1)
  where
    by_keep : (c : Bool) → test x ≡ false → list_any test (filter keep xs) ≡ false → list_any test (cond c (x ∷ filter keep xs) (filter keep xs)) ≡ false
    by_keep true none rest = ap (λ (b : Bool). b || list_any test (filter keep xs)) none ∙ rest
    by_keep false none rest = rest

filter_few : {A : Type 0} (keep : A → Bool) (xs : List A) → length (filter keep xs) ≤ length xs
filter_few keep xs = omega (arith, length-filter_both keep (λ x. not (keep x)) (λ _. refl) xs)

less_new : (keep : Diagnosis → Bool) (before : List Diagnosis) (one : Diagnosis) → IsNew before one → IsNew (filter keep before) one
less_new keep before one new = record {
  valid = new.valid;
  new = any_less (is_same one) keep before new.new;
  few = omega (arith, new.few, filter_few keep before);
  error = new.error;
}

all_less : (keep : Diagnosis → Bool) (start diagnoses : List Diagnosis) → AreNew start diagnoses → AreNew (filter keep start) (filter keep diagnoses)
all_less keep start [] all = tt
all_less keep start (one ∷ diagnoses) all = by_test (keep one) refl (all_less keep (start ++ one ∷ []) diagnoses all.1)
  where
    later : AreNew (filter keep (start ++ one ∷ [])) (filter keep diagnoses) → AreNew (filter keep start ++ filter keep (one ∷ [])) (filter keep diagnoses)
    later rest = subst (λ (xs : List Diagnosis). AreNew xs (filter keep diagnoses)) (filter-append keep start (one ∷ [])) rest

    by_test : (b : Bool) → keep one ≡ b → AreNew (filter keep (start ++ one ∷ [])) (filter keep diagnoses) → AreNew (filter keep start) (cond b (one ∷ filter keep diagnoses) (filter keep diagnoses))
    by_test true e rest = (
      less_new keep start one all.0,
      subst (λ (xs : List Diagnosis). AreNew (filter keep start ++ xs) (filter keep diagnoses)) (ap (λ (b : Bool). cond b (one ∷ []) []) e) (later rest),
    )
    by_test false e rest =
        subst (λ (xs : List Diagnosis). AreNew xs (filter keep diagnoses)) (append-nil (filter keep start))
        (subst (λ (xs : List Diagnosis). AreNew (filter keep start ++ xs) (filter keep diagnoses)) (ap (λ (b : Bool). cond b (one ∷ []) []) e) (later rest))

-- ---- a change

taken : {A : Type 0} (b : Bool) (x after : A) → cond b (Some x) None ≡ Some after → (b ≡ true) × (x ≡ after)
taken true x after e = (refl, cc)
taken false x after e = absurd cc

-- what a device accepts leaves diagnoses that appeared one after the other
pub changed_known : (change : Change) (before after : List Diagnosis) → changed change before ≡ Some after → change.diagnosis.error < 65536 → AreKnown before → AreKnown after
changed_known change before after e small all = by_test change.appears e
  where
    one : Diagnosis
    one = change.diagnosis

    by_test : (b : Bool) → cond b (with_one change.diagnosis before) (without change.diagnosis before) ≡ Some after → AreKnown after
    by_test true f =
        let now = taken (is_valid change.diagnosis && (not (exists change.diagnosis before) && nat_lt (length before) 32)) (before ++ change.diagnosis ∷ []) after f in
        let parts = and_parts (is_valid change.diagnosis) (not (exists change.diagnosis before) && nat_lt (length before) 32) now.0 in
        let room = and_parts (not (exists change.diagnosis before)) (nat_lt (length before) 32) parts.1 in
        subst (λ (xs : List Diagnosis). AreKnown xs) now.1
        (append_new [] before change.diagnosis all
        (record { valid = parts.0; new = not-true (exists change.diagnosis before) room.0; few = ltb-true (length before) 32 room.1; error = small }))
    by_test false f =
        let now = taken (exists change.diagnosis before) (others change.diagnosis before) after f in
        subst (λ (xs : List Diagnosis). AreKnown xs) now.1 (all_less (λ other. not (is_same change.diagnosis other)) [] before all)

-- ---- its channel

-- each of these was accepted
exists_valid : (start diagnoses : List Diagnosis) (one : Diagnosis) → AreNew start diagnoses → exists one diagnoses ≡ true → one.channel < 65536
exists_valid start [] one all e = absurd (false≢true e)
exists_valid start (first ∷ diagnoses) one all e = by_same (is_same one first) refl (λ there. exists_valid (start ++ first ∷ []) diagnoses one all.1 there)
  where
    by_same : (b : Bool) → is_same one first ≡ b → (exists one diagnoses ≡ true → one.channel < 65536) → one.channel < 65536
    by_same true f later =
        let rest = (and_parts (is_at one.slot one.subslot first) (first_channel && first_error) f).1 in
        let same = eqb-true one.channel first.channel (and_parts (one.channel == first.channel) (one.error == first.error) rest).0 in
        subst (λ (n : ℕ). n < 65536) (sym same) (channel_small first all.0.valid)
      where
        first_channel : Bool
        first_channel = one.channel == first.channel

        first_error : Bool
        first_error = one.error == first.error
    by_same false f later = later (ap (λ (b : Bool). b || exists one diagnoses) (sym f) ∙ e)

pub changed_channel : (change : Change) (before after : List Diagnosis) → changed change before ≡ Some after → AreKnown before → change.diagnosis.channel < 65536
changed_channel change before after e all = by_test change.appears e
  where
    by_test : (b : Bool) → cond b (with_one change.diagnosis before) (without change.diagnosis before) ≡ Some after → change.diagnosis.channel < 65536
    by_test true f =
        let now = taken (is_valid change.diagnosis && (not (exists change.diagnosis before) && nat_lt (length before) 32)) (before ++ change.diagnosis ∷ []) after f in
        channel_small change.diagnosis (and_parts (is_valid change.diagnosis) (not (exists change.diagnosis before) && nat_lt (length before) 32) now.0).0
    by_test false f =
        let now = taken (exists change.diagnosis before) (others change.diagnosis before) after f in
        exists_valid [] before change.diagnosis all now.0

-- ---- what exists, as changes

-- what waits for these diagnoses as data exchange begins
abbrev pub first_queued : List RealModule → List Diagnosis → List QueuedAlarm
first_queued real diagnoses = map (diagnosis_queued real) (map first_notice diagnoses)

-- the diagnoses at these submodules appeared there one after the other
pub rebuilt : ElsewhereSo → (Apart : Type 0) (real : List RealModule) (has : ℕ → ℕ → Bool) (before diagnoses : List Diagnosis) → AreNew before diagnoses
    → LeadsIf Apart (map change_in (first_queued real (at_places has diagnoses))) (at_places has before) (at_places has (before ++ diagnoses))
rebuilt elsewhere Apart real has before [] new = ap (at_places has) (sym (append-nil before))
rebuilt elsewhere Apart real has before (one ∷ diagnoses) new = by_place (has one.slot one.subslot) refl (later (rebuilt elsewhere Apart real has (before ++ one ∷ []) diagnoses new.1))
  where
    later : LeadsIf Apart (map change_in (first_queued real (at_places has diagnoses))) (at_places has (before ++ one ∷ [])) (at_places has ((before ++ one ∷ []) ++ diagnoses))
        → LeadsIf Apart (map change_in (first_queued real (at_places has diagnoses))) (at_places has (before ++ one ∷ [])) (at_places has (before ++ one ∷ diagnoses))
    later rest =
        subst (λ (xs : List Diagnosis). LeadsIf Apart (map change_in (first_queued real (at_places has diagnoses))) (at_places has (before ++ one ∷ [])) (at_places has xs)) (append_assoc before (one ∷ []) diagnoses) rest

    by_place : (b : Bool) → has one.slot one.subslot ≡ b
        → LeadsIf Apart (map change_in (first_queued real (at_places has diagnoses))) (at_places has (before ++ one ∷ [])) (at_places has (before ++ one ∷ diagnoses))
        → LeadsIf Apart (map change_in (first_queued real (cond b (one ∷ at_places has diagnoses) (at_places has diagnoses)))) (at_places has before) (at_places has (before ++ one ∷ diagnoses))
    by_place true e rest = (
      at_places has (before ++ one ∷ []),
      record {
        step = record {
          has = has;
          before = before;
          after = before ++ one ∷ [];
          own = e;
          channel = channel_small one new.0.valid;
          error = new.0.error;
          is = changed_new before one new.0;
          from_is = refl;
          next_is = refl;
        };
        seen = λ _. tt;
      },
      rest,
    )
    by_place false e rest =
        subst (λ (xs : List Diagnosis). LeadsIf Apart (map change_in (first_queued real (at_places has diagnoses))) xs (at_places has (before ++ one ∷ diagnoses)))
        (elsewhere has (record { diagnosis = one; appears = true }) before (before ++ one ∷ []) e (changed_new before one new.0)) rest

-- ---- the submodules of the changes

any_parts : {A : Type 0} (test : A → Bool) (xs ys : List A) → list_any test (xs ++ ys) ≡ false → (list_any test xs ≡ false) × (list_any test ys ≡ false)
any_parts test xs ys e = or_false (list_any test xs) (list_any test ys) (sym (any_append test xs ys) ∙ e)

-- more changes at these submodules
pub own_append : (has : ℕ → ℕ → Bool) (changes more : List LowChange) → AreOwn has changes → AreOwn has more → AreOwn has (changes ++ more)
own_append has [] more all others = others
own_append has (first ∷ changes) more all others = (one first all.0, own_append has changes more all.1 others)
  where
    one : (change : LowChange) → IsOwnChange has changes change → IsOwnChange has (changes ++ more) change
    one (change_is.Diagnosis change) own = λ none. own (any_parts (reaches_at change.diagnosis.slot change.diagnosis.subslot) changes more none).0
    one (change_is.Module made) own = tt

-- the submodules are the same but for those that a pull or a plug reaches
pub own_changed : (has now : ℕ → ℕ → Bool) (made : ModuleChange) → ((slot subslot : ℕ) → covers (reach_of made) slot subslot ≡ false → now slot subslot ≡ has slot subslot)
    → (changes : List LowChange) → AreOwn has changes → AreOwn now (changes ++ change_is.Module made ∷ [])
own_changed has now made same [] all = (tt, tt)
own_changed has now made same (first ∷ changes) all = (one first all.0, own_changed has now made same changes all.1)
  where
    one : (change : LowChange) → IsOwnChange has changes change → IsOwnChange now (changes ++ change_is.Module made ∷ []) change
    one (change_is.Diagnosis change) own = λ none.
        let parts = any_parts (reaches_at change.diagnosis.slot change.diagnosis.subslot) changes (change_is.Module made ∷ []) none in
        same change.diagnosis.slot change.diagnosis.subslot (or_false (covers (reach_of made) change.diagnosis.slot change.diagnosis.subslot) false parts.1).0 ∙ own parts.0
    one (change_is.Module other) own = tt

-- all submodules are the same
pub own_same : (has now : ℕ → ℕ → Bool) → ((slot subslot : ℕ) → now slot subslot ≡ has slot subslot) → (changes : List LowChange) → AreOwn has changes → AreOwn now changes
own_same has now same [] all = tt
own_same has now same (first ∷ changes) all = (one first all.0, own_same has now same changes all.1)
  where
    one : (change : LowChange) → IsOwnChange has changes change → IsOwnChange now changes change
    one (change_is.Diagnosis change) own = λ none. same change.diagnosis.slot change.diagnosis.subslot ∙ own none
    one (change_is.Module made) own = tt

-- what waits for the diagnoses at these submodules
pub first_own : (real : List RealModule) (has : ℕ → ℕ → Bool) (diagnoses : List Diagnosis) → AreOwn has (map change_in (first_queued real (at_places has diagnoses)))
first_own real has [] = tt
first_own real has (one ∷ diagnoses) = by_has (has one.slot one.subslot) refl (first_own real has diagnoses)
  where
    by_has : (b : Bool) → has one.slot one.subslot ≡ b → AreOwn has (map change_in (first_queued real (at_places has diagnoses)))
        → AreOwn has (map change_in (first_queued real (cond b (one ∷ at_places has diagnoses) (at_places has diagnoses))))
    by_has true e rest = (λ none. e, rest)
    by_has false e rest = rest

-- ---- what was pulled

-- the diagnoses elsewhere appeared one after the other
pub remaining_known : (affected : Affected) (diagnoses : List Diagnosis) → AreKnown diagnoses → AreKnown (remaining affected diagnoses)
remaining_known affected diagnoses all = all_less (λ diagnosis. not (covers affected diagnosis.slot diagnosis.subslot)) [] diagnoses all

-- there are at most 32: with each fewer than 32 were there before it
pub known_few : (start diagnoses : List Diagnosis) → length start ≤ 32 → AreNew start diagnoses → length (start ++ diagnoses) ≤ 32
known_few start [] few all = subst (λ (xs : List Diagnosis). length xs ≤ 32) (sym (append-nil start)) few
known_few start (one ∷ diagnoses) few all =
    subst (λ (xs : List Diagnosis). length xs ≤ 32) (append_assoc start (one ∷ []) diagnoses)
    (known_few (start ++ one ∷ []) diagnoses (one_longer start one all.0.few) all.1)
  where
    one_longer : (xs : List Diagnosis) (x : Diagnosis) → length xs < 32 → length (xs ++ x ∷ []) ≤ 32
    one_longer xs x less = let long = length-append xs (x ∷ []) in omega (arith, less, long)
