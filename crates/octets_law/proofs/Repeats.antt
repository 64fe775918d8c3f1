-- The stored answers of a device, as they are read from octets.
use Rattle.std.proofs.Common.{◌≡◌, ◌==◌, ◌||◌, ◌&&◌, ℕ, zero, suc, Bool, true, false, not, nat_eq, nat_lt, List, [], ◌∷◌, map, drop, take, Some, refl, sym, ap, subst, ◌∙◌, arith, if◌then◌else◌}
use Rattle.std.proofs.lemmas.Bool.{and_from, and_parts, cond_both, cond-true, cond-false, or_left}
use Rattle.std.proofs.lemmas.Bool.Decides.{nat_tests}
use Rattle.std.specs.Cmp.Lexicographic.{pointwise}
use Rattle.rpc_core.specs.Cache.{Kept, Reported, again, kept_more, kept_of, looked, new, old, reported_by, without as but}
use Rattle.relations.specs.declared.options.DeviceOptions.{DeviceOptions}
use Rattle.device_core.specs.Asking.{kept_if, looked_if}
use Rattle.octets_law.specs.Octets.{Asking, Call, Nothing, Set, activity_of, called, in_order, is_counted}
use Rattle.octets_law.specs.Bridge.{names_in, repeats}
use Rattle.octets_law.specs.Headline.{Stored, again_for, is_again, is_stored, stored_after, stored_later, without}
use Rattle.octets_law.proofs.CallReads.{tested}

pub same_octets : (one other : List ℕ) → pointwise nat_eq one other ≡ true → one ≡ other
same_octets [] [] is = refl
same_octets [] (b ∷ other) is = absurd cc
same_octets (a ∷ one) [] is = absurd cc
same_octets (a ∷ one) (b ∷ other) is =
    let parts = and_parts (nat_eq a b) (pointwise nat_eq one other) is in
    ap (λ n. n ∷ one) (tested a b parts.0) ∙ ap (λ l. b ∷ l) (same_octets one other parts.1)

itself : (n : ℕ) → nat_eq n n ≡ true
itself n = grind (arith, nat_tests)

pub itself_octets : (one : List ℕ) → pointwise nat_eq one one ≡ true
itself_octets [] = refl
itself_octets (a ∷ one) = and_from (nat_eq a a) (pointwise nat_eq one one) (itself a) (itself_octets one)

-- ---- the kept answers, as they are stored

abbrev pub view : List Kept → List Stored
view calls = map (λ kept. (kept.sequence ∷ kept.activity, kept.frame)) calls

-- The frame that is sent again, by what the kept answers say.
abbrev pub frames_by : Reported → List (List ℕ)
frames_by new = []
frames_by (again frame) = frame ∷ []
frames_by old = []

by_number : (sequence : ℕ) (activity : List ℕ) (kept : Kept) → kept.activity ≡ activity
    → (if pointwise nat_eq (sequence ∷ activity) (kept.sequence ∷ kept.activity) then kept.frame ∷ [] else []) ≡ frames_by (reported_by sequence (Some kept))
by_number sequence activity kept is = by_same (sequence == kept.sequence) refl
  where
    by_order : (b : Bool) → frames_by (if b then old else new) ≡ []
    by_order true = refl
    by_order false = refl

    by_same : (b : Bool) → (sequence == kept.sequence) ≡ b
        → (if (sequence == kept.sequence) && pointwise nat_eq activity kept.activity then kept.frame ∷ [] else [])
        ≡ frames_by (if sequence == kept.sequence then again kept.frame else (if nat_lt sequence kept.sequence then old else new))
    by_same true same =
        cond-true _ _ _ (and_from (sequence == kept.sequence) (pointwise nat_eq activity kept.activity) same (subst (λ a. pointwise nat_eq activity a ≡ true) (sym is) (itself_octets activity)))
        ∙ sym (ap frames_by (cond-true _ _ _ same))
    by_same false other =
        ap (λ b. if b && pointwise nat_eq activity kept.activity then kept.frame ∷ [] else []) other
        ∙ sym (ap frames_by (cond-false _ _ _ other) ∙ by_order (nat_lt sequence kept.sequence))

-- What is sent again is what the kept answers say, if the answer to the call is stored; else nothing is.
again_stored : (options : DeviceOptions) (octets activity : List ℕ) (sequence : ℕ) (calls : List Kept) → is_stored options octets ≡ true
    → activity_of octets ≡ activity → in_order 64 4 octets ≡ sequence → again_for options (Call octets) (view calls) ≡ frames_by (looked activity sequence calls)
again_stored options octets activity sequence [] stored a s = refl
again_stored options octets activity sequence (kept ∷ calls) stored a s =
    by_activity (pointwise nat_eq kept.activity activity) refl (again_stored options octets activity sequence calls stored a s)
  where
    by_activity : (b : Bool) → pointwise nat_eq kept.activity activity ≡ b
        → again_for options (Call octets) (view calls) ≡ frames_by (looked activity sequence calls)
        → (if pointwise nat_eq kept.activity (activity_of octets)
        then (if is_stored options octets && pointwise nat_eq (called octets) (kept.sequence ∷ kept.activity) then kept.frame ∷ [] else [])
        else again_for options (Call octets) (view calls))
        ≡ frames_by (reported_by sequence (if pointwise nat_eq kept.activity activity then Some kept else kept_of activity calls))
    by_activity true is later =
        cond-true _ _ _ (ap (pointwise nat_eq kept.activity) a ∙ is)
        ∙ ap (λ b. if b && pointwise nat_eq (called octets) (kept.sequence ∷ kept.activity) then kept.frame ∷ [] else []) stored
        ∙ ap (λ l. if pointwise nat_eq (in_order 64 4 octets ∷ l) (kept.sequence ∷ kept.activity) then kept.frame ∷ [] else []) a
        ∙ ap (λ n. if pointwise nat_eq (n ∷ activity) (kept.sequence ∷ kept.activity) then kept.frame ∷ [] else []) s
        ∙ by_number sequence activity kept (same_octets kept.activity activity is)
        ∙ sym (ap (λ k. frames_by (reported_by sequence k)) (cond-true _ _ _ is))
    by_activity false is later =
        cond-false _ _ _ (ap (pointwise nat_eq kept.activity) a ∙ is) ∙ later ∙ sym (ap (λ k. frames_by (reported_by sequence k)) (cond-false _ _ _ is))

again_none : (options : DeviceOptions) (octets : List ℕ) (stored : List Stored) → is_stored options octets ≡ false → again_for options (Call octets) stored ≡ []
again_none options octets [] not = refl
again_none options octets (one ∷ others) not =
    cond_both (pointwise nat_eq (drop 1 one.0) (activity_of octets)) _ _ (λ (l : List (List ℕ)). l ≡ [])
    (λ _. ap (λ b. if b && pointwise nat_eq (called octets) one.0 then one.1 ∷ [] else []) not) (λ _. again_none options octets others not)

pub again_is : (options : DeviceOptions) (octets activity : List ℕ) (sequence : ℕ) (calls : List Kept) (stored : Bool) → is_stored options octets ≡ stored
    → activity_of octets ≡ activity → in_order 64 4 octets ≡ sequence
    → again_for options (Call octets) (view calls) ≡ frames_by (looked_if stored activity sequence calls)
again_is options octets activity sequence calls true stored a s = again_stored options octets activity sequence calls stored a s
again_is options octets activity sequence calls false not a s = again_none options octets (view calls) not

but_view : (activity : List ℕ) (calls : List Kept) → without activity (view calls) ≡ view (but activity calls)
but_view activity [] = refl
but_view activity (kept ∷ calls) = by_activity (pointwise nat_eq kept.activity activity) (but_view activity calls)
  where
    by_activity : (b : Bool) → without activity (view calls) ≡ view (but activity calls)
        → (if b then view calls else (kept.sequence ∷ kept.activity, kept.frame) ∷ without activity (view calls)) ≡ view (if b then calls else kept ∷ but activity calls)
    by_activity true later = refl
    by_activity false later = ap (λ l. (kept.sequence ∷ kept.activity, kept.frame) ∷ l) later

take_view : (n : ℕ) (calls : List Kept) → take n (view calls) ≡ view (take n calls)
take_view zero [] = refl
take_view zero (kept ∷ calls) = refl
take_view (suc n) [] = refl
take_view (suc n) (kept ∷ calls) = ap (λ l. (kept.sequence ∷ kept.activity, kept.frame) ∷ l) (take_view n calls)

-- One more stored answer.
pub kept_view : (activity frame : List ℕ) (sequence : ℕ) (calls : List Kept)
    → (sequence ∷ activity, frame) ∷ take 3 (without activity (view calls)) ≡ view
    (kept_more 4 (record { activity = activity; sequence = sequence; frame = frame }) calls)
kept_view activity frame sequence calls = ap (λ l. (sequence ∷ activity, frame) ∷ l) (ap (take 3) (but_view activity calls) ∙ take_view 3 (but activity calls))

-- An answer more, if it is stored.
pub kept_if_view : (stored : Bool) (activity frame : List ℕ) (sequence : ℕ) (calls : List Kept)
    → (if stored then (sequence ∷ activity, frame) ∷ take 3 (without activity (view calls)) else view calls)
    ≡ view (kept_if stored (record { activity = activity; sequence = sequence; frame = frame }) calls)
kept_if_view true activity frame sequence calls = kept_view activity frame sequence calls
kept_if_view false activity frame sequence calls = refl

-- Without a frame nothing more is stored.
pub stored_none : (options : DeviceOptions) (asking : Asking) (stored : List Stored) → stored_after options asking [] stored ≡ stored
stored_none options (Set set) stored = refl
stored_none options (Call call) stored =
    cond_both (is_counted call && not (is_again options (Call call) stored)) _ _ (λ (l : List Stored). l ≡ stored) (λ _. refl) (λ _. refl)
stored_none options Nothing stored = refl

-- A call with wrong counts, and one that is answered again, store nothing more.
pub stored_same : (options : DeviceOptions) (octets : List ℕ) (sent : List (List ℕ)) (stored : List Stored)
    → (is_counted octets && not (is_again options (Call octets) stored)) ≡ false → stored_after options (Call octets) sent stored ≡ stored
stored_same options octets sent stored not = cond-false _ _ _ not

-- Of a call that is handled as new each response is stored.
pub stored_new : (options : DeviceOptions) (octets : List ℕ) (sent : List (List ℕ)) (stored : List Stored) → is_counted octets ≡ true
    → is_again options (Call octets) stored ≡ false → stored_after options (Call octets) sent stored ≡ stored_later options sent stored
stored_new options octets sent stored counted fresh =
    cond-true _ _ _ (and_from (is_counted octets) (not (is_again options (Call octets) stored)) counted (ap not fresh))

-- ---- names

-- The name of a call that is answered again, if it is.
abbrev pub again_names : DeviceOptions → Asking → List Stored → List (List ℕ)
again_names options asking stored = if is_again options asking stored then names_in asking else []

none_repeats : (asking : Asking) → repeats asking [] ≡ false
none_repeats (Set set) = refl
none_repeats (Call call) = refl
none_repeats Nothing = refl

pub repeats_again : (options : DeviceOptions) (asking : Asking) (stored : List Stored) → repeats asking (again_names options asking stored) ≡ true → is_again options asking stored ≡ true
repeats_again options asking stored = by_again (is_again options asking stored)
  where
    by_again : (b : Bool) → repeats asking (if b then names_in asking else []) ≡ true → b ≡ true
    by_again true is = refl
    by_again false is = absurd (let e = none_repeats asking in cc)

pub again_repeats : (options : DeviceOptions) (octets : List ℕ) (stored : List Stored) → is_again options (Call octets) stored ≡ true → repeats (Call octets) (again_names options (Call octets) stored) ≡ true
again_repeats options octets stored is =
    ap (repeats (Call octets)) (cond-true _ _ _ is)
    ∙ or_left (pointwise nat_eq (called octets) (called octets) || false) false (or_left (pointwise nat_eq (called octets) (called octets)) false (itself_octets (called octets)))
