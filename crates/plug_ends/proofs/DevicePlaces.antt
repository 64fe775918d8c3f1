-- The places of a relation: how far each is after an event, and that each call ApplicationReady of a plug is for a place whose
-- parameters have ended.
use Rattle.std.proofs.Common.{◌≡◌, ◌==◌, ◌&&◌, ◌++◌, ℕ, Bool, true, false, not, cond, List, [], ◌∷◌, map, Option, Some, None, option_map, refl, sym, ap}
use Rattle.std.proofs.Common.{subst, ◌∙◌}
use Rattle.std.specs.Prelude.{if◌then◌else◌, unwrap_or}
use Rattle.std.specs.List.{AllByRecursion, filter, find}
use Rattle.std.proofs.lemmas.Bool.{and_from, and_parts, eq-eqb, eqb-true, false≢true}
use Rattle.wire.specs.blocks.modules.Lists.{Listed}
use Rattle.connect_blocks.specs.declared.module_diff.DiffModule.{DiffModule}
use Rattle.connect_blocks.specs.declared.module_diff.DiffSubmodule.{DiffSubmodule}
use Rattle.module_diff.specs.declared.changes.Affected.{Affected}
use Rattle.module_diff.specs.Changes.{covers}
use Rattle.expected_places.specs.declared.calls.PlugCall.{PlugCall}
use Rattle.expected_places.specs.declared.calls.WaitingCall.{WaitingCall}
use Rattle.expected_places.specs.declared.place.ExpectedPlace.{ExpectedPlace}
use Rattle.expected_places.specs.declared.place.Step.{Step}
use Rattle.expected_places.specs.declared.place.Step.TheVariants.{Settled, Pulled, Plugged, Told, Ended, Refused}
use Rattle.expected_places.specs.Calls.{counted, counted_with, first_ready, is_unready, kept_call, kept_calls, readied_call, sent_beside, sent_with}
use Rattle.expected_places.specs.Machine.{PlugState, answered, answered_by, ended, ended_at, next_called, readied, restated, told, touched}
use Rattle.expected_places.specs.Places.{first_told, is_for, is_plugged, is_plugged_step, is_told_with, place_at, places_restated, restated_place, stepped}
use Rattle.expected_places.specs.Places.{touched_place, touched_places}
use Rattle.plug_ends.specs.Places.{step_at}

-- ---- how far a place is

-- This slot and subslot.
abbrev pub there : ℕ → ℕ → Affected
there slot subslot = record { slot = slot; subslot = Some subslot }

-- A step that is new if the place is affected.
abbrev pub step_if : Bool → Step → Step → Step
step_if b new old = cond b new old

for_if : (b : Bool) (new : Step) (place : ExpectedPlace) (slot subslot : ℕ)
    → is_for slot subslot (cond b (record place { step = new }) place) ≡ is_for slot subslot place
for_if true new place slot subslot = refl
for_if false new place slot subslot = refl

step_is : (b : Bool) (new : Step) (place : ExpectedPlace) → (cond b (record place { step = new }) place).step ≡ step_if b new place.step
step_is true new place = refl
step_is false new place = refl

-- After a change of all affected places.
pub touched_at : (affected : Affected) (new : Step) (places : List ExpectedPlace) (slot subslot : ℕ)
    → step_at slot subslot (touched_places affected new places)
    ≡ option_map (λ (old : Step). step_if (covers affected slot subslot) new old) (step_at slot subslot places)
touched_at affected new [] slot subslot = refl
touched_at affected new (place ∷ places) slot subslot = by_for (is_for slot subslot place) refl (touched_at affected new places slot subslot)
  where
    now : ExpectedPlace
    now = touched_place affected new place

    by_for : (b : Bool) → is_for slot subslot place ≡ b
        → step_at slot subslot (touched_places affected new places)
        ≡ option_map (λ (old : Step). step_if (covers affected slot subslot) new old) (step_at slot subslot places)
        → step_at slot subslot (touched_places affected new (place ∷ places))
        ≡ option_map (λ (old : Step). step_if (covers affected slot subslot) new old) (step_at slot subslot (place ∷ places))
    by_for true e rest =
        let both = and_parts (place.slot == slot) (place.subslot == subslot) e in
        let covered : covers affected place.slot place.subslot ≡ covers affected slot subslot =
        ap (λ (n : ℕ). covers affected n place.subslot) (eqb-true place.slot slot both.0) ∙ ap (λ (n : ℕ). covers affected slot n)
        (eqb-true place.subslot subslot both.1) in
        ap (λ (b : Bool). option_map (λ (p : ExpectedPlace). p.step) (cond b (Some now) (place_at slot subslot (touched_places affected new places))))
        (for_if (covers affected place.slot place.subslot) new place slot subslot ∙ e)
        ∙ (ap (λ (s : Step). Some s) (step_is (covers affected place.slot place.subslot) new place ∙ ap (λ (b : Bool). step_if b new place.step) covered)
        ∙ sym (ap (λ (b : Bool). option_map (λ (old : Step). step_if (covers affected slot subslot) new old)
        (option_map (λ (p : ExpectedPlace). p.step) (cond b (Some place) (place_at slot subslot places)))) e))
    by_for false e rest =
        ap (λ (b : Bool). option_map (λ (p : ExpectedPlace). p.step) (cond b (Some now) (place_at slot subslot (touched_places affected new places))))
        (for_if (covers affected place.slot place.subslot) new place slot subslot ∙ e)
        ∙ (rest
        ∙ sym (ap (λ (b : Bool). option_map (λ (old : Step). step_if (covers affected slot subslot) new old)
        (option_map (λ (p : ExpectedPlace). p.step) (cond b (Some place) (place_at slot subslot places)))) e))

-- What differs is no part of it.
pub restated_at : (rows : Listed DiffModule DiffSubmodule) (places : List ExpectedPlace) (slot subslot : ℕ)
    → step_at slot subslot (places_restated rows places) ≡ step_at slot subslot places
restated_at rows [] slot subslot = refl
restated_at rows (place ∷ places) slot subslot = by_for (is_for slot subslot place) (restated_at rows places slot subslot)
  where
    by_for : (b : Bool) → step_at slot subslot (places_restated rows places) ≡ step_at slot subslot places
        → option_map (λ (p : ExpectedPlace). p.step) (cond b (Some (restated_place rows place)) (place_at slot subslot (places_restated rows places)))
        ≡ option_map (λ (p : ExpectedPlace). p.step) (cond b (Some place) (place_at slot subslot places))
    by_for true rest = refl
    by_for false rest = rest

-- A place that is affected, and one that is not.
pub covered_at : (affected : Affected) (new old : Step) (places : List ExpectedPlace) (slot subslot : ℕ) → covers affected slot subslot ≡ true
    → step_at slot subslot places ≡ Some old → step_at slot subslot (touched_places affected new places) ≡ Some new
covered_at affected new old places slot subslot e is =
    touched_at affected new places slot subslot
    ∙ (ap (λ (s : Option Step). option_map (λ (o : Step). step_if (covers affected slot subslot) new o) s) is ∙ ap (λ (b : Bool). Some (step_if b new old)) e)

pub beside_at : (affected : Affected) (new : Step) (places : List ExpectedPlace) (slot subslot : ℕ) → covers affected slot subslot ≡ false
    → step_at slot subslot (touched_places affected new places) ≡ step_at slot subslot places
beside_at affected new places slot subslot e = touched_at affected new places slot subslot ∙ by_step (step_at slot subslot places)
  where
    by_step : (s : Option Step) → option_map (λ (old : Step). step_if (covers affected slot subslot) new old) s ≡ s
    by_step None = refl
    by_step (Some old) = ap (λ (b : Bool). Some (step_if b new old)) e

-- ---- each call is for a place whose parameters have ended

-- The first place in its slot and subslot is as far as this one.
abbrev pub IsAlike : List ExpectedPlace → ExpectedPlace → Type 0
IsAlike places place = step_at place.slot place.subslot places ≡ Some place.step

-- The place of a call that waits has ended.
abbrev pub IsEndedFor : List ExpectedPlace → WaitingCall → Type 0
IsEndedFor places call = step_at call.slot call.subslot places ≡ Some (Ended call.number)

-- It is another one than that of the active call.
abbrev pub IsApart : PlugCall → WaitingCall → Type 0
IsApart call other = covers (there call.slot call.subslot) other.slot other.subslot ≡ false

pub record AreCalled (plugs : PlugState) : Type 0 where
  pub alike : AllByRecursion (IsAlike plugs.places) plugs.places
  pub standing : (call : PlugCall) → plugs.calls.standing ≡ Some call → step_at call.slot call.subslot plugs.places ≡ Some (Ended call.number)
  pub waiting : AllByRecursion (IsEndedFor plugs.places) plugs.calls.waiting
  pub apart : (call : PlugCall) → plugs.calls.standing ≡ Some call → AllByRecursion (IsApart call) plugs.calls.waiting

-- ---- lists

some_is : {A : Type 0} (x y : A) → Some x ≡ Some y → x ≡ y
some_is x y e = cc

each_mapped : {A B : Type 0} (P : A → Type 0) (Q : B → Type 0) (f : A → B) (xs : List A) → ((x : A) → P x → Q (f x)) → AllByRecursion P xs
    → AllByRecursion Q (map f xs)
each_mapped P Q f [] by all = tt
each_mapped P Q f (x ∷ xs) by all = (by x all.0, each_mapped P Q f xs by all.1)

each_is : {A : Type 0} (P Q : A → Type 0) (xs : List A) → ((x : A) → P x → Q x) → AllByRecursion P xs → AllByRecursion Q xs
each_is P Q [] by all = tt
each_is P Q (x ∷ xs) by all = (by x all.0, each_is P Q xs by all.1)

-- those that pass a test, and that they pass
each_filtered : {A : Type 0} (test : A → Bool) (P Q : A → Type 0) (xs : List A) → ((x : A) → test x ≡ true → P x → Q x) → AllByRecursion P xs
    → AllByRecursion Q (filter test xs)
each_filtered test P Q [] by all = tt
each_filtered {A} test P Q (x ∷ xs) by all = by_test (test x) refl (each_filtered test P Q xs by all.1)
  where
    by_test : (b : Bool) → test x ≡ b → AllByRecursion Q (filter test xs) → AllByRecursion Q (cond b (x ∷ filter test xs) (filter test xs))
    by_test true e rest = (by x e all.0, rest)
    by_test false e rest = rest

each_more : {A : Type 0} (P : A → Type 0) (xs : List A) (x : A) → AllByRecursion P xs → P x → AllByRecursion P (xs ++ x ∷ [])
each_more P [] x all one = (one, tt)
each_more P (other ∷ xs) x all one = (all.0, each_more P xs x all.1 one)

found_so : {A : Type 0} (test : A → Bool) (P : A → Type 0) (xs : List A) (x : A) → AllByRecursion P xs → find test xs ≡ Some x → P x × (test x ≡ true)
found_so test P [] x all e = absurd cc
found_so {A} test P (first ∷ xs) x all e = by_test (test first) refl (λ f. found_so test P xs x all.1 f) e
  where
    by_test : (b : Bool) → test first ≡ b → (find test xs ≡ Some x → P x × (test x ≡ true)) → cond b (Some first) (find test xs) ≡ Some x
        → P x × (test x ≡ true)
    by_test true f rest g = subst (λ (y : A). P y × (test y ≡ true)) (some_is first x g) (all.0, f)
    by_test false f rest g = rest g

not_true : (b : Bool) → not b ≡ true → b ≡ false
not_true true e = absurd cc
not_true false e = refl

-- ---- what is kept by a change of affected places

touched_alike : (affected : Affected) (new : Step) (all places : List ExpectedPlace) → AllByRecursion (IsAlike all) places
    → AllByRecursion (IsAlike (touched_places affected new all)) (touched_places affected new places)
touched_alike affected new all places alike =
    each_mapped (IsAlike all) (IsAlike (touched_places affected new all)) (touched_place affected new) places
    (λ place is. by_cover place is (covers affected place.slot place.subslot) refl) alike
  where
    by_cover : (place : ExpectedPlace) → IsAlike all place → (b : Bool) → covers affected place.slot place.subslot ≡ b
        → IsAlike (touched_places affected new all) (cond b (record place { step = new }) place)
    by_cover place is true e = covered_at affected new place.step all place.slot place.subslot e is
    by_cover place is false e = beside_at affected new all place.slot place.subslot e ∙ is

-- ---- the events

pub restated_called : (rows : Listed DiffModule DiffSubmodule) (plugs : PlugState) → AreCalled plugs → AreCalled (restated rows plugs)
restated_called rows plugs is = record {
  alike = each_mapped (IsAlike plugs.places) (IsAlike (places_restated rows plugs.places)) (restated_place rows) plugs.places
      (λ place alike. restated_at rows plugs.places place.slot place.subslot ∙ alike) is.alike;
  standing = λ call e. restated_at rows plugs.places call.slot call.subslot ∙ is.standing call e;
  waiting = each_is (IsEndedFor plugs.places) (IsEndedFor (places_restated rows plugs.places)) plugs.calls.waiting
      (λ call ended. restated_at rows plugs.places call.slot call.subslot ∙ ended) is.waiting;
  apart = is.apart;
}

kept_standing : (affected : Affected) (standing : Option PlugCall) (call : PlugCall) → kept_call affected standing ≡ Some call
    → (standing ≡ Some call) × (covers affected call.slot call.subslot ≡ false)
kept_standing affected None call e = absurd cc
kept_standing affected (Some other) call e = by_cover (covers affected other.slot other.subslot) refl e
  where
    by_cover : (b : Bool) → covers affected other.slot other.subslot ≡ b → (if b then None else Some other) ≡ Some call
        → (Some other ≡ Some call) × (covers affected call.slot call.subslot ≡ false)
    by_cover true f g = absurd cc
    by_cover false f g = (g, subst (λ (c : PlugCall). covers affected c.slot c.subslot ≡ false) (some_is other call g) f)

pub touched_called : (affected : Affected) (new : Step) (plugs : PlugState) → AreCalled plugs → AreCalled (touched affected new plugs)
touched_called affected new plugs is = record {
  alike = touched_alike affected new plugs.places plugs.places is.alike;
  standing = λ call e.
      let was = kept_standing affected plugs.calls.standing call e in
      beside_at affected new plugs.places call.slot call.subslot was.1 ∙ is.standing call was.0;
  waiting = each_filtered (λ (call : WaitingCall). not (covers affected call.slot call.subslot)) (IsEndedFor plugs.places)
      (IsEndedFor (touched_places affected new plugs.places)) plugs.calls.waiting
      (λ call e ended. beside_at affected new plugs.places call.slot call.subslot (not_true (covers affected call.slot call.subslot) e) ∙ ended) is.waiting;
  apart = λ call e. each_filtered (λ (other : WaitingCall). not (covers affected other.slot other.subslot)) (IsApart call) (IsApart call) plugs.calls.waiting
      (λ other f apart. apart) (is.apart call (kept_standing affected plugs.calls.standing call e).0);
}

-- A place that is covered is the one there.
pub same_place : (slot subslot at below : ℕ) (places : List ExpectedPlace) → covers (there slot subslot) at below ≡ true
    → step_at at below places ≡ step_at slot subslot places
same_place slot subslot at below places e =
    let both = and_parts (slot == at) (subslot == below) e in
    sym (ap (λ (n : ℕ). step_at n subslot places) (eqb-true slot at both.0) ∙ ap (λ (n : ℕ). step_at at n places) (eqb-true subslot below both.1))

-- Where a place is not ended, no call is of it: another step there leaves the calls.
stepped_called : (slot subslot : ℕ) (new old : Step) (plugs : PlugState) → step_at slot subslot plugs.places ≡ Some old
    → ((number : ℕ) → old ≡ Ended number → ⊥) → AreCalled plugs
    → (at below number : ℕ) → step_at at below plugs.places ≡ Some (Ended number) → covers (there slot subslot) at below ≡ false
stepped_called slot subslot new old plugs was unended is at below number ended = by_cover (covers (there slot subslot) at below) refl
  where
    by_cover : (b : Bool) → covers (there slot subslot) at below ≡ b → b ≡ false
    by_cover false e = refl
    by_cover true e = absurd (unended number (some_is old (Ended number) (sym was ∙ (sym (same_place slot subslot at below plugs.places e) ∙ ended))))

plugged_at : (found : Option ExpectedPlace) → is_plugged found ≡ true → option_map (λ (place : ExpectedPlace). place.step) found ≡ Some Plugged
plugged_at None e = absurd (false≢true e)
plugged_at (Some place) e = ap (λ (s : Step). Some s) (by_step place.step e)
  where
    by_step : (s : Step) → is_plugged_step s ≡ true → s ≡ Plugged
    by_step Plugged f = refl
    by_step Settled f = absurd (false≢true f)
    by_step Pulled f = absurd (false≢true f)
    by_step (Told number) f = absurd (false≢true f)
    by_step (Ended number) f = absurd (false≢true f)
    by_step Refused f = absurd (false≢true f)

-- The alarm of a plug finds this place plugged, and is the last one there: then the place has its number, else it stays.
pub told_plugged : (slot subslot : ℕ) (is_last : Bool) (plugs : PlugState) → (is_last && is_plugged (place_at slot subslot plugs.places)) ≡ true
    → step_at slot subslot plugs.places ≡ Some Plugged
told_plugged slot subslot is_last plugs e = plugged_at (place_at slot subslot plugs.places)
    (and_parts is_last (is_plugged (place_at slot subslot plugs.places)) e).1

-- A place that was not ended is this far then; the calls stay.
other_step : (slot subslot : ℕ) (new old : Step) (plugs : PlugState) → step_at slot subslot plugs.places ≡ Some old
    → ((number : ℕ) → old ≡ Ended number → ⊥) → (has_told : Bool)
    → AreCalled plugs → AreCalled (record { places = stepped slot subslot new plugs.places; calls = plugs.calls; has_told = has_told })
other_step slot subslot new old plugs was unended has_told is =
    let none = stepped_called slot subslot new old plugs was unended is in
    record {
      alike = touched_alike (there slot subslot) new plugs.places plugs.places is.alike;
      standing = λ call e. beside_at (there slot subslot) new plugs.places call.slot call.subslot
          (none call.slot call.subslot call.number (is.standing call e)) ∙ is.standing call e;
      waiting = each_is (IsEndedFor plugs.places) (IsEndedFor (stepped slot subslot new plugs.places)) plugs.calls.waiting
          (λ call ended. beside_at (there slot subslot) new plugs.places call.slot call.subslot (none call.slot call.subslot call.number ended)
          ∙ ended) is.waiting;
      apart = is.apart;
    }

plugged_unended : (number : ℕ) → Plugged ≡ Ended number → ⊥
plugged_unended number e = absurd cc

told_unended : (told number : ℕ) → Told told ≡ Ended number → ⊥
told_unended told number e = absurd cc

pub told_called : (slot subslot number : ℕ) (is_last : Bool) (plugs : PlugState) → AreCalled plugs → AreCalled (told slot subslot number is_last plugs)
told_called slot subslot number is_last plugs is = by_told (is_last && is_plugged (place_at slot subslot plugs.places)) refl
  where
    by_told : (b : Bool) → (is_last && is_plugged (place_at slot subslot plugs.places)) ≡ b
        → AreCalled (record { places = if b then stepped slot subslot (Told number) plugs.places else plugs.places; calls = plugs.calls; has_told = true })
    by_told true e = other_step slot subslot (Told number) Plugged plugs (told_plugged slot subslot is_last plugs e) plugged_unended true is
    by_told false e = record { alike = is.alike; standing = is.standing; waiting = is.waiting; apart = is.apart }

-- The first place whose alarm had a number has that number.
pub first_is_told : (number : ℕ) (plugs : PlugState) (place : ExpectedPlace) → AreCalled plugs → first_told number plugs.places ≡ Some place
    → step_at place.slot place.subslot plugs.places ≡ Some (Told number)
first_is_told number plugs place is e =
    let found = found_so (λ (p : ExpectedPlace). is_told_with number p.step) (IsAlike plugs.places) plugs.places place is.alike e in
    found.0 ∙ ap (λ (s : Step). Some s) (by_step place.step found.1)
  where
    by_step : (s : Step) → is_told_with number s ≡ true → s ≡ Told number
    by_step (Told other) f = ap (λ (n : ℕ). Told n) (eqb-true other number f)
    by_step Plugged f = absurd (false≢true f)
    by_step Settled f = absurd (false≢true f)
    by_step Pulled f = absurd (false≢true f)
    by_step (Ended other) f = absurd (false≢true f)
    by_step Refused f = absurd (false≢true f)

pub covers_self : (slot subslot : ℕ) → covers (there slot subslot) slot subslot ≡ true
covers_self slot subslot = and_from (slot == slot) (subslot == subslot) (eq-eqb slot slot refl) (eq-eqb subslot subslot refl)

covers_flips : (slot subslot at below : ℕ) → covers (there slot subslot) at below ≡ false → covers (there at below) slot subslot ≡ false
covers_flips slot subslot at below e = by_cover (covers (there at below) slot subslot) refl
  where
    by_cover : (b : Bool) → covers (there at below) slot subslot ≡ b → b ≡ false
    by_cover false f = refl
    by_cover true f =
        let both = and_parts (at == slot) (below == subslot) f in
        absurd (false≢true
        (sym e ∙ and_from (slot == at) (subslot == below) (eq-eqb slot at (sym (eqb-true at slot both.0)))
        (eq-eqb subslot below (sym (eqb-true below subslot both.1)))))

pub ended_called : (number : ℕ) (is_ready : Bool) (plugs : PlugState) → AreCalled plugs → AreCalled (ended number is_ready plugs)
ended_called number is_ready plugs is = by_found (first_told number plugs.places) refl
  where
    by_found : (found : Option ExpectedPlace) → first_told number plugs.places ≡ found
        → AreCalled (unwrap_or (option_map (ended_at number is_ready plugs) found) plugs)
    by_found None e = is
    by_found (Some place) e =
        let was = first_is_told number plugs place is e in
        let more = other_step place.slot place.subslot (Ended number) (Told number) plugs was (told_unended number) plugs.has_told is in
        let none = stepped_called place.slot place.subslot (Ended number) (Told number) plugs was (told_unended number) is in
        record {
          alike = more.alike;
          standing = more.standing;
          waiting = each_more (IsEndedFor (stepped place.slot place.subslot (Ended number) plugs.places)) plugs.calls.waiting
              (record { slot = place.slot; subslot = place.subslot; number = number; is_ready = is_ready }) more.waiting
              (covered_at (there place.slot place.subslot) (Ended number) (Told number) plugs.places place.slot place.subslot
              (covers_self place.slot place.subslot) was);
          apart = λ call f. each_more (IsApart call) plugs.calls.waiting
              (record { slot = place.slot; subslot = place.subslot; number = number; is_ready = is_ready })
              (is.apart call f) (covers_flips place.slot place.subslot call.slot call.subslot (none call.slot call.subslot call.number (is.standing call f)));
        }

-- ---- the calls

readied_ended : (slot subslot : ℕ) (places : List ExpectedPlace) (call : WaitingCall) → IsEndedFor places call
    → IsEndedFor places (readied_call slot subslot call)
readied_ended slot subslot places call is = by_test (is_unready slot subslot call)
  where
    by_test : (b : Bool) → IsEndedFor places (cond b (record call { is_ready = true }) call)
    by_test true = is
    by_test false = is

readied_apart : (slot subslot : ℕ) (call : PlugCall) (other : WaitingCall) → IsApart call other → IsApart call (readied_call slot subslot other)
readied_apart slot subslot call other is = by_test (is_unready slot subslot other)
  where
    by_test : (b : Bool) → IsApart call (cond b (record other { is_ready = true }) other)
    by_test true = is
    by_test false = is

pub readied_called : (slot subslot : ℕ) (plugs : PlugState) → AreCalled plugs → AreCalled (readied slot subslot plugs)
readied_called slot subslot plugs is = record {
  alike = is.alike;
  standing = is.standing;
  waiting = each_mapped (IsEndedFor plugs.places) (IsEndedFor plugs.places) (readied_call slot subslot) plugs.calls.waiting
      (readied_ended slot subslot plugs.places) is.waiting;
  apart = λ call e. each_mapped (IsApart call) (IsApart call) (readied_call slot subslot) plugs.calls.waiting (readied_apart slot subslot call)
      (is.apart call e);
}

pub next_is_called : (plugs : PlugState) → AreCalled plugs → AreCalled (next_called plugs)
next_is_called plugs is = by_standing plugs.calls.standing refl
  where
    by_standing : (standing : Option PlugCall) → plugs.calls.standing ≡ standing
        → AreCalled (record { places = plugs.places; calls = unwrap_or (sent_beside plugs.calls standing) plugs.calls; has_told = plugs.has_told })
    by_standing (Some call) e = is
    by_standing None e = by_ready (first_ready plugs.calls.waiting) refl
      where
        by_ready : (ready : Option WaitingCall) → first_ready plugs.calls.waiting ≡ ready
            → AreCalled (record { places = plugs.places; calls = unwrap_or (option_map (sent_with plugs.calls) ready) plugs.calls; has_told = plugs.has_told })
        by_ready None f = is
        by_ready (Some one) f =
            let first = found_so (λ (call : WaitingCall). call.is_ready) (IsEndedFor plugs.places) plugs.calls.waiting one is.waiting f in
            record {
              alike = is.alike;
              standing = λ call g. subst (λ (c : PlugCall). step_at c.slot c.subslot plugs.places ≡ Some (Ended c.number)) (some_is _ call g) first.0;
              waiting = each_filtered (λ (call : WaitingCall). not (covers (there one.slot one.subslot) call.slot call.subslot)) (IsEndedFor plugs.places)
                  (IsEndedFor plugs.places)
                  plugs.calls.waiting (λ call g ended. ended) is.waiting;
              apart = λ call g. subst (λ (c : PlugCall). AllByRecursion (IsApart c) (kept_calls (there one.slot one.subslot) plugs.calls.waiting))
                  (some_is _ call g)
                  (each_filtered (λ (other : WaitingCall). not (covers (there one.slot one.subslot) other.slot other.subslot)) (IsEndedFor plugs.places)
                  (λ (other : WaitingCall). covers (there one.slot one.subslot) other.slot other.subslot ≡ false) plugs.calls.waiting
                  (λ other h ended. not_true (covers (there one.slot one.subslot) other.slot other.subslot) h) is.waiting);
            }

-- An answer releases or refuses the place of the active call, which has ended.
pub answered_called : (is_positive : Bool) (plugs : PlugState) → AreCalled plugs → AreCalled (answered is_positive plugs)
answered_called is_positive plugs is = by_standing plugs.calls.standing refl
  where
    by_standing : (standing : Option PlugCall) → plugs.calls.standing ≡ standing → AreCalled (answered_by is_positive plugs standing)
    by_standing None e = is
    by_standing (Some call) e = record {
      alike = touched_alike (there call.slot call.subslot) (if is_positive then Settled else Refused) plugs.places plugs.places is.alike;
      standing = λ other f. absurd (none_some other f);
      waiting = by_apart plugs.calls.waiting is.waiting (is.apart call e);
      apart = λ other f. absurd (none_some other f);
    }
      where
        none_some : (other : PlugCall) → ◌≡◌ {A = Option PlugCall} None (Some other) → ⊥
        none_some other f = absurd cc

        by_apart : (calls : List WaitingCall) → AllByRecursion (IsEndedFor plugs.places) calls → AllByRecursion (IsApart call) calls
            → AllByRecursion (IsEndedFor (stepped call.slot call.subslot (if is_positive then Settled else Refused) plugs.places)) calls
        by_apart [] ended apart = tt
        by_apart (other ∷ others) ended apart = (
          beside_at (there call.slot call.subslot) (if is_positive then Settled else Refused) plugs.places other.slot other.subslot apart.0
              ∙ ended.0,
          by_apart others ended.1 apart.1,
        )

pub counted_called : (plugs : PlugState) → AreCalled plugs → AreCalled (record plugs { calls = counted plugs.calls })
counted_called plugs is = by_standing plugs.calls.standing
  where
    by_standing : (standing : Option PlugCall) → AreCalled (record plugs { calls = counted_with plugs.calls standing })
    by_standing None = is
    by_standing (Some call) = record { alike = is.alike; standing = is.standing; waiting = is.waiting; apart = is.apart }
