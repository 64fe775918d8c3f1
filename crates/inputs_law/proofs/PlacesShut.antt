-- Which places of a relation differ and which are touched, after what happens to them.
use Rattle.std.proofs.Common.{◌≡◌, ◌==◌, ◌&&◌, ℕ, Bool, true, false, cond, List, [], ◌∷◌, map, Option, Some, None, refl, sym, ap, subst, ◌∙◌}
use Rattle.std.specs.Prelude.{not, option_map, unwrap_or, if◌then◌else◌}
use Rattle.std.specs.List.{AllByRecursion, find}
use Rattle.std.proofs.lemmas.Bool.{and_from, and_parts, eq-eqb, eqb-true}
use Rattle.wire.specs.blocks.modules.Lists.{Listed}
use Rattle.connect_blocks.specs.declared.module_diff.DiffModule.{DiffModule}
use Rattle.connect_blocks.specs.declared.module_diff.DiffSubmodule.{DiffSubmodule}
use Rattle.module_diff.specs.declared.changes.Affected.{Affected}
use Rattle.module_diff.specs.Changes.{covers}
use Rattle.diagnosis.specs.declared.alarms.alarms.SentAlarm.{SentAlarm}
use Rattle.diagnosis.specs.declared.module_change.ModuleChange.{ModuleChange}
use Rattle.diagnosis.specs.declared.queue.LowChange.{LowChange}
use Rattle.diagnosis.specs.declared.queue.LowChange.TheVariants as change
use Rattle.diagnosis.specs.declared.queue.QueuedAlarm.{QueuedAlarm}
use Rattle.diagnosis.specs.Queue.{is_plug, waits_for_plug}
use Rattle.expected_places.specs.declared.calls.PlugCall.{PlugCall}
use Rattle.expected_places.specs.declared.place.ExpectedPlace.{ExpectedPlace}
use Rattle.expected_places.specs.declared.place.Step.{Step}
use Rattle.expected_places.specs.declared.place.Step.TheVariants.{Settled, Pulled, Plugged, Told, Ended, Refused}
use Rattle.expected_places.specs.Machine.{PlugState, answered, answered_by, differs_at, ended, ended_at, is_differing, is_touched_at, restated, told, touched, touches}
use Rattle.expected_places.specs.Places.{first_told, is_for, is_plugged, is_plugged_step, is_told_with, is_touched, place_at, places_restated, restated_place, stepped, touched_place, touched_places}
use Rattle.relations.specs.Plugging.{plugs_after, plugs_told}

-- ---- lists

pub find_map : {X : Type 0} (p : X → Bool) (f : X → X) → ((x : X) → p (f x) ≡ p x) → (xs : List X) → find p (map f xs) ≡ option_map f (find p xs)
find_map p f same [] = refl
find_map {X} p f same (x ∷ xs) = ap (λ (b : Bool). cond b (Some (f x)) (find p (map f xs))) (same x) ∙ by_test (p x) (find_map p f same xs)
  where
    by_test : (b : Bool) → find p (map f xs) ≡ option_map f (find p xs)
        → cond b (Some (f x)) (find p (map f xs)) ≡ option_map f (cond b (Some x) (find p xs))
    by_test true rest = refl
    by_test false rest = rest

some_is : {X : Type 0} (x y : X) → Some x ≡ Some y → x ≡ y
some_is x y e = cc

none_some : {X : Type 0} (x : X) → None ≡ Some x → ⊥
none_some x e = cc

-- What is found passes the test, and what holds of each holds of it.
pub found_so : {X : Type 0} (P : X → Type 0) (p : X → Bool) (xs : List X) (x : X) → AllByRecursion P xs → find p xs ≡ Some x → P x × (p x ≡ true)
found_so P p [] x all e = absurd (none_some x e)
found_so {X} P p (y ∷ xs) x all e = by_test (p y) refl e (found_so P p xs x all.1)
  where
    by_test : (b : Bool) → p y ≡ b → cond b (Some y) (find p xs) ≡ Some x → (find p xs ≡ Some x → P x × (p x ≡ true)) → P x × (p x ≡ true)
    by_test true is f more = let same = some_is y x f in (subst P same all.0, ap p (sym same) ∙ is)
    by_test false is f more = more f

all_map : {X : Type 0} (P : X → Type 0) (f : X → X) (xs : List X) → AllByRecursion (λ (x : X). P (f x)) xs → AllByRecursion P (map f xs)
all_map P f [] all = tt
all_map P f (x ∷ xs) all = (all.0, all_map P f xs all.1)

each : {X : Type 0} (P Q : X → Type 0) → ((x : X) → P x → Q x) → (xs : List X) → AllByRecursion P xs → AllByRecursion Q xs
each P Q so [] all = tt
each P Q so (x ∷ xs) all = (so x all.0, each P Q so xs all.1)

-- ---- one place

pub key_of : (slot subslot : ℕ) (place : ExpectedPlace) → is_for slot subslot place ≡ true → (place.slot ≡ slot) × (place.subslot ≡ subslot)
key_of slot subslot place is =
    let both = and_parts (place.slot == slot) (place.subslot == subslot) is in
    (eqb-true place.slot slot both.0, eqb-true place.subslot subslot both.1)

own_for : (place : ExpectedPlace) → is_for place.slot place.subslot place ≡ true
own_for place = and_from (place.slot == place.slot) (place.subslot == place.subslot) (eq-eqb place.slot place.slot refl) (eq-eqb place.subslot place.subslot refl)

module _ (affected : Affected) (step : Step) where
  abbrev one : ExpectedPlace → ExpectedPlace
  one place = touched_place affected step place

  touched_for : (slot subslot : ℕ) (place : ExpectedPlace) → is_for slot subslot (one place) ≡ is_for slot subslot place
  touched_for slot subslot place = by_test (covers affected place.slot place.subslot)
    where
      by_test : (b : Bool) → is_for slot subslot (if b then record place { step = step } else place) ≡ is_for slot subslot place
      by_test true = refl
      by_test false = refl

  touched_slot : (place : ExpectedPlace) → ((one place).slot ≡ place.slot) × ((one place).subslot ≡ place.subslot)
  touched_slot place = by_test (covers affected place.slot place.subslot)
    where
      by_test : (b : Bool) → ((if b then record place { step = step } else place).slot ≡ place.slot) × ((if b then record place { step = step } else place).subslot ≡ place.subslot)
      by_test true = (refl, refl)
      by_test false = (refl, refl)

  touched_differs : (place : ExpectedPlace) → (one place).differs ≡ place.differs
  touched_differs place = by_test (covers affected place.slot place.subslot)
    where
      by_test : (b : Bool) → (if b then record place { step = step } else place).differs ≡ place.differs
      by_test true = refl
      by_test false = refl

  touched_step : (place : ExpectedPlace) → (one place).step ≡ cond (covers affected place.slot place.subslot) step place.step
  touched_step place = by_test (covers affected place.slot place.subslot)
    where
      by_test : (b : Bool) → (if b then record place { step = step } else place).step ≡ cond b step place.step
      by_test true = refl
      by_test false = refl

-- ---- all places of a submodule are alike touched

-- The first place of its submodule is touched if it is.
abbrev pub IsEven : List ExpectedPlace → ExpectedPlace → Type 0
IsEven places place = (first : ExpectedPlace) × (place_at place.slot place.subslot places ≡ Some first) × (is_touched first.step ≡ is_touched place.step)

abbrev pub AreEven : List ExpectedPlace → Type 0
AreEven places = AllByRecursion (IsEven places) places

even_step : (covered : Bool) (step one other : Step) → is_touched one ≡ is_touched other → is_touched (cond covered step one) ≡ is_touched (cond covered step other)
even_step true step one other same = refl
even_step false step one other same = same

pub even_touched : (affected : Affected) (step : Step) (places : List ExpectedPlace) → AreEven places → AreEven (touched_places affected step places)
even_touched affected step places even =
    all_map (IsEven (touched_places affected step places)) (touched_place affected step) places (each (IsEven places) _ even_one places even)
  where
    even_one : (place : ExpectedPlace) → IsEven places place → IsEven (touched_places affected step places) (touched_place affected step place)
    even_one place is =
        let key = touched_slot affected step place in
        let first_key = key_of place.slot place.subslot is.0
        (found_so (λ (p : ExpectedPlace). Unit {0}) (is_for place.slot place.subslot) places is.0 (all_unit places) is.1).1 in
        let covered = ap (λ (n : ℕ). covers affected n is.0.subslot) first_key.0 ∙ ap (λ (n : ℕ). covers affected place.slot n) first_key.1 in (
          touched_place affected step is.0,
          ap (λ (n : ℕ). place_at n (touched_place affected step place).subslot (touched_places affected step places)) key.0
              ∙ (ap (λ (n : ℕ). place_at place.slot n (touched_places affected step places)) key.1
              ∙ (find_map (is_for place.slot place.subslot) (touched_place affected step) (touched_for affected step place.slot place.subslot) places
              ∙ ap (λ (o : Option ExpectedPlace). option_map (touched_place affected step) o) is.1)),
          ap is_touched (touched_step affected step is.0)
              ∙ (ap (λ (b : Bool). is_touched (cond b step is.0.step)) covered
              ∙ (even_step (covers affected place.slot place.subslot) step is.0.step place.step is.2
              ∙ sym (ap is_touched (touched_step affected step place)))),
        )
      where
        all_unit : (xs : List ExpectedPlace) → AllByRecursion (λ (p : ExpectedPlace). Unit {0}) xs
        all_unit [] = tt
        all_unit (x ∷ xs) = (tt, all_unit xs)

pub even_restated : (rows : Listed DiffModule DiffSubmodule) (places : List ExpectedPlace) → AreEven places → AreEven (places_restated rows places)
even_restated rows places even = all_map (IsEven (places_restated rows places)) (restated_place rows) places (each (IsEven places) _ even_one places even)
  where
    even_one : (place : ExpectedPlace) → IsEven places place → IsEven (places_restated rows places) (restated_place rows place)
    even_one place is = (
      restated_place rows is.0,
      find_map (is_for place.slot place.subslot) (restated_place rows) (λ p. refl) places ∙ ap (λ (o : Option ExpectedPlace). option_map (restated_place rows) o) is.1,
      is.2,
    )

-- As a relation begins, each has its place, and none is touched.
find_there : (places : List ExpectedPlace) → AllByRecursion (λ (place : ExpectedPlace). (first : ExpectedPlace) × (place_at place.slot place.subslot places ≡ Some first)) places
find_there [] = tt
find_there (x ∷ xs) = (
  (x, ap (λ (b : Bool). cond b (Some x) (place_at x.slot x.subslot xs)) (own_for x)),
  each _ _ (λ place found. by_test place found (is_for place.slot place.subslot x)) xs (find_there xs),
)
  where
    by_test : (place : ExpectedPlace) → (first : ExpectedPlace) × (place_at place.slot place.subslot xs ≡ Some first) → (b : Bool)
        → (first : ExpectedPlace) × (cond b (Some x) (place_at place.slot place.subslot xs) ≡ Some first)
    by_test place found true = (x, refl)
    by_test place found false = found

both : {X : Type 0} (P Q : X → Type 0) (xs : List X) → AllByRecursion P xs → AllByRecursion Q xs → AllByRecursion (λ (x : X). P x × Q x) xs
both P Q [] all more = tt
both P Q (x ∷ xs) all more = ((all.0, more.0), both P Q xs all.1 more.1)

pub even_settled : (places : List ExpectedPlace) → AllByRecursion (λ (place : ExpectedPlace). place.step ≡ Settled) places → AreEven places
even_settled places settled =
    each _ (IsEven places) (λ place is. (
      is.0.0,
      is.0.1,
      ap is_touched ((found_so (λ (p : ExpectedPlace). p.step ≡ Settled) (is_for place.slot place.subslot) places is.0.0 settled is.0.1).0 ∙ sym is.1),
    )) places (both _ _ places (find_there places) settled)

-- ---- what differs and what is touched stays the same

pub record IsShutAs (plugs next : PlugState) : Type 0 where
  pub differs : (slot subslot : ℕ) → differs_at slot subslot next ≡ differs_at slot subslot plugs
  pub touched : (slot subslot : ℕ) → is_touched_at slot subslot next ≡ is_touched_at slot subslot plugs

pub shut_places : (plugs next : PlugState) → next.places ≡ plugs.places → IsShutAs plugs next
shut_places plugs next same = record {
  differs = λ slot subslot. ap (λ (places : List ExpectedPlace). is_differing (place_at slot subslot places)) same;
  touched = λ slot subslot. ap (λ (places : List ExpectedPlace). touches (place_at slot subslot places)) same;
}

pub shut_both : (one two three : PlugState) → IsShutAs one two → IsShutAs two three → IsShutAs one three
shut_both one two three first second = record {
  differs = λ slot subslot. second.differs slot subslot ∙ first.differs slot subslot;
  touched = λ slot subslot. second.touched slot subslot ∙ first.touched slot subslot;
}

-- A place that is touched goes on to another step at which it is.
module _ (at_slot at_subslot : ℕ) (step : Step) (places : List ExpectedPlace) (is : is_touched step ≡ true) (there : touches (place_at at_slot at_subslot places) ≡ true) where
  abbrev here : Affected
  here = record { slot = at_slot; subslot = Some at_subslot }

  stepped_at : (slot subslot : ℕ) → place_at slot subslot (stepped at_slot at_subslot step places) ≡ option_map (touched_place here step) (place_at slot subslot places)
  stepped_at slot subslot = find_map (is_for slot subslot) (touched_place here step) (touched_for here step slot subslot) places

  stepped_differs : (slot subslot : ℕ) → is_differing (place_at slot subslot (stepped at_slot at_subslot step places)) ≡ is_differing (place_at slot subslot places)
  stepped_differs slot subslot = ap is_differing (stepped_at slot subslot) ∙ by_found (place_at slot subslot places)
    where
      by_found : (found : Option ExpectedPlace) → is_differing (option_map (touched_place here step) found) ≡ is_differing found
      by_found None = refl
      by_found (Some place) = touched_differs here step place

  stepped_touched : (slot subslot : ℕ) → touches (place_at slot subslot (stepped at_slot at_subslot step places)) ≡ touches (place_at slot subslot places)
  stepped_touched slot subslot = ap touches (stepped_at slot subslot) ∙ by_found (place_at slot subslot places) refl
    where
      by_covered : (place : ExpectedPlace) → place_at slot subslot places ≡ Some place → (covered : Bool) → covers here place.slot place.subslot ≡ covered
          → is_touched (cond covered step place.step) ≡ is_touched place.step
      by_covered place found false e = refl
      by_covered place found true e =
          let key = key_of slot subslot place (found_so (λ (p : ExpectedPlace). Unit {0}) (is_for slot subslot) places place (all_unit places) found).1 in
          let at = and_parts (at_slot == place.slot) (at_subslot == place.subslot) e in
          let same_slot : at_slot ≡ slot = eqb-true at_slot place.slot at.0 ∙ key.0 in
          let same_subslot : at_subslot ≡ subslot = eqb-true at_subslot place.subslot at.1 ∙ key.1 in
          is ∙ (sym there ∙ (ap (λ (n : ℕ). touches (place_at n at_subslot places)) same_slot
          ∙ (ap (λ (n : ℕ). touches (place_at slot n places)) same_subslot ∙ ap touches found)))
        where
          all_unit : (xs : List ExpectedPlace) → AllByRecursion (λ (p : ExpectedPlace). Unit {0}) xs
          all_unit [] = tt
          all_unit (x ∷ xs) = (tt, all_unit xs)

      by_found : (found : Option ExpectedPlace) → place_at slot subslot places ≡ found → touches (option_map (touched_place here step) found) ≡ touches found
      by_found None e = refl
      by_found (Some place) e = ap is_touched (touched_step here step place) ∙ by_covered place e (covers here place.slot place.subslot) refl

-- ---- the events

plugged_touched : (found : Option ExpectedPlace) → is_plugged found ≡ true → touches found ≡ true
plugged_touched None is = absurd cc
plugged_touched (Some place) is = by_step place.step is
  where
    by_step : (step : Step) → is_plugged_step step ≡ true → is_touched step ≡ true
    by_step Settled e = absurd cc
    by_step Pulled e = absurd cc
    by_step Plugged e = refl
    by_step (Told number) e = absurd cc
    by_step (Ended number) e = absurd cc
    by_step Refused e = absurd cc

-- what becomes of places: what differs and is touched is the same, and they are alike
pub record GoesOn (plugs next : PlugState) : Type 0 where
  pub shut : IsShutAs plugs next
  pub even : AreEven next.places

pub goes_places : (plugs next : PlugState) → next.places ≡ plugs.places → AreEven plugs.places → GoesOn plugs next
goes_places plugs next same even = record { shut = shut_places plugs next same; even = subst AreEven (sym same) even }

pub goes_both : (one two three : PlugState) → GoesOn one two → (AreEven two.places → GoesOn two three) → GoesOn one three
goes_both one two three first second =
    let more = second first.even in record { shut = shut_both one two three first.shut more.shut; even = more.even }

pub goes_told : (slot subslot number : ℕ) (is_last : Bool) (plugs : PlugState) → AreEven plugs.places → GoesOn plugs (told slot subslot number is_last plugs)
goes_told slot subslot number is_last plugs even = by_test (is_last && is_plugged (place_at slot subslot plugs.places)) refl
  where
    by_test : (b : Bool) → (is_last && is_plugged (place_at slot subslot plugs.places)) ≡ b
        → GoesOn plugs (record plugs { places = if b then stepped slot subslot (Told number) plugs.places else plugs.places; has_told = true })
    by_test true e =
        let there = plugged_touched (place_at slot subslot plugs.places) (and_parts is_last (is_plugged (place_at slot subslot plugs.places)) e).1 in
        record {
          shut = record {
            differs = stepped_differs slot subslot (Told number) plugs.places refl there;
            touched = stepped_touched slot subslot (Told number) plugs.places refl there;
          };
          even = even_touched (record { slot = slot; subslot = Some subslot }) (Told number) plugs.places even;
        }
    by_test false e = record { shut = shut_places plugs _ refl; even = even }

told_touched : (number : ℕ) (step : Step) → is_told_with number step ≡ true → is_touched step ≡ true
told_touched number Settled e = absurd cc
told_touched number Pulled e = absurd cc
told_touched number Plugged e = absurd cc
told_touched number (Told other) e = refl
told_touched number (Ended other) e = absurd cc
told_touched number Refused e = absurd cc

pub goes_ended : (number : ℕ) (is_ready : Bool) (plugs : PlugState) → AreEven plugs.places → GoesOn plugs (ended number is_ready plugs)
goes_ended number is_ready plugs even = by_found (first_told number plugs.places) refl
  where
    by_found : (found : Option ExpectedPlace) → first_told number plugs.places ≡ found → GoesOn plugs (unwrap_or (option_map (ended_at number is_ready plugs) found) plugs)
    by_found None e = record { shut = shut_places plugs plugs refl; even = even }
    by_found (Some place) e =
        let found = found_so (IsEven plugs.places) (λ (p : ExpectedPlace). is_told_with number p.step) plugs.places place even e in
        let there : touches (place_at place.slot place.subslot plugs.places) ≡ true =
        ap touches found.0.1 ∙ (found.0.2 ∙ told_touched number place.step found.1) in
        record {
          shut = record {
            differs = stepped_differs place.slot place.subslot (Ended number) plugs.places refl there;
            touched = stepped_touched place.slot place.subslot (Ended number) plugs.places refl there;
          };
          even = even_touched (record { slot = place.slot; subslot = Some place.subslot }) (Ended number) plugs.places even;
        }

-- the alarm of a plug is first sent
pub goes_after : (sent : Option SentAlarm) (waiting : List QueuedAlarm) (plugs : PlugState) → AreEven plugs.places → GoesOn plugs (plugs_after sent waiting plugs)
goes_after None waiting plugs even = goes_places plugs plugs refl even
goes_after (Some sent) waiting plugs even = by_change sent.change
  where
    by_plug : (made : ModuleChange) (is : Bool)
        → GoesOn plugs (if is then told made.slot made.subslot sent.number (not (waits_for_plug made.slot made.subslot waiting)) plugs else plugs)
    by_plug made true = goes_told made.slot made.subslot sent.number (not (waits_for_plug made.slot made.subslot waiting)) plugs even
    by_plug made false = goes_places plugs plugs refl even

    by_change : (what : LowChange) → GoesOn plugs (plugs_told what sent.number waiting plugs)
    by_change (change.Diagnosis made) = goes_places plugs plugs refl even
    by_change (change.Module made) = by_plug made (is_plug made.kind)

-- the controller answers the call of a plug
pub even_answered : (is_positive : Bool) (plugs : PlugState) → AreEven plugs.places → AreEven (answered is_positive plugs).places
even_answered is_positive plugs even = by_call plugs.calls.standing
  where
    by_call : (call : Option PlugCall) → AreEven (answered_by is_positive plugs call).places
    by_call None = even
    by_call (Some call) =
        even_touched (record { slot = call.slot; subslot = Some call.subslot }) (if is_positive then Settled else Refused) plugs.places even

-- modules change
pub even_changed : (affected : Affected) (step : Step) (rows : Listed DiffModule DiffSubmodule) (plugs : PlugState) → AreEven plugs.places
    → AreEven (touched affected step (restated rows plugs)).places
even_changed affected step rows plugs even = even_touched affected step (places_restated rows plugs.places) (even_restated rows plugs.places even)
