-- The places of a controller as one state for each slot and subslot, and what changes them.
use Rattle.std.proofs.Common.{◌≡◌, ◌==◌, ◌&&◌, ◌||◌, ◌++◌, ℕ, Bool, true, false, not, cond, List, [], ◌∷◌, map, Option, Some, None, option_map, refl, sym, ap, subst}
use Rattle.std.proofs.Common.{◌∙◌}
use Rattle.std.specs.Prelude.{if◌then◌else◌}
use Rattle.std.specs.List.{AllByRecursion, filter, find, list_any}
use Rattle.std.proofs.lemmas.Bool.{and_from, and_parts, eq-eqb, eqb-true}
use Rattle.std.proofs.lemmas.List.Folds.{list_any-append}
use Rattle.pn_values.specs.declared.real.RealModule.{RealModule}
use Rattle.pn_values.specs.declared.real.RealSubmodule.{RealSubmodule}
use Rattle.plan_places.specs.declared.place.Place.{Place}
use Rattle.plan_places.specs.declared.place.PlaceState.{PlaceState}
use Rattle.plan_places.specs.declared.place.PlaceState.TheVariants.{There, Differs, Gone, Wrong, Plugged, Writing, Ending, Ready, Refused}
use Rattle.plan_places.specs.declared.report.PlaceReport.{PlaceReport}
use Rattle.plan_places.specs.declared.report.PlaceReport.TheVariants as reports
use Rattle.plan_places.specs.declared.report.Plug.{Plug}
use Rattle.plan_places.specs.Places.{Told, after_report, first_place, first_state, first_waiting, has_turn, has_turn_at, in_state, is_about, is_at}
use Rattle.plan_places.specs.Places.{is_moved, is_plugged_by, is_told, is_turn, made_ready, moved, next_waiting, or_next, places_of, plug_at}
use Rattle.plan_places.specs.Places.{plugged_number, readied, reported_state, set_at, state_at, told_after, told_by, with_state}

-- ---- one state for each

abbrev pub States : Type 0
States = ℕ → ℕ → PlaceState

abbrev pub IsBy : States → Place → Type 0
IsBy states place = place.state ≡ states place.slot place.subslot

abbrev pub AreBy : States → List Place → Type 0
AreBy states places = AllByRecursion (IsBy states) places

-- one of them in another state
abbrev pub states_with : ℕ → ℕ → PlaceState → States → States
states_with slot subslot state states = λ at below. if at == slot && below == subslot then state else states at below

-- after what an alarm reports
abbrev pub states_after : Option PlaceReport → States → States
states_after None states = states
states_after (Some report) states =
    λ at below. if is_about report (record { slot = at; subslot = below; state = There }) then reported_state report else states at below

-- after an ApplicationReady
abbrev pub states_ready : ℕ → States → States
states_ready number states = λ at below. if is_told number (states at below) then Ready number else states at below

-- as the relation begins
abbrev pub states_first : ℕ → List ℕ → States
states_first most blocks = λ at below. first_state most blocks at below

-- ---- lists

each_append : (P : Place → Type 0) (some more : List Place) → AllByRecursion P some → AllByRecursion P more → AllByRecursion P (some ++ more)
each_append P [] more one other = other
each_append P (place ∷ some) more one other = (one.0, each_append P some more one.1 other)

each_map : (P Q : Place → Type 0) (f : Place → Place) → ((place : Place) → P place → Q (f place)) → (places : List Place) → AllByRecursion P places
    → AllByRecursion Q (map f places)
each_map P Q f so [] all = tt
each_map P Q f so (place ∷ places) all = (so place all.0, each_map P Q f so places all.1)

each_filter : (P : Place → Type 0) (test : Place → Bool) (places : List Place) → AllByRecursion P places → AllByRecursion P (filter test places)
each_filter P test [] all = tt
each_filter P test (place ∷ places) all = by_test (test place) (each_filter P test places all.1)
  where
    by_test : (b : Bool) → AllByRecursion P (filter test places) → AllByRecursion P (cond b (place ∷ filter test places) (filter test places))
    by_test true more = (all.0, more)
    by_test false more = more

some_is : {A : Type 0} (x y : A) → Some x ≡ Some y → x ≡ y
some_is x y e = cc

-- ---- the states after each change

pub set_by : (states : States) (slot subslot : ℕ) (state : PlaceState) (told : Told) → AreBy states told.places
    → AreBy (states_with slot subslot state states) (with_state slot subslot state told).places
set_by states slot subslot state told all =
    each_map (IsBy states) (IsBy (states_with slot subslot state states)) (set_at slot subslot state) one told.places all
  where
    one : (place : Place) → IsBy states place → IsBy (states_with slot subslot state states) (set_at slot subslot state place)
    one place is = by_test (is_at slot subslot place) refl
      where
        by_test : (b : Bool) → is_at slot subslot place ≡ b → IsBy (states_with slot subslot state states) (cond b (in_state state place) place)
        by_test true e = sym (ap (λ (c : Bool). cond c state (states place.slot place.subslot)) e)
        by_test false e = is ∙ sym (ap (λ (c : Bool). cond c state (states place.slot place.subslot)) e)

about_same : (report : PlaceReport) (place : Place)
    → is_about report place ≡ is_about report (record { slot = place.slot; subslot = place.subslot; state = There })
about_same (reports.Pulled affected) place = refl
about_same (reports.PluggedWrong plug) place = refl
about_same (reports.Plugged plug) place = refl

after_by : (states : States) (report : PlaceReport) (told : Told) → AreBy states told.places
    → AreBy (states_after (Some report) states) (told_after report told).places
after_by states report told all =
    each_append (IsBy (states_after (Some report) states)) (moved false report told.places) (moved true report told.places)
    (some_moved (is_moved false report)) (some_moved (is_moved true report))
  where
    one : (place : Place) → IsBy states place → IsBy (states_after (Some report) states) (after_report report place)
    one place is = by_test (is_about report place) refl
      where
        by_test : (b : Bool) → is_about report place ≡ b
            → IsBy (states_after (Some report) states) (cond b (in_state (reported_state report) place) place)
        by_test true e =
            sym (ap (λ (c : Bool). cond c (reported_state report) (states place.slot place.subslot)) (sym (about_same report place) ∙ e))
        by_test false e =
            is ∙ sym (ap (λ (c : Bool). cond c (reported_state report) (states place.slot place.subslot)) (sym (about_same report place) ∙ e))

    some_moved : (test : Place → Bool) → AreBy (states_after (Some report) states) (map (after_report report) (filter test told.places))
    some_moved test =
        each_map (IsBy states) (IsBy (states_after (Some report) states)) (after_report report) one (filter test told.places)
        (each_filter (IsBy states) test told.places all)

pub told_as : (states : States) (report : Option PlaceReport) (told : Told) → AreBy states told.places
    → AreBy (states_after report states) (told_by report told).places
told_as states None told all = all
told_as states (Some report) told all = after_by states report told all

pub ready_by : (states : States) (number : ℕ) (told : Told) → AreBy states told.places → AreBy (states_ready number states) (readied number told).places
ready_by states number told all = each_map (IsBy states) (IsBy (states_ready number states)) (made_ready number) one told.places all
  where
    one : (place : Place) → IsBy states place → IsBy (states_ready number states) (made_ready number place)
    one place is = by_test (is_told number place.state) refl
      where
        now : (b : Bool) → is_told number place.state ≡ b → is_told number (states place.slot place.subslot) ≡ b
        now b e = sym (ap (λ (state : PlaceState). is_told number state) is) ∙ e

        by_test : (b : Bool) → is_told number place.state ≡ b → IsBy (states_ready number states) (cond b (in_state (Ready number) place) place)
        by_test true e = sym (ap (λ (c : Bool). cond c (Ready number) (states place.slot place.subslot)) (now true e))
        by_test false e = is ∙ sym (ap (λ (c : Bool). cond c (Ready number) (states place.slot place.subslot)) (now false e))

pub first_by : (most : ℕ) (blocks : List ℕ) (modules : List RealModule) → AreBy (states_first most blocks) (places_of most blocks modules)
first_by most blocks [] = tt
first_by most blocks (entry ∷ modules) =
    each_append (IsBy (states_first most blocks)) (map (first_place most blocks entry.slot) entry.submodules.items) (places_of most blocks modules)
    (parts_by entry.submodules.items) (first_by most blocks modules)
  where
    parts_by : (parts : List RealSubmodule) → AreBy (states_first most blocks) (map (first_place most blocks entry.slot) parts)
    parts_by [] = tt
    parts_by (part ∷ parts) = (refl, parts_by parts)

-- ---- what is seen of a place

at_key : (states : States) (slot subslot : ℕ) (place : Place) → is_at slot subslot place ≡ true → states place.slot place.subslot ≡ states slot subslot
at_key states slot subslot place at =
    let both = and_parts (place.slot == slot) (place.subslot == subslot) at in
    ap (λ (n : ℕ). states n place.subslot) (eqb-true place.slot slot both.0) ∙ ap (λ (n : ℕ). states slot n) (eqb-true place.subslot subslot both.1)

found_by : (states : States) (slot subslot : ℕ) (places : List Place) (state : PlaceState) → AreBy states places
    → option_map (λ (p : Place). p.state) (find (is_at slot subslot) places) ≡ Some state → state ≡ states slot subslot
found_by states slot subslot [] state all e = absurd cc
found_by states slot subslot (place ∷ places) state all e =
    by_test (is_at slot subslot place) refl (λ found. found_by states slot subslot places state all.1 found) e
  where
    by_test : (b : Bool) → is_at slot subslot place ≡ b
        → (option_map (λ (p : Place). p.state) (find (is_at slot subslot) places) ≡ Some state → state ≡ states slot subslot)
        → option_map (λ (p : Place). p.state) (cond b (Some place) (find (is_at slot subslot) places)) ≡ Some state → state ≡ states slot subslot
    by_test true at more found = sym (some_is place.state state found) ∙ (all.0 ∙ at_key states slot subslot place at)
    by_test false at more found = more found

pub state_by : (states : States) (told : Told) (slot subslot : ℕ) (state : PlaceState) → AreBy states told.places
    → state_at slot subslot told ≡ Some state → state ≡ states slot subslot
state_by states told slot subslot state all e = found_by states slot subslot told.places state all e

any_by : (states : States) (slot subslot : ℕ) (places : List Place) → AreBy states places → list_any (is_at slot subslot) places ≡ true
    → option_map (λ (p : Place). p.state) (find (is_at slot subslot) places) ≡ Some (states slot subslot)
any_by states slot subslot [] all e = absurd cc
any_by states slot subslot (place ∷ places) all e =
    by_test (is_at slot subslot place) refl (λ more. any_by states slot subslot places all.1 more) e
  where
    by_test : (b : Bool) → is_at slot subslot place ≡ b
        → (list_any (is_at slot subslot) places ≡ true → option_map (λ (p : Place). p.state) (find (is_at slot subslot) places) ≡ Some (states slot subslot))
        → (b || list_any (is_at slot subslot) places) ≡ true
        → option_map (λ (p : Place). p.state) (cond b (Some place) (find (is_at slot subslot) places)) ≡ Some (states slot subslot)
    by_test true at more any = ap (λ (s : PlaceState). Some s) (all.0 ∙ at_key states slot subslot place at)
    by_test false at more any = more any

pub there_by : (states : States) (told : Told) (slot subslot : ℕ) → AreBy states told.places → list_any (is_at slot subslot) told.places ≡ true
    → state_at slot subslot told ≡ Some (states slot subslot)
there_by states told slot subslot all e = any_by states slot subslot told.places all e

pub turn_by : (states : States) (told : Told) (slot subslot : ℕ) → AreBy states told.places → has_turn_at slot subslot told ≡ true
    → has_turn (states slot subslot) ≡ true
turn_by states told slot subslot all e = by_state (state_at slot subslot told) refl e
  where
    by_state : (o : Option PlaceState) → state_at slot subslot told ≡ o → is_turn o ≡ true → has_turn (states slot subslot) ≡ true
    by_state None f g = absurd cc
    by_state (Some state) f g = subst (λ (s : PlaceState). has_turn s ≡ true) (state_by states told slot subslot state all f) g

plugged_is : (state : PlaceState) (number : ℕ) → plugged_number state ≡ Some number → state ≡ Plugged number
plugged_is There number e = absurd cc
plugged_is Differs number e = absurd cc
plugged_is Gone number e = absurd cc
plugged_is Wrong number e = absurd cc
plugged_is (Plugged of) number e = ap (λ (n : ℕ). Plugged n) (some_is of number e)
plugged_is (Writing of) number e = absurd cc
plugged_is (Ending of) number e = absurd cc
plugged_is (Ready of) number e = absurd cc
plugged_is Refused number e = absurd cc

first_waits : (states : States) (places : List Place) (plug : Plug) → AreBy states places → first_waiting places ≡ Some plug
    → states plug.slot plug.subslot ≡ Plugged plug.number
first_waits states [] plug all e = absurd cc
first_waits states (place ∷ places) plug all e = by_number (plugged_number place.state) refl (λ found. first_waits states places plug all.1 found) e
  where
    by_number : (o : Option ℕ) → plugged_number place.state ≡ o
        → (first_waiting places ≡ Some plug → states plug.slot plug.subslot ≡ Plugged plug.number)
        → or_next (option_map (plug_at place) o) (first_waiting places) ≡ Some plug → states plug.slot plug.subslot ≡ Plugged plug.number
    by_number None f more found = more found
    by_number (Some number) f more found =
        subst (λ (p : Plug). states p.slot p.subslot ≡ Plugged p.number) (some_is (plug_at place number) plug found)
        (sym all.0 ∙ plugged_is place.state number f)

pub waits_by : (states : States) (told : Told) (plug : Plug) → AreBy states told.places → next_waiting told ≡ Some plug
    → states plug.slot plug.subslot ≡ Plugged plug.number
waits_by states told plug all e = by_turns told.has_turns e
  where
    by_turns : (b : Bool) → cond b (first_waiting told.places) None ≡ Some plug → states plug.slot plug.subslot ≡ Plugged plug.number
    by_turns true f = first_waits states told.places plug all f
    by_turns false f = absurd cc

-- a place whose ApplicationReady may have this number
pub record IsAwaitedAt (states : States) (places : List Place) (number : ℕ) : Type 0 where
  pub slot : ℕ
  pub subslot : ℕ
  pub told : is_told number (states slot subslot) ≡ true
  pub there : list_any (is_at slot subslot) places ≡ true

or_true : (b : Bool) → (b || true) ≡ true
or_true true = refl
or_true false = refl

pub awaited_by : (states : States) (number : ℕ) (places : List Place) → AreBy states places → list_any (λ place. is_told number place.state) places ≡ true
    → IsAwaitedAt states places number
awaited_by states number [] all e = absurd cc
awaited_by states number (place ∷ places) all e = by_test (is_told number place.state) refl (λ more. awaited_by states number places all.1 more) e
  where
    by_test : (b : Bool) → is_told number place.state ≡ b
        → (list_any (λ p. is_told number p.state) places ≡ true → IsAwaitedAt states places number)
        → (b || list_any (λ p. is_told number p.state) places) ≡ true → IsAwaitedAt states (place ∷ places) number
    by_test true f more any = record {
      slot = place.slot;
      subslot = place.subslot;
      told = sym (ap (λ (s : PlaceState). is_told number s) all.0) ∙ f;
      there = ap (λ (b : Bool). b || list_any (is_at place.slot place.subslot) places)
          (and_from (place.slot == place.slot) (place.subslot == place.subslot) (eq-eqb place.slot place.slot refl) (eq-eqb place.subslot place.subslot refl));
    }
    by_test false f more any =
        let found = more any in
        record {
          slot = found.slot;
          subslot = found.subslot;
          told = found.told;
          there = ap (λ (b : Bool). is_at found.slot found.subslot place || b) found.there ∙ or_true (is_at found.slot found.subslot place);
        }

-- ---- a place stays one

any_kept : (test : Place → Bool) (change : Place → Place) → ((place : Place) → test (change place) ≡ test place) → (places : List Place)
    → list_any test (map change places) ≡ list_any test places
any_kept test change same [] = refl
any_kept test change same (place ∷ places) =
    ap (λ (b : Bool). b || list_any test (map change places)) (same place) ∙ ap (λ (b : Bool). test place || b) (any_kept test change same places)

pub set_there : (at below slot subslot : ℕ) (state : PlaceState) (told : Told) → list_any (is_at at below) told.places ≡ true
    → list_any (is_at at below) (with_state slot subslot state told).places ≡ true
set_there at below slot subslot state told there = any_kept (is_at at below) (set_at slot subslot state) kept told.places ∙ there
  where
    kept : (place : Place) → is_at at below (set_at slot subslot state place) ≡ is_at at below place
    kept place = by_test (is_at slot subslot place)
      where
        by_test : (b : Bool) → is_at at below (cond b (in_state state place) place) ≡ is_at at below place
        by_test true = refl
        by_test false = refl

pub ready_there : (at below number : ℕ) (told : Told) → list_any (is_at at below) told.places ≡ true
    → list_any (is_at at below) (readied number told).places ≡ true
ready_there at below number told there = any_kept (is_at at below) (made_ready number) kept told.places ∙ there
  where
    kept : (place : Place) → is_at at below (made_ready number place) ≡ is_at at below place
    kept place = by_test (is_told number place.state)
      where
        by_test : (b : Bool) → is_at at below (cond b (in_state (Ready number) place) place) ≡ is_at at below place
        by_test true = refl
        by_test false = refl

or_turned : (a t b : Bool) → (a || (t || b)) ≡ (t || (a || b))
or_turned true true b = refl
or_turned true false b = refl
or_turned false t b = refl

or_grouped : (t a b : Bool) → ((t || a) || b) ≡ (t || (a || b))
or_grouped true a b = refl
or_grouped false a b = refl

-- those that are moved, and the others, are all
parted : (test : Place → Bool) (report : PlaceReport) (places : List Place)
    → (list_any test (filter (is_moved false report) places) || list_any test (filter (is_moved true report) places)) ≡ list_any test places
parted test report [] = refl
parted test report (place ∷ places) = by_test (is_plugged_by report place) (parted test report places)
  where
    by_test : (b : Bool)
        → (list_any test (filter (is_moved false report) places) || list_any test (filter (is_moved true report) places)) ≡ list_any test places
        → (list_any test (cond (not b) (place ∷ filter (is_moved false report) places) (filter (is_moved false report) places))
        || list_any test (cond b (place ∷ filter (is_moved true report) places) (filter (is_moved true report) places)))
        ≡ (test place || list_any test places)
    by_test true e =
        or_turned (list_any test (filter (is_moved false report) places)) (test place) (list_any test (filter (is_moved true report) places))
        ∙ ap (λ (b : Bool). test place || b) e
    by_test false e =
        or_grouped (test place) (list_any test (filter (is_moved false report) places)) (list_any test (filter (is_moved true report) places))
        ∙ ap (λ (b : Bool). test place || b) e

after_there : (at below : ℕ) (report : PlaceReport) (told : Told) → list_any (is_at at below) told.places ≡ true
    → list_any (is_at at below) (told_after report told).places ≡ true
after_there at below report told there =
    list_any-append (is_at at below) (moved false report told.places) (moved true report told.places)
    ∙ (ap (λ (b : Bool). b || list_any (is_at at below) (moved true report told.places))
    (any_kept (is_at at below) (after_report report) kept (filter (is_moved false report) told.places))
    ∙ (ap (λ (b : Bool). list_any (is_at at below) (filter (is_moved false report) told.places) || b)
    (any_kept (is_at at below) (after_report report) kept (filter (is_moved true report) told.places))
    ∙ (parted (is_at at below) report told.places ∙ there)))
  where
    kept : (place : Place) → is_at at below (after_report report place) ≡ is_at at below place
    kept place = by_test (is_about report place)
      where
        by_test : (b : Bool) → is_at at below (cond b (in_state (reported_state report) place) place) ≡ is_at at below place
        by_test true = refl
        by_test false = refl

pub told_there : (at below : ℕ) (report : Option PlaceReport) (told : Told) → list_any (is_at at below) told.places ≡ true
    → list_any (is_at at below) (told_by report told).places ≡ true
told_there at below None told there = there
told_there at below (Some report) told there = after_there at below report told there
