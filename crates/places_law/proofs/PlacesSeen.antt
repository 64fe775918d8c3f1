-- What alarms make of the places of a controller: which of them are not as the plan expects.
use Rattle.std.proofs.Common.{◌≡◌, ◌==◌, ◌&&◌, ◌||◌, ◌++◌, ℕ, Bool, true, false, cond, not, List, [], ◌∷◌, map, Option, Some, None, option_map, refl, sym, ap, subst, ◌∙◌}
use Rattle.std.specs.Prelude.{is_some}
use Rattle.std.specs.List.{AllByRecursion, filter, find, list_any}
use Rattle.std.proofs.lemmas.Bool.{and_parts, eqb-true, or_parts}
use Rattle.pn_values.specs.declared.real.RealModule.{RealModule}
use Rattle.pn_values.specs.declared.real.RealSubmodule.{RealSubmodule}
use Rattle.module_diff.specs.Diff.{Wanted}
use Rattle.plans.specs.Parts.{submodule_of}
use Rattle.record_blocks.specs.declared.alarm_notification.AlarmNotification.{AlarmNotification}
use Rattle.diagnosis.specs.declared.reports.priority.Priority.TheVariants.{Low}
use Rattle.plan_places.specs.declared.place.Place.{Place}
use Rattle.plan_places.specs.declared.place.PlaceState.{PlaceState}
use Rattle.plan_places.specs.declared.place.PlaceState.TheVariants.{There, Differs, Gone, Wrong, Plugged, Writing, Ending, Ready, Refused}
use Rattle.plan_places.specs.declared.report.PlaceReport.{PlaceReport}
use Rattle.plan_places.specs.declared.report.PlaceReport.TheVariants as reports
use Rattle.plan_places.specs.declared.report.Plug.{Plug}
use Rattle.plan_places.specs.Places.{Told, after_report, first_place, first_waiting, has_turn, has_turn_at, in_state, is_about, is_at, is_moved, is_plugged_by, is_told, is_turn, made_ready, moved, next_waiting, or_next, place_at, places_of, plug_at, plugged_number, readied, reported_state, set_at, state_at, told_after, told_by, with_state}
use Rattle.plan_places.specs.Reports.{place_report}
use Rattle.end_laws.specs.turns.Alarms.{report_as}
use Rattle.both_ends.proofs.ExchangeLists.{each_behind, some_is}
use Rattle.both_ends.specs.startup.request.Request.{expected_of}
use Rattle.both_ends.proofs.ExchangeOwn.{any_append, has_part, is_expected}
use Rattle.both_ends.proofs.ExchangeSmall.{found_is}
use Rattle.places_law.specs.Agreed.{concerns, concerns_any, has_submodule, is_amiss, is_in_plan, is_reported, reports_at}
use Rattle.places_law.proofs.PlacesRows.{planned_wanted, wanted_for}

-- ---- a place

-- What is known of a submodule: nothing since the relation was made, or whether it is not as the plan expects.
abbrev pub known_of : PlaceState → Option Bool
known_of There = None
known_of Differs = Some true
known_of Gone = Some true
known_of Wrong = Some true
known_of (Plugged number) = Some false
known_of (Writing number) = Some false
known_of (Ending number) = Some false
known_of (Ready number) = Some false
known_of Refused = Some false

abbrev pub amiss_in : Option Bool → Bool
amiss_in None = false
amiss_in (Some amiss) = amiss

pub amiss_is : (state : PlaceState) → is_amiss state ≡ amiss_in (known_of state)
amiss_is There = refl
amiss_is Differs = refl
amiss_is Gone = refl
amiss_is Wrong = refl
amiss_is (Plugged number) = refl
amiss_is (Writing number) = refl
amiss_is (Ending number) = refl
amiss_is (Ready number) = refl
amiss_is Refused = refl

pub there_is : (state : PlaceState) → known_of state ≡ None → state ≡ There
there_is There e = refl
there_is Differs e = absurd cc
there_is Gone e = absurd cc
there_is Wrong e = absurd cc
there_is (Plugged number) e = absurd cc
there_is (Writing number) e = absurd cc
there_is (Ending number) e = absurd cc
there_is (Ready number) e = absurd cc
there_is Refused e = absurd cc

-- ---- alarms

-- Whether a submodule is not as expected, after a report.
abbrev pub seen_after : Option PlaceReport → ℕ → ℕ → Bool → Bool
seen_after None slot subslot before = before
seen_after (Some report) slot subslot before = cond (concerns slot subslot report) (is_amiss (reported_state report)) before

-- After these alarms.
abbrev pub seen_by : List AlarmNotification → ℕ → ℕ → Bool → Bool
seen_by [] slot subslot before = before
seen_by (alarm ∷ alarms) slot subslot before = seen_by alarms slot subslot (seen_after (place_report (report_as Low alarm)) slot subslot before)

-- What is known of it, after a report.
abbrev pub known_after : Option PlaceReport → ℕ → ℕ → Option Bool → Option Bool
known_after None slot subslot before = before
known_after (Some report) slot subslot before = cond (concerns slot subslot report) (known_of (reported_state report)) before

-- After these alarms.
abbrev pub known_by : List AlarmNotification → ℕ → ℕ → Option Bool → Option Bool
known_by [] slot subslot before = before
known_by (alarm ∷ alarms) slot subslot before = known_by alarms slot subslot (known_after (place_report (report_as Low alarm)) slot subslot before)

pub known_more : (alarms : List AlarmNotification) (alarm : AlarmNotification) (slot subslot : ℕ) (before : Option Bool)
    → known_by (alarms ++ alarm ∷ []) slot subslot before ≡ known_after (place_report (report_as Low alarm)) slot subslot (known_by alarms slot subslot before)
known_more [] alarm slot subslot before = refl
known_more (one ∷ alarms) alarm slot subslot before = known_more alarms alarm slot subslot (known_after (place_report (report_as Low one)) slot subslot before)

one_amiss : (o : Option PlaceReport) (slot subslot : ℕ) (before : Option Bool) → amiss_in (known_after o slot subslot before) ≡ seen_after o slot subslot (amiss_in before)
one_amiss None slot subslot before = refl
one_amiss (Some report) slot subslot before = by_test (concerns slot subslot report)
  where
    by_test : (b : Bool) → amiss_in (cond b (known_of (reported_state report)) before) ≡ cond b (is_amiss (reported_state report)) (amiss_in before)
    by_test true = sym (amiss_is (reported_state report))
    by_test false = refl

-- what is known says whether it is as expected
pub known_amiss : (alarms : List AlarmNotification) (slot subslot : ℕ) (before : Option Bool) → amiss_in (known_by alarms slot subslot before) ≡ seen_by alarms slot subslot (amiss_in before)
known_amiss [] slot subslot before = refl
known_amiss (alarm ∷ alarms) slot subslot before =
    known_amiss alarms slot subslot (known_after (place_report (report_as Low alarm)) slot subslot before)
    ∙ ap (λ (b : Bool). seen_by alarms slot subslot b) (one_amiss (place_report (report_as Low alarm)) slot subslot before)

one_unknown : (o : Option PlaceReport) (slot subslot : ℕ) → concerns_any slot subslot o ≡ false → known_after o slot subslot None ≡ None
one_unknown None slot subslot e = refl
one_unknown (Some report) slot subslot e = ap (λ (b : Bool). cond b (known_of (reported_state report)) None) e

-- nothing is known where nothing was reported
pub known_none : (alarms : List AlarmNotification) (slot subslot : ℕ) → is_reported slot subslot alarms ≡ false → known_by alarms slot subslot None ≡ None
known_none [] slot subslot e = refl
known_none (alarm ∷ alarms) slot subslot e =
    let parts = or_parts (reports_at slot subslot alarm) (is_reported slot subslot alarms) e in
    ap (λ (o : Option Bool). known_by alarms slot subslot o) (one_unknown (place_report (report_as Low alarm)) slot subslot parts.0) ∙ known_none alarms slot subslot parts.1

-- ---- places

-- What is known of each of these places is what this says.
abbrev pub IsAs : (ℕ → ℕ → Option Bool) → Place → Type 0
IsAs has place = known_of place.state ≡ has place.slot place.subslot

abbrev pub AreAs : (ℕ → ℕ → Option Bool) → List Place → Type 0
AreAs has places = AllByRecursion (IsAs has) places

pub as_same : (has now : ℕ → ℕ → Option Bool) → ((slot subslot : ℕ) → has slot subslot ≡ now slot subslot) → (places : List Place) → AreAs has places → AreAs now places
as_same has now same [] all = tt
as_same has now same (place ∷ places) all = (all.0 ∙ same place.slot place.subslot, as_same has now same places all.1)

pub found_as : (has : ℕ → ℕ → Option Bool) (places : List Place) (slot subslot : ℕ) (place : Place) → AreAs has places → place_at slot subslot places ≡ Some place → known_of place.state ≡ has slot subslot
found_as has places slot subslot place all e =
    let there = found_is (IsAs has) (is_at slot subslot) places place all e in
    let at = and_parts (place.slot == slot) (place.subslot == subslot) there.1 in
    there.0 ∙ (ap (λ (n : ℕ). has n place.subslot) (eqb-true place.slot slot at.0) ∙ ap (λ (n : ℕ). has slot n) (eqb-true place.subslot subslot at.1))

pub state_as : (has : ℕ → ℕ → Option Bool) (told : Told) (slot subslot : ℕ) (state : PlaceState) → AreAs has told.places → state_at slot subslot told ≡ Some state → known_of state ≡ has slot subslot
state_as has told slot subslot state all e = by_place (place_at slot subslot told.places) refl e
  where
    by_place : (o : Option Place) → place_at slot subslot told.places ≡ o → option_map (λ (place : Place). place.state) o ≡ Some state → known_of state ≡ has slot subslot
    by_place None f g = absurd cc
    by_place (Some place) f g = ap known_of (sym (some_is place.state state g)) ∙ found_as has told.places slot subslot place all f

-- ---- a report

about_is : (report : PlaceReport) (place : Place) → is_about report place ≡ concerns place.slot place.subslot report
about_is (reports.Pulled affected) place = refl
about_is (reports.PluggedWrong plug) place = refl
about_is (reports.Plugged plug) place = refl

module _ (has : ℕ → ℕ → Option Bool) (report : PlaceReport) where
  abbrev now : ℕ → ℕ → Option Bool
  now = λ slot subslot. known_after (Some report) slot subslot (has slot subslot)

  one_after : (place : Place) → IsAs has place → IsAs (λ slot subslot. known_after (Some report) slot subslot (has slot subslot)) (after_report report place)
  one_after place is = by_test (is_about report place) refl
    where
      by_test : (b : Bool) → is_about report place ≡ b
          → IsAs (λ slot subslot. known_after (Some report) slot subslot (has slot subslot)) (cond b (in_state (reported_state report) place) place)
      by_test true e = sym (ap (λ (c : Bool). cond c (known_of (reported_state report)) (has place.slot place.subslot)) (sym (about_is report place) ∙ e))
      by_test false e = is ∙ sym (ap (λ (c : Bool). cond c (known_of (reported_state report)) (has place.slot place.subslot)) (sym (about_is report place) ∙ e))

  some_moved : (test : Place → Bool) (places : List Place) → AreAs has places
      → AreAs (λ slot subslot. known_after (Some report) slot subslot (has slot subslot)) (map (after_report report) (filter test places))
  some_moved test [] all = tt
  some_moved test (place ∷ places) all = by_test (test place) (one_after place all.0) (some_moved test places all.1)
    where
      by_test : (b : Bool) → IsAs (λ slot subslot. known_after (Some report) slot subslot (has slot subslot)) (after_report report place)
          → AreAs (λ slot subslot. known_after (Some report) slot subslot (has slot subslot)) (map (after_report report) (filter test places))
          → AreAs (λ slot subslot. known_after (Some report) slot subslot (has slot subslot)) (map (after_report report) (cond b (place ∷ filter test places) (filter test places)))
      by_test true one rest = (one, rest)
      by_test false one rest = rest

  pub after_as : (told : Told) → AreAs has told.places → AreAs (λ slot subslot. known_after (Some report) slot subslot (has slot subslot)) (told_after report told).places
  after_as told all =
      each_behind (IsAs (λ slot subslot. known_after (Some report) slot subslot (has slot subslot))) (moved false report told.places) (moved true report told.places)
      (some_moved (is_moved false report) told.places all) (some_moved (is_moved true report) told.places all)

pub by_as : (has : ℕ → ℕ → Option Bool) (report : Option PlaceReport) (told : Told) → AreAs has told.places → AreAs (λ slot subslot. known_after report slot subslot (has slot subslot)) (told_by report told).places
by_as has None told all = all
by_as has (Some report) told all = after_as has report told all

-- ---- turns

-- a submodule that is as expected goes on
pub set_as : (has : ℕ → ℕ → Option Bool) (slot subslot : ℕ) (state : PlaceState) (told : Told) → has slot subslot ≡ Some false → known_of state ≡ Some false → AreAs has told.places
    → AreAs has (with_state slot subslot state told).places
set_as has slot subslot state told good fine all = each_place told.places all
  where
    one : (place : Place) → IsAs has place → IsAs has (set_at slot subslot state place)
    one place is = by_test (is_at slot subslot place) refl
      where
        by_test : (b : Bool) → is_at slot subslot place ≡ b → IsAs has (cond b (in_state state place) place)
        by_test true e =
            let at = and_parts (place.slot == slot) (place.subslot == subslot) e in
            fine ∙ sym (ap (λ (n : ℕ). has n place.subslot) (eqb-true place.slot slot at.0) ∙ (ap (λ (n : ℕ). has slot n) (eqb-true place.subslot subslot at.1) ∙ good))
        by_test false e = is

    each_place : (places : List Place) → AreAs has places → AreAs has (map (set_at slot subslot state) places)
    each_place [] these = tt
    each_place (place ∷ places) these = (one place these.0, each_place places these.1)

ready_fine : (number : ℕ) (state : PlaceState) → is_told number state ≡ true → known_of state ≡ Some false
ready_fine number There e = absurd cc
ready_fine number Differs e = absurd cc
ready_fine number Gone e = absurd cc
ready_fine number Wrong e = absurd cc
ready_fine number (Plugged of) e = refl
ready_fine number (Writing of) e = refl
ready_fine number (Ending of) e = refl
ready_fine number (Ready of) e = refl
ready_fine number Refused e = refl

pub readied_as : (has : ℕ → ℕ → Option Bool) (number : ℕ) (told : Told) → AreAs has told.places → AreAs has (readied number told).places
readied_as has number told all = each_place told.places all
  where
    one : (place : Place) → IsAs has place → IsAs has (made_ready number place)
    one place is = by_test (is_told number place.state) refl
      where
        by_test : (b : Bool) → is_told number place.state ≡ b → IsAs has (cond b (in_state (Ready number) place) place)
        by_test true e = sym (ready_fine number place.state e) ∙ is
        by_test false e = is

    each_place : (places : List Place) → AreAs has places → AreAs has (map (made_ready number) places)
    each_place [] these = tt
    each_place (place ∷ places) these = (one place these.0, each_place places these.1)

plugged_fine : (state : PlaceState) (number : ℕ) → plugged_number state ≡ Some number → known_of state ≡ Some false
plugged_fine There number e = absurd cc
plugged_fine Differs number e = absurd cc
plugged_fine Gone number e = absurd cc
plugged_fine Wrong number e = absurd cc
plugged_fine (Plugged of) number e = refl
plugged_fine (Writing of) number e = refl
plugged_fine (Ending of) number e = refl
plugged_fine (Ready of) number e = refl
plugged_fine Refused number e = refl

-- the place that waits first is as expected
waiting_fine : (has : ℕ → ℕ → Option Bool) (places : List Place) (plug : Plug) → AreAs has places → first_waiting places ≡ Some plug → has plug.slot plug.subslot ≡ Some false
waiting_fine has [] plug all e = absurd cc
waiting_fine has (place ∷ places) plug all e = by_number (plugged_number place.state) refl e (λ f. waiting_fine has places plug all.1 f)
  where
    by_number : (o : Option ℕ) → plugged_number place.state ≡ o → or_next (option_map (plug_at place) o) (first_waiting places) ≡ Some plug
        → (first_waiting places ≡ Some plug → has plug.slot plug.subslot ≡ Some false) → has plug.slot plug.subslot ≡ Some false
    by_number None f g later = later g
    by_number (Some number) f g later =
        subst (λ (p : Plug). has p.slot p.subslot ≡ Some false) (some_is (plug_at place number) plug g) (sym all.0 ∙ plugged_fine place.state number f)

pub next_fine : (has : ℕ → ℕ → Option Bool) (told : Told) (plug : Plug) → AreAs has told.places → next_waiting told ≡ Some plug → has plug.slot plug.subslot ≡ Some false
next_fine has told plug all e = by_turns told.has_turns e
  where
    by_turns : (b : Bool) → cond b (first_waiting told.places) None ≡ Some plug → has plug.slot plug.subslot ≡ Some false
    by_turns true f = waiting_fine has told.places plug all f
    by_turns false f = absurd cc

turn_state : (state : PlaceState) → has_turn state ≡ true → known_of state ≡ Some false
turn_state There e = absurd cc
turn_state Differs e = absurd cc
turn_state Gone e = absurd cc
turn_state Wrong e = absurd cc
turn_state (Plugged of) e = refl
turn_state (Writing of) e = refl
turn_state (Ending of) e = refl
turn_state (Ready of) e = refl
turn_state Refused e = refl

pub turn_fine : (has : ℕ → ℕ → Option Bool) (told : Told) (slot subslot : ℕ) → AreAs has told.places → has_turn_at slot subslot told ≡ true → has slot subslot ≡ Some false
turn_fine has told slot subslot all e = by_state (state_at slot subslot told) refl e
  where
    by_state : (o : Option PlaceState) → state_at slot subslot told ≡ o → is_turn o ≡ true → has slot subslot ≡ Some false
    by_state None f g = absurd cc
    by_state (Some state) f g = sym (state_as has told slot subslot state all f) ∙ turn_state state g

-- ---- which places there are

-- These places are those of the other ones.
abbrev pub AreOf : (ℕ → ℕ → Bool) → List Place → Type 0
AreOf has places = (slot subslot : ℕ) → list_any (is_at slot subslot) places ≡ has slot subslot

any_kept : (test : Place → Bool) (change : Place → Place) → ((place : Place) → test (change place) ≡ test place) → (places : List Place) → list_any test (map change places) ≡ list_any test places
any_kept test change same [] = refl
any_kept test change same (place ∷ places) =
    ap (λ (b : Bool). b || list_any test (map change places)) (same place) ∙ ap (λ (b : Bool). test place || b) (any_kept test change same places)

pub set_of : (has : ℕ → ℕ → Bool) (slot subslot : ℕ) (state : PlaceState) (told : Told) → AreOf has told.places → AreOf has (with_state slot subslot state told).places
set_of has slot subslot state told own other there = any_kept (is_at other there) (set_at slot subslot state) kept told.places ∙ own other there
  where
    kept : (place : Place) → is_at other there (set_at slot subslot state place) ≡ is_at other there place
    kept place = by_test (is_at slot subslot place)
      where
        by_test : (b : Bool) → is_at other there (cond b (in_state state place) place) ≡ is_at other there place
        by_test true = refl
        by_test false = refl

pub readied_of : (has : ℕ → ℕ → Bool) (number : ℕ) (told : Told) → AreOf has told.places → AreOf has (readied number told).places
readied_of has number told own other there = any_kept (is_at other there) (made_ready number) kept told.places ∙ own other there
  where
    kept : (place : Place) → is_at other there (made_ready number place) ≡ is_at other there place
    kept place = by_test (is_told number place.state)
      where
        by_test : (b : Bool) → is_at other there (cond b (in_state (Ready number) place) place) ≡ is_at other there place
        by_test true = refl
        by_test false = refl

or_turned : (a t b : Bool) → (a || (t || b)) ≡ (t || (a || b))
or_turned true true b = refl
or_turned true false b = refl
or_turned false t b = refl

or_grouped : (t a b : Bool) → ((t || a) || b) ≡ (t || (a || b))
or_grouped true a b = refl
or_grouped false a b = refl

-- those that are moved, and the others, are all
parted : (test : Place → Bool) (report : PlaceReport) (places : List Place)
    → (list_any test (filter (is_moved false report) places) || list_any test (filter (is_moved true report) places)) ≡ list_any test places
parted test report [] = refl
parted test report (place ∷ places) = by_test (is_plugged_by report place) (parted test report places)
  where
    by_test : (b : Bool) → (list_any test (filter (is_moved false report) places) || list_any test (filter (is_moved true report) places)) ≡ list_any test places
        → (list_any test (cond (not b) (place ∷ filter (is_moved false report) places) (filter (is_moved false report) places))
        || list_any test (cond b (place ∷ filter (is_moved true report) places) (filter (is_moved true report) places))) ≡ (test place || list_any test places)
    by_test true e =
        or_turned (list_any test (filter (is_moved false report) places)) (test place) (list_any test (filter (is_moved true report) places)) ∙ ap (λ (b : Bool). test place || b) e
    by_test false e =
        or_grouped (test place) (list_any test (filter (is_moved false report) places)) (list_any test (filter (is_moved true report) places)) ∙ ap (λ (b : Bool). test place || b) e

after_of : (has : ℕ → ℕ → Bool) (report : PlaceReport) (told : Told) → AreOf has told.places → AreOf has (told_after report told).places
after_of has report told own other there =
    any_append (is_at other there) (moved false report told.places) (moved true report told.places)
    ∙ (ap (λ (b : Bool). b || list_any (is_at other there) (moved true report told.places)) (any_kept (is_at other there) (after_report report) kept (filter (is_moved false report) told.places))
    ∙ (ap (λ (b : Bool). list_any (is_at other there) (filter (is_moved false report) told.places) || b)
    (any_kept (is_at other there) (after_report report) kept (filter (is_moved true report) told.places))
    ∙ (parted (is_at other there) report told.places ∙ own other there)))
  where
    kept : (place : Place) → is_at other there (after_report report place) ≡ is_at other there place
    kept place = by_test (is_about report place)
      where
        by_test : (b : Bool) → is_at other there (cond b (in_state (reported_state report) place) place) ≡ is_at other there place
        by_test true = refl
        by_test false = refl

pub by_of : (has : ℕ → ℕ → Bool) (report : Option PlaceReport) (told : Told) → AreOf has told.places → AreOf has (told_by report told).places
by_of has None told own = own
by_of has (Some report) told own = after_of has report told own

-- as the relation begins they are those of the plan
opened_parts : (most : ℕ) (blocks : List ℕ) (at slot subslot : ℕ) (b : Bool) → (at == slot) ≡ b → (parts : List RealSubmodule)
    → list_any (is_at slot subslot) (map (first_place most blocks at) parts) ≡ (b && list_any (λ part. part.subslot == subslot) parts)
opened_parts most blocks at slot subslot true e [] = refl
opened_parts most blocks at slot subslot false e [] = refl
opened_parts most blocks at slot subslot true e (part ∷ parts) =
    ap (λ (c : Bool). (c && part.subslot == subslot) || list_any (is_at slot subslot) (map (first_place most blocks at) parts)) e
    ∙ ap (λ (c : Bool). (part.subslot == subslot) || c) (opened_parts most blocks at slot subslot true e parts)
opened_parts most blocks at slot subslot false e (part ∷ parts) =
    ap (λ (c : Bool). (c && part.subslot == subslot) || list_any (is_at slot subslot) (map (first_place most blocks at) parts)) e
    ∙ opened_parts most blocks at slot subslot false e parts

pub opened_of : (most : ℕ) (blocks : List ℕ) (modules : List RealModule) → AreOf (is_in_plan modules) (places_of most blocks modules)
opened_of most blocks [] slot subslot = refl
opened_of most blocks (entry ∷ modules) slot subslot =
    any_append (is_at slot subslot) (map (first_place most blocks entry.slot) entry.submodules.items) (places_of most blocks modules)
    ∙ (ap (λ (b : Bool). b || list_any (is_at slot subslot) (places_of most blocks modules)) (opened_parts most blocks entry.slot slot subslot (entry.slot == slot) refl entry.submodules.items)
    ∙ ap (λ (b : Bool). has_submodule slot subslot entry || b) (opened_of most blocks modules slot subslot))

-- a place is found where there is one
found_any : (test : Place → Bool) (places : List Place) → is_some (option_map (λ (place : Place). place.state) (find test places)) ≡ list_any test places
found_any test [] = refl
found_any test (place ∷ places) = by_test (test place) (found_any test places)
  where
    by_test : (b : Bool) → is_some (option_map (λ (p : Place). p.state) (find test places)) ≡ list_any test places
        → is_some (option_map (λ (p : Place). p.state) (cond b (Some place) (find test places))) ≡ (b || list_any test places)
    by_test true e = refl
    by_test false e = e

pub there_of : (has : ℕ → ℕ → Bool) (told : Told) → AreOf has told.places → (slot subslot : ℕ) → is_some (state_at slot subslot told) ≡ has slot subslot
there_of has told own slot subslot = found_any (is_at slot subslot) told.places ∙ own slot subslot

-- ---- what is planned is expected

expected_parts : (subslot : ℕ) (parts : List RealSubmodule) → list_any (λ part. part.subslot_number == subslot) (map submodule_of parts) ≡ list_any (λ part. part.subslot == subslot) parts
expected_parts subslot [] = refl
expected_parts subslot (part ∷ parts) = ap (λ (b : Bool). (part.subslot == subslot) || b) (expected_parts subslot parts)

pub planned_expected : (modules : List RealModule) (slot subslot : ℕ) → is_expected (expected_of modules) slot subslot ≡ is_in_plan modules slot subslot
planned_expected modules slot subslot = ap (λ (ws : List Wanted). list_any (has_part slot subslot) ws) (planned_wanted modules) ∙ each_planned modules
  where
    each_planned : (entries : List RealModule) → list_any (has_part slot subslot) (map wanted_for entries) ≡ is_in_plan entries slot subslot
    each_planned [] = refl
    each_planned (entry ∷ entries) =
        ap (λ (b : Bool). (entry.slot == slot && b) || list_any (has_part slot subslot) (map wanted_for entries)) (expected_parts subslot entry.submodules.items)
        ∙ ap (λ (b : Bool). has_submodule slot subslot entry || b) (each_planned entries)
