-- A pull or a plug touches each place that it affects, and only a confirmation releases a place.
use Rattle.std.proofs.Common.{◌≡◌, ◌==◌, ℕ, Bool, true, false, cond, List, [], ◌∷◌, Option, Some, None, refl, sym, ap, ◌∙◌, inl, inr}
use Rattle.std.proofs.Common.{◌&&◌, is_some, option_map, unwrap_or, if◌then◌else◌}
use Rattle.std.proofs.lemmas.Bool.{and_parts, cases_Bool, eqb-true, true≢false}
use Rattle.wire.specs.blocks.modules.Lists.{Listed}
use Rattle.connect_blocks.specs.declared.module_diff.DiffModule.{DiffModule}
use Rattle.connect_blocks.specs.declared.module_diff.DiffSubmodule.{DiffSubmodule}
use Rattle.module_diff.specs.declared.changes.Affected.{Affected}
use Rattle.module_diff.specs.Changes.{covers}
use Rattle.expected_places.specs.declared.calls.PlugCall.{PlugCall}
use Rattle.expected_places.specs.declared.place.ExpectedPlace.{ExpectedPlace}
use Rattle.expected_places.specs.declared.place.Step.{Step}
use Rattle.expected_places.specs.declared.place.Step.TheVariants.{Settled, Pulled, Plugged, Told, Ended, Refused}
use Rattle.expected_places.specs.Events.{Confirms, IsReleased, PlugEvent, after_event}
use Rattle.expected_places.specs.Events.{Answers, CallsNext, Ends, Passes, Plugs, Pulls, Readies, Restates, Tells}
use Rattle.expected_places.specs.Machine.{PlugState, answered_by, ended_at, is_touched_at, touched, touches}
use Rattle.expected_places.specs.Places.{first_told, is_for, is_plugged, is_touched, place_at, places_restated, restated_place, stepped}
use Rattle.expected_places.specs.Places.{touched_place, touched_places}
use Rattle.expected_places.proofs.Called.{for_stepped, stepped_if, there}

-- ---- the place in a slot and subslot, after a change of all

found_if : (f : ExpectedPlace → ExpectedPlace) (b : Bool) (place : ExpectedPlace) (new old : Option ExpectedPlace) → new ≡ option_map f old
    → cond b (Some (f place)) new ≡ option_map f (cond b (Some place) old)
found_if f true place new old is = refl
found_if f false place new old is = is

place_after : (affected : Affected) (step : Step) (slot subslot : ℕ) (places : List ExpectedPlace)
    → place_at slot subslot (touched_places affected step places) ≡ option_map (touched_place affected step) (place_at slot subslot places)
place_after affected step slot subslot [] = refl
place_after affected step slot subslot (place ∷ places) =
    let now = place_at slot subslot (touched_places affected step places) in
    ap (λ (b : Bool). let o : Option ExpectedPlace = cond b (Some (touched_place affected step place)) now in o)
    (for_stepped slot subslot (covers affected place.slot place.subslot) step place)
    ∙ found_if (touched_place affected step) (is_for slot subslot place) place now (place_at slot subslot places)
    (place_after affected step slot subslot places)

place_restated : (rows : Listed DiffModule DiffSubmodule) (slot subslot : ℕ) (places : List ExpectedPlace)
    → place_at slot subslot (places_restated rows places) ≡ option_map (restated_place rows) (place_at slot subslot places)
place_restated rows slot subslot [] = refl
place_restated rows slot subslot (place ∷ places) =
    found_if (restated_place rows) (is_for slot subslot place) place (place_at slot subslot (places_restated rows places))
    (place_at slot subslot places) (place_restated rows slot subslot places)

-- ---- what touches

stepped_touched : (b : Bool) (step : Step) (place : ExpectedPlace) → is_touched step ≡ true → is_touched place.step ≡ true
    → is_touched (stepped_if b step place).step ≡ true
stepped_touched true step place touched was = touched
stepped_touched false step place touched was = was

still_touched : (affected : Affected) (step : Step) (found : Option ExpectedPlace) → is_touched step ≡ true → touches found ≡ true
    → touches (option_map (touched_place affected step) found) ≡ true
still_touched affected step None touched was = was
still_touched affected step (Some place) touched was = stepped_touched (covers affected place.slot place.subslot) step place touched was

-- A place that is touched stays so if it is changed to a step that is touched.
stays : (affected : Affected) (step : Step) (slot subslot : ℕ) (places : List ExpectedPlace) → is_touched step ≡ true
    → touches (place_at slot subslot places) ≡ true → touches (place_at slot subslot (touched_places affected step places)) ≡ true
stays affected step slot subslot places touched was =
    ap touches (place_after affected step slot subslot places) ∙ still_touched affected step (place_at slot subslot places) touched was

touched_now : (affected : Affected) (step : Step) (slot subslot : ℕ) (places : List ExpectedPlace) → is_touched step ≡ true
    → covers affected slot subslot ≡ true → is_some (place_at slot subslot places) ≡ true
    → touches (place_at slot subslot (touched_places affected step places)) ≡ true
touched_now affected step slot subslot [] touched covered some = absurd (true≢false (sym some))
touched_now affected step slot subslot (place ∷ places) touched covered some =
    let first = for_stepped slot subslot (covers affected place.slot place.subslot) step place in
    let now = touched_places affected step places in
    elim (cases_Bool (is_for slot subslot place)) [
      | inl t ↦
          let both = and_parts (place.slot == slot) (place.subslot == subslot) t in
          let at : covers affected place.slot place.subslot ≡ true =
          ap (λ (n : ℕ). covers affected n place.subslot) (eqb-true place.slot slot both.0)
          ∙ (ap (λ (n : ℕ). covers affected slot n) (eqb-true place.subslot subslot both.1) ∙ covered) in
          ap (λ (b : Bool). touches (cond b (Some (touched_place affected step place)) (place_at slot subslot now))) (first ∙ t)
          ∙ (ap (λ (b : Bool). is_touched (stepped_if b step place).step) at ∙ touched)
      | inr f ↦
          ap (λ (b : Bool). touches (cond b (Some (touched_place affected step place)) (place_at slot subslot now))) (first ∙ f)
          ∙ touched_now affected step slot subslot places touched covered
          (sym (ap (λ (b : Bool). is_some (cond b (Some place) (place_at slot subslot places))) f) ∙ some)
    ]

pub touched_by : (affected : Affected) (step : Step) (state : PlugState) (slot subslot : ℕ) → is_touched step ≡ true
    → covers affected slot subslot ≡ true → is_some (place_at slot subslot state.places) ≡ true
    → is_touched_at slot subslot (touched affected step state) ≡ true
touched_by affected step state slot subslot touched covered some = touched_now affected step slot subslot state.places touched covered some

-- ---- what releases

-- What is not affected stays as it is.
beside : (affected : Affected) (step : Step) (slot subslot : ℕ) (places : List ExpectedPlace) → covers affected slot subslot ≡ false
    → place_at slot subslot (touched_places affected step places) ≡ place_at slot subslot places
beside affected step slot subslot [] not = refl
beside affected step slot subslot (place ∷ places) not =
    let first = for_stepped slot subslot (covers affected place.slot place.subslot) step place in
    let now = touched_places affected step places in
    elim (cases_Bool (is_for slot subslot place)) [
      | inl t ↦
          let both = and_parts (place.slot == slot) (place.subslot == subslot) t in
          let at : covers affected place.slot place.subslot ≡ false =
          ap (λ (n : ℕ). covers affected n place.subslot) (eqb-true place.slot slot both.0)
          ∙ (ap (λ (n : ℕ). covers affected slot n) (eqb-true place.subslot subslot both.1) ∙ not) in
          ap (λ (b : Bool). let o : Option ExpectedPlace = cond b (Some (touched_place affected step place)) (place_at slot subslot now) in o) (first ∙ t)
          ∙ (ap (λ (b : Bool). let o : Option ExpectedPlace = Some (stepped_if b step place) in o) at
          ∙ sym (ap (λ (b : Bool). let o : Option ExpectedPlace = cond b (Some place) (place_at slot subslot places) in o) t))
      | inr f ↦
          ap (λ (b : Bool). let o : Option ExpectedPlace = cond b (Some (touched_place affected step place)) (place_at slot subslot now) in o) (first ∙ f)
          ∙ (beside affected step slot subslot places not
          ∙ sym (ap (λ (b : Bool). let o : Option ExpectedPlace = cond b (Some place) (place_at slot subslot places) in o) f))
    ]

restated_touches : (rows : Listed DiffModule DiffSubmodule) (found : Option ExpectedPlace)
    → touches (option_map (restated_place rows) found) ≡ touches found
restated_touches rows None = refl
restated_touches rows (Some place) = refl

told_touches : (b : Bool) (slot subslot number : ℕ) (places : List ExpectedPlace) (at below : ℕ) → touches (place_at at below places) ≡ true
    → touches (place_at at below (if b then stepped slot subslot (Told number) places else places)) ≡ true
told_touches true slot subslot number places at below was = stays (there slot subslot) (Told number) at below places refl was
told_touches false slot subslot number places at below was = was

ended_touches : (number : ℕ) (is_ready : Bool) (state : PlugState) (found : Option ExpectedPlace) (at below : ℕ)
    → is_touched_at at below state ≡ true → is_touched_at at below (unwrap_or (option_map (ended_at number is_ready state) found) state) ≡ true
ended_touches number is_ready state None at below was = was
ended_touches number is_ready state (Some place) at below was = stays (there place.slot place.subslot) (Ended number) at below state.places refl was

module _ (state : PlugState) (slot subslot : ℕ) where
  -- A place that stays touched is not released.
  not_released : {A : Type 0} (after : PlugState) → is_touched_at slot subslot after ≡ true → IsReleased slot subslot state after → A
  not_released after still released = absurd (true≢false (sym still ∙ released.is))

  confirmed_by : (call : PlugCall) → state.calls.standing ≡ Some call → IsReleased slot subslot state (answered_by true state (Some call))
      → Confirms slot subslot (Answers true) state
  confirmed_by call active released =
      elim (cases_Bool (covers (there call.slot call.subslot) slot subslot)) [
        | inl t ↦
            let both = and_parts (call.slot == slot) (call.subslot == subslot) t in
            record {
              call = call;
              active = active;
              slot_is = eqb-true call.slot slot both.0;
              subslot_is = eqb-true call.subslot subslot both.1;
              positive = refl;
            }
        | inr f ↦
            not_released (answered_by true state (Some call))
            (ap touches (beside (there call.slot call.subslot) Settled slot subslot state.places f) ∙ released.was) released
      ]

  answer_by : (is_positive : Bool) (standing : Option PlugCall) → state.calls.standing ≡ standing
      → IsReleased slot subslot state (answered_by is_positive state standing) → Confirms slot subslot (Answers is_positive) state
  answer_by is_positive None active released = not_released state released.was released
  answer_by true (Some call) active released = confirmed_by call active released
  answer_by false (Some call) active released =
      not_released (answered_by false state (Some call))
      (stays (there call.slot call.subslot) Refused slot subslot state.places refl released.was) released

  confirms : (event : PlugEvent) → IsReleased slot subslot state (after_event event state) → Confirms slot subslot event state
  confirms (Restates rows) released =
      not_released (after_event (Restates rows) state)
      (ap touches (place_restated rows slot subslot state.places)
      ∙ (restated_touches rows (place_at slot subslot state.places) ∙ released.was)) released
  confirms (Pulls affected) released =
      not_released (after_event (Pulls affected) state) (stays affected Pulled slot subslot state.places refl released.was) released
  confirms (Plugs affected) released =
      not_released (after_event (Plugs affected) state) (stays affected Plugged slot subslot state.places refl released.was) released
  confirms (Tells at below number is_last) released =
      not_released (after_event (Tells at below number is_last) state)
      (told_touches (is_last && is_plugged (place_at at below state.places)) at below number state.places slot subslot released.was) released
  confirms (Ends number is_ready) released =
      not_released (after_event (Ends number is_ready) state)
      (ended_touches number is_ready state (first_told number state.places) slot subslot released.was) released
  confirms (Readies at below) released = not_released (after_event (Readies at below) state) released.was released
  confirms CallsNext released = not_released (after_event CallsNext state) released.was released
  confirms (Answers is_positive) released = answer_by is_positive state.calls.standing refl released
  confirms Passes released = not_released (after_event Passes state) released.was released

pub only_confirmed : (event : PlugEvent) (state : PlugState) (slot subslot : ℕ) → IsReleased slot subslot state (after_event event state)
    → Confirms slot subslot event state
only_confirmed event state slot subslot released = confirms state slot subslot event released
