-- A place of a relation over one event of its device: how far it is, and which records were accepted there.
use Rattle.std.proofs.Common.{◌≡◌, ◌⊎◌, inl, inr, ◌==◌, ◌&&◌, ◌++◌, ℕ, Bool, true, false, not, cond, List, [], ◌∷◌, Option, Some, None, option_map, refl, sym}
use Rattle.std.proofs.Common.{ap, subst, ◌∙◌}
use Rattle.std.specs.Prelude.{if◌then◌else◌, unwrap_or}
use Rattle.std.specs.List.{filter}
use Rattle.std.proofs.lemmas.Bool.{and_from, and_parts, eq-eqb, eqb-true, true≢false}
use Rattle.std.proofs.lemmas.List.Elements.{filter-append}
use Rattle.module_diff.specs.declared.changes.Affected.{Affected}
use Rattle.module_diff.specs.Changes.{affected_by, covers, reaches}
use Rattle.module_diff.specs.Diff.{is_listed}
use Rattle.records.specs.declared.writes.taken.TakenRecord.{TakenRecord}
use Rattle.records.specs.writes.Taken.{forgotten_at, is_at}
use Rattle.diagnosis.specs.declared.alarms.alarms.SentAlarm.{SentAlarm}
use Rattle.diagnosis.specs.declared.module_change.ModuleChange.{ModuleChange}
use Rattle.diagnosis.specs.declared.queue.LowChange.{LowChange}
use Rattle.diagnosis.specs.declared.queue.LowChange.TheVariants as change_is
use Rattle.diagnosis.specs.declared.queue.QueuedAlarm.{QueuedAlarm}
use Rattle.diagnosis.specs.Queue.{is_plug, reach_of, waits_for_plug}
use Rattle.expected_places.specs.declared.calls.PlugCall.{PlugCall}
use Rattle.expected_places.specs.declared.place.ExpectedPlace.{ExpectedPlace}
use Rattle.expected_places.specs.declared.place.Step.{Step}
use Rattle.expected_places.specs.declared.place.Step.TheVariants.{Settled, Plugged, Told, Ended, Refused}
use Rattle.expected_places.specs.Calls.{counted}
use Rattle.expected_places.specs.Machine.{PlugState, answered, answered_by, ended, ended_at, next_called, readied, restated, told}
use Rattle.expected_places.specs.Places.{first_told, is_for, is_plugged, place_at, places_restated, stepped}
use Rattle.relations.specs.Plugging.{first_sent, flow_then, forgotten_there, kept_records, modules_changing, places_then, plugs_after, plugs_told, rows_now}
use Rattle.relations.specs.Plugging.{sent_then, step_by, taken_after, taken_told}
use Rattle.relations.specs.RelationState.{RelationState}
use Rattle.relations.specs.Timers.{is_timed, plugs_later}
use Rattle.device_frames.specs.Heard.{Heard}
use Rattle.device_core.specs.State.{Live}
use Rattle.plug_ends.specs.Places.{step_at, taken_at}
use Rattle.plug_ends.proofs.DeviceGoes.{Alters, AnswersPlug, EndsPlug, Holding, IsMade, LinkGoes, TakesRecords, Tells, held, holding_of}
use Rattle.plug_ends.proofs.DevicePlaces.{AreCalled, answered_called, beside_at, counted_called, covered_at, ended_called, first_is_told, next_is_called}
use Rattle.plug_ends.proofs.DevicePlaces.{readied_called, restated_at, restated_called, same_place, there, told_called, told_plugged, touched_called}

-- ---- what is seen of a place

-- A place is as far as before, and has the same records.
pub record IsSameAt (slot subslot : ℕ) (before after : Holding) : Type 0 where
  pub step : step_at slot subslot after.plugs.places ≡ step_at slot subslot before.plugs.places
  pub taken : taken_at slot subslot after.taken ≡ taken_at slot subslot before.taken

-- ---- records that are forgotten

same_filter : {A : Type 0} (p q : A → Bool) (xs : List A) → ((x : A) → p x ≡ true → q x ≡ true) → filter p (filter q xs) ≡ filter p xs
same_filter p q [] by = refl
same_filter {A} p q (x ∷ xs) by = by_q (q x) refl (same_filter p q xs by)
  where
    by_p : (b : Bool) → p x ≡ b → q x ≡ false → cond b (x ∷ filter p xs) (filter p xs) ≡ filter p xs
    by_p true f e = absurd (true≢false (sym (by x f) ∙ e))
    by_p false f e = refl

    by_q : (b : Bool) → q x ≡ b → filter p (filter q xs) ≡ filter p xs
        → filter p (cond b (x ∷ filter q xs) (filter q xs)) ≡ cond (p x) (x ∷ filter p xs) (filter p xs)
    by_q true e rest = ap (λ (ys : List A). cond (p x) (x ∷ ys) ys) rest
    by_q false e rest = rest ∙ sym (by_p (p x) refl e)

no_filter : {A : Type 0} (p q : A → Bool) (xs : List A) → ((x : A) → p x ≡ true → q x ≡ false) → filter p (filter q xs) ≡ []
no_filter p q [] by = refl
no_filter {A} p q (x ∷ xs) by = by_q (q x) refl (no_filter p q xs by)
  where
    by_p : (b : Bool) → p x ≡ b → q x ≡ true → filter p (filter q xs) ≡ [] → cond b (x ∷ filter p (filter q xs)) (filter p (filter q xs)) ≡ []
    by_p true f e rest = absurd (true≢false (sym e ∙ by x f))
    by_p false f e rest = rest

    by_q : (b : Bool) → q x ≡ b → filter p (filter q xs) ≡ [] → filter p (cond b (x ∷ filter q xs) (filter q xs)) ≡ []
    by_q true e rest = by_p (p x) refl e rest
    by_q false e rest = rest

still_none : {A : Type 0} (p q : A → Bool) (xs : List A) → filter p xs ≡ [] → filter p (filter q xs) ≡ []
still_none p q [] none = refl
still_none {A} p q (x ∷ xs) none = by_p (p x) refl (λ e. still_none p q xs e) none
  where
    by_q : (b : Bool) → p x ≡ false → filter p (filter q xs) ≡ [] → filter p (cond b (x ∷ filter q xs) (filter q xs)) ≡ []
    by_q true f rest = ap (λ (c : Bool). cond c (x ∷ filter p (filter q xs)) (filter p (filter q xs))) f ∙ rest
    by_q false f rest = rest

    by_p : (b : Bool) → p x ≡ b → (filter p xs ≡ [] → filter p (filter q xs) ≡ []) → cond b (x ∷ filter p xs) (filter p xs) ≡ []
        → filter p (cond (q x) (x ∷ filter q xs) (filter q xs)) ≡ []
    by_p true f rest e = absurd cc
    by_p false f rest e = by_q (q x) f (rest e)

-- A place that is covered in the same slot and subslot is covered.
same_cover : (affected : Affected) (slot subslot at below : ℕ) → slot ≡ at → subslot ≡ below → covers affected slot subslot ≡ covers affected at below
same_cover affected slot subslot at below slots subslots =
    ap (λ (n : ℕ). covers affected n subslot) slots ∙ ap (λ (n : ℕ). covers affected at n) subslots

module _ (affected : Affected) (slot subslot : ℕ) where
  forgot_one : (taken : List TakenRecord) (place : ExpectedPlace) → covers affected slot subslot ≡ false
      → taken_at slot subslot (forgotten_there affected taken place) ≡ taken_at slot subslot taken
  forgot_one taken place e = by_cover (covers affected place.slot place.subslot) refl
    where
      another : covers affected place.slot place.subslot ≡ true → (one : TakenRecord) → is_at slot subslot one ≡ true → (b : Bool)
          → is_at place.slot place.subslot one ≡ b → not b ≡ true
      another f one at false g = refl
      another f one at true g =
          let here = and_parts (one.slot == slot) (one.subslot == subslot) at in
          let other = and_parts (one.slot == place.slot) (one.subslot == place.subslot) g in
          absurd (true≢false (sym f ∙ (same_cover affected place.slot place.subslot slot subslot
          (sym (eqb-true one.slot place.slot other.0) ∙ eqb-true one.slot slot here.0)
          (sym (eqb-true one.subslot place.subslot other.1) ∙ eqb-true one.subslot subslot here.1) ∙ e)))

      by_cover : (b : Bool) → covers affected place.slot place.subslot ≡ b
          → taken_at slot subslot (if b then forgotten_at place.slot place.subslot taken else taken) ≡ taken_at slot subslot taken
      by_cover true f = same_filter (is_at slot subslot) (λ (one : TakenRecord). not (is_at place.slot place.subslot one)) taken
          (λ one at. another f one at (is_at place.slot place.subslot one) refl)
      by_cover false f = refl

  forgot_same : (places : List ExpectedPlace) (taken : List TakenRecord) → covers affected slot subslot ≡ false
      → taken_at slot subslot (kept_records affected places taken) ≡ taken_at slot subslot taken
  forgot_same [] taken e = refl
  forgot_same (place ∷ places) taken e = forgot_same places (forgotten_there affected taken place) e ∙ forgot_one taken place e

  forgot_still : (places : List ExpectedPlace) (taken : List TakenRecord) → taken_at slot subslot taken ≡ []
      → taken_at slot subslot (kept_records affected places taken) ≡ []
  forgot_still [] taken e = e
  forgot_still (place ∷ places) taken e = forgot_still places (forgotten_there affected taken place) (by_cover (covers affected place.slot place.subslot))
    where
      by_cover : (b : Bool) → taken_at slot subslot (if b then forgotten_at place.slot place.subslot taken else taken) ≡ []
      by_cover true = still_none (is_at slot subslot) (λ (one : TakenRecord). not (is_at place.slot place.subslot one)) taken e
      by_cover false = e

  -- Of a place of the relation all are forgotten.
  forgot_all : (places : List ExpectedPlace) (taken : List TakenRecord) (step : Step) → covers affected slot subslot ≡ true
      → step_at slot subslot places ≡ Some step
      → taken_at slot subslot (kept_records affected places taken) ≡ []
  forgot_all [] taken step e is = absurd cc
  forgot_all (place ∷ places) taken step e is =
      by_for (is_for slot subslot place) refl (λ there. forgot_all places (forgotten_there affected taken place) step e there) is
    where
      by_for : (b : Bool) → is_for slot subslot place ≡ b
          → (step_at slot subslot places ≡ Some step → taken_at slot subslot (kept_records affected (place ∷ places) taken) ≡ [])
          → option_map (λ (p : ExpectedPlace). p.step) (cond b (Some place) (place_at slot subslot places)) ≡ Some step
          → taken_at slot subslot (kept_records affected (place ∷ places) taken) ≡ []
      by_for true f rest g =
          let both = and_parts (place.slot == slot) (place.subslot == subslot) f in
          let slots = eqb-true place.slot slot both.0 in
          let subslots = eqb-true place.subslot subslot both.1 in
          let first : forgotten_there affected taken place ≡ forgotten_at slot subslot taken =
          ap (λ (b : Bool). if b then forgotten_at place.slot place.subslot taken else taken)
          (same_cover affected place.slot place.subslot slot subslot slots subslots ∙ e)
          ∙ (ap (λ (n : ℕ). forgotten_at n place.subslot taken) slots ∙ ap (λ (n : ℕ). forgotten_at slot n taken) subslots) in
          forgot_still places (forgotten_there affected taken place)
          (ap (λ (xs : List TakenRecord). taken_at slot subslot xs) first
          ∙ no_filter (is_at slot subslot) (λ (one : TakenRecord). not (is_at slot subslot one)) taken (λ one at. ap (λ (b : Bool). not b) at))
      by_for false f rest g = rest g

-- ---- an alarm is first sent

-- The alarm of a plug at this place, after which no plug there waits: the place was plugged, and has the number of the alarm.
pub record IsToldAt (slot subslot number : ℕ) (change : ModuleChange) (waiting : List QueuedAlarm) (before after : PlugState) : Type 0 where
  pub plug : is_plug change.kind ≡ true
  pub slot_is : change.slot ≡ slot
  pub subslot_is : change.subslot ≡ subslot
  pub last : waits_for_plug change.slot change.subslot waiting ≡ false
  pub was : step_at slot subslot before.places ≡ Some Plugged
  pub now : step_at slot subslot after.places ≡ Some (Told number)

not_false : (b : Bool) → not b ≡ true → b ≡ false
not_false true e = absurd cc
not_false false e = refl

module _ (slot subslot number : ℕ) (change : ModuleChange) (waiting : List QueuedAlarm) (plugs : PlugState) where
  abbrev ToldOr : PlugState → Type 0
  ToldOr after = (step_at slot subslot after.places ≡ step_at slot subslot plugs.places) ⊎ IsToldAt slot subslot number change waiting plugs after

  told_or : ToldOr (plugs_told (change_is.Module change) number waiting plugs)
  told_or = by_plug (is_plug change.kind) refl
    where
      is_last : Bool
      is_last = not (waits_for_plug change.slot change.subslot waiting)

      by_plug : (b : Bool) → is_plug change.kind ≡ b → ToldOr (if b then told change.slot change.subslot number is_last plugs else plugs)
      by_plug false e = inl refl
      by_plug true e = by_told (is_last && is_plugged (place_at change.slot change.subslot plugs.places)) refl
        where
          by_told : (b : Bool) → (is_last && is_plugged (place_at change.slot change.subslot plugs.places)) ≡ b
              → ToldOr (record {
                places = if b then stepped change.slot change.subslot
                    (Told number) plugs.places else plugs.places;
                calls = plugs.calls;
                has_told = true;
              })
          by_told false f = inl refl
          by_told true f = by_cover (covers (there change.slot change.subslot) slot subslot) refl
            where
              by_cover : (b : Bool) → covers (there change.slot change.subslot) slot subslot ≡ b
                  → ToldOr (record { places = stepped change.slot change.subslot (Told number) plugs.places; calls = plugs.calls; has_told = true })
              by_cover false g = inl (beside_at (there change.slot change.subslot) (Told number) plugs.places slot subslot g)
              by_cover true g =
                  let both = and_parts (change.slot == slot) (change.subslot == subslot) g in
                  let slots = eqb-true change.slot slot both.0 in
                  let subslots = eqb-true change.subslot subslot both.1 in
                  let was : step_at slot subslot plugs.places ≡ Some Plugged =
                  sym (ap (λ (n : ℕ). step_at n change.subslot plugs.places) slots ∙ ap (λ (n : ℕ). step_at slot n plugs.places) subslots)
                  ∙ told_plugged change.slot change.subslot is_last plugs f in
                  inr (record {
                    plug = e;
                    slot_is = slots;
                    subslot_is = subslots;
                    last = not_false (waits_for_plug change.slot change.subslot waiting)
                        (and_parts is_last (is_plugged (place_at change.slot change.subslot plugs.places)) f).0;
                    was = was;
                    now = covered_at (there change.slot change.subslot) (Told number) Plugged plugs.places slot subslot g was;
                  })

-- The alarm reaches this place, which stays as far as it is; its records are forgotten.
pub record IsForgotten (slot subslot : ℕ) (sent : Option SentAlarm) (before after : Holding) : Type 0 where
  pub alarm : SentAlarm
  pub is : sent ≡ Some alarm
  pub change : ModuleChange
  pub made : alarm.change ≡ change_is.Module change
  pub covered : covers (reach_of change) slot subslot ≡ true
  pub step : step_at slot subslot after.plugs.places ≡ step_at slot subslot before.plugs.places
  pub taken : taken_at slot subslot after.taken ≡ []

-- The alarm of its plug is sent: its records are forgotten.
pub record IsTold (slot subslot : ℕ) (sent : Option SentAlarm) (waiting : List QueuedAlarm) (before after : Holding) : Type 0 where
  pub alarm : SentAlarm
  pub is : sent ≡ Some alarm
  pub change : ModuleChange
  pub made : alarm.change ≡ change_is.Module change
  pub told : IsToldAt slot subslot alarm.number change waiting before.plugs after.plugs
  pub taken : taken_at slot subslot after.taken ≡ []

abbrev pub SentGoes : ℕ → ℕ → Option SentAlarm → List QueuedAlarm → Holding → Holding → Type 0
SentGoes slot subslot sent waiting before after =
    IsSameAt slot subslot before after ⊎ (IsForgotten slot subslot sent before after ⊎ IsTold slot subslot sent waiting before after)

-- The place that an alarm names is reached by it.
pub reach_there : (change : ModuleChange) (slot subslot : ℕ) → change.slot ≡ slot → change.subslot ≡ subslot → covers (reach_of change) slot subslot ≡ true
reach_there change slot subslot slots subslots =
    and_from (change.slot == slot) (reaches (if change.subslot == 0 then None else Some change.subslot) subslot) (eq-eqb change.slot slot slots)
    (by_zero (change.subslot == 0))
  where
    by_zero : (b : Bool) → reaches (if b then None else Some change.subslot) subslot ≡ true
    by_zero true = refl
    by_zero false = eq-eqb change.subslot subslot subslots

module _ (slot subslot : ℕ) (step : Step) (waiting : List QueuedAlarm) (before : Holding) (is : step_at slot subslot before.plugs.places ≡ Some step) where
  abbrev pub After : Option SentAlarm → Holding
  After sent = record { taken = taken_after sent before.plugs.places before.taken; plugs = plugs_after sent waiting before.plugs }

  -- What follows from an alarm of this change.
  abbrev pub told_with : SentAlarm → LowChange → Holding
  told_with alarm change = record { taken = taken_told change before.plugs.places before.taken; plugs = plugs_told change alarm.number waiting before.plugs }

  pub sent_goes : (sent : Option SentAlarm) → SentGoes slot subslot sent waiting before (After sent)
  sent_goes None = inl (record { step = refl; taken = refl })
  sent_goes (Some alarm) = by_change alarm.change refl
    where
      by_change : (change : LowChange) → alarm.change ≡ change → SentGoes slot subslot (Some alarm) waiting before (told_with alarm change)
      by_change (change_is.Diagnosis diagnosis) e = inl (record { step = refl; taken = refl })
      by_change (change_is.Module change) e = by_told (told_or slot subslot alarm.number change waiting before.plugs)
        where
          by_cover : (b : Bool) → covers (reach_of change) slot subslot ≡ b
              → step_at slot subslot (told_with alarm (change_is.Module change)).plugs.places ≡ step_at slot subslot before.plugs.places
              → SentGoes slot subslot (Some alarm) waiting before (told_with alarm (change_is.Module change))
          by_cover false f same = inl (record { step = same; taken = forgot_same (reach_of change) slot subslot before.plugs.places before.taken f })
          by_cover true f same = inr (inl (record {
            alarm = alarm;
            is = refl;
            change = change;
            made = e;
            covered = f;
            step = same;
            taken = forgot_all (reach_of change) slot subslot before.plugs.places before.taken step f is;
          }))

          by_told : ToldOr slot subslot alarm.number change waiting before.plugs (told_with alarm (change_is.Module change)).plugs
              → SentGoes slot subslot (Some alarm) waiting before (told_with alarm (change_is.Module change))
          by_told (inl same) = by_cover (covers (reach_of change) slot subslot) refl same
          by_told (inr told) = inr (inr (record {
            alarm = alarm;
            is = refl;
            change = change;
            made = e;
            told = told;
            taken = forgot_all (reach_of change) slot subslot before.plugs.places before.taken step
                (reach_there change slot subslot told.slot_is told.subslot_is) is;
          }))

-- ---- one event

-- A Write is accepted: its records of this place follow the others, and the place is as far as before.
pub record TakesAt (slot subslot : ℕ) (live : Live) (heard : Heard) (link next : Option RelationState) (before after : Holding) : Type 0 where
  pub write : TakesRecords live heard link next
  pub step : step_at slot subslot after.plugs.places ≡ step_at slot subslot before.plugs.places
  pub taken : taken_at slot subslot after.taken ≡ taken_at slot subslot before.taken ++ taken_at slot subslot write.values

-- A PrmEnd after a plug is accepted with the number that the alarm of this place had.
pub record EndsAt (slot subslot : ℕ) (live : Live) (heard : Heard) (link next : Option RelationState) (before after : Holding) : Type 0 where
  pub end : EndsPlug live heard link next
  pub was : step_at slot subslot before.plugs.places ≡ Some (Told end.block.alarm_sequence_number)
  pub now : step_at slot subslot after.plugs.places ≡ Some (Ended end.block.alarm_sequence_number)
  pub taken : taken_at slot subslot after.taken ≡ taken_at slot subslot before.taken

-- The ApplicationReady of this place is answered.
pub record AnswersAt (slot subslot : ℕ) (heard : Heard) (link next : Option RelationState) (before after : Holding) : Type 0 where
  pub answer : AnswersPlug heard link next
  pub call : PlugCall
  pub active : before.plugs.calls.standing ≡ Some call
  pub slot_is : call.slot ≡ slot
  pub subslot_is : call.subslot ≡ subslot
  pub was : step_at slot subslot before.plugs.places ≡ Some (Ended call.number)
  pub now : step_at slot subslot after.plugs.places ≡ Some (if answer.is_positive then Settled else Refused)
  pub taken : taken_at slot subslot after.taken ≡ taken_at slot subslot before.taken

-- An alarm of low priority may be first sent.
pub record TellsAt (slot subslot : ℕ) (link next : Option RelationState) (before after : Holding) : Type 0 where
  pub alarm : Tells link next
  pub goes : SentGoes slot subslot (first_sent alarm.is_sent alarm.flow.low) alarm.flow.low.waiting before after

-- Something is pulled or plugged, here or elsewhere, and an alarm of low priority may be first sent after that.
pub record AltersAt (slot subslot : ℕ) (live : Live) (heard : Heard) (link next : Option RelationState) (before after : Holding) : Type 0 where
  pub change : Alters live heard link next
  pub middle : Holding
  pub touched :
      ((covers (affected_by change.made) slot subslot ≡ false) × (step_at slot subslot middle.plugs.places ≡ step_at slot subslot before.plugs.places))
      ⊎ ((covers (affected_by change.made) slot subslot ≡ true) × (step_at slot subslot middle.plugs.places
      ≡ Some (step_by change.made.kind (is_listed change.made.slot change.made.subslot (rows_now change.now change.link)))))
  pub same : middle.taken ≡ before.taken
  pub goes : SentGoes slot subslot (sent_then (rows_now change.now change.link) change.made change.diagnoses change.link)
      (flow_then (rows_now change.now change.link) change.made change.diagnoses change.link).low.waiting middle after

-- What becomes of a place of a relation that goes on.
abbrev pub PlaceGoes : ℕ → ℕ → Live → Heard → Option RelationState → Option RelationState → Holding → Holding → Type 0
PlaceGoes slot subslot live heard link next before after =
    IsSameAt slot subslot before after ⊎ (TakesAt slot subslot live heard link next before after ⊎ (EndsAt slot subslot live heard link next before after
    ⊎ (AnswersAt slot subslot heard link next before after
    ⊎ (TellsAt slot subslot link next before after ⊎ AltersAt slot subslot live heard link next before after))))

some_is : {A : Type 0} (x y : A) → Some x ≡ Some y → x ≡ y
some_is x y e = cc

none_some : {A : Type 0} {x : A} → ◌≡◌ {A = Option A} None (Some x) → ⊥
none_some e = absurd cc

later_same : (link : RelationState) → (plugs_later link).places ≡ link.plugs.places
later_same link = by_timed (is_timed link.phase)
  where
    by_timed : (b : Bool) → (let p : PlugState = cond b link.plugs (record link.plugs { calls = counted link.plugs.calls }) in p.places) ≡ link.plugs.places
    by_timed true = refl
    by_timed false = refl

later_called : (link : RelationState) → AreCalled link.plugs → AreCalled (plugs_later link)
later_called link is = by_timed (is_timed link.phase)
  where
    by_timed : (b : Bool) → AreCalled (cond b link.plugs (record link.plugs { calls = counted link.plugs.calls }))
    by_timed true = is
    by_timed false = counted_called link.plugs is

-- The next ApplicationReady that is called changes no place.
next_sent : (slot subslot : ℕ) (sent : Option SentAlarm) (waiting : List QueuedAlarm) (before after : Holding) → SentGoes slot subslot sent waiting before after
    → SentGoes slot subslot sent waiting before (record { taken = after.taken; plugs = next_called after.plugs })
next_sent slot subslot sent waiting before after (inl it) = inl (record { step = it.step; taken = it.taken })
next_sent slot subslot sent waiting before after (inr (inl it)) = inr (inl (record {
  alarm = it.alarm;
  is = it.is;
  change = it.change;
  made = it.made;
  covered = it.covered;
  step = it.step;
  taken = it.taken;
}))
next_sent slot subslot sent waiting before after (inr (inr it)) = inr (inr (record {
  alarm = it.alarm;
  is = it.is;
  change = it.change;
  made = it.made;
  told = record { plug = it.told.plug; slot_is = it.told.slot_is; subslot_is = it.told.subslot_is; last = it.told.last; was = it.told.was; now = it.told.now };
  taken = it.taken;
}))

sent_called : (sent : Option SentAlarm) (waiting : List QueuedAlarm) (plugs : PlugState) → AreCalled plugs → AreCalled (plugs_after sent waiting plugs)
sent_called None waiting plugs is = is
sent_called (Some alarm) waiting plugs is = by_change alarm.change
  where
    by_change : (change : LowChange) → AreCalled (plugs_told change alarm.number waiting plugs)
    by_change (change_is.Diagnosis diagnosis) = is
    by_change (change_is.Module change) = by_plug (is_plug change.kind)
      where
        by_plug : (b : Bool)
            → AreCalled (cond b (told change.slot change.subslot alarm.number (not (waits_for_plug change.slot change.subslot waiting)) plugs) plugs)
        by_plug true = told_called change.slot change.subslot alarm.number (not (waits_for_plug change.slot change.subslot waiting)) plugs is
        by_plug false = is

module _ (live : Live) (heard : Heard) (before after : Option RelationState) where
  abbrev Becomes : ℕ → ℕ → Holding → Holding → Type 0
  Becomes slot subslot old new = PlaceGoes slot subslot live heard before after old new

  end_goes : (slot subslot : ℕ) (it : EndsPlug live heard before after) → AreCalled it.link.plugs
      → Becomes slot subslot (holding_of it.link)
      (record { taken = it.link.taken; plugs = next_called (ended it.block.alarm_sequence_number it.is_ready it.link.plugs) })
  end_goes slot subslot it called = by_found (first_told number it.link.plugs.places) refl
    where
      number : ℕ
      number = it.block.alarm_sequence_number

      by_found : (found : Option ExpectedPlace) → first_told number it.link.plugs.places ≡ found
          → Becomes slot subslot (holding_of it.link)
          (record { taken = it.link.taken; plugs = next_called (unwrap_or (option_map (ended_at number it.is_ready it.link.plugs) found) it.link.plugs) })
      by_found None f = inl (record { step = refl; taken = refl })
      by_found (Some place) f = by_cover (covers (there place.slot place.subslot) slot subslot) refl
        where
          by_cover : (b : Bool) → covers (there place.slot place.subslot) slot subslot ≡ b
              → Becomes slot subslot (holding_of it.link)
              (record { taken = it.link.taken; plugs = next_called (ended_at number it.is_ready it.link.plugs place) })
          by_cover false g = inl (record { step = beside_at (there place.slot place.subslot) (Ended number) it.link.plugs.places slot subslot g; taken = refl })
          by_cover true g =
              let was = same_place place.slot place.subslot slot subslot it.link.plugs.places g ∙ first_is_told number it.link.plugs place called f in
              inr (inr (inl (record {
                end = it;
                was = was;
                now = covered_at (there place.slot place.subslot) (Ended number) (Told number) it.link.plugs.places slot subslot g was;
                taken = refl;
              })))

  answer_goes : (slot subslot : ℕ) (it : AnswersPlug heard before after) → AreCalled it.link.plugs
      → Becomes slot subslot (holding_of it.link) (record { taken = it.link.taken; plugs = next_called (answered it.is_positive it.link.plugs) })
  answer_goes slot subslot it called = by_standing it.link.plugs.calls.standing refl
    where
      by_standing : (standing : Option PlugCall) → it.link.plugs.calls.standing ≡ standing
          → Becomes slot subslot (holding_of it.link)
          (record { taken = it.link.taken; plugs = next_called (answered_by it.is_positive it.link.plugs standing) })
      by_standing None f = inl (record { step = refl; taken = refl })
      by_standing (Some call) f = by_cover (covers (there call.slot call.subslot) slot subslot) refl
        where
          by_cover : (b : Bool) → covers (there call.slot call.subslot) slot subslot ≡ b
              → Becomes slot subslot (holding_of it.link)
              (record { taken = it.link.taken; plugs = next_called (answered_by it.is_positive it.link.plugs (Some call)) })
          by_cover false g = inl
              (record {
                step = beside_at (there call.slot call.subslot)
                    (if it.is_positive then Settled else Refused) it.link.plugs.places slot subslot g;
                taken = refl;
              })
          by_cover true g =
              let was = same_place call.slot call.subslot slot subslot it.link.plugs.places g ∙ called.standing call f in
              let both = and_parts (call.slot == slot) (call.subslot == subslot) g in
              inr (inr (inr (inl (record {
                answer = it;
                call = call;
                active = f;
                slot_is = eqb-true call.slot slot both.0;
                subslot_is = eqb-true call.subslot subslot both.1;
                was = was;
                now = covered_at (there call.slot call.subslot) (if it.is_positive then Settled else Refused)
                    (Ended call.number) it.link.plugs.places slot subslot g was;
                taken = refl;
              }))))

  -- The relation after an alarm that may be first sent, and after a pull or a plug.
  abbrev tells_holding : Tells before after → Holding
  tells_holding it =
      let sent = first_sent it.is_sent it.flow.low in
      record { taken = taken_after sent it.middle.plugs.places it.middle.taken; plugs = plugs_after sent it.flow.low.waiting it.middle.plugs }

  tell_goes : (slot subslot : ℕ) (it : Tells before after) (step : Step) → step_at slot subslot it.middle.plugs.places ≡ Some step
      → Becomes slot subslot (holding_of it.middle) (tells_holding it)
  tell_goes slot subslot it step is = inr (inr (inr (inr (inl (record {
    alarm = it;
    goes = sent_goes slot subslot step it.flow.low.waiting (holding_of it.middle) is (first_sent it.is_sent it.flow.low);
  })))))

  module _ (it : Alters live heard before after) where
    abbrev middle : Holding
    middle = record { taken = it.link.taken; plugs = places_then (rows_now it.now it.link) it.made it.link }

    abbrev alters_sent : Option SentAlarm
    alters_sent = sent_then (rows_now it.now it.link) it.made it.diagnoses it.link

    abbrev alters_waiting : List QueuedAlarm
    alters_waiting = (flow_then (rows_now it.now it.link) it.made it.diagnoses it.link).low.waiting

    abbrev alters_holding : Holding
    alters_holding = record {
      taken = taken_after alters_sent middle.plugs.places it.link.taken;
      plugs = next_called (plugs_after alters_sent alters_waiting middle.plugs);
    }

    abbrev alters_step : Step
    alters_step = step_by it.made.kind (is_listed it.made.slot it.made.subslot (rows_now it.now it.link))

    alter_goes : (slot subslot : ℕ) (step : Step) → step_at slot subslot it.link.plugs.places ≡ Some step
        → Becomes slot subslot (holding_of it.link) alters_holding
    alter_goes slot subslot step is = by_cover (covers (affected_by it.made) slot subslot) refl
      where
        restated_is : step_at slot subslot (places_restated (rows_now it.now it.link) it.link.plugs.places) ≡ Some step
        restated_is = restated_at (rows_now it.now it.link) it.link.plugs.places slot subslot ∙ is

        goes_on : (now : Step) → step_at slot subslot middle.plugs.places ≡ Some now → SentGoes slot subslot alters_sent alters_waiting middle alters_holding
        goes_on now here = next_sent slot subslot alters_sent alters_waiting middle _ (sent_goes slot subslot now alters_waiting middle here alters_sent)

        by_cover : (b : Bool) → covers (affected_by it.made) slot subslot ≡ b → Becomes slot subslot (holding_of it.link) alters_holding
        by_cover false e =
            let same = beside_at (affected_by it.made) alters_step (places_restated (rows_now it.now it.link) it.link.plugs.places) slot subslot e in
            inr (inr (inr (inr (inr (record {
              change = it;
              middle = middle;
              touched = inl (e, same ∙ restated_at (rows_now it.now it.link) it.link.plugs.places slot subslot);
              same = refl;
              goes = goes_on step (same ∙ restated_is);
            })))))
        by_cover true e =
            let now = covered_at (affected_by it.made) alters_step step
            (places_restated (rows_now it.now it.link) it.link.plugs.places) slot subslot e restated_is in
            inr (inr (inr (inr (inr (record {
              change = it;
              middle = middle;
              touched = inr (e, now);
              same = refl;
              goes = goes_on alters_step now;
            })))))

    alters_called : AreCalled it.link.plugs → AreCalled alters_holding.plugs
    alters_called is =
        next_is_called (plugs_after alters_sent alters_waiting middle.plugs)
        (sent_called alters_sent alters_waiting middle.plugs
        (touched_called (affected_by it.made) alters_step (restated (rows_now it.now it.link) it.link.plugs)
        (restated_called (rows_now it.now it.link) it.link.plugs is)))

    alters_held : held after ≡ Some alters_holding
    alters_held = ap (λ (l : Option RelationState). held l)
        (it.becomes ∙ ap (λ (l : Option RelationState). modules_changing it.now it.made it.diagnoses l) it.was)

  -- ---- any event

  module _ (link next : RelationState) (was : before ≡ Some link) (is : after ≡ Some next) where
    old_is : (l : RelationState) → before ≡ Some l → l ≡ link
    old_is l e = some_is l link (sym e ∙ was)

    new_is : (h : Holding) → held after ≡ Some h → h ≡ holding_of next
    new_is h e = some_is h (holding_of next) (sym e ∙ ap (λ (l : Option RelationState). held l) is)

    -- The calls stay for places that have ended, in a relation that goes on.
    pub called_on : AreCalled link.plugs → LinkGoes live heard before after → IsMade live heard after ⊎ AreCalled next.plugs
    called_on called goes = by_kind goes
      where
        at_link : (l : RelationState) → before ≡ Some l → AreCalled l.plugs
        at_link l e = subst (λ (m : RelationState). AreCalled m.plugs) (sym (old_is l e)) called

        to : (h : Holding) → held after ≡ Some h → AreCalled h.plugs → IsMade live heard after ⊎ AreCalled next.plugs
        to h e so = inr (subst (λ (other : Holding). AreCalled other.plugs) (new_is h e) so)

        by_kind : LinkGoes live heard before after → IsMade live heard after ⊎ AreCalled next.plugs
        by_kind (inl same) = to (holding_of link) (same ∙ ap (λ (l : Option RelationState). held l) was) called
        by_kind (inr (inl over)) = absurd (none_some (sym over ∙ is))
        by_kind (inr (inr (inl it))) = inl it
        by_kind (inr (inr (inr (inl it)))) = to _ it.becomes (later_called it.link (at_link it.link it.was))
        by_kind (inr (inr (inr (inr (inl it))))) =
            to _ it.becomes
            (next_is_called (readied it.slot it.subslot it.link.plugs) (readied_called it.slot it.subslot it.link.plugs (at_link it.link it.was)))
        by_kind (inr (inr (inr (inr (inr (inl it)))))) =
            to _ it.becomes (next_is_called (answered it.is_positive it.link.plugs) (answered_called it.is_positive it.link.plugs (at_link it.link it.was)))
        by_kind (inr (inr (inr (inr (inr (inr (inl it))))))) =
            to _ it.becomes (next_is_called (ended it.block.alarm_sequence_number it.is_ready it.link.plugs)
            (ended_called it.block.alarm_sequence_number it.is_ready it.link.plugs (at_link it.link it.was)))
        by_kind (inr (inr (inr (inr (inr (inr (inr (inl it)))))))) = to _ it.becomes (at_link it.link it.was)
        by_kind (inr (inr (inr (inr (inr (inr (inr (inr (inl it))))))))) =
            to (tells_holding it) (ap (λ (l : Option RelationState). held l) it.becomes)
            (sent_called (first_sent it.is_sent it.flow.low) it.flow.low.waiting it.middle.plugs
            (subst (λ (h : Holding). AreCalled h.plugs) (sym it.same) (at_link it.link it.was)))
        by_kind (inr (inr (inr (inr (inr (inr (inr (inr (inr it))))))))) = to (alters_holding it) (alters_held it) (alters_called it (at_link it.link it.was))

    -- What becomes of a place of it.
    pub place_on : AreCalled link.plugs → LinkGoes live heard before after → (slot subslot : ℕ) (step : Step)
        → step_at slot subslot link.plugs.places ≡ Some step
        → IsMade live heard after ⊎ PlaceGoes slot subslot live heard before after (holding_of link) (holding_of next)
    place_on called goes slot subslot step here = by_kind goes
      where
        at_link : (l : RelationState) → before ≡ Some l → AreCalled l.plugs
        at_link l e = subst (λ (m : RelationState). AreCalled m.plugs) (sym (old_is l e)) called

        here_at : (l : RelationState) → before ≡ Some l → step_at slot subslot l.plugs.places ≡ Some step
        here_at l e = ap (λ (m : RelationState). step_at slot subslot m.plugs.places) (old_is l e) ∙ here

        to : (l : RelationState) → before ≡ Some l → (h : Holding) → held after ≡ Some h → Becomes slot subslot (holding_of l) h
            → IsMade live heard after ⊎ PlaceGoes slot subslot live heard before after (holding_of link) (holding_of next)
        to l e h f so =
            inr (subst (λ (m : RelationState). Becomes slot subslot (holding_of m) (holding_of next)) (old_is l e)
            (subst (λ (other : Holding). Becomes slot subslot (holding_of l) other) (new_is h f) so))

        same_to : (l : RelationState) → before ≡ Some l → (plugs : PlugState) → held after ≡ Some (record { taken = l.taken; plugs = plugs })
            → plugs.places ≡ l.plugs.places
            → IsMade live heard after ⊎ PlaceGoes slot subslot live heard before after (holding_of link) (holding_of next)
        same_to l e plugs f same =
            to l e (record { taken = l.taken; plugs = plugs }) f
            (inl (record { step = ap (λ (places : List ExpectedPlace). step_at slot subslot places) same; taken = refl }))

        by_kind : LinkGoes live heard before after
            → IsMade live heard after ⊎ PlaceGoes slot subslot live heard before after (holding_of link) (holding_of next)
        by_kind (inl same) = same_to link was link.plugs (same ∙ ap (λ (l : Option RelationState). held l) was) refl
        by_kind (inr (inl over)) = absurd (none_some (sym over ∙ is))
        by_kind (inr (inr (inl it))) = inl it
        by_kind (inr (inr (inr (inl it)))) = same_to it.link it.was (plugs_later it.link) it.becomes (later_same it.link)
        by_kind (inr (inr (inr (inr (inl it))))) = same_to it.link it.was (next_called (readied it.slot it.subslot it.link.plugs)) it.becomes refl
        by_kind (inr (inr (inr (inr (inr (inl it)))))) = to it.link it.was _ it.becomes (answer_goes slot subslot it (at_link it.link it.was))
        by_kind (inr (inr (inr (inr (inr (inr (inl it))))))) = to it.link it.was _ it.becomes (end_goes slot subslot it (at_link it.link it.was))
        by_kind (inr (inr (inr (inr (inr (inr (inr (inl it)))))))) =
            to it.link it.was _ it.becomes (inr (inl (record { write = it; step = refl; taken = filter-append (is_at slot subslot) it.link.taken it.values })))
        by_kind (inr (inr (inr (inr (inr (inr (inr (inr (inl it))))))))) =
            to it.link it.was (tells_holding it) (ap (λ (l : Option RelationState). held l) it.becomes)
            (subst (λ (h : Holding). Becomes slot subslot h (tells_holding it)) it.same
            (tell_goes slot subslot it step (ap (λ (h : Holding). step_at slot subslot h.plugs.places) it.same ∙ here_at it.link it.was)))
        by_kind (inr (inr (inr (inr (inr (inr (inr (inr (inr it))))))))) =
            to it.link it.was (alters_holding it) (alters_held it) (alter_goes it slot subslot step (here_at it.link it.was))
