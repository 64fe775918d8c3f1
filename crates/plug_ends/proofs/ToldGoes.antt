-- A place of a relation over a step of its device: how far it is, which records were accepted there, and what is reported of it.
use Rattle.std.proofs.Common.{◌≡◌, ◌⊎◌, inl, inr, ◌==◌, ◌&&◌, ◌||◌, ◌++◌, ◌+◌, ◌%◌, ◌≤◌, ℕ, Bool, true, false, cond, List, [], ◌∷◌, length, Option, Some, None, option_map}
use Rattle.std.proofs.Common.{refl, sym, ap, subst, ◌∙◌, append-nil, arith}
use Rattle.std.specs.Prelude.{if◌then◌else◌}
use Rattle.std.specs.List.{list_any}
use Rattle.std.proofs.lemmas.Bool.{and_parts, eqb-true, false≢true, true≢false}
use Rattle.std.proofs.lemmas.List.{length-append}
use Rattle.pn_values.specs.declared.real.RealModule.{RealModule}
use Rattle.record_blocks.specs.declared.alarm_notification.AlarmNotification.{AlarmNotification}
use Rattle.rpc_core.specs.Cache.{Kept as Answer}
use Rattle.wire.specs.blocks.modules.Lists.{Listed}
use Rattle.connect_blocks.specs.declared.module_diff.DiffModule.{DiffModule}
use Rattle.connect_blocks.specs.declared.module_diff.DiffSubmodule.{DiffSubmodule}
use Rattle.module_diff.specs.declared.changes.Affected.{Affected}
use Rattle.module_diff.specs.declared.changes.ChangeKind.{ChangeKind}
use Rattle.module_diff.specs.declared.changes.ChangeKind.TheVariants as made_is
use Rattle.module_diff.specs.Changes.{affected_by, covers}
use Rattle.module_diff.specs.Diff.{is_listed}
use Rattle.module_diff.specs.Plugged.{module_ident, submodule_ident}
use Rattle.diagnosis.specs.declared.diagnosis.Diagnosis.{Diagnosis}
use Rattle.diagnosis.specs.declared.queue.QueuedAlarm.{QueuedAlarm}
use Rattle.diagnosis.specs.Queue.{after_next, alarm_of, alarmed, is_next, module_queued}
use Rattle.pn_alarms.specs.declared.message.Notice.TheVariants as notice
use Rattle.expected_places.specs.declared.place.ExpectedPlace.{ExpectedPlace}
use Rattle.expected_places.specs.declared.place.Step.{Step}
use Rattle.expected_places.specs.declared.place.Step.TheVariants.{Settled, Pulled, Plugged, Told, Ended, Refused}
use Rattle.expected_places.specs.Machine.{PlugState, is_hit}
use Rattle.expected_places.specs.Places.{is_for, place_at, places_restated}
use Rattle.relations.specs.exchange.Diagnosis.{begins_with_one, diagnosed, diagnoses_begun, is_diagnosed, next_reported}
use Rattle.relations.specs.exchange.Flow.{Flow}
use Rattle.relations.specs.Diagnosed.{diagnosing}
use Rattle.relations.specs.Phases.{exchanging_from, updated, with_flow}
use Rattle.relations.specs.Plugging.{asks, first_sent, places_then, reported_as, rows_now, step_by}
use Rattle.relations.specs.RelationState.{RelationState}
use Rattle.relations.specs.Timers.{unit_later}
use Rattle.device_frames.specs.Heard.{Heard}
use Rattle.device_frames.specs.Sent.{Sent}
use Rattle.device_core.specs.State.{Live}
use Rattle.end_laws.specs.device.Orderly.{keys_of}
use Rattle.end_laws.specs.device.Turn.{Makes, heard_low_in}
use Rattle.both_ends.specs.exchange.Over.{reported_by}
use Rattle.both_ends.specs.exchange.Sized.{NoneIsAtZero}
use Rattle.both_ends.proofs.ExchangeKeys.{KeysSo}
use Rattle.both_ends.proofs.ExchangeLowTied.{ack_last}
use Rattle.both_ends.proofs.ExchangeStated.{later_keys}
use Rattle.both_ends.proofs.ExchangeTied.{may_be}
use Rattle.both_ends.proofs.ExchangeTurns.{IsSameOr, IsTurn, Way, way_of}
use Rattle.plug_ends.specs.Places.{step_at, step_in, taken_at}
use Rattle.plug_ends.specs.Told.{AreNumberedFrom, IsPlugAt, LastPlug, concerns_any}
use Rattle.plug_ends.proofs.DeviceGoes.{Alters, IsMade, LinkGoes, Tells, end_last, end_specifier, holding_of}
use Rattle.plug_ends.proofs.DevicePlaces.{AreCalled, beside_at, covered_at, restated_at}
use Rattle.plug_ends.proofs.DeviceTurns.{AnswersAt, EndsAt, IsSameAt, PlaceGoes, TakesAt, called_on, place_on}
use Rattle.plug_ends.proofs.ToldPlaces.{Becomes, HasTold, IsKept, Outcome, has_told_more, outcome_told}
use Rattle.plug_ends.proofs.ToldQueue.{IsPlugQueued, IsReached, Waits, numbered_more, or_none, plug_queued, reached_so, specifier_is, touches, waits_more}
use Rattle.plug_ends.proofs.ToldSends.{IsSending, Says, SendsChange, SendsMore, alters_send, place_so, says_so, silent_by, tells_send}

some_is : {A : Type 0} (x y : A) → Some x ≡ Some y → x ≡ y
some_is x y e = cc

none_some : {A : Type 0} {x : A} → ◌≡◌ {A = Option A} None (Some x) → ⊥
none_some e = absurd cc

-- ---- a place of a relation

-- What waits for it, and what was reported of it, by how far it is; that each call ApplicationReady is for a place that has ended; and
-- the number of the next alarm, where these were reported.
pub record ToldAt (slot subslot : ℕ) (raised : List AlarmNotification) (link : RelationState) : Type 0 where
  pub called : AreCalled link.plugs
  pub specifier : link.flow.low.alarms.sender.specifier ≡ length raised % 2048
  pub waits : (step : Step) → step_in slot subslot link ≡ Some step → Waits slot subslot step link.flow.low.waiting
  pub told : (step : Step) → step_in slot subslot link ≡ Some step → HasTold slot subslot step raised

module _ (slot subslot : ℕ) (live : Live) (heard : Heard) (before after : Option RelationState) (raised now : List AlarmNotification) where
  -- It is as far as before, with the same records, and nothing is reported of it.
  pub record IsKeptAt : Type 0 where
    pub link : RelationState
    pub next : RelationState
    pub was : before ≡ Some link
    pub is : after ≡ Some next
    pub step : step_in slot subslot next ≡ step_in slot subslot link
    pub since : taken_at slot subslot next.taken ≡ taken_at slot subslot link.taken
    pub quiet : concerns_any slot subslot now ≡ false

  -- Something was pulled or plugged there, and it is not reported yet as a plug.
  pub record IsTouchedAt : Type 0 where
    pub link : RelationState
    pub next : RelationState
    pub was : before ≡ Some link
    pub is : after ≡ Some next
    pub step : (step_in slot subslot next ≡ Some Pulled) ⊎ (step_in slot subslot next ≡ Some Plugged)

  -- The alarm of its plug is sent, and its records are forgotten.
  pub record IsToldNow : Type 0 where
    pub link : RelationState
    pub next : RelationState
    pub was : before ≡ Some link
    pub is : after ≡ Some next
    pub number : ℕ
    pub alarm : AlarmNotification
    pub count : number ≡ length raised
    pub told : now ≡ alarm ∷ []
    pub plug : IsPlugAt slot subslot alarm
    pub step : step_in slot subslot next ≡ Some (Told number)
    pub since : taken_at slot subslot next.taken ≡ []

  -- The parameters of its plug end.
  pub record IsEndedNow : Type 0 where
    pub link : RelationState
    pub next : RelationState
    pub was : before ≡ Some link
    pub is : after ≡ Some next
    pub it : EndsAt slot subslot live heard before after (holding_of link) (holding_of next)
    pub silent : now ≡ []

  -- The ApplicationReady of its plug is answered.
  pub record IsAnsweredNow : Type 0 where
    pub link : RelationState
    pub next : RelationState
    pub was : before ≡ Some link
    pub is : after ≡ Some next
    pub it : AnswersAt slot subslot heard before after (holding_of link) (holding_of next)
    pub silent : now ≡ []

  -- A Write is accepted.
  pub record IsTakenNow : Type 0 where
    pub link : RelationState
    pub next : RelationState
    pub was : before ≡ Some link
    pub is : after ≡ Some next
    pub it : TakesAt slot subslot live heard before after (holding_of link) (holding_of next)
    pub silent : now ≡ []

  -- The relation has no such place.
  pub record IsAbsentAt : Type 0 where
    pub link : RelationState
    pub next : RelationState
    pub was : before ≡ Some link
    pub is : after ≡ Some next
    pub before_it : step_in slot subslot link ≡ None
    pub step : step_in slot subslot next ≡ None

  -- The first relation begins.
  pub record IsBegunNow : Type 0 where
    pub next : RelationState
    pub was : before ≡ None
    pub is : after ≡ Some next
    pub empty : raised ≡ []
    pub silent : now ≡ []
    pub step : (step : Step) → step_in slot subslot next ≡ Some step → step ≡ Settled
    pub taken : next.taken ≡ []

  -- No relation exists then.
  pub record IsGoneNow : Type 0 where
    pub over : after ≡ None
    pub silent : now ≡ []

  abbrev pub Goes : Type 0
  Goes = IsKeptAt ⊎ (IsTouchedAt ⊎ (IsToldNow ⊎ (IsEndedNow ⊎ (IsAnsweredNow ⊎ (IsTakenNow ⊎ (IsAbsentAt ⊎ (IsBegunNow ⊎ IsGoneNow)))))))

-- ---- a place that is not one

absent_by : (slot subslot : ℕ) (one other : List ExpectedPlace) → keys_of other ≡ keys_of one → step_at slot subslot one ≡ None → step_at slot subslot other ≡ None
absent_by slot subslot [] [] e none = refl
absent_by slot subslot [] (place ∷ other) e none = absurd cc
absent_by slot subslot (place ∷ one) [] e none = absurd cc
absent_by slot subslot (first ∷ one) (second ∷ other) e none =
    by_for (is_for slot subslot second) (is_for slot subslot first)
    (ap (λ (key : ℕ × ℕ). key.0 == slot && key.1 == subslot) (head_key (second.slot, second.subslot) (first.slot, first.subslot) (keys_of other) (keys_of one) e))
    (λ f. absent_by slot subslot one other (tail_keys (second.slot, second.subslot) (first.slot, first.subslot) (keys_of other) (keys_of one) e) f) none
  where
    head_key : (x y : ℕ × ℕ) (xs ys : List (ℕ × ℕ)) → x ∷ xs ≡ y ∷ ys → x ≡ y
    head_key x y xs ys f = cc

    tail_keys : (x y : ℕ × ℕ) (xs ys : List (ℕ × ℕ)) → x ∷ xs ≡ y ∷ ys → xs ≡ ys
    tail_keys x y xs ys f = cc

    by_for : (b c : Bool) → b ≡ c → (step_at slot subslot one ≡ None → step_at slot subslot other ≡ None)
        → option_map (λ (p : ExpectedPlace). p.step) (cond c (Some first) (place_at slot subslot one)) ≡ None
        → option_map (λ (p : ExpectedPlace). p.step) (cond b (Some second) (place_at slot subslot other)) ≡ None
    by_for true true f rest g = absurd cc
    by_for true false f rest g = absurd (true≢false f)
    by_for false true f rest g = absurd (false≢true f)
    by_for false false f rest g = rest g

-- ---- a place that is hit

hit_there : (affected : Affected) (slot subslot : ℕ) (places : List ExpectedPlace) (step : Step) → covers affected slot subslot ≡ true
    → step_at slot subslot places ≡ Some step → list_any (λ (place : ExpectedPlace). covers affected place.slot place.subslot) places ≡ true
hit_there affected slot subslot [] step covered here = absurd (none_some here)
hit_there affected slot subslot (place ∷ places) step covered here =
    by_for (is_for slot subslot place) refl (λ f. hit_there affected slot subslot places step covered f) here
  where
    by_or : (b : Bool) → list_any (λ (p : ExpectedPlace). covers affected p.slot p.subslot) places ≡ true
        → (b || list_any (λ (p : ExpectedPlace). covers affected p.slot p.subslot) places) ≡ true
    by_or true rest = refl
    by_or false rest = rest

    by_for : (b : Bool) → is_for slot subslot place ≡ b
        → (step_at slot subslot places ≡ Some step → list_any (λ (p : ExpectedPlace). covers affected p.slot p.subslot) places ≡ true)
        → option_map (λ (p : ExpectedPlace). p.step) (cond b (Some place) (place_at slot subslot places)) ≡ Some step
        → (covers affected place.slot place.subslot || list_any (λ (p : ExpectedPlace). covers affected p.slot p.subslot) places) ≡ true
    by_for true e rest f =
        let at = and_parts (place.slot == slot) (place.subslot == subslot) e in
        ap (λ (b : Bool). b || list_any (λ (p : ExpectedPlace). covers affected p.slot p.subslot) places)
        (ap (λ (n : ℕ). covers affected n place.subslot) (eqb-true place.slot slot at.0)
        ∙ (ap (λ (n : ℕ). covers affected slot n) (eqb-true place.subslot subslot at.1) ∙ covered))
    by_for false e rest f = by_or (covers affected place.slot place.subslot) (rest f)

-- ---- the alarms of low priority stay, but for their time

pub record IsLowKept (link next : RelationState) : Type 0 where
  pub waits : next.flow.low.waiting ≡ link.flow.low.waiting
  pub last : next.flow.low.alarms.sender.sending.last ≡ link.flow.low.alarms.sender.sending.last
  pub specifier : next.flow.low.alarms.sender.specifier ≡ link.flow.low.alarms.sender.specifier
  pub keys : keys_of next.plugs.places ≡ keys_of link.plugs.places

-- ---- a step

-- What it makes of a place of the relation, and of what was reported.
pub record IsStepOf (slot subslot : ℕ) (live : Live) (heard : Heard) (before after : Option RelationState) (raised now : List AlarmNotification) (next : RelationState) : Type 0 where
  pub told : ToldAt slot subslot (raised ++ now) next
  pub goes : Goes slot subslot live heard before after raised now
  pub numbers : AreNumberedFrom 0 (raised ++ now)

none_before : (n : ℕ) → n ≡ 0 + n
none_before n = omega arith

-- As far as before, or touched.
abbrev Via : Step → Step → Type 0
Via step middle = (middle ≡ step) ⊎ ((middle ≡ Pulled) ⊎ (middle ≡ Plugged))

module _ (live : Live) (heard : Heard) (before after : Option RelationState) (link next : RelationState) (was : before ≡ Some link) (is : after ≡ Some next)
    (raised now : List AlarmNotification) (few : length (raised ++ now) ≤ 2048) (numbers : AreNumberedFrom 0 raised) (says : Says link next now)
    (called : AreCalled next.plugs) (slot subslot : ℕ) (told : ToldAt slot subslot raised link) where
  abbrev number : ℕ
  number = link.flow.low.alarms.sender.specifier

  -- the number of the alarm that is reported now
  count_by : (alarm : AlarmNotification) → now ≡ alarm ∷ [] → length raised ≡ number
  count_by alarm e =
      let long = length-append raised (alarm ∷ []) in
      let most : length (raised ++ alarm ∷ []) ≤ 2048 = subst (λ (xs : List AlarmNotification). length (raised ++ xs) ≤ 2048) e few in
      let same = told.specifier in
      omega (arith, long, most, same)

  -- the number of the next one
  specifier_by : Says link next now → next.flow.low.alarms.sender.specifier ≡ length (raised ++ now) % 2048
  specifier_by (inl it) =
      it.1 ∙ (told.specifier ∙ ap (λ (xs : List AlarmNotification). length xs % 2048) (sym (ap (λ (xs : List AlarmNotification). raised ++ xs) it.0 ∙ append-nil raised)))
  specifier_by (inr it) = it.2 ∙ (longer (alarm_of number it.0) ∙ ap (λ (xs : List AlarmNotification). length (raised ++ xs) % 2048) (sym it.1))
    where
      longer : (alarm : AlarmNotification) → (number + 1) % 2048 ≡ length (raised ++ alarm ∷ []) % 2048
      longer alarm =
          let long = length-append raised (alarm ∷ []) in
          let same = told.specifier in
          omega (arith, long, same)

  numbers_by : Says link next now → AreNumberedFrom 0 (raised ++ now)
  numbers_by (inl it) =
      subst (λ (xs : List AlarmNotification). AreNumberedFrom 0 (raised ++ xs)) (sym it.0) (subst (λ (xs : List AlarmNotification). AreNumberedFrom 0 xs) (sym (append-nil raised)) numbers)
  numbers_by (inr it) =
      subst (λ (xs : List AlarmNotification). AreNumberedFrom 0 (raised ++ xs)) (sym it.1)
      (numbered_more 0 raised (alarm_of number it.0) numbers (specifier_is number (length raised) it.0 told.specifier ∙ ap (λ (n : ℕ). n % 0x800) (none_before (length raised))))

  abbrev To : Type 0
  To = IsStepOf slot subslot live heard before after raised now next

  -- a place that is this far then
  to_step : (step : Step) → step_in slot subslot next ≡ Some step → Waits slot subslot step next.flow.low.waiting → HasTold slot subslot step (raised ++ now)
      → Goes slot subslot live heard before after raised now → To
  to_step step there waits has goes = record {
    told = record {
      called = called;
      specifier = specifier_by says;
      waits = λ other e. subst (λ (s : Step). Waits slot subslot s next.flow.low.waiting) (some_is step other (sym there ∙ e)) waits;
      told = λ other e. subst (λ (s : Step). HasTold slot subslot s (raised ++ now)) (some_is step other (sym there ∙ e)) has;
    };
    goes = goes;
    numbers = numbers_by says;
  }

  -- a place that is not one of the relation
  to_none : keys_of next.plugs.places ≡ keys_of link.plugs.places → step_in slot subslot link ≡ None → To
  to_none keys absent =
      let there = absent_by slot subslot link.plugs.places next.plugs.places keys absent in
      record {
        told = record {
          called = called;
          specifier = specifier_by says;
          waits = λ step e. absurd (none_some (sym there ∙ e));
          told = λ step e. absurd (none_some (sym there ∙ e));
        };
        goes = inr (inr (inr (inr (inr (inr (inl (record { link = link; next = next; was = was; is = is; before_it = absent; step = there })))))));
        numbers = numbers_by says;
      }

  -- a place that is so far in between
  to_from : (step middle : Step) → step_in slot subslot link ≡ Some step → Via step middle
      → Becomes slot subslot number (Some middle) (step_in slot subslot next) (taken_at slot subslot link.taken) (taken_at slot subslot next.taken) now next.flow.low.waiting
      → To
  to_from step middle here via becomes = record {
    told = record {
      called = called;
      specifier = specifier_by says;
      waits = becomes.waits;
      told = outcome_told slot subslot number middle (step_in slot subslot next) (taken_at slot subslot link.taken) (taken_at slot subslot next.taken) raised now
          (has via) count_by becomes.outcome;
    };
    goes = by_outcome becomes.outcome;
    numbers = numbers_by says;
  }
    where
      has : Via step middle → HasTold slot subslot middle raised
      has (inl same) = subst (λ (s : Step). HasTold slot subslot s raised) (sym same) (told.told step here)
      has (inr (inl pulled)) = subst (λ (s : Step). HasTold slot subslot s raised) (sym pulled) tt
      has (inr (inr plugged)) = subst (λ (s : Step). HasTold slot subslot s raised) (sym plugged) tt

      touched : (step_in slot subslot next ≡ Some Pulled) ⊎ (step_in slot subslot next ≡ Some Plugged) → Goes slot subslot live heard before after raised now
      touched it = inr (inl (record { link = link; next = next; was = was; is = is; step = it }))

      by_via : Via step middle → IsKept slot subslot (Some middle) (step_in slot subslot next) (taken_at slot subslot link.taken) (taken_at slot subslot next.taken) now
          → Goes slot subslot live heard before after raised now
      by_via (inl same) kept = inl (record {
        link = link;
        next = next;
        was = was;
        is = is;
        step = kept.step_is ∙ (ap (λ (s : Step). Some s) same ∙ sym here);
        since = kept.since_is;
        quiet = kept.quiet;
      })
      by_via (inr (inl pulled)) kept = touched (inl (kept.step_is ∙ ap (λ (s : Step). Some s) pulled))
      by_via (inr (inr plugged)) kept = touched (inr (kept.step_is ∙ ap (λ (s : Step). Some s) plugged))

      by_outcome : Outcome slot subslot number (Some middle) (step_in slot subslot next) (taken_at slot subslot link.taken) (taken_at slot subslot next.taken) now
          → Goes slot subslot live heard before after raised now
      by_outcome (inl kept) = by_via via kept
      by_outcome (inr (inl it)) = touched it
      by_outcome (inr (inr it)) = inr (inr (inl (record {
        link = link;
        next = next;
        was = was;
        is = is;
        number = number;
        alarm = it.alarm;
        count = sym (count_by it.alarm it.told);
        told = it.told;
        plug = it.plug;
        step = it.step_is;
        since = it.since_is;
      })))

  -- ---- nothing of the alarms of low priority changes

  module _ (kept : IsLowKept link next) (silent : now ≡ []) where
    quiet_now : concerns_any slot subslot now ≡ false
    quiet_now = ap (λ (xs : List AlarmNotification). concerns_any slot subslot xs) silent

    waits_now : (step : Step) → step_in slot subslot link ≡ Some step → Waits slot subslot step next.flow.low.waiting
    waits_now step here = subst (λ (ws : List QueuedAlarm). Waits slot subslot step ws) (sym kept.waits) (told.waits step here)

    has_now : (step : Step) → HasTold slot subslot step raised → HasTold slot subslot step (raised ++ now)
    has_now step has = has_told_more slot subslot step raised now quiet_now has

    same_to : (step : Step) → step_in slot subslot link ≡ Some step → IsSameAt slot subslot (holding_of link) (holding_of next) → To
    same_to step here it =
        to_step step (it.step ∙ here) (waits_now step here) (has_now step (told.told step here))
        (inl (record { link = link; next = next; was = was; is = is; step = it.step; since = it.taken; quiet = quiet_now }))

    takes_to : (step : Step) → step_in slot subslot link ≡ Some step → TakesAt slot subslot live heard before after (holding_of link) (holding_of next) → To
    takes_to step here it =
        to_step step (it.step ∙ here) (waits_now step here) (has_now step (told.told step here))
        (inr (inr (inr (inr (inr (inl (record { link = link; next = next; was = was; is = is; it = it; silent = silent })))))))

    ends_to : EndsAt slot subslot live heard before after (holding_of link) (holding_of next) → To
    ends_to it =
        let ended = it.end.block.alarm_sequence_number in
        to_step (Ended ended) it.now (waits_now (Told ended) it.was) (has_now (Ended ended) (told.told (Told ended) it.was))
        (inr (inr (inr (inl (record { link = link; next = next; was = was; is = is; it = it; silent = silent })))))

    answers_to : AnswersAt slot subslot heard before after (holding_of link) (holding_of next) → To
    answers_to it = by_positive it.answer.is_positive it.now
      where
        goes : Goes slot subslot live heard before after raised now
        goes = inr (inr (inr (inr (inl (record { link = link; next = next; was = was; is = is; it = it; silent = silent })))))

        last : LastPlug slot subslot it.call.number (raised ++ now)
        last = has_now (Ended it.call.number) (told.told (Ended it.call.number) it.was)

        by_positive : (b : Bool) → step_in slot subslot next ≡ Some (if b then Settled else Refused) → To
        by_positive true there = to_step Settled there (waits_now (Ended it.call.number) it.was) (λ some. (it.call.number, last)) goes
        by_positive false there = to_step Refused there (waits_now (Ended it.call.number) it.was) (it.call.number, last) goes

-- ---- an alarm may be sent

module _ (laws : KeysSo) (live : Live) (heard : Heard) (before after : Option RelationState) (next : RelationState) (is : after ≡ Some next)
    (raised : List AlarmNotification) (none : NoneIsAtZero live.rest.real.modules.items) (few : length (raised ++ reported_by before after) ≤ 2048)
    (numbers : AreNumberedFrom 0 raised) (called : AreCalled next.plugs) (slot subslot : ℕ) where
  abbrev Then : Type 0
  Then = IsStepOf slot subslot live heard before after raised (reported_by before after) next

  keys_so : (link : RelationState) (middle : PlugState) (waiting : List QueuedAlarm) → IsSending link next middle waiting → keys_of next.plugs.places ≡ keys_of middle.places
  keys_so link middle waiting (inl it) = ap (λ (places : List ExpectedPlace). keys_of places) it.places_is
  keys_so link middle waiting (inr it) =
      ap (λ (places : List ExpectedPlace). keys_of places) it.places_is
      ∙ laws.sent (first_sent (is_next it.low) (after_next it.low)) (after_next it.low).waiting middle

  tells_to : (it : Tells before after) → ToldAt slot subslot raised it.link → Then
  tells_to it told = by_step (step_in slot subslot it.link) refl
    where
      sends : SendsMore it.link next
      sends = tells_send before after next it is

      says : Says it.link next (reported_by before after)
      says = says_so before after it.link next it.was is it.link.plugs (it.link.flow.low.waiting ++ sends.more) sends.sending

      by_step : (o : Option Step) → step_in slot subslot it.link ≡ o → Then
      by_step None e =
          to_none live heard before after it.link next it.was is raised (reported_by before after) few numbers says called slot subslot told
          (keys_so it.link it.link.plugs (it.link.flow.low.waiting ++ sends.more) sends.sending) e
      by_step (Some step) e =
          to_from live heard before after it.link next it.was is raised (reported_by before after) few numbers says called slot subslot told step step e (inl refl)
          (place_so before after it.link next it.was is it.link.plugs (it.link.flow.low.waiting ++ sends.more) sends.sending slot subslot step e
          (waits_more slot subslot step it.link.flow.low.waiting sends.more (sends.quiet slot subslot) (told.waits step e)))

  module _ (it : Alters live heard before after) (told : ToldAt slot subslot raised it.link) where
    abbrev rows : Listed DiffModule DiffSubmodule
    rows = rows_now it.now it.link

    abbrev middle : PlugState
    middle = places_then rows it.made it.link

    abbrev listed : Bool
    listed = is_listed it.made.slot it.made.subslot rows

    sends : SendsChange live heard before after it next
    sends = alters_send laws live heard before after it next is

    reached : IsReached it.made
    reached = reached_so live.rest.real.modules.items it.now heard it.made none it.is it.modules

    abbrev one : (ℕ → ℕ → Bool) → QueuedAlarm
    one has = module_queued has (reported_as it.link.request rows it.made) it.made it.diagnoses

    restated_here : (step : Step) → step_in slot subslot it.link ≡ Some step → step_at slot subslot (places_restated rows it.link.plugs.places) ≡ Some step
    restated_here step e = restated_at rows it.link.plugs.places slot subslot ∙ e

    -- the place is affected
    covered_here : (step : Step) → step_in slot subslot it.link ≡ Some step → covers (affected_by it.made) slot subslot ≡ true
        → step_at slot subslot middle.places ≡ Some (step_by it.made.kind listed)
    covered_here step e covered =
        covered_at (affected_by it.made) (step_by it.made.kind listed) step (places_restated rows it.link.plugs.places) slot subslot covered (restated_here step e)

    -- it is not
    beside_here : (step : Step) → step_in slot subslot it.link ≡ Some step → covers (affected_by it.made) slot subslot ≡ false → step_at slot subslot middle.places ≡ Some step
    beside_here step e apart =
        beside_at (affected_by it.made) (step_by it.made.kind listed) (places_restated rows it.link.plugs.places) slot subslot apart ∙ restated_here step e

    to_place : (waiting : List QueuedAlarm) → IsSending it.link next middle waiting → (step between : Step) → step_in slot subslot it.link ≡ Some step → Via step between
        → step_at slot subslot middle.places ≡ Some between → Waits slot subslot between waiting → Then
    to_place waiting sending step between e via there waits =
        to_from live heard before after it.link next it.was is raised (reported_by before after) few numbers
        (says_so before after it.link next it.was is middle waiting sending) called slot subslot told step between e via
        (place_so before after it.link next it.was is middle waiting sending slot subslot between there waits)

    to_absent : (waiting : List QueuedAlarm) → IsSending it.link next middle waiting → step_in slot subslot it.link ≡ None → Then
    to_absent waiting sending e =
        to_none live heard before after it.link next it.was is raised (reported_by before after) few numbers
        (says_so before after it.link next it.was is middle waiting sending) called slot subslot told
        (keys_so it.link middle waiting sending ∙ laws.changed rows it.made it.link.plugs) e

    new_via : (step : Step) (kind : ChangeKind) (differs : Bool) → Via step (step_by kind differs)
    new_via step made_is.Pull differs = inr (inl refl)
    new_via step made_is.PullModule differs = inr (inl refl)
    new_via step made_is.Plug true = inr (inl refl)
    new_via step made_is.Plug false = inr (inr refl)

    new_waits : (has : ℕ → ℕ → Bool) → covers (affected_by it.made) slot subslot ≡ true → (kind : ChangeKind) → it.made.kind ≡ kind → (differs : Bool) → listed ≡ differs
        → Waits slot subslot (step_by kind differs) (it.link.flow.low.waiting ++ one has ∷ [])
    new_waits has covered made_is.Pull k differs d = tt
    new_waits has covered made_is.PullModule k differs d = tt
    new_waits has covered made_is.Plug k true d = tt
    new_waits has covered made_is.Plug k false d = record {
      front = it.link.flow.low.waiting;
      queued = one has;
      rest = [];
      are = refl;
      plug = subst (λ (b : Bool). IsPlugQueued slot subslot (module_queued has (alarmed it.made (asks it.link.request) b) it.made it.diagnoses)) (sym d)
          (plug_queued it.made (asks it.link.request) has it.diagnoses slot subslot k covered);
      none = refl;
    }

    -- it affects no place of the relation
    unhit_to : is_hit (affected_by it.made) middle ≡ false → IsSending it.link next middle it.link.flow.low.waiting → (step : Step) → step_in slot subslot it.link ≡ Some step
        → (b : Bool) → covers (affected_by it.made) slot subslot ≡ b → Then
    unhit_to unhit sending step e true covered =
        absurd (true≢false (sym (hit_there (affected_by it.made) slot subslot middle.places (step_by it.made.kind listed) covered (covered_here step e covered)) ∙ unhit))
    unhit_to unhit sending step e false apart = to_place it.link.flow.low.waiting sending step step e (inl refl) (beside_here step e apart) (told.waits step e)

    -- it waits
    hit_to : (has : ℕ → ℕ → Bool) → IsSending it.link next middle (it.link.flow.low.waiting ++ one has ∷ []) → (step : Step) → step_in slot subslot it.link ≡ Some step
        → (b : Bool) → covers (affected_by it.made) slot subslot ≡ b → Then
    hit_to has sending step e true covered =
        to_place (it.link.flow.low.waiting ++ one has ∷ []) sending step (step_by it.made.kind listed) e (new_via step it.made.kind listed) (covered_here step e covered)
        (new_waits has covered it.made.kind refl listed refl)
    hit_to has sending step e false apart =
        to_place (it.link.flow.low.waiting ++ one has ∷ []) sending step step e (inl refl) (beside_here step e apart)
        (waits_more slot subslot step it.link.flow.low.waiting (one has ∷ [])
        (or_none (touches slot subslot (one has)) false (reached.apart has (asks it.link.request) listed it.diagnoses slot subslot apart) refl) (told.waits step e))

    by_sending : (o : Option Step) → step_in slot subslot it.link ≡ o → (has : ℕ → ℕ → Bool)
        → ((is_hit (affected_by it.made) middle ≡ false) × IsSending it.link next middle it.link.flow.low.waiting)
        ⊎ IsSending it.link next middle (it.link.flow.low.waiting ++ one has ∷ []) → Then
    by_sending None e has (inl it_none) = to_absent it.link.flow.low.waiting it_none.1 e
    by_sending None e has (inr sending) = to_absent (it.link.flow.low.waiting ++ one has ∷ []) sending e
    by_sending (Some step) e has (inl it_none) = unhit_to it_none.0 it_none.1 step e (covers (affected_by it.made) slot subslot) refl
    by_sending (Some step) e has (inr sending) = hit_to has sending step e (covers (affected_by it.made) slot subslot) refl

    alters_to : Then
    alters_to = by_sending (step_in slot subslot it.link) refl sends.has sends.sending

-- ---- the kinds of turns

-- The alarms of low priority stay, or the next one is sent, if it can be, perhaps after a pull or a plug.
abbrev pub LowGoes : Live → Heard → Option RelationState → Option RelationState → RelationState → RelationState → Type 0
LowGoes live heard before after link next = IsLowKept link next ⊎ (Tells before after ⊎ Alters live heard before after)

module _ (live : Live) (heard : Heard) (before after : Option RelationState) (link next : RelationState) (was : before ≡ Some link) (is : after ≡ Some next)
    (now : List RealModule) (calls : List Answer) (diagnoses later : List Diagnosis) (sent : List Sent) where
  kept_as : (l n : RelationState) → before ≡ Some l → after ≡ Some n → IsLowKept l n → LowGoes live heard before after link next
  kept_as l n e f kept =
      inl (subst (λ (k : RelationState). IsLowKept k next) (some_is l link (sym e ∙ was)) (subst (λ (k : RelationState). IsLowKept l k) (some_is n next (sym f ∙ is)) kept))

  stays_so : IsSameOr before after → LowGoes live heard before after link next
  stays_so (inl same) =
      let way : way_of next ≡ way_of link =
      some_is (way_of next) (way_of link) (sym (ap (λ (l : Option RelationState). option_map way_of l) is) ∙ (same ∙ ap (λ (l : Option RelationState). option_map way_of l) was)) in
      inl (record {
        waits = ap (λ (w : Way). w.low.waiting) way;
        last = ap (λ (w : Way). w.low.alarms.sender.sending.last) way;
        specifier = ap (λ (w : Way). w.low.alarms.sender.specifier) way;
        keys = ap (λ (w : Way). w.keys) way;
      })
  stays_so (inr gone) = absurd (none_some (sym gone ∙ is))

  pub low_goes : (Makes calls before heard after sent → ⊥) → IsTurn live.rest.real.modules.items now calls diagnoses later before heard after sent
      → LowGoes live heard before after link next
  low_goes unmade (inl stays) = stays_so stays.link
  low_goes unmade (inr (inl makes)) = absurd (unmade makes)
  low_goes unmade (inr (inr (inl raises))) =
      let real = live.rest.real.modules.items in
      let may = may_be raises.link.flow raises.slot raises.subslot raises.octets (module_ident real raises.slot) (submodule_ident real raises.slot raises.subslot) raises.flow raises.raised in
      kept_as raises.link (with_flow raises.flow raises.link) raises.was raises.becomes (record {
        waits = ap (λ (f : Flow). f.low.waiting) may.is;
        last = ap (λ (f : Flow). f.low.alarms.sender.sending.last) may.is;
        specifier = ap (λ (f : Flow). f.low.alarms.sender.specifier) may.is;
        keys = refl;
      })
  low_goes unmade (inr (inr (inr (inl acked)))) = kept_as acked.link _ acked.was acked.becomes (record { waits = refl; last = refl; specifier = refl; keys = refl })
  low_goes unmade (inr (inr (inr (inr (inl came))))) = kept_as came.link _ came.was came.becomes (record { waits = refl; last = refl; specifier = refl; keys = refl })
  low_goes unmade (inr (inr (inr (inr (inr (inl passes)))))) =
      kept_as passes.link (unit_later passes.link) passes.was passes.becomes (record { waits = refl; last = refl; specifier = refl; keys = later_keys passes.link })
  low_goes unmade (inr (inr (inr (inr (inr (inr (inl acked))))))) =
      kept_as acked.link _ acked.was acked.becomes
      (record { waits = refl; last = ack_last acked.link.flow.low.alarms acked.number; specifier = refl; keys = refl })
  low_goes unmade (inr (inr (inr (inr (inr (inr (inr (inl came)))))))) =
      let middle = heard_low_in came.link (notice.Data came.number came.ack) in
      inr (inl (record {
        link = came.link;
        was = came.was;
        middle = middle;
        same = refl;
        waiting = refl;
        last = end_last came.link.flow.low.alarms (notice.Data came.number came.ack);
        specifier = end_specifier came.link.flow.low.alarms (notice.Data came.number came.ack);
        is_sent = is_next middle.flow.low;
        flow = next_reported middle.flow;
        telling = inl (refl, refl);
        becomes = came.becomes;
      }))
  low_goes unmade (inr (inr (inr (inr (inr (inr (inr (inr (inl begins))))))))) =
      let middle = exchanging_from begins.link in
      inr (inl (record {
        link = begins.link;
        was = begins.was;
        middle = middle;
        same = refl;
        waiting = refl;
        last = refl;
        specifier = refl;
        is_sent = begins_with_one live.rest.real.modules.items diagnoses middle.flow;
        flow = diagnoses_begun live.rest.real.modules.items diagnoses middle.flow;
        telling = inr (inl (live.rest.real.modules.items, diagnoses, refl, refl));
        becomes = begins.becomes;
      }))
  low_goes unmade (inr (inr (inr (inr (inr (inr (inr (inr (inr (inl changes)))))))))) =
      inr (inl (record {
        link = link;
        was = was;
        middle = link;
        same = refl;
        waiting = refl;
        last = refl;
        specifier = refl;
        is_sent = is_diagnosed live.rest.real.modules.items changes.change later link.flow;
        flow = diagnosed live.rest.real.modules.items changes.change later link.flow;
        telling = inr (inr (live.rest.real.modules.items, changes.change, later, refl, refl));
        becomes = changes.becomes
            ∙ ap (λ (l : Option RelationState). updated (diagnosing live.rest.real.modules.items changes.change later l) l) was;
      }))
  low_goes unmade (inr (inr (inr (inr (inr (inr (inr (inr (inr (inr changes)))))))))) =
      inr (inr (record {
        link = link;
        was = was;
        made = changes.made;
        is = changes.is;
        now = now;
        modules = changes.modules;
        open_room = changes.open_room;
        diagnoses = later;
        becomes = changes.becomes;
      }))

-- ---- any step of a relation that goes on

module _ (laws : KeysSo) (live : Live) (heard : Heard) (before after : Option RelationState) (link next : RelationState) (was : before ≡ Some link) (is : after ≡ Some next)
    (raised : List AlarmNotification) (none : NoneIsAtZero live.rest.real.modules.items) (few : length (raised ++ reported_by before after) ≤ 2048)
    (numbers : AreNumberedFrom 0 raised) (unmade : IsMade live heard after → ⊥) (slot subslot : ℕ) (told : ToldAt slot subslot raised link) where
  abbrev Next : Type 0
  Next = IsStepOf slot subslot live heard before after raised (reported_by before after) next

  told_of : (l : RelationState) → before ≡ Some l → ToldAt slot subslot raised l
  told_of l e = subst (λ (k : RelationState). ToldAt slot subslot raised k) (some_is link l (sym was ∙ e)) told

  by_called : IsMade live heard after ⊎ AreCalled next.plugs → AreCalled next.plugs
  by_called (inl made) = absurd (unmade made)
  by_called (inr called) = called

  by_tells : AreCalled next.plugs → Tells before after → Next
  by_tells called it = tells_to laws live heard before after next is raised none few numbers called slot subslot it (told_of it.link it.was)

  by_alters : AreCalled next.plugs → Alters live heard before after → Next
  by_alters called it = alters_to laws live heard before after next is raised none few numbers called slot subslot it (told_of it.link it.was)

  module _ (called : AreCalled next.plugs) (kept : IsLowKept link next) where
    silent : reported_by before after ≡ []
    silent = silent_by before after link next was is kept.last

    says : Says link next (reported_by before after)
    says = inl (silent, kept.specifier)

    by_place : (step : Step) → step_in slot subslot link ≡ Some step
        → IsMade live heard after ⊎ PlaceGoes slot subslot live heard before after (holding_of link) (holding_of next) → Next
    by_place step here (inl made) = absurd (unmade made)
    by_place step here (inr (inl it)) =
        same_to live heard before after link next was is raised (reported_by before after) few numbers says called slot subslot told kept silent step here it
    by_place step here (inr (inr (inl it))) =
        takes_to live heard before after link next was is raised (reported_by before after) few numbers says called slot subslot told kept silent step here it
    by_place step here (inr (inr (inr (inl it)))) =
        ends_to live heard before after link next was is raised (reported_by before after) few numbers says called slot subslot told kept silent it
    by_place step here (inr (inr (inr (inr (inl it))))) =
        answers_to live heard before after link next was is raised (reported_by before after) few numbers says called slot subslot told kept silent it
    by_place step here (inr (inr (inr (inr (inr (inl it)))))) = by_tells called it.alarm
    by_place step here (inr (inr (inr (inr (inr (inr it)))))) = by_alters called it.change

    by_step : LinkGoes live heard before after → (o : Option Step) → step_in slot subslot link ≡ o → Next
    by_step goes None e =
        to_none live heard before after link next was is raised (reported_by before after) few numbers says called slot subslot told kept.keys e
    by_step goes (Some step) e = by_place step e (place_on live heard before after link next was is told.called goes slot subslot step e)

  by_low : AreCalled next.plugs → LinkGoes live heard before after → LowGoes live heard before after link next → Next
  by_low called goes (inl kept) = by_step called kept goes (step_in slot subslot link) refl
  by_low called goes (inr (inl it)) = by_tells called it
  by_low called goes (inr (inr it)) = by_alters called it

  pub step_told : LowGoes live heard before after link next → LinkGoes live heard before after → Next
  step_told low goes = by_low (by_called (called_on live heard before after link next was is told.called goes)) goes low
