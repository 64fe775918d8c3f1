-- The places of a relation over any steps of its device.
use Rattle.std.proofs.Common.{◌≡◌, ◌⊎◌, inl, inr, ◌==◌, ◌++◌, ℕ, Bool, true, false, cond, List, [], ◌∷◌, map, Option, Some, None, option_map, refl, sym, ap}
use Rattle.std.proofs.Common.{subst, ◌∙◌, append_assoc}
use Rattle.std.specs.Prelude.{if◌then◌else◌}
use Rattle.std.specs.List.{AllByRecursion}
use Rattle.std.proofs.lemmas.Bool.{and_from, eq-eqb}
use Rattle.settings_journal.specs.settings_store.Machine.{Outcome}
use Rattle.wire.specs.blocks.modules.Lists.{Listed}
use Rattle.connect_blocks.specs.declared.expected.ExpectedSubmodule.{ExpectedSubmodule}
use Rattle.connect_blocks.specs.declared.module_diff.DiffModule.{DiffModule}
use Rattle.connect_blocks.specs.declared.module_diff.DiffSubmodule.{DiffSubmodule}
use Rattle.module_diff.specs.declared.changes.ChangeKind.{ChangeKind}
use Rattle.module_diff.specs.declared.changes.ChangeKind.TheVariants.{Pull, PullModule, Plug}
use Rattle.module_diff.specs.declared.expected.Expected.{Expected}
use Rattle.module_diff.specs.Diff.{Wanted, is_listed, wanted_in}
use Rattle.diagnosis.specs.declared.alarms.alarms.SentAlarm.{SentAlarm}
use Rattle.diagnosis.specs.declared.queue.QueuedAlarm.{QueuedAlarm}
use Rattle.expected_places.specs.declared.calls.PlugCall.{PlugCall}
use Rattle.expected_places.specs.declared.place.ExpectedPlace.{ExpectedPlace}
use Rattle.expected_places.specs.declared.place.Step.{Step}
use Rattle.expected_places.specs.declared.place.Step.TheVariants.{Settled, Told, Ended, Refused}
use Rattle.expected_places.specs.Machine.{opened}
use Rattle.expected_places.specs.Places.{first_place, is_for, place_at, places_of}
use Rattle.relations.specs.Plugging.{plug_answer_in, plug_end_in, rows_now, step_by}
use Rattle.relations.specs.RelationState.{RelationState}
use Rattle.device_frames.specs.declared.event.Event.{Event}
use Rattle.device_frames.specs.Heard.{Heard, heard_of}
use Rattle.device_core.specs.Machine.{first_step, heard_step, later_steps, run_of, step_of}
use Rattle.device_core.specs.State.{Live, Station}
use Rattle.plug_ends.specs.Places.{GoesOn, IsEndedBy, IsReleasedBy, step_at, step_in, taken_at}
use Rattle.plug_ends.proofs.DeviceGoes.{Holding, IsMade, answer_as, LinkGoes, held, holding_of, step_link_goes}
use Rattle.plug_ends.proofs.DevicePlaces.{AreCalled, IsAlike}
use Rattle.plug_ends.proofs.DeviceTurns.{AltersAt, AnswersAt, EndsAt, PlaceGoes, SentGoes, called_on, place_on}
use Rattle.module_diff.specs.Changes.{affected_by, covers}

-- ---- a relation begins

abbrev pub IsSettled : ExpectedPlace → Type 0
IsSettled place = place.step ≡ Settled

each_both : {A : Type 0} (P : A → Type 0) (xs ys : List A) → AllByRecursion P xs → AllByRecursion P ys → AllByRecursion P (xs ++ ys)
each_both P [] ys one other = other
each_both P (x ∷ xs) ys one other = (one.0, each_both P xs ys one.1 other)

first_settled : (rows : Listed DiffModule DiffSubmodule) (slot : ℕ) (parts : List ExpectedSubmodule)
    → AllByRecursion IsSettled (map (first_place rows slot) parts)
first_settled rows slot [] = tt
first_settled rows slot (part ∷ parts) = (refl, first_settled rows slot parts)

pub all_settled : (rows : Listed DiffModule DiffSubmodule) (wanteds : List Wanted) → AllByRecursion IsSettled (places_of rows wanteds)
all_settled rows [] = tt
all_settled rows (wanted ∷ wanteds) =
    each_both IsSettled (map (first_place rows wanted.entry.slot_number) wanted.submodules) (places_of rows wanteds)
    (first_settled rows wanted.entry.slot_number wanted.submodules) (all_settled rows wanteds)

self_for : (place : ExpectedPlace) → is_for place.slot place.subslot place ≡ true
self_for place = and_from (place.slot == place.slot) (place.subslot == place.subslot) (eq-eqb place.slot place.slot refl)
    (eq-eqb place.subslot place.subslot refl)

-- After places that are all settled, this one.
found_settled : (front : List ExpectedPlace) (place : ExpectedPlace) (others : List ExpectedPlace) → AllByRecursion IsSettled front → IsSettled place
    → step_at place.slot place.subslot (front ++ place ∷ others) ≡ Some Settled
found_settled [] place others settled is =
    ap (λ (b : Bool). option_map (λ (p : ExpectedPlace). p.step) (cond b (Some place) (place_at place.slot place.subslot others))) (self_for place) ∙ ap
    (λ (s : Step). Some s) is
found_settled (first ∷ front) place others settled is = by_for (is_for place.slot place.subslot first) (found_settled front place others settled.1 is)
  where
    by_for : (b : Bool) → step_at place.slot place.subslot (front ++ place ∷ others) ≡ Some Settled
        → option_map (λ (p : ExpectedPlace). p.step) (cond b (Some first) (place_at place.slot place.subslot (front ++ place ∷ others))) ≡ Some Settled
    by_for true rest = ap (λ (s : Step). Some s) settled.0
    by_for false rest = rest

alike_settled : (front places : List ExpectedPlace) → AllByRecursion IsSettled front → AllByRecursion IsSettled places
    → AllByRecursion (IsAlike (front ++ places)) places
alike_settled front [] before settled = tt
alike_settled front (place ∷ places) before settled = (
  found_settled front place places before settled.0 ∙ ap (λ (s : Step). Some s) (sym settled.0),
  subst (λ (all : List ExpectedPlace). AllByRecursion (IsAlike all) places) (append_assoc front (place ∷ []) places)
      (alike_settled (front ++ place ∷ []) places (each_both IsSettled front (place ∷ []) before (settled.0, tt)) settled.1),
)

pub opened_called : (expected : Expected) (rows : Listed DiffModule DiffSubmodule) → AreCalled (opened expected rows)
opened_called expected rows =
    let wanteds = wanted_in expected.modules.items expected.submodules.items in
    record {
      alike = alike_settled [] (places_of rows wanteds) tt (all_settled rows wanteds);
      standing = λ call e. absurd (none_call call e);
      waiting = tt;
      apart = λ call e. absurd (none_call call e);
    }
  where
    none_call : (call : PlugCall) → ◌≡◌ {A = Option PlugCall} None (Some call) → ⊥
    none_call call e = absurd cc

-- ---- over any steps

abbrev AreCalledIn : Option RelationState → Type 0
AreCalledIn link = (l : RelationState) → link ≡ Some l → AreCalled l.plugs

some_is : {A : Type 0} (x y : A) → Some x ≡ Some y → x ≡ y
some_is x y e = cc

none_some : {A : Type 0} {x : A} → ◌≡◌ {A = Option A} None (Some x) → ⊥
none_some e = absurd cc

held_none : (link : Option RelationState) → held link ≡ None → link ≡ None
held_none None e = refl
held_none (Some link) e = absurd cc

made_called : (live : Live) (heard : Heard) (after : Option RelationState) → IsMade live heard after → AreCalledIn after
made_called live heard after it l e =
    subst (λ (m : RelationState). AreCalled m.plugs) (some_is _ l (sym it.made ∙ e)) (opened_called it.request.expected it.rows)

goes_called : (live : Live) (heard : Heard) (before after : Option RelationState) → AreCalledIn before → LinkGoes live heard before after → AreCalledIn after
goes_called live heard None after called goes l e = by_kind goes
  where
    by_kind : LinkGoes live heard None after → AreCalled l.plugs
    by_kind (inl same) = absurd (none_some (sym (held_none after same) ∙ e))
    by_kind (inr (inl over)) = absurd (none_some (sym over ∙ e))
    by_kind (inr (inr (inl it))) = made_called live heard after it l e
    by_kind (inr (inr (inr (inl it)))) = absurd (none_some it.was)
    by_kind (inr (inr (inr (inr (inl it))))) = absurd (none_some it.was)
    by_kind (inr (inr (inr (inr (inr (inl it)))))) = absurd (none_some it.was)
    by_kind (inr (inr (inr (inr (inr (inr (inl it))))))) = absurd (none_some it.was)
    by_kind (inr (inr (inr (inr (inr (inr (inr (inl it)))))))) = absurd (none_some it.was)
    by_kind (inr (inr (inr (inr (inr (inr (inr (inr (inl it))))))))) = absurd (none_some it.was)
    by_kind (inr (inr (inr (inr (inr (inr (inr (inr (inr it))))))))) = absurd (none_some it.was)
goes_called live heard (Some link) after called goes l e = by_on (called_on live heard (Some link) after link l refl e (called link refl) goes)
  where
    by_on : IsMade live heard after ⊎ AreCalled l.plugs → AreCalled l.plugs
    by_on (inl it) = made_called live heard after it l e
    by_on (inr is) = is

run_called : (outcomes : List (List Outcome)) (station : Station) (live : Live) (events : List Event) → AreCalledIn live.rest.link
    → AreCalledIn (run_of outcomes station live events).live.rest.link
run_called outcomes station live [] called = called
run_called outcomes station live (event ∷ events) called =
    let heard = heard_of station.identity event in
    let step = heard_step (first_step outcomes) station live heard in
    run_called (later_steps outcomes) station step.live events
    (goes_called live heard live.rest.link step.live.rest.link called (step_link_goes station live (first_step outcomes) heard))

-- ---- one step after them

abbrev Outcome_at : ℕ → ℕ → Heard → RelationState → RelationState → Type 0
Outcome_at slot subslot heard link next = (live : Live) × PlaceGoes slot subslot live heard (Some link) (Some next) (holding_of link) (holding_of next)

place_step : (heard : Heard) (link next : RelationState) → GoesOn heard link next → (slot subslot : ℕ) (step : Step) → step_in slot subslot link ≡ Some step
    → Outcome_at slot subslot heard link next
place_step heard link next it slot subslot step here = by_on (place_on live heard before after link next it.before it.after called goes slot subslot step here)
  where
    live : Live
    live = (run_of it.outcomes it.station it.first it.events).live

    before : Option RelationState
    before = live.rest.link

    after : Option RelationState
    after = (step_of it.now it.station live it.event).live.rest.link

    called : AreCalled link.plugs
    called = run_called it.outcomes it.station it.first it.events (λ l e. absurd (none_some (sym it.none ∙ e))) link it.before

    goes : LinkGoes live heard before after
    goes = subst (λ (h : Heard). LinkGoes live h before after) (sym it.is) (step_link_goes it.station live it.now (heard_of it.station.identity it.event))

    by_on : IsMade live heard after ⊎ PlaceGoes slot subslot live heard before after (holding_of link) (holding_of next)
        → Outcome_at slot subslot heard link next
    by_on (inl made) = absurd
        (it.other (record { caller = made.caller; address = made.came.address; call = made.call; is = made.came.is; connects = made.came.asks }))
    by_on (inr place) = (
      live,
      subst (λ (l : Option RelationState). PlaceGoes slot subslot live heard l (Some next) (holding_of link) (holding_of next)) it.before
          (subst (λ (l : Option RelationState). PlaceGoes slot subslot live heard before l (holding_of link) (holding_of next)) it.after place),
    )

-- A step that is no end and no release, and one whose alarm was not sent.
abbrev IsPlain : Step → Type 0
IsPlain Settled = ⊥
IsPlain (Ended number) = ⊥
IsPlain other = Unit {0}

abbrev IsUntold : Step → Type 0
IsUntold (Told number) = ⊥
IsUntold other = Unit {0}

changed_plain : (kind : ChangeKind) (differs : Bool) → IsPlain (step_by kind differs)
changed_plain Pull differs = tt
changed_plain PullModule differs = tt
changed_plain Plug true = tt
changed_plain Plug false = tt

changed_untold : (kind : ChangeKind) (differs : Bool) → IsUntold (step_by kind differs)
changed_untold Pull differs = tt
changed_untold PullModule differs = tt
changed_untold Plug true = tt
changed_untold Plug false = tt

answered_untold : (b : Bool) → IsUntold (if b then Settled else Refused)
answered_untold true = tt
answered_untold false = tt

answered_unended : (b : Bool) (number : ℕ) → (if b then Settled else Refused) ≡ Ended number → ⊥
answered_unended true number e = absurd cc
answered_unended false number e = absurd cc

answered_positive : (b : Bool) → (if b then Settled else Refused) ≡ Settled → b ≡ true
answered_positive true e = refl
answered_positive false e = absurd cc

ended_plain : (number other : ℕ) → Ended number ≡ Ended other → number ≡ other
ended_plain number other e = cc

unsettled : (number : ℕ) → Ended number ≡ Settled → ⊥
unsettled number e = absurd cc

module _ (slot subslot : ℕ) where
  -- With an alarm a place stays as far as it is, or the alarm is its own, and its records are forgotten.
  sent_step : (sent : Option SentAlarm) (waiting : List QueuedAlarm) (before after : Holding) (new : Step) → SentGoes slot subslot sent waiting before after
      → step_at slot subslot after.plugs.places ≡ Some new → (step_at slot subslot before.plugs.places ≡ Some new) ⊎ IsPlain new
  sent_step sent waiting before after new (inl it) e = inl (sym it.step ∙ e)
  sent_step sent waiting before after new (inr (inl it)) e = inl (sym it.step ∙ e)
  sent_step sent waiting before after new (inr (inr it)) e = inr (subst IsPlain (some_is (Told it.alarm.number) new (sym it.told.now ∙ e)) tt)

  sent_taken : (sent : Option SentAlarm) (waiting : List QueuedAlarm) (before after : Holding) (new : Step) → SentGoes slot subslot sent waiting before after
      → step_at slot subslot after.plugs.places ≡ Some new → (step_at slot subslot before.plugs.places ≡ Some new) ⊎ (taken_at slot subslot after.taken ≡ [])
  sent_taken sent waiting before after new (inl it) e = inl (sym it.step ∙ e)
  sent_taken sent waiting before after new (inr (inl it)) e = inr it.taken
  sent_taken sent waiting before after new (inr (inr it)) e = inr it.taken

  module _ (live : Live) (heard : Heard) (link next : Option RelationState) (before after : Holding) (new : Step)
      (is : step_at slot subslot after.plugs.places ≡ Some new) where
    -- A change touches the place, or leaves it.
    altered_step : (it : AltersAt slot subslot live heard link next before after) (P : Step → Type 0)
        → ((kind : ChangeKind) (differs : Bool) → P (step_by kind differs))
        → step_at slot subslot it.middle.plugs.places ≡ Some new → (step_at slot subslot before.plugs.places ≡ Some new) ⊎ P new
    altered_step it P changed same = by_touched it.touched
      where
        step : Step
        step = step_by it.change.made.kind (is_listed it.change.made.slot it.change.made.subslot (rows_now it.change.now it.change.link))

        by_touched :
            ((covers (affected_by it.change.made) slot subslot ≡ false)
            × (step_at slot subslot it.middle.plugs.places ≡ step_at slot subslot before.plugs.places))
            ⊎ ((covers (affected_by it.change.made) slot subslot ≡ true) × (step_at slot subslot it.middle.plugs.places ≡ Some step))
            → (step_at slot subslot before.plugs.places ≡ Some new) ⊎ P new
        by_touched (inl beside) = inl (sym beside.1 ∙ same)
        by_touched (inr there) =
            inr (subst P (some_is step new (sym there.1 ∙ same))
            (changed it.change.made.kind (is_listed it.change.made.slot it.change.made.subslot (rows_now it.change.now it.change.link))))

    -- An end or a release is one of a PrmEnd or an answer.
    special_step : (IsPlain new → ⊥) → PlaceGoes slot subslot live heard link next before after
        → (step_at slot subslot before.plugs.places ≡ Some new)
        ⊎ (EndsAt slot subslot live heard link next before after ⊎ AnswersAt slot subslot heard link next before after)
    special_step special (inl it) = inl (sym it.step ∙ is)
    special_step special (inr (inl it)) = inl (sym it.step ∙ is)
    special_step special (inr (inr (inl it))) = inr (inl it)
    special_step special (inr (inr (inr (inl it)))) = inr (inr it)
    special_step special (inr (inr (inr (inr (inl it))))) = by_sent (sent_step _ _ before after new it.goes is)
      where
        by_sent : (step_at slot subslot before.plugs.places ≡ Some new) ⊎ IsPlain new
            → (step_at slot subslot before.plugs.places ≡ Some new)
            ⊎ (EndsAt slot subslot live heard link next before after ⊎ AnswersAt slot subslot heard link next before after)
        by_sent (inl same) = inl same
        by_sent (inr plain) = absurd (special plain)
    special_step special (inr (inr (inr (inr (inr it))))) = by_sent (sent_step _ _ it.middle after new it.goes is)
      where
        by_change : (step_at slot subslot before.plugs.places ≡ Some new) ⊎ IsPlain new
            → (step_at slot subslot before.plugs.places ≡ Some new)
            ⊎ (EndsAt slot subslot live heard link next before after ⊎ AnswersAt slot subslot heard link next before after)
        by_change (inl same) = inl same
        by_change (inr plain) = absurd (special plain)

        by_sent : (step_at slot subslot it.middle.plugs.places ≡ Some new) ⊎ IsPlain new
            → (step_at slot subslot before.plugs.places ≡ Some new)
            ⊎ (EndsAt slot subslot live heard link next before after ⊎ AnswersAt slot subslot heard link next before after)
        by_sent (inl same) = by_change (altered_step it IsPlain changed_plain same)
        by_sent (inr plain) = absurd (special plain)

    -- As the alarm of a place is sent, it has no records.
    told_step : (IsUntold new → ⊥) → PlaceGoes slot subslot live heard link next before after
        → (step_at slot subslot before.plugs.places ≡ Some new) ⊎ (taken_at slot subslot after.taken ≡ [])
    told_step told (inl it) = inl (sym it.step ∙ is)
    told_step told (inr (inl it)) = inl (sym it.step ∙ is)
    told_step told (inr (inr (inl it))) = absurd (told (subst IsUntold (some_is (Ended it.end.block.alarm_sequence_number) new (sym it.now ∙ is)) tt))
    told_step told (inr (inr (inr (inl it)))) =
        absurd (told
        (subst IsUntold (some_is (if it.answer.is_positive then Settled else Refused) new (sym it.now ∙ is)) (answered_untold it.answer.is_positive)))
    told_step told (inr (inr (inr (inr (inl it))))) = sent_taken _ _ before after new it.goes is
    told_step told (inr (inr (inr (inr (inr it))))) = by_sent (sent_taken _ _ it.middle after new it.goes is)
      where
        by_change : (step_at slot subslot before.plugs.places ≡ Some new) ⊎ IsUntold new
            → (step_at slot subslot before.plugs.places ≡ Some new) ⊎ (taken_at slot subslot after.taken ≡ [])
        by_change (inl same) = inl same
        by_change (inr plain) = absurd (told plain)

        by_sent : (step_at slot subslot it.middle.plugs.places ≡ Some new) ⊎ (taken_at slot subslot after.taken ≡ [])
            → (step_at slot subslot before.plugs.places ≡ Some new) ⊎ (taken_at slot subslot after.taken ≡ [])
        by_sent (inl same) = by_change (altered_step it IsUntold changed_untold same)
        by_sent (inr none) = inr none

-- ---- the clauses

module _ (heard : Heard) (link next : RelationState) (it : GoesOn heard link next) (slot subslot : ℕ) (old : Step)
    (here : step_in slot subslot link ≡ Some old) where
  placed : Outcome_at slot subslot heard link next
  placed = place_step heard link next it slot subslot old here

  old_is : (new : Step) → step_in slot subslot link ≡ Some new → old ≡ new
  old_is new e = some_is old new (sym here ∙ e)

  pub told_so : (number : ℕ) → step_in slot subslot next ≡ Some (Told number) → (old ≡ Told number) ⊎ (taken_at slot subslot next.taken ≡ [])
  told_so number e = by_step
      (told_step slot subslot placed.0 heard (Some link) (Some next) (holding_of link) (holding_of next) (Told number) e (λ untold. untold) placed.1)
    where
      by_step : (step_in slot subslot link ≡ Some (Told number)) ⊎ (taken_at slot subslot next.taken ≡ [])
          → (old ≡ Told number) ⊎ (taken_at slot subslot next.taken ≡ [])
      by_step (inl same) = inl (old_is (Told number) same)
      by_step (inr none) = inr none

  pub ended_so : (number : ℕ) → step_in slot subslot next ≡ Some (Ended number) → (old ≡ Ended number) ⊎ IsEndedBy slot subslot number heard link next
  ended_so number e = by_step
      (special_step slot subslot placed.0 heard (Some link) (Some next) (holding_of link) (holding_of next) (Ended number) e (λ plain. plain) placed.1)
    where
      by_step : (step_in slot subslot link ≡ Some (Ended number))
          ⊎ (EndsAt slot subslot placed.0 heard (Some link) (Some next) (holding_of link) (holding_of next)
          ⊎ AnswersAt slot subslot heard (Some link) (Some next) (holding_of link) (holding_of next)) → (old
          ≡ Ended number) ⊎ IsEndedBy slot subslot number heard link next
      by_step (inl same) = inl (old_is (Ended number) same)
      by_step (inr (inr one)) = absurd
          (answered_unended one.answer.is_positive number (some_is (if one.answer.is_positive then Settled else Refused) (Ended number) (sym one.now ∙ e)))
      by_step (inr (inl one)) =
          let number_is = ended_plain one.end.block.alarm_sequence_number number
          (some_is (Ended one.end.block.alarm_sequence_number) (Ended number) (sym one.now ∙ e)) in
          inr (record {
            caller = one.end.caller;
            address = one.end.came.address;
            call = one.end.call;
            blocks = one.end.blocks;
            block = one.end.block;
            is = one.end.came.is;
            counted = one.end.came.counted;
            read = ap (λ (l : Option RelationState). plug_end_in one.end.blocks l) one.end.was ∙ one.end.read;
            number_is = number_is;
            was = one.was ∙ ap (λ (n : ℕ). Some (Told n)) number_is;
            kept = one.taken;
          })

  pub released_so : step_in slot subslot next ≡ Some Settled → (old ≡ Settled) ⊎ IsReleasedBy slot subslot heard link next
  released_so e = by_step
      (special_step slot subslot placed.0 heard (Some link) (Some next) (holding_of link) (holding_of next) Settled e (λ plain. plain) placed.1)
    where
      by_step : (step_in slot subslot link ≡ Some Settled) ⊎ (EndsAt slot subslot placed.0 heard (Some link) (Some next) (holding_of link) (holding_of next)
          ⊎ AnswersAt slot subslot heard (Some link) (Some next) (holding_of link) (holding_of next)) → (old
          ≡ Settled) ⊎ IsReleasedBy slot subslot heard link next
      by_step (inl same) = inl (old_is Settled same)
      by_step (inr (inl one)) = absurd
          (unsettled one.end.block.alarm_sequence_number (some_is (Ended one.end.block.alarm_sequence_number) Settled (sym one.now ∙ e)))
      by_step (inr (inr one)) =
          let positive = answered_positive one.answer.is_positive (some_is (if one.answer.is_positive then Settled else Refused) Settled (sym one.now ∙ e)) in
          inr (record {
            caller = one.answer.caller;
            address = one.answer.address;
            response = one.answer.response;
            is = one.answer.is;
            confirms = ap (λ (l : Option RelationState). plug_answer_in one.answer.response l) one.answer.was ∙ (one.answer.means ∙ ap answer_as positive);
            number = one.call.number;
            was = one.was;
            kept = one.taken;
          })
