-- A place of a relation as alarms of low priority are sent: how far it is, what waits for it, and what was reported of it.
use Rattle.std.proofs.Common.{◌≡◌, ◌⊎◌, inl, inr, ◌++◌, ℕ, Bool, true, false, List, [], ◌∷◌, length, Option, Some, None, option_map, refl, sym, ap, subst, ◌∙◌}
use Rattle.std.specs.Prelude.{if◌then◌else◌, not}
use Rattle.std.specs.List.{list_any}
use Rattle.std.proofs.lemmas.Bool.{true≢false}
use Rattle.record_blocks.specs.declared.alarm_notification.AlarmNotification.{AlarmNotification}
use Rattle.records.specs.declared.writes.taken.TakenRecord.{TakenRecord}
use Rattle.diagnosis.specs.declared.alarms.alarms.SentAlarm.{SentAlarm}
use Rattle.diagnosis.specs.declared.module_change.ModuleChange.{ModuleChange}
use Rattle.diagnosis.specs.declared.queue.LowChange.{LowChange}
use Rattle.diagnosis.specs.declared.queue.LowChange.TheVariants as change_is
use Rattle.diagnosis.specs.declared.queue.QueuedAlarm.{QueuedAlarm}
use Rattle.diagnosis.specs.alarms.Alarms.{Low}
use Rattle.diagnosis.specs.Queue.{after_next, alarm_of, is_next, is_plug, plugs_at, waits_for_plug}
use Rattle.pn_alarms.specs.Device.{end_with}
use Rattle.expected_places.specs.declared.place.ExpectedPlace.{ExpectedPlace}
use Rattle.expected_places.specs.declared.place.Step.{Step}
use Rattle.expected_places.specs.declared.place.Step.TheVariants.{Settled, Pulled, Plugged, Told, Ended, Refused}
use Rattle.expected_places.specs.Machine.{PlugState, told}
use Rattle.expected_places.specs.Places.{is_plugged, is_plugged_step, place_at, stepped}
use Rattle.relations.specs.Plugging.{first_sent, plugs_after, plugs_told, taken_after, taken_told}
use Rattle.both_ends.specs.exchange.Told.{reaches_at}
use Rattle.both_ends.proofs.ExchangeNextTold.{IsNextTold, NextIs, next_is}
use Rattle.plug_ends.specs.Places.{step_at, taken_at}
use Rattle.plug_ends.specs.Told.{IsPlugAt, LastPlug, concerns, concerns_any}
use Rattle.plug_ends.proofs.DeviceGoes.{Holding}
use Rattle.plug_ends.proofs.DevicePlaces.{covered_at, covers_self, there}
use Rattle.plug_ends.proofs.DeviceTurns.{SentGoes, sent_goes}
use Rattle.plug_ends.proofs.ToldQueue.{IsPlugQueued, LastQueued, Waits, any_front, any_there, or_none, or_parts, plug_reported, plug_waits, same_concerns, told_more}
use Rattle.plug_ends.proofs.ToldQueue.{touches, untouched_plugs}

some_is : {A : Type 0} (x y : A) → Some x ≡ Some y → x ≡ y
some_is x y e = cc

none_some : {A : Type 0} {x : A} → ◌≡◌ {A = Option A} None (Some x) → ⊥
none_some e = absurd cc

-- ---- what was reported, by the step of a place

abbrev pub HasTold : ℕ → ℕ → Step → List AlarmNotification → Type 0
HasTold slot subslot Settled raised = concerns_any slot subslot raised ≡ true → (number : ℕ) × LastPlug slot subslot number raised
HasTold slot subslot Pulled raised = Unit {0}
HasTold slot subslot Plugged raised = Unit {0}
HasTold slot subslot (Told number) raised = LastPlug slot subslot number raised
HasTold slot subslot (Ended number) raised = LastPlug slot subslot number raised
HasTold slot subslot Refused raised = (number : ℕ) × LastPlug slot subslot number raised

-- Nothing more of this place.
pub has_told_more : (slot subslot : ℕ) (step : Step) (raised now : List AlarmNotification) → concerns_any slot subslot now ≡ false
    → HasTold slot subslot step raised → HasTold slot subslot step (raised ++ now)
has_told_more slot subslot Settled raised now none has = λ some.
    let last = has (any_front (concerns slot subslot) raised now none some) in
    (last.0, told_more slot subslot last.0 raised now none last.1)
has_told_more slot subslot Pulled raised now none has = tt
has_told_more slot subslot Plugged raised now none has = tt
has_told_more slot subslot (Told number) raised now none has = told_more slot subslot number raised now none has
has_told_more slot subslot (Ended number) raised now none has = told_more slot subslot number raised now none has
has_told_more slot subslot Refused raised now none has = (has.0, told_more slot subslot has.0 raised now none has.1)

-- ---- what becomes of a place

-- It is as far as before, with the same records, and nothing is reported of it.
pub record IsKept (slot subslot : ℕ) (step next : Option Step) (since later : List TakenRecord) (now : List AlarmNotification) : Type 0 where
  pub step_is : next ≡ step
  pub since_is : later ≡ since
  pub quiet : concerns_any slot subslot now ≡ false

-- Something was pulled or plugged there.
abbrev pub IsTouched : Option Step → Type 0
IsTouched next = (next ≡ Some Pulled) ⊎ (next ≡ Some Plugged)

-- The alarm of its plug is sent, with this number.
pub record IsTold (slot subslot number : ℕ) (next : Option Step) (later : List TakenRecord) (now : List AlarmNotification) : Type 0 where
  pub alarm : AlarmNotification
  pub told : now ≡ alarm ∷ []
  pub plug : IsPlugAt slot subslot alarm
  pub step_is : next ≡ Some (Told number)
  pub since_is : later ≡ []

abbrev pub Outcome : ℕ → ℕ → ℕ → Option Step → Option Step → List TakenRecord → List TakenRecord → List AlarmNotification → Type 0
Outcome slot subslot number step next since later now =
    IsKept slot subslot step next since later now ⊎ (IsTouched next ⊎ IsTold slot subslot number next later now)

-- What waits for a place of a relation.
abbrev pub WaitsFor : ℕ → ℕ → Option Step → List QueuedAlarm → Type 0
WaitsFor slot subslot next waiting = (step : Step) → next ≡ Some step → Waits slot subslot step waiting

pub waits_if : (slot subslot : ℕ) (next : Option Step) (step : Step) (waiting : List QueuedAlarm) → next ≡ Some step → Waits slot subslot step waiting
    → WaitsFor slot subslot next waiting
waits_if slot subslot next step waiting is waits other e = subst (λ (s : Step). Waits slot subslot s waiting) (some_is step other (sym is ∙ e)) waits

-- What becomes of it, and what waits then.
pub record Becomes (slot subslot number : ℕ) (step next : Option Step) (since later : List TakenRecord) (now : List AlarmNotification) (waiting : List QueuedAlarm) : Type 0 where
  pub outcome : Outcome slot subslot number step next since later now
  pub waits : WaitsFor slot subslot next waiting

-- What was reported then, if the alarm of a plug has the number of alarms before it.
pub outcome_told : (slot subslot number : ℕ) (step : Step) (next : Option Step) (since later : List TakenRecord) (raised now : List AlarmNotification)
    → HasTold slot subslot step raised → ((alarm : AlarmNotification) → now ≡ alarm ∷ [] → length raised ≡ number)
    → Outcome slot subslot number (Some step) next since later now → (other : Step) → next ≡ Some other → HasTold slot subslot other (raised ++ now)
outcome_told slot subslot number step next since later raised now has count outcome other e = by_outcome outcome
  where
    to : (s : Step) → next ≡ Some s → HasTold slot subslot s (raised ++ now) → HasTold slot subslot other (raised ++ now)
    to s f so = subst (λ (t : Step). HasTold slot subslot t (raised ++ now)) (some_is s other (sym f ∙ e)) so

    by_outcome : Outcome slot subslot number (Some step) next since later now → HasTold slot subslot other (raised ++ now)
    by_outcome (inl kept) = to step kept.step_is (has_told_more slot subslot step raised now kept.quiet has)
    by_outcome (inr (inl (inl pulled))) = to Pulled pulled tt
    by_outcome (inr (inl (inr plugged))) = to Plugged plugged tt
    by_outcome (inr (inr it)) = to (Told number) it.step_is (record {
      front = raised;
      alarm = it.alarm;
      rest = [];
      are = ap (λ (xs : List AlarmNotification). raised ++ xs) it.told;
      count = count it.alarm it.told;
      plug = it.plug;
      none = refl;
    })

-- ---- the alarm of a plug is sent

plugged_is : (found : Option ExpectedPlace) → option_map (λ (place : ExpectedPlace). place.step) found ≡ Some Plugged → is_plugged found ≡ true
plugged_is None e = absurd (none_some e)
plugged_is (Some place) e = ap is_plugged_step (some_is place.step Plugged e)

-- Its place is plugged, and no later plug of it waits: it has this number then.
told_here : (change : ModuleChange) (number : ℕ) (rest : List QueuedAlarm) (plugs : PlugState) → is_plug change.kind ≡ true
    → waits_for_plug change.slot change.subslot rest ≡ false → step_at change.slot change.subslot plugs.places ≡ Some Plugged
    → step_at change.slot change.subslot (plugs_told (change_is.Module change) number rest plugs).places ≡ Some (Told number)
told_here change number rest plugs plug last here =
    ap (λ (b : Bool). step_at change.slot change.subslot
    (let p : PlugState = if b then told change.slot change.subslot number (not (waits_for_plug change.slot change.subslot rest)) plugs else plugs in p.places)) plug
    ∙ (ap (λ (b : Bool). step_at change.slot change.subslot (told change.slot change.subslot number (not b) plugs).places) last
    ∙ (ap (λ (b : Bool). step_at change.slot change.subslot (if b then stepped change.slot change.subslot (Told number) plugs.places else plugs.places))
    (plugged_is (place_at change.slot change.subslot plugs.places) here)
    ∙ covered_at (there change.slot change.subslot) (Told number) Plugged plugs.places change.slot change.subslot (covers_self change.slot change.subslot) here))

told_there : (slot subslot : ℕ) (change : ModuleChange) (number : ℕ) (rest : List QueuedAlarm) (plugs : PlugState) → is_plug change.kind ≡ true
    → change.slot ≡ slot → change.subslot ≡ subslot → waits_for_plug slot subslot rest ≡ false → step_at slot subslot plugs.places ≡ Some Plugged
    → step_at slot subslot (plugs_told (change_is.Module change) number rest plugs).places ≡ Some (Told number)
told_there slot subslot change number rest plugs plug slots subslots =
    subst (λ (a : ℕ). waits_for_plug a subslot rest ≡ false → step_at a subslot plugs.places ≡ Some Plugged
    → step_at a subslot (plugs_told (change_is.Module change) number rest plugs).places ≡ Some (Told number)) slots
    (subst (λ (b : ℕ). waits_for_plug change.slot b rest ≡ false → step_at change.slot b plugs.places ≡ Some Plugged
    → step_at change.slot b (plugs_told (change_is.Module change) number rest plugs).places ≡ Some (Told number)) subslots
    (told_here change number rest plugs plug))

head_is : {A : Type 0} (x y : A) (xs ys : List A) → x ∷ xs ≡ y ∷ ys → x ≡ y
head_is x y xs ys e = cc

tail_is : {A : Type 0} (x y : A) (xs ys : List A) → x ∷ xs ≡ y ∷ ys → xs ≡ ys
tail_is x y xs ys e = cc

-- ---- the first alarm that waits is sent

module _ (slot subslot : ℕ) (before : Holding) (queued : QueuedAlarm) (rest : List QueuedAlarm) (number : ℕ) where
  abbrev sent : SentAlarm
  sent = record { change = queued.change; number = number }

  abbrev pub After_it : Holding
  After_it = record { taken = taken_told queued.change before.plugs.places before.taken; plugs = plugs_told queued.change number rest before.plugs }

  abbrev now : List AlarmNotification
  now = alarm_of number queued ∷ []

  abbrev From : Step → Type 0
  From step = Becomes slot subslot number (Some step) (step_at slot subslot After_it.plugs.places) (taken_at slot subslot before.taken)
      (taken_at slot subslot After_it.taken) now rest

  module _ (step : Step) (here : step_at slot subslot before.plugs.places ≡ Some step) where
    goes : SentGoes slot subslot (Some sent) rest before After_it
    goes = sent_goes slot subslot step rest before here (Some sent)

    -- nothing that waits touches the place
    quiet_sent : (Plugged ≡ step → ⊥) → list_any (touches slot subslot) (queued ∷ rest) ≡ false
        → IsKept slot subslot (Some step) (step_at slot subslot After_it.plugs.places) (taken_at slot subslot before.taken) (taken_at slot subslot After_it.taken) now
    quiet_sent other quiet = by_goes goes
      where
        parts : (reaches_at slot subslot queued.change ≡ false) × (concerns slot subslot (alarm_of 0 queued) ≡ false)
        parts = or_parts (reaches_at slot subslot queued.change) (concerns slot subslot (alarm_of 0 queued))
            (or_parts (touches slot subslot queued) (list_any (touches slot subslot) rest) quiet).0

        by_goes : SentGoes slot subslot (Some sent) rest before After_it
            → IsKept slot subslot (Some step) (step_at slot subslot After_it.plugs.places) (taken_at slot subslot before.taken) (taken_at slot subslot After_it.taken) now
        by_goes (inl it) = record {
          step_is = it.step ∙ here;
          since_is = it.taken;
          quiet = or_none (concerns slot subslot (alarm_of number queued)) false (same_concerns slot subslot number queued ∙ parts.1) refl;
        }
        by_goes (inr (inl it)) =
            let made : queued.change ≡ change_is.Module it.change = ap (λ (a : SentAlarm). a.change) (some_is sent it.alarm it.is) ∙ it.made in
            absurd (true≢false (sym (ap (λ (c : LowChange). reaches_at slot subslot c) made ∙ it.covered) ∙ parts.0))
        by_goes (inr (inr it)) = absurd (other (some_is Plugged step (sym it.told.was ∙ here)))

    -- it stays pulled
    pulled_sent : step ≡ Pulled → step_at slot subslot After_it.plugs.places ≡ Some Pulled
    pulled_sent is = by_goes goes
      where
        by_goes : SentGoes slot subslot (Some sent) rest before After_it → step_at slot subslot After_it.plugs.places ≡ Some Pulled
        by_goes (inl it) = it.step ∙ (here ∙ ap (λ (s : Step). Some s) is)
        by_goes (inr (inl it)) = it.step ∙ (here ∙ ap (λ (s : Step). Some s) is)
        by_goes (inr (inr it)) = absurd (not_both (some_is Plugged step (sym it.told.was ∙ here) ∙ is))
          where
            not_both : Plugged ≡ Pulled → ⊥
            not_both e = absurd cc

    -- the alarm of its plug is sent
    told_sent : step ≡ Plugged → IsPlugQueued slot subslot queued → list_any (touches slot subslot) rest ≡ false
        → IsTold slot subslot number (step_at slot subslot After_it.plugs.places) (taken_at slot subslot After_it.taken) now
    told_sent is plug none = by_goes goes
      where
        becomes : step_at slot subslot After_it.plugs.places ≡ Some (Told number)
        becomes =
            ap (λ (c : LowChange). step_at slot subslot (plugs_told c number rest before.plugs).places) plug.is
            ∙ told_there slot subslot plug.change number rest before.plugs (ap is_plug plug.kind) plug.slot_is plug.subslot_is (untouched_plugs slot subslot rest none)
            (here ∙ ap (λ (s : Step). Some s) is)

        with_none : taken_at slot subslot After_it.taken ≡ [] → IsTold slot subslot number (step_at slot subslot After_it.plugs.places) (taken_at slot subslot After_it.taken) now
        with_none empty = record {
          alarm = alarm_of number queued;
          told = refl;
          plug = plug_reported slot subslot number queued plug;
          step_is = becomes;
          since_is = empty;
        }

        by_goes : SentGoes slot subslot (Some sent) rest before After_it
            → IsTold slot subslot number (step_at slot subslot After_it.plugs.places) (taken_at slot subslot After_it.taken) now
        by_goes (inl it) = absurd (not_both (some_is (Told number) step (sym becomes ∙ (it.step ∙ here)) ∙ is))
          where
            not_both : Told number ≡ Plugged → ⊥
            not_both e = absurd cc
        by_goes (inr (inl it)) = with_none it.taken
        by_goes (inr (inr it)) = with_none it.taken

    -- another alarm is, and its plug waits still
    plugged_sent : step ≡ Plugged → (last : LastQueued slot subslot rest) → step_at slot subslot After_it.plugs.places ≡ Some Plugged
    plugged_sent is last = by_goes goes
      where
        waits : waits_for_plug slot subslot rest ≡ true
        waits = ap (λ (ws : List QueuedAlarm). waits_for_plug slot subslot ws) last.are
            ∙ any_there (λ (alarm : QueuedAlarm). plugs_at slot subslot alarm.change) last.front last.queued last.rest (plug_waits slot subslot last.queued last.plug)

        by_goes : SentGoes slot subslot (Some sent) rest before After_it → step_at slot subslot After_it.plugs.places ≡ Some Plugged
        by_goes (inl it) = it.step ∙ (here ∙ ap (λ (s : Step). Some s) is)
        by_goes (inr (inl it)) = it.step ∙ (here ∙ ap (λ (s : Step). Some s) is)
        by_goes (inr (inr it)) =
            let same : waits_for_plug it.change.slot it.change.subslot rest ≡ waits_for_plug slot subslot rest =
            ap (λ (a : ℕ). waits_for_plug a it.change.subslot rest) it.told.slot_is ∙ ap (λ (b : ℕ). waits_for_plug slot b rest) it.told.subslot_is in
            absurd (true≢false (sym waits ∙ (sym same ∙ it.told.last)))

  quiet_from : (step : Step) → step_at slot subslot before.plugs.places ≡ Some step → (Plugged ≡ step → ⊥) → list_any (touches slot subslot) (queued ∷ rest) ≡ false
      → (list_any (touches slot subslot) rest ≡ false → Waits slot subslot step rest) → From step
  quiet_from step here other quiet rests =
      let kept = quiet_sent step here other quiet in
      record {
        outcome = inl kept;
        waits = waits_if slot subslot (step_at slot subslot After_it.plugs.places) step rest kept.step_is
            (rests (or_parts (touches slot subslot queued) (list_any (touches slot subslot) rest) quiet).1);
      }

  pulled_from : (step_at slot subslot After_it.plugs.places ≡ Some Pulled) → From Pulled
  pulled_from is = record { outcome = inr (inl (inl is)); waits = waits_if slot subslot (step_at slot subslot After_it.plugs.places) Pulled rest is tt }

  plugged_from : step_at slot subslot before.plugs.places ≡ Some Plugged → LastQueued slot subslot (queued ∷ rest) → From Plugged
  plugged_from here waits = by_front waits.front waits.are
    where
      by_front : (front : List QueuedAlarm) → queued ∷ rest ≡ front ++ waits.queued ∷ waits.rest → From Plugged
      by_front [] e =
          let plug : IsPlugQueued slot subslot queued =
          subst (λ (q : QueuedAlarm). IsPlugQueued slot subslot q) (sym (head_is queued waits.queued rest waits.rest e)) waits.plug in
          let none : list_any (touches slot subslot) rest ≡ false =
          ap (λ (ws : List QueuedAlarm). list_any (touches slot subslot) ws) (tail_is queued waits.queued rest waits.rest e) ∙ waits.none in
          let told_so = told_sent Plugged here refl plug none in
          record {
            outcome = inr (inr told_so);
            waits = waits_if slot subslot (step_at slot subslot After_it.plugs.places) (Told number) rest told_so.step_is none;
          }
      by_front (one ∷ front) e =
          let last : LastQueued slot subslot rest = record {
            front = front;
            queued = waits.queued;
            rest = waits.rest;
            are = tail_is queued one rest (front ++ waits.queued ∷ waits.rest) e;
            plug = waits.plug;
            none = waits.none;
          } in
          let is = plugged_sent Plugged here refl last in
          record { outcome = inr (inl (inr is)); waits = waits_if slot subslot (step_at slot subslot After_it.plugs.places) Plugged rest is last }

  pub sent_at : (step : Step) → step_at slot subslot before.plugs.places ≡ Some step → Waits slot subslot step (queued ∷ rest) → From step
  sent_at Settled here waits = quiet_from Settled here (λ e. absurd cc) waits (λ quiet. quiet)
  sent_at Pulled here waits = pulled_from (pulled_sent Pulled here refl)
  sent_at Plugged here waits = plugged_from here waits
  sent_at (Told other) here waits = quiet_from (Told other) here (λ e. absurd cc) waits (λ quiet. quiet)
  sent_at (Ended other) here waits = quiet_from (Ended other) here (λ e. absurd cc) waits (λ quiet. quiet)
  sent_at Refused here waits = quiet_from Refused here (λ e. absurd cc) waits (λ quiet. quiet)

-- ---- the next alarm that waits is sent, if one can be

module _ (slot subslot : ℕ) (before : Holding) (low : Low) (step : Step) (here : step_at slot subslot before.plugs.places ≡ Some step)
    (waits : Waits slot subslot step low.waiting) (now : List AlarmNotification)
    (silent : after_next low ≡ low → now ≡ []) (tells : (told : IsNextTold low) → now ≡ alarm_of low.alarms.sender.specifier told.alarm ∷ []) where
  abbrev pub After_next : Bool → Low → Holding
  After_next is_sent next = record {
    taken = taken_after (first_sent is_sent next) before.plugs.places before.taken;
    plugs = plugs_after (first_sent is_sent next) next.waiting before.plugs;
  }

  abbrev pub To_next : Bool → Low → List AlarmNotification → Type 0
  To_next is_sent next reported =
      Becomes slot subslot low.alarms.sender.specifier (Some step) (step_at slot subslot (After_next is_sent next).plugs.places)
      (taken_at slot subslot before.taken) (taken_at slot subslot (After_next is_sent next).taken) reported next.waiting

  pub next_at : To_next (is_next low) (after_next low) now
  next_at = by_next (next_is low)
    where
      by_next : NextIs low → To_next (is_next low) (after_next low) now
      by_next (inl rests) =
          subst (λ (b : Bool). To_next b (after_next low) now) (sym rests.1)
          (subst (λ (l : Low). To_next false l now) (sym rests.0)
          (subst (λ (xs : List AlarmNotification). To_next false low xs) (sym (silent rests.0)) (record {
            outcome = inl (record { step_is = here; since_is = refl; quiet = refl });
            waits = waits_if slot subslot (step_at slot subslot before.plugs.places) step low.waiting here waits;
          })))
      by_next (inr told) =
          let later : Low = record low {
            alarms = end_with low.alarms (alarm_of low.alarms.sender.specifier told.alarm);
            waiting = told.rest;
            sent = Some (record { change = told.alarm.change; number = low.alarms.sender.specifier });
          } in
          subst (λ (b : Bool). To_next b (after_next low) now) (sym told.sends)
          (subst (λ (l : Low). To_next true l now) (sym told.is)
          (subst (λ (xs : List AlarmNotification). To_next true later xs) (sym (tells told))
          (sent_at slot subslot before told.alarm told.rest low.alarms.sender.specifier step here
          (subst (λ (ws : List QueuedAlarm). Waits slot subslot step ws) told.waits waits))))
