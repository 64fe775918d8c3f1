-- The alarms of low priority of a relation over a step of its device: what waits, and which one is sent.
use Rattle.std.proofs.Common.{◌≡◌, ◌⊎◌, inl, inr, ◌&&◌, ◌++◌, ◌+◌, ◌-◌, ◌%◌, ◌<◌, ℕ, Bool, true, false, cond, List, [], ◌∷◌, length, map, take, Option, Some, None, refl, sym, ap, subst, ◌∙◌}
use Rattle.std.proofs.Common.{append-nil, arith}
use Rattle.std.specs.Prelude.{nat_lt, unwrap_or}
use Rattle.std.specs.List.{list_any}
use Rattle.std.proofs.lemmas.Bool.{leb-false, lt-ltb, true≢false}
use Rattle.pn_values.specs.declared.real.RealModule.{RealModule}
use Rattle.record_blocks.specs.declared.alarm_notification.AlarmNotification.{AlarmNotification}
use Rattle.wire.specs.blocks.modules.Lists.{Listed}
use Rattle.connect_blocks.specs.declared.module_diff.DiffModule.{DiffModule}
use Rattle.connect_blocks.specs.declared.module_diff.DiffSubmodule.{DiffSubmodule}
use Rattle.module_diff.specs.Changes.{affected_by}
use Rattle.records.specs.declared.writes.taken.TakenRecord.{TakenRecord}
use Rattle.diagnosis.specs.Notices.{first_notices, notice_of}
use Rattle.diagnosis.specs.declared.diagnosis.Change.{Change}
use Rattle.diagnosis.specs.declared.diagnosis.Diagnosis.{Diagnosis}
use Rattle.diagnosis.specs.declared.module_change.ModuleChange.{ModuleChange}
use Rattle.diagnosis.specs.declared.queue.QueuedAlarm.{QueuedAlarm}
use Rattle.diagnosis.specs.alarms.Alarms.{Low, is_full as is_low_full, noted}
use Rattle.diagnosis.specs.alarms.Own.{is_own}
use Rattle.diagnosis.specs.Queue.{after_next, alarm_of, begun, diagnosis_queued, is_next, is_reported, module_queued, module_waits, queued, waits_with}
use Rattle.expected_places.specs.declared.place.ExpectedPlace.{ExpectedPlace}
use Rattle.expected_places.specs.declared.place.Step.{Step}
use Rattle.expected_places.specs.Machine.{PlugState, is_hit}
use Rattle.relations.specs.exchange.Diagnosis.{begins_with_one, diagnosed, diagnoses_begun, is_diagnosed, next_reported}
use Rattle.relations.specs.exchange.Flow.{Flow}
use Rattle.relations.specs.exchange.Modules.{modules_restated}
use Rattle.relations.specs.Phases.{with_reported}
use Rattle.relations.specs.Plugging.{changed_by, first_sent, is_crowded, is_sent_then, low_changed, modules_changing, places_then, plugs_after, reported_as}
use Rattle.relations.specs.Plugging.{rows_now, taken_after}
use Rattle.relations.specs.RelationState.{RelationState}
use Rattle.device_frames.specs.Heard.{Heard}
use Rattle.device_core.specs.State.{Live}
use Rattle.both_ends.specs.exchange.Over.{number_in, reported_by}
use Rattle.both_ends.proofs.ExchangeKeys.{KeysSo}
use Rattle.both_ends.proofs.ExchangeLowTied.{reported_next, reported_same}
use Rattle.both_ends.proofs.ExchangeNextTold.{IsNextTold, NextIs, next_is}
use Rattle.both_ends.proofs.ExchangeOwn.{hit_by_keys}
use Rattle.plug_ends.specs.Places.{step_at, step_in, taken_at}
use Rattle.plug_ends.proofs.DeviceGoes.{Alters, Holding, IsTelling, Tells, holding_of}
use Rattle.plug_ends.proofs.ToldPlaces.{Becomes, WaitsFor, next_at, waits_if}
use Rattle.plug_ends.proofs.ToldQueue.{Waits, first_untouched, one_untouched, touches}

some_is : {A : Type 0} (x y : A) → Some x ≡ Some y → x ≡ y
some_is x y e = cc

-- ---- what waits, and which alarm is sent

-- No alarm is sent: these wait then, and the places are these.
pub record IsSilent (link next : RelationState) (middle : PlugState) (waiting : List QueuedAlarm) : Type 0 where
  pub waits : next.flow.low.waiting ≡ waiting
  pub last : next.flow.low.alarms.sender.sending.last ≡ link.flow.low.alarms.sender.sending.last
  pub specifier : next.flow.low.alarms.sender.specifier ≡ link.flow.low.alarms.sender.specifier
  pub taken_is : next.taken ≡ link.taken
  pub places_is : next.plugs.places ≡ middle.places

-- The first that waits is sent, if one can be, from these.
pub record IsNext (link next : RelationState) (middle : PlugState) (waiting : List QueuedAlarm) : Type 0 where
  pub low : Low
  pub waits : low.waiting ≡ waiting
  pub last : low.alarms.sender.sending.last ≡ link.flow.low.alarms.sender.sending.last
  pub specifier : low.alarms.sender.specifier ≡ link.flow.low.alarms.sender.specifier
  pub low_is : next.flow.low ≡ after_next low
  pub taken_is : next.taken ≡ taken_after (first_sent (is_next low) (after_next low)) middle.places link.taken
  pub places_is : next.plugs.places ≡ (plugs_after (first_sent (is_next low) (after_next low)) (after_next low).waiting middle).places

abbrev pub IsSending : RelationState → RelationState → PlugState → List QueuedAlarm → Type 0
IsSending link next middle waiting = IsSilent link next middle waiting ⊎ IsNext link next middle waiting

-- ---- what is reported with it

-- Nothing, or the alarm that has the next number.
abbrev pub Says : RelationState → RelationState → List AlarmNotification → Type 0
Says link next now =
    ((now ≡ []) × (next.flow.low.alarms.sender.specifier ≡ link.flow.low.alarms.sender.specifier))
    ⊎ ((queued : QueuedAlarm) × (now ≡ alarm_of link.flow.low.alarms.sender.specifier queued ∷ [])
    × (next.flow.low.alarms.sender.specifier ≡ (link.flow.low.alarms.sender.specifier + 1) % 2048))

module _ (before after : Option RelationState) (link next : RelationState) (was : before ≡ Some link) (is : after ≡ Some next) where
  pub silent_by : next.flow.low.alarms.sender.sending.last ≡ link.flow.low.alarms.sender.sending.last → reported_by before after ≡ []
  silent_by last =
      reported_same before after
      (ap (λ (l : Option RelationState). number_in l) is ∙ (last ∙ sym (ap (λ (l : Option RelationState). number_in l) was)))

  module _ (middle : PlugState) (waiting : List QueuedAlarm) where
    rests_by : (it : IsNext link next middle waiting) → after_next it.low ≡ it.low → reported_by before after ≡ []
    rests_by it rests = silent_by (ap (λ (l : Low). l.alarms.sender.sending.last) (it.low_is ∙ rests) ∙ it.last)

    tells_by : (it : IsNext link next middle waiting) (told : IsNextTold it.low)
        → reported_by before after ≡ alarm_of it.low.alarms.sender.specifier told.alarm ∷ []
    tells_by it told =
        reported_next before after link next (alarm_of it.low.alarms.sender.specifier told.alarm) it.low.alarms was is it.last
        (ap (λ (l : Low). l.alarms) (it.low_is ∙ told.is))

    pub says_so : IsSending link next middle waiting → Says link next (reported_by before after)
    says_so (inl it) = inl (silent_by it.last, it.specifier)
    says_so (inr it) = by_next (next_is it.low)
      where
        by_next : NextIs it.low → Says link next (reported_by before after)
        by_next (inl rests) = inl (rests_by it rests.0, ap (λ (l : Low). l.alarms.sender.specifier) (it.low_is ∙ rests.0) ∙ it.specifier)
        by_next (inr told) = inr (
          told.alarm,
          tells_by it told ∙ ap (λ (n : ℕ). alarm_of n told.alarm ∷ []) it.specifier,
          ap (λ (l : Low). l.alarms.sender.specifier) (it.low_is ∙ told.is) ∙ ap (λ (n : ℕ). (n + 1) % 2048) it.specifier,
        )

    -- a place of the relation
    pub place_so : IsSending link next middle waiting → (slot subslot : ℕ) (step : Step) → step_at slot subslot middle.places ≡ Some step → Waits slot subslot step waiting
        → Becomes slot subslot link.flow.low.alarms.sender.specifier (Some step) (step_in slot subslot next) (taken_at slot subslot link.taken) (taken_at slot subslot next.taken)
        (reported_by before after) next.flow.low.waiting
    place_so (inl it) slot subslot step here waits =
        let there : step_in slot subslot next ≡ Some step = ap (λ (places : List ExpectedPlace). step_at slot subslot places) it.places_is ∙ here in
        subst (λ (xs : List AlarmNotification). Becomes slot subslot link.flow.low.alarms.sender.specifier (Some step) (step_in slot subslot next) (taken_at slot subslot link.taken)
        (taken_at slot subslot next.taken) xs next.flow.low.waiting) (sym (silent_by it.last)) (record {
          outcome = inl (record { step_is = there; since_is = ap (λ (taken : List TakenRecord). taken_at slot subslot taken) it.taken_is; quiet = refl });
          waits = subst (λ (ws : List QueuedAlarm). WaitsFor slot subslot (step_in slot subslot next) ws) (sym it.waits)
              (waits_if slot subslot (step_in slot subslot next) step waiting there waits);
        })
    place_so (inr it) slot subslot step here waits =
        let becomes = next_at slot subslot (record { taken = link.taken; plugs = middle }) it.low step here
        (subst (λ (ws : List QueuedAlarm). Waits slot subslot step ws) (sym it.waits) waits) (reported_by before after) (rests_by it) (tells_by it) in
        let sent = first_sent (is_next it.low) (after_next it.low) in
        subst (λ (n : ℕ). Becomes slot subslot n (Some step) (step_in slot subslot next) (taken_at slot subslot link.taken) (taken_at slot subslot next.taken)
        (reported_by before after) next.flow.low.waiting) it.specifier
        (subst (λ (places : List ExpectedPlace). Becomes slot subslot it.low.alarms.sender.specifier (Some step) (step_at slot subslot places) (taken_at slot subslot link.taken)
        (taken_at slot subslot next.taken) (reported_by before after) next.flow.low.waiting) (sym it.places_is)
        (subst (λ (taken : List TakenRecord). Becomes slot subslot it.low.alarms.sender.specifier (Some step)
        (step_at slot subslot (plugs_after sent (after_next it.low).waiting middle).places) (taken_at slot subslot link.taken) (taken_at slot subslot taken)
        (reported_by before after) next.flow.low.waiting) (sym it.taken_is)
        (subst (λ (l : Low). Becomes slot subslot it.low.alarms.sender.specifier (Some step)
        (step_at slot subslot (plugs_after sent (after_next it.low).waiting middle).places) (taken_at slot subslot link.taken)
        (taken_at slot subslot (taken_after sent middle.places link.taken)) (reported_by before after) l.waiting) (sym it.low_is) becomes)))

-- ---- the next alarm that waits becomes active, if one does

module _ (link middle : RelationState) (same : holding_of middle ≡ holding_of link) (is_sent : Bool) (flow : Flow) where
  abbrev pub told_link : RelationState
  told_link =
      with_reported flow (taken_after (first_sent is_sent flow.low) middle.plugs.places middle.taken)
      (plugs_after (first_sent is_sent flow.low) flow.low.waiting middle.plugs) middle

  sends_next : (low : Low) (waiting : List QueuedAlarm) → is_sent ≡ is_next low → flow.low ≡ after_next low → low.waiting ≡ waiting
      → low.alarms.sender.sending.last ≡ link.flow.low.alarms.sender.sending.last → low.alarms.sender.specifier ≡ link.flow.low.alarms.sender.specifier
      → IsNext link told_link link.plugs waiting
  sends_next low waiting sent low_is waits last specifier = record {
    low = low;
    waits = waits;
    last = last;
    specifier = specifier;
    low_is = low_is;
    taken_is = ap (λ (b : Bool). taken_after (first_sent b flow.low) middle.plugs.places middle.taken) sent
        ∙ (ap (λ (l : Low). taken_after (first_sent (is_next low) l) middle.plugs.places middle.taken) low_is
        ∙ ap (λ (h : Holding). taken_after (first_sent (is_next low) (after_next low)) h.plugs.places h.taken) same);
    places_is = ap (λ (b : Bool). (plugs_after (first_sent b flow.low) flow.low.waiting middle.plugs).places) sent
        ∙ (ap (λ (l : Low). (plugs_after (first_sent (is_next low) l) l.waiting middle.plugs).places) low_is
        ∙ ap (λ (h : Holding). (plugs_after (first_sent (is_next low) (after_next low)) (after_next low).waiting h.plugs).places) same);
  }

  sends_none : (waiting : List QueuedAlarm) → is_sent ≡ false → flow.low.waiting ≡ waiting
      → flow.low.alarms.sender.sending.last ≡ link.flow.low.alarms.sender.sending.last → flow.low.alarms.sender.specifier ≡ link.flow.low.alarms.sender.specifier
      → IsSilent link told_link link.plugs waiting
  sends_none waiting sent waits last specifier = record {
    waits = waits;
    last = last;
    specifier = specifier;
    taken_is = ap (λ (b : Bool). taken_after (first_sent b flow.low) middle.plugs.places middle.taken) sent ∙ ap (λ (h : Holding). h.taken) same;
    places_is = ap (λ (b : Bool). (plugs_after (first_sent b flow.low) flow.low.waiting middle.plugs).places) sent ∙ ap (λ (h : Holding). h.plugs.places) same;
  }

-- Changes of diagnosis may wait too.
pub record SendsMore (link next : RelationState) : Type 0 where
  pub more : List QueuedAlarm
  pub quiet : (slot subslot : ℕ) → list_any (touches slot subslot) more ≡ false
  pub sending : IsSending link next link.plugs (link.flow.low.waiting ++ more)

no_room : (alarm : QueuedAlarm) (waiting : List QueuedAlarm) (b : Bool)
    → (unwrap_or (cond b (Some (waiting ++ alarm ∷ [])) None) waiting ≡ waiting ++ alarm ∷ []) ⊎ (unwrap_or (cond b (Some (waiting ++ alarm ∷ [])) None) waiting ≡ waiting)
no_room alarm waiting true = inl refl
no_room alarm waiting false = inr refl

module _ (link middle : RelationState) (same : holding_of middle ≡ holding_of link) (waiting : middle.flow.low.waiting ≡ link.flow.low.waiting)
    (last : middle.flow.low.alarms.sender.sending.last ≡ link.flow.low.alarms.sender.sending.last)
    (specifier : middle.flow.low.alarms.sender.specifier ≡ link.flow.low.alarms.sender.specifier) (is_sent : Bool) (flow : Flow) where
  none_more : middle.flow.low.waiting ≡ link.flow.low.waiting ++ []
  none_more = waiting ∙ sym (append-nil link.flow.low.waiting)

  next_sends : is_sent ≡ is_next middle.flow.low → flow ≡ next_reported middle.flow → SendsMore link (told_link link middle same is_sent flow)
  next_sends sent is = record {
    more = [];
    quiet = λ slot subslot. refl;
    sending = inr (sends_next link middle same is_sent flow middle.flow.low (link.flow.low.waiting ++ []) sent (ap (λ (f : Flow). f.low) is) none_more last specifier);
  }

  begun_sends : (real : List RealModule) (diagnoses : List Diagnosis) → is_sent ≡ begins_with_one real diagnoses middle.flow → flow ≡ diagnoses_begun real diagnoses middle.flow
      → SendsMore link (told_link link middle same is_sent flow)
  begun_sends real diagnoses sent is =
      let low = middle.flow.low in
      let notices = first_notices (is_own low.places) diagnoses in
      let more = take (64 - length low.waiting) (map (diagnosis_queued real) notices) in
      record {
        more = more;
        quiet = λ slot subslot. first_untouched slot subslot real (64 - length low.waiting) notices;
        sending = inr (sends_next link middle same is_sent flow (begun real diagnoses low) (link.flow.low.waiting ++ more) sent (ap (λ (f : Flow). f.low) is)
            (ap (λ (ws : List QueuedAlarm). ws ++ more) waiting) last specifier);
      }

  diagnosed_sends : (real : List RealModule) (change : Change) (diagnoses : List Diagnosis) → is_sent ≡ is_diagnosed real change diagnoses middle.flow
      → flow ≡ diagnosed real change diagnoses middle.flow → SendsMore link (told_link link middle same is_sent flow)
  diagnosed_sends real change diagnoses sent is = by_test (is_reported middle.flow.cyclic.begun change middle.flow.low) refl
    where
      low : Low
      low = middle.flow.low

      waits : Low
      waits = waits_with real change diagnoses middle.flow.low

      one : QueuedAlarm
      one = diagnosis_queued real (notice_of (is_own middle.flow.low.places) change diagnoses)

      low_is : (b : Bool) → is_reported middle.flow.cyclic.begun change middle.flow.low ≡ b
          → flow.low ≡ cond b (after_next (waits_with real change diagnoses middle.flow.low)) (noted diagnoses middle.flow.low)
      low_is b e =
          ap (λ (f : Flow). f.low) is ∙ ap (λ (c : Bool). cond c (after_next (waits_with real change diagnoses middle.flow.low)) (noted diagnoses middle.flow.low)) e

      sent_is : (b : Bool) → is_reported middle.flow.cyclic.begun change middle.flow.low ≡ b → is_sent ≡ (b && is_next (waits_with real change diagnoses middle.flow.low))
      sent_is b e = sent ∙ ap (λ (c : Bool). c && is_next (waits_with real change diagnoses middle.flow.low)) e

      by_test : (b : Bool) → is_reported middle.flow.cyclic.begun change middle.flow.low ≡ b → SendsMore link (told_link link middle same is_sent flow)
      by_test false e = record {
        more = [];
        quiet = λ slot subslot. refl;
        sending = inl (sends_none link middle same is_sent flow (link.flow.low.waiting ++ []) (sent_is false e) (ap (λ (l : Low). l.waiting) (low_is false e) ∙ none_more)
            (ap (λ (l : Low). l.alarms.sender.sending.last) (low_is false e) ∙ last) (ap (λ (l : Low). l.alarms.sender.specifier) (low_is false e) ∙ specifier));
      }
      by_test true e = by_room (no_room one middle.flow.low.waiting (nat_lt (length middle.flow.low.waiting) 64))
        where
          by_room : ((waits_with real change diagnoses middle.flow.low).waiting ≡ middle.flow.low.waiting ++ one ∷ [])
              ⊎ ((waits_with real change diagnoses middle.flow.low).waiting ≡ middle.flow.low.waiting) → SendsMore link (told_link link middle same is_sent flow)
          by_room (inl room) = record {
            more = one ∷ [];
            quiet = λ slot subslot. one_untouched slot subslot real (notice_of (is_own middle.flow.low.places) change diagnoses);
            sending = inr (sends_next link middle same is_sent flow (waits_with real change diagnoses middle.flow.low) (link.flow.low.waiting ++ one ∷ []) (sent_is true e) (low_is true e)
                (room ∙ ap (λ (ws : List QueuedAlarm). ws ++ one ∷ []) waiting) last specifier);
          }
          by_room (inr full) = record {
            more = [];
            quiet = λ slot subslot. refl;
            sending = inr (sends_next link middle same is_sent flow (waits_with real change diagnoses middle.flow.low) (link.flow.low.waiting ++ []) (sent_is true e) (low_is true e)
                (full ∙ none_more) last specifier);
          }

  telling_sends : IsTelling is_sent flow middle.flow → SendsMore link (told_link link middle same is_sent flow)
  telling_sends (inl it) = next_sends it.0 it.1
  telling_sends (inr (inl it)) = begun_sends it.0 it.1 it.2 it.3
  telling_sends (inr (inr it)) = diagnosed_sends it.0 it.1 it.2 it.3 it.4

pub tells_send : (before after : Option RelationState) (next : RelationState) (it : Tells before after) → after ≡ Some next → SendsMore it.link next
tells_send before after next it is =
    subst (λ (l : RelationState). SendsMore it.link l) (some_is (told_link it.link it.middle it.same it.is_sent it.flow) next (sym it.becomes ∙ is))
    (telling_sends it.link it.middle it.same it.waiting it.last it.specifier it.is_sent it.flow it.telling)

-- ---- a pull or a plug

-- It waits, if it affects a place.
pub record SendsChange (live : Live) (heard : Heard) (before after : Option RelationState) (it : Alters live heard before after) (next : RelationState) : Type 0 where
  pub has : ℕ → ℕ → Bool
  pub sending :
      ((is_hit (affected_by it.made) (places_then (rows_now it.now it.link) it.made it.link) ≡ false)
      × IsSending it.link next (places_then (rows_now it.now it.link) it.made it.link) it.link.flow.low.waiting)
      ⊎ IsSending it.link next (places_then (rows_now it.now it.link) it.made it.link)
      (it.link.flow.low.waiting ++ module_queued has (reported_as it.link.request (rows_now it.now it.link) it.made) it.made it.diagnoses ∷ [])

-- One more waits, as there is room.
queued_more : (alarm : QueuedAlarm) (low : Low) → is_low_full low ≡ false → (queued alarm low).waiting ≡ low.waiting ++ alarm ∷ []
queued_more alarm low open_room = by_room (nat_lt (length low.waiting) 64) refl
  where
    few : length low.waiting < 32
    few = leb-false 32 (length low.waiting) open_room

    by_room : (b : Bool) → nat_lt (length low.waiting) 64 ≡ b → unwrap_or (cond b (Some (low.waiting ++ alarm ∷ [])) None) low.waiting ≡ low.waiting ++ alarm ∷ []
    by_room true e = refl
    by_room false e = absurd (true≢false (sym (lt-ltb (length low.waiting) 64 (let small = few in omega (arith, small))) ∙ e))

module _ (laws : KeysSo) (live : Live) (heard : Heard) (before after : Option RelationState) (it : Alters live heard before after) where
  abbrev link : RelationState
  link = it.link

  abbrev rows : Listed DiffModule DiffSubmodule
  rows = rows_now it.now it.link

  abbrev middle : PlugState
  middle = places_then rows it.made link

  abbrev stated : Low
  stated = (modules_restated link.request.expected rows it.diagnoses link.flow).low

  abbrev told_as : ModuleChange
  told_as = reported_as link.request rows it.made

  abbrev waits : Low
  waits = module_waits told_as it.made it.diagnoses stated

  abbrev one : QueuedAlarm
  one = module_queued (is_own stated.places) told_as it.made it.diagnoses

  abbrev altered : RelationState
  altered = changed_by rows it.made it.diagnoses link

  low_by : (b c : Bool) → is_hit (affected_by it.made) middle ≡ b → link.flow.cyclic.begun ≡ c → altered.flow.low ≡ low_changed b c told_as it.made it.diagnoses stated
  low_by b c e f =
      ap (λ (d : Bool). low_changed d link.flow.cyclic.begun told_as it.made it.diagnoses stated) e
      ∙ ap (λ (d : Bool). low_changed b d told_as it.made it.diagnoses stated) f

  sent_by : (b c : Bool) → is_hit (affected_by it.made) middle ≡ b → link.flow.cyclic.begun ≡ c → is_sent_then rows it.made it.diagnoses link ≡ (b && (c && is_next waits))
  sent_by b c e f =
      ap (λ (d : Bool). d && (link.flow.cyclic.begun && is_next waits)) e ∙ ap (λ (d : Bool). b && (d && is_next waits)) f

  room : is_hit (affected_by it.made) middle ≡ true → waits.waiting ≡ link.flow.low.waiting ++ one ∷ []
  room e =
      queued_more one stated
      (sym (ap (λ (b : Bool). b && is_low_full link.flow.low) (hit_by_keys (affected_by it.made) link.plugs middle (laws.changed rows it.made link.plugs) ∙ e))
      ∙ (sym (ap (λ (l : Option RelationState). is_crowded (affected_by it.made) l) it.was) ∙ it.open_room))

  silent_as : (low : Low) (waiting : List QueuedAlarm) → altered.flow.low ≡ low → is_sent_then rows it.made it.diagnoses link ≡ false → low.waiting ≡ waiting
      → low.alarms.sender.sending.last ≡ link.flow.low.alarms.sender.sending.last → low.alarms.sender.specifier ≡ link.flow.low.alarms.sender.specifier
      → IsSilent link altered middle waiting
  silent_as low waiting low_is sent waiting_is last specifier = record {
    waits = ap (λ (l : Low). l.waiting) low_is ∙ waiting_is;
    last = ap (λ (l : Low). l.alarms.sender.sending.last) low_is ∙ last;
    specifier = ap (λ (l : Low). l.alarms.sender.specifier) low_is ∙ specifier;
    taken_is = ap (λ (b : Bool). taken_after (first_sent b altered.flow.low) middle.places link.taken) sent;
    places_is = ap (λ (b : Bool). (plugs_after (first_sent b altered.flow.low) altered.flow.low.waiting middle).places) sent;
  }

  by_hit : (b : Bool) → is_hit (affected_by it.made) middle ≡ b → (c : Bool) → link.flow.cyclic.begun ≡ c → SendsChange live heard before after it altered
  by_hit false e c f = record {
    has = is_own stated.places;
    sending = inl (e, inl (silent_as stated link.flow.low.waiting (low_by false c e f) (sent_by false c e f) refl refl refl));
  }
  by_hit true e false f = record {
    has = is_own stated.places;
    sending = inr (inl (silent_as waits (link.flow.low.waiting ++ one ∷ []) (low_by true false e f) (sent_by true false e f) (room e) refl refl));
  }
  by_hit true e true f = record {
    has = is_own stated.places;
    sending = inr (inr (record {
      low = waits;
      waits = room e;
      last = refl;
      specifier = refl;
      low_is = low_by true true e f;
      taken_is = ap (λ (b : Bool). taken_after (first_sent b altered.flow.low) middle.places link.taken) (sent_by true true e f)
          ∙ ap (λ (l : Low). taken_after (first_sent (is_next waits) l) middle.places link.taken) (low_by true true e f);
      places_is = ap (λ (b : Bool). (plugs_after (first_sent b altered.flow.low) altered.flow.low.waiting middle).places) (sent_by true true e f)
          ∙ ap (λ (l : Low). (plugs_after (first_sent (is_next waits) l) l.waiting middle).places) (low_by true true e f);
    }));
  }

  pub alters_send : (next : RelationState) → after ≡ Some next → SendsChange live heard before after it next
  alters_send next is =
      subst (λ (l : RelationState). SendsChange live heard before after it l)
      (some_is altered next (sym (it.becomes ∙ ap (λ (l : Option RelationState). modules_changing it.now it.made it.diagnoses l) it.was) ∙ is))
      (by_hit (is_hit (affected_by it.made) middle) refl link.flow.cyclic.begun refl)
