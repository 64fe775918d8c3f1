-- The changes that a device reported by alarms of low priority, and those that wait, lead to the diagnoses that it has.
use Rattle.std.proofs.Common.{◌≡◌, ◌⊎◌, inl, inr, ◌&&◌, ◌==◌, ◌++◌, ◌-◌, ◌<◌, ◌≤◌, ℕ, Bool, true, false, cond, List, [], ◌∷◌, length, map, Option, Some, None, option_map, refl, sym, ap, subst, ◌∙◌, not, append-nil, append_assoc, arith}
use Rattle.std.specs.Prelude.{is_some, nat_le, nat_lt, unwrap_or}
use Rattle.std.specs.List.{list_any}
use Rattle.std.proofs.lemmas.Bool.{and_parts, false≢true, leb-false, lt-ltb, true≢false}
use Rattle.std.proofs.lemmas.List.{length-append, length-map, map-append, take_all}
use Rattle.std.proofs.lemmas.List.Filters.{length-filter_both}
use Rattle.pn_values.specs.declared.real.RealModule.{RealModule}
use Rattle.record_blocks.specs.declared.alarm_notification.AlarmNotification.{AlarmNotification}
use Rattle.rpc_core.specs.Cache.{Kept as Answer}
use Rattle.diagnosis.specs.Existing.{remaining}
use Rattle.diagnosis.specs.Notices.{first_notice, notice_of}
use Rattle.diagnosis.specs.declared.diagnosis.Change.{Change}
use Rattle.diagnosis.specs.declared.diagnosis.Diagnosis.{Diagnosis}
use Rattle.diagnosis.specs.declared.module_change.ModuleChange.{ModuleChange}
use Rattle.diagnosis.specs.declared.queue.LowChange.{LowChange}
use Rattle.diagnosis.specs.declared.queue.LowChange.TheVariants as change_is
use Rattle.diagnosis.specs.declared.queue.QueuedAlarm.{QueuedAlarm}
use Rattle.diagnosis.specs.alarms.Alarms.{Low, is_full as is_low_full, noted}
use Rattle.diagnosis.specs.Queue.{after_next, alarm_of, begun, diagnosis_queued, is_reported, module_queued, module_waits, queued, reach_of, waits_with}
use Rattle.diagnosis.specs.alarms.Own.{is_own}
use Rattle.diagnosis.specs.declared.alarms.own.Place.{Place}
use Rattle.module_diff.specs.Changes.{affected_by, covers}
use Rattle.module_diff.specs.Diff.{is_listed}
use Rattle.module_diff.specs.Plugged.{module_ident, submodule_ident}
use Rattle.pn_alarms.specs.declared.message.Notice.TheVariants as notice
use Rattle.pn_alarms.specs.Device.{end_with}
use Rattle.pn_alarms.specs.Ends.{DeviceEnd}
use Rattle.expected_places.specs.Machine.{is_hit}
use Rattle.relations.specs.exchange.Diagnosis.{diagnosed}
use Rattle.relations.specs.exchange.Flow.{Flow}
use Rattle.relations.specs.exchange.Modules.{modules_restated}
use Rattle.relations.specs.Diagnosed.{diagnosing, has_sent_low, is_full_in}
use Rattle.relations.specs.Plugging.{asks, flow_then, is_crowded, low_changed, modules_changing, places_then, reported_as, rows_now, sent_then}
use Rattle.relations.specs.RelationState.{RelationState, is_exchanging}
use Rattle.relations.specs.Phases.{exchanging_from, made_of, updated, with_flow}
use Rattle.relations.specs.Timers.{unit_later}
use Rattle.device_frames.specs.Heard.{Heard}
use Rattle.device_frames.specs.Sent.{Sent}
use Rattle.diagnosis.specs.reported.Followed.{Reports, at_places}
use Rattle.end_laws.specs.turns.Alarms.{report_as}
use Rattle.diagnosis.specs.declared.reports.priority.Priority.TheVariants.{Low as low_priority}
use Rattle.end_laws.specs.device.Orderly.{keys_of}
use Rattle.end_laws.specs.device.Turn.{Begins, Changes, Diagnoses, HearsLowData, Makes, Standing, change_heard, heard_low_in}
use Rattle.both_ends.specs.exchange.Over.{number_in, reported_by}
use Rattle.both_ends.specs.exchange.Sized.{NoneIsAtZero}
use Rattle.both_ends.specs.exchange.Told.{AreKnown, AreOwn, AreReports, IsReport, ReportsModule, change_in}
use Rattle.both_ends.proofs.ExchangeKeys.{KeysSo}
use Rattle.both_ends.proofs.ExchangeKnown.{ElsewhereSo, changed_channel, changed_known, first_own, first_queued, known_few, own_append, own_changed, own_same, rebuilt, remaining_known}
use Rattle.both_ends.proofs.ExchangeLists.{none_some, some_is}
use Rattle.both_ends.proofs.ExchangeLowTied.{ack_last, data_last, reported_next, reported_same}
use Rattle.both_ends.proofs.ExchangeNextTold.{IsNextTold, NextIs, after_places, next_is}
use Rattle.both_ends.proofs.ExchangeOwn.{empty_own, hit_by_keys, is_expected, missed, not_own, own_places, same_own}
use Rattle.both_ends.proofs.ExchangeSteps.{IsStepIf, IsToldIf, LeadsIf, all_more, one_more}
use Rattle.both_ends.proofs.ExchangeStated.{IsModules, IsStated, all_remain, later_keys, modules_so, places_remain, same_stated}
use Rattle.both_ends.proofs.ExchangeTied.{begun_keys, begun_link, changed_link, diagnosed_keys, diagnosed_link, may_be, next_keys, next_link, way_before}
use Rattle.both_ends.proofs.ExchangeTurns.{IsSameOr, IsTurn, Way, way_of}

-- ---- what was reported

abbrev own_of : Low → ℕ → ℕ → Bool
own_of low = is_own low.places

-- before data is exchanged, nothing was reported, and only pulls and plugs wait
pub record IsWaiting (Apart : Type 0) (low : Low) (raised : List AlarmNotification) : Type 0 where
  pub none : raised ≡ []
  pub unsent : low.alarms.sender.sending.last ≡ None
  pub few : length low.waiting ≤ 32
  pub leads : LeadsIf Apart (map change_in low.waiting) [] []
  pub own : (has : ℕ → ℕ → Bool) → AreOwn has (map change_in low.waiting)

-- while it is, what was reported, and what waits, lead to the diagnoses
pub record Knows (Apart : Type 0) (real : List RealModule) (link : Option RelationState) (diagnoses : List Diagnosis) (raised : List AlarmNotification) : Type 0 where
  pub known : AreKnown diagnoses
  pub none : Apart → NoneIsAtZero real
  pub begins : (l : RelationState) → link ≡ Some l → l.flow.cyclic.begun ≡ is_exchanging l.phase
  pub stated : (l : RelationState) → link ≡ Some l → IsStated real l
  pub before : (l : RelationState) → link ≡ Some l → is_exchanging l.phase ≡ false → IsWaiting Apart l.flow.low raised
  pub told : (l : RelationState) → link ≡ Some l → is_exchanging l.phase ≡ true → IsToldIf Apart l.flow.low diagnoses raised

pub over_knows : (Apart : Type 0) (real : List RealModule) (link : Option RelationState) (diagnoses : List Diagnosis) (raised : List AlarmNotification) → AreKnown diagnoses
    → (Apart → NoneIsAtZero real) → link ≡ None → Knows Apart real link diagnoses raised
over_knows Apart real link diagnoses raised known empty none = record {
  known = known;
  none = empty;
  begins = λ l is. absurd (none_some l link none is);
  stated = λ l is. absurd (none_some l link none is);
  before = λ l is off. absurd (none_some l link none is);
  told = λ l is on. absurd (none_some l link none is);
}

more_reports : (changes : List LowChange) (alarms : List AlarmNotification) (change : LowChange) (alarm : AlarmNotification) → AreReports changes alarms → IsReport change alarm
    → AreReports (changes ++ change ∷ []) (alarms ++ alarm ∷ [])
more_reports [] [] change alarm all one = (one, tt)
more_reports [] (other ∷ alarms) change alarm all one = absurd all
more_reports (first ∷ changes) [] change alarm all one = absurd all
more_reports (first ∷ changes) (other ∷ alarms) change alarm all one = (all.0, more_reports changes alarms change alarm all.1 one)

-- the alarm of a change reports it
alarm_reports : (sequence : ℕ) (alarm : QueuedAlarm) (change : LowChange) → alarm.change ≡ change → IsReport change (alarm_of sequence alarm)
alarm_reports sequence alarm (change_is.Diagnosis made) e =
    subst (λ (c : LowChange). Reports made (report_as low_priority (alarm_of sequence (record alarm { change = c })))) (sym e)
    (record { kind = refl; slot = refl; subslot = refl; structure = refl; octets = refl })
alarm_reports sequence alarm (change_is.Module made) e =
    subst (λ (c : LowChange). ReportsModule made (alarm_of sequence (record alarm { change = c }))) (sym e) (record { type_is = refl; api = refl; slot = refl; subslot = refl; octets = refl })

-- ---- the next change

-- it is reported, if it can be
next_told : (Apart : Type 0) (low : Low) (diagnoses : List Diagnosis) (raised now : List AlarmNotification)
    → ((rests : after_next low ≡ low) → now ≡ []) → ((told : IsNextTold low) → now ≡ alarm_of low.alarms.sender.specifier told.alarm ∷ [])
    → IsToldIf Apart low diagnoses raised → IsToldIf Apart (after_next low) diagnoses (raised ++ now)
next_told Apart low diagnoses raised now silent tells is = by_next (next_is low)
  where
    by_next : NextIs low → IsToldIf Apart (after_next low) diagnoses (raised ++ now)
    by_next (inl rests) =
        subst (λ (l : Low). IsToldIf Apart l diagnoses (raised ++ now)) (sym rests.0)
        (subst (λ (xs : List AlarmNotification). IsToldIf Apart low diagnoses xs) (sym (ap (λ (xs : List AlarmNotification). raised ++ xs) (silent rests.0) ∙ append-nil raised)) is)
    by_next (inr told) =
        let change = told.alarm.change in
        let alarm = alarm_of low.alarms.sender.specifier told.alarm in
        let later : Low = record low {
          alarms = end_with low.alarms (alarm_of low.alarms.sender.specifier told.alarm);
          waiting = told.rest;
          sent = Some (record { change = told.alarm.change; number = low.alarms.sender.specifier });
        } in
        subst (λ (l : Low). IsToldIf Apart l diagnoses (raised ++ now)) (sym told.is)
        (subst (λ (xs : List AlarmNotification). IsToldIf Apart later diagnoses (raised ++ xs)) (sym (tells told)) (record {
          changes = is.changes ++ change ∷ [];
          reports = more_reports is.changes raised change alarm is.reports (alarm_reports low.alarms.sender.specifier told.alarm told.alarm.change refl);
          leads = subst (λ (xs : List LowChange). LeadsIf Apart xs [] (at_places (own_of low) diagnoses)) (sym (append_assoc is.changes (change ∷ []) (map change_in told.rest)))
              (subst (λ (xs : List QueuedAlarm). LeadsIf Apart (is.changes ++ map change_in xs) [] (at_places (own_of low) diagnoses)) told.waits is.leads);
          own = subst (λ (xs : List LowChange). AreOwn (own_of low) xs) (sym (append_assoc is.changes (change ∷ []) (map change_in told.rest)))
              (subst (λ (xs : List QueuedAlarm). AreOwn (own_of low) (is.changes ++ map change_in xs)) told.waits is.own);
        }))

-- which change is reported with that
next_now : (before after : Option RelationState) (link next : RelationState) (middle : Low) → before ≡ Some link → middle.alarms.sender.sending.last ≡ link.flow.low.alarms.sender.sending.last
    → after ≡ Some next → next.flow.low ≡ after_next middle → (rests : after_next middle ≡ middle) → reported_by before after ≡ []
next_now before after link next middle was same becomes low_is rests =
    reported_same before after
    (ap (λ (l : Option RelationState). number_in l) becomes ∙ (ap (λ (low : Low). low.alarms.sender.sending.last) (low_is ∙ rests) ∙ (same ∙ sym (ap (λ (l : Option RelationState). number_in l) was))))

told_now : (before after : Option RelationState) (link next : RelationState) (middle : Low) → before ≡ Some link → middle.alarms.sender.sending.last ≡ link.flow.low.alarms.sender.sending.last
    → after ≡ Some next → next.flow.low ≡ after_next middle → (told : IsNextTold middle) → reported_by before after ≡ alarm_of middle.alarms.sender.specifier told.alarm ∷ []
told_now before after link next middle was same becomes low_is told =
    reported_next before after link next (alarm_of middle.alarms.sender.specifier told.alarm) middle.alarms was becomes same (ap (λ (low : Low). low.alarms) (low_is ∙ told.is))

-- ---- the queue

-- one more change waits, as there is room
queued_more : (alarm : QueuedAlarm) (low : Low) → is_low_full low ≡ false → (length low.waiting < 32) × ((queued alarm low).waiting ≡ low.waiting ++ alarm ∷ [])
queued_more alarm low open_room = by_full (nat_le 32 (length low.waiting)) refl open_room
  where
    by_room : length low.waiting < 32 → (b : Bool) → nat_lt (length low.waiting) 64 ≡ b → unwrap_or (cond b (Some (low.waiting ++ alarm ∷ [])) None) low.waiting ≡ low.waiting ++ alarm ∷ []
    by_room few true e = refl
    by_room few false e = absurd (true≢false (sym (lt-ltb (length low.waiting) 64 (omega (arith, few))) ∙ e))

    by_full : (b : Bool) → nat_le 32 (length low.waiting) ≡ b → b ≡ false → (length low.waiting < 32) × ((queued alarm low).waiting ≡ low.waiting ++ alarm ∷ [])
    by_full true f g = absurd (true≢false g)
    by_full false f g = let few = leb-false 32 (length low.waiting) f in (few, by_room few (nat_lt (length low.waiting) 64) refl)

waited : (changes : List LowChange) (ws : List QueuedAlarm) (one : QueuedAlarm) → changes ++ map change_in (ws ++ one ∷ []) ≡ (changes ++ map change_in ws) ++ one.change ∷ []
waited changes ws one = ap (λ (xs : List LowChange). changes ++ xs) (map-append change_in ws (one ∷ [])) ∙ sym (append_assoc changes (map change_in ws) (one.change ∷ []))

one_longer : (ws : List QueuedAlarm) (one : QueuedAlarm) → length ws < 32 → length (ws ++ one ∷ []) ≤ 32
one_longer ws one few = let long = length-append ws (one ∷ []) in omega (arith, few, long)

-- ---- a turn

module _ (laws : KeysSo) (elsewhere : ElsewhereSo) (Apart : Type 0) (real : List RealModule) (before : Option RelationState) (diagnoses : List Diagnosis) (raised : List AlarmNotification) (knows : Knows Apart real before diagnoses raised) where
  -- the relation became this one, in which as much was reported
  becomes_so : (now : List RealModule) (after : Option RelationState) (link next : RelationState) (later : List Diagnosis) (told : List AlarmNotification) → AreKnown later → (Apart → NoneIsAtZero now)
      → before ≡ Some link → after ≡ Some next
      → next.flow.cyclic.begun ≡ link.flow.cyclic.begun → next.phase ≡ link.phase → IsStated now next → told ≡ reported_by before after
      → (is_exchanging link.phase ≡ false → IsWaiting Apart link.flow.low raised → IsWaiting Apart next.flow.low (raised ++ told))
      → (is_exchanging link.phase ≡ true → IsToldIf Apart link.flow.low diagnoses raised → IsToldIf Apart next.flow.low later (raised ++ told))
      → Knows Apart now after later (raised ++ reported_by before after)
  becomes_so now after link next later told known empty was becomes begun_same phase_same stated_so now_is silent on_so =
      subst (λ (xs : List AlarmNotification). Knows Apart now after later (raised ++ xs)) now_is (record {
        known = known;
        none = empty;
        begins = λ l is. by_link l (some_is next l (sym becomes ∙ is));
        stated = λ l is. subst (λ (k : RelationState). IsStated now k) (some_is next l (sym becomes ∙ is)) stated_so;
        before = λ l is quiet. by_quiet l (some_is next l (sym becomes ∙ is)) quiet;
        told = λ l is up. by_told l (some_is next l (sym becomes ∙ is)) up;
      })
    where
      phase_is : (l : RelationState) → next ≡ l → is_exchanging l.phase ≡ is_exchanging link.phase
      phase_is l e = ap (λ (k : RelationState). is_exchanging k.phase) (sym e) ∙ ap is_exchanging phase_same

      by_link : (l : RelationState) → next ≡ l → l.flow.cyclic.begun ≡ is_exchanging l.phase
      by_link l e = ap (λ (k : RelationState). k.flow.cyclic.begun) (sym e) ∙ (begun_same ∙ (knows.begins link was ∙ sym (phase_is l e)))

      by_quiet : (l : RelationState) → next ≡ l → is_exchanging l.phase ≡ false → IsWaiting Apart l.flow.low (raised ++ told)
      by_quiet l e quiet =
          let off = sym (phase_is l e) ∙ quiet in
          subst (λ (k : RelationState). IsWaiting Apart k.flow.low (raised ++ told)) e (silent off (knows.before link was off))

      by_told : (l : RelationState) → next ≡ l → is_exchanging l.phase ≡ true → IsToldIf Apart l.flow.low later (raised ++ told)
      by_told l e up =
          let on = sym (phase_is l e) ∙ up in
          subst (λ (k : RelationState). IsToldIf Apart k.flow.low later (raised ++ told)) e (on_so on (knows.told link was on))

  -- nothing is reported, and the same waits
  waits_so : (low next : Low) → next.waiting ≡ low.waiting → next.alarms.sender.sending.last ≡ low.alarms.sender.sending.last → IsWaiting Apart low raised → IsWaiting Apart next (raised ++ [])
  waits_so low next waiting last waits = record {
    none = append-nil raised ∙ waits.none;
    unsent = last ∙ waits.unsent;
    few = subst (λ (ws : List QueuedAlarm). length ws ≤ 32) (sym waiting) waits.few;
    leads = subst (λ (ws : List QueuedAlarm). LeadsIf Apart (map change_in ws) [] []) (sym waiting) waits.leads;
    own = λ has. subst (λ (ws : List QueuedAlarm). AreOwn has (map change_in ws)) (sym waiting) (waits.own has);
  }

  -- the same was reported of these diagnoses
  told_so : (low next : Low) (later : List Diagnosis) → next.waiting ≡ low.waiting → ((slot subslot : ℕ) → own_of next slot subslot ≡ own_of low slot subslot) → at_places (own_of next) later ≡ at_places (own_of low) diagnoses → IsToldIf Apart low diagnoses raised → IsToldIf Apart next later (raised ++ [])
  told_so low next later waiting places same told = record {
    changes = told.changes;
    reports = subst (λ (xs : List AlarmNotification). AreReports told.changes xs) (sym (append-nil raised)) told.reports;
    leads = subst (λ (xs : List Diagnosis). LeadsIf Apart (told.changes ++ map change_in next.waiting) [] xs) (sym same)
        (subst (λ (ws : List QueuedAlarm). LeadsIf Apart (told.changes ++ map change_in ws) [] (at_places (own_of low) diagnoses)) (sym waiting) told.leads);
    own = own_same (own_of low) (own_of next) places (told.changes ++ map change_in next.waiting)
        (subst (λ (ws : List QueuedAlarm). AreOwn (own_of low) (told.changes ++ map change_in ws)) (sym waiting) told.own);
  }

  -- nothing of low priority is said, and the same changes wait
  same_so : (after : Option RelationState) (link next : RelationState) → before ≡ Some link → after ≡ Some next → next.flow.cyclic.begun ≡ link.flow.cyclic.begun → next.phase ≡ link.phase
      → next.request ≡ link.request → keys_of next.plugs.places ≡ keys_of link.plugs.places
      → next.flow.low.waiting ≡ link.flow.low.waiting → next.flow.low.places ≡ link.flow.low.places → next.flow.low.alarms.sender.sending.last ≡ link.flow.low.alarms.sender.sending.last
      → Knows Apart real after diagnoses (raised ++ reported_by before after)
  same_so after link next was becomes begun_same phase_same request keys waiting places last =
      becomes_so real after link next diagnoses [] knows.known knows.none was becomes begun_same phase_same
      (same_stated real link next request places keys (knows.stated link was))
      (sym (reported_same before after (ap (λ (l : Option RelationState). number_in l) becomes ∙ (last ∙ sym (ap (λ (l : Option RelationState). number_in l) was)))))
      (λ off waits. waits_so link.flow.low next.flow.low waiting last waits)
      (λ on told. told_so link.flow.low next.flow.low diagnoses waiting (λ slot subslot. ap (λ (p : List Place). is_own p slot subslot) places) (ap (λ (p : List Place). at_places (is_own p) diagnoses) places) told)

  stays_so : (after : Option RelationState) → IsSameOr before after → Knows Apart real after diagnoses (raised ++ reported_by before after)
  stays_so after (inl same) = record {
    known = knows.known;
    none = knows.none;
    begins = λ l is. let there = found l is in ap (λ (way : Way). way.begun) there.2 ∙ (knows.begins there.0 there.1 ∙ ap (λ (way : Way). way.exchanges) (sym there.2));
    stated = λ l is. let there = found l is in
        same_stated real there.0 l (ap (λ (way : Way). way.request) there.2) (ap (λ (way : Way). way.low.places) there.2) (ap (λ (way : Way). way.keys) there.2) (knows.stated there.0 there.1);
    before = λ l is off. let there = found l is in
        subst (λ (low : Low). IsWaiting Apart low (raised ++ reported_by before after)) (ap (λ (way : Way). way.low) (sym there.2))
        (subst (λ (xs : List AlarmNotification). IsWaiting Apart there.0.flow.low xs) (sym silent) (knows.before there.0 there.1 (ap (λ (way : Way). way.exchanges) (sym there.2) ∙ off)));
    told = λ l is on. let there = found l is in
        subst (λ (low : Low). IsToldIf Apart low diagnoses (raised ++ reported_by before after)) (ap (λ (way : Way). way.low) (sym there.2))
        (subst (λ (xs : List AlarmNotification). IsToldIf Apart there.0.flow.low diagnoses xs) (sym silent) (knows.told there.0 there.1 (ap (λ (way : Way). way.exchanges) (sym there.2) ∙ on)));
  }
    where
      found : (l : RelationState) → after ≡ Some l → (k : RelationState) × (before ≡ Some k) × (way_of l ≡ way_of k)
      found l is = way_before before (way_of l) (ap (λ (o : Option RelationState). option_map way_of o) (sym is) ∙ same)

      numbers : (one other : Option RelationState) → option_map way_of other ≡ option_map way_of one → number_in other ≡ number_in one
      numbers None None e = refl
      numbers None (Some other) e = absurd cc
      numbers (Some one) None e = absurd cc
      numbers (Some one) (Some other) e = ap (λ (way : Way). way.low.alarms.sender.sending.last) (some_is (way_of other) (way_of one) e)

      silent : raised ++ reported_by before after ≡ raised
      silent = ap (λ (xs : List AlarmNotification). raised ++ xs) (reported_same before after (numbers before after same)) ∙ append-nil raised
  stays_so after (inr gone) = over_knows Apart real after diagnoses (raised ++ reported_by before after) knows.known knows.none gone

  -- a relation is made
  makes_so : (calls : List Answer) (heard : Heard) (after : Option RelationState) (sent : List Sent) → before ≡ None → raised ≡ [] → ((l : RelationState) → after ≡ Some l → IsStated real l)
      → Makes calls before heard after sent → Knows Apart real after diagnoses (raised ++ reported_by before after)
  makes_so calls heard after sent none empty stated_so makes = record {
    known = knows.known;
    none = knows.none;
    begins = λ l is. subst (λ (k : RelationState). k.flow.cyclic.begun ≡ is_exchanging k.phase) (made l is) refl;
    stated = stated_so;
    before = λ l is off. subst (λ (k : RelationState). IsWaiting Apart k.flow.low (raised ++ reported_by before after)) (made l is)
        (record { none = silent ∙ empty; unsent = refl; few = omega arith; leads = refl; own = λ has. tt });
    told = λ l is on. absurd (false≢true (ap (λ (k : RelationState). is_exchanging k.phase) (made l is) ∙ on));
  }
    where
      made : (l : RelationState) → after ≡ Some l → made_of makes.request makes.partner makes.rows makes.options makes.starting ≡ l
      made l is = some_is (made_of makes.request makes.partner makes.rows makes.options makes.starting) l (sym makes.made ∙ is)

      silent : raised ++ reported_by before after ≡ raised
      silent = ap (λ (xs : List AlarmNotification). raised ++ xs)
          (reported_same before after (ap (λ (l : Option RelationState). number_in l) makes.made ∙ sym (ap (λ (l : Option RelationState). number_in l) none))) ∙ append-nil raised

  -- the next change is reported, if it can be, after this
  next_so : (now : List RealModule) (after : Option RelationState) (link next : RelationState) (middle : Low) (later : List Diagnosis) → AreKnown later → (Apart → NoneIsAtZero now) → before ≡ Some link
      → middle.alarms.sender.sending.last ≡ link.flow.low.alarms.sender.sending.last → after ≡ Some next → next.flow.low ≡ after_next middle
      → next.flow.cyclic.begun ≡ link.flow.cyclic.begun → next.phase ≡ link.phase → IsStated now next → is_exchanging link.phase ≡ true
      → (IsToldIf Apart link.flow.low diagnoses raised → IsToldIf Apart middle later raised)
      → Knows Apart now after later (raised ++ reported_by before after)
  next_so now after link next middle later known empty was last becomes low_is begun_same phase_same stated_so up told =
      becomes_so now after link next later (reported_by before after) known empty was becomes begun_same phase_same stated_so refl
      (λ off waits. absurd (false≢true (sym off ∙ up)))
      (λ on so. subst (λ (low : Low). IsToldIf Apart low later (raised ++ reported_by before after)) (sym low_is)
      (next_told Apart middle later raised (reported_by before after)
      (λ rests. next_now before after link next middle was last becomes low_is rests)
      (λ tells. told_now before after link next middle was last becomes low_is tells) (told so)))

  -- whether data is exchanged
  exchanges_if : (phase_on : Bool) → (phase_on ≡ false → ⊥) → phase_on ≡ true
  exchanges_if true never = refl
  exchanges_if false never = absurd (never refl)

  -- an AlarmAck of low priority, and then the next change
  low_data_so : (heard : Heard) (after : Option RelationState) (sent : List Sent) → HearsLowData before heard after sent → Knows Apart real after diagnoses (raised ++ reported_by before after)
  low_data_so heard after sent came =
      let link = came.link in
      let middle = heard_low_in link (notice.Data came.number came.ack) in
      next_so real after link (next_link middle) middle.flow.low diagnoses knows.known knows.none came.was (data_last link.flow.low.alarms came.number came.ack) came.becomes refl refl refl
      (same_stated real link (next_link middle) refl (after_places middle.flow.low) (next_keys laws middle) (knows.stated link came.was))
      (exchanges_if (is_exchanging link.phase) never)
      (λ told. record { changes = told.changes; reports = told.reports; leads = told.leads; own = told.own })
    where
      none_is : (o : Option ℕ) → o ≡ None → is_some o ≡ true → ⊥
      none_is None e f = absurd cc
      none_is (Some n) e f = absurd cc

      never : is_exchanging came.link.phase ≡ false → ⊥
      never off = none_is came.link.flow.low.alarms.sender.sending.last (knows.before came.link came.was off).unsent
          (ap (λ (l : Option RelationState). has_sent_low l) (sym came.was) ∙ came.has_sent)

  -- data is exchanged from now on
  begins_so : (after : Option RelationState) (sent : List Sent) → Begins real diagnoses before after sent → Knows Apart real after diagnoses (raised ++ reported_by before after)
  begins_so after sent begins = record {
    known = knows.known;
    none = knows.none;
    begins = λ l is. subst (λ (k : RelationState). k.flow.cyclic.begun ≡ is_exchanging k.phase) (made l is) refl;
    stated = λ l is. subst (λ (k : RelationState). IsStated real k) (made l is)
        (same_stated real begins.link (begun_link real diagnoses (exchanging_from begins.link)) refl (after_places first) (begun_keys laws real diagnoses (exchanging_from begins.link)) (knows.stated begins.link begins.was));
    before = λ l is off. absurd (true≢false (ap (λ (k : RelationState). is_exchanging k.phase) (made l is) ∙ off));
    told = λ l is on. subst (λ (k : RelationState). IsToldIf Apart k.flow.low diagnoses (raised ++ reported_by before after)) (made l is) all_told;
  }
    where
      first : Low
      first = begun real diagnoses begins.link.flow.low

      made : (l : RelationState) → after ≡ Some l → begun_link real diagnoses (exchanging_from begins.link) ≡ l
      made l is = some_is (begun_link real diagnoses (exchanging_from begins.link)) l (sym begins.becomes ∙ is)

      waits : IsWaiting Apart begins.link.flow.low raised
      waits = knows.before begins.link begins.was (ap is_exchanging begins.awaits)

      own : List Diagnosis
      own = at_places (own_of begins.link.flow.low) diagnoses

      few : length (first_queued real (at_places (own_of begins.link.flow.low) diagnoses)) ≤ 32
      few =
          let own_few = length-filter_both (λ (diagnosis : Diagnosis). own_of begins.link.flow.low diagnosis.slot diagnosis.subslot) (λ (diagnosis : Diagnosis). not (own_of begins.link.flow.low diagnosis.slot diagnosis.subslot)) (λ _. refl) diagnoses in
          let all_few = known_few [] diagnoses (omega arith) knows.known in
          let one = length-map (map first_notice (at_places (own_of begins.link.flow.low) diagnoses)) (diagnosis_queued real) in
          let two = length-map (at_places (own_of begins.link.flow.low) diagnoses) first_notice in
          omega (arith, own_few, all_few, one, two)

      all_wait : (begun real diagnoses begins.link.flow.low).waiting ≡ begins.link.flow.low.waiting ++ first_queued real (at_places (own_of begins.link.flow.low) diagnoses)
      all_wait =
          ap (λ (ws : List QueuedAlarm). begins.link.flow.low.waiting ++ ws)
          (take_all (64 - length begins.link.flow.low.waiting) (first_queued real (at_places (own_of begins.link.flow.low) diagnoses)) (let some = waits.few in omega (arith, few, some)))

      leads : LeadsIf Apart (map change_in (begun real diagnoses begins.link.flow.low).waiting) [] (at_places (own_of begins.link.flow.low) diagnoses)
      leads =
          subst (λ (ws : List QueuedAlarm). LeadsIf Apart (map change_in ws) [] (at_places (own_of begins.link.flow.low) diagnoses)) (sym all_wait)
          (subst (λ (xs : List LowChange). LeadsIf Apart xs [] (at_places (own_of begins.link.flow.low) diagnoses)) (sym (map-append change_in begins.link.flow.low.waiting (first_queued real (at_places (own_of begins.link.flow.low) diagnoses))))
          (all_more Apart (map change_in begins.link.flow.low.waiting) (map change_in (first_queued real (at_places (own_of begins.link.flow.low) diagnoses))) [] [] (at_places (own_of begins.link.flow.low) diagnoses) waits.leads
          (rebuilt elsewhere Apart real (own_of begins.link.flow.low) [] diagnoses knows.known)))

      own_now : AreOwn (own_of begins.link.flow.low) (map change_in (begun real diagnoses begins.link.flow.low).waiting)
      own_now =
          subst (λ (ws : List QueuedAlarm). AreOwn (own_of begins.link.flow.low) (map change_in ws)) (sym all_wait)
          (subst (λ (xs : List LowChange). AreOwn (own_of begins.link.flow.low) xs) (sym (map-append change_in begins.link.flow.low.waiting (first_queued real (at_places (own_of begins.link.flow.low) diagnoses))))
          (own_append (own_of begins.link.flow.low) (map change_in begins.link.flow.low.waiting) (map change_in (first_queued real (at_places (own_of begins.link.flow.low) diagnoses)))
          (waits.own (own_of begins.link.flow.low)) (first_own real (own_of begins.link.flow.low) diagnoses)))

      first_told : IsToldIf Apart (begun real diagnoses begins.link.flow.low) diagnoses raised
      first_told = record {
        changes = [];
        reports = subst (λ (xs : List AlarmNotification). AreReports [] xs) (sym waits.none) tt;
        leads = leads;
        own = own_now;
      }

      all_told : IsToldIf Apart (begun_link real diagnoses (exchanging_from begins.link)).flow.low diagnoses (raised ++ reported_by before after)
      all_told =
          next_told Apart (begun real diagnoses begins.link.flow.low) diagnoses raised (reported_by before after)
          (λ rests. next_now before after begins.link (begun_link real diagnoses (exchanging_from begins.link)) first begins.was refl begins.becomes refl rests)
          (λ tells. told_now before after begins.link (begun_link real diagnoses (exchanging_from begins.link)) first begins.was refl begins.becomes refl tells) first_told

  -- ---- a change of diagnosis

  module _ (heard : Heard) (after : Option RelationState) (later : List Diagnosis) (sent : List Sent) (changes : Diagnoses real diagnoses later before heard after sent)
      (small : (change : Change) → heard ≡ change_heard change → change.diagnosis.error < 65536) where
    known_so : AreKnown later
    known_so = changed_known changes.change diagnoses later changes.changes (small changes.change changes.is) knows.known

    -- the change is a step at the submodules of the relation
    step_so : (low : Low) → own_of low changes.change.diagnosis.slot changes.change.diagnosis.subslot ≡ true
        → IsStepIf Apart (change_is.Diagnosis changes.change) (at_places (own_of low) diagnoses) (at_places (own_of low) later)
    step_so low own = record {
      step = record {
        has = own_of low;
        before = diagnoses;
        after = later;
        own = own;
        channel = changed_channel changes.change diagnoses later changes.changes knows.known;
        error = small changes.change changes.is;
        is = changes.changes;
        from_is = refl;
        next_is = refl;
      };
      seen = λ _. tt;
    }

    by_link : (link : RelationState) → before ≡ Some link → Knows Apart real after later (raised ++ reported_by before after)
    by_link link was = by_test (is_reported link.flow.cyclic.begun changes.change link.flow.low) refl
      where
        next : RelationState
        next = diagnosed_link real changes.change later link

        waits : Low
        waits = waits_with real changes.change later link.flow.low

        becomes_it : after ≡ Some (diagnosed_link real changes.change later link)
        becomes_it = changes.becomes ∙ ap (λ (l : Option RelationState). updated (diagnosing real changes.change later l) l) was

        stated_by : (low : Low) → (diagnosed_link real changes.change later link).flow.low ≡ low → low.places ≡ link.flow.low.places → IsStated real (diagnosed_link real changes.change later link)
        stated_by low is places =
            same_stated real link (diagnosed_link real changes.change later link) refl (ap (λ (l : Low). l.places) is ∙ places) (diagnosed_keys laws real changes.change later link) (knows.stated link was)

        -- it concerns no submodule of the relation, or data is not exchanged
        elsewhere_so : is_exchanging link.phase ≡ true → is_reported link.flow.cyclic.begun changes.change link.flow.low ≡ false
            → at_places (own_of link.flow.low) later ≡ at_places (own_of link.flow.low) diagnoses
        elsewhere_so on quiet =
            elsewhere (own_of link.flow.low) changes.change diagnoses later
            (sym (ap (λ (b : Bool). b && own_of link.flow.low changes.change.diagnosis.slot changes.change.diagnosis.subslot) (knows.begins link was ∙ on)) ∙ quiet) changes.changes

        by_test : (b : Bool) → is_reported link.flow.cyclic.begun changes.change link.flow.low ≡ b → Knows Apart real after later (raised ++ reported_by before after)
        by_test false e =
            let same : (diagnosed real changes.change later link.flow).low ≡ noted later link.flow.low =
            ap (λ (b : Bool). cond b (after_next (waits_with real changes.change later link.flow.low)) (noted later link.flow.low)) e in
            becomes_so real after link next later [] known_so knows.none was becomes_it refl refl (stated_by (noted later link.flow.low) same refl)
            (sym (reported_same before after (ap (λ (l : Option RelationState). number_in l) becomes_it
            ∙ (ap (λ (low : Low). low.alarms.sender.sending.last) same ∙ sym (ap (λ (l : Option RelationState). number_in l) was)))))
            (λ off waiting. waits_so link.flow.low next.flow.low (ap (λ (low : Low). low.waiting) same) (ap (λ (low : Low). low.alarms.sender.sending.last) same) waiting)
            (λ on told. told_so link.flow.low next.flow.low later (ap (λ (low : Low). low.waiting) same) (λ slot subslot. ap (λ (low : Low). own_of low slot subslot) same)
            (ap (λ (low : Low). at_places (own_of low) later) same ∙ elsewhere_so on e) told)
        by_test true e =
            let same : (diagnosed real changes.change later link.flow).low ≡ after_next waits =
            ap (λ (b : Bool). cond b (after_next (waits_with real changes.change later link.flow.low)) (noted later link.flow.low)) e in
            let parts = and_parts link.flow.cyclic.begun (own_of link.flow.low changes.change.diagnosis.slot changes.change.diagnosis.subslot) e in
            let up : is_exchanging link.phase ≡ true = sym (knows.begins link was) ∙ parts.0 in
            let room : is_low_full link.flow.low ≡ false =
            ap (λ (b : Bool). b && is_low_full link.flow.low) (sym parts.0) ∙ (ap (λ (l : Option RelationState). is_full_in l) (sym was) ∙ changes.open_room) in
            let one = diagnosis_queued real (notice_of (is_own link.flow.low.places) changes.change later) in
            let more = (queued_more one (noted later link.flow.low) room).1 in
            next_so real after link next waits later known_so knows.none was refl becomes_it same refl refl (stated_by (after_next waits) same (after_places waits)) up
            (λ told. record {
              changes = told.changes;
              reports = told.reports;
              leads = subst (λ (ws : List QueuedAlarm). LeadsIf Apart (told.changes ++ map change_in ws) [] (at_places (own_of link.flow.low) later)) (sym more)
                  (subst (λ (xs : List LowChange). LeadsIf Apart xs [] (at_places (own_of link.flow.low) later)) (sym (waited told.changes link.flow.low.waiting one))
                  (one_more Apart (told.changes ++ map change_in link.flow.low.waiting) (change_is.Diagnosis changes.change) [] (at_places (own_of link.flow.low) diagnoses) (at_places (own_of link.flow.low) later)
                  told.leads (step_so link.flow.low parts.1)));
              own = subst (λ (ws : List QueuedAlarm). AreOwn (own_of link.flow.low) (told.changes ++ map change_in ws)) (sym more)
                  (subst (λ (xs : List LowChange). AreOwn (own_of link.flow.low) xs) (sym (waited told.changes link.flow.low.waiting one))
                  (own_append (own_of link.flow.low) (told.changes ++ map change_in link.flow.low.waiting) (change_is.Diagnosis changes.change ∷ []) told.own ((λ none. parts.1), tt)));
            })

    changes_so : Knows Apart real after later (raised ++ reported_by before after)
    changes_so = by_before before refl
      where
        by_before : (link : Option RelationState) → before ≡ link → Knows Apart real after later (raised ++ reported_by before after)
        by_before (Some link) was = by_link link was
        by_before None was =
            over_knows Apart real after later (raised ++ reported_by before after) known_so knows.none
            (changes.becomes ∙ ap (λ (l : Option RelationState). updated (diagnosing real changes.change later l) l) was)

  -- ---- a pull or a plug

  module _ (now : List RealModule) (heard : Heard) (after : Option RelationState) (later : List Diagnosis) (sent : List Sent) (changes : Changes real now diagnoses later before heard after sent) where
    is_modules : IsModules real now changes.made
    is_modules = modules_so real now heard changes.made changes.is changes.modules

    none_now : Apart → NoneIsAtZero now
    none_now apart = is_modules.none (knows.none apart)

    remaining_so : AreKnown later
    remaining_so = subst (λ (xs : List Diagnosis). AreKnown xs) (sym changes.remains) (remaining_known (affected_by changes.made) diagnoses knows.known)

    by_relation : (link : RelationState) → before ≡ Some link → Knows Apart now after later (raised ++ reported_by before after)
    by_relation link was = by_hit (is_hit (affected_by changes.made) (places_then (rows_now now link) changes.made link)) refl (is_exchanging link.phase) refl
      where
        next : RelationState
        next = changed_link now changes.made later link

        stated : Low
        stated = (modules_restated link.request.expected (rows_now now link) later link.flow).low

        told_as : ModuleChange
        told_as = reported_as link.request (rows_now now link) changes.made

        waits : Low
        waits = module_waits (reported_as link.request (rows_now now link) changes.made) changes.made later (modules_restated link.request.expected (rows_now now link) later link.flow).low

        becomes_it : after ≡ Some (changed_link now changes.made later link)
        becomes_it = changes.becomes ∙ ap (λ (l : Option RelationState). modules_changing now changes.made later l) was

        places_is : link.flow.low.places ≡ own_places link.request.expected real
        places_is = (knows.stated link was).0

        keys_are : keys_of (changed_link now changes.made later link).plugs.places ≡ keys_of link.plugs.places
        keys_are =
            laws.sent (sent_then (rows_now now link) changes.made later link) (flow_then (rows_now now link) changes.made later link).low.waiting (places_then (rows_now now link) changes.made link)
            ∙ laws.changed (rows_now now link) changes.made link.plugs

        stated_by : (low : Low) → (changed_link now changes.made later link).flow.low ≡ low → low.places ≡ own_places link.request.expected now → IsStated now (changed_link now changes.made later link)
        stated_by low is places = (
          ap (λ (l : Low). l.places) is ∙ places,
          λ slot subslot e. ap (λ (ks : List (ℕ × ℕ)). list_any (λ key. key.0 == slot && key.1 == subslot) ks) keys_are ∙ (knows.stated link was).1 slot subslot e,
        )

        begun_same : (changed_link now changes.made later link).flow.cyclic.begun ≡ link.flow.cyclic.begun
        begun_same = ap (λ (s : Standing). s.begun) (laws.standing (rows_now now link) changes.made later link)

        -- the diagnoses at the submodules of the relation that remain
        remain_so : at_places (is_own (own_places link.request.expected now)) later ≡ remaining (affected_by changes.made) (at_places (own_of link.flow.low) diagnoses)
        remain_so =
            ap (at_places (is_own (own_places link.request.expected now))) changes.remains
            ∙ places_remain (own_of link.flow.low) (is_own (own_places link.request.expected now)) (affected_by changes.made) (λ slot subslot apart.
            same_own link.request.expected real now slot subslot (is_modules.same slot subslot apart) ∙ ap (λ (p : List Place). is_own p slot subslot) (sym places_is)) diagnoses

        -- the submodules of the relation that no pull or plug reaches
        own_apart : (slot subslot : ℕ) → covers (reach_of (reported_as link.request (rows_now now link) changes.made)) slot subslot ≡ false
            → is_own (own_places link.request.expected now) slot subslot ≡ own_of link.flow.low slot subslot
        own_apart slot subslot apart =
            same_own link.request.expected real now slot subslot
            (is_modules.same slot subslot (is_modules.reach (asks link.request) (is_listed changes.made.slot changes.made.subslot (rows_now now link)) slot subslot apart))
            ∙ ap (λ (p : List Place). is_own p slot subslot) (sym places_is)

        -- none is expected at a change that affects no place
        unexpected : is_hit (affected_by changes.made) (places_then (rows_now now link) changes.made link) ≡ false → (slot subslot : ℕ) → covers (affected_by changes.made) slot subslot ≡ true
            → is_expected link.request.expected slot subslot ≡ false
        unexpected e slot subslot covered =
            missed link.request.expected (places_then (rows_now now link) changes.made link)
            (λ s ss there. ap (λ (ks : List (ℕ × ℕ)). list_any (λ key. key.0 == s && key.1 == ss) ks) (laws.changed (rows_now now link) changes.made link.plugs) ∙ (knows.stated link was).1 s ss there)
            (affected_by changes.made) e slot subslot covered

        own_still : is_hit (affected_by changes.made) (places_then (rows_now now link) changes.made link) ≡ false
            → (slot subslot : ℕ) → is_own (own_places link.request.expected now) slot subslot ≡ own_of link.flow.low slot subslot
        own_still e slot subslot = by_cover (covers (affected_by changes.made) slot subslot) refl
          where
            by_cover : (b : Bool) → covers (affected_by changes.made) slot subslot ≡ b → is_own (own_places link.request.expected now) slot subslot ≡ own_of link.flow.low slot subslot
            by_cover true f =
                not_own link.request.expected now slot subslot (unexpected e slot subslot f)
                ∙ (sym (not_own link.request.expected real slot subslot (unexpected e slot subslot f)) ∙ ap (λ (p : List Place). is_own p slot subslot) (sym places_is))
            by_cover false f = same_own link.request.expected real now slot subslot (is_modules.same slot subslot f) ∙ ap (λ (p : List Place). is_own p slot subslot) (sym places_is)

        -- all remain, if none was affected
        none_gone : ((slot subslot : ℕ) → covers (affected_by changes.made) slot subslot ≡ true → is_own (own_places link.request.expected real) slot subslot ≡ false)
            → at_places (is_own (own_places link.request.expected now)) later ≡ at_places (own_of link.flow.low) diagnoses
        none_gone none =
            remain_so ∙ all_remain (own_of link.flow.low) (affected_by changes.made) (λ slot subslot covered. ap (λ (p : List Place). is_own p slot subslot) places_is ∙ none slot subslot covered) diagnoses

        -- the change is a step
        so_if : {change : LowChange} {from last : List Diagnosis} → IsStepIf (NoneIsAtZero real) change from last → IsStepIf Apart change from last
        so_if is = record { step = is.step; seen = λ apart. is.seen (knows.none apart) }

        step_so : IsStepIf Apart (change_is.Module (reported_as link.request (rows_now now link) changes.made)) (at_places (own_of link.flow.low) diagnoses) (at_places (is_own (own_places link.request.expected now)) later)
        step_so =
            so_if (is_modules.pulls (asks link.request) (is_listed changes.made.slot changes.made.subslot (rows_now now link)) (at_places (own_of link.flow.low) diagnoses)
            (at_places (is_own (own_places link.request.expected now)) later) remain_so
            (λ kind. none_gone (λ slot subslot covered. empty_own link.request.expected real slot subslot (is_modules.empty kind slot subslot covered))))

        nothing_step : IsStepIf Apart (change_is.Module (reported_as link.request (rows_now now link) changes.made)) [] []
        nothing_step = so_if (is_modules.pulls (asks link.request) (is_listed changes.made.slot changes.made.subslot (rows_now now link)) [] [] refl (λ kind. refl))

        low_by : (b c : Bool) → is_hit (affected_by changes.made) (places_then (rows_now now link) changes.made link) ≡ b → link.flow.cyclic.begun ≡ c
            → (changed_link now changes.made later link).flow.low
            ≡ low_changed b c (reported_as link.request (rows_now now link) changes.made) changes.made later (modules_restated link.request.expected (rows_now now link) later link.flow).low
        low_by b c e f =
            ap (λ (d : Bool). low_changed d link.flow.cyclic.begun (reported_as link.request (rows_now now link) changes.made) changes.made later (modules_restated link.request.expected (rows_now now link) later link.flow).low) e
            ∙ ap (λ (d : Bool). low_changed b d (reported_as link.request (rows_now now link) changes.made) changes.made later (modules_restated link.request.expected (rows_now now link) later link.flow).low) f

        -- an alarm that waits has room
        more : is_hit (affected_by changes.made) (places_then (rows_now now link) changes.made link) ≡ true
            → (length link.flow.low.waiting < 32)
            × ((module_waits (reported_as link.request (rows_now now link) changes.made) changes.made later (modules_restated link.request.expected (rows_now now link) later link.flow).low).waiting
            ≡ link.flow.low.waiting ++ module_queued (is_own (own_places link.request.expected now)) (reported_as link.request (rows_now now link) changes.made) changes.made later ∷ [])
        more e =
            queued_more (module_queued (is_own (own_places link.request.expected now)) (reported_as link.request (rows_now now link) changes.made) changes.made later)
            (modules_restated link.request.expected (rows_now now link) later link.flow).low
            (sym (ap (λ (b : Bool). b && is_low_full link.flow.low) was_hit) ∙ (ap (λ (l : Option RelationState). is_crowded (affected_by changes.made) l) (sym was) ∙ changes.open_room))
          where
            was_hit : is_hit (affected_by changes.made) link.plugs ≡ true
            was_hit =
                hit_by_keys (affected_by changes.made) link.plugs (places_then (rows_now now link) changes.made link) (laws.changed (rows_now now link) changes.made link.plugs) ∙ e

        unreported : (low : Low) → (changed_link now changes.made later link).flow.low ≡ low → low.alarms ≡ link.flow.low.alarms → [] ≡ reported_by before after
        unreported low is same =
            sym (reported_same before after (ap (λ (l : Option RelationState). number_in l) becomes_it
            ∙ (ap (λ (l : Low). l.alarms.sender.sending.last) is ∙ (ap (λ (d : DeviceEnd). d.sender.sending.last) same ∙ sym (ap (λ (l : Option RelationState). number_in l) was)))))

        by_hit : (b : Bool) → is_hit (affected_by changes.made) (places_then (rows_now now link) changes.made link) ≡ b → (c : Bool) → is_exchanging link.phase ≡ c
            → Knows Apart now after later (raised ++ reported_by before after)
        by_hit false e c f =
            let same = low_by false link.flow.cyclic.begun e refl in
            becomes_so now after link next later [] remaining_so none_now was becomes_it begun_same refl (stated_by stated same refl) (unreported stated same refl)
            (λ off waiting. waits_so link.flow.low next.flow.low (ap (λ (l : Low). l.waiting) same) (ap (λ (l : Low). l.alarms.sender.sending.last) same) waiting)
            (λ on told. told_so link.flow.low next.flow.low later (ap (λ (l : Low). l.waiting) same) (λ slot subslot. ap (λ (l : Low). own_of l slot subslot) same ∙ own_still e slot subslot)
            (ap (λ (l : Low). at_places (own_of l) later) same
            ∙ none_gone (λ slot subslot covered. not_own link.request.expected real slot subslot (unexpected e slot subslot covered))) told)
        by_hit true e false f =
            let same = low_by true false e (knows.begins link was ∙ f) in
            let room = more e in
            becomes_so now after link next later [] remaining_so none_now was becomes_it begun_same refl (stated_by waits same refl) (unreported waits same refl)
            (λ off waiting. record {
              none = append-nil raised ∙ waiting.none;
              unsent = ap (λ (l : Low). l.alarms.sender.sending.last) same ∙ waiting.unsent;
              few = subst (λ (ws : List QueuedAlarm). length ws ≤ 32) (sym (ap (λ (l : Low). l.waiting) same ∙ room.1))
                  (one_longer link.flow.low.waiting (module_queued (is_own (own_places link.request.expected now)) told_as changes.made later) room.0);
              leads = subst (λ (ws : List QueuedAlarm). LeadsIf Apart (map change_in ws) [] []) (sym (ap (λ (l : Low). l.waiting) same ∙ room.1))
                  (subst (λ (xs : List LowChange). LeadsIf Apart xs [] []) (sym (waited [] link.flow.low.waiting (module_queued (is_own (own_places link.request.expected now)) told_as changes.made later)))
                  (one_more Apart (map change_in link.flow.low.waiting) (change_is.Module told_as) [] [] [] waiting.leads nothing_step));
              own = λ has. subst (λ (ws : List QueuedAlarm). AreOwn has (map change_in ws)) (sym (ap (λ (l : Low). l.waiting) same ∙ room.1))
                  (subst (λ (xs : List LowChange). AreOwn has xs) (sym (waited [] link.flow.low.waiting (module_queued (is_own (own_places link.request.expected now)) told_as changes.made later)))
                  (own_append has (map change_in link.flow.low.waiting) (change_is.Module told_as ∷ []) (waiting.own has) (tt, tt)));
            })
            (λ on told. absurd (false≢true (sym f ∙ on)))
        by_hit true e true f =
            let same = low_by true true e (knows.begins link was ∙ f) in
            let room = more e in
            next_so now after link next waits later remaining_so none_now was refl becomes_it same begun_same refl (stated_by (after_next waits) same (after_places waits)) f
            (λ told. record {
              changes = told.changes;
              reports = told.reports;
              leads = subst (λ (ws : List QueuedAlarm). LeadsIf Apart (told.changes ++ map change_in ws) [] (at_places (own_of waits) later)) (sym room.1)
                  (subst (λ (xs : List LowChange). LeadsIf Apart xs [] (at_places (own_of waits) later))
                  (sym (waited told.changes link.flow.low.waiting (module_queued (is_own (own_places link.request.expected now)) told_as changes.made later)))
                  (one_more Apart (told.changes ++ map change_in link.flow.low.waiting) (change_is.Module told_as) [] (at_places (own_of link.flow.low) diagnoses) (at_places (own_of waits) later)
                  told.leads step_so));
              own = subst (λ (ws : List QueuedAlarm). AreOwn (own_of waits) (told.changes ++ map change_in ws)) (sym room.1)
                  (subst (λ (xs : List LowChange). AreOwn (own_of waits) xs)
                  (sym (waited told.changes link.flow.low.waiting (module_queued (is_own (own_places link.request.expected now)) told_as changes.made later)))
                  (own_changed (own_of link.flow.low) (is_own (own_places link.request.expected now)) told_as own_apart (told.changes ++ map change_in link.flow.low.waiting) told.own));
            })

    pulled_so : Knows Apart now after later (raised ++ reported_by before after)
    pulled_so = by_before before refl
      where
        by_before : (link : Option RelationState) → before ≡ link → Knows Apart now after later (raised ++ reported_by before after)
        by_before (Some link) was = by_relation link was
        by_before None was =
            over_knows Apart now after later (raised ++ reported_by before after) remaining_so none_now
            (changes.becomes ∙ ap (λ (l : Option RelationState). modules_changing now changes.made later l) was)

  -- any turn that leaves the modules and the diagnoses as they are
  turn_so : (calls : List Answer) (heard : Heard) (after : Option RelationState) (later : List Diagnosis) (sent : List Sent) → later ≡ diagnoses
      → ((change : Change) → heard ≡ change_heard change → change.diagnosis.error < 65536)
      → (Makes calls before heard after sent → (before ≡ None) × (raised ≡ []) × ((l : RelationState) → after ≡ Some l → IsStated real l))
      → IsTurn real real calls diagnoses later before heard after sent → Knows Apart real after later (raised ++ reported_by before after)
  turn_so calls heard after later sent same small alone turn = by_turn turn
    where
      as_before : Knows Apart real after diagnoses (raised ++ reported_by before after) → Knows Apart real after later (raised ++ reported_by before after)
      as_before so = subst (λ (xs : List Diagnosis). Knows Apart real after xs (raised ++ reported_by before after)) (sym same) so

      by_turn : IsTurn real real calls diagnoses later before heard after sent → Knows Apart real after later (raised ++ reported_by before after)
      by_turn (inl stays) = as_before (stays_so after stays.link)
      by_turn (inr (inl makes)) = let so = alone makes in as_before (makes_so calls heard after sent so.0 so.1 so.2 makes)
      by_turn (inr (inr (inl raises))) =
          let may = may_be raises.link.flow raises.slot raises.subslot raises.octets (module_ident real raises.slot) (submodule_ident real raises.slot raises.subslot) raises.flow raises.raised in
          as_before (same_so after raises.link (with_flow raises.flow raises.link) raises.was raises.becomes (ap (λ (f : Flow). f.cyclic.begun) may.is) refl refl refl
          (ap (λ (f : Flow). f.low.waiting) may.is) (ap (λ (f : Flow). f.low.places) may.is) (ap (λ (f : Flow). f.low.alarms.sender.sending.last) may.is))
      by_turn (inr (inr (inr (inl acked)))) = as_before (same_so after acked.link _ acked.was acked.becomes refl refl refl refl refl refl refl)
      by_turn (inr (inr (inr (inr (inl came))))) = as_before (same_so after came.link _ came.was came.becomes refl refl refl refl refl refl refl)
      by_turn (inr (inr (inr (inr (inr (inl passes)))))) =
          as_before (same_so after passes.link (unit_later passes.link) passes.was passes.becomes refl refl refl (later_keys passes.link) refl refl refl)
      by_turn (inr (inr (inr (inr (inr (inr (inl acked))))))) =
          as_before (same_so after acked.link _ acked.was acked.becomes refl refl refl refl refl refl (ack_last acked.link.flow.low.alarms acked.number))
      by_turn (inr (inr (inr (inr (inr (inr (inr (inl came)))))))) = as_before (low_data_so heard after sent came)
      by_turn (inr (inr (inr (inr (inr (inr (inr (inr (inl begins))))))))) = as_before (begins_so after sent begins)
      by_turn (inr (inr (inr (inr (inr (inr (inr (inr (inr (inl changes)))))))))) = changes_so heard after later sent changes small
      by_turn (inr (inr (inr (inr (inr (inr (inr (inr (inr (inr changes)))))))))) = pulled_so real heard after later sent changes

  pub knows_on : (calls : List Answer) (heard : Heard) (after : Option RelationState) (now : List RealModule) (later : List Diagnosis) (sent : List Sent)
      → ((change : Change) → heard ≡ change_heard change → change.diagnosis.error < 65536)
      → (Makes calls before heard after sent → (before ≡ None) × (raised ≡ []) × ((l : RelationState) → after ≡ Some l → IsStated real l))
      → IsTurn real now calls diagnoses later before heard after sent
      → (now ≡ real) ⊎ Changes real now diagnoses later before heard after sent
      → (later ≡ diagnoses) ⊎ (Diagnoses real diagnoses later before heard after sent ⊎ Changes real now diagnoses later before heard after sent)
      → Knows Apart now after later (raised ++ reported_by before after)
  knows_on calls heard after now later sent small alone turn (inr changes) which = pulled_so now heard after later sent changes
  knows_on calls heard after now later sent small alone turn (inl still) (inr (inr changes)) = pulled_so now heard after later sent changes
  knows_on calls heard after now later sent small alone turn (inl still) (inr (inl changes)) =
      subst (λ (modules : List RealModule). Knows Apart modules after later (raised ++ reported_by before after)) (sym still) (changes_so heard after later sent changes small)
  knows_on calls heard after now later sent small alone turn (inl still) (inl same) =
      subst (λ (modules : List RealModule). Knows Apart modules after later (raised ++ reported_by before after)) (sym still)
      (turn_so calls heard after later sent same small alone
      (subst (λ (modules : List RealModule). IsTurn real modules calls diagnoses later before heard after sent) still turn))
