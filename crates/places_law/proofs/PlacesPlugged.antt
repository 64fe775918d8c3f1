-- What a device reported of its places, and what waits, leads to the places that differ from what is plugged now.
use Rattle.std.proofs.Common.{◌≡◌, ◌⊎◌, inl, inr, ◌==◌, ◌&&◌, ◌++◌, ◌-◌, ◌<◌, ℕ, zero, suc, Bool, true, false, cond, List, [], ◌∷◌, length, map, take, Option, Some, None, option_map, refl, sym, ap, subst, ◌∙◌, append-nil, append_assoc, arith}
use Rattle.std.specs.Prelude.{nat_le, nat_lt, unwrap_or}
use Rattle.std.specs.List.{list_any}
use Rattle.std.proofs.lemmas.Bool.{leb-false, lt-ltb, true≢false}
use Rattle.std.proofs.lemmas.List.{map-append}
use Rattle.pn_values.specs.declared.real.RealModule.{RealModule}
use Rattle.record_blocks.specs.declared.alarm_notification.AlarmNotification.{AlarmNotification}
use Rattle.rpc_core.specs.Cache.{Kept as Answer}
use Rattle.diagnosis.specs.Notices.{first_notices, notice_of}
use Rattle.diagnosis.specs.declared.notice.Notice.{Notice}
use Rattle.diagnosis.specs.declared.diagnosis.Diagnosis.{Diagnosis}
use Rattle.diagnosis.specs.declared.queue.LowChange.{LowChange}
use Rattle.diagnosis.specs.declared.queue.LowChange.TheVariants as change_is
use Rattle.diagnosis.specs.declared.queue.QueuedAlarm.{QueuedAlarm}
use Rattle.diagnosis.specs.alarms.Alarms.{Low, is_full as is_low_full, noted}
use Rattle.diagnosis.specs.Queue.{after_next, alarm_of, alarmed, begun, diagnosis_queued, is_reported, module_queued, module_waits, queued, waits_with}
use Rattle.diagnosis.specs.alarms.Own.{is_own}
use Rattle.diagnosis.specs.declared.reports.priority.Priority.TheVariants.{Low as low_priority}
use Rattle.diagnosis.specs.reported.Followed.{Reports}
use Rattle.module_diff.specs.declared.changes.RealChange.{RealChange}
use Rattle.module_diff.specs.Changes.{affected_by, covers}
use Rattle.module_diff.specs.Diff.{diff_of, is_listed}
use Rattle.module_diff.specs.Plugged.{module_ident, submodule_ident}
use Rattle.connects.specs.requests.Request.{Request}
use Rattle.pn_alarms.specs.declared.message.Notice.TheVariants as notice
use Rattle.pn_alarms.specs.Device.{end_with}
use Rattle.expected_places.specs.Machine.{is_hit}
use Rattle.relations.specs.exchange.Diagnosis.{diagnosed}
use Rattle.relations.specs.exchange.Flow.{Flow}
use Rattle.relations.specs.exchange.Modules.{modules_restated}
use Rattle.relations.specs.Diagnosed.{diagnosing}
use Rattle.relations.specs.Plugging.{asks, is_crowded, low_changed, modules_changing, places_then, reported_as, rows_now}
use Rattle.relations.specs.RelationState.{RelationState, is_exchanging}
use Rattle.relations.specs.Phases.{exchanging_from, made_of, updated, with_flow}
use Rattle.relations.specs.Timers.{unit_later}
use Rattle.device_frames.specs.Heard.{Heard}
use Rattle.device_frames.specs.Sent.{Sent}
use Rattle.end_laws.specs.device.Turn.{Begins, Changes, Diagnoses, HearsLowData, Makes, heard_low_in}
use Rattle.end_laws.specs.turns.Alarms.{report_as}
use Rattle.end_laws.proofs.DeviceOrderly.{changed_keys}
use Rattle.both_ends.specs.exchange.Over.{number_in, reported_by}
use Rattle.both_ends.specs.exchange.Told.{AreReports, IsReport, ReportsModule, change_in}
use Rattle.both_ends.proofs.ExchangeKnows.{Knows}
use Rattle.both_ends.proofs.ExchangeLists.{none_some, some_is}
use Rattle.both_ends.proofs.ExchangeLowTied.{ack_last, data_last, reported_next, reported_same}
use Rattle.both_ends.proofs.ExchangeNextTold.{IsNextTold, NextIs, next_is}
use Rattle.both_ends.proofs.ExchangeOwn.{hit_by_keys, is_expected, missed, same_listed}
use Rattle.both_ends.proofs.ExchangeStated.{IsModules, modules_so}
use Rattle.both_ends.proofs.ExchangeTied.{begun_link, changed_link, diagnosed_link, may_be, next_link, way_before}
use Rattle.both_ends.proofs.ExchangeTurns.{IsSameOr, IsTurn, Way, way_of}
use Rattle.places_law.specs.Agreed.{ArePluggedApart}
use Rattle.places_law.proofs.PlacesChanged.{IsSeenChange, change_after, changed_apart, changed_seen, changes_after, changes_more}

-- ---- the invariant

-- What was reported in a relation, and what waits, leads from these first places to those that differ now.
pub record IsPlacedIn (first : ℕ → ℕ → Bool) (real : List RealModule) (request : Request) (low : Low) (raised : List AlarmNotification) : Type 0 where
  pub changes : List LowChange
  pub reports : AreReports changes raised
  pub are : (slot subslot : ℕ) → is_expected request.expected slot subslot ≡ true
      → changes_after (changes ++ map change_in low.waiting) slot subslot (first slot subslot) ≡ is_listed slot subslot (diff_of request.expected real)

pub record ArePlaced (first : ℕ → ℕ → Bool) (real : List RealModule) (link : Option RelationState) (raised : List AlarmNotification) : Type 0 where
  pub apart : ArePluggedApart real
  pub placed : (l : RelationState) → link ≡ Some l → IsPlacedIn first real l.request l.flow.low raised

more_reports : (changes : List LowChange) (alarms : List AlarmNotification) (change : LowChange) (alarm : AlarmNotification) → AreReports changes alarms → IsReport change alarm
    → AreReports (changes ++ change ∷ []) (alarms ++ alarm ∷ [])
more_reports [] [] change alarm all one = (one, tt)
more_reports [] (other ∷ alarms) change alarm all one = absurd all
more_reports (first ∷ changes) [] change alarm all one = absurd all
more_reports (first ∷ changes) (other ∷ alarms) change alarm all one = (all.0, more_reports changes alarms change alarm all.1 one)

-- the alarm of a change reports it
alarm_reports : (sequence : ℕ) (alarm : QueuedAlarm) (change : LowChange) → alarm.change ≡ change → IsReport change (alarm_of sequence alarm)
alarm_reports sequence alarm (change_is.Diagnosis made) e =
    subst (λ (c : LowChange). Reports made (report_as low_priority (alarm_of sequence (record alarm { change = c })))) (sym e)
    (record { kind = refl; slot = refl; subslot = refl; structure = refl; octets = refl })
alarm_reports sequence alarm (change_is.Module made) e =
    subst (λ (c : LowChange). ReportsModule made (alarm_of sequence (record alarm { change = c }))) (sym e) (record { type_is = refl; api = refl; slot = refl; subslot = refl; octets = refl })

-- ---- what waits

-- these alarms say nothing of places
abbrev AreQuiet : List QueuedAlarm → Type 0
AreQuiet more = (slot subslot : ℕ) (before : Bool) → changes_after (map change_in more) slot subslot before ≡ before

first_quiet : (real : List RealModule) (n : ℕ) (notices : List Notice) → AreQuiet (take n (map (diagnosis_queued real) notices))
first_quiet real zero notices slot subslot before = refl
first_quiet real (suc n) [] slot subslot before = refl
first_quiet real (suc n) (one ∷ notices) slot subslot before = first_quiet real n notices slot subslot before

module _ (first : ℕ → ℕ → Bool) (real : List RealModule) (request : Request) (raised : List AlarmNotification) where
  -- what waits after more alarms wait
  after_more : (changes : List LowChange) (ws more : List QueuedAlarm) (slot subslot : ℕ) (before : Bool)
      → changes_after (changes ++ map change_in (ws ++ more)) slot subslot before
      ≡ changes_after (map change_in more) slot subslot (changes_after (changes ++ map change_in ws) slot subslot before)
  after_more changes ws more slot subslot before =
      ap (λ (xs : List LowChange). changes_after (changes ++ xs) slot subslot before) (map-append change_in ws more)
      ∙ (ap (λ (xs : List LowChange). changes_after xs slot subslot before) (sym (append_assoc changes (map change_in ws) (map change_in more)))
      ∙ changes_more (changes ++ map change_in ws) (map change_in more) slot subslot before)

  same_placed : (low next : Low) → next.waiting ≡ low.waiting → IsPlacedIn first real request low raised → IsPlacedIn first real request next raised
  same_placed low next waiting is = record {
    changes = is.changes;
    reports = is.reports;
    are = λ slot subslot there. ap (λ (ws : List QueuedAlarm). changes_after (is.changes ++ map change_in ws) slot subslot (first slot subslot)) waiting ∙ is.are slot subslot there;
  }

  quiet_placed : (low next : Low) (more : List QueuedAlarm) → AreQuiet more → next.waiting ≡ low.waiting ++ more → IsPlacedIn first real request low raised → IsPlacedIn first real request next raised
  quiet_placed low next more quiet waiting is = record {
    changes = is.changes;
    reports = is.reports;
    are = λ slot subslot there.
        ap (λ (ws : List QueuedAlarm). changes_after (is.changes ++ map change_in ws) slot subslot (first slot subslot)) waiting
        ∙ (after_more is.changes low.waiting more slot subslot (first slot subslot)
        ∙ (quiet slot subslot (changes_after (is.changes ++ map change_in low.waiting) slot subslot (first slot subslot)) ∙ is.are slot subslot there));
  }

  -- a change of diagnosis waits, if there is room
  queued_placed : (low : Low) (one : QueuedAlarm) → AreQuiet (one ∷ []) → IsPlacedIn first real request low raised → IsPlacedIn first real request (queued one low) raised
  queued_placed low one quiet is = by_room (nat_lt (length low.waiting) 64) refl
    where
      by_room : (b : Bool) → nat_lt (length low.waiting) 64 ≡ b → IsPlacedIn first real request (queued one low) raised
      by_room true e =
          quiet_placed low (queued one low) (one ∷ []) quiet (ap (λ (b : Bool). unwrap_or (cond b (Some (low.waiting ++ one ∷ [])) None) low.waiting) e) is
      by_room false e = same_placed low (queued one low) (ap (λ (b : Bool). unwrap_or (cond b (Some (low.waiting ++ one ∷ [])) None) low.waiting) e) is

  -- the next change is reported, if it can be
  next_placed : (low : Low) (now : List AlarmNotification) → ((rests : after_next low ≡ low) → now ≡ [])
      → ((told : IsNextTold low) → now ≡ alarm_of low.alarms.sender.specifier told.alarm ∷ []) → IsPlacedIn first real request low raised → IsPlacedIn first real request (after_next low) (raised ++ now)
  next_placed low now silent tells is = by_next (next_is low)
    where
      by_next : NextIs low → IsPlacedIn first real request (after_next low) (raised ++ now)
      by_next (inl rests) =
          subst (λ (l : Low). IsPlacedIn first real request l (raised ++ now)) (sym rests.0)
          (subst (λ (xs : List AlarmNotification). IsPlacedIn first real request low xs) (sym (ap (λ (xs : List AlarmNotification). raised ++ xs) (silent rests.0) ∙ append-nil raised)) is)
      by_next (inr told) =
          let change = told.alarm.change in
          let later : Low = record low {
            alarms = end_with low.alarms (alarm_of low.alarms.sender.specifier told.alarm);
            waiting = told.rest;
            sent = Some (record { change = told.alarm.change; number = low.alarms.sender.specifier });
          } in
          subst (λ (l : Low). IsPlacedIn first real request l (raised ++ now)) (sym told.is)
          (subst (λ (xs : List AlarmNotification). IsPlacedIn first real request later (raised ++ xs)) (sym (tells told)) (record {
            changes = is.changes ++ change ∷ [];
            reports = more_reports is.changes raised change (alarm_of low.alarms.sender.specifier told.alarm) is.reports (alarm_reports low.alarms.sender.specifier told.alarm told.alarm.change refl);
            are = λ slot subslot there.
                ap (λ (xs : List LowChange). changes_after xs slot subslot (first slot subslot)) (append_assoc is.changes (change ∷ []) (map change_in told.rest))
                ∙ (ap (λ (ws : List QueuedAlarm). changes_after (is.changes ++ map change_in ws) slot subslot (first slot subslot)) (sym told.waits) ∙ is.are slot subslot there);
          }))

  -- the modules changed where nothing is expected
  elsewhere_placed : (now : List RealModule) (low next : Low) → next.waiting ≡ low.waiting
      → ((slot subslot : ℕ) → is_expected request.expected slot subslot ≡ true → is_listed slot subslot (diff_of request.expected now) ≡ is_listed slot subslot (diff_of request.expected real))
      → IsPlacedIn first real request low raised → IsPlacedIn first now request next raised
  elsewhere_placed now low next waiting same is = record {
    changes = is.changes;
    reports = is.reports;
    are = λ slot subslot there.
        ap (λ (ws : List QueuedAlarm). changes_after (is.changes ++ map change_in ws) slot subslot (first slot subslot)) waiting ∙ (is.are slot subslot there ∙ sym (same slot subslot there));
  }

  -- a pull or a plug waits
  changed_placed : (now : List RealModule) (made : RealChange) (asked : Bool) (low next : Low) (one : QueuedAlarm)
      → one.change ≡ change_is.Module (alarmed made asked (is_listed made.slot made.subslot (diff_of request.expected now))) → next.waiting ≡ low.waiting ++ one ∷ []
      → IsSeenChange request.expected real now made → IsPlacedIn first real request low raised → IsPlacedIn first now request next raised
  changed_placed now made asked low next one change waiting seen is = record {
    changes = is.changes;
    reports = is.reports;
    are = λ slot subslot there.
        ap (λ (ws : List QueuedAlarm). changes_after (is.changes ++ map change_in ws) slot subslot (first slot subslot)) waiting
        ∙ (after_more is.changes low.waiting (one ∷ []) slot subslot (first slot subslot)
        ∙ (ap (λ (c : LowChange). change_after c slot subslot (changes_after (is.changes ++ map change_in low.waiting) slot subslot (first slot subslot))) change
        ∙ (ap (λ (b : Bool). change_after (change_is.Module (alarmed made asked (is_listed made.slot made.subslot (diff_of request.expected now)))) slot subslot b) (is.are slot subslot there)
        ∙ seen.seen asked slot subslot there)));
  }

-- which change is reported with the next one
next_now : (before after : Option RelationState) (link next : RelationState) (middle : Low) → before ≡ Some link → middle.alarms.sender.sending.last ≡ link.flow.low.alarms.sender.sending.last
    → after ≡ Some next → next.flow.low ≡ after_next middle → (rests : after_next middle ≡ middle) → reported_by before after ≡ []
next_now before after link next middle was same becomes low_is rests =
    reported_same before after
    (ap (λ (l : Option RelationState). number_in l) becomes ∙ (ap (λ (low : Low). low.alarms.sender.sending.last) (low_is ∙ rests) ∙ (same ∙ sym (ap (λ (l : Option RelationState). number_in l) was))))

told_now : (before after : Option RelationState) (link next : RelationState) (middle : Low) → before ≡ Some link → middle.alarms.sender.sending.last ≡ link.flow.low.alarms.sender.sending.last
    → after ≡ Some next → next.flow.low ≡ after_next middle → (told : IsNextTold middle) → reported_by before after ≡ alarm_of middle.alarms.sender.specifier told.alarm ∷ []
told_now before after link next middle was same becomes low_is told =
    reported_next before after link next (alarm_of middle.alarms.sender.specifier told.alarm) middle.alarms was becomes same (ap (λ (low : Low). low.alarms) (low_is ∙ told.is))

-- one more change waits, as there is room
queued_more : (alarm : QueuedAlarm) (low : Low) → is_low_full low ≡ false → (queued alarm low).waiting ≡ low.waiting ++ alarm ∷ []
queued_more alarm low open_room = by_full (nat_le 32 (length low.waiting)) refl open_room
  where
    by_room : length low.waiting < 32 → (b : Bool) → nat_lt (length low.waiting) 64 ≡ b → unwrap_or (cond b (Some (low.waiting ++ alarm ∷ [])) None) low.waiting ≡ low.waiting ++ alarm ∷ []
    by_room few true e = refl
    by_room few false e = absurd (true≢false (sym (lt-ltb (length low.waiting) 64 (omega (arith, few))) ∙ e))

    by_full : (b : Bool) → nat_le 32 (length low.waiting) ≡ b → b ≡ false → (queued alarm low).waiting ≡ low.waiting ++ alarm ∷ []
    by_full true f g = absurd (true≢false g)
    by_full false f g = by_room (leb-false 32 (length low.waiting) f) (nat_lt (length low.waiting) 64) refl

-- ---- a turn

module _ (Apart : Type 0) (alone_at : Apart) (first : ℕ → ℕ → Bool) (real : List RealModule) (before : Option RelationState) (diagnoses : List Diagnosis) (raised : List AlarmNotification)
    (knows : Knows Apart real before diagnoses raised) (are : ArePlaced first real before raised) where
  at_next : (now : List RealModule) (after : Option RelationState) (next : RelationState) → after ≡ Some next → ArePluggedApart now
      → IsPlacedIn first now next.request next.flow.low (raised ++ reported_by before after) → ArePlaced first now after (raised ++ reported_by before after)
  at_next now after next becomes apart placed = record {
    apart = apart;
    placed = λ l is. subst (λ (k : RelationState). IsPlacedIn first now k.request k.flow.low (raised ++ reported_by before after)) (some_is next l (sym becomes ∙ is)) placed;
  }

  over_placed : (now : List RealModule) (after : Option RelationState) (told : List AlarmNotification) → ArePluggedApart now → after ≡ None → ArePlaced first now after told
  over_placed now after told apart none = record { apart = apart; placed = λ l is. absurd (none_some l after none is) }

  -- nothing is reported
  silent_is : (after : Option RelationState) → number_in after ≡ number_in before → raised ++ reported_by before after ≡ raised
  silent_is after same = ap (λ (xs : List AlarmNotification). raised ++ xs) (reported_same before after same) ∙ append-nil raised

  silent_at : (after : Option RelationState) (link next : RelationState) → before ≡ Some link → after ≡ Some next → next.flow.low.alarms.sender.sending.last ≡ link.flow.low.alarms.sender.sending.last
      → raised ++ reported_by before after ≡ raised
  silent_at after link next was becomes last =
      silent_is after (ap (λ (l : Option RelationState). number_in l) becomes ∙ (last ∙ sym (ap (λ (l : Option RelationState). number_in l) was)))

  same_so : (after : Option RelationState) (link next : RelationState) → before ≡ Some link → after ≡ Some next → next.request ≡ link.request
      → next.flow.low.waiting ≡ link.flow.low.waiting → next.flow.low.alarms.sender.sending.last ≡ link.flow.low.alarms.sender.sending.last
      → ArePlaced first real after (raised ++ reported_by before after)
  same_so after link next was becomes request waiting last =
      at_next real after next becomes are.apart
      (subst (λ (r : Request). IsPlacedIn first real r next.flow.low (raised ++ reported_by before after)) (sym request)
      (subst (λ (xs : List AlarmNotification). IsPlacedIn first real link.request next.flow.low xs) (sym (silent_at after link next was becomes last))
      (same_placed first real link.request raised link.flow.low next.flow.low waiting (are.placed link was))))

  stays_so : (after : Option RelationState) → IsSameOr before after → ArePlaced first real after (raised ++ reported_by before after)
  stays_so after (inl same) = record {
    apart = are.apart;
    placed = λ l is. let there = found l is in
        subst (λ (way : Way). IsPlacedIn first real way.request way.low (raised ++ reported_by before after)) (sym there.2)
        (subst (λ (xs : List AlarmNotification). IsPlacedIn first real there.0.request there.0.flow.low xs) (sym silent) (are.placed there.0 there.1));
  }
    where
      found : (l : RelationState) → after ≡ Some l → (k : RelationState) × (before ≡ Some k) × (way_of l ≡ way_of k)
      found l is = way_before before (way_of l) (ap (λ (o : Option RelationState). option_map way_of o) (sym is) ∙ same)

      numbers : (one other : Option RelationState) → option_map way_of other ≡ option_map way_of one → number_in other ≡ number_in one
      numbers None None e = refl
      numbers None (Some other) e = absurd cc
      numbers (Some one) None e = absurd cc
      numbers (Some one) (Some other) e = ap (λ (way : Way). way.low.alarms.sender.sending.last) (some_is (way_of other) (way_of one) e)

      silent : raised ++ reported_by before after ≡ raised
      silent = silent_is after (numbers before after same)
  stays_so after (inr gone) = over_placed real after (raised ++ reported_by before after) are.apart gone

  -- a relation is made: there was none, nothing was reported, and the first places are those that differ from what it expects
  abbrev IsAlone : (calls : List Answer) (heard : Heard) (after : Option RelationState) (sent : List Sent) → Makes calls before heard after sent → Type 0
  IsAlone calls heard after sent makes =
      (before ≡ None) × (raised ≡ []) × ((slot subslot : ℕ) → first slot subslot ≡ is_listed slot subslot (diff_of makes.request.expected real))

  makes_so : (calls : List Answer) (heard : Heard) (after : Option RelationState) (sent : List Sent) (makes : Makes calls before heard after sent)
      → IsAlone calls heard after sent makes → ArePlaced first real after (raised ++ reported_by before after)
  makes_so calls heard after sent makes alone =
      let made = made_of makes.request makes.partner makes.rows makes.options makes.starting in
      at_next real after made makes.made are.apart
      (subst (λ (xs : List AlarmNotification). IsPlacedIn first real makes.request made.flow.low xs)
      (sym (silent_is after (ap (λ (l : Option RelationState). number_in l) makes.made ∙ sym (ap (λ (l : Option RelationState). number_in l) alone.0)) ∙ alone.1))
      (record { changes = []; reports = tt; are = λ slot subslot there. alone.2 slot subslot }))

  -- the next change is reported, if it can be, after this
  next_so : (now : List RealModule) (after : Option RelationState) (link next : RelationState) (middle : Low) → before ≡ Some link
      → middle.alarms.sender.sending.last ≡ link.flow.low.alarms.sender.sending.last → after ≡ Some next → next.flow.low ≡ after_next middle → next.request ≡ link.request → ArePluggedApart now
      → IsPlacedIn first now link.request middle raised → ArePlaced first now after (raised ++ reported_by before after)
  next_so now after link next middle was last becomes low_is request apart placed =
      at_next now after next becomes apart
      (subst (λ (r : Request). IsPlacedIn first now r next.flow.low (raised ++ reported_by before after)) (sym request)
      (subst (λ (low : Low). IsPlacedIn first now link.request low (raised ++ reported_by before after)) (sym low_is)
      (next_placed first now link.request raised middle (reported_by before after)
      (λ rests. next_now before after link next middle was last becomes low_is rests)
      (λ tells. told_now before after link next middle was last becomes low_is tells) placed)))

  low_data_so : (heard : Heard) (after : Option RelationState) (sent : List Sent) → HearsLowData before heard after sent → ArePlaced first real after (raised ++ reported_by before after)
  low_data_so heard after sent came =
      let link = came.link in
      let middle = heard_low_in link (notice.Data came.number came.ack) in
      next_so real after link (next_link middle) middle.flow.low came.was (data_last link.flow.low.alarms came.number came.ack) came.becomes refl refl are.apart
      (same_placed first real link.request raised link.flow.low middle.flow.low refl (are.placed link came.was))

  begins_so : (after : Option RelationState) (sent : List Sent) → Begins real diagnoses before after sent → ArePlaced first real after (raised ++ reported_by before after)
  begins_so after sent begins =
      let link = begins.link in
      let opened = begun real diagnoses link.flow.low in
      next_so real after link (begun_link real diagnoses (exchanging_from link)) opened begins.was refl begins.becomes refl refl are.apart
      (quiet_placed first real link.request raised link.flow.low opened
      (take (64 - length link.flow.low.waiting) (map (diagnosis_queued real) (first_notices (is_own link.flow.low.places) diagnoses)))
      (first_quiet real (64 - length link.flow.low.waiting) (first_notices (is_own link.flow.low.places) diagnoses)) refl (are.placed link begins.was))

  -- ---- a change of diagnosis

  diagnoses_so : (heard : Heard) (after : Option RelationState) (later : List Diagnosis) (sent : List Sent) → Diagnoses real diagnoses later before heard after sent
      → ArePlaced first real after (raised ++ reported_by before after)
  diagnoses_so heard after later sent changes = by_before before refl
    where
      by_link : (link : RelationState) → before ≡ Some link → ArePlaced first real after (raised ++ reported_by before after)
      by_link link was = by_test (is_reported link.flow.cyclic.begun changes.change link.flow.low) refl
        where
          next : RelationState
          next = diagnosed_link real changes.change later link

          waits : Low
          waits = waits_with real changes.change later link.flow.low

          becomes_it : after ≡ Some (diagnosed_link real changes.change later link)
          becomes_it = changes.becomes ∙ ap (λ (l : Option RelationState). updated (diagnosing real changes.change later l) l) was

          by_test : (b : Bool) → is_reported link.flow.cyclic.begun changes.change link.flow.low ≡ b → ArePlaced first real after (raised ++ reported_by before after)
          by_test false e =
              let same : (diagnosed real changes.change later link.flow).low ≡ noted later link.flow.low =
              ap (λ (b : Bool). cond b (after_next (waits_with real changes.change later link.flow.low)) (noted later link.flow.low)) e in
              same_so after link next was becomes_it refl (ap (λ (low : Low). low.waiting) same) (ap (λ (low : Low). low.alarms.sender.sending.last) same)
          by_test true e =
              let same : (diagnosed real changes.change later link.flow).low ≡ after_next (waits_with real changes.change later link.flow.low) =
              ap (λ (b : Bool). cond b (after_next (waits_with real changes.change later link.flow.low)) (noted later link.flow.low)) e in
              next_so real after link next waits was refl becomes_it same refl are.apart
              (queued_placed first real link.request raised (noted later link.flow.low) (diagnosis_queued real (notice_of (is_own link.flow.low.places) changes.change later)) (λ slot subslot b. refl)
              (same_placed first real link.request raised link.flow.low (noted later link.flow.low) refl (are.placed link was)))

      by_before : (link : Option RelationState) → before ≡ link → ArePlaced first real after (raised ++ reported_by before after)
      by_before (Some link) was = by_link link was
      by_before None was =
          over_placed real after (raised ++ reported_by before after) are.apart
          (changes.becomes ∙ ap (λ (l : Option RelationState). updated (diagnosing real changes.change later l) l) was)

  -- ---- a pull or a plug

  module _ (now : List RealModule) (heard : Heard) (after : Option RelationState) (later : List Diagnosis) (sent : List Sent) (changes : Changes real now diagnoses later before heard after sent) where
    is_modules : IsModules real now changes.made
    is_modules = modules_so real now heard changes.made changes.is changes.modules

    by_relation : (link : RelationState) → before ≡ Some link → ArePlaced first now after (raised ++ reported_by before after)
    by_relation link was = by_hit (is_hit (affected_by changes.made) (places_then (rows_now now link) changes.made link)) refl (is_exchanging link.phase) refl
      where
        next : RelationState
        next = changed_link now changes.made later link

        waits : Low
        waits = module_waits (reported_as link.request (rows_now now link) changes.made) changes.made later (modules_restated link.request.expected (rows_now now link) later link.flow).low

        becomes_it : after ≡ Some (changed_link now changes.made later link)
        becomes_it = changes.becomes ∙ ap (λ (l : Option RelationState). modules_changing now changes.made later l) was

        seen : IsSeenChange link.request.expected real now changes.made
        seen = changed_seen link.request.expected real now (knows.none alone_at) are.apart heard changes.made changes.is changes.modules

        -- none is expected at a change that affects no place
        still : is_hit (affected_by changes.made) (places_then (rows_now now link) changes.made link) ≡ false → (slot subslot : ℕ) → is_expected link.request.expected slot subslot ≡ true
            → is_listed slot subslot (diff_of link.request.expected now) ≡ is_listed slot subslot (diff_of link.request.expected real)
        still e slot subslot there = by_cover (covers (affected_by changes.made) slot subslot) refl
          where
            by_cover : (b : Bool) → covers (affected_by changes.made) slot subslot ≡ b
                → is_listed slot subslot (diff_of link.request.expected now) ≡ is_listed slot subslot (diff_of link.request.expected real)
            by_cover true f =
                absurd (true≢false (sym there ∙ missed link.request.expected (places_then (rows_now now link) changes.made link)
                (λ s ss is. ap (λ (ks : List (ℕ × ℕ)). list_any (λ key. key.0 == s && key.1 == ss) ks) (changed_keys (rows_now now link) changes.made link.plugs) ∙ (knows.stated link was).1 s ss is)
                (affected_by changes.made) e slot subslot f))
            by_cover false f = same_listed link.request.expected real now slot subslot (is_modules.same slot subslot f)

        low_by : (b c : Bool) → is_hit (affected_by changes.made) (places_then (rows_now now link) changes.made link) ≡ b → link.flow.cyclic.begun ≡ c
            → (changed_link now changes.made later link).flow.low
            ≡ low_changed b c (reported_as link.request (rows_now now link) changes.made) changes.made later (modules_restated link.request.expected (rows_now now link) later link.flow).low
        low_by b c e f =
            ap (λ (d : Bool). low_changed d link.flow.cyclic.begun (reported_as link.request (rows_now now link) changes.made) changes.made later (modules_restated link.request.expected (rows_now now link) later link.flow).low) e
            ∙ ap (λ (d : Bool). low_changed b d (reported_as link.request (rows_now now link) changes.made) changes.made later (modules_restated link.request.expected (rows_now now link) later link.flow).low) f

        -- an alarm that waits has room
        more : is_hit (affected_by changes.made) (places_then (rows_now now link) changes.made link) ≡ true
            → (module_waits (reported_as link.request (rows_now now link) changes.made) changes.made later (modules_restated link.request.expected (rows_now now link) later link.flow).low).waiting
            ≡ link.flow.low.waiting
            ++ module_queued (is_own (modules_restated link.request.expected (rows_now now link) later link.flow).low.places) (reported_as link.request (rows_now now link) changes.made) changes.made later ∷ []
        more e =
            queued_more
            (module_queued (is_own (modules_restated link.request.expected (rows_now now link) later link.flow).low.places) (reported_as link.request (rows_now now link) changes.made) changes.made later)
            (modules_restated link.request.expected (rows_now now link) later link.flow).low
            (sym (ap (λ (b : Bool). b && is_low_full link.flow.low) was_hit) ∙ (ap (λ (l : Option RelationState). is_crowded (affected_by changes.made) l) (sym was) ∙ changes.open_room))
          where
            was_hit : is_hit (affected_by changes.made) link.plugs ≡ true
            was_hit =
                hit_by_keys (affected_by changes.made) link.plugs (places_then (rows_now now link) changes.made link) (changed_keys (rows_now now link) changes.made link.plugs) ∙ e

        waits_placed : is_hit (affected_by changes.made) (places_then (rows_now now link) changes.made link) ≡ true
            → IsPlacedIn first now link.request
            (module_waits (reported_as link.request (rows_now now link) changes.made) changes.made later (modules_restated link.request.expected (rows_now now link) later link.flow).low) raised
        waits_placed e =
            changed_placed first real link.request raised now changes.made (asks link.request) link.flow.low
            (module_waits (reported_as link.request (rows_now now link) changes.made) changes.made later (modules_restated link.request.expected (rows_now now link) later link.flow).low)
            (module_queued (is_own (modules_restated link.request.expected (rows_now now link) later link.flow).low.places) (reported_as link.request (rows_now now link) changes.made) changes.made later)
            refl (more e) seen (are.placed link was)

        by_hit : (b : Bool) → is_hit (affected_by changes.made) (places_then (rows_now now link) changes.made link) ≡ b → (c : Bool) → is_exchanging link.phase ≡ c
            → ArePlaced first now after (raised ++ reported_by before after)
        by_hit false e c f =
            let same = low_by false link.flow.cyclic.begun e refl in
            at_next now after next becomes_it seen.apart
            (subst (λ (xs : List AlarmNotification). IsPlacedIn first now link.request (changed_link now changes.made later link).flow.low xs)
            (sym (silent_at after link next was becomes_it (ap (λ (l : Low). l.alarms.sender.sending.last) same)))
            (elsewhere_placed first real link.request raised now link.flow.low (changed_link now changes.made later link).flow.low (ap (λ (l : Low). l.waiting) same) (still e) (are.placed link was)))
        by_hit true e false f =
            let same = low_by true false e (knows.begins link was ∙ f) in
            at_next now after next becomes_it seen.apart
            (subst (λ (xs : List AlarmNotification). IsPlacedIn first now link.request (changed_link now changes.made later link).flow.low xs)
            (sym (silent_at after link next was becomes_it (ap (λ (l : Low). l.alarms.sender.sending.last) same)))
            (subst (λ (low : Low). IsPlacedIn first now link.request low raised) (sym same) (waits_placed e)))
        by_hit true e true f =
            let same = low_by true true e (knows.begins link was ∙ f) in
            next_so now after link next waits was refl becomes_it same refl seen.apart (waits_placed e)

    pulled_so : ArePlaced first now after (raised ++ reported_by before after)
    pulled_so = by_before before refl
      where
        by_before : (link : Option RelationState) → before ≡ link → ArePlaced first now after (raised ++ reported_by before after)
        by_before (Some link) was = by_relation link was
        by_before None was =
            over_placed now after (raised ++ reported_by before after)
            (changed_apart real now are.apart heard changes.made changes.is changes.modules)
            (changes.becomes ∙ ap (λ (l : Option RelationState). modules_changing now changes.made later l) was)

  -- any turn that leaves the modules as they are
  turn_so : (calls : List Answer) (heard : Heard) (after : Option RelationState) (later : List Diagnosis) (sent : List Sent)
      → ((makes : Makes calls before heard after sent) → IsAlone calls heard after sent makes)
      → IsTurn real real calls diagnoses later before heard after sent → ArePlaced first real after (raised ++ reported_by before after)
  turn_so calls heard after later sent alone turn = by_turn turn
    where
      by_turn : IsTurn real real calls diagnoses later before heard after sent → ArePlaced first real after (raised ++ reported_by before after)
      by_turn (inl stays) = stays_so after stays.link
      by_turn (inr (inl makes)) = makes_so calls heard after sent makes (alone makes)
      by_turn (inr (inr (inl raises))) =
          let may = may_be raises.link.flow raises.slot raises.subslot raises.octets (module_ident real raises.slot) (submodule_ident real raises.slot raises.subslot) raises.flow raises.raised in
          same_so after raises.link (with_flow raises.flow raises.link) raises.was raises.becomes refl (ap (λ (f : Flow). f.low.waiting) may.is) (ap (λ (f : Flow). f.low.alarms.sender.sending.last) may.is)
      by_turn (inr (inr (inr (inl acked)))) = same_so after acked.link _ acked.was acked.becomes refl refl refl
      by_turn (inr (inr (inr (inr (inl came))))) = same_so after came.link _ came.was came.becomes refl refl refl
      by_turn (inr (inr (inr (inr (inr (inl passes)))))) = same_so after passes.link (unit_later passes.link) passes.was passes.becomes refl refl refl
      by_turn (inr (inr (inr (inr (inr (inr (inl acked))))))) = same_so after acked.link _ acked.was acked.becomes refl refl (ack_last acked.link.flow.low.alarms acked.number)
      by_turn (inr (inr (inr (inr (inr (inr (inr (inl came)))))))) = low_data_so heard after sent came
      by_turn (inr (inr (inr (inr (inr (inr (inr (inr (inl begins))))))))) = begins_so after sent begins
      by_turn (inr (inr (inr (inr (inr (inr (inr (inr (inr (inl changes)))))))))) = diagnoses_so heard after later sent changes
      by_turn (inr (inr (inr (inr (inr (inr (inr (inr (inr (inr changes)))))))))) = pulled_so real heard after later sent changes

  pub placed_on : (calls : List Answer) (heard : Heard) (after : Option RelationState) (now : List RealModule) (later : List Diagnosis) (sent : List Sent)
      → ((makes : Makes calls before heard after sent) → IsAlone calls heard after sent makes)
      → IsTurn real now calls diagnoses later before heard after sent
      → (now ≡ real) ⊎ Changes real now diagnoses later before heard after sent → ArePlaced first now after (raised ++ reported_by before after)
  placed_on calls heard after now later sent alone turn (inr changes) = pulled_so now heard after later sent changes
  placed_on calls heard after now later sent alone turn (inl still) =
      subst (λ (modules : List RealModule). ArePlaced first modules after (raised ++ reported_by before after)) (sym still)
      (turn_so calls heard after later sent alone (subst (λ (modules : List RealModule). IsTurn real modules calls diagnoses later before heard after sent) still turn))
