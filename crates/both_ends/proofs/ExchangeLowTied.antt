-- Each turn of a device, as moves of its alarms of low priority, and which changes it reports.
use Rattle.std.proofs.Common.{◌≡◌, inl, inr, ◌&&◌, ◌++◌, ◌+◌, ◌%◌, ℕ, Bool, true, false, cond, List, [], ◌∷◌, Option, Some, None, option_map, refl, sym, ap, subst, ◌∙◌, arith}
use Rattle.std.specs.List.{AllByRecursion}
use Rattle.std.proofs.lemmas.Bool.{eq-eqb, ne_eqb}
use Rattle.pn_values.specs.declared.real.RealModule.{RealModule}
use Rattle.record_blocks.specs.declared.alarm_ack.AlarmAck.{AlarmAck}
use Rattle.record_blocks.specs.declared.alarm_notification.AlarmNotification.{AlarmNotification}
use Rattle.rpc_core.specs.Cache.{Kept as Answer}
use Rattle.diagnosis.specs.declared.diagnosis.Change.{Change}
use Rattle.diagnosis.specs.declared.diagnosis.Diagnosis.{Diagnosis}
use Rattle.diagnosis.specs.alarms.Alarms.{Low, noted}
use Rattle.diagnosis.specs.Queue.{after_next, alarm_of, begun, is_next, is_reported, module_waits, waits_with}
use Rattle.module_diff.specs.declared.changes.RealChange.{RealChange}
use Rattle.module_diff.specs.Changes.{affected_by}
use Rattle.expected_places.specs.Machine.{is_hit}
use Rattle.relations.specs.exchange.Modules.{modules_restated}
use Rattle.relations.specs.Plugging.{is_alarmed_by, is_low_sent, is_sent_then, low_changed, modules_changing, places_then, reported_as, rows_now}
use Rattle.pn_alarms.specs.declared.message.Notice.TheVariants as notice
use Rattle.pn_alarms.specs.declared.receiver.Taken.{Taken}
use Rattle.diagnosis.specs.declared.reports.priority.Priority.TheVariants.{Low as low_priority}
use Rattle.pn_alarms.specs.Device.{end_behind, end_later, end_with, sender_after}
use Rattle.pn_alarms.specs.declared.receiver.Taken.TheVariants.{New, Again, Refused}
use Rattle.pn_alarms.specs.Ends.{DeviceEnd}
use Rattle.pn_alarms.specs.Numbers.{is_last, next_number}
use Rattle.pn_alarms.specs.Receiver.{answer_to, taken_as}
use Rattle.pn_alarms.specs.Sender.{is_end}
use Rattle.pn_alarms.specs.Sending.{Sending, due, rested}
use Rattle.relations.specs.exchange.Diagnosis.{behind_low, diagnosed, is_diagnosed, low_header_of, next_reported}
use Rattle.relations.specs.exchange.Flow.{Flow}
use Rattle.relations.specs.exchange.Notices.{behind_message, header_of}
use Rattle.relations.specs.exchange.Units.{flow_later, repeated_of, tick_of}
use Rattle.relations.specs.Diagnosed.{diagnose_one, diagnosing}
use Rattle.relations.specs.RelationState.{RelationState, flow_of}
use Rattle.relations.specs.Phases.{exchanging_from, made_of, updated, with_flow}
use Rattle.relations.specs.Timers.{unit_later}
use Rattle.device_frames.specs.Heard.{Heard}
use Rattle.device_frames.specs.Relation.{alarms_of, low_alarms_of, low_replies_of, where_due}
use Rattle.device_frames.specs.Sent.{Sent}
use Rattle.controller_messages.specs.declared.setup.Setup.{Setup}
use Rattle.end_laws.specs.turns.Alarms.{Relation, acked_at_device, passed_at_device, raised_by}
use Rattle.end_laws.specs.device.Turn.{Begins, Changes, Diagnoses, HearsAck, HearsData, HearsLowAck, HearsLowData, IsLow, Makes, Passes, Raises, heard_low_in}
use Rattle.both_ends.specs.exchange.Over.{active_in, is_same_number, number_in, one_in, reported_by}
use Rattle.both_ends.proofs.ExchangeLists.{each_behind, none_some, some_is}
use Rattle.both_ends.proofs.ExchangeNextTold.{NextIs, next_is}
use Rattle.both_ends.proofs.ExchangeReported.{ack_in, data_in, reported_at}
use Rattle.both_ends.proofs.ExchangeTurns.{IsSameOr, IsTurn, Way, way_of}
use Rattle.both_ends.proofs.ExchangeTied.{Goes, begun_link, changed_link, diagnosed_link, next_link, IsActive, IsConfirmed, IsFresh, IsHeard, IsNone, IsSaid, IsTied, acked_goes, again_due, all_calm_none, all_none_said, answer_none, confirmed_then, due_holds, due_said, highs_none, is_some_link, low_answer_none, lows_active, made_end, may_be, passed_goes, raised_goes, rests, same_tied, tied_by}
use Rattle.module_diff.specs.Plugged.{module_ident, submodule_ident}

-- ---- which change is reported

same_number_is : (number : Option ℕ) → is_same_number number number ≡ true
same_number_is None = refl
same_number_is (Some number) = eq-eqb number number refl

next_number_is : (last : Option ℕ) → is_same_number (Some (next_number last)) last ≡ false
next_number_is None = refl
next_number_is (Some last) = ne_eqb ((last + 1) % 0x8000) last (λ e. omega (arith, e))

-- with the same number nothing is reported
pub reported_same : (before after : Option RelationState) → number_in after ≡ number_in before → reported_by before after ≡ []
reported_same before after e =
    ap (λ (b : Bool). cond b [] (active_in after)) (ap (λ (n : Option ℕ). is_same_number n (number_in before)) e ∙ same_number_is (number_in before))

-- with the next number the active alarm is
pub reported_next : (before after : Option RelationState) (link next : RelationState) (alarm : AlarmNotification) (end : DeviceEnd) → before ≡ Some link → after ≡ Some next
    → end.sender.sending.last ≡ link.flow.low.alarms.sender.sending.last → next.flow.low.alarms ≡ end_with end alarm → reported_by before after ≡ alarm ∷ []
reported_next before after link next alarm end was becomes same e =
    let number : number_in after ≡ Some (next_number (number_in before)) =
    ap (λ (l : Option RelationState). number_in l) becomes ∙ (ap (λ (d : DeviceEnd). d.sender.sending.last) e
    ∙ (ap (λ (n : Option ℕ). Some (next_number n)) same ∙ ap (λ (l : Option RelationState). Some (next_number (number_in l))) (sym was))) in
    ap (λ (b : Bool). cond b [] (active_in after)) (ap (λ (n : Option ℕ). is_same_number n (number_in before)) number ∙ next_number_is (number_in before))
    ∙ (ap (λ (l : Option RelationState). active_in l) becomes ∙ ap (λ (d : DeviceEnd). one_in d.sender.standing) e)

-- a relation that is over reports nothing
pub reported_over_is : (before after : Option RelationState) → after ≡ None → reported_by before after ≡ []
reported_over_is before after gone =
    ap (λ (l : Option RelationState). reported_by before l) gone ∙ by_number (is_same_number None (number_in before))
  where
    nothing : List AlarmNotification
    nothing = []

    by_number : (b : Bool) → cond b nothing nothing ≡ nothing
    by_number true = refl
    by_number false = refl

-- data and ACKs keep the number
acked_last : (s : Sending) (b : Bool) → (cond b (rested s) s).last ≡ s.last
acked_last s true = refl
acked_last s false = refl

ended_last : (end : DeviceEnd) (b : Bool)
    → (cond b (record { sending = rested end.sender.sending; specifier = end.sender.specifier; standing = None }) end.sender).sending.last ≡ end.sender.sending.last
ended_last end true = refl
ended_last end false = refl

sender_last : (end : DeviceEnd) (ack : AlarmAck) (as_what : Taken) → (sender_after end.sender ack as_what).sending.last ≡ end.sender.sending.last
sender_last end ack New = ended_last end (is_end ack end.sender.standing)
sender_last end ack Again = refl
sender_last end ack Refused = refl

pub ack_last : (end : DeviceEnd) (number : ℕ) → (end_behind end (notice.Ack number)).sender.sending.last ≡ end.sender.sending.last
ack_last end number = acked_last end.sender.sending (is_last end.sender.sending.last number)

pub data_last : (end : DeviceEnd) (number : ℕ) (ack : AlarmAck) → (end_behind end (notice.Data number ack)).sender.sending.last ≡ end.sender.sending.last
data_last end number ack = sender_last end ack (taken_as end.seen number)

-- the number of this relation
number_is : (before : Option RelationState) (link : RelationState) → before ≡ Some link → number_in before ≡ link.flow.low.alarms.sender.sending.last
number_is before link was = ap (λ (l : Option RelationState). number_in l) was

-- ---- a turn

abbrev Told : Setup → Relation → Option RelationState → Option RelationState → List Sent → Type 0
Told setup r before after sent = Goes low_priority setup r before after sent (reported_by before after)

module _ (setup : Setup) where
  -- nothing of low priority happens
  nothing_on : (r : Relation) (before after : Option RelationState) (sent : List Sent) → IsTied low_priority r after → number_in after ≡ number_in before → AllByRecursion (IsNone low_priority) sent
      → Told setup r before after sent
  nothing_on r before after sent tied same none =
      subst (λ (now : List AlarmNotification). Goes low_priority setup r before after sent now) (sym (reported_same before after same)) (rests low_priority setup r before after sent tied none)

  -- the next change is reported, if one can be: before, the relation had this end with this number
  next_on : (r : Relation) (before after : Option RelationState) (link next : RelationState) (middle : Low) → before ≡ Some link
      → middle.alarms.sender.sending.last ≡ link.flow.low.alarms.sender.sending.last → middle.alarms ≡ r.device
      → after ≡ Some next → next.flow.low ≡ after_next middle
      → Goes low_priority setup r before after (where_due (is_next middle) (low_alarms_of (Some next.flow))) (reported_by before after)
  next_on r before after link next middle was same tied becomes low_is = by_next (next_is middle)
    where
      by_next : NextIs middle → Goes low_priority setup r before after (where_due (is_next middle) (low_alarms_of (Some next.flow))) (reported_by before after)
      by_next (inl rests_so) =
          nothing_on r before after (where_due (is_next middle) (low_alarms_of (Some next.flow)))
          (tied_by low_priority setup r after next becomes (ap (λ (low : Low). low.alarms) (low_is ∙ rests_so.0) ∙ tied))
          (ap (λ (l : Option RelationState). number_in l) becomes
          ∙ (ap (λ (low : Low). low.alarms.sender.sending.last) (low_is ∙ rests_so.0) ∙ (same ∙ sym (number_is before link was))))
          (subst (λ (b : Bool). AllByRecursion (IsNone low_priority) (where_due b (low_alarms_of (Some next.flow)))) (sym rests_so.1) tt)
      by_next (inr told) =
          let alarm = alarm_of middle.alarms.sender.specifier told.alarm in
          let end : next.flow.low.alarms ≡ end_with middle.alarms alarm = ap (λ (low : Low). low.alarms) (low_is ∙ told.is) in
          let now : next.flow.low.alarms ≡ (raised_by r alarm None).device = end ∙ ap (λ (d : DeviceEnd). end_with d alarm) tied in
          subst (λ (list : List AlarmNotification). Goes low_priority setup r before after (where_due (is_next middle) (low_alarms_of (Some next.flow))) list)
          (sym (reported_next before after link next alarm middle.alarms was becomes same end))
          (raised_goes low_priority setup r before after _ alarm (ap (λ (d : DeviceEnd). d.sender.standing) (sym tied) ∙ told.none) (is_some_link before link was)
          (tied_by low_priority setup (raised_by r alarm None) after next becomes now)
          (due_holds (IsActive low_priority (raised_by r alarm None).device) (is_next middle) (low_alarms_of (Some next.flow))
          (subst (λ (d : DeviceEnd). AllByRecursion (IsActive low_priority d) (low_alarms_of (Some next.flow))) now (lows_active next.flow))))

  -- so it is, and then messages are sent that are no alarms
  then_calm : (r : Relation) (before after : Option RelationState) (first others : List Sent) (now : List AlarmNotification) → Goes low_priority setup r before after first now
      → AllByRecursion (IsNone low_priority) others → Goes low_priority setup r before after (first ++ others) now
  then_calm r before after first others now goes none = record {
    next = goes.next;
    moves = goes.moves;
    made = goes.made;
    quiet = goes.quiet;
    live = goes.live;
    reported = goes.reported;
    pdus = goes.pdus;
    raised = goes.raised;
    taken = goes.taken;
    tied = goes.tied;
    still = goes.still;
    said = each_behind (λ message. IsSaid goes.next.alarms.pdus (data_in low_priority message)) first others goes.said (all_none_said low_priority setup goes.next.alarms.pdus others none);
  }

module _ (setup : Setup) (r : Relation) (real : List RealModule) (before : Option RelationState) (tied : IsTied low_priority r before) where
  stays_on : (after : Option RelationState) (sent : List Sent) → IsSameOr before after → AllByRecursion (IsNone low_priority) sent → Told setup r before after sent
  stays_on after sent same none =
      subst (λ (now : List AlarmNotification). Goes low_priority setup r before after sent now) (sym (now_is same)) (rests low_priority setup r before after sent (same_tied low_priority setup r before after same tied) none)
    where
      now_is : IsSameOr before after → reported_by before after ≡ []
      now_is (inl equal) = reported_same before after (by_links before after equal)
        where
          by_links : (one other : Option RelationState) → option_map way_of other ≡ option_map way_of one → number_in other ≡ number_in one
          by_links None None e = refl
          by_links None (Some other) e = absurd cc
          by_links (Some one) None e = absurd cc
          by_links (Some one) (Some other) e = ap (λ (way : Way). way.low.alarms.sender.sending.last) (some_is (way_of other) (way_of one) e)
      now_is (inr gone) = reported_over_is before after gone

  -- the relation became this, with the same alarms of low priority
  same_on : (after : Option RelationState) (sent : List Sent) (link next : RelationState) → before ≡ Some link → after ≡ Some next → next.flow.low ≡ link.flow.low → AllByRecursion (IsNone low_priority) sent
      → Told setup r before after sent
  same_on after sent link next was becomes same none =
      nothing_on setup r before after sent (tied_by low_priority setup r after next becomes (ap (λ (low : Low). low.alarms) same ∙ tied link was))
      (ap (λ (l : Option RelationState). number_in l) becomes ∙ (ap (λ (low : Low). low.alarms.sender.sending.last) same ∙ sym (number_is before link was))) none

  raises_on : (heard : Heard) (after : Option RelationState) (sent : List Sent) → Raises real before heard after sent → Told setup r before after sent
  raises_on heard after sent raises =
      let may = may_be raises.link.flow raises.slot raises.subslot raises.octets (module_ident real raises.slot) (submodule_ident real raises.slot raises.subslot) raises.flow raises.raised in
      same_on after sent raises.link (with_flow raises.flow raises.link) raises.was raises.becomes (ap (λ (f : Flow). f.low) may.is)
      (subst (λ (messages : List Sent). AllByRecursion (IsNone low_priority) messages) (sym raises.sends) (highs_none raises.flow))

  acks_on : (heard : Heard) (after : Option RelationState) (sent : List Sent) → HearsAck before heard after sent → Told setup r before after sent
  acks_on heard after sent acked =
      same_on after sent acked.link (with_flow (behind_message acked.link.flow (notice.Ack acked.number)) acked.link) acked.was acked.becomes refl
      (subst (λ (messages : List Sent). AllByRecursion (IsNone low_priority) messages) (sym acked.silent) tt)

  data_on : (heard : Heard) (after : Option RelationState) (sent : List Sent) → HearsData before heard after sent → Told setup r before after sent
  data_on heard after sent came =
      let flow = behind_message came.link.flow (notice.Data came.number came.ack) in
      same_on after sent came.link (with_flow flow came.link) came.was came.becomes refl
      (subst (λ (messages : List Sent). AllByRecursion (IsNone low_priority) messages) (sym came.sends) (answer_none low_priority flow.cyclic.route (header_of flow (answer_to (taken_as came.link.flow.alarms.seen came.number))) _ refl, tt))

  makes_on : (calls : List Answer) (heard : Heard) (after : Option RelationState) (sent : List Sent) → before ≡ None → (makes : Makes calls before heard after sent) → IsFresh low_priority setup r calls before heard after sent
      → Told setup r before after sent
  makes_on calls heard after sent none makes fresh =
      nothing_on setup r before after sent
      (tied_by low_priority setup r after (made_of makes.request makes.partner makes.rows makes.options makes.starting) makes.made (made_end low_priority r calls before heard after sent makes (fresh makes)))
      (ap (λ (l : Option RelationState). number_in l) makes.made ∙ sym (ap (λ (l : Option RelationState). number_in l) none))
      (all_calm_none low_priority before sent makes.calm)

  passes_on : (heard : Heard) (after : Option RelationState) (sent : List Sent) → Passes before heard after sent → Told setup r before after sent
  passes_on heard after sent passes =
      let flow = passes.link.flow in
      let later = flow_later flow in
      let e = tied passes.link passes.was in
      let high = (tick_of flow).is_alarm && (repeated_of flow).high in
      let low = (tick_of flow).is_alarm && (repeated_of flow).low in
      let next = passed_at_device r in
      let Said = λ (message : Sent). IsSaid next.alarms.pdus (data_in low_priority message) in
      subst (λ (now : List AlarmNotification). Goes low_priority setup r before after sent now)
      (sym (reported_same before after (ap (λ (l : Option RelationState). number_in l) passes.becomes ∙ sym (number_is before passes.link passes.was))))
      (passed_goes low_priority setup r before after sent (is_some_link before passes.link passes.was)
      (tied_by low_priority setup next after (unit_later passes.link) passes.becomes (ap (λ (d : DeviceEnd). end_later d) e))
      (subst (λ (messages : List Sent). AllByRecursion Said messages) (sym passes.sends)
      (each_behind Said (where_due high (alarms_of (Some later))) (where_due low (low_alarms_of (Some later)) ++ passes.others)
      (all_none_said low_priority setup next.alarms.pdus (where_due high (alarms_of (Some later))) (due_holds (IsNone low_priority) high (alarms_of (Some later)) (highs_none later)))
      (each_behind Said (where_due low (low_alarms_of (Some later))) passes.others
      (due_said low_priority setup r low (low_alarms_of (Some later)) (λ f. ap (λ (d : DeviceEnd). due d.sender.sending) (sym e) ∙ again_due (tick_of flow).is_alarm (due flow.low.alarms.sender.sending) f)
      (subst (λ (d : DeviceEnd). AllByRecursion (IsActive low_priority d) (low_alarms_of (Some later))) e (lows_active later)))
      (all_none_said low_priority setup next.alarms.pdus passes.others (all_calm_none low_priority before passes.others passes.calm))))))

  low_acks_on : (heard : Heard) (after : Option RelationState) (sent : List Sent) → HearsLowAck before heard after sent → Told setup r before after sent
  low_acks_on heard after sent acked =
      let low = acked.link.flow.low in
      subst (λ (now : List AlarmNotification). Goes low_priority setup r before after sent now)
      (sym (reported_same before after (ap (λ (l : Option RelationState). number_in l) acked.becomes ∙ (ack_last low.alarms acked.number ∙ sym (number_is before acked.link acked.was)))))
      (acked_goes low_priority setup r before after sent acked.number (is_some_link before acked.link acked.was)
      (tied_by low_priority setup (acked_at_device r acked.number) after (with_flow (behind_low acked.link.flow (notice.Ack acked.number)) acked.link) acked.becomes
      (ap (λ (d : DeviceEnd). end_behind d (notice.Ack acked.number)) (tied acked.link acked.was)))
      (subst (λ (messages : List Sent). AllByRecursion (IsNone low_priority) messages) (sym acked.silent) tt))

  -- an AlarmAck, and then the next change
  low_data_on : (heard : Heard) (after : Option RelationState) (sent : List Sent) → IsHeard low_priority r.reported (ack_in low_priority (reported_at heard)) → HearsLowData before heard after sent → Told setup r before after sent
  low_data_on heard after sent is came =
      let link = came.link in
      let flow = behind_low link.flow (notice.Data came.number came.ack) in
      let middle = heard_low_in link (notice.Data came.number came.ack) in
      let some = is_some_link before link came.was in
      let replies = low_replies_of (taken_as link.flow.low.alarms.seen came.number) (Some flow) in
      let end : flow.low.alarms ≡ end_behind r.device (notice.Data came.number came.ack) = ap (λ (d : DeviceEnd). end_behind d (notice.Data came.number came.ack)) (tied link came.was) in
      let second = next_on setup (record r { device = end_behind r.device (notice.Data came.number came.ack) }) before after link (next_link middle) flow.low came.was
      (data_last link.flow.low.alarms came.number came.ack) end came.becomes refl in
      subst (λ (messages : List Sent). Told setup r before after messages) (sym came.sends)
      (confirmed_then low_priority setup r before (Some middle) after replies (where_due (is_next flow.low) (low_alarms_of (Some (next_reported flow)))) (reported_by before after) came.number came.ack some
      (there came.is) (tied_by low_priority setup (record r { device = end_behind r.device (notice.Data came.number came.ack) }) (Some middle) middle refl end)
      (low_answer_none low_priority flow.cyclic.route flow.low.tag (low_header_of flow (answer_to (taken_as came.link.flow.low.alarms.seen came.number))) _ refl, tt) second)
    where
      there : IsLow heard came.source came.header (notice.Data came.number came.ack) → IsConfirmed low_priority r.reported came.number came.ack
      there (inl same) = subst (λ (h : Heard). IsHeard low_priority r.reported (ack_in low_priority (reported_at h))) same is
      there (inr same) = subst (λ (h : Heard). IsHeard low_priority r.reported (ack_in low_priority (reported_at h))) same is

  begins_on : (diagnoses : List Diagnosis) (after : Option RelationState) (sent : List Sent) → Begins real diagnoses before after sent → Told setup r before after sent
  begins_on diagnoses after sent begins =
      let link = begins.link in
      let now = exchanging_from link in
      subst (λ (messages : List Sent). Told setup r before after messages) (sym begins.sends)
      (next_on setup r before after link (begun_link real diagnoses now) (begun real diagnoses now.flow.low) begins.was refl (tied link begins.was) begins.becomes refl)

  -- a change of diagnosis
  changes_on : (diagnoses later : List Diagnosis) (heard : Heard) (after : Option RelationState) (sent : List Sent) → Diagnoses real diagnoses later before heard after sent → Told setup r before after sent
  changes_on diagnoses later heard after sent changes = by_link before refl changes.becomes changes.sends
    where
      change : Change
      change = changes.change

      by_link : (link : Option RelationState) → before ≡ link → after ≡ updated (diagnosing real changes.change later link) link
          → sent ≡ where_due (diagnose_one real changes.change later before) (low_alarms_of (flow_of after)) → Told setup r before after sent
      by_link None was becomes sends =
          nothing_on setup r before after sent (λ l is. absurd (none_some l after becomes is))
          (ap (λ (l : Option RelationState). number_in l) becomes ∙ sym (ap (λ (l : Option RelationState). number_in l) was))
          (subst (λ (messages : List Sent). AllByRecursion (IsNone low_priority) messages)
          (sym (sends ∙ ap (λ (l : Option RelationState). where_due (diagnose_one real changes.change later l) (low_alarms_of (flow_of after))) was)) tt)
      by_link (Some link) was becomes sends = by_test (is_reported link.flow.cyclic.begun changes.change link.flow.low) refl
        where
          waits : Low
          waits = waits_with real changes.change later link.flow.low

          sends_by : (one : Bool) → is_diagnosed real changes.change later link.flow ≡ one → sent ≡ where_due one (low_alarms_of (flow_of after))
          sends_by one e =
              sends ∙ (ap (λ (l : Option RelationState). where_due (diagnose_one real changes.change later l) (low_alarms_of (flow_of after))) was
              ∙ ap (λ (b : Bool). where_due b (low_alarms_of (flow_of after))) e)

          by_test : (b : Bool) → is_reported link.flow.cyclic.begun changes.change link.flow.low ≡ b → Told setup r before after sent
          by_test false e =
              same_alarms (ap (λ (b : Bool). cond b (after_next (waits_with real changes.change later link.flow.low)) (noted later link.flow.low)) e)
              (ap (λ (b : Bool). b && is_next (waits_with real changes.change later link.flow.low)) e)
            where
              same_alarms : (diagnosed real changes.change later link.flow).low ≡ noted later link.flow.low → is_diagnosed real changes.change later link.flow ≡ false → Told setup r before after sent
              same_alarms same silent =
                  nothing_on setup r before after sent
                  (tied_by low_priority setup r after (diagnosed_link real changes.change later link) becomes (ap (λ (low : Low). low.alarms) same ∙ tied link was))
                  (ap (λ (l : Option RelationState). number_in l) becomes ∙ (ap (λ (low : Low). low.alarms.sender.sending.last) same ∙ sym (number_is before link was)))
                  (subst (λ (messages : List Sent). AllByRecursion (IsNone low_priority) messages) (sym (sends_by false silent)) tt)
          by_test true e =
              let same : (diagnosed real changes.change later link.flow).low ≡ after_next waits =
              ap (λ (b : Bool). cond b (after_next (waits_with real changes.change later link.flow.low)) (noted later link.flow.low)) e in
              let one : is_diagnosed real changes.change later link.flow ≡ is_next waits =
              ap (λ (b : Bool). b && is_next (waits_with real changes.change later link.flow.low)) e in
              subst (λ (messages : List Sent). Told setup r before after messages)
              (sym (sends_by (is_next waits) one ∙ ap (λ (l : Option RelationState). where_due (is_next waits) (low_alarms_of (flow_of l))) becomes))
              (next_on setup r before after link (diagnosed_link real changes.change later link) waits was refl (tied link was) becomes same)

  -- a pull or a plug
  modules_on : (now : List RealModule) (diagnoses later : List Diagnosis) (heard : Heard) (after : Option RelationState) (sent : List Sent) → Changes real now diagnoses later before heard after sent
      → Told setup r before after sent
  modules_on now diagnoses later heard after sent changes = by_link before refl changes.becomes changes.sends
    where
      made : RealChange
      made = changes.made

      none : AllByRecursion (IsNone low_priority) changes.others
      none = all_calm_none low_priority before changes.others changes.calm

      by_link : (link : Option RelationState) → before ≡ link → after ≡ modules_changing now changes.made later link
          → sent ≡ where_due (is_alarmed_by now changes.made later before) (low_alarms_of (flow_of after)) ++ changes.others → Told setup r before after sent
      by_link None was becomes sends =
          nothing_on setup r before after sent (λ l is. absurd (none_some l after becomes is))
          (ap (λ (l : Option RelationState). number_in l) becomes ∙ sym (ap (λ (l : Option RelationState). number_in l) was))
          (subst (λ (messages : List Sent). AllByRecursion (IsNone low_priority) messages)
          (sym (sends ∙ ap (λ (l : Option RelationState). where_due (is_alarmed_by now changes.made later l) (low_alarms_of (flow_of after)) ++ changes.others) was)) none)
      by_link (Some link) was becomes sends =
          by_hit (is_hit (affected_by changes.made) (places_then (rows_now now link) changes.made link)) refl link.flow.cyclic.begun refl
        where
          next : RelationState
          next = changed_link now changes.made later link

          stated : Low
          stated = (modules_restated link.request.expected (rows_now now link) later link.flow).low

          waits : Low
          waits = module_waits (reported_as link.request (rows_now now link) changes.made) changes.made later
              (modules_restated link.request.expected (rows_now now link) later link.flow).low

          sends_by : (one : Bool) → is_sent_then (rows_now now link) changes.made later link ≡ one → sent ≡ where_due one (low_alarms_of (flow_of after)) ++ changes.others
          sends_by one e =
              sends ∙ (ap (λ (l : Option RelationState). where_due (is_alarmed_by now changes.made later l) (low_alarms_of (flow_of after)) ++ changes.others) was
              ∙ ap (λ (b : Bool). where_due b (low_alarms_of (flow_of after)) ++ changes.others) e)

          same_alarms : (low : Low) → low.alarms ≡ link.flow.low.alarms → next.flow.low ≡ low → is_sent_then (rows_now now link) changes.made later link ≡ false → Told setup r before after sent
          same_alarms low same is silent =
              nothing_on setup r before after sent
              (tied_by low_priority setup r after next becomes (ap (λ (l : Low). l.alarms) is ∙ (same ∙ tied link was)))
              (ap (λ (l : Option RelationState). number_in l) becomes
              ∙ (ap (λ (l : Low). l.alarms.sender.sending.last) is ∙ (ap (λ (d : DeviceEnd). d.sender.sending.last) same ∙ sym (number_is before link was))))
              (subst (λ (messages : List Sent). AllByRecursion (IsNone low_priority) messages) (sym (sends_by false silent)) none)

          by_hit : (b : Bool) → is_hit (affected_by changes.made) (places_then (rows_now now link) changes.made link) ≡ b → (c : Bool) → link.flow.cyclic.begun ≡ c → Told setup r before after sent
          by_hit false e c f =
              same_alarms stated refl
              (ap (λ (b : Bool). low_changed b link.flow.cyclic.begun (reported_as link.request (rows_now now link) changes.made) changes.made later stated) e)
              (ap (λ (b : Bool). is_low_sent b link.flow.cyclic.begun (reported_as link.request (rows_now now link) changes.made) changes.made later stated) e)
          by_hit true e false f =
              same_alarms waits refl
              (ap (λ (b : Bool). low_changed b link.flow.cyclic.begun (reported_as link.request (rows_now now link) changes.made) changes.made later stated) e
              ∙ ap (λ (c : Bool). low_changed true c (reported_as link.request (rows_now now link) changes.made) changes.made later stated) f)
              (ap (λ (b : Bool). is_low_sent b link.flow.cyclic.begun (reported_as link.request (rows_now now link) changes.made) changes.made later stated) e
              ∙ ap (λ (c : Bool). is_low_sent true c (reported_as link.request (rows_now now link) changes.made) changes.made later stated) f)
          by_hit true e true f =
              let same : next.flow.low ≡ after_next waits =
              ap (λ (b : Bool). low_changed b link.flow.cyclic.begun (reported_as link.request (rows_now now link) changes.made) changes.made later stated) e
              ∙ ap (λ (c : Bool). low_changed true c (reported_as link.request (rows_now now link) changes.made) changes.made later stated) f in
              let one : is_sent_then (rows_now now link) changes.made later link ≡ is_next waits =
              ap (λ (b : Bool). is_low_sent b link.flow.cyclic.begun (reported_as link.request (rows_now now link) changes.made) changes.made later stated) e
              ∙ ap (λ (c : Bool). is_low_sent true c (reported_as link.request (rows_now now link) changes.made) changes.made later stated) f in
              subst (λ (messages : List Sent). Told setup r before after messages)
              (sym (sends_by (is_next waits) one ∙ ap (λ (l : Option RelationState). where_due (is_next waits) (low_alarms_of (flow_of l)) ++ changes.others) becomes))
              (then_calm setup r before after (where_due (is_next waits) (low_alarms_of (Some next.flow))) changes.others (reported_by before after)
              (next_on setup r before after link next waits was refl (tied link was) becomes same) none)

  pub low_turn_on : (now : List RealModule) (calls : List Answer) (diagnoses later : List Diagnosis) (heard : Heard) (after : Option RelationState) (sent : List Sent)
      → IsHeard low_priority r.reported (ack_in low_priority (reported_at heard)) → IsFresh low_priority setup r calls before heard after sent
      → (Makes calls before heard after sent → before ≡ None)
      → IsTurn real now calls diagnoses later before heard after sent → Told setup r before after sent
  low_turn_on now calls diagnoses later heard after sent is fresh alone (inl stays) = stays_on after sent stays.link (all_calm_none low_priority before sent stays.calm)
  low_turn_on now calls diagnoses later heard after sent is fresh alone (inr (inl makes)) = makes_on calls heard after sent (alone makes) makes fresh
  low_turn_on now calls diagnoses later heard after sent is fresh alone (inr (inr (inl raises))) = raises_on heard after sent raises
  low_turn_on now calls diagnoses later heard after sent is fresh alone (inr (inr (inr (inl acked)))) = acks_on heard after sent acked
  low_turn_on now calls diagnoses later heard after sent is fresh alone (inr (inr (inr (inr (inl came))))) = data_on heard after sent came
  low_turn_on now calls diagnoses later heard after sent is fresh alone (inr (inr (inr (inr (inr (inl passes)))))) = passes_on heard after sent passes
  low_turn_on now calls diagnoses later heard after sent is fresh alone (inr (inr (inr (inr (inr (inr (inl acked))))))) = low_acks_on heard after sent acked
  low_turn_on now calls diagnoses later heard after sent is fresh alone (inr (inr (inr (inr (inr (inr (inr (inl came)))))))) = low_data_on heard after sent is came
  low_turn_on now calls diagnoses later heard after sent is fresh alone (inr (inr (inr (inr (inr (inr (inr (inr (inl begins))))))))) = begins_on diagnoses after sent begins
  low_turn_on now calls diagnoses later heard after sent is fresh alone (inr (inr (inr (inr (inr (inr (inr (inr (inr (inl changes)))))))))) = changes_on diagnoses later heard after sent changes
  low_turn_on now calls diagnoses later heard after sent is fresh alone (inr (inr (inr (inr (inr (inr (inr (inr (inr (inr changes)))))))))) = modules_on now diagnoses later heard after sent changes
