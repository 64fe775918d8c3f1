-- A device in any state: which outcomes of what it hears leave it so, and which links.
use Rattle.std.proofs.Common.{◌≡◌, ◌⊎◌, inl, inr, ◌≤◌, ℕ, Bool, true, false, List, [], ◌∷◌, map, Option, Some, None, Ok, refl, sym, ap, subst, ◌∙◌}
use Rattle.std.specs.Prelude.{if◌then◌else◌, is_some, unwrap_or}
use Rattle.std.proofs.lemmas.Bool.{false≢true}
use Rattle.std.specs.List.{AllByRecursion}
use Rattle.pn_values.specs.declared.identity.Identity.{Identity}
use Rattle.pn_values.specs.declared.real.Real.{Real}
use Rattle.pn_values.specs.declared.set_item.SetItem.{SetItem}
use Rattle.settings_journal.specs.settings_store.Machine.{Carried, carried}
use Rattle.record_blocks.specs.declared.write_record.IodWriteReq.{IodWriteReq}
use Rattle.records.specs.declared.status.operation.Operation.TheVariants.{Write}
use Rattle.records.specs.declared.writes.taken.TakenRecord.{TakenRecord}
use Rattle.diagnosis.specs.declared.alarms.alarms.SentAlarm.{SentAlarm}
use Rattle.diagnosis.specs.declared.queue.QueuedAlarm.{QueuedAlarm}
use Rattle.expected_places.specs.Calls.{counted}
use Rattle.expected_places.specs.Machine.{PlugState}
use Rattle.rpc_core.specs.Cache.{Kept, kept_more, kept_of}
use Rattle.rpc_core.specs.Call.{Asked as Call}
use Rattle.frame_codec.specs.declared.udp.Caller.{Caller}
use Rattle.rpc_core.specs.Response.{Answered}
use Rattle.cyclic_data.specs.Timing.{Hearing, held_on}
use Rattle.cyclic_data.specs.declared.exchange.route.Route.{Route}
use Rattle.frame_codec.specs.FrameId.{is_cyclic}
use Rattle.relations.specs.RelationState.{RelationState, uuid_of}
use Rattle.relations.specs.declared.phase.Partner.{Partner}
use Rattle.relations.specs.exchange.Flow.{Flow}
use Rattle.relations.specs.Phases.{Named, Records, Took, Parameterized, parameterized_from, exchanging_from, updated, with_flow, with_reported}
use Rattle.relations.specs.Plugging.{plugs_after}
use Rattle.relations.specs.Diagnosed.{has_sent_low}
use Rattle.relations.specs.Timers.{is_timed, unit_later}
use Rattle.device_frames.specs.Sendable.{AreSendable, IsSendable}
use Rattle.device_frames.specs.Sent.{Sent, CallAnswer, bytes_of}
use Rattle.device_core.specs.State.{Live, Rest, Station}
use Rattle.device_core.specs.Handled.{Handled, Refuses, Sets, Writes, WritesEach, Moves, answer_from, kept_behind, kept_for, partner_of}
use Rattle.device_core.specs.Machine.{Stepped, finished, handled_step, link_behind, several_answer}
use Rattle.device_core.specs.Several.{Judged, texts_in}
use Rattle.controller_messages.specs.declared.setup.Setup.{Setup}
use Rattle.controller_messages.specs.Heard.{heard_of}
use Rattle.end_laws.specs.device.Orderly.{AreNumbered}
use Rattle.end_laws.specs.hearing.Stations.{IsDevice, IsSetup}
use Rattle.rounds_law.specs.Anywhere.{AllLast, ChoosesWell, IsAnyDevice, IsNoData, IsQuestionOf, Lasts}
use Rattle.rounds_law.specs.Path.{IsAddressed, IsIgnored}
use Rattle.rounds_law.specs.Start.{CanBeAddressed, IsOfPlan}
use Rattle.rounds_law.proofs.AgainKept.{none_more}
use Rattle.rounds_law.proofs.AnywhereAsked.{some_more}
use Rattle.rounds_law.proofs.AnywherePlugs.{after_numbered, later_numbered}
use Rattle.rounds_law.proofs.AnywhereDeviceSays.{IsFitting, IsSizedIfPlug, SaysLaws, all_fit, all_sized, answer_no_data, message_fit}
use Rattle.rounds_law.proofs.DeviceCallingSteps.{kept_first}

-- ---- relations

module _ (setup : Setup) (silence : ℕ) where
  -- If the plan writes parameters after a plug, no alarm of low priority was sent before data is exchanged.
  abbrev pub StaysUntold : RelationState → Flow → Type 0
  StaysUntold link flow =
      setup.plan.parameters_after_plug ≡ true → is_timed link.phase ≡ true → is_some flow.low.alarms.sender.sending.last ≡ false

  -- Data is exchanged, if the plan does that.
  abbrev pub IsUntimed : RelationState → Type 0
  IsUntimed link = setup.plan.parameters_after_plug ≡ true → is_timed link.phase ≡ true → ⊥

  -- It is so of a relation.
  pub untold_in : (link : RelationState) → Lasts setup silence link → StaysUntold link link.flow
  untold_in link lasts keyed timed = (lasts.untold keyed timed).0

  pub untold_by : (link : RelationState) (flow : Flow) → IsUntimed link → StaysUntold link flow
  untold_by link flow untimed keyed timed = absurd (untimed keyed timed)

  -- An alarm of low priority was sent: so data is exchanged.
  pub untimed_by : (link : RelationState) → Lasts setup silence link → has_sent_low (Some link) ≡ true → IsUntimed link
  untimed_by link lasts sent keyed timed = false≢true (sym (lasts.untold keyed timed).0 ∙ sent)

  pub flow_lasts : (link : RelationState) (flow : Flow) → flow.cyclic.begun ≡ link.flow.cyclic.begun
      → flow.cyclic.hearing.limit ≡ link.flow.cyclic.hearing.limit → flow.cyclic.route ≡ link.flow.cyclic.route
      → StaysUntold link flow → Lasts setup silence link → Lasts setup silence (with_flow flow link)
  flow_lasts link flow begun limit route quiet lasts = record {
    runs = λ untimed. begun ∙ lasts.runs untimed;
    active = lasts.active;
    holds = subst (λ (n : ℕ). n ≤ silence) (sym limit) lasts.holds;
    named = lasts.named;
    object = lasts.object;
    called = lasts.called;
    inputs = subst (λ (r : Route). is_cyclic r.sent_id ≡ true) (sym route) lasts.inputs;
    untold = λ keyed timed. (quiet keyed timed, (lasts.untold keyed timed).1);
  }

  -- with these records, and these places, whose calls are as before
  pub reported_lasts : (link : RelationState) (flow : Flow) (taken : List TakenRecord) (sent : Option SentAlarm) (waiting : List QueuedAlarm)
      → IsUntimed link → Lasts setup silence (with_flow flow link)
      → Lasts setup silence (with_reported flow taken (plugs_after sent waiting link.plugs) link)
  reported_lasts link flow taken sent waiting untimed lasts = record {
    runs = lasts.runs;
    active = lasts.active;
    holds = lasts.holds;
    named = lasts.named;
    object = lasts.object;
    called = after_numbered sent waiting link.plugs lasts.called;
    inputs = lasts.inputs;
    untold = λ keyed timed. absurd (untimed keyed timed);
  }

  -- with other calls of plugs
  pub called_lasts : (link : RelationState) (flow : Flow) (plugs : PlugState) → AreNumbered plugs.calls
      → (setup.plan.parameters_after_plug ≡ true → is_timed link.phase ≡ true → plugs.has_told ≡ false) → Lasts setup silence (with_flow flow link)
      → Lasts setup silence (record link { flow = flow; plugs = plugs })
  called_lasts link flow plugs called told lasts = record {
    runs = lasts.runs;
    active = lasts.active;
    holds = lasts.holds;
    named = lasts.named;
    object = lasts.object;
    called = called;
    inputs = lasts.inputs;
    untold = λ keyed timed. ((lasts.untold keyed timed).0, told keyed timed);
  }

  pub restarted_lasts : (source : Partner) (link : Option RelationState) → AllLast setup silence link → AllLast setup silence (updated (Named source) link)
  restarted_lasts source None lasts = lasts
  restarted_lasts source (Some link) lasts = record {
    runs = lasts.runs;
    active = lasts.active;
    holds = lasts.holds;
    named = lasts.named;
    object = lasts.object;
    called = lasts.called;
    inputs = lasts.inputs;
    untold = lasts.untold;
  }

  pub records_last : (records : Records) (link : Option RelationState) → AllLast setup silence link → AllLast setup silence (updated (Took records) link)
  records_last records None lasts = lasts
  records_last records (Some link) lasts = record {
    runs = lasts.runs;
    active = lasts.active;
    holds = lasts.holds;
    named = lasts.named;
    object = lasts.object;
    called = lasts.called;
    inputs = lasts.inputs;
    untold = lasts.untold;
  }

  parameterized_one : (by_application : Bool) (link : RelationState) → is_timed link.phase ≡ true → Lasts setup silence link
      → Lasts setup silence (parameterized_from by_application link)
  parameterized_one true link timed lasts = record {
    runs = λ untimed. absurd cc;
    active = lasts.active;
    holds = lasts.holds;
    named = lasts.named;
    object = lasts.object;
    called = lasts.called;
    inputs = lasts.inputs;
    untold = λ keyed later. lasts.untold keyed timed;
  }
  parameterized_one false link timed lasts = record {
    runs = λ untimed. absurd cc;
    active = lasts.active;
    holds = lasts.holds;
    named = lasts.named;
    object = lasts.object;
    called = lasts.called;
    inputs = lasts.inputs;
    untold = λ keyed later. lasts.untold keyed timed;
  }

  pub parameterized_lasts : (by_application : Bool) (link : Option RelationState) → ((its : RelationState) → link ≡ Some its → is_timed its.phase ≡ true)
      → AllLast setup silence link → AllLast setup silence (updated (Parameterized by_application) link)
  parameterized_lasts by_application None timed lasts = lasts
  parameterized_lasts by_application (Some link) timed lasts = parameterized_one by_application link (timed link refl) lasts

  pub exchanging_lasts : (link : RelationState) → Lasts setup silence link → Lasts setup silence (exchanging_from link)
  exchanging_lasts link lasts = record {
    runs = λ untimed. refl;
    active = lasts.active;
    holds = lasts.holds;
    named = lasts.named;
    object = lasts.object;
    called = lasts.called;
    inputs = lasts.inputs;
    untold = λ keyed timed. absurd (false≢true timed);
  }

  later_limit : (begun : Bool) (hearing : Hearing) → (if begun then held_on hearing else hearing).limit ≡ hearing.limit
  later_limit true hearing = refl
  later_limit false hearing = refl

  later_told : (timed : Bool) (plugs : PlugState) → (if timed then plugs else record plugs { calls = counted plugs.calls }).has_told ≡ plugs.has_told
  later_told true plugs = refl
  later_told false plugs = refl

  pub passed_lasts : (link : RelationState) → Lasts setup silence link → Lasts setup silence (unit_later link)
  passed_lasts link lasts = record {
    runs = lasts.runs;
    active = lasts.active;
    holds = subst (λ (n : ℕ). n ≤ silence) (sym (later_limit link.flow.cyclic.begun link.flow.cyclic.hearing)) lasts.holds;
    named = lasts.named;
    object = lasts.object;
    called = later_numbered (is_timed link.phase) link.plugs lasts.called;
    inputs = lasts.inputs;
    untold = λ keyed timed.
        ((lasts.untold keyed timed).0, later_told (is_timed link.phase) link.plugs ∙ (lasts.untold keyed timed).1);
  }

-- ---- the stored answers

module _ (setup next : Setup) (identity : Identity) (silence : ℕ) (station : Station) where
  -- The stored answers are fit for one controller, and not for one of the next start; and they are no cyclic frames.
  pub record IsStored (calls : List Kept) : Type 0 where
    pub well : (kept : Kept) → kept_of setup.activity calls ≡ Some kept → ChoosesWell setup kept.frame
    pub other : (kept : Kept) → kept_of setup.activity calls ≡ Some kept → IsIgnored next kept.frame
    pub uncalled : kept_of next.activity calls ≡ None
    pub dataless : setup.plan.parameters_after_plug ≡ true → (kept : Kept) → kept_of setup.activity calls ≡ Some kept
        → IsNoData (heard_of setup.plan.controller kept.frame)

  -- The rest after it, and what is sent.
  abbrev pub IsFineMove : Rest → List Sent → Type 0
  IsFineMove rest sent =
      AllLast setup silence rest.link × (AreSendable station.identity sent → IsStored rest.calls) × AllByRecursion (IsFitting setup) sent
      × IsQuestionOf setup next (uuid_of rest.link) rest.asked.standing

  -- An outcome that leaves the settings. Of several records that one call writes, none is an I&M text.
  abbrev pub IsFine : Live → Handled → Type 0
  IsFine live (Refuses note) = Unit {0}
  IsFine live (Sets asker request in_operation) = ⊥
  IsFine live (Writes caller address call header value) = ⊥
  IsFine live (WritesEach caller address call header judged) =
      let answer = answer_from address caller call Write (Ok (several_answer header judged [] live.rest.link)) in
      (texts_in judged ≡ [])
      × IsFineMove (kept_behind station.identity live.rest call answer (updated (Named (partner_of caller)) (link_behind judged live.rest.link))) (answer ∷ [])
  IsFine live (Moves rest sent) = IsFineMove rest sent

  -- The device is in some state again, and what it sends is fit.
  abbrev pub GoesOn : Live → List (List ℕ) → Type 0
  GoesOn live frames = IsAnyDevice setup next identity silence station live × AllByRecursion (ChoosesWell setup) frames

  -- the same settings, and another rest
  rest_after : (live : Live) (rest : Rest) → IsAnyDevice setup next identity silence station live → rest.real ≡ live.rest.real
      → AllLast setup silence rest.link → IsStored rest.calls → IsQuestionOf setup next (uuid_of rest.link) rest.asked.standing
      → IsAnyDevice setup next identity silence station (record { values = live.values; rest = rest })
  rest_after live rest device real lasts stored asked = record {
    of_device = device.of_device;
    of_plan = subst (λ (r : Real). IsOfPlan setup station r) (sym real) device.of_plan;
    named = record { name = device.named.name };
    sized = device.sized;
    addressed = addressed_so device.addressed;
    lasts = lasts;
    stored = stored.well;
    stored_other = stored.other;
    answers = stored.dataless;
    uncalled_next = stored.uncalled;
    asked = asked;
  }
    where
      addressed_so : IsAddressed setup live ⊎ CanBeAddressed live
          → IsAddressed setup (record { values = live.values; rest = rest }) ⊎ CanBeAddressed (record { values = live.values; rest = rest })
      addressed_so (inl is) = inl (record { suite = is.suite })
      addressed_so (inr can) = inr (record { unfailed = can.unfailed; room = can.room })

  pub stored_before : (live : Live) → IsAnyDevice setup next identity silence station live → IsStored live.rest.calls
  stored_before live device = record { well = device.stored; other = device.stored_other; uncalled = device.uncalled_next; dataless = device.answers }

  abbrev each_answer : Live → Caller → List ℕ → Call → IodWriteReq → List Judged → Sent
  each_answer live caller address call header judged = answer_from address caller call Write (Ok (several_answer header judged [] live.rest.link))

  -- The step of several records, if this was carried out of the settings.
  abbrev each_step : Live → Caller → List ℕ → Call → IodWriteReq → List Judged → Carried → Stepped
  each_step live caller address call header judged settled =
      let what = WritesEach caller address call header judged in
      let end = finished station.identity live.rest what settled.answers in
      record {
        live = record { values = settled.values; rest = end.rest };
        sent = end.sent;
        frames = map (bytes_of station.identity) end.sent;
        note = end.note;
        accepted = settled.accepted;
      }

  each_is : (live : Live) (caller : Caller) (address : List ℕ) (call : Call) (header : IodWriteReq) (judged : List Judged) → texts_in judged ≡ []
      → handled_step [] station live (WritesEach caller address call header judged)
      ≡ each_step live caller address call header judged (carried [] live.values [])
  unfolding handled_step
  each_is live caller address call header judged none =
      ap (λ (items : List SetItem). each_step live caller address call header judged (carried [] live.values items)) none

  pub fine_sized : (live : Live) (what : Handled) → IsFine live what → AllByRecursion IsSizedIfPlug (handled_step [] station live what).sent
  unfolding handled_step
  fine_sized live (Refuses note) fine = tt
  fine_sized live (Sets asker request in_operation) fine = absurd fine
  fine_sized live (Writes caller address call header value) fine = absurd fine
  fine_sized live (WritesEach caller address call header judged) fine =
      subst (λ (step : Stepped). AllByRecursion IsSizedIfPlug step.sent) (sym (each_is live caller address call header judged fine.0)) (tt, tt)
  fine_sized live (Moves rest sent) fine = all_sized setup sent fine.2

  module _ (laws : SaysLaws) (good : IsSetup setup) (device : IsDevice station.identity) where
    move_after : (live : Live) (rest : Rest) (sent : List Sent) → IsAnyDevice setup next identity silence station live → rest.real ≡ live.rest.real
        → IsFineMove rest sent → AreSendable station.identity sent → GoesOn (record { values = live.values; rest = rest }) (map (bytes_of station.identity) sent)
    move_after live rest sent before real fine can =
        (rest_after live rest before real fine.0 (fine.1 can) fine.3, all_fit laws setup station.identity good device sent fine.2 can)

    pub fine_after : (live : Live) (what : Handled) → IsAnyDevice setup next identity silence station live
        → (handled_step [] station live what).live.rest.real ≡ live.rest.real → IsFine live what
        → AreSendable station.identity (handled_step [] station live what).sent
        → GoesOn (handled_step [] station live what).live (handled_step [] station live what).frames
    unfolding handled_step
    fine_after live (Refuses note) before real fine can = (before, tt)
    fine_after live (Sets asker request in_operation) before real fine can = absurd fine
    fine_after live (Writes caller address call header value) before real fine can = absurd fine
    fine_after live (WritesEach caller address call header judged) before real fine can =
        let is = each_is live caller address call header judged fine.0 in
        subst (λ (step : Stepped). GoesOn step.live step.frames) (sym is)
        (move_after live (kept_behind station.identity live.rest call (each_answer live caller address call header judged)
        (updated (Named (partner_of caller)) (link_behind judged live.rest.link)))
        (each_answer live caller address call header judged ∷ []) before refl fine.1 (subst (λ (step : Stepped). AreSendable station.identity step.sent) is can))
    fine_after live (Moves rest sent) before real fine can = move_after live rest sent before real fine can

  -- ---- an answer that is stored

  -- the newest one, of the calls of this controller
  stored_one : (newest kept : Kept) (found : Option Kept) → found ≡ Some newest → found ≡ Some kept → kept ≡ newest
  stored_one newest kept found one other = some_same kept newest (sym other ∙ one)
    where
      some_same : (a b : Kept) → Some a ≡ Some b → a ≡ b
      some_same a b e = ap (λ (o : Option Kept). unwrap_or o a) e

  pub answer_stored : SaysLaws → IsSetup setup → IsDevice station.identity → (next.activity ≡ setup.activity → ⊥)
      → ((caller : Caller) (address : List ℕ) (answer : Answered) → IsSendable station.identity (CallAnswer caller address answer)
      → (answer.header.activity ≡ next.activity → ⊥) → IsIgnored next (bytes_of station.identity (CallAnswer caller address answer)))
      → (caller : Caller) (address : List ℕ) (call : Call) (answer : Answered) (calls : List Kept)
      → call.header.activity ≡ setup.activity → answer.header.activity ≡ setup.activity
      → IsFitting setup (CallAnswer caller address answer) → IsSendable station.identity (CallAnswer caller address answer)
      → kept_of next.activity calls ≡ None
      → IsStored (kept_more 4 (kept_for station.identity call (CallAnswer caller address answer)) calls)
  answer_stored laws good device other ignored caller address call answer calls own named fits can uncalled =
      let message = CallAnswer caller address answer in
      let newest : Kept = kept_for station.identity call message in
      let first : kept_of setup.activity (kept_more 4 newest calls) ≡ Some newest =
      subst (λ (activity : List ℕ). kept_of activity (kept_more 4 newest calls) ≡ Some newest) own (kept_first newest calls) in
      record {
        well = λ kept found. subst (λ (one : Kept). ChoosesWell setup one.frame)
            (sym (stored_one newest kept (kept_of setup.activity (kept_more 4 newest calls)) first found))
            (message_fit laws setup station.identity good device message fits can);
        other = λ kept found. subst (λ (one : Kept). IsIgnored next one.frame)
            (sym (stored_one newest kept (kept_of setup.activity (kept_more 4 newest calls)) first found))
            (ignored caller address answer can (λ same. other (sym same ∙ named)));
        uncalled = none_more next.activity newest calls (λ same. other (same ∙ own)) uncalled;
        dataless = λ keyed kept found. subst (λ (one : Kept). IsNoData (heard_of setup.plan.controller one.frame))
            (sym (stored_one newest kept (kept_of setup.activity (kept_more 4 newest calls)) first found))
            (answer_no_data laws setup station.identity good device caller address answer can);
      }

  -- one that refuses a call that had no answer in time
  pub late_stored : SaysLaws → IsSetup setup → IsDevice station.identity
      → ((caller : Caller) (address : List ℕ) (answer : Answered) → IsSendable station.identity (CallAnswer caller address answer)
      → (answer.header.activity ≡ next.activity → ⊥) → IsIgnored next (bytes_of station.identity (CallAnswer caller address answer)))
      → (newest : Kept) (caller : Caller) (address : List ℕ) (answer : Answered) (calls : List Kept)
      → newest.frame ≡ bytes_of station.identity (CallAnswer caller address answer) → newest.activity ≡ answer.header.activity
      → (answer.header.activity ≡ next.activity → ⊥)
      → IsFitting setup (CallAnswer caller address answer) → IsSendable station.identity (CallAnswer caller address answer)
      → IsStored calls → IsStored (kept_more 4 newest calls)
  late_stored laws good device ignored newest caller address answer calls frame named apart fits can stored = record {
    well = λ kept found. well_by kept (some_more setup.activity newest calls kept found);
    other = λ kept found. other_by kept (some_more setup.activity newest calls kept found);
    uncalled = none_more next.activity newest calls (λ same. apart (sym (same ∙ named))) stored.uncalled;
    dataless = λ keyed kept found. data_by keyed kept (some_more setup.activity newest calls kept found);
  }
    where
      data_by : setup.plan.parameters_after_plug ≡ true → (kept : Kept) → (kept ≡ newest) ⊎ (kept_of setup.activity calls ≡ Some kept)
          → IsNoData (heard_of setup.plan.controller kept.frame)
      data_by keyed kept (inl same) =
          subst (λ (octets : List ℕ). IsNoData (heard_of setup.plan.controller octets)) (sym (ap (λ (k : Kept). k.frame) same ∙ frame))
          (answer_no_data laws setup station.identity good device caller address answer can)
      data_by keyed kept (inr old) = stored.dataless keyed kept old

      well_by : (kept : Kept) → (kept ≡ newest) ⊎ (kept_of setup.activity calls ≡ Some kept) → ChoosesWell setup kept.frame
      well_by kept (inl same) =
          subst (ChoosesWell setup) (sym (ap (λ (k : Kept). k.frame) same ∙ frame))
          (message_fit laws setup station.identity good device (CallAnswer caller address answer) fits can)
      well_by kept (inr old) = stored.well kept old

      other_by : (kept : Kept) → (kept ≡ newest) ⊎ (kept_of setup.activity calls ≡ Some kept) → IsIgnored next kept.frame
      other_by kept (inl same) =
          subst (IsIgnored next) (sym (ap (λ (k : Kept). k.frame) same ∙ frame)) (ignored caller address answer can apart)
      other_by kept (inr old) = stored.other kept old
