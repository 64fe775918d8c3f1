-- Both ends of a network, as the alarms of one priority of a relation that some moves led to.
use Rattle.std.proofs.Common.{◌≡◌, ◌⊎◌, inl, inr, ◌==◌, ◌&&◌, ◌||◌, ◌++◌, ℕ, Bool, true, false, cond, List, [], ◌∷◌, map, length, Option, Some, None, option_map, Result, Ok, refl, sym, ap, subst, ◌∙◌, append-nil, append_assoc, arith}
use Rattle.std.specs.Prelude.{nat_lt, slice_get, unwrap_or}
use Rattle.std.specs.List.{AllByRecursion}
use Rattle.std.proofs.lemmas.Bool.{eq-eqb, false≢true, ltb-false}
use Rattle.settings_journal.specs.settings_store.Machine.{Outcome}
use Rattle.pn_values.specs.declared.identity.Identity.{Identity}
use Rattle.pn_values.specs.declared.mac.Mac.{Mac}
use Rattle.record_blocks.specs.declared.alarm_ack.AlarmAck.{AlarmAck}
use Rattle.record_blocks.specs.declared.alarm_notification.AlarmNotification.{AlarmNotification}
use Rattle.frame_codec.specs.declared.udp.Caller.{Caller}
use Rattle.rpc_core.specs.Cache.{Kept as Answer, again, kept_of, looked, new, old, reported_by}
use Rattle.rpc_core.specs.Call.{Asked as Call}
use Rattle.records.specs.declared.status.operation.Operation.{Operation}
use Rattle.records.specs.declared.status.operation.Operation.TheVariants as operation
use Rattle.records.specs.status.Operation.{operation_of}
use Rattle.controller_messages.specs.declared.plug_request.PlugStep.{PlugStep}
use Rattle.controller_messages.specs.declared.plug_request.PlugStep.TheVariants as plug_step
use Rattle.controller_messages.specs.declared.record_request.RecordService.{RecordService}
use Rattle.controller_messages.specs.declared.record_request.RecordService.TheVariants as service
use Rattle.controller_messages.specs.PlugRequests.{plug_blocks, plug_operation}
use Rattle.controller_messages.specs.RecordRequests.{record_blocks, service_operation}
use Rattle.asked_records.specs.Asked.{question_in}
use Rattle.asked_records.specs.Questions.{is_implicit}
use Rattle.asked_records.specs.declared.question.Question.{Question}
use Rattle.connects.specs.requests.Request.{Request}
use Rattle.records.specs.declared.writes.taken.TakenRecord.{TakenRecord}
use Rattle.pn_alarms.specs.Abort.{status_of}
use Rattle.pn_alarms.specs.declared.message.Notice.{Notice}
use Rattle.pn_alarms.specs.declared.message.Notice.TheVariants as notice
use Rattle.pn_alarms.specs.declared.pdu.Header.{Header}
use Rattle.pn_alarms.specs.declared.pdu.PduType.{PduType}
use Rattle.pn_alarms.specs.declared.pdu.PduType.TheVariants as pdu
use Rattle.pn_alarms.specs.declared.receiver.Taken.{Taken}
use Rattle.pn_alarms.specs.declared.receiver.Taken.TheVariants.{New, Again as Once_more, Refused as Not_taken}
use Rattle.pn_alarms.specs.Device.{idle}
use Rattle.pn_alarms.specs.Receiver.{taken_as}
use Rattle.diagnosis.specs.declared.reports.priority.Priority.{Priority}
use Rattle.diagnosis.specs.declared.reports.priority.Priority.TheVariants.{High, Low}
use Rattle.diagnosis.specs.declared.reports.report.Report.{Report}
use Rattle.diagnosis.specs.reported.Pulled.{pulled_by_type}
use Rattle.cyclic_data.specs.declared.exchange.route.Route.{Route}
use Rattle.relations.specs.Connect.{connect_of}
use Rattle.relations.specs.RelationState.{RelationState}
use Rattle.diagnosis.specs.Line.{more_taken, with_come}
use Rattle.device_frames.specs.declared.event.Event.TheVariants.{Frame}
use Rattle.device_frames.specs.Heard.{Heard, Reported, Calls, heard_of}
use Rattle.device_frames.specs.Sent.{Sent, Again, Ends, Exchanges, ReadyCall, bytes_of}
use Rattle.device_core.specs.State.{Station, Live}
use Rattle.device_core.specs.Machine.{heard_step, handled_step}
use Rattle.controller_messages.specs.declared.request.Request.TheVariants as asks
use Rattle.controller_messages.specs.declared.setup.Setup.{Setup}
use Rattle.controller_messages.specs.Heard as controller
use Rattle.controller_messages.specs.Heard.{heard_of as heard_by}
use Rattle.controller_messages.specs.Sent as said
use Rattle.controller_core.specs.declared.stored.event.Event.{Event}
use Rattle.controller_core.specs.declared.stored.event.Event.TheVariants as event
use Rattle.controller_core.specs.Machine.{Turn, end_of, turn_of, turned}
use Rattle.controller_core.specs.stored.State.{Live as ControllerLive}
use Rattle.end_laws.specs.turns.Alarms.{IsQuiet, Relation, ReportsNone, Move, AlarmComes, Hears, PassesAtController, Gives, GivesStatus, Reads, Stops, Writes, alarm_comes, behind, behind_one, is_looked_at, is_priority, report_as, start, turns}
use Rattle.end_laws.specs.both.Small as small
use Rattle.end_laws.specs.both.Small.{Rules, ToDevice}
use Rattle.end_laws.specs.both.Steps.{DeviceSteps, Forgets, GoesBy, IsSameOrNone}
use Rattle.end_laws.specs.device.Orderly.{IsOrderlyIn}
use Rattle.end_laws.specs.device.Owed.{IsOfKept, IsOwed}
use Rattle.end_laws.specs.device.Small.{IsAskedOwn, IsHeardAs, IsPlanned, IsPlannedAs, IsPlannedCall, heard_as, kept_in, link_of, number_in, small_of}
use Rattle.end_laws.specs.device.Small as ends
use Rattle.both_ends.specs.startup.View.{IsSaidAs, is_planned, rules_of, says_to_device}
use Rattle.both_ends.proofs.StartupEach.{each_of}
use Rattle.both_ends.proofs.ExchangeEarly.{EarlyTurn, IsEarlyAt, IsEarlyFrame, IsUnreadyAt, messages_early, turn_early}
use Rattle.both_ends.proofs.ExchangeOutputsTurns.{KindsSo}
use Rattle.both_ends.proofs.ExchangeReported.{IsGood, IsNotedAs, IsNotedBy, IsOfPriority, IsOurs, IsReportedAs, IsWell, IsWellSent, ack_in, alarm_in, data_in, noted_at, noted_by, noted_of, reported_in, reported_of, reported_reply}
use Rattle.both_ends.specs.exchange.Over.{taken_by}
use Rattle.both_ends.proofs.ExchangeLists.{Extends, each_behind, each_on, more_extends, none_some, some_is, unchanged}
use Rattle.end_laws.specs.hearing.Stations.{IsSetup}
use Rattle.both_ends.specs.startup.request.Request.{request_for}
use Rattle.both_ends.specs.exchange.Sized.{AreSizedModules}
use Rattle.end_laws.specs.sending.Sized.{IsLive}
use Rattle.both_ends.proofs.ExchangePlaced.{IsPlaced}
use Rattle.both_ends.proofs.ExchangeSizes.{AreSizedIn}
use Rattle.end_laws.specs.device.Turn.{Makes}
use Rattle.both_ends.proofs.ExchangeTied.{Goes, IsFresh, IsHeard, IsSaid, IsTied, heard_stays, said_stays}

-- ---- a frame

-- What either end hears of alarms in the frame was said. A Connect in it is the first call, and each call has its
-- sizes. What the controller hears in it comes from its device, and a positive response to the Connect chooses a
-- suitable FrameID for outputs.
pub record IsIn (priority : Priority) (setup : Setup) (identity : Identity) (r : Relation) (frame : List ℕ) : Type 0 where
  pub noted : IsSaid r.alarms.pdus (alarm_in priority (noted_of setup frame))
  pub reported : IsHeard priority r.reported (ack_in priority (reported_of identity frame))
  pub first : (sequence : ℕ) → heard_as (is_planned setup) (heard_of identity (Frame (record { items = frame }))) ≡ small.Call sequence small.Connects → sequence ≡ 0
  pub good : IsGood identity.mac (heard_by setup.plan.controller frame)
  pub well : IsWell setup (heard_by setup.plan.controller frame)

in_stays : (priority : Priority) (setup : Setup) (identity : Identity) (r next : Relation) (frame : List ℕ) → Extends r.alarms.pdus next.alarms.pdus → Extends r.reported next.reported
    → IsIn priority setup identity r frame → IsIn priority setup identity next frame
in_stays priority setup identity r next frame p t is = record {
  noted = said_stays r.alarms.pdus next.alarms.pdus (alarm_in priority (noted_of setup frame)) p is.noted;
  reported = heard_stays priority r.reported next.reported (ack_in priority (reported_of identity frame)) t is.reported;
  first = is.first;
  good = is.good;
  well = is.well;
}

-- what is no data is quiet
abbrev IsPlainMove : Move → Type 0
IsPlainMove (Hears heard) = ⊥
IsPlainMove other = Unit {0}

quiet_move : (move : Move) → IsPlainMove move → (priority : Priority) → IsQuiet priority move
quiet_move move plain High = tt
quiet_move (Hears heard) plain Low = absurd plain
quiet_move move plain Low = tt

abbrev IsPlainHeard : controller.Heard → Type 0
IsPlainHeard (controller.Alarms source under header (notice.Data number report)) = ⊥
IsPlainHeard other = Unit {0}

quiet_heard : (heard : controller.Heard) (priority : Priority) → IsPlainHeard heard → IsQuiet priority (Hears heard)
quiet_heard heard High plain = tt
quiet_heard (controller.Alarms source under header (notice.Data number report)) Low plain = absurd plain
quiet_heard heard Low plain = tt

-- ---- both ends

abbrev pub kept_at : Setup → Live → Option small.Kept
kept_at setup live = (small_of setup.activity live).kept

pub record Follows (priority : Priority) (setup : Setup) (station : Station) (live : Live) (controlling : ControllerLive) (sent : List (List ℕ)) (raised taken : List AlarmNotification) : Type 0 where
  pub relation : Relation
  pub moves : List Move
  pub made : behind priority setup moves (start setup) ≡ relation
  pub quiet : AllByRecursion (IsQuiet priority) moves
  pub same : relation.live ≡ controlling
  pub raises : relation.alarms.sent ≡ raised
  pub takes : relation.alarms.taken ≡ taken
  pub tied : IsTied priority relation live.rest.link
  pub unmade : kept_at setup live ≡ None → relation.device ≡ idle 1 3
  pub unraised : kept_at setup live ≡ None → raised ≡ []
  pub linked : (link : small.RelationState TakenRecord Request) → (small_of setup.activity live).link ≡ Some link → kept_at setup live ≡ None → ⊥
  pub again : (answer : small.Kept) → kept_at setup live ≡ Some answer → IsIn priority setup station.identity relation answer.frame
  pub frames : AllByRecursion (IsIn priority setup station.identity relation) sent
  -- until the device answered a call, no data is exchanged, and the application makes no request
  pub early : kept_at setup live ≡ None → IsEarlyAt controlling × AllByRecursion (IsEarlyFrame setup station) sent
  -- the addresses differ, and the numbers have their sizes
  pub good : IsSetup setup
  pub apart : station.identity.mac ≡ setup.plan.controller.mac → ⊥
  pub real : AreSizedModules live.rest.real.modules.items
  pub sized : AreSizedIn live.rest.real.modules.items (request_for setup.plan setup.ar) live.rest.link
  -- the relation of the device is in order, and what is asked of its application is a call of this controller: nothing is, until
  -- the device answered a call
  pub orderly : IsOrderlyIn live.rest.link
  pub own : IsAskedOwn setup.activity live.rest.asked
  pub unasked : kept_at setup live ≡ None → (small_of setup.activity live).asked ≡ None
  pub lives : IsLive controlling
  pub placed : IsPlaced station.identity.mac controlling

runs_on : (priority : Priority) (setup : Setup) (moves more : List Move) (r : Relation) → behind priority setup (moves ++ more) r ≡ behind priority setup more (behind priority setup moves r)
runs_on priority setup [] more r = refl
runs_on priority setup (move ∷ moves) more r = runs_on priority setup moves more (behind_one priority setup r move)

-- ---- the response that is stored, and the relation

module _ (rules : Rules TakenRecord Request) where
  abbrev Small : Type 0
  Small = small.Device TakenRecord Request

  kept_is : (P : List ℕ → Type 0) (heard : ToDevice) (before after : Small) (frames : List (List ℕ)) → DeviceSteps rules heard before after frames
      → ((answer : small.Kept) → before.kept ≡ Some answer → P answer.frame) → AllByRecursion P frames → (answer : small.Kept) → after.kept ≡ Some answer → P answer.frame
  kept_is P (small.Call sequence ask) before after frames (inl answered) was all answer is =
      let now : AllByRecursion P (answered.frame ∷ answered.others) = subst (λ (fs : List (List ℕ)). AllByRecursion P fs) answered.sent all in
      subst (λ (k : small.Kept). P k.frame) (some_is (record { sequence = sequence; frame = answered.frame }) answer (sym answered.keeps ∙ is)) now.0
  kept_is P (small.Call sequence ask) before after frames (inr (inl repeats)) was all answer is = was answer (ap (λ (d : Small). d.kept) (sym repeats.unchanged) ∙ is)
  kept_is P (small.Call sequence ask) before after frames (inr (inr (inl rests))) was all answer is = was answer (ap (λ (d : Small). d.kept) (sym rests.0) ∙ is)
  kept_is P (small.Call sequence ask) before after frames (inr (inr (inr asks))) was all answer is =
      was answer (ap (λ (d : Small). d.kept) (sym asks.becomes) ∙ is)
  kept_is P small.Confirms before after frames (inl confirms) was all answer is = was answer (ap (λ (d : Small). d.kept) (sym confirms.becomes) ∙ is)
  kept_is P small.Confirms before after frames (inr goes) was all answer is = was answer (sym goes.keeps ∙ is)
  kept_is P small.Idle before after frames (inl goes) was all answer is = was answer (sym goes.keeps ∙ is)
  kept_is P small.Idle before after frames (inr replies) was all answer is =
      let now : AllByRecursion P (replies.others ++ replies.frame ∷ []) = subst (λ (fs : List (List ℕ)). AllByRecursion P fs) replies.sent all in
      subst (λ (k : small.Kept). P k.frame) (some_is (record { sequence = replies.sequence; frame = replies.frame }) answer (sym replies.keeps ∙ is))
      (each_of P replies.others replies.frame [] now)

  -- if no response is stored after a step, none was before
  none_kept : (heard : ToDevice) (before after : Small) (frames : List (List ℕ)) → DeviceSteps rules heard before after frames → after.kept ≡ None → before.kept ≡ None
  none_kept (small.Call sequence ask) before after frames (inl answered) none = absurd (none_some _ after.kept none answered.keeps)
  none_kept (small.Call sequence ask) before after frames (inr (inl repeats)) none = ap (λ (d : Small). d.kept) (sym repeats.unchanged) ∙ none
  none_kept (small.Call sequence ask) before after frames (inr (inr (inl rests))) none = ap (λ (d : Small). d.kept) (sym rests.0) ∙ none
  none_kept (small.Call sequence ask) before after frames (inr (inr (inr asks))) none = ap (λ (d : Small). d.kept) (sym asks.becomes) ∙ none
  none_kept small.Confirms before after frames (inl confirms) none = ap (λ (d : Small). d.kept) (sym confirms.becomes) ∙ none
  none_kept small.Confirms before after frames (inr goes) none = sym goes.keeps ∙ none
  none_kept small.Idle before after frames (inl goes) none = sym goes.keeps ∙ none
  none_kept small.Idle before after frames (inr replies) none = absurd (none_some _ after.kept none replies.keeps)

  -- if no response is stored after a step, and nothing was asked, nothing is asked by a call other than those of the application
  same_unasked : (before after : Small) → IsSameOrNone before.asked after.asked → before.asked ≡ None → after.asked ≡ None
  same_unasked before after (inl same) was = same ∙ was
  same_unasked before after (inr none) was = none

  unasked_on : (heard : ToDevice) (before after : Small) (frames : List (List ℕ)) → DeviceSteps rules heard before after frames
      → after.kept ≡ None → before.asked ≡ None → ((sequence : ℕ) → heard ≡ small.Call sequence small.Accesses → ⊥) → after.asked ≡ None
  unasked_on (small.Call sequence ask) before after frames (inl answered) none was late = absurd (none_some _ after.kept none answered.keeps)
  unasked_on (small.Call sequence ask) before after frames (inr (inl repeats)) none was late = ap (λ (d : Small). d.asked) repeats.unchanged ∙ was
  unasked_on (small.Call sequence ask) before after frames (inr (inr (inl rests))) none was late = ap (λ (d : Small). d.asked) rests.0 ∙ was
  unasked_on (small.Call sequence ask) before after frames (inr (inr (inr asks))) none was late =
      absurd (late sequence (ap (λ (a : small.Ask). small.Call sequence a) asks.accesses))
  unasked_on small.Confirms before after frames (inl confirms) none was late = ap (λ (d : Small). d.asked) confirms.becomes ∙ was
  unasked_on small.Confirms before after frames (inr goes) none was late = same_unasked before after goes.asked was
  unasked_on small.Idle before after frames (inl goes) none was late = same_unasked before after goes.asked was
  unasked_on small.Idle before after frames (inr replies) none was late = replies.settled

  -- something goes by
  linked_by : (before after : Small) (frames : List (List ℕ)) → GoesBy rules before after frames
      → ((link : small.RelationState TakenRecord Request) → before.link ≡ Some link → before.kept ≡ None → ⊥) → (link : small.RelationState TakenRecord Request) → after.link ≡ Some link → after.kept ≡ None → ⊥
  linked_by before after frames goes was link is none = by_link goes.link
    where
      by_link : (after.link ≡ before.link) ⊎ ((after.link ≡ None) ⊎ Forgets before.link after.link) → ⊥
      by_link (inl same) = was link (sym same ∙ is) (sym goes.keeps ∙ none)
      by_link (inr (inl gone)) = none_some link after.link gone is
      by_link (inr (inr forgets)) = was forgets.link forgets.was (sym goes.keeps ∙ none)

  -- if there is a relation, a response is stored
  linked_on : (heard : ToDevice) (before after : Small) (frames : List (List ℕ)) → DeviceSteps rules heard before after frames
      → ((link : small.RelationState TakenRecord Request) → before.link ≡ Some link → before.kept ≡ None → ⊥) → (link : small.RelationState TakenRecord Request) → after.link ≡ Some link → after.kept ≡ None → ⊥
  linked_on (small.Call sequence ask) before after frames (inl answered) was link is none = none_some _ after.kept none answered.keeps
  linked_on (small.Call sequence ask) before after frames (inr (inl repeats)) was link is none =
      was link (ap (λ (d : Small). d.link) (sym repeats.unchanged) ∙ is) (ap (λ (d : Small). d.kept) (sym repeats.unchanged) ∙ none)
  linked_on (small.Call sequence ask) before after frames (inr (inr (inl rests))) was link is none =
      was link (ap (λ (d : Small). d.link) (sym rests.0) ∙ is) (ap (λ (d : Small). d.kept) (sym rests.0) ∙ none)
  linked_on (small.Call sequence ask) before after frames (inr (inr (inr asks))) was link is none =
      was link (ap (λ (d : Small). d.link) (sym asks.becomes) ∙ is) (ap (λ (d : Small). d.kept) (sym asks.becomes) ∙ none)
  linked_on small.Confirms before after frames (inl confirms) was link is none = was confirms.link confirms.was (ap (λ (d : Small). d.kept) (sym confirms.becomes) ∙ none)
  linked_on small.Confirms before after frames (inr goes) was link is none = linked_by before after frames goes was link is none
  linked_on small.Idle before after frames (inl goes) was link is none = linked_by before after frames goes was link is none
  linked_on small.Idle before after frames (inr replies) was link is none = absurd (none_some _ after.kept none replies.keeps)

-- ---- the device

-- a call of number 0 is new only if no call of its activity was answered
reported_zero : (sequence : ℕ) (frame : List ℕ) → cond (0 == sequence) (again frame) (cond (nat_lt 0 sequence) old new) ≡ new → ⊥
reported_zero sequence frame e = by_same (0 == sequence) refl e
  where
    by_order : (b : Bool) → nat_lt 0 sequence ≡ b → (0 == sequence) ≡ false → cond b old new ≡ new → ⊥
    by_order true f g h = absurd cc
    by_order false f g h = false≢true (sym g ∙ eq-eqb 0 sequence (omega (arith, ltb-false 0 sequence f)))

    by_same : (b : Bool) → (0 == sequence) ≡ b → cond b (again frame) (cond (nat_lt 0 sequence) old new) ≡ new → ⊥
    by_same true f g = absurd cc
    by_same false f g = by_order (nat_lt 0 sequence) refl f g

new_none : (kept : Option Answer) → reported_by 0 kept ≡ new → kept ≡ None
new_none None e = refl
new_none (Some kept) e = absurd (reported_zero kept.sequence kept.frame e)

same_ok : {A B : Type 0} (x y : A) → ◌≡◌ {A = Result A B} (Ok x) (Ok y) → x ≡ y
same_ok x y e = cc

-- octets of the device that say no ApplicationReady
early_by : (setup : Setup) (station : Station) (frame : List ℕ) (says : small.ToController) → (rules_of setup station).to_device frame ≡ small.Idle
    → ((rules_of setup station).to_controller frame ≡ small.Nothing) ⊎ ((rules_of setup station).to_controller frame ≡ says) → (says ≡ small.Readies → ⊥) → IsEarlyFrame setup station frame
early_by setup station frame says is_idle at_most other = (λ sequence e. idle_call sequence (sym is_idle ∙ e), λ e. by_saying e at_most)
  where
    idle_call : (sequence : ℕ) → small.Idle ≡ small.Call sequence small.Accesses → ⊥
    idle_call sequence e = absurd cc

    nothing_readies : small.Nothing ≡ small.Readies → ⊥
    nothing_readies e = absurd cc

    by_saying : (rules_of setup station).to_controller frame ≡ small.Readies
        → ((rules_of setup station).to_controller frame ≡ small.Nothing) ⊎ ((rules_of setup station).to_controller frame ≡ says) → ⊥
    by_saying e (inl none) = nothing_readies (sym none ∙ e)
    by_saying e (inr same) = other (sym same ∙ e)

module _ (priority : Priority) (setup : Setup) (station : Station) (live : Live) (controlling : ControllerLive) (sent : List (List ℕ)) (raised taken : List AlarmNotification)
    (follows : Follows priority setup station live controlling sent raised taken) where
  abbrev rules : Rules TakenRecord Request
  rules = rules_of setup station

  module _ (heard : Heard) (planned : IsPlanned rules setup.activity station.named live.rest.real heard)
      (first : (sequence : ℕ) → heard_as (is_planned setup) heard ≡ small.Call sequence small.Connects → sequence ≡ 0)
      (late : (sequence : ℕ) → heard_as (is_planned setup) heard ≡ small.Call sequence small.Accesses → kept_at setup live ≡ None → ⊥) where
    pub unlinked : (link : Option RelationState) → live.rest.link ≡ link → kept_at setup live ≡ None → live.rest.link ≡ None
    unlinked None e none = e
    unlinked (Some link) e none = absurd (follows.linked (link_of link) (ap (λ (l : Option RelationState). option_map link_of l) e) none)

    -- if a call of number 0 is new, there is no relation, and it is no call of the application
    pub unlinked_new : (caller : Caller) (address : List ℕ) (call : Call) → heard ≡ Reported caller address (Calls call) → call.header.sequence ≡ 0
        → looked call.header.activity call.header.sequence live.rest.calls ≡ new
        → (live.rest.link ≡ None) × (heard_as (is_planned setup) heard ≡ small.Call call.header.sequence small.Accesses → ⊥)
    unlinked_new caller address call is zero_is fresh =
        let plan : IsPlannedCall rules setup.activity station.named live.rest.real call =
        subst (λ (h : Heard). IsPlanned rules setup.activity station.named live.rest.real h) is planned in
        let reported : reported_by 0 (kept_of setup.activity live.rest.calls) ≡ new =
        ap (λ (n : ℕ). reported_by n (kept_of setup.activity live.rest.calls)) (sym zero_is)
        ∙ (ap (λ (a : List ℕ). reported_by call.header.sequence (kept_of a live.rest.calls)) (sym plan.own) ∙ fresh) in
        let none : kept_at setup live ≡ None = ap (λ (k : Option Answer). option_map kept_in k) (new_none (kept_of setup.activity live.rest.calls) reported) in
        (unlinked live.rest.link refl none, λ e. late call.header.sequence e none)

    -- a call that is asked and has no later answer is not of number 0
    pub later_asked : (question : Question) → question_in live.rest.asked ≡ Some question → question.header.sequence ≡ 0
        → looked question.header.activity question.header.sequence live.rest.calls ≡ new → ⊥
    later_asked question is zero_is fresh =
        let reported : reported_by 0 (kept_of setup.activity live.rest.calls) ≡ new =
        ap (λ (n : ℕ). reported_by n (kept_of setup.activity live.rest.calls)) (sym zero_is)
        ∙ (ap (λ (a : List ℕ). reported_by question.header.sequence (kept_of a live.rest.calls)) (sym (follows.own question is).0) ∙ fresh) in
        let none : kept_at setup live ≡ None = ap (λ (k : Option Answer). option_map kept_in k) (new_none (kept_of setup.activity live.rest.calls) reported) in
        none_some question.header.sequence (small_of setup.activity live).asked (follows.unasked none)
        (ap (λ (o : Option Question). option_map (λ q. q.header.sequence) o) is)

    -- no Read Implicit is asked
    pub plain_asked : (question : Question) → question_in live.rest.asked ≡ Some question → is_implicit question.request ≡ true → ⊥
    plain_asked question is implicit = false≢true (sym (follows.own question is).1 ∙ implicit)

    -- a relation that is made now is the first one, and that of the plan
    pub makes_planned : (after : Option RelationState) (messages : List Sent) (makes : Makes live.rest.calls live.rest.link heard after messages) → (kept_at setup live ≡ None) × (makes.request ≡ rules.request)
    makes_planned after messages makes =
        let plan : IsPlannedCall rules setup.activity station.named live.rest.real makes.call =
        subst (λ (h : Heard). IsPlanned rules setup.activity station.named live.rest.real h) makes.is planned in
        let zero_is : makes.call.header.sequence ≡ 0 = first makes.call.header.sequence (ap (heard_as (is_planned setup)) makes.is ∙ ap (λ (o : Option Operation). ends.asked_by (is_planned setup) makes.call.header.sequence (unwrap_or makes.call.blocks []) o) makes.connects) in
        let fresh : reported_by 0 (kept_of setup.activity live.rest.calls) ≡ new =
        ap (λ (n : ℕ). reported_by n (kept_of setup.activity live.rest.calls)) (sym zero_is)
        ∙ (ap (λ (a : List ℕ). reported_by makes.call.header.sequence (kept_of a live.rest.calls)) (sym plan.own) ∙ makes.fresh) in
        let unkept : kept_at setup live ≡ None = ap (λ (k : Option Answer). option_map kept_in k) (new_none (kept_of setup.activity live.rest.calls) fresh) in
        let asks : IsPlannedAs rules station.named live.rest.real makes.call.header.sequence plan.blocks (Some operation.Connect) =
        subst (λ (o : Option Operation). IsPlannedAs rules station.named live.rest.real makes.call.header.sequence plan.blocks o) makes.connects plan.asks in
        let same : plan.blocks ≡ makes.blocks = some_is plan.blocks makes.blocks (sym plan.counted ∙ makes.counted) in
        let reads : connect_of live.rest.link makes.blocks ≡ Ok rules.request =
        ap (λ (l : Option RelationState). connect_of l makes.blocks) (unlinked live.rest.link refl unkept) ∙ (ap (λ (b : List ℕ). connect_of None b) (sym same) ∙ asks) in
        (unkept, same_ok makes.request rules.request (sym makes.read ∙ reads))

    pub makes_fresh : (after : Option RelationState) (messages : List Sent) → IsFresh priority setup follows.relation live.rest.calls live.rest.link heard after messages
    makes_fresh after messages makes =
        let so = makes_planned after messages makes in
        ap (λ (r : Request). idle r.alarm.timeout_factor r.alarm.retries) so.1 ∙ sym (follows.unmade so.0)

    module _ (outcomes : List Outcome) (now : List AlarmNotification)
        (steps : DeviceSteps rules (heard_as (is_planned setup) heard) (small_of setup.activity live) (small_of setup.activity (heard_step outcomes station live heard).live) (heard_step outcomes station live heard).frames)
        (owed : AllByRecursion (IsOwed heard live) (heard_step outcomes station live heard).sent)
        (meant : AllByRecursion (IsHeardAs rules station.identity) (heard_step outcomes station live heard).sent)
        (noted : AllByRecursion (IsNotedAs setup station.identity) (heard_step outcomes station live heard).sent)
        (well : AllByRecursion (IsWellSent setup station.identity) (heard_step outcomes station live heard).sent)
        (goes : Goes priority setup follows.relation live.rest.link (heard_step outcomes station live heard).live.rest.link (heard_step outcomes station live heard).sent now)
        (real : AreSizedModules (heard_step outcomes station live heard).live.rest.real.modules.items)
        (sized : AreSizedIn (heard_step outcomes station live heard).live.rest.real.modules.items (request_for setup.plan setup.ar) (heard_step outcomes station live heard).live.rest.link)
        (orderly : IsOrderlyIn (heard_step outcomes station live heard).live.rest.link)
        (own : IsAskedOwn setup.activity (heard_step outcomes station live heard).live.rest.asked) where
      abbrev r : Relation
      r = follows.relation

      abbrev next : Relation
      next = goes.next

      stays : (frame : List ℕ) → IsIn priority setup station.identity r frame → IsIn priority setup station.identity next frame
      stays frame is = in_stays priority setup station.identity r next frame goes.pdus (subst (λ (reported : List said.Sent). Extends r.reported reported) (sym goes.reported) (unchanged r.reported)) is

      -- the frame of a repeated response
      again_in : (frame : List ℕ) → IsOfKept heard live frame → IsIn priority setup station.identity next frame
      again_in frame owed_so =
          let plan : IsPlannedCall rules setup.activity station.named live.rest.real owed_so.call =
          subst (λ (h : Heard). IsPlanned rules setup.activity station.named live.rest.real h) owed_so.is planned in
          let kept : kept_of setup.activity live.rest.calls ≡ Some owed_so.kept = ap (λ (a : List ℕ). kept_of a live.rest.calls) (sym plan.own) ∙ owed_so.there in
          subst (λ (f : List ℕ). IsIn priority setup station.identity next f) owed_so.same
          (stays owed_so.kept.frame (follows.again (kept_in owed_so.kept) (ap (λ (k : Option Answer). option_map kept_in k) kept)))

      in_by : (frame : List ℕ) (says : Option (Notice Report)) → IsNotedBy setup station.identity frame says → IsSaid next.alarms.pdus (alarm_in priority says)
          → rules.to_device frame ≡ small.Idle → IsWell setup (heard_by setup.plan.controller frame) → IsIn priority setup station.identity next frame
      in_by frame says heard_so is idle_is well_so = record {
        noted = as_said heard_so.0;
        reported = subst (λ (o : Option (Option Priority × Notice AlarmAck)). IsHeard priority next.reported (ack_in priority o)) (sym heard_so.1) tt;
        first = λ sequence e. absurd (idle_call sequence (sym idle_is ∙ e));
        good = heard_so.2;
        well = well_so;
      }
        where
          as_said : (noted_of setup frame ≡ says) ⊎ (noted_of setup frame ≡ None) → IsSaid next.alarms.pdus (alarm_in priority (noted_of setup frame))
          as_said (inl same) = subst (λ (o : Option (Notice Report)). IsSaid next.alarms.pdus (alarm_in priority o)) (sym same) is
          as_said (inr none) = subst (λ (o : Option (Notice Report)). IsSaid next.alarms.pdus (alarm_in priority o)) (sym none) tt

          idle_call : (sequence : ℕ) → small.Idle ≡ small.Call sequence small.Connects → ⊥
          idle_call sequence e = absurd cc

      message_in : (message : Sent) → IsOwed heard live message → IsHeardAs rules station.identity message → IsNotedAs setup station.identity message
          → IsWellSent setup station.identity message → IsSaid next.alarms.pdus (data_in priority message) → IsIn priority setup station.identity next (bytes_of station.identity message)
      message_in (Again frame) owed_so heard_so noted_so well_so is = again_in frame owed_so
      message_in (Exchanges route frame) owed_so heard_so noted_so well_so is = in_by _ (noted_by frame) noted_so is heard_so.0 well_so
      message_in (Ends farewell) owed_so heard_so noted_so well_so is = in_by _ (Some (notice.Abort (status_of farewell.reason))) noted_so is heard_so.0 well_so
      message_in other owed_so heard_so noted_so well_so is = in_by _ None noted_so is heard_so.0 well_so

      messages_in : (messages : List Sent) → AllByRecursion (IsOwed heard live) messages → AllByRecursion (IsHeardAs rules station.identity) messages → AllByRecursion (IsNotedAs setup station.identity) messages
          → AllByRecursion (IsWellSent setup station.identity) messages → AllByRecursion (λ message. IsSaid next.alarms.pdus (data_in priority message)) messages → AllByRecursion (IsIn priority setup station.identity next) (map (bytes_of station.identity) messages)
      messages_in [] owed_so heard_so noted_so well_so is = tt
      messages_in (message ∷ messages) owed_so heard_so noted_so well_so is =
          (message_in message owed_so.0 heard_so.0 noted_so.0 well_so.0 is.0, messages_in messages owed_so.1 heard_so.1 noted_so.1 well_so.1 is.1)

      -- while no response is stored, the frames of the device are early ones
      message_early : kept_at setup live ≡ None → (message : Sent) → IsOwed heard live message → IsHeardAs rules station.identity message → IsEarlyFrame setup station (bytes_of station.identity message)
      message_early none (Again frame) owed_so heard_so =
          let plan : IsPlannedCall rules setup.activity station.named live.rest.real owed_so.call =
          subst (λ (h : Heard). IsPlanned rules setup.activity station.named live.rest.real h) owed_so.is planned in
          let kept : kept_of setup.activity live.rest.calls ≡ Some owed_so.kept = ap (λ (a : List ℕ). kept_of a live.rest.calls) (sym plan.own) ∙ owed_so.there in
          absurd (none_some (kept_in owed_so.kept) (kept_at setup live) none (ap (λ (k : Option Answer). option_map kept_in k) kept))
      message_early none (ReadyCall address ready) owed_so heard_so =
          absurd (follows.linked (link_of owed_so.link) (ap (λ (l : Option RelationState). option_map link_of l) owed_so.is) none)
      message_early none other owed_so heard_so = early_by setup station (bytes_of station.identity other) _ heard_so.0 heard_so.1 (λ e. absurd cc)

      messages_early_so : kept_at setup live ≡ None → (messages : List Sent) → AllByRecursion (IsOwed heard live) messages → AllByRecursion (IsHeardAs rules station.identity) messages
          → AllByRecursion (IsEarlyFrame setup station) (map (bytes_of station.identity) messages)
      messages_early_so none [] owed_so heard_so = tt
      messages_early_so none (message ∷ messages) owed_so heard_so =
          (message_early none message owed_so.0 heard_so.0, messages_early_so none messages owed_so.1 heard_so.1)

      frames_early : kept_at setup live ≡ None → AllByRecursion (IsEarlyFrame setup station) (heard_step outcomes station live heard).frames
      unfolding heard_step handled_step
      frames_early none = messages_early_so none (heard_step outcomes station live heard).sent owed meant

      frames_in : AllByRecursion (IsIn priority setup station.identity next) (heard_step outcomes station live heard).frames
      unfolding heard_step handled_step
      frames_in = messages_in (heard_step outcomes station live heard).sent owed meant noted well goes.said

      pub device_follows : Follows priority setup station (heard_step outcomes station live heard).live controlling (sent ++ (heard_step outcomes station live heard).frames) (raised ++ now) taken
      device_follows =
          let step = heard_step outcomes station live heard in
          let before = small_of setup.activity live in
          let after = small_of setup.activity step.live in
          record {
            relation = next;
            moves = follows.moves ++ goes.moves;
            made = runs_on priority setup follows.moves goes.moves (start setup) ∙ (ap (λ (x : Relation). behind priority setup goes.moves x) follows.made ∙ goes.made);
            quiet = each_behind (IsQuiet priority) follows.moves goes.moves follows.quiet goes.quiet;
            same = goes.live ∙ follows.same;
            raises = goes.raised ∙ ap (λ (xs : List AlarmNotification). xs ++ now) follows.raises;
            takes = goes.taken ∙ follows.takes;
            tied = goes.tied;
            unmade = λ none. let was = none_kept rules (heard_as (is_planned setup) heard) before after step.frames steps none in
                ap (λ (x : Relation). x.device) (goes.still (unlinked live.rest.link refl was)) ∙ follows.unmade was;
            unraised = λ none. let was = none_kept rules (heard_as (is_planned setup) heard) before after step.frames steps none in
                sym (goes.raised ∙ ap (λ (xs : List AlarmNotification). xs ++ now) follows.raises)
                ∙ (ap (λ (x : Relation). x.alarms.sent) (goes.still (unlinked live.rest.link refl was)) ∙ (follows.raises ∙ follows.unraised was));
            linked = linked_on rules (heard_as (is_planned setup) heard) before after step.frames steps follows.linked;
            again = kept_is rules (IsIn priority setup station.identity next) (heard_as (is_planned setup) heard) before after step.frames steps
                (λ answer is. stays answer.frame (follows.again answer is)) frames_in;
            frames = each_behind (IsIn priority setup station.identity next) sent step.frames
                (each_on (IsIn priority setup station.identity r) (IsIn priority setup station.identity next) sent stays follows.frames) frames_in;
            early = λ none. let was = none_kept rules (heard_as (is_planned setup) heard) before after step.frames steps none in
                let until = follows.early was in
                (until.0, each_behind (IsEarlyFrame setup station) sent step.frames until.1 (frames_early was));
            good = follows.good;
            apart = follows.apart;
            real = real;
            sized = sized;
            orderly = orderly;
            own = own;
            unasked = λ none. let was = none_kept rules (heard_as (is_planned setup) heard) before after step.frames steps none in
                unasked_on rules (heard_as (is_planned setup) heard) before after step.frames steps none (follows.unasked was)
                (λ sequence is. late sequence is was);
            lives = follows.lives;
            placed = follows.placed;
          }

  -- ---- the controller

  -- the effect of a turn of the controller on the alarms of the relation, if these alarms are accepted
  record Turned (turn : Turn) (now : List AlarmNotification) : Type 0 where
    next : Relation
    moves : List Move
    made : behind priority setup moves follows.relation ≡ next
    quiet : AllByRecursion (IsQuiet priority) moves
    live_is : next.live ≡ turn.live
    reported_is : next.reported ≡ follows.relation.reported ++ turn.sent
    device_is : next.device ≡ follows.relation.device
    pdus_are : next.alarms.pdus ≡ follows.relation.alarms.pdus
    raised_are : next.alarms.sent ≡ follows.relation.alarms.sent
    taken_are : next.alarms.taken ≡ follows.relation.alarms.taken ++ now

  -- a turn that has nothing to do with alarm data of this priority
  turned_by : (move : Move) (turn : Turn) → IsQuiet priority move → behind_one priority setup follows.relation move ≡ turns follows.relation turn → Turned turn []
  turned_by move turn quiet is = record {
    next = turns follows.relation turn;
    moves = move ∷ [];
    made = is;
    quiet = (quiet, tt);
    live_is = refl;
    reported_is = refl;
    device_is = refl;
    pdus_are = refl;
    raised_are = refl;
    taken_are = sym (append-nil follows.relation.alarms.taken);
  }

  more_is : (taken_so_far : List AlarmNotification) (alarm : AlarmNotification) (as_what : Taken) → more_taken taken_so_far alarm as_what ≡ taken_so_far ++ more_taken [] alarm as_what
  more_is taken_so_far alarm New = refl
  more_is taken_so_far alarm Once_more = sym (append-nil taken_so_far)
  more_is taken_so_far alarm Not_taken = sym (append-nil taken_so_far)

  abbrev looked_taken : Mac → Header → ℕ → AlarmNotification → List AlarmNotification
  looked_taken source header number alarm =
      cond (is_looked_at follows.relation source header) (more_taken [] alarm (taken_as (end_of follows.relation.live priority).seen number)) []

  data_turned : (source : Mac) (under : Priority) (header : Header) (number : ℕ) (alarm : AlarmNotification) → IsSaid follows.relation.alarms.pdus (Some (number, alarm))
      → Turned (turned setup follows.relation.live (controller.Alarms source under header (notice.Data number (report_as priority alarm)))) (looked_taken source header number alarm)
  data_turned source under header number alarm is =
      let r = follows.relation in
      let turn = turned setup r.live (controller.Alarms source under header (notice.Data number (report_as priority alarm))) in
      let next : Relation = record (turns r turn) { alarms = cond (is_looked_at r source header) (with_come r.alarms (end_of r.live priority).seen (number, alarm)) r.alarms } in
      record {
        next = next;
        moves = AlarmComes source under header is.0 ∷ [];
        made = ap (λ (o : Option (ℕ × AlarmNotification)). alarm_comes priority setup r source under header o) is.1;
        quiet = (alarms_quiet priority, tt);
        live_is = refl;
        reported_is = refl;
        device_is = refl;
        pdus_are = same_pdus (is_looked_at r source header);
        raised_are = same_sent (is_looked_at r source header);
        taken_are = more_or (is_looked_at r source header);
      }
    where
      alarms_quiet : (p : Priority) → IsQuiet p (AlarmComes source under header is.0)
      alarms_quiet High = tt
      alarms_quiet Low = tt

      same_pdus : (b : Bool) → (cond b (with_come follows.relation.alarms (end_of follows.relation.live priority).seen (number, alarm)) follows.relation.alarms).pdus ≡ follows.relation.alarms.pdus
      same_pdus true = refl
      same_pdus false = refl

      same_sent : (b : Bool) → (cond b (with_come follows.relation.alarms (end_of follows.relation.live priority).seen (number, alarm)) follows.relation.alarms).sent ≡ follows.relation.alarms.sent
      same_sent true = refl
      same_sent false = refl

      more_or : (b : Bool) → (cond b (with_come follows.relation.alarms (end_of follows.relation.live priority).seen (number, alarm)) follows.relation.alarms).taken
          ≡ follows.relation.alarms.taken ++ cond b (more_taken [] alarm (taken_as (end_of follows.relation.live priority).seen number)) []
      more_or true = more_is follows.relation.alarms.taken alarm (taken_as (end_of follows.relation.live priority).seen number)
      more_or false = sym (append-nil follows.relation.alarms.taken)

  -- data of this priority, or of the other
  same_priority : (one other : Priority) → is_priority one other ≡ true → other ≡ one
  same_priority High High e = refl
  same_priority Low Low e = refl
  same_priority High Low e = absurd cc
  same_priority Low High e = absurd cc

  and_false : (b : Bool) → (b && false) ≡ false
  and_false true = refl
  and_false false = refl

  -- data of high priority of this product's device is a process alarm, and reports no diagnosis and no pull
  high_silent : (alarm : AlarmNotification) → alarm.alarm_type ≡ 2 → ReportsNone (report_as High alarm)
  high_silent alarm process = (rw (and_false (alarm.alarm_type == 1 || alarm.alarm_type == 0x000C)) refl, by_api (alarm.api == 0))
    where
      by_api : (b : Bool) → cond b (pulled_by_type alarm) None ≡ None
      by_api true = rw process refl
      by_api false = refl

  other_quiet : (p : Priority) (source : Mac) (under : Priority) (header : Header) (number : ℕ) (report : Report) → is_priority p report.priority ≡ false → IsOurs (notice.Data number report)
      → IsQuiet p (Hears (controller.Alarms source under header (notice.Data number report)))
  other_quiet High source under header number report e own = tt
  other_quiet Low source under header number report e own = by_priority report.priority e own.0 own.1
    where
      by_priority : (q : Priority) → is_priority Low q ≡ false → report ≡ report_as q report.notification → IsOfPriority q report.notification → ReportsNone report
      by_priority High f same process = subst (λ (one : Report). ReportsNone one) (sym same) (high_silent report.notification process)
      by_priority Low f same process = absurd cc

  report_turned : (source : Mac) (under : Priority) (header : Header) (number : ℕ) (report : Report) (b : Bool) → is_priority priority report.priority ≡ b
      → IsSaid follows.relation.alarms.pdus (cond b (Some (number, report.notification)) None) → IsOurs (notice.Data number report)
      → Turned (turned setup follows.relation.live (controller.Alarms source under header (notice.Data number report))) (cond (b && is_looked_at follows.relation source header) (more_taken [] report.notification (taken_as (end_of follows.relation.live priority).seen number)) [])
  report_turned source under header number report true e is own =
      let same : report ≡ report_as priority report.notification = own.0 ∙ ap (λ (p : Priority). report_as p report.notification) (same_priority priority report.priority e) in
      subst (λ (one : Report). Turned (turned setup follows.relation.live (controller.Alarms source under header (notice.Data number one))) (looked_taken source header number report.notification)) (sym same)
      (data_turned source under header number report.notification is)
  report_turned source under header number report false e is own =
      turned_by (Hears (controller.Alarms source under header (notice.Data number report))) (turned setup follows.relation.live (controller.Alarms source under header (notice.Data number report)))
      (other_quiet priority source under header number report e own)
      (ap (λ (b : Bool). cond b follows.relation (turns follows.relation (turned setup follows.relation.live (controller.Alarms source under header (notice.Data number report))))) e)

  heard_turned : (reported : controller.Heard) → IsSaid follows.relation.alarms.pdus (alarm_in priority (noted_at reported)) → IsGood station.identity.mac reported
      → Turned (turned setup follows.relation.live reported) (taken_by priority follows.relation.live reported)
  heard_turned (controller.Alarms source under header (notice.Data number report)) is own =
      report_turned source under header number report (is_priority priority report.priority) refl is own.1
  heard_turned (controller.Alarms source under header (notice.Ack number)) is own = turned_by (Hears (controller.Alarms source under header (notice.Ack number))) _ (quiet_heard (controller.Alarms source under header (notice.Ack number)) priority tt) refl
  heard_turned (controller.Alarms source under header notice.Nack) is own = turned_by (Hears (controller.Alarms source under header notice.Nack)) _ (quiet_heard (controller.Alarms source under header notice.Nack) priority tt) refl
  heard_turned (controller.Alarms source under header (notice.Abort status)) is own = turned_by (Hears (controller.Alarms source under header (notice.Abort status))) _ (quiet_heard (controller.Alarms source under header (notice.Abort status)) priority tt) refl
  heard_turned controller.Nothing is own = turned_by (Hears controller.Nothing) _ (quiet_heard controller.Nothing priority tt) refl
  heard_turned (controller.Answers source answer) is own = turned_by (Hears (controller.Answers source answer)) _ (quiet_heard (controller.Answers source answer) priority tt) refl
  heard_turned (controller.Responds response) is own = turned_by (Hears (controller.Responds response)) _ (quiet_heard (controller.Responds response) priority tt) refl
  heard_turned (controller.Refuses refusal) is own = turned_by (Hears (controller.Refuses refusal)) _ (quiet_heard (controller.Refuses refusal) priority tt) refl
  heard_turned (controller.Calls caller call) is own = turned_by (Hears (controller.Calls caller call)) _ (quiet_heard (controller.Calls caller call) priority tt) refl
  heard_turned (controller.Cyclic source frame_id body) is own = turned_by (Hears (controller.Cyclic source frame_id body)) _ (quiet_heard (controller.Cyclic source frame_id body) priority tt) refl

  -- what is delivered is among what was said, and comes from the device, and the alarms accepted with it; until the device
  -- answered a call it is no ApplicationReady
  abbrev pub IsEventIn : Event → Type 0
  IsEventIn (event.Frame bytes) =
      IsSaid follows.relation.alarms.pdus (alarm_in priority (noted_of setup bytes.items)) × IsGood station.identity.mac (heard_by setup.plan.controller bytes.items)
      × (kept_at setup live ≡ None → IsEarlyFrame setup station bytes.items)
  IsEventIn other = Unit {0}

  abbrev pub taken_at : Event → List AlarmNotification
  taken_at (event.Frame bytes) = taken_by priority follows.relation.live (heard_by setup.plan.controller bytes.items)
  taken_at other = []

  event_turned : (one : Event) → IsEventIn one → Turned (turn_of setup follows.relation.live one) (taken_at one)
  event_turned (event.Frame bytes) is = heard_turned (heard_by setup.plan.controller bytes.items) is.0 is.1
  event_turned event.Tick is = turned_by PassesAtController _ (quiet_move PassesAtController tt priority) refl
  event_turned (event.Give slot subslot value) is = turned_by (Gives slot subslot value.items) _ (quiet_move (Gives slot subslot value.items) tt priority) refl
  event_turned (event.Status slot subslot is_good) is = turned_by (GivesStatus slot subslot is_good) _ (quiet_move (GivesStatus slot subslot is_good) tt priority) refl
  event_turned (event.Read slot subslot index) is = turned_by (Reads slot subslot index) _ (quiet_move (Reads slot subslot index) tt priority) refl
  event_turned (event.Write slot subslot index octets) is = turned_by (Writes slot subslot index octets.items) _ (quiet_move (Writes slot subslot index octets.items) tt priority) refl
  event_turned event.Stop is = turned_by Stops _ (quiet_move Stops tt priority) refl

  event_unready : (one : Event) → IsEventIn one → kept_at setup live ≡ None → IsUnreadyAt setup one
  event_unready (event.Frame bytes) is none = (is.2 none).1
  event_unready event.Tick is none = tt
  event_unready (event.Give slot subslot value) is none = tt
  event_unready (event.Status slot subslot is_good) is none = tt
  event_unready (event.Read slot subslot index) is none = tt
  event_unready (event.Write slot subslot index octets) is none = tt
  event_unready event.Stop is none = tt

  -- ---- what the controller says

  -- each message has its position in the list
  middle : {A : Type 0} (front : List A) (x : A) (behind_it : List A) → slice_get (front ++ x ∷ behind_it) (length front) ≡ Some x
  middle [] x behind_it = refl
  middle (y ∷ front) x behind_it = middle front x behind_it

  placed : (front messages : List said.Sent) → AllByRecursion (λ message. (k : ℕ) × (slice_get (front ++ messages) k ≡ Some message)) messages
  placed front [] = tt
  placed front (message ∷ messages) = (
    (length front, middle front message messages),
    subst (λ (all : List said.Sent). AllByRecursion (λ one. (k : ℕ) × (slice_get all k ≡ Some one)) messages) (append_assoc front (message ∷ []) messages) (placed (front ++ message ∷ []) messages),
  )

  confirm_heard : (p q : Priority) (reported : List said.Sent) (route : Route) (header : Header) (ack : AlarmAck) (k : ℕ) → slice_get reported k ≡ Some (said.Confirms route q header ack)
      → IsHeard p reported (ack_in p (reported_in (said.Confirms route q header ack)))
  confirm_heard High High reported route header ack k there = record { place = k; route = route; header = header; there = there; same = refl }
  confirm_heard Low Low reported route header ack k there = record { place = k; route = route; header = header; there = there; same = refl }
  confirm_heard High Low reported route header ack k there = tt
  confirm_heard Low High reported route header ack k there = tt

  reply_heard : (reported : List said.Sent) (p : Priority) (number : ℕ) (kind : PduType) → IsHeard priority reported (ack_in priority (reported_reply p number kind))
  reply_heard reported p number pdu.Ack = tt
  reply_heard reported p number pdu.Nack = tt
  reply_heard reported p number pdu.Data = tt
  reply_heard reported p number pdu.Error = tt

  said_heard : (reported : List said.Sent) (message : said.Sent) (k : ℕ) → slice_get reported k ≡ Some message → IsHeard priority reported (ack_in priority (reported_in message))
  said_heard reported (said.Confirms route q header ack) k there = confirm_heard priority q reported route header ack k there
  said_heard reported (said.Replies route q header) k there = reply_heard reported q header.ack_number header.kind
  said_heard reported other k there = tt

  -- the Connect of the controller is the call of number 0
  written_first : (b : Bool) (number which sequence : ℕ) → ends.written_by b number which ≡ small.Call sequence small.Connects → ⊥
  written_first true number which sequence e = absurd cc
  written_first false number which sequence e = absurd cc

  read_first : (number sequence : ℕ) → small.Call number small.Accesses ≡ small.Call sequence small.Connects → ⊥
  read_first number sequence e = absurd cc

  -- a request of the application is no Connect
  access_first : (asked : RecordService) (number : ℕ) (blocks : List ℕ) (sequence : ℕ)
      → ends.asked_by (is_planned setup) number blocks (operation_of (service_operation asked)) ≡ small.Call sequence small.Connects → ⊥
  unfolding operation_of
  access_first service.Read number blocks sequence e = read_first number sequence e
  access_first service.Write number blocks sequence e = written_first (is_planned setup number blocks) number (number_in blocks) sequence e

  ended_first : (number sequence : ℕ) → small.Call number small.Parameterized ≡ small.Call sequence small.Connects → ⊥
  ended_first number sequence e = absurd cc

  -- nor is one after a plug
  plug_first : (step : PlugStep) (number : ℕ) (blocks : List ℕ) (sequence : ℕ)
      → ends.asked_by (is_planned setup) number blocks (operation_of (plug_operation step)) ≡ small.Call sequence small.Connects → ⊥
  unfolding operation_of
  plug_first (plug_step.Record which) number blocks sequence e = written_first (is_planned setup number blocks) number (number_in blocks) sequence e
  plug_first plug_step.PrmEnd number blocks sequence e = ended_first number sequence e

  first_said : (message : said.Sent) (sequence : ℕ) → says_to_device setup message ≡ small.Call sequence small.Connects → sequence ≡ 0
  first_said (said.Requests to asks.Connect) sequence e = cc
  first_said (said.Accesses to request octets) sequence e = absurd (access_first request.service request.sequence (record_blocks setup request octets request.service) sequence e)
  first_said (said.Parametrizes to request) sequence e = absurd (plug_first request.step request.sequence (plug_blocks setup request request.step) sequence e)
  first_said other sequence e = absurd cc

  said_in : (next : Relation) (message : said.Sent) → (k : ℕ) × (slice_get next.reported k ≡ Some message) → IsSaidAs setup station message → IsReportedAs setup station.identity message
      → IsIn priority setup station.identity next (said.bytes_of setup message)
  said_in next message there meant reported = record {
    noted = subst (λ (h : controller.Heard). IsSaid next.alarms.pdus (alarm_in priority (noted_at h))) (sym reported.1) tt;
    reported = as_reported reported.0;
    first = λ sequence e. as_first sequence e meant.1;
    good = subst (λ (h : controller.Heard). IsGood station.identity.mac h) (sym reported.1) tt;
    well = subst (λ (h : controller.Heard). IsWell setup h) (sym reported.1) tt;
  }
    where
      as_reported : (reported_of station.identity (said.bytes_of setup message) ≡ reported_in message) ⊎ (reported_of station.identity (said.bytes_of setup message) ≡ None)
          → IsHeard priority next.reported (ack_in priority (reported_of station.identity (said.bytes_of setup message)))
      as_reported (inl same) = subst (λ (o : Option (Option Priority × Notice AlarmAck)). IsHeard priority next.reported (ack_in priority o)) (sym same) (said_heard next.reported message there.0 there.1)
      as_reported (inr none) = subst (λ (o : Option (Option Priority × Notice AlarmAck)). IsHeard priority next.reported (ack_in priority o)) (sym none) tt

      idle_call : (sequence : ℕ) → small.Idle ≡ small.Call sequence small.Connects → ⊥
      idle_call sequence e = absurd cc

      as_first : (sequence : ℕ) → rules.to_device (said.bytes_of setup message) ≡ small.Call sequence small.Connects
          → (rules.to_device (said.bytes_of setup message) ≡ says_to_device setup message) ⊎ (rules.to_device (said.bytes_of setup message) ≡ small.Idle) → sequence ≡ 0
      as_first sequence e (inl same) = first_said message sequence (sym same ∙ e)
      as_first sequence e (inr idle_is) = absurd (idle_call sequence (sym idle_is ∙ e))

  all_said_in : (then : Relation) (messages : List said.Sent) → AllByRecursion (λ message. (k : ℕ) × (slice_get then.reported k ≡ Some message)) messages
      → AllByRecursion (IsSaidAs setup station) messages → AllByRecursion (IsReportedAs setup station.identity) messages
      → AllByRecursion (IsIn priority setup station.identity then) (map (said.bytes_of setup) messages)
  all_said_in then [] there meant reported = tt
  all_said_in then (message ∷ messages) there meant reported =
      (said_in then message there.0 meant.0 reported.0, all_said_in then messages there.1 meant.1 reported.1)

  turn_follows : (turn : Turn) (now : List AlarmNotification) → Turned turn now → AllByRecursion (IsSaidAs setup station) turn.sent → AllByRecursion (IsReportedAs setup station.identity) turn.sent
      → IsLive turn.live → IsPlaced station.identity.mac turn.live → (kept_at setup live ≡ None → EarlyTurn turn)
      → Follows priority setup station live turn.live (sent ++ map (said.bytes_of setup) turn.sent) raised (taken ++ now)
  turn_follows turn now turned_so meant reported lives placed_so early_so =
      let r = follows.relation in
      let next = turned_so.next in
      let pdus : Extends r.alarms.pdus next.alarms.pdus = subst (λ (xs : List (ℕ × AlarmNotification)). Extends r.alarms.pdus xs) (sym turned_so.pdus_are) (unchanged r.alarms.pdus) in
      let more : Extends r.reported next.reported = subst (λ (xs : List said.Sent). Extends r.reported xs) (sym turned_so.reported_is) (more_extends r.reported turn.sent) in
      let stays = λ (frame : List ℕ) (is : IsIn priority setup station.identity r frame). in_stays priority setup station.identity r next frame pdus more is in
      let places : AllByRecursion (λ message. (k : ℕ) × (slice_get next.reported k ≡ Some message)) turn.sent =
      subst (λ (all : List said.Sent). AllByRecursion (λ one. (k : ℕ) × (slice_get all k ≡ Some one)) turn.sent) (sym turned_so.reported_is) (placed r.reported turn.sent) in
      record {
        relation = next;
        moves = follows.moves ++ turned_so.moves;
        made = runs_on priority setup follows.moves turned_so.moves (start setup) ∙ (ap (λ (x : Relation). behind priority setup turned_so.moves x) follows.made ∙ turned_so.made);
        quiet = each_behind (IsQuiet priority) follows.moves turned_so.moves follows.quiet turned_so.quiet;
        same = turned_so.live_is;
        raises = turned_so.raised_are ∙ follows.raises;
        takes = turned_so.taken_are ∙ ap (λ (xs : List AlarmNotification). xs ++ now) follows.takes;
        tied = λ l is. follows.tied l is ∙ sym turned_so.device_is;
        unmade = λ none. turned_so.device_is ∙ follows.unmade none;
        unraised = follows.unraised;
        linked = follows.linked;
        again = λ answer is. stays answer.frame (follows.again answer is);
        frames = each_behind (IsIn priority setup station.identity next) sent (map (said.bytes_of setup) turn.sent)
            (each_on (IsIn priority setup station.identity r) (IsIn priority setup station.identity next) sent stays follows.frames)
            (all_said_in next turn.sent places meant reported);
        early = λ none. let now_so = early_so none in
            (now_so.live, each_behind (IsEarlyFrame setup station) sent (map (said.bytes_of setup) turn.sent) (follows.early none).1 (messages_early setup station turn.sent now_so.sent meant));
        good = follows.good;
        apart = follows.apart;
        real = follows.real;
        sized = follows.sized;
        orderly = follows.orderly;
        own = follows.own;
        unasked = follows.unasked;
        lives = lives;
        placed = placed_so;
      }

  -- an event at the controller
  pub controller_follows : KindsSo → (one : Event) → IsEventIn one → AllByRecursion (IsSaidAs setup station) (turn_of setup controlling one).sent
      → AllByRecursion (IsReportedAs setup station.identity) (turn_of setup controlling one).sent
      → IsLive (turn_of setup controlling one).live → IsPlaced station.identity.mac (turn_of setup controlling one).live → Follows priority setup station live (turn_of setup controlling one).live (sent ++ map (said.bytes_of setup) (turn_of setup controlling one).sent) raised (taken ++ taken_at one)
  controller_follows kinds one is meant reported lives placed_so =
      subst (λ (l : ControllerLive). AllByRecursion (IsSaidAs setup station) (turn_of setup l one).sent → AllByRecursion (IsReportedAs setup station.identity) (turn_of setup l one).sent
      → IsLive (turn_of setup l one).live → IsPlaced station.identity.mac (turn_of setup l one).live → (kept_at setup live ≡ None → EarlyTurn (turn_of setup l one))
      → Follows priority setup station live (turn_of setup l one).live (sent ++ map (said.bytes_of setup) (turn_of setup l one).sent) raised (taken ++ taken_at one)) follows.same
      (turn_follows (turn_of setup follows.relation.live one) (taken_at one) (event_turned one is)) meant reported lives placed_so
      (λ none. turn_early kinds setup controlling one (follows.early none).0 (event_unready one is none))
