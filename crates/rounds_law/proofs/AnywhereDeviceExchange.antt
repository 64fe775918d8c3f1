-- What is exchanged, and units, at a device in any state.
use Rattle.std.proofs.Common.{◌≡◌, inl, inr, ◌++◌, ℕ, nat_eq, Bool, true, false, List, [], ◌∷◌, length, Option, Some, None, refl, sym, ap, subst, ◌∙◌, arith}
use Rattle.std.proofs.lemmas.Bool.{cond_both, false≢true}
use Rattle.std.specs.Prelude.{if◌then◌else◌, option_map}
use Rattle.std.specs.List.{AllByRecursion}
use Rattle.std.specs.Cmp.Lexicographic.{pointwise}
use Rattle.pn_values.specs.declared.identity.Identity.{Identity}
use Rattle.pn_values.specs.declared.mac.Mac.{Mac}
use Rattle.rpc_core.specs.Cache.{Kept}
use Rattle.rpc_core.specs.Response.{Answered, answer_to, is_done}
use Rattle.connect_blocks.specs.declared.control.ControlBlock.{ControlBlock}
use Rattle.block_codec.specs.Block.{block_of}
use Rattle.asked_records.specs.Answers.{unanswered_status}
use Rattle.asked_records.specs.Questions.{call_of, operation_of}
use Rattle.asked_records.specs.declared.status.Unanswered.TheVariants.{Late as is_late}
use Rattle.rpc_core.specs.Sendable.{IsUuid}
use Rattle.diagnosis.specs.Queue.{is_next}
use Rattle.expected_places.specs.declared.calls.PlugCall.{PlugCall}
use Rattle.expected_places.specs.Machine.{PlugState, next_called}
use Rattle.pn_alarms.specs.Message.{ToDevice}
use Rattle.pn_alarms.specs.Device.{heard_as}
use Rattle.pn_alarms.specs.declared.abort.Abort.{Abort}
use Rattle.pn_alarms.specs.declared.abort.Abort.TheVariants.{Other}
use Rattle.pn_alarms.specs.declared.device.PduFate.{PduFate}
use Rattle.pn_alarms.specs.declared.device.PduFate.TheVariants as fate
use Rattle.pn_alarms.specs.declared.pdu.Header.{Header}
use Rattle.pn_alarms.specs.declared.receiver.Taken.{Taken}
use Rattle.cyclic_data.specs.declared.exchange.route.Route.{Route}
use Rattle.cyclic_data.specs.declared.exchange.received.Received.{Received}
use Rattle.cyclic_data.specs.declared.exchange.received.Received.TheVariants as received
use Rattle.relations.specs.declared.farewell.Farewell.{Farewell}
use Rattle.relations.specs.Farewells.{farewell_of}
use Rattle.relations.specs.declared.hearing.ReadyAnswer.{ReadyAnswer}
use Rattle.relations.specs.declared.hearing.ReadyAnswer.TheVariants as to_ready
use Rattle.relations.specs.Diagnosed.{begin_one, has_sent_low, heard_low, hearing_low, report_one, reporting, sent_as}
use Rattle.relations.specs.Exchanged.{heard_by, hearing, hearing_as, received_by, receiving, receiving_as}
use Rattle.relations.specs.exchange.Diagnosis.{begins_with_one, behind_low, diagnoses_begun, next_reported}
use Rattle.relations.specs.exchange.Flow.{Flow}
use Rattle.relations.specs.exchange.Frames.{Frame, alarm_frame, low_alarm_frame}
use Rattle.relations.specs.exchange.Modules.{restated_flow}
use Rattle.relations.specs.exchange.Notices.{behind_message}
use Rattle.relations.specs.exchange.Received.{behind_frame, received_as}
use Rattle.relations.specs.Phases.{Confirmed, exchanging_from, passing, passing_by, updated, with_flow}
use Rattle.relations.specs.Plugging.{calling_next, first_sent, flow_answered, is_calling, plug_answer_in, plug_answering, plugs_answered, ready_for, taken_after}
use Rattle.relations.specs.Ready.{answer_of as ready_answer, confirmed_block, confirmed_by, is_wanted}
use Rattle.relations.specs.declared.plugging.PlugAnswer.{PlugAnswer}
use Rattle.relations.specs.declared.plugging.PlugAnswer.TheVariants as to_plug
use Rattle.relations.specs.RelationState.{RelationState, flow_of, is_alarm_of, is_in_exchange, uuid_of}
use Rattle.relations.specs.Timers.{Due, due_of, ending_of}
use Rattle.device_frames.specs.Relation.{alarms_of, due_frames, farewells_in, frames_in, inputs_of, low_alarms_of, low_replies_of, ready_calls}
use Rattle.device_frames.specs.Relation.{plug_call_in, plug_calls, replies_of, where_due}
use Rattle.device_frames.specs.Sendable.{AreSendable}
use Rattle.device_frames.specs.Sent.{Sent}
use Rattle.device_core.specs.State.{Live, Station, counter_of, units_after}
use Rattle.device_frames.specs.declared.note.Note.TheVariants as note
use Rattle.device_core.specs.Handled.{Handled, Refuses, goes_on_with, handled_alarm, handled_answer, handled_beginning, handled_cyclic, handled_low}
use Rattle.device_core.specs.Handled.{handled_low_confirm, handled_low_message, handled_next_call, handled_plug_answer, handled_response}
use Rattle.device_core.specs.Handled.{handled_low_pdu, handled_low_reply, handled_message, handled_pdu, handled_received, ticked, unit_sent}
use Rattle.device_core.specs.Asking.{kept_reply, refused_reply}
use Rattle.controller_messages.specs.declared.setup.Setup.{Setup}
use Rattle.end_laws.specs.device.Orderly.{IsNumberedCall}
use Rattle.rounds_law.specs.Anywhere.{AllLast, IsAnyDevice, IsQuestionOf, Lasts}
use Rattle.rounds_law.proofs.AskedUnits.{IsLate, late_at, late_of}
use Rattle.rounds_law.proofs.AnywhereAsked.{late_undone, left_so, others_of, unit_asked}
use Rattle.rounds_law.proofs.AnywhereDeviceAnswers.{CallLaws, refused_fit}
use Rattle.rounds_law.proofs.AnywhereDeviceFine.{IsFine, IsStored, IsUntimed, called_lasts, exchanging_lasts, flow_lasts, late_stored, passed_lasts, reported_lasts}
use Rattle.rounds_law.proofs.AnywhereDeviceFine.{stored_before, untimed_by, untold_by, untold_in}
use Rattle.rounds_law.proofs.AnywherePlugs.{heard_numbered, heard_told, next_numbered}
use Rattle.rounds_law.proofs.AnywhereDeviceSays.{IsFitting}
use Rattle.rounds_law.proofs.DevicePassingLeft.{frame_left}

-- ---- the messages of a relation are fit

pub both_fit : (setup : Setup) (one other : List Sent) → AllByRecursion (IsFitting setup) one → AllByRecursion (IsFitting setup) other
    → AllByRecursion (IsFitting setup) (one ++ other)
both_fit setup [] other ones others = others
both_fit setup (message ∷ one) other ones others = (ones.0, both_fit setup one other ones.1 others)

pub due_fit : (setup : Setup) (is_due : Bool) (sent : List Sent) → AllByRecursion (IsFitting setup) sent → AllByRecursion (IsFitting setup) (where_due is_due sent)
due_fit setup true sent all = all
due_fit setup false sent all = tt

frames_fit : (setup : Setup) (route : Route) (frame : Option Frame) → AllByRecursion (IsFitting setup) (frames_in route frame)
frames_fit setup route None = tt
frames_fit setup route (Some frame) = (tt, tt)

alarms_fit : (setup : Setup) (flow : Option Flow) → AllByRecursion (IsFitting setup) (alarms_of flow)
alarms_fit setup None = tt
alarms_fit setup (Some flow) = frames_fit setup flow.cyclic.route (alarm_frame flow)

low_fit : (setup : Setup) (flow : Option Flow) → AllByRecursion (IsFitting setup) (low_alarms_of flow)
low_fit setup None = tt
low_fit setup (Some flow) = frames_fit setup flow.cyclic.route (low_alarm_frame flow)

replies_fit : (setup : Setup) (taken : Taken) (flow : Option Flow) → AllByRecursion (IsFitting setup) (replies_of taken flow)
replies_fit setup taken None = tt
replies_fit setup taken (Some flow) = (tt, tt)

low_replies_fit : (setup : Setup) (taken : Taken) (flow : Option Flow) → AllByRecursion (IsFitting setup) (low_replies_of taken flow)
low_replies_fit setup taken None = tt
low_replies_fit setup taken (Some flow) = (tt, tt)

inputs_fit : (setup : Setup) (counter : ℕ) (flow : Option Flow) → AllByRecursion (IsFitting setup) (inputs_of counter flow)
inputs_fit setup counter None = tt
inputs_fit setup counter (Some flow) = (tt, tt)

pub farewells_fit : (setup : Setup) (farewell : Option Farewell) → AllByRecursion (IsFitting setup) (farewells_in farewell)
farewells_fit setup None = tt
farewells_fit setup (Some farewell) = (tt, tt)

pub ready_fits : (setup : Setup) (silence : ℕ) (address : List ℕ) (link : Option RelationState) → AllLast setup silence link
    → AllByRecursion (IsFitting setup) (ready_calls address link)
ready_fits setup silence address None lasts = tt
ready_fits setup silence address (Some link) lasts = (
  record {
    header = record { object = lasts.object; interface = refl; activity = lasts.named; sequence = omega arith; operation = omega arith };
    interface = refl;
    uuid = lasts.named;
  },
  tt,
)

-- the call of a plug
call_fits : (setup : Setup) (address : List ℕ) (link : RelationState) (standing : Option PlugCall) → IsUuid link.request.ar.uuid
    → IsUuid link.request.ar.object → IsNumberedCall standing
    → AllByRecursion (IsFitting setup) (plug_call_in address (option_map (ready_for link) standing))
call_fits setup address link None named object called = tt
call_fits setup address link (Some call) named object called = (
  record {
    header = record { object = object; interface = refl; activity = named; sequence = called; operation = omega arith };
    interface = refl;
    uuid = named;
  },
  tt,
)

pub plugs_fit : (setup : Setup) (silence : ℕ) (address : List ℕ) (link : Option RelationState) → AllLast setup silence link
    → AllByRecursion (IsFitting setup) (plug_calls address link)
plugs_fit setup silence address None lasts = tt
plugs_fit setup silence address (Some link) lasts =
    call_fits setup address link link.plugs.calls.standing lasts.named lasts.object lasts.called.1

unit_fit : (setup : Setup) (silence : ℕ) (address : List ℕ) (counter : ℕ) (due : Due) (link : Option RelationState) → AllLast setup silence link
    → AllByRecursion (IsFitting setup) (due_frames address counter due link)
unit_fit setup silence address counter due link lasts =
    both_fit setup (farewells_in due.farewell) _ (farewells_fit setup due.farewell)
    (both_fit setup (where_due due.is_alarm (alarms_of (flow_of link))) _ (due_fit setup due.is_alarm _ (alarms_fit setup (flow_of link)))
    (both_fit setup (where_due due.is_low (low_alarms_of (flow_of link))) _ (due_fit setup due.is_low _ (low_fit setup (flow_of link)))
    (both_fit setup (where_due due.is_ready (ready_calls address link)) _ (due_fit setup due.is_ready _ (ready_fits setup silence address link lasts))
    (both_fit setup (where_due due.is_plug_ready (plug_calls address link)) _ (due_fit setup due.is_plug_ready _ (plugs_fit setup silence address link lasts))
    (due_fit setup due.is_cyclic _ (inputs_fit setup counter (flow_of link)))))))

-- ---- a call that had no answer in time

all_right : (identity : Identity) (one other : List Sent) → AreSendable identity (one ++ other) → AreSendable identity other
all_right identity [] other can = can
all_right identity (message ∷ one) other can = all_right identity one other can.1

-- ---- a response that refuses ApplicationReady

-- The ARUUID of the relation that ends with it.
abbrev uuid_said : ReadyAnswer → List ℕ
uuid_said (to_ready.Refused farewell) = farewell.uuid
uuid_said answer = []

unrefused : (uuid : List ℕ) (block : Option ControlBlock) (farewell : Farewell) → confirmed_by uuid block ≡ to_ready.Refused farewell → ⊥
unrefused uuid None farewell e = absurd cc
unrefused uuid (Some block) farewell e = by_test (pointwise nat_eq block.ar_uuid uuid) e
  where
    by_test : (same : Bool) → (if same then to_ready.Confirmed else to_ready.NotWanted) ≡ to_ready.Refused farewell → ⊥
    by_test true bad = absurd cc
    by_test false bad = absurd cc

refused_uuid : (response : Answered) (link : Option RelationState) (farewell : Farewell) → ready_answer response link ≡ to_ready.Refused farewell
    → uuid_of link ≡ Some farewell.uuid
unfolding ready_answer
refused_uuid response None farewell e = absurd cc
refused_uuid response (Some link) farewell e = by_tests (is_wanted response link) (is_done response.status) e
  where
    by_tests : (wanted done : Bool)
        → (if wanted
        then (if done then confirmed_by link.request.ar.uuid (confirmed_block (block_of response.blocks)) else to_ready.Refused (farewell_of Other link))
        else to_ready.NotWanted) ≡ to_ready.Refused farewell
        → uuid_of (Some link) ≡ Some farewell.uuid
    by_tests true true e = absurd (unrefused link.request.ar.uuid (confirmed_block (block_of response.blocks)) farewell e)
    by_tests true false e = ap (λ (a : ReadyAnswer). Some (uuid_said a)) e
    by_tests false done e = absurd cc

-- ---- what is heard

module _ (setup next : Setup) (identity : Identity) (silence : ℕ) (station : Station) where
  abbrev Device : Live → Type 0
  Device live = IsAnyDevice setup next identity silence station live

  abbrev Fine : Live → Handled → Type 0
  Fine live what = IsFine setup next identity silence station live what

  -- what is asked, in a relation with this ARUUID
  abbrev Asked : Live → Option RelationState → Type 0
  Asked live link = IsQuestionOf setup next (uuid_of link) live.rest.asked.standing

  asked_in : (live : Live) → Device live → (link : RelationState) → live.rest.link ≡ Some link → Asked live (Some link)
  asked_in live before link has = subst (Asked live) has before.asked

  -- the same relation, in another state
  gone_on : (live : Live) → Device live → (link : Option RelationState) → AllLast setup silence link → Asked live link → (sent : List Sent)
      → AllByRecursion (IsFitting setup) sent
      → Fine live (goes_on_with live link sent)
  gone_on live before link lasts asked sent fits = (lasts, λ can. stored_before setup next identity silence station live before, fits, asked)

  lasts_at : (live : Live) → Device live → (link : RelationState) → live.rest.link ≡ Some link → Lasts setup silence link
  lasts_at live before link has = subst (AllLast setup silence) has before.lasts

  -- ---- cyclic frames

  received_fine : (live : Live) → Device live → (link : RelationState) → Asked live (Some link) → (flow : Flow) → Lasts setup silence (with_flow flow link)
      → (one : Received)
      → Fine live (handled_received live one (updated (receiving_as one flow) (Some link)))
  received_fine live before link asked flow later received.Foreign = tt
  received_fine live before link asked flow later received.Short = tt
  received_fine live before link asked flow later received.Stale = tt
  received_fine live before link asked flow later received.Taken = gone_on live before (Some (with_flow flow link)) later asked [] tt

  pub cyclic_fine : (live : Live) → Device live → (source : Mac) (frame_id : ℕ) (body : List ℕ) → Fine live (handled_cyclic live source frame_id body)
  cyclic_fine live before source frame_id body = by_link live.rest.link refl
    where
      by_link : (link : Option RelationState) → live.rest.link ≡ link → Fine live (handled_cyclic live source frame_id body)
      by_link None has =
          subst (λ (l : Option RelationState). Fine live (handled_received live (received_by source frame_id body l)
          (updated (receiving source frame_id body l) l))) (sym has) tt
      by_link (Some link) has =
          let left = frame_left link.flow.cyclic source frame_id body in
          let lasts = lasts_at live before link has in
          subst (λ (l : Option RelationState). Fine live (handled_received live (received_by source frame_id body l)
          (updated (receiving source frame_id body l) l))) (sym has)
          (received_fine live before link (asked_in live before link has) (behind_frame link.flow source frame_id body)
          (flow_lasts setup silence link (behind_frame link.flow source frame_id body) left.begun left.limit left.route (untold_in setup silence link lasts) lasts)
          (received_as link.flow source frame_id body))

  -- ---- alarms

  pdu_fine : (live : Live) → Device live → (link : RelationState) → Asked live (Some link) → (flow : Flow) → Lasts setup silence (with_flow flow link)
      → (one : PduFate)
      → Fine live (handled_pdu live one (updated (hearing_as one flow) (Some link)))
  pdu_fine live before link asked flow later (fate.Data taken) =
      gone_on live before (Some (with_flow flow link)) later asked (replies_of taken (Some flow)) (replies_fit setup taken (Some flow))
  pdu_fine live before link asked flow later fate.Done = gone_on live before (Some (with_flow flow link)) later asked [] tt
  pdu_fine live before link asked flow later fate.Ignored = tt
  pdu_fine live before link asked flow later (fate.Aborted status) = (
    tt,
    λ can. stored_before setup next identity silence station live before,
    tt,
    left_so setup next (uuid_of live.rest.link) None live.rest.asked before.asked,
  )

  message_fine : (live : Live) → Device live → (message : ToDevice) → Fine live (handled_message live message)
  message_fine live before message = by_link live.rest.link refl
    where
      by_link : (link : Option RelationState) → live.rest.link ≡ link → Fine live (handled_message live message)
      by_link None has =
          subst (λ (l : Option RelationState). Fine live (handled_pdu live (heard_by message l) (updated (hearing message l) l))) (sym has) tt
      by_link (Some link) has =
          let lasts = lasts_at live before link has in
          subst (λ (l : Option RelationState). Fine live (handled_pdu live (heard_by message l) (updated (hearing message l) l))) (sym has)
          (pdu_fine live before link (asked_in live before link has) (behind_message link.flow message)
          (flow_lasts setup silence link (behind_message link.flow message) refl refl refl (untold_in setup silence link lasts) lasts)
          (heard_as link.flow.alarms message))

  pub alarm_fine : (live : Live) → Device live → (source : Mac) (header : Header) (message : ToDevice) → Fine live (handled_alarm live source header message)
  alarm_fine live before source header message = by_test (is_alarm_of source header.destination header.source live.rest.link)
    where
      by_test : (own : Bool) → Fine live (if own then handled_message live message else Refuses note.NoRelation)
      by_test true = message_fine live before message
      by_test false = tt

  -- an alarm of low priority is sent, or not
  sent_lasts : (link : RelationState) (is_sent : Bool) (flow : Flow) → IsUntimed setup silence link → Lasts setup silence (with_flow flow link)
      → AllLast setup silence (updated (sent_as is_sent flow link) (Some link))
  sent_lasts link is_sent flow untimed lasts =
      let sent = first_sent is_sent flow.low in
      reported_lasts setup silence link flow (taken_after sent link.plugs.places link.taken) sent flow.low.waiting untimed lasts

  low_pdu_fine : (live : Live) → Device live → (link : RelationState) → Asked live (Some link) → IsUntimed setup silence link → Lasts setup silence link
      → (one : PduFate) → Fine live (handled_low_pdu station live one (Some link))
  low_pdu_fine live before link asked untimed lasts (fate.Data taken) =
      let flow = next_reported link.flow in
      gone_on live before (updated (reporting (Some link)) (Some link))
      (sent_lasts link (is_next link.flow.low) flow untimed
      (flow_lasts setup silence link flow refl refl refl (untold_by setup silence link flow untimed) lasts)) asked
      (low_replies_of taken (Some link.flow) ++ where_due (report_one (Some link)) (low_alarms_of (Some flow)))
      (both_fit setup (low_replies_of taken (Some link.flow)) _ (low_replies_fit setup taken (Some link.flow))
      (due_fit setup (report_one (Some link)) _ (low_fit setup (Some flow))))
  low_pdu_fine live before link asked untimed lasts fate.Done = gone_on live before (Some link) lasts asked [] tt
  low_pdu_fine live before link asked untimed lasts fate.Ignored = tt
  low_pdu_fine live before link asked untimed lasts (fate.Aborted status) = tt

  low_message_fine : (live : Live) → Device live → (message : ToDevice) → has_sent_low live.rest.link ≡ true
      → Fine live (handled_low_message station live message)
  low_message_fine live before message sent = by_link live.rest.link refl
    where
      by_link : (link : Option RelationState) → live.rest.link ≡ link → Fine live (handled_low_message station live message)
      by_link None has =
          subst (λ (l : Option RelationState). Fine live (handled_low_pdu station live (heard_low message l) (updated (hearing_low message l) l))) (sym has) tt
      by_link (Some link) has =
          subst (λ (l : Option RelationState). Fine live (handled_low_pdu station live (heard_low message l) (updated (hearing_low message l) l))) (sym has)
          (let lasts = lasts_at live before link has in
          let untimed = untimed_by setup silence link lasts (subst (λ (l : Option RelationState). has_sent_low l ≡ true) has sent) in
          low_pdu_fine live before (with_flow (behind_low link.flow message) link) (asked_in live before link has) untimed
          (flow_lasts setup silence link (behind_low link.flow message) refl refl refl
          (untold_by setup silence link (behind_low link.flow message) untimed) lasts) (heard_as link.flow.low.alarms message))

  low_fine : (live : Live) → Device live → (source : Mac) (header : Header) (message : ToDevice) → has_sent_low live.rest.link ≡ true
      → Fine live (handled_low station live source header message)
  low_fine live before source header message sent = by_test (is_alarm_of source header.destination header.source live.rest.link)
    where
      by_test : (own : Bool) → Fine live (if own then handled_low_message station live message else Refuses note.NoRelation)
      by_test true = low_message_fine live before message sent
      by_test false = tt

  pub low_reply_fine : (live : Live) → Device live → (source : Mac) (header : Header) (message : ToDevice)
      → Fine live (handled_low_reply station live source header message)
  low_reply_fine live before source header message = by_test (has_sent_low live.rest.link) refl
    where
      by_test : (low : Bool) → has_sent_low live.rest.link ≡ low → Fine live (if low then handled_low station live source header message else handled_alarm live source header message)
      by_test true sent = low_fine live before source header message sent
      by_test false sent = alarm_fine live before source header message

  pub low_confirm_fine : (live : Live) → Device live → (source : Mac) (header : Header) (message : ToDevice)
      → Fine live (handled_low_confirm station live source header message)
  low_confirm_fine live before source header message = by_test (has_sent_low live.rest.link) refl
    where
      by_test : (low : Bool) → has_sent_low live.rest.link ≡ low → Fine live (if low then handled_low station live source header message else Refuses note.Fault)
      by_test true sent = low_fine live before source header message sent
      by_test false sent = tt

  -- ---- the answer to ApplicationReady

  beginning_fine : (live : Live) → Device live → (link : Option RelationState) → AllLast setup silence link → Asked live link
      → Fine live (handled_beginning station live (updated Confirmed link))
  beginning_fine live before None lasts asked = (tt, λ can. stored_before setup next identity silence station live before, tt, asked)
  beginning_fine live before (Some link) lasts asked =
      let real = live.rest.real.modules.items in
      let now = exchanging_from link in
      let told = diagnoses_begun real live.rest.diagnoses now.flow in (
        sent_lasts now (begins_with_one real live.rest.diagnoses now.flow) told (λ keyed timed. false≢true timed)
            (flow_lasts setup silence now told refl refl refl (λ keyed timed. absurd (false≢true timed)) (exchanging_lasts setup silence link lasts)),
        λ can. stored_before setup next identity silence station live before,
        due_fit setup (begin_one real live.rest.diagnoses (Some now)) _ (low_fit setup (Some told)),
        asked,
      )

  answer_fine : (live : Live) → Device live → (response : Answered) (answer : ReadyAnswer) → ready_answer response live.rest.link ≡ answer
      → Fine live (handled_answer station live answer)
  answer_fine live before response to_ready.NotWanted is = tt
  answer_fine live before response to_ready.Garbled is = tt
  answer_fine live before response to_ready.Confirmed is = beginning_fine live before live.rest.link before.lasts before.asked
  answer_fine live before response (to_ready.Refused farewell) is = (
    tt,
    λ can. stored_before setup next identity silence station live before,
    (tt, tt),
    left_so setup next (Some farewell.uuid) None live.rest.asked
        (subst (λ (uuid : Option (List ℕ)). IsQuestionOf setup next uuid live.rest.asked.standing)
        (refused_uuid response live.rest.link farewell is) before.asked),
  )

  -- the answer to the call of a plug, and the next call
  pub calling_lasts : (link : Option RelationState) → AllLast setup silence link → AllLast setup silence (calling_next link)
  calling_lasts None lasts = tt
  calling_lasts (Some link) lasts =
      called_lasts setup silence link link.flow (next_called link.plugs) (next_numbered link.plugs lasts.called)
      (λ keyed timed. (lasts.untold keyed timed).1) (flow_lasts setup silence link link.flow refl refl refl (untold_in setup silence link lasts) lasts)

  answered_flow : (heard : PlugAnswer) (plugs : PlugState) (link : RelationState) → Lasts setup silence link
      → Lasts setup silence (with_flow (flow_answered heard plugs link.flow) link)
  answered_flow to_plug.NotWanted plugs link lasts = flow_lasts setup silence link link.flow refl refl refl (untold_in setup silence link lasts) lasts
  answered_flow to_plug.Garbled plugs link lasts = flow_lasts setup silence link link.flow refl refl refl (untold_in setup silence link lasts) lasts
  answered_flow to_plug.Confirmed plugs link lasts =
      flow_lasts setup silence link (restated_flow plugs link.flow) refl refl refl (untold_in setup silence link lasts) lasts
  answered_flow to_plug.Refused plugs link lasts =
      flow_lasts setup silence link (restated_flow plugs link.flow) refl refl refl (untold_in setup silence link lasts) lasts

  answering_lasts : (response : Answered) (link : Option RelationState) → AllLast setup silence link → AllLast setup silence (plug_answering response link)
  answering_lasts response None lasts = tt
  answering_lasts response (Some link) lasts =
      let heard = plug_answer_in response (Some link) in
      let plugs = plugs_answered heard link.plugs in
      called_lasts setup silence link (flow_answered heard plugs link.flow) plugs (heard_numbered heard link.plugs lasts.called)
      (λ keyed timed. heard_told heard link.plugs ∙ (lasts.untold keyed timed).1) (answered_flow heard plugs link lasts)

  pub calling_named : (link : Option RelationState) → uuid_of (calling_next link) ≡ uuid_of link
  calling_named None = refl
  calling_named (Some link) = refl

  answering_named : (response : Answered) (link : Option RelationState) → uuid_of (plug_answering response link) ≡ uuid_of link
  answering_named response None = refl
  answering_named response (Some link) = refl

  next_call_fine : (live : Live) → Device live → (link : Option RelationState) → AllLast setup silence link → uuid_of link ≡ uuid_of live.rest.link
      → Fine live (handled_next_call live link)
  next_call_fine live before link lasts same =
      let later = calling_lasts link lasts in (
        later,
        λ can. stored_before setup next identity silence station live before,
        due_fit setup (is_calling link) _ (plugs_fit setup silence live.values.running.suite.address (calling_next link) later),
        subst (λ (uuid : Option (List ℕ)). IsQuestionOf setup next uuid live.rest.asked.standing) (sym (calling_named link ∙ same)) before.asked,
      )

  plug_answer_fine : (live : Live) → Device live → (response : Answered) (heard : PlugAnswer) → Fine live (handled_plug_answer live response heard)
  plug_answer_fine live before response to_plug.NotWanted = tt
  plug_answer_fine live before response to_plug.Garbled = tt
  plug_answer_fine live before response to_plug.Confirmed =
      next_call_fine live before (plug_answering response live.rest.link) (answering_lasts response live.rest.link before.lasts)
      (answering_named response live.rest.link)
  plug_answer_fine live before response to_plug.Refused =
      next_call_fine live before (plug_answering response live.rest.link) (answering_lasts response live.rest.link before.lasts)
      (answering_named response live.rest.link)

  pub response_fine : (live : Live) → Device live → (response : Answered) → Fine live (handled_response station live response)
  response_fine live before response =
      cond_both (is_in_exchange live.rest.link) _ _ (Fine live)
      (λ _. plug_answer_fine live before response (plug_answer_in response live.rest.link))
      (λ _. answer_fine live before response (ready_answer response live.rest.link) refl)

  -- ---- units

  passed_all : (link : Option RelationState) → AllLast setup silence link → AllLast setup silence (updated (passing link) link)
  passed_all None lasts = tt
  passed_all (Some link) lasts = by_ending (ending_of link)
    where
      by_ending : (ending : Option Abort) → AllLast setup silence (updated (passing_by ending) (Some link))
      by_ending None = passed_lasts setup silence link lasts
      by_ending (Some reason) = tt

  -- the refusal of a call that had no answer in time
  abbrev Late : Live → List Sent → List Kept → Type 0
  Late live sent stored = IsLate station.identity live.values.running.suite.address live.rest.asked.standing live.rest.calls sent stored

  fit_late : (live : Live) (sent : List Sent) (stored : List Kept) → Late live sent stored → AllByRecursion (IsFitting setup) sent
  fit_late live sent stored (inl (none, same)) = subst (AllByRecursion (IsFitting setup)) (sym none) tt
  fit_late live sent stored (inr (one, asked, is, kept)) =
      subst (AllByRecursion (IsFitting setup)) (sym is) (
        refused_fit setup (answer_to (call_of one.question) (unanswered_status (operation_of one.question.request) is_late) [])
            (late_undone one.question.request),
        tt,
      )

  stored_late : CallLaws setup next silence station → (live : Live) → Device live → (sent : List Sent) (stored : List Kept) → Late live sent stored
      → AreSendable station.identity sent → IsStored setup next identity silence station stored
  stored_late laws live before sent stored (inl (none, same)) can =
      subst (IsStored setup next identity silence station) (sym same) (stored_before setup next identity silence station live before)
  stored_late laws live before sent stored (inr (one, asked, is, inr same)) can =
      subst (IsStored setup next identity silence station) (sym same) (stored_before setup next identity silence station live before)
  stored_late laws live before sent stored (inr (one, asked, is, inl kept)) can =
      let answer = answer_to (call_of one.question) (unanswered_status (operation_of one.question.request) is_late) [] in
      let reply = refused_reply live.values.running.suite.address is_late one.question in
      subst (IsStored setup next identity silence station) (sym kept)
      (late_stored setup next identity silence station laws.says laws.good laws.device laws.ignored
      (kept_reply station.identity one.question reply) one.question.caller live.values.running.suite.address answer live.rest.calls refl refl
      (others_of setup next (uuid_of live.rest.link) live.rest.asked.standing one asked before.asked).0
      (refused_fit setup answer (late_undone one.question.request)) (subst (AreSendable station.identity) is can).0
      (stored_before setup next identity silence station live before))

  pub unit_fine : CallLaws setup next silence station → (live : Live) → Device live → Fine live (ticked station live)
  unit_fine laws live before =
      let address = live.values.running.suite.address in
      let count = length (unit_sent live) in
      let link = updated (passing live.rest.link) live.rest.link in
      let lasts = passed_all live.rest.link before.lasts in
      let late = late_of station live in (
        lasts,
        λ can. stored_late laws live before (late_at station live) _ late (all_right station.identity (unit_sent live) (late_at station live) can),
        both_fit setup (unit_sent live) (late_at station live)
            (unit_fit setup silence address (counter_of (units_after 1 live.rest.units)) (due_of live.rest.link) link lasts)
            (fit_late live (late_at station live) _ late),
        unit_asked setup next count live.rest.link live.rest.asked before.asked,
      )
