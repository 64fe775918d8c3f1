-- Each ApplicationReady of a plug that a step of a device sends is that of the call which is active after the step.
use Rattle.std.proofs.Common.{◌≡◌, ◌&&◌, ◌++◌, ℕ, Bool, true, false, List, [], ◌∷◌, length, Option, Some, None, is_some, option_map, Result, Ok, Err, refl, sym}
use Rattle.std.specs.List.{AllByRecursion}
use Rattle.std.proofs.lemmas.Bool.{cond_both}
use Rattle.arrayvec.specs.ArrayVec.{ArrayVec}
use Rattle.pn_values.specs.declared.mac.Mac.{Mac}
use Rattle.pn_values.specs.declared.real.RealModule.{RealModule}
use Rattle.pn_values.specs.declared.set_item.BlockError.{BlockError}
use Rattle.settings_journal.specs.settings_store.Machine.{Outcome, carried}
use Rattle.frame_codec.specs.declared.udp.Caller.{Caller}
use Rattle.dcp_core.specs.declared.request.Service.{Service}
use Rattle.dcp_core.specs.declared.request.Service.TheVariants as service
use Rattle.dcp_core.specs.Request.{Asked}
use Rattle.dcp_core.specs.Identify.{matches}
use Rattle.dcp_core.specs.Set.{plan_of}
use Rattle.rpc_core.specs.Call.{Asked as Called}
use Rattle.rpc_core.specs.Cache.{Kept, Reported as Looked, new, again, old}
use Rattle.rpc_core.specs.Response.{Answered}
use Rattle.records.specs.declared.status.operation.Operation.{Operation}
use Rattle.records.specs.declared.status.operation.Operation.TheVariants.{Connect, Release, Read, Write, Control, ReadImplicit}
use Rattle.records.specs.declared.status.call_fault.CallFault.{CallFault}
use Rattle.records.specs.status.Operation.{operation_of}
use Rattle.record_blocks.specs.declared.write_record.IodWriteReq.{IodWriteReq}
use Rattle.records.specs.declared.writes.write.Effect.{Effect}
use Rattle.records.specs.declared.writes.write.Effect.TheVariants.{Stores, Keeps}
use Rattle.records.specs.declared.writes.writing.Writing.{Writing}
use Rattle.records.specs.declared.writes.writing.Writing.TheVariants.{One, Each}
use Rattle.records.specs.writes.Asked.{writing_of}
use Rattle.connect_blocks.specs.declared.control.ControlBlock.{ControlBlock}
use Rattle.module_diff.specs.declared.changes.RealChange.{RealChange}
use Rattle.module_diff.specs.Changes.{affected_by, plugged_with, pulled, slot_pulled}
use Rattle.diagnosis.specs.declared.diagnosis.Change.{Change}
use Rattle.diagnosis.specs.declared.diagnosis.Diagnosis.{Diagnosis}
use Rattle.diagnosis.specs.Existing.{changed}
use Rattle.pn_alarms.specs.declared.device.PduFate.{PduFate}
use Rattle.pn_alarms.specs.declared.device.PduFate.TheVariants as fate
use Rattle.pn_alarms.specs.declared.pdu.Header.{Header}
use Rattle.pn_alarms.specs.declared.receiver.Taken.{Taken}
use Rattle.pn_alarms.specs.Message.{ToDevice}
use Rattle.cyclic_data.specs.declared.exchange.received.Received.{Received}
use Rattle.cyclic_data.specs.declared.exchange.received.Received.TheVariants as received
use Rattle.cyclic_data.specs.declared.exchange.route.Route.{Route}
use Rattle.asked_records.specs.Answers.{Gives, gives_done, gives_octets, gives_refusal, judged}
use Rattle.asked_records.specs.Asked.{AskedState, asks, behind_displaced, displaced_by, is_repeat}
use Rattle.asked_records.specs.Questions.{operation_of as operation_asked}
use Rattle.asked_records.specs.declared.status.Unanswered.{Unanswered}
use Rattle.asked_records.specs.declared.status.Unanswered.TheVariants.{Busy, Late}
use Rattle.pn_values.specs.IpSuite.{is_zero}
use Rattle.relations.specs.declared.options.DeviceOptions.{DeviceOptions}
use Rattle.asked_records.specs.declared.answering.AnswerFault.{AnswerFault}
use Rattle.asked_records.specs.declared.question.Question.{Question}
use Rattle.expected_places.specs.declared.calls.PlugCall.{PlugCall}
use Rattle.relations.specs.exchange.Flow.{Flow}
use Rattle.relations.specs.exchange.Frames.{Frame, alarm_frame, low_alarm_frame}
use Rattle.relations.specs.exchange.Statuses.{statuses_at}
use Rattle.relations.specs.declared.exchange.statuses.InputStatus.{InputStatus}
use Rattle.relations.specs.declared.farewell.Farewell.{Farewell}
use Rattle.relations.specs.declared.hearing.ReadyAnswer.{ReadyAnswer}
use Rattle.relations.specs.declared.hearing.ReadyAnswer.TheVariants as to_ready
use Rattle.relations.specs.declared.plugging.PlugAnswer.{PlugAnswer}
use Rattle.relations.specs.declared.plugging.PlugAnswer.TheVariants as to_plug
use Rattle.relations.specs.declared.plugging.PlugReady.{PlugReady}
use Rattle.relations.specs.Calls.{prm_end_of}
use Rattle.relations.specs.Diagnosed.{begin_one, beginning, diagnose_one, diagnosing, has_sent_low, heard_low, hearing_low, report_one, reporting}
use Rattle.relations.specs.Exchanged.{given_to, heard_by, hearing, raised_to, received_by, receiving}
use Rattle.relations.specs.Phases.{Exchanged, Parameterized, Named, Prepared, answered, passing, updated}
use Rattle.relations.specs.Plugging.{calling_next, is_alarmed_by, is_called_by, is_calling, is_crowded, is_plug_control, is_readied_in, plug_answer_in, plug_answering, plug_end_in}
use Rattle.relations.specs.Plugging.{plug_ending, plug_ready_of, ready_for, readying_at}
use Rattle.relations.specs.Ready.{answer_of as ready_answer, handled_by}
use Rattle.relations.specs.RelationState.{RelationState, flow_of, is_alarm_of, is_in_exchange, is_preparing, phase_of, uuid_of}
use Rattle.relations.specs.Timers.{Due, due_of}
use Rattle.device_frames.specs.declared.local.Local.{Local}
use Rattle.device_frames.specs.declared.local.Local.TheVariants as local
use Rattle.device_frames.specs.Heard.{Heard, Ticks, Unreadable, Elsewhere, Asks, Resolves, Reported, Cyclic, Alarms, LowReplies, LowConfirms, Met, Applied}
use Rattle.device_frames.specs.Heard.{Said, Calls, Responds, Garbled}
use Rattle.device_frames.specs.Relation.{alarms_of, due_frames, farewells_in, frames_in, inputs_of, low_alarms_of, low_replies_of, plug_call_in, plug_calls}
use Rattle.device_frames.specs.Relation.{ready_calls, replies_of, where_due}
use Rattle.device_frames.specs.Sent.{Sent, SetAnswer, PlugReadyCall}
use Rattle.device_core.specs.State.{Live, Station, alias_in, counter_of, units_after}
use Rattle.device_core.specs.Asking.{Asking, asking_of, is_kept, is_new, late_in, late_sent, later_replies, looked_if, refused_reply, refused_sent}
use Rattle.device_core.specs.Handled.{Handled, change_of, handled, handled_alarm, handled_answer, handled_asking, handled_blocks, handled_call}
use Rattle.device_core.specs.Handled.{handled_change, handled_effect, handled_input, handled_judged, handled_local, handled_looked, handled_low}
use Rattle.device_core.specs.Handled.{handled_low_pdu, handled_modules, handled_notice, handled_own, handled_pdu, handled_plug_answer, handled_plug_end}
use Rattle.device_core.specs.Handled.{handled_prm_end, handled_question, handled_received, handled_request, handled_said, handled_write, is_request, is_running, kept_status}
use Rattle.device_core.specs.Handled.{may_be_diagnosed, partner_of, ready_behind, ticked, unit_rest, unit_sent}
use Rattle.device_core.specs.Machine.{farewells_at, finished, handled_step, heard_step, items_in, resets}
use Rattle.device_core.specs.Modules.{call_after, calling_after, changed_rest, next_call_sent, outside, plug_of, pull_of, slot_pull_of}

-- The ApplicationReady of a plug is that of the active call of this relation. Other messages are not concerned.
abbrev pub IsActiveCall : Option RelationState → Sent → Type 0
IsActiveCall link (PlugReadyCall address ready) = plug_ready_of link ≡ Some ready
IsActiveCall link message = Unit {0}

abbrev pub AreActiveCalls : Option RelationState → List Sent → Type 0
AreActiveCalls link messages = AllByRecursion (IsActiveCall link) messages

-- ---- messages of other kinds

abbrev IsOther : Sent → Type 0
IsOther (PlugReadyCall address ready) = ⊥
IsOther message = Unit {0}

abbrev AreOthers : List Sent → Type 0
AreOthers messages = AllByRecursion IsOther messages

other_active : (link : Option RelationState) (message : Sent) → IsOther message → IsActiveCall link message
other_active link (PlugReadyCall address ready) other = absurd other
other_active link message other = tt

others_active : (link : Option RelationState) (messages : List Sent) → AreOthers messages → AreActiveCalls link messages
others_active link [] others = tt
others_active link (message ∷ messages) others = (other_active link message others.0, others_active link messages others.1)

all_both : (P : Sent → Type 0) (front back : List Sent) → AllByRecursion P front → AllByRecursion P back → AllByRecursion P (front ++ back)
all_both P [] back first last = last
all_both P (message ∷ front) back first last = (first.0, all_both P front back first.1 last)

due_each : (P : Sent → Type 0) (b : Bool) (messages : List Sent) → AllByRecursion P messages → AllByRecursion P (where_due b messages)
due_each P true messages all = all
due_each P false messages all = tt

farewells_other : (farewell : Option Farewell) → AreOthers (farewells_in farewell)
farewells_other None = tt
farewells_other (Some farewell) = (tt, tt)

frames_other : (route : Route) (frame : Option Frame) → AreOthers (frames_in route frame)
frames_other route None = tt
frames_other route (Some frame) = (tt, tt)

alarms_other : (flow : Option Flow) → AreOthers (alarms_of flow)
alarms_other None = tt
alarms_other (Some flow) = frames_other flow.cyclic.route (alarm_frame flow)

low_alarms_other : (flow : Option Flow) → AreOthers (low_alarms_of flow)
low_alarms_other None = tt
low_alarms_other (Some flow) = frames_other flow.cyclic.route (low_alarm_frame flow)

inputs_other : (counter : ℕ) (flow : Option Flow) → AreOthers (inputs_of counter flow)
inputs_other counter None = tt
inputs_other counter (Some flow) = (tt, tt)

replies_other : (taken : Taken) (flow : Option Flow) → AreOthers (replies_of taken flow)
replies_other taken None = tt
replies_other taken (Some flow) = (tt, tt)

low_replies_other : (taken : Taken) (flow : Option Flow) → AreOthers (low_replies_of taken flow)
low_replies_other taken None = tt
low_replies_other taken (Some flow) = (tt, tt)

calls_other : (address : List ℕ) (link : Option RelationState) → AreOthers (ready_calls address link)
calls_other address None = tt
calls_other address (Some link) = (tt, tt)

ready_other : (by_application : Bool) (address : List ℕ) (link : Option RelationState) (ended : Result ControlBlock CallFault)
    → AreOthers (ready_behind by_application address link ended)
ready_other true address link (Ok block) = tt
ready_other false address link (Ok block) = calls_other address link
ready_other by_application address link (Err fault) = tt

ends_other : (ends : Bool) (link : Option RelationState) → AreOthers (farewells_at ends link)
ends_other true None = tt
ends_other true (Some link) = (tt, tt)
ends_other false link = tt

-- the response to a call that was asked, which may be dropped
later_other : (kept : Bool) (address : List ℕ) (question : Question) (answer : Sent) (calls : List Kept) → IsOther answer
    → AreOthers (later_replies kept address question answer calls)
later_other kept address question answer calls other =
    cond_both (is_zero address) _ _ AreOthers (λ _. tt)
    (λ _. due_each IsOther (is_new (looked_if kept question.header.activity question.header.sequence calls)) (answer ∷ []) (other, tt))

refused_other : (options : DeviceOptions) (address : List ℕ) (reason : Unanswered) (found : Option Question) (calls : List Kept)
    → AreOthers (refused_sent options address reason found calls)
refused_other options address reason None calls = tt
refused_other options address reason (Some question) calls =
    later_other (is_kept options (operation_asked question.request)) address question (refused_reply address reason question) calls tt

-- ---- messages that are

plug_calls_active : (address : List ℕ) (link : Option RelationState) → AreActiveCalls link (plug_calls address link)
plug_calls_active address link = by_ready (plug_ready_of link) refl
  where
    by_ready : (ready : Option PlugReady) → plug_ready_of link ≡ ready → AreActiveCalls link (plug_call_in address ready)
    by_ready None e = tt
    by_ready (Some ready) e = (e, tt)

next_active : (address : List ℕ) (link : Option RelationState) → AreActiveCalls (calling_next link) (next_call_sent address link)
next_active address link =
    due_each (IsActiveCall (calling_next link)) (is_calling link) (plug_calls address (calling_next link)) (plug_calls_active address (calling_next link))

after_active : {A : Type 0} (ended : Result A CallFault) (address : List ℕ) (link : Option RelationState)
    → AreActiveCalls (calling_after ended link) (call_after ended address link)
after_active (Ok it) address link = next_active address link
after_active (Err fault) address link = tt

unit_active : (address : List ℕ) (counter : ℕ) (due : Due) (link : Option RelationState) → AreActiveCalls link (due_frames address counter due link)
unit_active address counter due link =
    all_both (IsActiveCall link) (farewells_in due.farewell) _ (others_active link (farewells_in due.farewell) (farewells_other due.farewell))
    (all_both (IsActiveCall link) (where_due due.is_alarm (alarms_of (flow_of link))) _
    (due_each (IsActiveCall link) due.is_alarm (alarms_of (flow_of link)) (others_active link (alarms_of (flow_of link)) (alarms_other (flow_of link))))
    (all_both (IsActiveCall link) (where_due due.is_low (low_alarms_of (flow_of link))) _
    (due_each (IsActiveCall link) due.is_low (low_alarms_of (flow_of link)) (others_active link (low_alarms_of (flow_of link)) (low_alarms_other (flow_of link))))
    (all_both (IsActiveCall link) (where_due due.is_ready (ready_calls address link)) _
    (due_each (IsActiveCall link) due.is_ready (ready_calls address link) (others_active link (ready_calls address link) (calls_other address link)))
    (all_both (IsActiveCall link) (where_due due.is_plug_ready (plug_calls address link)) _
    (due_each (IsActiveCall link) due.is_plug_ready (plug_calls address link) (plug_calls_active address link))
    (due_each (IsActiveCall link) due.is_cyclic (inputs_of counter (flow_of link)) (others_active link (inputs_of counter (flow_of link)) (inputs_other counter (flow_of link))))))))

-- ---- outcomes

module _ (station : Station) (live : Live) (answers : List BlockError) where
  abbrev IsGood : Handled → Type 0
  IsGood what = AreActiveCalls (finished station.identity live.rest what answers).rest.link (finished station.identity live.rest what answers).sent

  abbrev address_of : List ℕ
  address_of = live.values.running.suite.address

  -- whether the response to a call that was asked is stored
  abbrev is_stored : Question → Bool
  is_stored question = is_kept station.options (operation_asked question.request)

  question_good : (question : Question) (displaced : Option Question) (asked : Option AskedState) → IsGood (handled_question station live question displaced asked)
  question_good question displaced (Some asked) =
      others_active live.rest.link _ (refused_other station.options address_of Busy displaced live.rest.calls)
  question_good question displaced None = others_active live.rest.link _
      (due_each IsOther (is_new (looked_if (is_stored question) question.header.activity question.header.sequence live.rest.calls)) (_ ∷ []) (tt, tt))

  judged_good : (given : Gives) (question : Result Question AnswerFault) → IsGood (handled_judged station live given question)
  judged_good given (Ok question) = others_active _ _ (later_other (is_stored question) address_of question _ live.rest.calls tt)
  judged_good given (Err why) = tt

  ticked_good : IsGood (ticked station live)
  ticked_good =
      let link = updated (passing live.rest.link) live.rest.link in
      let sent = unit_sent live in
      let late = late_in (length sent) (unit_rest live).asked in
      all_both (IsActiveCall link) sent (late_sent station.options address_of late live.rest.calls)
      (unit_active address_of (counter_of (units_after 1 live.rest.units)) (due_of live.rest.link) link)
      (others_active link (late_sent station.options address_of late live.rest.calls) (refused_other station.options address_of Late late live.rest.calls))

  request_good : (asker : Mac) (asked : Service) (request : Asked) → IsGood (handled_request station live asker asked request)
  request_good asker service.Identify request =
      cond_both (matches station.identity live.values.running (alias_in live.rest.peer) request) _ _ IsGood (λ _. (tt, tt)) (λ _. tt)
  request_good asker service.Get request = (tt, tt)
  request_good asker service.Set request =
      let ends = resets (plan_of (is_some live.rest.link) request) answers in
      others_active _ (farewells_at ends live.rest.link ++ SetAnswer asker request answers ∷ [])
      (all_both IsOther (farewells_at ends live.rest.link) (SetAnswer asker request answers ∷ []) (ends_other ends live.rest.link) (tt, tt))

  effect_good : (caller : Caller) (call : Called) (header : IodWriteReq) (effect : Effect) → IsGood (handled_effect station live caller call header effect)
  effect_good caller call header (Stores value) = (tt, tt)
  effect_good caller call header (Keeps parameter) = (tt, tt)

  write_good : (caller : Caller) (call : Called) (writing : Result Writing CallFault) → IsGood (handled_write station live caller call writing)
  write_good caller call (Ok (One write)) = effect_good caller call write.request write.effect
  write_good caller call (Ok (Each header entries)) = (tt, tt)
  write_good caller call (Err fault) = (tt, tt)

  control_good : (caller : Caller) (call : Called) (blocks : List ℕ) → IsGood (handled_prm_end station live caller call blocks)
  control_good caller call blocks =
      let by_application = station.options.ready_by_application in
      let ended = prm_end_of live.rest.link blocks in
      let link = updated (answered (Named (partner_of caller)) ended) (updated (answered (Parameterized by_application) ended) live.rest.link) in
      (tt, others_active link (ready_behind by_application address_of link ended) (ready_other by_application address_of link ended))

  plug_good : (caller : Caller) (call : Called) (blocks : List ℕ) → IsGood (handled_plug_end station live caller call blocks)
  plug_good caller call blocks =
      let ended = plug_end_in blocks live.rest.link in
      let link = updated (answered (Named (partner_of caller)) ended) (plug_ending station.options.ready_by_application blocks live.rest.link) in
      (tt, after_active ended address_of link)

  own_good : (caller : Caller) (call : Called) (blocks : List ℕ) (operation : Operation) → IsGood (handled_own station live caller call blocks operation)
  own_good caller call blocks Connect = (tt, tt)
  own_good caller call blocks Release = (tt, tt)
  own_good caller call blocks Read = (tt, tt)
  own_good caller call blocks Write = write_good caller call (writing_of (uuid_of live.rest.link) live.rest.real blocks)
  own_good caller call blocks Control =
      cond_both (is_plug_control blocks live.rest.link) _ _ IsGood (λ _. plug_good caller call blocks) (λ _. control_good caller call blocks)
  own_good caller call blocks ReadImplicit = (tt, tt)

  asking_good : (caller : Caller) (call : Called) (blocks : List ℕ) (operation : Operation) (asking : Result (Option Asking) CallFault)
      → IsGood (handled_asking station live caller call blocks operation asking)
  asking_good caller call blocks operation (Ok None) = own_good caller call blocks operation
  asking_good caller call blocks operation (Ok (Some asking)) =
      let displaced = displaced_by station.options.asks_own_first asking.0 live.rest.asked in
      question_good asking.0 displaced (asks asking.0 asking.1 (behind_displaced displaced live.rest.asked))
  asking_good caller call blocks operation (Err why) = (tt, tt)

  looked_good : (caller : Caller) (call : Called) (blocks : List ℕ) (operation : Operation) (reported : Looked)
      → IsGood (handled_looked station live caller call blocks operation reported)
  looked_good caller call blocks operation new =
      cond_both (is_repeat call.header.activity call.header.sequence live.rest.asked) _ _ IsGood (λ _. tt)
      (λ _. asking_good caller call blocks operation (asking_of live.rest.real station.named (uuid_of live.rest.link) caller call blocks operation))
  looked_good caller call blocks operation (again frame) = (tt, tt)
  looked_good caller call blocks operation old = tt

  blocks_good : (caller : Caller) (call : Called) (operation : Operation) (blocks : Option (List ℕ)) → IsGood (handled_blocks station live caller call operation blocks)
  blocks_good caller call operation None = (tt, tt)
  blocks_good caller call operation (Some blocks) =
      looked_good caller call blocks operation (looked_if (is_kept station.options operation) call.header.activity call.header.sequence live.rest.calls)

  call_good : (caller : Caller) (call : Called) (operation : Option Operation) → IsGood (handled_call station live caller call operation)
  call_good caller call None = tt
  call_good caller call (Some operation) = blocks_good caller call operation call.blocks

  answer_good : (answer : ReadyAnswer) → IsGood (handled_answer station live answer)
  answer_good to_ready.NotWanted = tt
  answer_good to_ready.Garbled = tt
  answer_good to_ready.Confirmed =
      let real = live.rest.real.modules.items in
      let link = updated (handled_by to_ready.Confirmed) live.rest.link in
      let next = updated (beginning real live.rest.diagnoses link) link in
      due_each (IsActiveCall next) (begin_one real live.rest.diagnoses link) (low_alarms_of (flow_of next))
      (others_active next (low_alarms_of (flow_of next)) (low_alarms_other (flow_of next)))
  answer_good (to_ready.Refused farewell) = (tt, tt)

  plug_answer_good : (response : Answered) (answer : PlugAnswer) → IsGood (handled_plug_answer live response answer)
  plug_answer_good response to_plug.NotWanted = tt
  plug_answer_good response to_plug.Garbled = tt
  plug_answer_good response to_plug.Confirmed = next_active address_of (plug_answering response live.rest.link)
  plug_answer_good response to_plug.Refused = next_active address_of (plug_answering response live.rest.link)

  said_good : (caller : Caller) (said : Said) → IsGood (handled_said station live caller said)
  said_good caller (Calls call) = call_good caller call (operation_of call.header.operation)
  said_good caller (Responds response) =
      cond_both (is_in_exchange live.rest.link) _ _ IsGood (λ _. plug_answer_good response (plug_answer_in response live.rest.link))
      (λ _. answer_good (ready_answer response live.rest.link))
  said_good caller Garbled = tt

  pdu_good : (came : PduFate) (link : Option RelationState) → IsGood (handled_pdu live came link)
  pdu_good (fate.Data taken) link = others_active link (replies_of taken (flow_of link)) (replies_other taken (flow_of link))
  pdu_good fate.Done link = tt
  pdu_good fate.Ignored link = tt
  pdu_good (fate.Aborted status) link = tt

  alarm_good : (source : Mac) (header : Header) (message : ToDevice) → IsGood (handled_alarm live source header message)
  alarm_good source header message =
      cond_both (is_alarm_of source header.destination header.source live.rest.link) _ _ IsGood
      (λ _. pdu_good (heard_by message live.rest.link) (updated (hearing message live.rest.link) live.rest.link)) (λ _. tt)

  low_pdu_good : (came : PduFate) (link : Option RelationState) → IsGood (handled_low_pdu station live came link)
  low_pdu_good (fate.Data taken) link =
      let next = updated (reporting link) link in
      all_both (IsActiveCall next) (low_replies_of taken (flow_of link)) (where_due (report_one link) (low_alarms_of (flow_of next)))
      (others_active next (low_replies_of taken (flow_of link)) (low_replies_other taken (flow_of link)))
      (due_each (IsActiveCall next) (report_one link) (low_alarms_of (flow_of next)) (others_active next (low_alarms_of (flow_of next)) (low_alarms_other (flow_of next))))
  low_pdu_good fate.Done link = tt
  low_pdu_good fate.Ignored link = tt
  low_pdu_good (fate.Aborted status) link = tt

  low_good : (source : Mac) (header : Header) (message : ToDevice) → IsGood (handled_low station live source header message)
  low_good source header message =
      cond_both (is_alarm_of source header.destination header.source live.rest.link) _ _ IsGood
      (λ _. low_pdu_good (heard_low message live.rest.link) (updated (hearing_low message live.rest.link) live.rest.link)) (λ _. tt)

  received_good : (came : Received) (link : Option RelationState) → IsGood (handled_received live came link)
  received_good received.Foreign link = tt
  received_good received.Short link = tt
  received_good received.Stale link = tt
  received_good received.Taken link = tt

  -- ---- the application

  input_good : (given : Option Flow) → IsGood (handled_input live given)
  input_good None = tt
  input_good (Some flow) = tt

  notice_good : (raised : Option Flow) → IsGood (handled_notice live raised)
  notice_good None = tt
  notice_good (Some flow) =
      let link = updated (Exchanged flow) live.rest.link in
      others_active link (alarms_of (flow_of link)) (alarms_other (flow_of link))

  status_good : (slot subslot : ℕ) (is_good : Bool) (statuses : Option (List InputStatus)) → IsGood (kept_status live slot subslot is_good statuses)
  status_good slot subslot is_good None = tt
  status_good slot subslot is_good (Some statuses) = tt

  change_good : (change : Change) (diagnoses : Option (List Diagnosis)) → IsGood (handled_change station live change diagnoses)
  change_good change None = tt
  change_good change (Some diagnoses) =
      let real = live.rest.real.modules.items in
      let link = updated (diagnosing real change diagnoses live.rest.link) live.rest.link in
      due_each (IsActiveCall link) (diagnose_one real change diagnoses live.rest.link) (low_alarms_of (flow_of link))
      (others_active link (low_alarms_of (flow_of link)) (low_alarms_other (flow_of link)))

  modules_good : (made : RealChange) (real : Option (List RealModule)) → IsGood (handled_modules live made real)
  modules_good made None = tt
  modules_good made (Some real) =
      let rest = changed_rest live.rest made real in
      cond_both (is_crowded (affected_by made) live.rest.link) _ _ IsGood (λ _. tt)
      (λ _. all_both (IsActiveCall rest.link) (where_due (is_alarmed_by real made rest.diagnoses live.rest.link) (low_alarms_of (flow_of rest.link)))
      (where_due (is_called_by real made rest.diagnoses live.rest.link) (plug_calls address_of rest.link))
      (due_each (IsActiveCall rest.link) (is_alarmed_by real made rest.diagnoses live.rest.link) (low_alarms_of (flow_of rest.link))
      (others_active rest.link (low_alarms_of (flow_of rest.link)) (low_alarms_other (flow_of rest.link))))
      (due_each (IsActiveCall rest.link) (is_called_by real made rest.diagnoses live.rest.link) (plug_calls address_of rest.link)
      (plug_calls_active address_of rest.link)))

  local_good : (said : Local (ArrayVec ℕ)) → IsGood (handled_local station live said)
  local_good (local.Answer number octets) = judged_good (gives_octets octets.items) (judged number (gives_octets octets.items) live.rest.asked)
  local_good (local.Written number) = judged_good gives_done (judged number gives_done live.rest.asked)
  local_good (local.Refuse number code1 code2) = judged_good (gives_refusal code1 code2) (judged number (gives_refusal code1 code2) live.rest.asked)
  local_good (local.Input slot subslot value) = input_good (given_to slot subslot value.items live.rest.link)
  local_good (local.Alarm slot subslot octets) = notice_good (raised_to live.rest.real.modules.items slot subslot octets.items live.rest.link)
  local_good (local.Status slot subslot is_good) = status_good slot subslot is_good
      (statuses_at live.rest.real.modules.items (record { slot = slot; subslot = subslot; is_good = is_good }) live.rest.statuses)
  local_good (local.Diagnosis slot subslot channel error appears) =
      let change = change_of slot subslot channel error appears in
      cond_both (may_be_diagnosed station live change) _ _ IsGood (λ _. change_good change (changed change live.rest.diagnoses)) (λ _. tt)
  local_good (local.Pull slot subslot) =
      modules_good (pull_of live.rest.real.modules.items slot subslot) (outside slot (pulled slot subslot live.rest.real.modules.items))
  local_good (local.PullModule slot) = modules_good (slot_pull_of live.rest.real.modules.items slot) (outside slot (slot_pulled slot live.rest.real.modules.items))
  local_good (local.Plug slot ident part) = modules_good (plug_of slot ident part) (plugged_with slot ident part live.rest.real.modules.items)
  local_good (local.ReadyAt slot subslot) =
      cond_both (is_readied_in slot subslot live.rest.link) _ _ IsGood (λ _. next_active address_of (readying_at slot subslot live.rest.link)) (λ _. tt)
  local_good local.Ready =
      let link = updated Prepared live.rest.link in
      cond_both (is_preparing (phase_of live.rest.link)) _ _ IsGood (λ _. others_active link (ready_calls address_of link) (calls_other address_of link)) (λ _. tt)
  local_good (local.ProviderState is_running) = tt

  handled_good : (heard : Heard) → IsGood (handled station live heard)
  handled_good (Asks asker request) = request_good asker request.service request
  handled_good (Resolves asker packet) =
      cond_both (is_request packet.operation && is_running live.values.running packet.target.address) _ _ IsGood (λ _. (tt, tt)) (λ _. tt)
  handled_good (Reported caller address said) = cond_both (is_running live.values.running address) _ _ IsGood (λ _. said_good caller said) (λ _. tt)
  handled_good (Alarms source header message) = alarm_good source header message
  handled_good (LowReplies source header message) =
      cond_both (has_sent_low live.rest.link) _ _ IsGood (λ _. low_good source header message) (λ _. alarm_good source header message)
  handled_good (LowConfirms source header message) = cond_both (has_sent_low live.rest.link) _ _ IsGood (λ _. low_good source header message) (λ _. tt)
  handled_good (Cyclic source frame_id body) =
      received_good (received_by source frame_id body live.rest.link) (updated (receiving source frame_id body live.rest.link) live.rest.link)
  handled_good (Met peer) = tt
  handled_good (Applied said) = local_good said
  handled_good Ticks = ticked_good
  handled_good Unreadable = tt
  handled_good Elsewhere = tt

-- Whatever the flash does.
pub step_says : (outcomes : List Outcome) (station : Station) (live : Live) (heard : Heard)
    → AreActiveCalls (heard_step outcomes station live heard).live.rest.link (heard_step outcomes station live heard).sent
unfolding heard_step handled_step
step_says outcomes station live heard = handled_good station live (carried outcomes live.values (items_in (handled station live heard))).answers heard

-- The relation, and its active call.
pub record IsCalledNow (link : Option RelationState) (ready : PlugReady) : Type 0 where
  pub relation : RelationState
  pub is : link ≡ Some relation
  pub call : PlugCall
  pub active : relation.plugs.calls.standing ≡ Some call
  pub same : ready ≡ ready_for relation call

some_is : {A : Type 0} (x y : A) → Some x ≡ Some y → x ≡ y
some_is x y e = cc

pub called_now : (link : Option RelationState) (ready : PlugReady) → plug_ready_of link ≡ Some ready → IsCalledNow link ready
called_now None ready e = absurd cc
called_now (Some relation) ready e = by_standing relation.plugs.calls.standing refl e
  where
    by_standing : (standing : Option PlugCall) → relation.plugs.calls.standing ≡ standing → option_map (ready_for relation) standing ≡ Some ready
        → IsCalledNow (Some relation) ready
    by_standing None f g = absurd cc
    by_standing (Some call) f g = record { relation = relation; is = refl; call = call; active = f; same = sym (some_is (ready_for relation call) ready g) }
