-- What is asked after an event was asked before it, or it is the call that came.
use Rattle.std.proofs.lemmas.Bool.{cond_both}
use Rattle.std.proofs.Common.{◌≡◌, ◌&&◌, ◌+◌, ◌==◌, ℕ, Bool, List, Option, Some, None, Result, Ok, Err, is_some, length, refl, ap, subst}
use Rattle.std.specs.Prelude.{unwrap_or}
use Rattle.pn_values.specs.declared.mac.Mac.{Mac}
use Rattle.pn_values.specs.declared.set_item.BlockError.{BlockError}
use Rattle.dcp_core.specs.declared.request.Service.{Service}
use Rattle.dcp_core.specs.declared.request.Service.TheVariants as service
use Rattle.dcp_core.specs.Request.{Asked}
use Rattle.dcp_core.specs.Identify.{matches}
use Rattle.dcp_core.specs.Set.{plan_of}
use Rattle.rpc_core.specs.Call.{Asked as Called}
use Rattle.rpc_core.specs.Cache.{Reported as Looked, new, again, old}
use Rattle.records.specs.declared.status.operation.Operation.{Operation}
use Rattle.records.specs.declared.status.operation.Operation.TheVariants.{Connect, Release, Read, Write, Control, ReadImplicit}
use Rattle.records.specs.declared.status.call_fault.CallFault.{CallFault}
use Rattle.records.specs.status.Operation.{operation_of}
use Rattle.record_blocks.specs.declared.write_record.IodWriteReq.{IodWriteReq}
use Rattle.records.specs.declared.writes.write.Effect.{Effect}
use Rattle.records.specs.declared.writes.write.Effect.TheVariants.{Stores, Keeps}
use Rattle.records.specs.declared.writes.writing.Writing.{Writing}
use Rattle.records.specs.declared.writes.writing.Writing.TheVariants.{One, Each}
use Rattle.records.specs.writes.Asked.{writing_of}
use Rattle.pn_alarms.specs.declared.device.PduFate.{PduFate}
use Rattle.pn_alarms.specs.declared.device.PduFate.TheVariants as fate
use Rattle.cyclic_data.specs.declared.exchange.received.Received.{Received}
use Rattle.cyclic_data.specs.declared.exchange.received.Received.TheVariants as received
use Rattle.relations.specs.Exchanged.{given_to, heard_by, hearing, raised_to, received_by, receiving}
use Rattle.relations.specs.Calls.{release_answer}
use Rattle.relations.specs.Timers.{due_of}
use Rattle.relations.specs.exchange.Flow.{Flow}
use Rattle.relations.specs.declared.exchange.statuses.InputStatus.{InputStatus}
use Rattle.relations.specs.exchange.Statuses.{statuses_at}
use Rattle.module_diff.specs.declared.changes.Affected.{Affected}
use Rattle.module_diff.specs.declared.changes.RealChange.{RealChange}
use Rattle.module_diff.specs.Changes.{affected_by, plugged_with, pulled, slot_pulled}
use Rattle.pn_values.specs.declared.real.RealModule.{RealModule}
use Rattle.diagnosis.specs.Existing.{changed}
use Rattle.diagnosis.specs.declared.diagnosis.Change.{Change}
use Rattle.diagnosis.specs.declared.diagnosis.Diagnosis.{Diagnosis}
use Rattle.rpc_core.specs.Response.{Answered}
use Rattle.relations.specs.declared.plugging.PlugAnswer.{PlugAnswer}
use Rattle.relations.specs.declared.plugging.PlugAnswer.TheVariants as to_plug
use Rattle.relations.specs.Plugging.{is_crowded, is_plug_control, is_readied_in, plug_answer_in}
use Rattle.relations.specs.declared.hearing.ReadyAnswer.{ReadyAnswer}
use Rattle.relations.specs.declared.hearing.ReadyAnswer.TheVariants as to_ready
use Rattle.relations.specs.RelationState.{RelationState, uuid_of, is_alarm_of, is_in_exchange, is_preparing, phase_of}
use Rattle.relations.specs.Phases.{updated}
use Rattle.relations.specs.Ready.{answer_of as ready_answer}
use Rattle.frame_codec.specs.declared.udp.Caller.{Caller}
use Rattle.device_core.specs.State.{Station, Live, alias_in}
use Rattle.pn_alarms.specs.declared.pdu.Header.{Header}
use Rattle.pn_alarms.specs.Message.{ToDevice}
use Rattle.relations.specs.Diagnosed.{has_sent_low, heard_low, hearing_low}
use Rattle.device_frames.specs.Heard.{Heard, Ticks, Unreadable, Elsewhere, Asks, Resolves, Reported, Cyclic, Alarms, LowReplies, LowConfirms, Met, Applied, Said, Calls, Responds, Garbled}
use Rattle.device_core.specs.Handled.{Handled, is_running, is_request, handled_request, handled_effect, handled_write, handled_own, handled_asking, handled_judged, handled_local, handled_question, handled_unanswered, handled_looked, handled_blocks, handled_call, handled_answer, handled_said, handled_pdu, handled_received, handled, handled_alarm, handled_low, handled_low_pdu, handled_plug_answer, change_of, handled_change, handled_input, handled_modules, handled_notice, kept_status, may_be_diagnosed, unit_rest, unit_sent}
use Rattle.device_core.specs.Machine.{farewell_at, finished, resets}
use Rattle.device_core.specs.Modules.{outside, plug_of, pull_of, slot_pull_of}
use Rattle.arrayvec.specs.ArrayVec.{ArrayVec}
use Rattle.asked_records.specs.Answers.{Gives, gives_octets, gives_done, gives_refusal, judged}
use Rattle.asked_records.specs.Asked.{AskedState, Standing, asks, asks_beside, behind_displaced, displaced_by, dropped_at, is_affected, is_over, is_repeat, later_with, limit, question_in, settled}
use Rattle.asked_records.specs.Questions.{operation_of as operation_asked}
use Rattle.asked_records.specs.declared.answering.AnswerFault.{AnswerFault}
use Rattle.asked_records.specs.declared.question.Question.{Question}
use Rattle.device_frames.specs.declared.local.Local.{Local}
use Rattle.device_frames.specs.declared.local.Local.TheVariants as local
use Rattle.device_core.specs.Asking.{Asking, asked_later, asking_of, ended_by, is_full, is_kept, left_asked, looked_if, released_by}
use Rattle.device_core.proofs.Storing.{IsAskedOf, asked_of, left_was_asked}

-- Any call that is asked is of this kind.
abbrev pub AreAsked : (Question → Type 0) → AskedState → Type 0
AreAsked Q asked = (question : Question) → question_in asked ≡ Some question → Q question

-- A call that comes is of this kind, if it is asked.
abbrev pub IsAskable : (Question → Type 0) → Said → Type 0
IsAskable Q (Calls call) = (which : Operation) → operation_of call.header.operation ≡ Some which → (question : Question) → question.header ≡ call.header
    → operation_asked question.request ≡ which → Q question
IsAskable Q other = Unit {0}

abbrev pub IsHeardAskable : (Question → Type 0) → Heard → Type 0
IsHeardAskable Q (Reported caller address said) = IsAskable Q said
IsHeardAskable Q other = Unit {0}

module _ (Q : Question → Type 0) where
  -- What remains of it after the end of a relation, by a pull, by a unit of time, or by an answer.
  after_end : (ended : Option (List ℕ)) (asked : AskedState) → AreAsked Q asked → AreAsked Q (left_asked ended asked)
  after_end ended asked were = λ question is. were question (left_was_asked ended asked question is)

  after_pull : (affected : Affected) (asked : AskedState) → AreAsked Q asked → AreAsked Q (dropped_at affected asked)
  after_pull affected asked were =
      cond_both (is_affected affected asked) _ _ (AreAsked Q) (λ _. λ question none. cc) (λ _. were)

  after_answer : (asked : AskedState) → AreAsked Q (settled asked)
  after_answer asked = λ question none. cc

  after_unit : (standing : Option Standing) (last : ℕ) → AreAsked Q (record { standing = standing; last = last }) → AreAsked Q (record { standing = later_with standing; last = last })
  after_unit None last were = were
  after_unit (Some standing) last were =
      cond_both (standing.waited + 1 == limit) _ _ (λ later. AreAsked Q (record { standing = later; last = last }))
      (λ _. λ question none. cc) (λ _. λ question is. were question is)

  after_units : (count : ℕ) (asked : AskedState) → AreAsked Q asked → AreAsked Q (asked_later count asked)
  after_units count asked were =
      cond_both (is_over asked && is_full count) _ _ (AreAsked Q) (λ _. were) (λ _. after_unit asked.standing asked.last were)

  -- A call that is asked now.
  after_asking : (question : Question) (octets : List ℕ) (state : AskedState) (standing : Option Standing) (asked : AskedState) → Q question
      → asks_beside question octets state standing ≡ Some asked → AreAsked Q asked
  after_asking question octets state None asked is_one is =
      subst (λ (one : Option AskedState). AreAsked Q (unwrap_or one asked)) is (λ other same. subst Q (some_of question other same) is_one)
    where
      some_of : (one other : Question) → ◌≡◌ {A = Option Question} (Some one) (Some other) → one ≡ other
      some_of one other same = ap (λ (found : Option Question). unwrap_or found one) same
  after_asking question octets state (Some standing) asked is_one is = cc

  module _ (station : Station) (live : Live) (answers : List BlockError) (were : AreAsked Q live.rest.asked) where
    abbrev Stays : Handled → Type 0
    Stays what = AreAsked Q (finished station.identity live.rest what answers).rest.asked

    request_stays : (asker : Mac) (asked : Service) (request : Asked) → Stays (handled_request station live asker asked request)
    request_stays asker service.Identify request =
        cond_both (matches station.identity live.values.running (alias_in live.rest.peer) request) _ _ Stays (λ _. were) (λ _. were)
    request_stays asker service.Get request = were
    request_stays asker service.Set request =
        after_end (ended_by (farewell_at (resets (plan_of (is_some live.rest.link) request) answers) live.rest.link)) live.rest.asked were

    effect_stays : (caller : Caller) (call : Called) (header : IodWriteReq) (effect : Effect) → Stays (handled_effect station live caller call header effect)
    effect_stays caller call header (Stores value) = were
    effect_stays caller call header (Keeps parameter) = were

    write_stays : (caller : Caller) (call : Called) (writing : Result Writing CallFault) → Stays (handled_write station live caller call writing)
    write_stays caller call (Ok (One write)) = effect_stays caller call write.request write.effect
    write_stays caller call (Ok (Each header entries)) = were
    write_stays caller call (Err fault) = were

    own_stays : (caller : Caller) (call : Called) (blocks : List ℕ) (operation : Operation) → Stays (handled_own station live caller call blocks operation)
    own_stays caller call blocks Connect = were
    own_stays caller call blocks Release = after_end (released_by (release_answer live.rest.link blocks) (uuid_of live.rest.link)) live.rest.asked were
    own_stays caller call blocks Read = were
    own_stays caller call blocks Write = write_stays caller call (writing_of (uuid_of live.rest.link) live.rest.real blocks)
    own_stays caller call blocks Control = cond_both (is_plug_control blocks live.rest.link) _ _ Stays (λ _. were) (λ _. were)
    own_stays caller call blocks ReadImplicit = were

    question_stays : (question : Question) (octets : List ℕ) (state : AskedState) (displaced : Option Question) (asked : Option AskedState) → Q question
        → asks question octets state ≡ asked → Stays (handled_question station live question displaced asked)
    question_stays question octets state displaced (Some asked) is_one is = after_asking question octets state state.standing asked is_one is
    question_stays question octets state displaced None is_one is = were

    asking_stays : (caller : Caller) (call : Called) (blocks : List ℕ) (operation : Operation) (asking : Result (Option Asking) CallFault)
        → IsAskedOf call operation asking → ((question : Question) → question.header ≡ call.header → operation_asked question.request ≡ operation → Q question)
        → Stays (handled_asking station live caller call blocks operation asking)
    asking_stays caller call blocks operation (Ok None) asks_it askable = own_stays caller call blocks operation
    asking_stays caller call blocks operation (Ok (Some asking)) asks_it askable =
        let displaced = displaced_by station.options.asks_own_first asking.0 live.rest.asked in
        question_stays asking.0 asking.1 (behind_displaced displaced live.rest.asked) displaced _ (askable asking.0 asks_it.0 asks_it.1) refl
    asking_stays caller call blocks operation (Err fault) asks_it askable = were

    unanswered_stays : (caller : Caller) (call : Called) (blocks : List ℕ) (operation : Operation)
        → ((question : Question) → question.header ≡ call.header → operation_asked question.request ≡ operation → Q question)
        → Stays (handled_unanswered station live caller call blocks operation)
    unanswered_stays caller call blocks operation askable =
        cond_both (is_repeat call.header.activity call.header.sequence live.rest.asked) _ _ Stays (λ _. were)
        (λ _. asking_stays caller call blocks operation (asking_of live.rest.real station.named (uuid_of live.rest.link) caller call blocks operation)
        (asked_of live.rest.real station.named (uuid_of live.rest.link) caller call blocks operation) askable)

    looked_stays : (caller : Caller) (call : Called) (blocks : List ℕ) (operation : Operation) (reported : Looked)
        → ((question : Question) → question.header ≡ call.header → operation_asked question.request ≡ operation → Q question)
        → Stays (handled_looked station live caller call blocks operation reported)
    looked_stays caller call blocks operation new askable = unanswered_stays caller call blocks operation askable
    looked_stays caller call blocks operation (again frame) askable = were
    looked_stays caller call blocks operation old askable = were

    blocks_stays : (caller : Caller) (call : Called) (operation : Operation) (blocks : Option (List ℕ))
        → ((question : Question) → question.header ≡ call.header → operation_asked question.request ≡ operation → Q question)
        → Stays (handled_blocks station live caller call operation blocks)
    blocks_stays caller call operation None askable = were
    blocks_stays caller call operation (Some blocks) askable =
        looked_stays caller call blocks operation (looked_if (is_kept station.options operation) call.header.activity call.header.sequence live.rest.calls) askable

    call_stays : (caller : Caller) (call : Called) (operation : Option Operation)
        → ((which : Operation) → operation ≡ Some which → (question : Question) → question.header ≡ call.header → operation_asked question.request ≡ which → Q question)
        → Stays (handled_call station live caller call operation)
    call_stays caller call None askable = were
    call_stays caller call (Some operation) askable = blocks_stays caller call operation call.blocks (askable operation refl)

    answer_stays : (answer : ReadyAnswer) → Stays (handled_answer station live answer)
    answer_stays to_ready.NotWanted = were
    answer_stays to_ready.Garbled = were
    answer_stays to_ready.Confirmed = were
    answer_stays (to_ready.Refused farewell) = after_end (Some farewell.uuid) live.rest.asked were

    plug_answer_stays : (response : Answered) (answer : PlugAnswer) → Stays (handled_plug_answer live response answer)
    plug_answer_stays response to_plug.NotWanted = were
    plug_answer_stays response to_plug.Garbled = were
    plug_answer_stays response to_plug.Confirmed = were
    plug_answer_stays response to_plug.Refused = were

    said_stays : (caller : Caller) (said : Said) → IsAskable Q said → Stays (handled_said station live caller said)
    said_stays caller (Calls call) askable = call_stays caller call (operation_of call.header.operation) askable
    said_stays caller (Responds response) askable =
        cond_both (is_in_exchange live.rest.link) _ _ Stays
        (λ _. plug_answer_stays response (plug_answer_in response live.rest.link)) (λ _. answer_stays (ready_answer response live.rest.link))
    said_stays caller Garbled askable = were

    pdu_stays : (came : PduFate) (link : Option RelationState) → Stays (handled_pdu live came link)
    pdu_stays (fate.Data taken) link = were
    pdu_stays fate.Done link = were
    pdu_stays fate.Ignored link = were
    pdu_stays (fate.Aborted status) link = after_end (uuid_of live.rest.link) live.rest.asked were

    alarm_stays : (source : Mac) (header : Header) (message : ToDevice) → Stays (handled_alarm live source header message)
    alarm_stays source header message =
        cond_both (is_alarm_of source header.destination header.source live.rest.link) _ _ Stays
        (λ _. pdu_stays (heard_by message live.rest.link) (updated (hearing message live.rest.link) live.rest.link)) (λ _. were)

    low_pdu_stays : (came : PduFate) (link : Option RelationState) → Stays (handled_low_pdu station live came link)
    low_pdu_stays (fate.Data taken) link = were
    low_pdu_stays fate.Done link = were
    low_pdu_stays fate.Ignored link = were
    low_pdu_stays (fate.Aborted status) link = were

    low_stays : (source : Mac) (header : Header) (message : ToDevice) → Stays (handled_low station live source header message)
    low_stays source header message =
        cond_both (is_alarm_of source header.destination header.source live.rest.link) _ _ Stays
        (λ _. low_pdu_stays (heard_low message live.rest.link) (updated (hearing_low message live.rest.link) live.rest.link)) (λ _. were)

    received_stays : (came : Received) (link : Option RelationState) → Stays (handled_received live came link)
    received_stays received.Foreign link = were
    received_stays received.Short link = were
    received_stays received.Stale link = were
    received_stays received.Taken link = were

    input_stays : (given : Option Flow) → Stays (handled_input live given)
    input_stays (Some flow) = were
    input_stays None = were

    notice_stays : (raised : Option Flow) → Stays (handled_notice live raised)
    notice_stays (Some flow) = were
    notice_stays None = were

    status_stays : (slot subslot : ℕ) (is_good : Bool) (statuses : Option (List InputStatus)) → Stays (kept_status live slot subslot is_good statuses)
    status_stays slot subslot is_good (Some statuses) = were
    status_stays slot subslot is_good None = were

    change_stays : (change : Change) (diagnoses : Option (List Diagnosis)) → Stays (handled_change station live change diagnoses)
    change_stays change (Some diagnoses) = were
    change_stays change None = were

    modules_stay : (made : RealChange) (real : Option (List RealModule)) → Stays (handled_modules live made real)
    modules_stay made None = were
    modules_stay made (Some real) =
        cond_both (is_crowded (affected_by made) live.rest.link) _ _ Stays (λ _. were) (λ _. after_pull (affected_by made) live.rest.asked were)

    judged_stays : (given : Gives) (judged : Result Question AnswerFault) → Stays (handled_judged station live given judged)
    judged_stays given (Ok question) = after_answer live.rest.asked
    judged_stays given (Err fault) = were

    local_stays : (said : Local (ArrayVec ℕ)) → Stays (handled_local station live said)
    local_stays (local.Input slot subslot value) = input_stays (given_to slot subslot value.items live.rest.link)
    local_stays (local.Alarm slot subslot octets) = notice_stays (raised_to live.rest.real.modules.items slot subslot octets.items live.rest.link)
    local_stays (local.Status slot subslot is_good) =
        status_stays slot subslot is_good
        (statuses_at live.rest.real.modules.items (record { slot = slot; subslot = subslot; is_good = is_good }) live.rest.statuses)
    local_stays (local.Diagnosis slot subslot channel error appears) =
        let change = change_of slot subslot channel error appears in
        cond_both (may_be_diagnosed station live change) _ _ Stays (λ _. change_stays change (changed change live.rest.diagnoses)) (λ _. were)
    local_stays (local.Pull slot subslot) =
        let real = live.rest.real.modules.items in modules_stay (pull_of real slot subslot) (outside slot (pulled slot subslot real))
    local_stays (local.PullModule slot) =
        let real = live.rest.real.modules.items in modules_stay (slot_pull_of real slot) (outside slot (slot_pulled slot real))
    local_stays (local.Plug slot ident part) = modules_stay (plug_of slot ident part) (plugged_with slot ident part live.rest.real.modules.items)
    local_stays (local.ReadyAt slot subslot) = cond_both (is_readied_in slot subslot live.rest.link) _ _ Stays (λ _. were) (λ _. were)
    local_stays local.Ready = cond_both (is_preparing (phase_of live.rest.link)) _ _ Stays (λ _. were) (λ _. were)
    local_stays (local.ProviderState is_running) = were
    local_stays (local.Answer number octets) = judged_stays (gives_octets octets.items) (judged number (gives_octets octets.items) live.rest.asked)
    local_stays (local.Written number) = judged_stays gives_done (judged number gives_done live.rest.asked)
    local_stays (local.Refuse number code1 code2) = judged_stays (gives_refusal code1 code2) (judged number (gives_refusal code1 code2) live.rest.asked)

    pub handled_stays : (heard : Heard) → IsHeardAskable Q heard → Stays (handled station live heard)
    handled_stays (Asks asker request) askable = request_stays asker request.service request
    handled_stays (Resolves asker packet) askable =
        cond_both (is_request packet.operation && is_running live.values.running packet.target.address) _ _ Stays (λ _. were) (λ _. were)
    handled_stays (Reported caller address said) askable =
        cond_both (is_running live.values.running address) _ _ Stays (λ _. said_stays caller said askable) (λ _. were)
    handled_stays (Alarms source header message) askable = alarm_stays source header message
    handled_stays (LowReplies source header message) askable =
        cond_both (has_sent_low live.rest.link) _ _ Stays (λ _. low_stays source header message) (λ _. alarm_stays source header message)
    handled_stays (LowConfirms source header message) askable =
        cond_both (has_sent_low live.rest.link) _ _ Stays (λ _. low_stays source header message) (λ _. were)
    handled_stays (Cyclic source frame_id body) askable =
        received_stays (received_by source frame_id body live.rest.link) (updated (receiving source frame_id body live.rest.link) live.rest.link)
    handled_stays (Met peer) askable = were
    handled_stays (Applied said) askable = local_stays said
    handled_stays Ticks askable =
        after_units (length (unit_sent live)) (unit_rest live).asked (after_end (ended_by (due_of live.rest.link).farewell) live.rest.asked were)
    handled_stays Unreadable askable = were
    handled_stays Elsewhere askable = were
