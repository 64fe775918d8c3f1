-- What is real stays, but for a pull or a plug.
use Rattle.std.proofs.lemmas.Bool.{cond_both}
use Rattle.std.proofs.Common.{◌≡◌, ◌&&◌, ℕ, List, Option, Some, None, Result, Ok, Err, refl}
use Rattle.pn_values.specs.declared.mac.Mac.{Mac}
use Rattle.pn_values.specs.declared.set_item.BlockError.{BlockError}
use Rattle.dcp_core.specs.declared.request.Service.{Service}
use Rattle.dcp_core.specs.declared.request.Service.TheVariants as service
use Rattle.dcp_core.specs.Request.{Asked}
use Rattle.dcp_core.specs.Identify.{matches}
use Rattle.rpc_core.specs.Call.{Asked as Called}
use Rattle.rpc_core.specs.Cache.{Reported as Looked, new, again, old}
use Rattle.records.specs.declared.status.operation.Operation.{Operation}
use Rattle.records.specs.declared.status.operation.Operation.TheVariants.{Connect, Release, Read, Write, Control, ReadImplicit}
use Rattle.records.specs.declared.status.call_fault.CallFault.{CallFault}
use Rattle.records.specs.status.Operation.{operation_of}
use Rattle.record_blocks.specs.declared.write_record.IodWriteReq.{IodWriteReq}
use Rattle.records.specs.declared.writes.write.Effect.{Effect}
use Rattle.records.specs.declared.writes.write.Effect.TheVariants.{Stores, Keeps}
use Rattle.records.specs.declared.writes.writing.Writing.{Writing}
use Rattle.records.specs.declared.writes.writing.Writing.TheVariants.{One, Each}
use Rattle.records.specs.writes.Asked.{writing_of}
use Rattle.pn_alarms.specs.declared.device.PduFate.{PduFate}
use Rattle.pn_alarms.specs.declared.device.PduFate.TheVariants as fate
use Rattle.cyclic_data.specs.declared.exchange.received.Received.{Received}
use Rattle.cyclic_data.specs.declared.exchange.received.Received.TheVariants as received
use Rattle.relations.specs.Exchanged.{heard_by, hearing, received_by, receiving}
use Rattle.rpc_core.specs.Response.{Answered}
use Rattle.relations.specs.declared.plugging.PlugAnswer.{PlugAnswer}
use Rattle.relations.specs.declared.plugging.PlugAnswer.TheVariants as to_plug
use Rattle.relations.specs.Plugging.{is_plug_control, plug_answer_in}
use Rattle.relations.specs.declared.hearing.ReadyAnswer.{ReadyAnswer}
use Rattle.relations.specs.declared.hearing.ReadyAnswer.TheVariants as to_ready
use Rattle.relations.specs.RelationState.{RelationState, uuid_of, is_alarm_of, is_in_exchange}
use Rattle.relations.specs.Phases.{updated}
use Rattle.relations.specs.Ready.{answer_of as ready_answer}
use Rattle.frame_codec.specs.declared.udp.Caller.{Caller}
use Rattle.device_core.specs.State.{Station, Live, alias_in}
use Rattle.pn_alarms.specs.declared.pdu.Header.{Header}
use Rattle.pn_alarms.specs.Message.{ToDevice}
use Rattle.relations.specs.Diagnosed.{has_sent_low, heard_low, hearing_low}
use Rattle.device_frames.specs.Heard.{Heard, Ticks, Unreadable, Elsewhere, Asks, Resolves, Reported, Cyclic, Alarms, LowReplies, LowConfirms, Met, Applied, Said, Calls, Responds, Garbled}
use Rattle.device_core.specs.Handled.{Handled, is_running, is_request, handled_request, handled_effect, handled_write, handled_own, handled_asking, handled_judged, handled_local, handled_question, handled_unanswered, handled_looked, handled_blocks, handled_call, handled_answer, handled_said, handled_pdu, handled_received, handled, handled_alarm, handled_low, handled_low_pdu, handled_plug_answer, handled_response}
use Rattle.device_core.specs.Machine.{finished}
use Rattle.device_core.specs.Local.{IsRealBehind, IsRealOf, modules_by}
use Rattle.arrayvec.specs.ArrayVec.{ArrayVec}
use Rattle.asked_records.specs.Answers.{Gives, gives_octets, gives_done, gives_refusal, judged}
use Rattle.asked_records.specs.Asked.{AskedState, asks, behind_displaced, displaced_by, is_repeat}
use Rattle.asked_records.specs.declared.answering.AnswerFault.{AnswerFault}
use Rattle.asked_records.specs.declared.question.Question.{Question}
use Rattle.device_frames.specs.declared.local.Local.{Local}
use Rattle.device_frames.specs.declared.local.Local.TheVariants as local
use Rattle.device_core.specs.Asking.{Asking, asking_of, is_kept, looked_if}
use Rattle.device_core.proofs.Applied.{local_is}

-- What is real after an outcome is what was real before.
abbrev IsRealKept : Station → Live → List BlockError → Handled → Type 0
IsRealKept station live answers what = (finished station.identity live.rest what answers).rest.real ≡ live.rest.real

request_stays : (station : Station) (live : Live) (answers : List BlockError) (asker : Mac) (asked : Service) (request : Asked) → IsRealKept station live answers (handled_request station live asker asked request)
request_stays station live answers asker service.Identify request =
    cond_both (matches station.identity live.values.running (alias_in live.rest.peer) request) _ _ (IsRealKept station live answers) (λ _. refl) (λ _. refl)
request_stays station live answers asker service.Get request = refl
request_stays station live answers asker service.Set request = refl

effect_stays : (station : Station) (live : Live) (answers : List BlockError) (caller : Caller) (call : Called) (header : IodWriteReq) (effect : Effect)
    → IsRealKept station live answers (handled_effect station live caller call header effect)
effect_stays station live answers caller call header (Stores value) = refl
effect_stays station live answers caller call header (Keeps parameter) = refl

write_stays : (station : Station) (live : Live) (answers : List BlockError) (caller : Caller) (call : Called) (writing : Result Writing CallFault)
    → IsRealKept station live answers (handled_write station live caller call writing)
write_stays station live answers caller call (Ok (One write)) = effect_stays station live answers caller call write.request write.effect
write_stays station live answers caller call (Ok (Each header entries)) = refl
write_stays station live answers caller call (Err fault) = refl

own_stays : (station : Station) (live : Live) (answers : List BlockError) (caller : Caller) (call : Called) (blocks : List ℕ) (operation : Operation)
    → IsRealKept station live answers (handled_own station live caller call blocks operation)
own_stays station live answers caller call blocks Connect = refl
own_stays station live answers caller call blocks Release = refl
own_stays station live answers caller call blocks Read = refl
own_stays station live answers caller call blocks Write = write_stays station live answers caller call (writing_of (uuid_of live.rest.link) live.rest.real blocks)
own_stays station live answers caller call blocks Control =
    cond_both (is_plug_control blocks live.rest.link) _ _ (IsRealKept station live answers) (λ _. refl) (λ _. refl)
own_stays station live answers caller call blocks ReadImplicit = refl

question_stays : (station : Station) (live : Live) (answers : List BlockError) (question : Question) (displaced : Option Question) (asked : Option AskedState)
    → IsRealKept station live answers (handled_question station live question displaced asked)
question_stays station live answers question displaced (Some asked) = refl
question_stays station live answers question displaced None = refl

asking_stays : (station : Station) (live : Live) (answers : List BlockError) (caller : Caller) (call : Called) (blocks : List ℕ) (operation : Operation)
    (asking : Result (Option Asking) CallFault) → IsRealKept station live answers (handled_asking station live caller call blocks operation asking)
asking_stays station live answers caller call blocks operation (Ok None) = own_stays station live answers caller call blocks operation
asking_stays station live answers caller call blocks operation (Ok (Some asking)) =
    let displaced = displaced_by station.options.asks_own_first asking.0 live.rest.asked in
    question_stays station live answers asking.0 displaced (asks asking.0 asking.1 (behind_displaced displaced live.rest.asked))
asking_stays station live answers caller call blocks operation (Err fault) = refl

unanswered_stays : (station : Station) (live : Live) (answers : List BlockError) (caller : Caller) (call : Called) (blocks : List ℕ) (operation : Operation)
    → IsRealKept station live answers (handled_unanswered station live caller call blocks operation)
unanswered_stays station live answers caller call blocks operation =
    cond_both (is_repeat call.header.activity call.header.sequence live.rest.asked) _ _ (IsRealKept station live answers) (λ _. refl)
    (λ _. asking_stays station live answers caller call blocks operation (asking_of live.rest.real station.named (uuid_of live.rest.link) caller call blocks operation))

looked_stays : (station : Station) (live : Live) (answers : List BlockError) (caller : Caller) (call : Called) (blocks : List ℕ) (operation : Operation) (reported : Looked)
    → IsRealKept station live answers (handled_looked station live caller call blocks operation reported)
looked_stays station live answers caller call blocks operation new = unanswered_stays station live answers caller call blocks operation
looked_stays station live answers caller call blocks operation (again frame) = refl
looked_stays station live answers caller call blocks operation old = refl

blocks_stays : (station : Station) (live : Live) (answers : List BlockError) (caller : Caller) (call : Called) (operation : Operation) (blocks : Option (List ℕ))
    → IsRealKept station live answers (handled_blocks station live caller call operation blocks)
blocks_stays station live answers caller call operation None = refl
blocks_stays station live answers caller call operation (Some blocks) =
    looked_stays station live answers caller call blocks operation (looked_if (is_kept station.options operation) call.header.activity call.header.sequence live.rest.calls)

call_stays : (station : Station) (live : Live) (answers : List BlockError) (caller : Caller) (call : Called) (operation : Option Operation) → IsRealKept station live answers (handled_call station live caller call operation)
call_stays station live answers caller call None = refl
call_stays station live answers caller call (Some operation) = blocks_stays station live answers caller call operation call.blocks

answer_stays : (station : Station) (live : Live) (answers : List BlockError) (answer : ReadyAnswer) → IsRealKept station live answers (handled_answer station live answer)
answer_stays station live answers to_ready.NotWanted = refl
answer_stays station live answers to_ready.Garbled = refl
answer_stays station live answers to_ready.Confirmed = refl
answer_stays station live answers (to_ready.Refused farewell) = refl

plug_answer_stays : (station : Station) (live : Live) (answers : List BlockError) (response : Answered) (answer : PlugAnswer)
    → IsRealKept station live answers (handled_plug_answer live response answer)
plug_answer_stays station live answers response to_plug.NotWanted = refl
plug_answer_stays station live answers response to_plug.Garbled = refl
plug_answer_stays station live answers response to_plug.Confirmed = refl
plug_answer_stays station live answers response to_plug.Refused = refl

response_stays : (station : Station) (live : Live) (answers : List BlockError) (response : Answered) → IsRealKept station live answers (handled_response station live response)
response_stays station live answers response =
    cond_both (is_in_exchange live.rest.link) _ _ (IsRealKept station live answers)
    (λ _. plug_answer_stays station live answers response (plug_answer_in response live.rest.link))
    (λ _. answer_stays station live answers (ready_answer response live.rest.link))

said_stays : (station : Station) (live : Live) (answers : List BlockError) (caller : Caller) (said : Said) → IsRealKept station live answers (handled_said station live caller said)
said_stays station live answers caller (Calls call) = call_stays station live answers caller call (operation_of call.header.operation)
said_stays station live answers caller (Responds response) = response_stays station live answers response
said_stays station live answers caller Garbled = refl

pdu_stays : (station : Station) (live : Live) (answers : List BlockError) (came : PduFate) (link : Option RelationState) → IsRealKept station live answers (handled_pdu live came link)
pdu_stays station live answers (fate.Data taken) link = refl
pdu_stays station live answers fate.Done link = refl
pdu_stays station live answers fate.Ignored link = refl
pdu_stays station live answers (fate.Aborted status) link = refl

alarm_stays : (station : Station) (live : Live) (answers : List BlockError) (source : Mac) (header : Header) (message : ToDevice) → IsRealKept station live answers (handled_alarm live source header message)
alarm_stays station live answers source header message =
    cond_both (is_alarm_of source header.destination header.source live.rest.link) _ _ (IsRealKept station live answers)
    (λ _. pdu_stays station live answers (heard_by message live.rest.link) (updated (hearing message live.rest.link) live.rest.link)) (λ _. refl)

low_pdu_stays : (station : Station) (live : Live) (answers : List BlockError) (came : PduFate) (link : Option RelationState) → IsRealKept station live answers (handled_low_pdu station live came link)
low_pdu_stays station live answers (fate.Data taken) link = refl
low_pdu_stays station live answers fate.Done link = refl
low_pdu_stays station live answers fate.Ignored link = refl
low_pdu_stays station live answers (fate.Aborted status) link = refl

low_stays : (station : Station) (live : Live) (answers : List BlockError) (source : Mac) (header : Header) (message : ToDevice) → IsRealKept station live answers (handled_low station live source header message)
low_stays station live answers source header message =
    cond_both (is_alarm_of source header.destination header.source live.rest.link) _ _ (IsRealKept station live answers)
    (λ _. low_pdu_stays station live answers (heard_low message live.rest.link) (updated (hearing_low message live.rest.link) live.rest.link)) (λ _. refl)

received_stays : (station : Station) (live : Live) (answers : List BlockError) (came : Received) (link : Option RelationState) → IsRealKept station live answers (handled_received live came link)
received_stays station live answers received.Foreign link = refl
received_stays station live answers received.Short link = refl
received_stays station live answers received.Stale link = refl
received_stays station live answers received.Taken link = refl

judged_stays : (station : Station) (live : Live) (answers : List BlockError) (given : Gives) (judged : Result Question AnswerFault)
    → IsRealKept station live answers (handled_judged station live given judged)
judged_stays station live answers given (Ok question) = refl
judged_stays station live answers given (Err fault) = refl

local_stays : (station : Station) (live : Live) (answers : List BlockError) (said : Local (ArrayVec ℕ))
    → IsRealOf (modules_by said live.rest.real.modules.items) live.rest.real (finished station.identity live.rest (handled_local station live said) answers).rest.real
local_stays station live answers (local.Answer number octets) =
    judged_stays station live answers (gives_octets octets.items) (judged number (gives_octets octets.items) live.rest.asked)
local_stays station live answers (local.Written number) = judged_stays station live answers gives_done (judged number gives_done live.rest.asked)
local_stays station live answers (local.Refuse number code1 code2) =
    judged_stays station live answers (gives_refusal code1 code2) (judged number (gives_refusal code1 code2) live.rest.asked)
local_stays station live answers (local.Input slot subslot value) = (local_is station live (local.Input slot subslot value) refl).real answers
local_stays station live answers (local.Alarm slot subslot octets) = (local_is station live (local.Alarm slot subslot octets) refl).real answers
local_stays station live answers (local.Status slot subslot is_good) = (local_is station live (local.Status slot subslot is_good) refl).real answers
local_stays station live answers (local.Diagnosis slot subslot channel error appears) = (local_is station live (local.Diagnosis slot subslot channel error appears) refl).real answers
local_stays station live answers (local.Pull slot subslot) = (local_is station live (local.Pull slot subslot) refl).real answers
local_stays station live answers (local.PullModule slot) = (local_is station live (local.PullModule slot) refl).real answers
local_stays station live answers (local.Plug slot ident part) = (local_is station live (local.Plug slot ident part) refl).real answers
local_stays station live answers (local.ReadyAt slot subslot) = (local_is station live (local.ReadyAt slot subslot) refl).real answers
local_stays station live answers local.Ready = (local_is station live local.Ready refl).real answers
local_stays station live answers (local.ProviderState is_running) = (local_is station live (local.ProviderState is_running) refl).real answers

pub real_is_behind : (station : Station) (live : Live) (answers : List BlockError) (heard : Heard) → IsRealBehind heard live.rest.real (finished station.identity live.rest (handled station live heard) answers).rest.real
real_is_behind station live answers (Asks asker request) = request_stays station live answers asker request.service request
real_is_behind station live answers (Resolves asker packet) =
    cond_both (is_request packet.operation && is_running live.values.running packet.target.address) _ _ (IsRealKept station live answers) (λ _. refl) (λ _. refl)
real_is_behind station live answers (Reported caller address said) =
    cond_both (is_running live.values.running address) _ _ (IsRealKept station live answers) (λ _. said_stays station live answers caller said) (λ _. refl)
real_is_behind station live answers (Alarms source header message) = alarm_stays station live answers source header message
real_is_behind station live answers (LowReplies source header message) =
    cond_both (has_sent_low live.rest.link) _ _ (IsRealKept station live answers) (λ _. low_stays station live answers source header message)
    (λ _. alarm_stays station live answers source header message)
real_is_behind station live answers (LowConfirms source header message) =
    cond_both (has_sent_low live.rest.link) _ _ (IsRealKept station live answers) (λ _. low_stays station live answers source header message) (λ _. refl)
real_is_behind station live answers (Cyclic source frame_id body) =
    received_stays station live answers (received_by source frame_id body live.rest.link) (updated (receiving source frame_id body live.rest.link) live.rest.link)
real_is_behind station live answers (Met peer) = refl
real_is_behind station live answers (Applied said) = local_stays station live answers said
real_is_behind station live answers Ticks = refl
real_is_behind station live answers Unreadable = refl
real_is_behind station live answers Elsewhere = refl
