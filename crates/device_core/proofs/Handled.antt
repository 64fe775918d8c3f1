-- An outcome that asks nothing of the settings.
use Rattle.std.proofs.lemmas.Bool.{cond_both}
use Rattle.relations.specs.declared.exchange.statuses.InputStatus.{InputStatus}
use Rattle.std.proofs.Common.{◌≡◌, ◌&&◌, ℕ, Bool, false, not, is_some, List, [], Option, Some, None, Result, Ok, Err, refl}
use Rattle.pn_values.specs.declared.mac.Mac.{Mac}
use Rattle.frame_codec.specs.declared.arp.Arp.{Arp}
use Rattle.pn_alarms.specs.declared.pdu.Header.{Header}
use Rattle.pn_alarms.specs.Message.{ToDevice}
use Rattle.pn_alarms.specs.declared.device.PduFate.{PduFate}
use Rattle.pn_alarms.specs.declared.device.PduFate.TheVariants as fate
use Rattle.cyclic_data.specs.declared.exchange.received.Received.{Received}
use Rattle.cyclic_data.specs.declared.exchange.received.Received.TheVariants as received
use Rattle.relations.specs.exchange.Flow.{Flow}
use Rattle.relations.specs.RelationState.{RelationState, is_alarm_of, is_in_exchange, is_preparing, phase_of}
use Rattle.relations.specs.Phases.{updated}
use Rattle.pn_values.specs.declared.real.RealModule.{RealModule}
use Rattle.module_diff.specs.declared.changes.RealChange.{RealChange}
use Rattle.module_diff.specs.Changes.{affected_by, plugged_with, pulled, slot_pulled}
use Rattle.module_diff.specs.Plugged.{submodule_ident}
use Rattle.rpc_core.specs.Response.{Answered}
use Rattle.rpc_core.specs.Call.{Asked as Called}
use Rattle.device_frames.specs.declared.note.Note.TheVariants.{Done}
use Rattle.frame_codec.specs.declared.udp.Caller.{Caller}
use Rattle.records.specs.declared.status.operation.Operation.TheVariants.{Control}
use Rattle.relations.specs.declared.plugging.PlugAnswer.{PlugAnswer}
use Rattle.relations.specs.declared.plugging.PlugAnswer.TheVariants as to_plug
use Rattle.relations.specs.Plugging.{is_crowded, is_plug_control, is_readied_in, plug_answer_in}
use Rattle.relations.specs.Ready.{answer_of as ready_answer}
use Rattle.diagnosis.specs.Existing.{changed}
use Rattle.diagnosis.specs.declared.diagnosis.Change.{Change}
use Rattle.diagnosis.specs.declared.diagnosis.Diagnosis.{Diagnosis}
use Rattle.relations.specs.Diagnosed.{has_sent_low, heard_low, hearing_low, is_full_in}
use Rattle.relations.specs.Exchanged.{given_to, heard_by, hearing, raised_to, received_by, receiving}
use Rattle.relations.specs.declared.hearing.ReadyAnswer.{ReadyAnswer}
use Rattle.relations.specs.declared.hearing.ReadyAnswer.TheVariants as to_ready
use Rattle.arrayvec.specs.ArrayVec.{ArrayVec}
use Rattle.relations.specs.exchange.Statuses.{statuses_at}
use Rattle.device_frames.specs.declared.local.Local.{Local}
use Rattle.device_frames.specs.declared.local.Local.TheVariants as local
use Rattle.asked_records.specs.Answers.{Gives, gives_octets, gives_done, gives_refusal, judged}
use Rattle.asked_records.specs.Asked.{AskedState}
use Rattle.asked_records.specs.declared.answering.AnswerFault.{AnswerFault}
use Rattle.asked_records.specs.declared.question.Question.{Question}
use Rattle.device_core.specs.State.{Station, Live}
use Rattle.device_core.specs.Handled.{change_of, is_running, is_request, handled_arp, handled_answer, handled_alarm, handled_pdu, handled_received, handled_cyclic, handled_input, handled_local, handled_notice, handled_ready, handled_change, handled_diagnosed, handled_low, handled_low_pdu, handled_low_reply, handled_modules, handled_own, handled_judged, handled_question, handled_plug_answer, handled_ready_at, handled_response, kept_status}
use Rattle.device_core.specs.Machine.{end_of}
use Rattle.device_core.specs.Modules.{outside, plug_of, pull_of, slot_pull_of}
use Rattle.device_core.proofs.Machine.{is_asking}

-- An ARP packet.
pub arp_asks_nothing : (live : Live) (asker : Mac) (packet : Arp) → is_asking (handled_arp live asker packet) ≡ false
arp_asks_nothing live asker packet =
    cond_both (is_request packet.operation && is_running live.values.running packet.target.address) _ _ (λ what. is_asking what ≡ false) (λ _. refl) (λ _. refl)

pub arp_leaves : (station : Station) (live : Live) (asker : Mac) (packet : Arp) → (end_of station live (handled_arp live asker packet)).rest ≡ live.rest
arp_leaves station live asker packet =
    cond_both (is_request packet.operation && is_running live.values.running packet.target.address) _ _ (λ what. (end_of station live what).rest ≡ live.rest) (λ _. refl) (λ _. refl)

-- A PDU of the partner, by what happens to it.
pdu_asks_nothing : (live : Live) (heard : PduFate) (link : Option RelationState) → is_asking (handled_pdu live heard link) ≡ false
pdu_asks_nothing live (fate.Data taken) link = refl
pdu_asks_nothing live fate.Done link = refl
pdu_asks_nothing live fate.Ignored link = refl
pdu_asks_nothing live (fate.Aborted status) link = refl

pub alarm_asks_nothing : (live : Live) (source : Mac) (header : Header) (message : ToDevice) → is_asking (handled_alarm live source header message) ≡ false
alarm_asks_nothing live source header message =
    cond_both (is_alarm_of source header.destination header.source live.rest.link) _ _ (λ what. is_asking what ≡ false)
    (λ _. pdu_asks_nothing live (heard_by message live.rest.link) (updated (hearing message live.rest.link) live.rest.link)) (λ _. refl)

-- A cyclic frame, by what happens to it; it is not answered.
received_asks_nothing : (live : Live) (received : Received) (link : Option RelationState) → is_asking (handled_received live received link) ≡ false
received_asks_nothing live received.Foreign link = refl
received_asks_nothing live received.Short link = refl
received_asks_nothing live received.Stale link = refl
received_asks_nothing live received.Taken link = refl

received_sends_nothing : (station : Station) (live : Live) (received : Received) (link : Option RelationState) → (end_of station live (handled_received live received link)).sent ≡ []
received_sends_nothing station live received.Foreign link = refl
received_sends_nothing station live received.Short link = refl
received_sends_nothing station live received.Stale link = refl
received_sends_nothing station live received.Taken link = refl

pub cyclic_asks_nothing : (live : Live) (source : Mac) (frame_id : ℕ) (body : List ℕ) → is_asking (handled_cyclic live source frame_id body) ≡ false
cyclic_asks_nothing live source frame_id body =
    received_asks_nothing live (received_by source frame_id body live.rest.link) (updated (receiving source frame_id body live.rest.link) live.rest.link)

pub cyclic_sends_nothing : (station : Station) (live : Live) (source : Mac) (frame_id : ℕ) (body : List ℕ) → (end_of station live (handled_cyclic live source frame_id body)).sent ≡ []
cyclic_sends_nothing station live source frame_id body =
    received_sends_nothing station live (received_by source frame_id body live.rest.link) (updated (receiving source frame_id body live.rest.link) live.rest.link)

-- An input that is given, and an alarm that is raised, or refused.
pub input_asks_nothing : (live : Live) (flow : Option Flow) → is_asking (handled_input live flow) ≡ false
input_asks_nothing live (Some flow) = refl
input_asks_nothing live None = refl

pub input_sends_nothing : (station : Station) (live : Live) (flow : Option Flow) → (end_of station live (handled_input live flow)).sent ≡ []
input_sends_nothing station live (Some flow) = refl
input_sends_nothing station live None = refl

pub status_asks_nothing : (live : Live) (slot subslot : ℕ) (is_good : Bool) (statuses : Option (List InputStatus)) → is_asking (kept_status live slot subslot is_good statuses) ≡ false
status_asks_nothing live slot subslot is_good (Some statuses) = refl
status_asks_nothing live slot subslot is_good None = refl

pub status_sends_nothing : (station : Station) (live : Live) (slot subslot : ℕ) (is_good : Bool) (statuses : Option (List InputStatus))
    → (end_of station live (kept_status live slot subslot is_good statuses)).sent ≡ []
status_sends_nothing station live slot subslot is_good (Some statuses) = refl
status_sends_nothing station live slot subslot is_good None = refl

pub notice_asks_nothing : (live : Live) (flow : Option Flow) → is_asking (handled_notice live flow) ≡ false
notice_asks_nothing live (Some flow) = refl
notice_asks_nothing live None = refl

-- The application is ready.
pub ready_asks_nothing : (live : Live) → is_asking (handled_ready live) ≡ false
ready_asks_nothing live = cond_both (is_preparing (phase_of live.rest.link)) _ _ (λ what. is_asking what ≡ false) (λ _. refl) (λ _. refl)

-- A PrmEnd, also one after a plug.
pub control_asks_nothing : (station : Station) (live : Live) (caller : Caller) (call : Called) (blocks : List ℕ) → is_asking (handled_own station live caller call blocks Control) ≡ false
control_asks_nothing station live caller call blocks =
    cond_both (is_plug_control blocks live.rest.link) _ _ (λ what. is_asking what ≡ false) (λ _. refl) (λ _. refl)

pub control_done : (station : Station) (live : Live) (caller : Caller) (call : Called) (blocks : List ℕ) → (end_of station live (handled_own station live caller call blocks Control)).note ≡ Done
control_done station live caller call blocks =
    cond_both (is_plug_control blocks live.rest.link) _ _ (λ what. (end_of station live what).note ≡ Done) (λ _. refl) (λ _. refl)

-- The answer to ApplicationReady.
pub answer_asks_nothing : (station : Station) (live : Live) (answer : ReadyAnswer) → is_asking (handled_answer station live answer) ≡ false
answer_asks_nothing station live to_ready.NotWanted = refl
answer_asks_nothing station live to_ready.Garbled = refl
answer_asks_nothing station live to_ready.Confirmed = refl
answer_asks_nothing station live (to_ready.Refused farewell) = refl

-- The answer to the ApplicationReady of a plug, and any response.
pub plug_answer_asks_nothing : (live : Live) (response : Answered) (answer : PlugAnswer) → is_asking (handled_plug_answer live response answer) ≡ false
plug_answer_asks_nothing live response to_plug.NotWanted = refl
plug_answer_asks_nothing live response to_plug.Garbled = refl
plug_answer_asks_nothing live response to_plug.Confirmed = refl
plug_answer_asks_nothing live response to_plug.Refused = refl

pub response_asks_nothing : (station : Station) (live : Live) (response : Answered) → is_asking (handled_response station live response) ≡ false
response_asks_nothing station live response =
    cond_both (is_in_exchange live.rest.link) _ _ (λ what. is_asking what ≡ false)
    (λ _. plug_answer_asks_nothing live response (plug_answer_in response live.rest.link))
    (λ _. answer_asks_nothing station live (ready_answer response live.rest.link))

-- A PDU of low priority, and a diagnosis.
low_pdu_asks_nothing : (station : Station) (live : Live) (heard : PduFate) (link : Option RelationState) → is_asking (handled_low_pdu station live heard link) ≡ false
low_pdu_asks_nothing station live (fate.Data taken) link = refl
low_pdu_asks_nothing station live fate.Done link = refl
low_pdu_asks_nothing station live fate.Ignored link = refl
low_pdu_asks_nothing station live (fate.Aborted status) link = refl

pub low_asks_nothing : (station : Station) (live : Live) (source : Mac) (header : Header) (message : ToDevice) → is_asking (handled_low station live source header message) ≡ false
low_asks_nothing station live source header message =
    cond_both (is_alarm_of source header.destination header.source live.rest.link) _ _ (λ what. is_asking what ≡ false)
    (λ _. low_pdu_asks_nothing station live (heard_low message live.rest.link) (updated (hearing_low message live.rest.link) live.rest.link)) (λ _. refl)

pub low_reply_asks_nothing : (station : Station) (live : Live) (source : Mac) (header : Header) (message : ToDevice) → is_asking (handled_low_reply station live source header message) ≡ false
low_reply_asks_nothing station live source header message =
    cond_both (has_sent_low live.rest.link) _ _ (λ what. is_asking what ≡ false) (λ _. low_asks_nothing station live source header message)
    (λ _. alarm_asks_nothing live source header message)

change_asks_nothing : (station : Station) (live : Live) (change : Change) (diagnoses : Option (List Diagnosis)) → is_asking (handled_change station live change diagnoses) ≡ false
change_asks_nothing station live change (Some diagnoses) = refl
change_asks_nothing station live change None = refl

pub diagnosed_asks_nothing : (station : Station) (live : Live) (change : Change) → is_asking (handled_diagnosed station live change) ≡ false
diagnosed_asks_nothing station live change =
    cond_both (is_some (submodule_ident live.rest.real.modules.items change.diagnosis.slot change.diagnosis.subslot) && not (is_full_in live.rest.link)) _ _
    (λ what. is_asking what ≡ false) (λ _. change_asks_nothing station live change (changed change live.rest.diagnoses)) (λ _. refl)

-- A pull or a plug, and the application that is ready for a plug.
pub modules_ask_nothing : (live : Live) (made : RealChange) (real : Option (List RealModule)) → is_asking (handled_modules live made real) ≡ false
modules_ask_nothing live made None = refl
modules_ask_nothing live made (Some real) =
    cond_both (is_crowded (affected_by made) live.rest.link) _ _ (λ what. is_asking what ≡ false) (λ _. refl) (λ _. refl)

pub ready_at_asks_nothing : (live : Live) (slot subslot : ℕ) → is_asking (handled_ready_at live slot subslot) ≡ false
ready_at_asks_nothing live slot subslot = cond_both (is_readied_in slot subslot live.rest.link) _ _ (λ what. is_asking what ≡ false) (λ _. refl) (λ _. refl)

-- An answer of the application.
judged_asks_nothing : (station : Station) (live : Live) (given : Gives) (judged : Result Question AnswerFault) → is_asking (handled_judged station live given judged) ≡ false
judged_asks_nothing station live given (Ok question) = refl
judged_asks_nothing station live given (Err fault) = refl

-- A call for a record of the application.
pub question_asks_nothing : (station : Station) (live : Live) (question : Question) (displaced : Option Question) (asked : Option AskedState)
    → is_asking (handled_question station live question displaced asked) ≡ false
question_asks_nothing station live question displaced (Some asked) = refl
question_asks_nothing station live question displaced None = refl

pub question_done : (station : Station) (live : Live) (question : Question) (displaced : Option Question) (asked : Option AskedState)
    → (end_of station live (handled_question station live question displaced asked)).note ≡ Done
question_done station live question displaced (Some asked) = refl
question_done station live question displaced None = refl

-- Whatever the application says.
pub local_asks_nothing : (station : Station) (live : Live) (said : Local (ArrayVec ℕ)) → is_asking (handled_local station live said) ≡ false
local_asks_nothing station live (local.Input slot subslot value) = input_asks_nothing live (given_to slot subslot value.items live.rest.link)
local_asks_nothing station live (local.Alarm slot subslot octets) =
    notice_asks_nothing live (raised_to live.rest.real.modules.items slot subslot octets.items live.rest.link)
local_asks_nothing station live (local.Status slot subslot is_good) =
    status_asks_nothing live slot subslot is_good
    (statuses_at live.rest.real.modules.items (record { slot = slot; subslot = subslot; is_good = is_good }) live.rest.statuses)
local_asks_nothing station live (local.Diagnosis slot subslot channel error appears) =
    diagnosed_asks_nothing station live (change_of slot subslot channel error appears)
local_asks_nothing station live (local.Pull slot subslot) =
    let real = live.rest.real.modules.items in modules_ask_nothing live (pull_of real slot subslot) (outside slot (pulled slot subslot real))
local_asks_nothing station live (local.PullModule slot) =
    let real = live.rest.real.modules.items in modules_ask_nothing live (slot_pull_of real slot) (outside slot (slot_pulled slot real))
local_asks_nothing station live (local.Plug slot ident part) =
    modules_ask_nothing live (plug_of slot ident part) (plugged_with slot ident part live.rest.real.modules.items)
local_asks_nothing station live (local.ReadyAt slot subslot) = ready_at_asks_nothing live slot subslot
local_asks_nothing station live local.Ready = ready_asks_nothing live
local_asks_nothing station live (local.ProviderState is_running) = refl
local_asks_nothing station live (local.Answer number octets) =
    judged_asks_nothing station live (gives_octets octets.items) (judged number (gives_octets octets.items) live.rest.asked)
local_asks_nothing station live (local.Written number) = judged_asks_nothing station live gives_done (judged number gives_done live.rest.asked)
local_asks_nothing station live (local.Refuse number code1 code2) =
    judged_asks_nothing station live (gives_refusal code1 code2) (judged number (gives_refusal code1 code2) live.rest.asked)
