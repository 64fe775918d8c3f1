-- Nothing is asked of the settings but by a Set and by a Write.
use Rattle.std.proofs.Common.{◌≡◌, ◌&&◌, ℕ, List, [], Option, Some, None, Result, Ok, Err, refl}
use Rattle.std.proofs.lemmas.Bool.{cond_both}
use Rattle.dcp_core.specs.declared.request.Service.TheVariants as service
use Rattle.dcp_core.specs.Request.{Asked}
use Rattle.dcp_core.specs.Identify.{matches}
use Rattle.pn_values.specs.declared.mac.Mac.{Mac}
use Rattle.frame_codec.specs.declared.udp.Caller.{Caller}
use Rattle.rpc_core.specs.Call.{Asked as Called}
use Rattle.rpc_core.specs.Response.{Answered}
use Rattle.records.specs.declared.status.call_fault.CallFault.{CallFault}
use Rattle.records.specs.declared.status.operation.Operation.{Operation}
use Rattle.records.specs.declared.status.operation.Operation.TheVariants.{Control}
use Rattle.pn_alarms.specs.declared.device.PduFate.{PduFate}
use Rattle.pn_alarms.specs.declared.device.PduFate.TheVariants as fate
use Rattle.pn_alarms.specs.declared.pdu.Header.{Header}
use Rattle.pn_alarms.specs.Message.{ToDevice}
use Rattle.cyclic_data.specs.declared.exchange.received.Received.{Received}
use Rattle.cyclic_data.specs.declared.exchange.received.Received.TheVariants as received
use Rattle.relations.specs.Exchanged.{heard_by, hearing, received_by, receiving}
use Rattle.relations.specs.declared.hearing.ReadyAnswer.{ReadyAnswer}
use Rattle.relations.specs.declared.hearing.ReadyAnswer.TheVariants as to_ready
use Rattle.relations.specs.declared.plugging.PlugAnswer.{PlugAnswer}
use Rattle.relations.specs.declared.plugging.PlugAnswer.TheVariants as to_plug
use Rattle.relations.specs.Plugging.{is_plug_control, plug_answer_in}
use Rattle.relations.specs.Ready.{answer_of as ready_answer}
use Rattle.device_frames.specs.Heard.{Heard, Ticks, Unreadable, Elsewhere, Asks, Resolves, Reported, Cyclic, Alarms, LowReplies, LowConfirms, Met, Applied}
use Rattle.relations.specs.RelationState.{RelationState, is_alarm_of, is_in_exchange, uuid_of}
use Rattle.relations.specs.Phases.{updated}
use Rattle.relations.specs.Diagnosed.{has_sent_low, heard_low, hearing_low}
use Rattle.arrayvec.specs.ArrayVec.{ArrayVec}
use Rattle.asked_records.specs.Answers.{Gives, judged}
use Rattle.asked_records.specs.Asked.{AskedState, asks, behind_displaced, displaced_by, is_repeat}
use Rattle.asked_records.specs.declared.answering.AnswerFault.{AnswerFault}
use Rattle.asked_records.specs.declared.question.Question.{Question}
use Rattle.device_frames.specs.declared.local.Local.{Local}
use Rattle.device_core.specs.Asking.{Asking, asking_of}
use Rattle.device_core.specs.State.{Station, Live, alias_in}
use Rattle.device_core.specs.Handled.{Handled, is_running, is_request, handled_request, handled_answer, handled_asking, handled_judged, handled_local, handled_own, handled_pdu, handled_plug_answer, handled_question, handled_received, handled_response, handled_unanswered, handled, handled_alarm, handled_low, handled_low_pdu}
use Rattle.device_core.specs.Machine.{items_in}
use Rattle.octets_law.proofs.Locals.{by_local}

abbrev pub IsStill : Handled → Type 0
IsStill what = items_in what ≡ []

module _ (station : Station) (live : Live) where
  answer_still : (answer : ReadyAnswer) → IsStill (handled_answer station live answer)
  answer_still to_ready.NotWanted = refl
  answer_still to_ready.Garbled = refl
  answer_still to_ready.Confirmed = refl
  answer_still (to_ready.Refused farewell) = refl

  plug_answer_still : (response : Answered) (answer : PlugAnswer) → IsStill (handled_plug_answer live response answer)
  plug_answer_still response to_plug.NotWanted = refl
  plug_answer_still response to_plug.Garbled = refl
  plug_answer_still response to_plug.Confirmed = refl
  plug_answer_still response to_plug.Refused = refl

  pub response_still : (response : Answered) → IsStill (handled_response station live response)
  response_still response =
      cond_both (is_in_exchange live.rest.link) _ _ IsStill (λ _. plug_answer_still response (plug_answer_in response live.rest.link))
      (λ _. answer_still (ready_answer response live.rest.link))

  -- A PrmEnd, also one after a plug.
  pub control_still : (caller : Caller) (call : Called) (blocks : List ℕ) → IsStill (handled_own station live caller call blocks Control)
  control_still caller call blocks = cond_both (is_plug_control blocks live.rest.link) _ _ IsStill (λ _. refl) (λ _. refl)

  -- A call for a record of the application, and one that the device answers by itself.
  pub question_still : (question : Question) (displaced : Option Question) (asked : Option AskedState)
      → IsStill (handled_question station live question displaced asked)
  question_still question displaced (Some asked) = refl
  question_still question displaced None = refl

  asking_still : (caller : Caller) (call : Called) (blocks : List ℕ) (operation : Operation) (asking : Result (Option Asking) CallFault)
      → IsStill (handled_own station live caller call blocks operation) → IsStill (handled_asking station live caller call blocks operation asking)
  asking_still caller call blocks operation (Ok None) own = own
  asking_still caller call blocks operation (Ok (Some asking)) own =
      let displaced = displaced_by station.options.asks_own_first asking.0 live.rest.asked in
      question_still asking.0 displaced (asks asking.0 asking.1 (behind_displaced displaced live.rest.asked))
  asking_still caller call blocks operation (Err why) own = refl

  -- A call that was not answered, if the device's own answer to it asks for nothing.
  pub unanswered_still : (caller : Caller) (call : Called) (blocks : List ℕ) (operation : Operation)
      → IsStill (handled_own station live caller call blocks operation) → IsStill (handled_unanswered station live caller call blocks operation)
  unanswered_still caller call blocks operation own =
      cond_both (is_repeat call.header.activity call.header.sequence live.rest.asked) _ _ IsStill (λ _. refl)
      (λ _. asking_still caller call blocks operation (asking_of live.rest.real station.named (uuid_of live.rest.link) caller call blocks operation) own)

  -- An answer of the application, and all else that it says.
  judged_still : (given : Gives) (judged : Result Question AnswerFault) → IsStill (handled_judged station live given judged)
  judged_still given (Ok question) = refl
  judged_still given (Err why) = refl

  applied_still : (said : Local (ArrayVec ℕ)) → IsStill (handled_local station live said)
  applied_still said = by_local station live IsStill said (λ made what it. it.asks) (λ number given. judged_still given (judged number given live.rest.asked))

  pdu_still : (came : PduFate) (link : Option RelationState) → IsStill (handled_pdu live came link)
  pdu_still (fate.Data taken) link = refl
  pdu_still fate.Done link = refl
  pdu_still fate.Ignored link = refl
  pdu_still (fate.Aborted status) link = refl

  pub alarm_still : (source : Mac) (header : Header) (message : ToDevice) → IsStill (handled_alarm live source header message)
  alarm_still source header message =
      cond_both (is_alarm_of source header.destination header.source live.rest.link) _ _ IsStill
      (λ _. pdu_still (heard_by message live.rest.link) (updated (hearing message live.rest.link) live.rest.link)) (λ _. refl)

  low_pdu_still : (came : PduFate) (link : Option RelationState) → IsStill (handled_low_pdu station live came link)
  low_pdu_still (fate.Data taken) link = refl
  low_pdu_still fate.Done link = refl
  low_pdu_still fate.Ignored link = refl
  low_pdu_still (fate.Aborted status) link = refl

  low_still : (source : Mac) (header : Header) (message : ToDevice) → IsStill (handled_low station live source header message)
  low_still source header message =
      cond_both (is_alarm_of source header.destination header.source live.rest.link) _ _ IsStill
      (λ _. low_pdu_still (heard_low message live.rest.link) (updated (hearing_low message live.rest.link) live.rest.link)) (λ _. refl)

  received_still : (came : Received) (link : Option RelationState) → IsStill (handled_received live came link)
  received_still received.Foreign link = refl
  received_still received.Short link = refl
  received_still received.Stale link = refl
  received_still received.Taken link = refl

  pub identify_still : (asker : Mac) (request : Asked) → IsStill (handled_request station live asker service.Identify request)
  identify_still asker request = cond_both (matches station.identity live.values.running (alias_in live.rest.peer) request) _ _ IsStill (λ _. refl) (λ _. refl)

  -- What is heard that is neither a DCP request nor in a datagram.
  abbrev pub IsOther : Heard → Type 0
  IsOther (Asks asker request) = ⊥
  IsOther (Reported caller address said) = ⊥
  IsOther heard = Unit {0}

  pub other_still : (heard : Heard) → IsOther heard → IsStill (handled station live heard)
  other_still (Asks asker request) other = absurd other
  other_still (Reported caller address said) other = absurd other
  other_still (Resolves asker packet) other =
      cond_both (is_request packet.operation && is_running live.values.running packet.target.address) _ _ IsStill (λ _. refl) (λ _. refl)
  other_still (Alarms source header message) other = alarm_still source header message
  other_still (LowReplies source header message) other =
      cond_both (has_sent_low live.rest.link) _ _ IsStill (λ _. low_still source header message) (λ _. alarm_still source header message)
  other_still (LowConfirms source header message) other = cond_both (has_sent_low live.rest.link) _ _ IsStill (λ _. low_still source header message) (λ _. refl)
  other_still (Cyclic source frame_id body) other =
      received_still (received_by source frame_id body live.rest.link) (updated (receiving source frame_id body live.rest.link) live.rest.link)
  other_still (Met peer) other = refl
  other_still (Applied said) other = applied_still said
  other_still Ticks other = refl
  other_still Unreadable other = refl
  other_still Elsewhere other = refl
