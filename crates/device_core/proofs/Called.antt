-- What happens to the stored answers.
use Rattle.std.proofs.lemmas.Bool.{cond_both}
use Rattle.std.proofs.Common.{◌≡◌, ◌&&◌, ℕ, true, List, [], ◌∷◌, ◌++◌, length, Option, Some, None, Result, Ok, Err, refl, sym, ap, subst, ◌∙◌}
use Rattle.pn_values.specs.declared.mac.Mac.{Mac}
use Rattle.pn_values.specs.IpSuite.{is_zero}
use Rattle.pn_values.specs.declared.set_item.BlockError.{BlockError}
use Rattle.settings_journal.specs.settings_store.Machine.{Outcome, carried}
use Rattle.dcp_core.specs.declared.request.Service.{Service}
use Rattle.dcp_core.specs.declared.request.Service.TheVariants as service
use Rattle.dcp_core.specs.Request.{Asked}
use Rattle.dcp_core.specs.Identify.{matches}
use Rattle.rpc_core.specs.declared.header.CallHeader.{CallHeader}
use Rattle.rpc_core.specs.Call.{Asked as Called}
use Rattle.rpc_core.specs.Cache.{Kept, Reported as Looked, new, again, old, looked, kept_more, behind_calls}
use Rattle.records.specs.declared.status.operation.Operation.{Operation}
use Rattle.records.specs.declared.status.operation.Operation.TheVariants.{Connect, Release, Read, Write, Control, ReadImplicit}
use Rattle.records.specs.declared.status.call_fault.CallFault.{CallFault}
use Rattle.records.specs.status.Operation.{operation_of}
use Rattle.record_blocks.specs.declared.write_record.IodWriteReq.{IodWriteReq}
use Rattle.records.specs.declared.writes.write.Effect.{Effect}
use Rattle.records.specs.declared.writes.write.Effect.TheVariants.{Stores, Keeps}
use Rattle.records.specs.declared.writes.writing.Writing.{Writing}
use Rattle.records.specs.declared.writes.writing.Writing.TheVariants.{One, Each}
use Rattle.records.specs.writes.Asked.{writing_of}
use Rattle.pn_alarms.specs.declared.device.PduFate.{PduFate}
use Rattle.pn_alarms.specs.declared.device.PduFate.TheVariants as fate
use Rattle.cyclic_data.specs.declared.exchange.received.Received.{Received}
use Rattle.cyclic_data.specs.declared.exchange.received.Received.TheVariants as received
use Rattle.relations.specs.Exchanged.{heard_by, hearing, received_by, receiving}
use Rattle.rpc_core.specs.Response.{Answered}
use Rattle.relations.specs.declared.plugging.PlugAnswer.{PlugAnswer}
use Rattle.relations.specs.declared.plugging.PlugAnswer.TheVariants as to_plug
use Rattle.relations.specs.Plugging.{is_plug_control, plug_answer_in, plug_end_answer, plug_end_in}
use Rattle.relations.specs.declared.hearing.ReadyAnswer.{ReadyAnswer}
use Rattle.relations.specs.declared.hearing.ReadyAnswer.TheVariants as to_ready
use Rattle.relations.specs.RelationState.{RelationState, uuid_of, is_alarm_of, is_in_exchange}
use Rattle.device_records.specs.Reading.{implicit_read, relation_read}
use Rattle.relations.specs.Phases.{keeping, updated}
use Rattle.relations.specs.Calls.{prm_end_answer, release_answer}
use Rattle.relations.specs.Connect.{connect_answer}
use Rattle.relations.specs.Ready.{answer_of as ready_answer}
use Rattle.relations.specs.Timers.{due_of}
use Rattle.device_frames.specs.declared.event.Event.{Event}
use Rattle.frame_codec.specs.declared.udp.Caller.{Caller}
use Rattle.device_core.specs.State.{Station, Live, Rest, alias_in}
use Rattle.device_frames.specs.Sent.{Sent}
use Rattle.pn_alarms.specs.declared.pdu.Header.{Header}
use Rattle.pn_alarms.specs.Message.{ToDevice}
use Rattle.relations.specs.Diagnosed.{has_sent_low, heard_low, hearing_low}
use Rattle.device_frames.specs.Heard.{Heard, Ticks, Unreadable, Elsewhere, Asks, Resolves, Reported, Cyclic, Alarms, LowReplies, LowConfirms, Met, Applied, Said, Calls, Responds, Garbled, heard_of}
use Rattle.device_core.specs.Handled.{Handled, is_running, is_request, answer_from, kept_for, kept_answer, handled_request, handled_effect, handled_write, handled_own, handled_asking, handled_judged, handled_local, handled_question, handled_unanswered, unit_rest, unit_sent, handled_looked, handled_blocks, handled_call, handled_answer, handled_said, handled_pdu, handled_received, handled, known_of, number_now, handled_alarm, handled_low, handled_low_pdu, handled_plug_answer, handled_response}
use Rattle.arrayvec.specs.ArrayVec.{ArrayVec}
use Rattle.asked_records.specs.Answers.{Gives, gives_octets, gives_done, gives_refusal, answer_blocks, answer_status, judged, unanswered_status}
use Rattle.asked_records.specs.Asked.{AskedState, asks, behind_displaced, displaced_by, is_repeat, question_in}
use Rattle.asked_records.specs.Questions.{operation_of as operation_asked}
use Rattle.asked_records.specs.declared.answering.AnswerFault.{AnswerFault}
use Rattle.asked_records.specs.declared.question.Question.{Question}
use Rattle.asked_records.specs.declared.status.Unanswered.TheVariants.{Busy, Late}
use Rattle.device_frames.specs.declared.local.Local.{Local}
use Rattle.device_frames.specs.declared.local.Local.TheVariants as local
use Rattle.device_core.specs.Asking.{Asking, asking_of, ended_by, is_kept, kept_if, late_calls, late_in, looked_if, reply_to}
use Rattle.device_core.specs.Several.{judged_each}
use Rattle.device_core.specs.Machine.{items_in, first_answer, several_answer, written_as, finished, heard_step, handled_step, step_of, first_step, later_steps, run_of}
use Rattle.device_core.specs.Steps.{IsBehindCalls}
use Rattle.device_core.proofs.Applied.{goes_to, local_is}
use Rattle.device_core.proofs.Storing.{AllowsAsked, AllowsDisplaced, AllowsHeard, AllowsSaid, IsAskedOf, IsStoredOf, asked_of, displaced_asked, displaced_implicit, late_asked, later_called, left_was_asked, refused_called, replied_called, stored_called}

calls_then : (first later : List Kept) (cache : List Kept) → behind_calls 4 (first ++ later) cache ≡ behind_calls 4 later (behind_calls 4 first cache)
calls_then [] later cache = refl
calls_then (call ∷ first) later cache = calls_then first later _

pub called_then : (before between now : List Kept) → IsBehindCalls before between → IsBehindCalls between now → IsBehindCalls before now
called_then before between now first later =
    (first.0 ++ later.0, later.1 ∙ ap (behind_calls 4 later.0) first.1 ∙ sym (calls_then first.0 later.0 before))

module _ (P : List ℕ → ℕ → Type 0) where
  -- What is stored after an outcome.
  abbrev IsKept : Station → Live → List BlockError → Handled → Type 0
  IsKept station live answers what = IsStoredOf P live.rest.calls (finished station.identity live.rest what answers).rest.calls

  request_called : (station : Station) (live : Live) (answers : List BlockError) (asker : Mac) (asked : Service) (request : Asked) → IsKept station live answers (handled_request station live asker asked request)
  request_called station live answers asker service.Identify request =
      cond_both (matches station.identity live.values.running (alias_in live.rest.peer) request) _ _ (IsKept station live answers) (λ _. ([], refl, tt)) (λ _. ([], refl, tt))
  request_called station live answers asker service.Get request = ([], refl, tt)
  request_called station live answers asker service.Set request = ([], refl, tt)

  -- A new call with this answer stores it.
  kept_called : (station : Station) (live : Live) (call : Called) (answer : Sent) → P call.header.activity call.header.sequence
      → looked call.header.activity call.header.sequence live.rest.calls ≡ new
      → IsStoredOf P live.rest.calls (kept_more 4 (kept_for station.identity call answer) live.rest.calls)
  kept_called station live call answer allowed is_new = stored_called P true live.rest.calls (kept_for station.identity call answer) (λ _. allowed) is_new

  served_called : (station : Station) (live : Live) (caller : Caller) (call : Called) (operation : Operation) (outcome : Result (List ℕ) CallFault)
      → (is_kept station.options operation ≡ true → P call.header.activity call.header.sequence)
      → looked_if (is_kept station.options operation) call.header.activity call.header.sequence live.rest.calls ≡ new
      → IsStoredOf P live.rest.calls
      (kept_if (is_kept station.options operation) (kept_for station.identity call (answer_from live.values.running.suite.address caller call operation outcome)) live.rest.calls)
  served_called station live caller call operation outcome allowed is_new =
      stored_called P (is_kept station.options operation) live.rest.calls
      (kept_for station.identity call (answer_from live.values.running.suite.address caller call operation outcome)) allowed is_new

  effect_called : (station : Station) (live : Live) (answers : List BlockError) (caller : Caller) (call : Called) (header : IodWriteReq) (effect : Effect)
      → P call.header.activity call.header.sequence → looked call.header.activity call.header.sequence live.rest.calls ≡ new → IsKept station live answers (handled_effect station live caller call header effect)
  effect_called station live answers caller call header (Stores value) allowed is_new =
      kept_called station live call (answer_from live.values.running.suite.address caller call Write (written_as header (first_answer answers))) allowed is_new
  effect_called station live answers caller call header (Keeps parameter) allowed is_new = served_called station live caller call Write (kept_answer header (keeping parameter live.rest.link)) (λ _. allowed) is_new

  write_called : (station : Station) (live : Live) (answers : List BlockError) (caller : Caller) (call : Called) (writing : Result Writing CallFault)
      → P call.header.activity call.header.sequence → looked call.header.activity call.header.sequence live.rest.calls ≡ new → IsKept station live answers (handled_write station live caller call writing)
  write_called station live answers caller call (Ok (One write)) allowed is_new = effect_called station live answers caller call write.request write.effect allowed is_new
  write_called station live answers caller call (Ok (Each header entries)) allowed is_new =
      let judged = judged_each station.named (uuid_of live.rest.link) live.rest.real entries in
      kept_called station live call (answer_from live.values.running.suite.address caller call Write (Ok (several_answer header judged answers live.rest.link))) allowed is_new
  write_called station live answers caller call (Err fault) allowed is_new = served_called station live caller call Write (Err fault) (λ _. allowed) is_new

  own_called : (station : Station) (live : Live) (answers : List BlockError) (caller : Caller) (call : Called) (blocks : List ℕ) (operation : Operation)
      → (is_kept station.options operation ≡ true → P call.header.activity call.header.sequence)
      → looked_if (is_kept station.options operation) call.header.activity call.header.sequence live.rest.calls ≡ new → IsKept station live answers (handled_own station live caller call blocks operation)
  own_called station live answers caller call blocks Connect allowed is_new =
      served_called station live caller call Connect (connect_answer station.identity live.rest.real station.options (number_now station live) caller.mac live.rest.link blocks) allowed is_new
  own_called station live answers caller call blocks Release allowed is_new =
      served_called station live caller call Release (release_answer live.rest.link blocks) allowed is_new
  own_called station live answers caller call blocks Read allowed is_new =
      served_called station live caller call Read (relation_read (known_of station live) station.identity live.rest.real live.values.running blocks) allowed is_new
  own_called station live answers caller call blocks Write allowed is_new =
      write_called station live answers caller call (writing_of (uuid_of live.rest.link) live.rest.real blocks) (allowed refl) is_new
  own_called station live answers caller call blocks Control allowed is_new =
      cond_both (is_plug_control blocks live.rest.link) _ _ (IsKept station live answers)
      (λ _. served_called station live caller call Control (plug_end_answer (plug_end_in blocks live.rest.link)) allowed is_new)
      (λ _. served_called station live caller call Control (prm_end_answer live.rest.link blocks) allowed is_new)
  own_called station live answers caller call blocks ReadImplicit allowed is_new =
      served_called station live caller call ReadImplicit (implicit_read (known_of station live) station.identity live.rest.real live.values.running blocks) allowed is_new

  -- A call for a record of the application: what it displaces is refused, or it is refused itself.
  question_called : (station : Station) (live : Live) (answers : List BlockError) (question : Question) (displaced : Option Question) (asked : Option AskedState)
      → (is_kept station.options (operation_asked question.request) ≡ true → P question.header.activity question.header.sequence)
      → ((other : Question) → displaced ≡ Some other → is_kept station.options (operation_asked other.request) ≡ true → P other.header.activity other.header.sequence)
      → IsKept station live answers (handled_question station live question displaced asked)
  question_called station live answers question displaced (Some asked) allowed others =
      refused_called P station.options station.identity live.values.running.suite.address Busy displaced live.rest.calls others
  question_called station live answers question displaced None allowed others =
      replied_called P (is_kept station.options (operation_asked question.request)) station.identity question
      (reply_to live.values.running.suite.address question (unanswered_status (operation_asked question.request) Busy) []) live.rest.calls allowed

  asking_called : (station : Station) (live : Live) (answers : List BlockError) (caller : Caller) (call : Called) (blocks : List ℕ) (operation : Operation)
      (asking : Result (Option Asking) CallFault) → IsAskedOf call operation asking → (is_kept station.options operation ≡ true → P call.header.activity call.header.sequence) → AllowsDisplaced P station live
      → looked_if (is_kept station.options operation) call.header.activity call.header.sequence live.rest.calls ≡ new → IsKept station live answers (handled_asking station live caller call blocks operation asking)
  asking_called station live answers caller call blocks operation (Ok None) asks_it allowed others is_new = own_called station live answers caller call blocks operation allowed is_new
  asking_called station live answers caller call blocks operation (Ok (Some asking)) asks_it allowed others is_new =
      let displaced = displaced_by station.options.asks_own_first asking.0 live.rest.asked in
      question_called station live answers asking.0 displaced (asks asking.0 asking.1 (behind_displaced displaced live.rest.asked))
      (λ is_stored. subst (λ (header : CallHeader). P header.activity header.sequence) (sym asks_it.0)
      (allowed (sym (ap (is_kept station.options) asks_it.1) ∙ is_stored)))
      (λ other found is_stored. others other (displaced_asked station.options.asks_own_first asking.0 live.rest.asked other found)
      (displaced_implicit station.options.asks_own_first asking.0 live.rest.asked other found) is_stored)
  asking_called station live answers caller call blocks operation (Err fault) asks_it allowed others is_new =
      served_called station live caller call operation (Err fault) allowed is_new

  unanswered_called : (station : Station) (live : Live) (answers : List BlockError) (caller : Caller) (call : Called) (blocks : List ℕ) (operation : Operation)
      → (is_kept station.options operation ≡ true → P call.header.activity call.header.sequence) → AllowsDisplaced P station live
      → looked_if (is_kept station.options operation) call.header.activity call.header.sequence live.rest.calls ≡ new → IsKept station live answers (handled_unanswered station live caller call blocks operation)
  unanswered_called station live answers caller call blocks operation allowed others is_new =
      let asking = asking_of live.rest.real station.named (uuid_of live.rest.link) caller call blocks operation in
      cond_both (is_repeat call.header.activity call.header.sequence live.rest.asked) _ _ (IsKept station live answers) (λ _. ([], refl, tt))
      (λ _. asking_called station live answers caller call blocks operation asking
      (asked_of live.rest.real station.named (uuid_of live.rest.link) caller call blocks operation) allowed others is_new)

  looked_called : (station : Station) (live : Live) (answers : List BlockError) (caller : Caller) (call : Called) (blocks : List ℕ) (operation : Operation) (reported : Looked)
      → (is_kept station.options operation ≡ true → P call.header.activity call.header.sequence) → AllowsDisplaced P station live
      → looked_if (is_kept station.options operation) call.header.activity call.header.sequence live.rest.calls ≡ reported
      → IsKept station live answers (handled_looked station live caller call blocks operation reported)
  looked_called station live answers caller call blocks operation new allowed others is = unanswered_called station live answers caller call blocks operation allowed others is
  looked_called station live answers caller call blocks operation (again frame) allowed others is = ([], refl, tt)
  looked_called station live answers caller call blocks operation old allowed others is = ([], refl, tt)

  blocks_called : (station : Station) (live : Live) (answers : List BlockError) (caller : Caller) (call : Called) (operation : Operation) (blocks : Option (List ℕ))
      → (is_kept station.options operation ≡ true → P call.header.activity call.header.sequence) → AllowsDisplaced P station live
      → IsKept station live answers (handled_blocks station live caller call operation blocks)
  blocks_called station live answers caller call operation None allowed others = ([], refl, tt)
  blocks_called station live answers caller call operation (Some blocks) allowed others =
      looked_called station live answers caller call blocks operation _ allowed others refl

  call_called : (station : Station) (live : Live) (answers : List BlockError) (caller : Caller) (call : Called) (operation : Option Operation)
      → ((which : Operation) → operation ≡ Some which → is_kept station.options which ≡ true → P call.header.activity call.header.sequence)
      → AllowsDisplaced P station live → IsKept station live answers (handled_call station live caller call operation)
  call_called station live answers caller call None allowed others = ([], refl, tt)
  call_called station live answers caller call (Some operation) allowed others =
      blocks_called station live answers caller call operation call.blocks (allowed operation refl) others

  answer_called : (station : Station) (live : Live) (answers : List BlockError) (answer : ReadyAnswer) → IsKept station live answers (handled_answer station live answer)
  answer_called station live answers to_ready.NotWanted = ([], refl, tt)
  answer_called station live answers to_ready.Garbled = ([], refl, tt)
  answer_called station live answers to_ready.Confirmed = ([], refl, tt)
  answer_called station live answers (to_ready.Refused farewell) = ([], refl, tt)

  plug_answer_called : (station : Station) (live : Live) (answers : List BlockError) (response : Answered) (answer : PlugAnswer)
      → IsKept station live answers (handled_plug_answer live response answer)
  plug_answer_called station live answers response to_plug.NotWanted = ([], refl, tt)
  plug_answer_called station live answers response to_plug.Garbled = ([], refl, tt)
  plug_answer_called station live answers response to_plug.Confirmed = ([], refl, tt)
  plug_answer_called station live answers response to_plug.Refused = ([], refl, tt)

  response_called : (station : Station) (live : Live) (answers : List BlockError) (response : Answered) → IsKept station live answers (handled_response station live response)
  response_called station live answers response =
      cond_both (is_in_exchange live.rest.link) _ _ (IsKept station live answers)
      (λ _. plug_answer_called station live answers response (plug_answer_in response live.rest.link))
      (λ _. answer_called station live answers (ready_answer response live.rest.link))

  said_called : (station : Station) (live : Live) (answers : List BlockError) (caller : Caller) (said : Said)
      → AllowsSaid P station said → AllowsDisplaced P station live → IsKept station live answers (handled_said station live caller said)
  said_called station live answers caller (Calls call) allowed others = call_called station live answers caller call (operation_of call.header.operation) allowed others
  said_called station live answers caller (Responds response) allowed others = response_called station live answers response
  said_called station live answers caller Garbled allowed others = ([], refl, tt)

  pdu_called : (station : Station) (live : Live) (answers : List BlockError) (came : PduFate) (link : Option RelationState) → IsKept station live answers (handled_pdu live came link)
  pdu_called station live answers (fate.Data taken) link = ([], refl, tt)
  pdu_called station live answers fate.Done link = ([], refl, tt)
  pdu_called station live answers fate.Ignored link = ([], refl, tt)
  pdu_called station live answers (fate.Aborted status) link = ([], refl, tt)

  alarm_called : (station : Station) (live : Live) (answers : List BlockError) (source : Mac) (header : Header) (message : ToDevice) → IsKept station live answers (handled_alarm live source header message)
  alarm_called station live answers source header message =
      cond_both (is_alarm_of source header.destination header.source live.rest.link) _ _ (IsKept station live answers)
      (λ _. pdu_called station live answers (heard_by message live.rest.link) (updated (hearing message live.rest.link) live.rest.link)) (λ _. ([], refl, tt))

  low_pdu_called : (station : Station) (live : Live) (answers : List BlockError) (came : PduFate) (link : Option RelationState) → IsKept station live answers (handled_low_pdu station live came link)
  low_pdu_called station live answers (fate.Data taken) link = ([], refl, tt)
  low_pdu_called station live answers fate.Done link = ([], refl, tt)
  low_pdu_called station live answers fate.Ignored link = ([], refl, tt)
  low_pdu_called station live answers (fate.Aborted status) link = ([], refl, tt)

  low_called : (station : Station) (live : Live) (answers : List BlockError) (source : Mac) (header : Header) (message : ToDevice) → IsKept station live answers (handled_low station live source header message)
  low_called station live answers source header message =
      cond_both (is_alarm_of source header.destination header.source live.rest.link) _ _ (IsKept station live answers)
      (λ _. low_pdu_called station live answers (heard_low message live.rest.link) (updated (hearing_low message live.rest.link) live.rest.link)) (λ _. ([], refl, tt))

  received_called : (station : Station) (live : Live) (answers : List BlockError) (came : Received) (link : Option RelationState) → IsKept station live answers (handled_received live came link)
  received_called station live answers received.Foreign link = ([], refl, tt)
  received_called station live answers received.Short link = ([], refl, tt)
  received_called station live answers received.Stale link = ([], refl, tt)
  received_called station live answers received.Taken link = ([], refl, tt)

  -- A call that has no answer in time.
  late_called : (station : Station) (rest : Rest) (late : Option Question) (address : List ℕ)
      → ((question : Question) → late ≡ Some question → is_kept station.options (operation_asked question.request) ≡ true → P question.header.activity question.header.sequence)
      → IsStoredOf P rest.calls (late_calls station.options station.identity address late rest.calls)
  late_called station rest late address allowed = refused_called P station.options station.identity address Late late rest.calls allowed

  -- An answer of the application, and all else that it says.
  judged_called : (station : Station) (live : Live) (answers : List BlockError) (given : Gives) (judged : Result Question AnswerFault)
      → ((question : Question) → judged ≡ Ok question → question_in live.rest.asked ≡ Some question) → AllowsAsked P station live
      → IsKept station live answers (handled_judged station live given judged)
  judged_called station live answers given (Ok question) goes allowed =
      let address = live.values.running.suite.address in
      later_called P (is_zero address) (is_kept station.options (operation_asked question.request)) station.identity question
      (reply_to address question (answer_status question.request given) (answer_blocks question.request given)) live.rest.calls
      (allowed question (goes question refl))
  judged_called station live answers given (Err fault) goes allowed = ([], refl, tt)

  local_called : (station : Station) (live : Live) (answers : List BlockError) (said : Local (ArrayVec ℕ)) → AllowsAsked P station live
      → IsKept station live answers (handled_local station live said)
  local_called station live answers (local.Answer number octets) allowed =
      judged_called station live answers (gives_octets octets.items) (judged number (gives_octets octets.items) live.rest.asked)
      (λ question. goes_to number live.rest.asked.last (gives_octets octets.items) live.rest.asked.standing question) allowed
  local_called station live answers (local.Written number) allowed =
      judged_called station live answers gives_done (judged number gives_done live.rest.asked)
      (λ question. goes_to number live.rest.asked.last gives_done live.rest.asked.standing question) allowed
  local_called station live answers (local.Refuse number code1 code2) allowed =
      judged_called station live answers (gives_refusal code1 code2) (judged number (gives_refusal code1 code2) live.rest.asked)
      (λ question. goes_to number live.rest.asked.last (gives_refusal code1 code2) live.rest.asked.standing question) allowed
  local_called station live answers (local.Input slot subslot value) allowed = ([], ap (λ (rest : Rest). rest.calls) ((local_is station live (local.Input slot subslot value) refl).keeps answers), tt)
  local_called station live answers (local.Alarm slot subslot octets) allowed = ([], ap (λ (rest : Rest). rest.calls) ((local_is station live (local.Alarm slot subslot octets) refl).keeps answers), tt)
  local_called station live answers (local.Status slot subslot is_good) allowed = ([], ap (λ (rest : Rest). rest.calls) ((local_is station live (local.Status slot subslot is_good) refl).keeps answers), tt)
  local_called station live answers (local.Diagnosis slot subslot channel error appears) allowed = ([], ap (λ (rest : Rest). rest.calls) ((local_is station live (local.Diagnosis slot subslot channel error appears) refl).keeps answers), tt)
  local_called station live answers (local.Pull slot subslot) allowed = ([], ap (λ (rest : Rest). rest.calls) ((local_is station live (local.Pull slot subslot) refl).keeps answers), tt)
  local_called station live answers (local.PullModule slot) allowed = ([], ap (λ (rest : Rest). rest.calls) ((local_is station live (local.PullModule slot) refl).keeps answers), tt)
  local_called station live answers (local.Plug slot ident part) allowed = ([], ap (λ (rest : Rest). rest.calls) ((local_is station live (local.Plug slot ident part) refl).keeps answers), tt)
  local_called station live answers (local.ReadyAt slot subslot) allowed = ([], ap (λ (rest : Rest). rest.calls) ((local_is station live (local.ReadyAt slot subslot) refl).keeps answers), tt)
  local_called station live answers local.Ready allowed = ([], ap (λ (rest : Rest). rest.calls) ((local_is station live local.Ready refl).keeps answers), tt)
  local_called station live answers (local.ProviderState is_running) allowed = ([], ap (λ (rest : Rest). rest.calls) ((local_is station live (local.ProviderState is_running) refl).keeps answers), tt)

  pub handled_called : (station : Station) (live : Live) (answers : List BlockError) (heard : Heard) → AllowsHeard P station live heard
      → IsKept station live answers (handled station live heard)
  handled_called station live answers (Asks asker request) allowed = request_called station live answers asker request.service request
  handled_called station live answers (Resolves asker packet) allowed =
      cond_both (is_request packet.operation && is_running live.values.running packet.target.address) _ _ (IsKept station live answers) (λ _. ([], refl, tt)) (λ _. ([], refl, tt))
  handled_called station live answers (Reported caller address said) allowed =
      cond_both (is_running live.values.running address) _ _ (IsKept station live answers) (λ _. said_called station live answers caller said allowed.0 allowed.1) (λ _. ([], refl, tt))
  handled_called station live answers (Alarms source header message) allowed = alarm_called station live answers source header message
  handled_called station live answers (LowReplies source header message) allowed =
      cond_both (has_sent_low live.rest.link) _ _ (IsKept station live answers) (λ _. low_called station live answers source header message)
      (λ _. alarm_called station live answers source header message)
  handled_called station live answers (LowConfirms source header message) allowed =
      cond_both (has_sent_low live.rest.link) _ _ (IsKept station live answers) (λ _. low_called station live answers source header message) (λ _. ([], refl, tt))
  handled_called station live answers (Cyclic source frame_id body) allowed =
      received_called station live answers (received_by source frame_id body live.rest.link) (updated (receiving source frame_id body live.rest.link) live.rest.link)
  handled_called station live answers (Met peer) allowed = ([], refl, tt)
  handled_called station live answers (Applied said) allowed = local_called station live answers said allowed
  handled_called station live answers Ticks allowed =
      late_called station (unit_rest live) (late_in (length (unit_sent live)) (unit_rest live).asked) live.values.running.suite.address
      (λ question late. allowed question (left_was_asked (ended_by (due_of live.rest.link).farewell) live.rest.asked question
      (late_asked (length (unit_sent live)) (unit_rest live).asked question late)))
  handled_called station live answers Unreadable allowed = ([], refl, tt)
  handled_called station live answers Elsewhere allowed = ([], refl, tt)

-- Over a step, and over a run: any call may be stored.
abbrev Any : List ℕ → ℕ → Type 0
Any activity sequence = Unit {0}

any_heard : (station : Station) (live : Live) (heard : Heard) → AllowsHeard Any station live heard
any_heard station live (Reported caller address said) = (any_said said, λ other asked implicit is_stored. tt)
  where
    any_said : (said : Said) → AllowsSaid Any station said
    any_said (Calls call) = λ which is is_stored. tt
    any_said (Responds response) = tt
    any_said Garbled = tt
any_heard station live (Applied said) = λ question asked is_stored. tt
any_heard station live Ticks = λ question asked is_stored. tt
any_heard station live (Asks asker request) = tt
any_heard station live (Resolves asker packet) = tt
any_heard station live (Alarms source header message) = tt
any_heard station live (LowReplies source header message) = tt
any_heard station live (LowConfirms source header message) = tt
any_heard station live (Cyclic source frame_id body) = tt
any_heard station live (Met peer) = tt
any_heard station live Unreadable = tt
any_heard station live Elsewhere = tt

heard_called : (outcomes : List Outcome) (station : Station) (live : Live) (heard : Heard) → IsBehindCalls live.rest.calls (heard_step outcomes station live heard).live.rest.calls
unfolding heard_step handled_step
heard_called outcomes station live heard =
    let it = handled_called Any station live (carried outcomes live.values (items_in (handled station live heard))).answers heard (any_heard station live heard) in
    (it.0, it.1)

pub run_called : (outcomes : List (List Outcome)) (station : Station) (live : Live) (events : List Event) → IsBehindCalls live.rest.calls (run_of outcomes station live events).live.rest.calls
run_called outcomes station live [] = ([], refl)
run_called outcomes station live (event ∷ events) =
    called_then _ _ _ (heard_called (first_step outcomes) station live (heard_of station.identity event))
    (run_called (later_steps outcomes) station (step_of (first_step outcomes) station live event).live events)
