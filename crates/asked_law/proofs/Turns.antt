-- What becomes of the call that is asked with each event of a device: it stays, it is asked no longer, or a call that is heard is asked.
use Rattle.std.proofs.Common.{◌≡◌, inl, inr, ◌&&◌, ℕ, Bool, List, [], length, take, Option, Some, None, is_some, Result, Ok, Err, option_map, refl, sym, ap, ◌∙◌}
use Rattle.std.proofs.lemmas.Bool.{cond_both}
use Rattle.arrayvec.specs.ArrayVec.{ArrayVec}
use Rattle.pn_values.specs.declared.mac.Mac.{Mac}
use Rattle.pn_values.specs.declared.real.Real.{Real}
use Rattle.pn_values.specs.declared.real.RealModule.{RealModule}
use Rattle.pn_values.specs.declared.set_item.BlockError.{BlockError}
use Rattle.dcp_core.specs.declared.request.Service.{Service}
use Rattle.dcp_core.specs.declared.request.Service.TheVariants as service
use Rattle.dcp_core.specs.Request.{Asked}
use Rattle.dcp_core.specs.Identify.{matches}
use Rattle.dcp_core.specs.Set.{plan_of}
use Rattle.rpc_core.specs.Call.{Asked as Call}
use Rattle.rpc_core.specs.Cache.{Reported as Looked, new, again, old}
use Rattle.rpc_core.specs.Response.{Answered}
use Rattle.records.specs.declared.status.operation.Operation.{Operation}
use Rattle.records.specs.declared.status.operation.Operation.TheVariants.{Connect, Release, Read, Write, Control, ReadImplicit}
use Rattle.records.specs.declared.status.call_fault.CallFault.{CallFault}
use Rattle.records.specs.reads.Handled.{request_of}
use Rattle.records.specs.reads.Within.{request_within}
use Rattle.records.specs.status.Operation.{operation_of}
use Rattle.record_blocks.specs.declared.read_record.IodReadReq.{IodReadReq}
use Rattle.record_blocks.specs.declared.write_record.IodWriteReq.{IodWriteReq}
use Rattle.records.specs.declared.writes.write.Effect.{Effect}
use Rattle.records.specs.declared.writes.write.Effect.TheVariants.{Stores, Keeps as Takes}
use Rattle.records.specs.declared.writes.writing.Writing.{Writing}
use Rattle.records.specs.declared.writes.writing.Writing.TheVariants.{One, Each}
use Rattle.records.specs.writes.Asked.{writing_of}
use Rattle.module_diff.specs.declared.changes.RealChange.{RealChange}
use Rattle.module_diff.specs.Changes.{affected_by, plugged_with, pulled, slot_pulled}
use Rattle.diagnosis.specs.declared.diagnosis.Change.{Change}
use Rattle.diagnosis.specs.declared.diagnosis.Diagnosis.{Diagnosis}
use Rattle.diagnosis.specs.Existing.{changed}
use Rattle.pn_alarms.specs.declared.device.PduFate.{PduFate}
use Rattle.pn_alarms.specs.declared.device.PduFate.TheVariants as fate
use Rattle.pn_alarms.specs.declared.pdu.Header.{Header}
use Rattle.pn_alarms.specs.Message.{ToDevice}
use Rattle.cyclic_data.specs.declared.exchange.received.Received.{Received}
use Rattle.cyclic_data.specs.declared.exchange.received.Received.TheVariants as received
use Rattle.relations.specs.exchange.Flow.{Flow}
use Rattle.relations.specs.exchange.Statuses.{statuses_at}
use Rattle.relations.specs.declared.exchange.statuses.InputStatus.{InputStatus}
use Rattle.relations.specs.Exchanged.{given_to, heard_by, hearing, raised_to, received_by, receiving}
use Rattle.relations.specs.Diagnosed.{has_sent_low, heard_low, hearing_low}
use Rattle.relations.specs.Plugging.{is_crowded, is_plug_control, is_readied_in, plug_answer_in}
use Rattle.relations.specs.declared.plugging.PlugAnswer.{PlugAnswer}
use Rattle.relations.specs.declared.plugging.PlugAnswer.TheVariants as to_plug
use Rattle.relations.specs.declared.hearing.ReadyAnswer.{ReadyAnswer}
use Rattle.relations.specs.declared.hearing.ReadyAnswer.TheVariants as to_ready
use Rattle.relations.specs.RelationState.{RelationState, uuid_of, is_alarm_of, is_in_exchange, is_preparing, phase_of}
use Rattle.relations.specs.Phases.{updated}
use Rattle.relations.specs.Calls.{release_answer}
use Rattle.relations.specs.Timers.{due_of}
use Rattle.relations.specs.Ready.{answer_of as ready_answer}
use Rattle.frame_codec.specs.declared.udp.Caller.{Caller}
use Rattle.asked_records.specs.Answers.{Gives, gives_octets, gives_done, gives_refusal, judged}
use Rattle.asked_records.specs.Asked.{AskedState, Standing, asks_beside, displaced_by, is_repeat}
use Rattle.asked_records.specs.declared.answering.AnswerFault.{AnswerFault}
use Rattle.asked_records.specs.declared.names.RecordName.{RecordName}
use Rattle.asked_records.specs.declared.question.Question.{Question}
use Rattle.asked_records.specs.declared.question.Request.{Request}
use Rattle.asked_records.specs.declared.question.Request.TheVariants as request
use Rattle.asked_records.specs.Judging.{asked_read, asked_write}
use Rattle.device_frames.specs.declared.local.Local.{Local}
use Rattle.device_frames.specs.declared.local.Local.TheVariants as local
use Rattle.device_frames.specs.Heard.{Heard, Ticks, Unreadable, Elsewhere, Asks, Resolves, Reported, Cyclic, Alarms, LowReplies, LowConfirms, Met, Applied, Said, Calls, Responds, Garbled}
use Rattle.device_core.specs.State.{Live, Station, alias_in}
use Rattle.wire.specs.Codec.{◌>>=◌}
use Rattle.device_core.specs.Asking.{Asking, asked_later, asking_of, asking_read, asking_write, ended_by, is_kept, left_asked, looked_if, question_of, released_by, write_within}
use Rattle.device_core.specs.Handled.{Handled, change_of, handled, handled_alarm, handled_answer, handled_asked, handled_asking, handled_blocks, handled_call, handled_change, handled_effect, handled_input, handled_judged, handled_local, handled_looked, handled_low, handled_low_pdu, handled_modules, handled_notice, handled_own, handled_pdu, handled_plug_answer, handled_question, handled_received, handled_request, handled_response, handled_said, handled_unanswered, handled_write, is_request, is_running, kept_status, may_be_diagnosed, ticked, unit_sent}
use Rattle.device_core.specs.Machine.{farewell_at, finished, resets}
use Rattle.device_core.specs.Modules.{outside, plug_of, pull_of, slot_pull_of}
use Rattle.asked_law.specs.Once.{IsHeardCall}
use Rattle.asked_law.proofs.Keeping.{Goes, dropped_keeps, keeps_on, later_keeps, left_keeps, same_keeps, settled_keeps}

same : (heard : Heard) (state : AskedState) → Goes heard state state
same heard state = inl (same_keeps state)

some_is : {A : Type 0} (x y : A) → Some x ≡ Some y → x ≡ y
some_is x y e = cc

-- ---- what a call asks

-- A question is of this call.
pub record IsOf (sender : Caller) (call : Call) (question : Question) : Type 0 where
  pub caller : question.caller ≡ sender
  pub header : question.header ≡ call.header
  pub maximum : question.args_maximum ≡ call.args_maximum

-- A judgement asks at most for a question of this call.
abbrev AsksOf : Caller → Call → Result (Option Asking) CallFault → Type 0
AsksOf caller call (Ok (Some asking)) = IsOf caller call asking.0
AsksOf caller call other = Unit {0}

found_asks : (caller : Caller) (call : Call) (wanted : Request) (octets : List ℕ) (found : Option RecordName)
    → AsksOf caller call (Ok (option_map (λ name. (question_of caller call wanted name, octets)) found))
found_asks caller call wanted octets None = tt
found_asks caller call wanted octets (Some name) = record { caller = refl; header = refl; maximum = refl }

read_asks : (real : Real) (named : List RecordName) (wanted : IodReadReq → Request) (caller : Caller) (call : Call) (read : IodReadReq)
    (found : Result (Option RecordName) CallFault)
    → AsksOf caller call (found >>= λ found. Ok (option_map (λ name. (question_of caller call (wanted read) name, [])) found))
read_asks real named wanted caller call read (Ok found) = found_asks caller call (wanted read) [] found
read_asks real named wanted caller call read (Err fault) = tt

reading_asks : (real : Real) (named : List RecordName) (wanted : IodReadReq → Request) (caller : Caller) (call : Call) (read : Result IodReadReq CallFault)
    → AsksOf caller call (asking_read real named wanted caller call read)
reading_asks real named wanted caller call (Ok read) = read_asks real named wanted caller call read (asked_read real named read)
reading_asks real named wanted caller call (Err fault) = tt

write_asks : (caller : Caller) (call : Call) (write : IodWriteReq) (octets : List ℕ) (found : Result (Option RecordName) CallFault)
    → AsksOf caller call (found >>= λ found. Ok (option_map (λ name. (question_of caller call (request.Write write) name, octets)) found))
write_asks caller call write octets (Ok found) = found_asks caller call (request.Write write) octets found
write_asks caller call write octets (Err fault) = tt

writing_asks : (real : Real) (named : List RecordName) (caller : Caller) (call : Call) (write : Result (IodWriteReq × List ℕ) CallFault)
    → AsksOf caller call (asking_write real named caller call write)
writing_asks real named caller call (Ok x) =
    write_asks caller call x.0 (take x.0.header.record_data_length x.1) (asked_write real named x.0 x.1)
writing_asks real named caller call (Err fault) = tt

asking_asks : (real : Real) (named : List RecordName) (standing : Option (List ℕ)) (caller : Caller) (call : Call) (blocks : List ℕ) (operation : Operation)
    → AsksOf caller call (asking_of real named standing caller call blocks operation)
asking_asks real named standing caller call blocks Connect = tt
asking_asks real named standing caller call blocks Release = tt
asking_asks real named standing caller call blocks Read = reading_asks real named request.Read caller call (request_within standing blocks)
asking_asks real named standing caller call blocks Write = writing_asks real named caller call (write_within standing blocks)
asking_asks real named standing caller call blocks Control = tt
asking_asks real named standing caller call blocks ReadImplicit = reading_asks real named request.ReadImplicit caller call (request_of blocks)

-- ---- the cases

module _ (station : Station) (live : Live) (answers : List BlockError) (heard : Heard) where
  -- What becomes of what is asked with an outcome.
  abbrev AskedBy : Handled → Type 0
  AskedBy what = Goes heard live.rest.asked (finished station.identity live.rest what answers).rest.asked

  stays : Goes heard live.rest.asked live.rest.asked
  stays = same heard live.rest.asked

  request_asked : (asker : Mac) (asked : Service) (request : Asked) → AskedBy (handled_request station live asker asked request)
  request_asked asker service.Identify request =
      cond_both (matches station.identity live.values.running (alias_in live.rest.peer) request) _ _ AskedBy (λ _. stays) (λ _. stays)
  request_asked asker service.Get request = stays
  request_asked asker service.Set request =
      inl (left_keeps (ended_by (farewell_at (resets (plan_of (is_some live.rest.link) request) answers) live.rest.link)) live.rest.asked)

  effect_asked : (caller : Caller) (call : Call) (header : IodWriteReq) (effect : Effect) → AskedBy (handled_effect station live caller call header effect)
  effect_asked caller call header (Stores value) = stays
  effect_asked caller call header (Takes parameter) = stays

  write_asked : (caller : Caller) (call : Call) (writing : Result Writing CallFault) → AskedBy (handled_write station live caller call writing)
  write_asked caller call (Ok (One write)) = effect_asked caller call write.request write.effect
  write_asked caller call (Ok (Each header entries)) = stays
  write_asked caller call (Err fault) = stays

  own_asked : (caller : Caller) (call : Call) (blocks : List ℕ) (operation : Operation) → AskedBy (handled_own station live caller call blocks operation)
  own_asked caller call blocks Connect = stays
  own_asked caller call blocks Release =
      inl (left_keeps (released_by (release_answer live.rest.link blocks) (uuid_of live.rest.link)) live.rest.asked)
  own_asked caller call blocks Read = stays
  own_asked caller call blocks Write = write_asked caller call (writing_of (uuid_of live.rest.link) live.rest.real blocks)
  own_asked caller call blocks Control = cond_both (is_plug_control blocks live.rest.link) _ _ AskedBy (λ _. stays) (λ _. stays)
  own_asked caller call blocks ReadImplicit = stays

  -- A call is asked, if no other one is, or the other one gives way.
  question_asked : (question : Question) (octets : List ℕ) → IsHeardCall heard question → (standing : Option Standing)
      → AskedBy (handled_question station live question None (asks_beside question octets live.rest.asked standing))
  question_asked question octets is None = inr (record { last = refl; question = question; asked = refl; is = is })
  question_asked question octets is (Some standing) = stays

  displaced_asked : (asking : Asking) → IsHeardCall heard asking.0 → (displaced : Option Question) → AskedBy (handled_asked station live asking displaced)
  displaced_asked asking is None = question_asked asking.0 asking.1 is live.rest.asked.standing
  displaced_asked asking is (Some other) = inr (record { last = refl; question = asking.0; asked = refl; is = is })

  asking_asked : (caller : Caller) (call : Call) (blocks : List ℕ) (operation : Operation) (asking : Result (Option Asking) CallFault) → AsksOf caller call asking
      → ((question : Question) → IsOf caller call question → IsHeardCall heard question) → AskedBy (handled_asking station live caller call blocks operation asking)
  asking_asked caller call blocks operation (Ok None) of is = own_asked caller call blocks operation
  asking_asked caller call blocks operation (Ok (Some asking)) of is =
      displaced_asked asking (is asking.0 of) (displaced_by station.options.asks_own_first asking.0 live.rest.asked)
  asking_asked caller call blocks operation (Err fault) of is = stays

  unanswered_asked : (caller : Caller) (call : Call) (blocks : List ℕ) (operation : Operation)
      → ((question : Question) → IsOf caller call question → IsHeardCall heard question) → AskedBy (handled_unanswered station live caller call blocks operation)
  unanswered_asked caller call blocks operation is =
      cond_both (is_repeat call.header.activity call.header.sequence live.rest.asked) _ _ AskedBy (λ _. stays)
      (λ _. asking_asked caller call blocks operation (asking_of live.rest.real station.named (uuid_of live.rest.link) caller call blocks operation)
      (asking_asks live.rest.real station.named (uuid_of live.rest.link) caller call blocks operation) is)

  looked_asked : (caller : Caller) (call : Call) (blocks : List ℕ) (operation : Operation) (reported : Looked)
      → ((question : Question) → IsOf caller call question → IsHeardCall heard question) → AskedBy (handled_looked station live caller call blocks operation reported)
  looked_asked caller call blocks operation new is = unanswered_asked caller call blocks operation is
  looked_asked caller call blocks operation (again frame) is = stays
  looked_asked caller call blocks operation old is = stays

  blocks_asked : (caller : Caller) (call : Call) (operation : Operation) (blocks : Option (List ℕ))
      → ((question : Question) → IsOf caller call question → IsHeardCall heard question) → AskedBy (handled_blocks station live caller call operation blocks)
  blocks_asked caller call operation None is = stays
  blocks_asked caller call operation (Some blocks) is =
      looked_asked caller call blocks operation (looked_if (is_kept station.options operation) call.header.activity call.header.sequence live.rest.calls) is

  call_asked : (caller : Caller) (call : Call) (operation : Option Operation)
      → ((question : Question) → IsOf caller call question → IsHeardCall heard question) → AskedBy (handled_call station live caller call operation)
  call_asked caller call None is = stays
  call_asked caller call (Some operation) is = blocks_asked caller call operation call.blocks is

  answer_asked : (answer : ReadyAnswer) → AskedBy (handled_answer station live answer)
  answer_asked to_ready.NotWanted = stays
  answer_asked to_ready.Garbled = stays
  answer_asked to_ready.Confirmed = stays
  answer_asked (to_ready.Refused farewell) = inl (left_keeps (Some farewell.uuid) live.rest.asked)

  plug_answer_asked : (response : Answered) (answer : PlugAnswer) → AskedBy (handled_plug_answer live response answer)
  plug_answer_asked response to_plug.NotWanted = stays
  plug_answer_asked response to_plug.Garbled = stays
  plug_answer_asked response to_plug.Confirmed = stays
  plug_answer_asked response to_plug.Refused = stays

  response_asked : (response : Answered) → AskedBy (handled_response station live response)
  response_asked response = cond_both (is_in_exchange live.rest.link) _ _ AskedBy
      (λ _. plug_answer_asked response (plug_answer_in response live.rest.link)) (λ _. answer_asked (ready_answer response live.rest.link))

  said_asked : (caller : Caller) (address : List ℕ) (said : Said) → heard ≡ Reported caller address said → AskedBy (handled_said station live caller said)
  said_asked caller address (Calls call) is = call_asked caller call (operation_of call.header.operation)
      (λ question of. record {
        address = address;
        call = call;
        is = is ∙ ap (λ (c : Caller). Reported c address (Calls call)) (sym of.caller);
        header = of.header;
        maximum = of.maximum;
      })
  said_asked caller address (Responds response) is = response_asked response
  said_asked caller address Garbled is = stays

  pdu_asked : (came : PduFate) (link : Option RelationState) → AskedBy (handled_pdu live came link)
  pdu_asked (fate.Data taken) link = stays
  pdu_asked fate.Done link = stays
  pdu_asked fate.Ignored link = stays
  pdu_asked (fate.Aborted status) link = inl (left_keeps (uuid_of live.rest.link) live.rest.asked)

  alarm_asked : (source : Mac) (header : Header) (message : ToDevice) → AskedBy (handled_alarm live source header message)
  alarm_asked source header message = cond_both (is_alarm_of source header.destination header.source live.rest.link) _ _ AskedBy
      (λ _. pdu_asked (heard_by message live.rest.link) (updated (hearing message live.rest.link) live.rest.link)) (λ _. stays)

  low_pdu_asked : (came : PduFate) (link : Option RelationState) → AskedBy (handled_low_pdu station live came link)
  low_pdu_asked (fate.Data taken) link = stays
  low_pdu_asked fate.Done link = stays
  low_pdu_asked fate.Ignored link = stays
  low_pdu_asked (fate.Aborted status) link = stays

  low_asked : (source : Mac) (header : Header) (message : ToDevice) → AskedBy (handled_low station live source header message)
  low_asked source header message = cond_both (is_alarm_of source header.destination header.source live.rest.link) _ _ AskedBy
      (λ _. low_pdu_asked (heard_low message live.rest.link) (updated (hearing_low message live.rest.link) live.rest.link)) (λ _. stays)

  received_asked : (came : Received) (link : Option RelationState) → AskedBy (handled_received live came link)
  received_asked received.Foreign link = stays
  received_asked received.Short link = stays
  received_asked received.Stale link = stays
  received_asked received.Taken link = stays

  -- ---- the application

  judged_asked : (given : Gives) (judgement : Result Question AnswerFault) → AskedBy (handled_judged station live given judgement)
  judged_asked given (Ok question) = inl (settled_keeps live.rest.asked)
  judged_asked given (Err fault) = stays

  input_asked : (given : Option Flow) → AskedBy (handled_input live given)
  input_asked None = stays
  input_asked (Some flow) = stays

  notice_asked : (raised : Option Flow) → AskedBy (handled_notice live raised)
  notice_asked None = stays
  notice_asked (Some flow) = stays

  status_asked : (slot subslot : ℕ) (is_good : Bool) (statuses : Option (List InputStatus)) → AskedBy (kept_status live slot subslot is_good statuses)
  status_asked slot subslot is_good None = stays
  status_asked slot subslot is_good (Some statuses) = stays

  change_asked : (change : Change) (diagnoses : Option (List Diagnosis)) → AskedBy (handled_change station live change diagnoses)
  change_asked change None = stays
  change_asked change (Some diagnoses) = stays

  modules_asked : (made : RealChange) (real : Option (List RealModule)) → AskedBy (handled_modules live made real)
  modules_asked made None = stays
  modules_asked made (Some real) = cond_both (is_crowded (affected_by made) live.rest.link) _ _ AskedBy (λ _. stays)
      (λ _. inl (dropped_keeps (affected_by made) live.rest.asked))

  local_asked : (said : Local (ArrayVec ℕ)) → AskedBy (handled_local station live said)
  local_asked (local.Answer number octets) = judged_asked (gives_octets octets.items) (judged number (gives_octets octets.items) live.rest.asked)
  local_asked (local.Written number) = judged_asked gives_done (judged number gives_done live.rest.asked)
  local_asked (local.Refuse number code1 code2) = judged_asked (gives_refusal code1 code2) (judged number (gives_refusal code1 code2) live.rest.asked)
  local_asked (local.Input slot subslot value) = input_asked (given_to slot subslot value.items live.rest.link)
  local_asked (local.Alarm slot subslot octets) = notice_asked (raised_to live.rest.real.modules.items slot subslot octets.items live.rest.link)
  local_asked (local.Status slot subslot is_good) = status_asked slot subslot is_good
      (statuses_at live.rest.real.modules.items (record { slot = slot; subslot = subslot; is_good = is_good }) live.rest.statuses)
  local_asked (local.Diagnosis slot subslot channel error appears) =
      let change = change_of slot subslot channel error appears in
      cond_both (may_be_diagnosed station live change) _ _ AskedBy (λ _. change_asked change (changed change live.rest.diagnoses)) (λ _. stays)
  local_asked (local.Pull slot subslot) =
      modules_asked (pull_of live.rest.real.modules.items slot subslot) (outside slot (pulled slot subslot live.rest.real.modules.items))
  local_asked (local.PullModule slot) =
      modules_asked (slot_pull_of live.rest.real.modules.items slot) (outside slot (slot_pulled slot live.rest.real.modules.items))
  local_asked (local.Plug slot ident part) = modules_asked (plug_of slot ident part) (plugged_with slot ident part live.rest.real.modules.items)
  local_asked (local.ReadyAt slot subslot) = cond_both (is_readied_in slot subslot live.rest.link) _ _ AskedBy (λ _. stays) (λ _. stays)
  local_asked local.Ready = cond_both (is_preparing (phase_of live.rest.link)) _ _ AskedBy (λ _. stays) (λ _. stays)
  local_asked (local.ProviderState is_running) = stays

  -- ---- time

  ticks_asked : AskedBy (ticked station live)
  ticks_asked =
      let left = left_asked (ended_by (due_of live.rest.link).farewell) live.rest.asked in
      inl (keeps_on live.rest.asked left (asked_later (length (unit_sent live)) left)
      (left_keeps (ended_by (due_of live.rest.link).farewell) live.rest.asked) (later_keeps (length (unit_sent live)) left))

-- What becomes of the call that is asked with any event.
pub asked_goes : (station : Station) (live : Live) (answers : List BlockError) (heard : Heard)
    → Goes heard live.rest.asked (finished station.identity live.rest (handled station live heard) answers).rest.asked
asked_goes station live answers (Asks asker request) = request_asked station live answers (Asks asker request) asker request.service request
asked_goes station live answers (Resolves asker packet) =
    let heard = Resolves asker packet in
    cond_both (is_request packet.operation && is_running live.values.running packet.target.address) _ _ (AskedBy station live answers heard)
    (λ _. stays station live answers heard) (λ _. stays station live answers heard)
asked_goes station live answers (Reported caller address said) =
    let heard = Reported caller address said in
    cond_both (is_running live.values.running address) _ _ (AskedBy station live answers heard)
    (λ _. said_asked station live answers heard caller address said refl) (λ _. stays station live answers heard)
asked_goes station live answers (Alarms source header message) = alarm_asked station live answers (Alarms source header message) source header message
asked_goes station live answers (LowReplies source header message) =
    let heard = LowReplies source header message in
    cond_both (has_sent_low live.rest.link) _ _ (AskedBy station live answers heard)
    (λ _. low_asked station live answers heard source header message) (λ _. alarm_asked station live answers heard source header message)
asked_goes station live answers (LowConfirms source header message) =
    let heard = LowConfirms source header message in
    cond_both (has_sent_low live.rest.link) _ _ (AskedBy station live answers heard)
    (λ _. low_asked station live answers heard source header message) (λ _. stays station live answers heard)
asked_goes station live answers (Cyclic source frame_id body) =
    received_asked station live answers (Cyclic source frame_id body) (received_by source frame_id body live.rest.link)
    (updated (receiving source frame_id body live.rest.link) live.rest.link)
asked_goes station live answers (Met peer) = stays station live answers (Met peer)
asked_goes station live answers (Applied said) = local_asked station live answers (Applied said) said
asked_goes station live answers Ticks = ticks_asked station live answers Ticks
asked_goes station live answers Unreadable = stays station live answers Unreadable
asked_goes station live answers Elsewhere = stays station live answers Elsewhere
