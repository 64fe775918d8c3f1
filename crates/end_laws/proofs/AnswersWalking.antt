-- What a device sends and stores in each step.
use Rattle.std.proofs.Common.{◌≡◌, ◌&&◌, ℕ, Bool, true, false, cond, List, [], ◌∷◌, ◌++◌, length, Option, Some, None, is_some, option_map, Result, Ok, Err, refl, sym, subst}
use Rattle.std.specs.List.{AllByRecursion}
use Rattle.std.proofs.lemmas.Bool.{cond_both}
use Rattle.arrayvec.specs.ArrayVec.{ArrayVec}
use Rattle.pn_values.specs.declared.mac.Mac.{Mac}
use Rattle.pn_values.specs.declared.set_item.BlockError.{BlockError}
use Rattle.settings_journal.specs.settings_store.Machine.{Outcome, carried}
use Rattle.dcp_core.specs.declared.request.Service.{Service}
use Rattle.dcp_core.specs.declared.request.Service.TheVariants as service
use Rattle.dcp_core.specs.Request.{Asked}
use Rattle.dcp_core.specs.Identify.{matches}
use Rattle.rpc_core.specs.Call.{Asked as Called}
use Rattle.records.specs.declared.status.operation.Operation.{Operation}
use Rattle.records.specs.declared.status.operation.Operation.TheVariants.{Connect, Release, Read, Write, Control, ReadImplicit}
use Rattle.records.specs.declared.status.call_fault.CallFault.{CallFault}
use Rattle.records.specs.declared.status.call_fault.CallFault.TheVariants.{Arguments}
use Rattle.records.specs.status.Operation.{operation_of}
use Rattle.record_blocks.specs.declared.write_record.IodWriteReq.{IodWriteReq}
use Rattle.records.specs.declared.writes.write.Effect.{Effect}
use Rattle.records.specs.declared.writes.write.Effect.TheVariants.{Stores, Keeps}
use Rattle.records.specs.declared.writes.writing.Writing.{Writing}
use Rattle.records.specs.declared.writes.writing.Writing.TheVariants.{One, Each}
use Rattle.records.specs.writes.Asked.{writing_of}
use Rattle.pn_alarms.specs.declared.device.PduFate.{PduFate}
use Rattle.pn_alarms.specs.declared.device.PduFate.TheVariants as fate
use Rattle.cyclic_data.specs.declared.exchange.received.Received.{Received}
use Rattle.cyclic_data.specs.declared.exchange.received.Received.TheVariants as received
use Rattle.relations.specs.exchange.Flow.{Flow}
use Rattle.relations.specs.Exchanged.{heard_by, hearing, received_by, receiving}
use Rattle.relations.specs.declared.hearing.ReadyAnswer.{ReadyAnswer}
use Rattle.relations.specs.declared.hearing.ReadyAnswer.TheVariants as to_ready
use Rattle.asked_records.specs.Answers.{Gives, gives_done, gives_octets, gives_refusal, answer_blocks, answer_status, judged, unanswered_status}
use Rattle.asked_records.specs.Asked.{AskedState, asks, behind_displaced, displaced_by, is_repeat}
use Rattle.asked_records.specs.Questions.{call_of, operation_of as operation_asked}
use Rattle.asked_records.specs.declared.answering.AnswerFault.{AnswerFault}
use Rattle.asked_records.specs.declared.question.Question.{Question}
use Rattle.asked_records.specs.declared.status.Unanswered.{Unanswered}
use Rattle.asked_records.specs.declared.status.Unanswered.TheVariants.{Busy, Late}
use Rattle.pn_values.specs.IpSuite.{is_zero}
use Rattle.device_records.specs.Reading.{implicit_read, relation_read}
use Rattle.relations.specs.Connect.{connect_answer, connect_within, making}
use Rattle.relations.specs.Ready.{answer_of as ready_answer}
use Rattle.frame_codec.specs.declared.udp.Caller.{Caller}
use Rattle.pn_alarms.specs.declared.pdu.Header.{Header}
use Rattle.pn_alarms.specs.Message.{ToDevice}
use Rattle.device_frames.specs.Heard.{Heard, Ticks, Unreadable, Elsewhere, Asks, Resolves, Reported, Cyclic, Alarms, LowReplies, LowConfirms, Applied, Met, Said, Calls, Responds, Garbled}
use Rattle.device_frames.specs.declared.local.Local.{Local}
use Rattle.device_frames.specs.declared.local.Local.TheVariants as local
use Rattle.device_core.specs.Local.{ApplicationIsLocal, IsOfRelation, is_answer}
use Rattle.device_core.specs.Several.{judged_each}
use Rattle.pn_values.specs.declared.identity.Identity.{Identity}
use Rattle.connect_blocks.specs.declared.control.ControlBlock.{ControlBlock}
use Rattle.cyclic_data.specs.declared.exchange.route.Route.{Route}
use Rattle.pn_alarms.specs.declared.receiver.Taken.{Taken}
use Rattle.rpc_core.specs.Cache.{Reported as Looked, new, again, old, looked, behind_reported}
use Rattle.relations.specs.declared.farewell.Farewell.{Farewell}
use Rattle.relations.specs.Timers.{Due, due_of}
use Rattle.relations.specs.RelationState.{RelationState, uuid_of, flow_of, is_alarm_of, is_in_exchange}
use Rattle.relations.specs.exchange.Frames.{Frame, alarm_frame, low_alarm_frame}
use Rattle.relations.specs.Phases.{Named, Parameterized, answered, keeping, passing, updated}
use Rattle.relations.specs.Calls.{prm_end_of, prm_end_answer, release_answer}
use Rattle.relations.specs.Diagnosed.{begin_one, beginning, has_sent_low, heard_low, hearing_low, report_one, reporting}
use Rattle.relations.specs.Ready.{handled_by}
use Rattle.device_frames.specs.Relation.{alarms_of, due_frames, farewells_in, frames_in, inputs_of, low_alarms_of, low_replies_of, plug_call_in, plug_calls, ready_calls, replies_of, where_due}
use Rattle.device_frames.specs.Sendable.{AreSendable, IsSendable}
use Rattle.device_frames.specs.Sent.{Sent, IdentifyAnswer, GetAnswer, SetAnswer, ArpReply, CallAnswer, Again, Ends, bytes_of}
use Rattle.rpc_core.specs.declared.response.Status.{Status}
use Rattle.rpc_core.specs.Response.{Answered, answer_to}
use Rattle.expected_places.specs.declared.calls.PlugCall.{PlugCall}
use Rattle.relations.specs.declared.plugging.PlugAnswer.{PlugAnswer}
use Rattle.relations.specs.declared.plugging.PlugAnswer.TheVariants as to_plug
use Rattle.relations.specs.Plugging.{calling_next, is_calling, is_plug_control, plug_answer_in, plug_answering, plug_end_answer, plug_end_in, plug_ending, ready_for}
use Rattle.device_core.specs.State.{Station, Live, Rest, alias_in, counter_of, units_after}
use Rattle.device_core.specs.Asking.{Asking, asking_of, calls_after, is_kept, is_new, kept_if, kept_reply, late_in, late_sent, looked_if, question_replies, refused_calls, refused_sent, reply_to}
use Rattle.device_core.specs.Log.{but_rest, connect_log, with_log}
use Rattle.device_core.specs.Modules.{call_after, next_call_sent}
use Rattle.device_core.specs.Handled.{counted_by, number_now, starting_of, served as served_by, Handled, is_running, is_request, answer_from, kept_for, kept_answer, outcome_of, partner_of, ready_behind, handled_request, handled_effect, handled_next_call, handled_plug_answer, handled_plug_end, handled_prm_end, handled_write, handled_asking, handled_judged, handled_looked, handled_own, handled_question, handled_blocks, handled_call, handled_answer, handled_said, handled_pdu, handled_received, handled, known_of, handled_alarm, handled_local, handled_low, handled_low_pdu, ticked, unit_rest, unit_sent}
use Rattle.device_core.specs.Machine.{farewells_at, items_in, first_answer, resets, several_answer, written_as, finished, heard_step, handled_step}
use Rattle.dcp_core.specs.Set.{plan_of}
use Rattle.end_laws.specs.answers.Whole.{AreStoredWhole, IsAnsweredWhole, IsOneDatagram}
use Rattle.end_laws.proofs.AnswersReading.{DatagramsAreRead, ResponsesAreRead, answer_whole}
use Rattle.end_laws.proofs.AnswersStoring.{each_again, each_more}

-- ---- messages that are no answers to calls

abbrev IsOther : Sent → Type 0
IsOther (CallAnswer caller address answer) = ⊥
IsOther (Again frame) = ⊥
IsOther message = Unit {0}

abbrev AreOthers : List Sent → Type 0
AreOthers messages = AllByRecursion IsOther messages

others_then : (front back : List Sent) → AreOthers front → AreOthers back → AreOthers (front ++ back)
others_then [] back first last = last
others_then (message ∷ front) back first last = (first.0, others_then front back first.1 last)

due_other : (b : Bool) (messages : List Sent) → AreOthers messages → AreOthers (where_due b messages)
due_other true messages others = others
due_other false messages others = tt

farewells_other : (farewell : Option Farewell) → AreOthers (farewells_in farewell)
farewells_other None = tt
farewells_other (Some farewell) = (tt, tt)

frames_other : (route : Route) (frame : Option Frame) → AreOthers (frames_in route frame)
frames_other route None = tt
frames_other route (Some frame) = (tt, tt)

alarms_other : (flow : Option Flow) → AreOthers (alarms_of flow)
alarms_other None = tt
alarms_other (Some flow) = frames_other flow.cyclic.route (alarm_frame flow)

low_alarms_other : (flow : Option Flow) → AreOthers (low_alarms_of flow)
low_alarms_other None = tt
low_alarms_other (Some flow) = frames_other flow.cyclic.route (low_alarm_frame flow)

inputs_other : (counter : ℕ) (flow : Option Flow) → AreOthers (inputs_of counter flow)
inputs_other counter None = tt
inputs_other counter (Some flow) = (tt, tt)

replies_other : (taken : Taken) (flow : Option Flow) → AreOthers (replies_of taken flow)
replies_other taken None = tt
replies_other taken (Some flow) = (tt, tt)

low_replies_other : (taken : Taken) (flow : Option Flow) → AreOthers (low_replies_of taken flow)
low_replies_other taken None = tt
low_replies_other taken (Some flow) = (tt, tt)

calls_other : (address : List ℕ) (link : Option RelationState) → AreOthers (ready_calls address link)
calls_other address None = tt
calls_other address (Some link) = (tt, tt)

plug_calls_other : (address : List ℕ) (link : Option RelationState) → AreOthers (plug_calls address link)
plug_calls_other address None = tt
plug_calls_other address (Some link) = by_standing link.plugs.calls.standing
  where
    by_standing : (standing : Option PlugCall) → AreOthers (plug_call_in address (option_map (ready_for link) standing))
    by_standing None = tt
    by_standing (Some call) = (tt, tt)

next_other : (address : List ℕ) (link : Option RelationState) → AreOthers (next_call_sent address link)
next_other address link = due_other (is_calling link) (plug_calls address (calling_next link)) (plug_calls_other address (calling_next link))

after_other : {A : Type 0} (ended : Result A CallFault) (address : List ℕ) (link : Option RelationState) → AreOthers (call_after ended address link)
after_other (Ok it) address link = next_other address link
after_other (Err fault) address link = tt

ready_other : (by_application : Bool) (address : List ℕ) (link : Option RelationState) (ended : Result ControlBlock CallFault) → AreOthers (ready_behind by_application address link ended)
ready_other true address link (Ok block) = tt
ready_other false address link (Ok block) = calls_other address link
ready_other by_application address link (Err fault) = tt

ends_other : (ends : Bool) (link : Option RelationState) → AreOthers (farewells_at ends link)
ends_other true None = tt
ends_other true (Some link) = (tt, tt)
ends_other false link = tt

unit_other : (address : List ℕ) (counter : ℕ) (due : Due) (link : Option RelationState) → AreOthers (due_frames address counter due link)
unit_other address counter due link =
    others_then (farewells_in due.farewell) _ (farewells_other due.farewell)
    (others_then (where_due due.is_alarm (alarms_of (flow_of link))) _ (due_other due.is_alarm _ (alarms_other (flow_of link)))
    (others_then (where_due due.is_low (low_alarms_of (flow_of link))) _ (due_other due.is_low _ (low_alarms_other (flow_of link)))
    (others_then (where_due due.is_ready (ready_calls address link)) _ (due_other due.is_ready _ (calls_other address link))
    (others_then (where_due due.is_plug_ready (plug_calls address link)) _ (due_other due.is_plug_ready _ (plug_calls_other address link))
    (due_other due.is_cyclic _ (inputs_other counter (flow_of link)))))))

other_whole : (identity : Identity) (message : Sent) → IsOther message → IsAnsweredWhole identity message
other_whole identity (CallAnswer caller address answer) other = absurd other
other_whole identity (Again frame) other = absurd other
other_whole identity message other = tt

others_whole : (identity : Identity) (messages : List Sent) → AreOthers messages → AllByRecursion (IsAnsweredWhole identity) messages
others_whole identity [] others = tt
others_whole identity (message ∷ messages) others = (other_whole identity message others.0, others_whole identity messages others.1)

-- what holds of each message of two lists
all_both : (P : Sent → Type 0) (front back : List Sent) → AllByRecursion P front → AllByRecursion P back → AllByRecursion P (front ++ back)
all_both P [] back first last = last
all_both P (message ∷ front) back first last = (first.0, all_both P front back first.1 last)

all_back : (P : Sent → Type 0) (front back : List Sent) → AllByRecursion P (front ++ back) → AllByRecursion P back
all_back P [] back all = all
all_back P (message ∷ front) back all = all_back P front back all.1

relation_other : (message : Sent) → IsOfRelation message → IsOther message
relation_other (CallAnswer caller address answer) is = absurd is
relation_other (Again frame) is = absurd is
relation_other message is = tt

relation_others : (messages : List Sent) → AllByRecursion IsOfRelation messages → AreOthers messages
relation_others [] are = tt
relation_others (message ∷ messages) are = (relation_other message are.0, relation_others messages are.1)

-- ---- outcomes

module _ (datagrams : DatagramsAreRead) (reads : ResponsesAreRead) (local_is : ApplicationIsLocal) (station : Station) (live : Live) (answers : List BlockError) where
  -- What is sent and stored after an outcome is whole, if what is sent can be sent and what was stored is whole.
  abbrev IsGood : Handled → Type 0
  IsGood what =
      AreSendable station.identity (finished station.identity live.rest what answers).sent → AreStoredWhole live.rest.calls
      → AllByRecursion (IsAnsweredWhole station.identity) (finished station.identity live.rest what answers).sent
      × AreStoredWhole (finished station.identity live.rest what answers).rest.calls

  -- nothing is sent, and nothing more is stored
  abbrev Silent : Type 0
  Silent = AreSendable station.identity [] → AreStoredWhole live.rest.calls → AllByRecursion (IsAnsweredWhole station.identity) [] × AreStoredWhole live.rest.calls

  silent : Silent
  silent can stored = (tt, stored)

  -- no answer to a call is sent, and nothing more is stored
  quiet : (messages : List Sent) → AreOthers messages → AreSendable station.identity messages → AreStoredWhole live.rest.calls
      → AllByRecursion (IsAnsweredWhole station.identity) messages × AreStoredWhole live.rest.calls
  quiet messages others can stored = (others_whole station.identity messages others, stored)

  kept_whole : (call : Called) (message : Sent) (kept : Bool) → IsOneDatagram (bytes_of station.identity message) → AreStoredWhole live.rest.calls
      → AreStoredWhole (kept_if kept (kept_for station.identity call message) live.rest.calls)
  kept_whole call message true whole stored = each_more IsOneDatagram (kept_for station.identity call message) live.rest.calls whole stored
  kept_whole call message false whole stored = stored

  -- an answer is sent, and stored or not, and then no other answer is sent
  served : (caller : Caller) (call : Called) (operation : Operation) (outcome : Result (List ℕ) CallFault) (messages : List Sent) → AreOthers messages
      → AreSendable station.identity (answer_from live.values.running.suite.address caller call operation outcome ∷ messages) → AreStoredWhole live.rest.calls
      → AllByRecursion (IsAnsweredWhole station.identity) (answer_from live.values.running.suite.address caller call operation outcome ∷ messages)
      × AreStoredWhole (kept_if (is_kept station.options operation)
      (kept_for station.identity call (answer_from live.values.running.suite.address caller call operation outcome)) live.rest.calls)
  served caller call operation outcome messages others can stored =
      let message = answer_from live.values.running.suite.address caller call operation outcome in
      let answer = answer_to call (outcome_of operation outcome).0 (outcome_of operation outcome).1 in
      let whole = answer_whole datagrams reads station.identity caller live.values.running.suite.address answer can.0 in
      ((whole, others_whole station.identity messages others), kept_whole call message (is_kept station.options operation) (answer, whole) stored)

  -- ---- the response to what is asked

  abbrev reply : Question → Status → List ℕ → Sent
  reply question status blocks = reply_to live.values.running.suite.address question status blocks

  -- what the stored answers say of its call
  abbrev of_call : Question → Looked
  of_call question = looked question.header.activity question.header.sequence live.rest.calls

  -- it is sent and stored, unless a later call of its activity was answered
  replies_as : (question : Question) (status : Status) (blocks : List ℕ) (reported : Looked)
      → AreSendable station.identity (where_due (is_new reported) (reply question status blocks ∷ [])) → AreStoredWhole live.rest.calls
      → AllByRecursion (IsAnsweredWhole station.identity) (where_due (is_new reported) (reply question status blocks ∷ []))
      × AreStoredWhole (behind_reported 4 (kept_reply station.identity question (reply question status blocks)) live.rest.calls reported)
  replies_as question status blocks new can stored =
      let answer = answer_to (call_of question) status blocks in
      let whole = answer_whole datagrams reads station.identity question.caller live.values.running.suite.address answer can.0 in (
        (whole, tt),
        each_more IsOneDatagram (kept_reply station.identity question (reply question status blocks)) live.rest.calls (answer, whole) stored,
      )
  replies_as question status blocks (again frame) can stored = (tt, stored)
  replies_as question status blocks old can stored = (tt, stored)

  -- the same if it is stored, or not
  sent_as : (question : Question) (status : Status) (blocks : List ℕ) (kept : Bool)
      → AreSendable station.identity (question_replies kept question (reply question status blocks) live.rest.calls) → AreStoredWhole live.rest.calls
      → AllByRecursion (IsAnsweredWhole station.identity) (question_replies kept question (reply question status blocks) live.rest.calls)
      × AreStoredWhole (calls_after kept station.identity question (reply question status blocks) live.rest.calls)
  sent_as question status blocks true = replies_as question status blocks (of_call question)
  sent_as question status blocks false = λ can stored.
      ((answer_whole datagrams reads station.identity question.caller live.values.running.suite.address (answer_to (call_of question) status blocks) can.0, tt), stored)

  -- the same if the device has an IP address; else it is dropped
  later_as : (question : Question) (status : Status) (blocks : List ℕ) (kept zero : Bool)
      → AreSendable station.identity (cond zero [] (question_replies kept question (reply question status blocks) live.rest.calls)) → AreStoredWhole live.rest.calls
      → AllByRecursion (IsAnsweredWhole station.identity) (cond zero [] (question_replies kept question (reply question status blocks) live.rest.calls))
      × AreStoredWhole (cond zero live.rest.calls (calls_after kept station.identity question (reply question status blocks) live.rest.calls))
  later_as question status blocks kept true = λ can stored. (tt, stored)
  later_as question status blocks kept false = sent_as question status blocks kept

  -- whether the response to a call that was asked is stored
  abbrev is_stored : Question → Bool
  is_stored question = is_kept station.options (operation_asked question.request)

  -- a call that was asked is refused
  refused_good : (reason : Unanswered) (found : Option Question)
      → AreSendable station.identity (refused_sent station.options live.values.running.suite.address reason found live.rest.calls)
      → AreStoredWhole live.rest.calls
      → AllByRecursion (IsAnsweredWhole station.identity) (refused_sent station.options live.values.running.suite.address reason found live.rest.calls)
      × AreStoredWhole (refused_calls station.options station.identity live.values.running.suite.address reason found live.rest.calls)
  refused_good reason None = λ can stored. (tt, stored)
  refused_good reason (Some question) =
      later_as question (unanswered_status (operation_asked question.request) reason) [] (is_stored question) (is_zero live.values.running.suite.address)

  question_good : (question : Question) (displaced : Option Question) (asked : Option AskedState) → IsGood (handled_question station live question displaced asked)
  question_good question displaced (Some asked) = refused_good Busy displaced
  question_good question displaced None = sent_as question (unanswered_status (operation_asked question.request) Busy) [] (is_stored question)

  judged_good : (given : Gives) (question : Result Question AnswerFault) → IsGood (handled_judged station live given question)
  judged_good given (Ok question) =
      later_as question (answer_status question.request given) (answer_blocks question.request given) (is_stored question) (is_zero live.values.running.suite.address)
  judged_good given (Err why) = silent

  ticked_good : IsGood (ticked station live)
  ticked_good can stored =
      let address = live.values.running.suite.address in
      let sent = unit_sent live in
      let found = late_in (length sent) (unit_rest live).asked in
      let late = refused_good Late found (all_back (IsSendable station.identity) sent (late_sent station.options address found live.rest.calls) can) stored in
      let others = unit_other address (counter_of (units_after 1 live.rest.units)) (due_of live.rest.link) (updated (passing live.rest.link) live.rest.link) in
      (all_both (IsAnsweredWhole station.identity) sent (late_sent station.options address found live.rest.calls) (others_whole station.identity sent others) late.0, late.1)

  -- ---- requests and calls

  request_good : (asker : Mac) (asked : Service) (request : Asked) → IsGood (handled_request station live asker asked request)
  request_good asker service.Identify request =
      cond_both (matches station.identity live.values.running (alias_in live.rest.peer) request) _ _ IsGood
      (λ _. quiet (IdentifyAnswer asker live.values.running request.xid ∷ []) (tt, tt)) (λ _. silent)
  request_good asker service.Get request = quiet (GetAnswer asker live.values.running (alias_in live.rest.peer) request ∷ []) (tt, tt)
  request_good asker service.Set request =
      let ends = resets (plan_of (is_some live.rest.link) request) answers in
      quiet (farewells_at ends live.rest.link ++ SetAnswer asker request answers ∷ []) (others_then (farewells_at ends live.rest.link) _ (ends_other ends live.rest.link) (tt, tt))

  effect_good : (caller : Caller) (call : Called) (header : IodWriteReq) (effect : Effect) → IsGood (handled_effect station live caller call header effect)
  effect_good caller call header (Stores value) = served caller call Write (written_as header (first_answer answers)) [] tt
  effect_good caller call header (Keeps parameter) = served caller call Write (kept_answer header (keeping parameter live.rest.link)) [] tt

  write_good : (caller : Caller) (call : Called) (writing : Result Writing CallFault) → IsGood (handled_write station live caller call writing)
  write_good caller call (Ok (One write)) = effect_good caller call write.request write.effect
  write_good caller call (Ok (Each header entries)) =
      let judged_so = judged_each station.named (uuid_of live.rest.link) live.rest.real entries in
      served caller call Write (Ok (several_answer header judged_so answers live.rest.link)) [] tt
  write_good caller call (Err fault) = served caller call Write (Err fault) [] tt

  connect_good : (caller : Caller) (call : Called) (blocks : List ℕ) (answer : Result (List ℕ) CallFault) (link : Option RelationState)
      → IsGood (served_by station (but_rest live (counted_by answer (with_log (connect_log blocks answer) live.rest))) caller call Connect answer link [])
  connect_good caller call blocks (Ok octets) link = served caller call Connect (Ok octets) [] tt
  connect_good caller call blocks (Err why) link = served caller call Connect (Err why) [] tt

  control_good : (caller : Caller) (call : Called) (blocks : List ℕ) → IsGood (handled_prm_end station live caller call blocks)
  control_good caller call blocks =
      let by_application = station.options.ready_by_application in
      let ended = prm_end_of live.rest.link blocks in
      let link = updated (answered (Named (partner_of caller)) ended) (updated (answered (Parameterized by_application) ended) live.rest.link) in
      served caller call Control (prm_end_answer live.rest.link blocks) (ready_behind by_application live.values.running.suite.address link ended)
      (ready_other by_application live.values.running.suite.address link ended)

  plug_good : (caller : Caller) (call : Called) (blocks : List ℕ) → IsGood (handled_plug_end station live caller call blocks)
  plug_good caller call blocks =
      let ended = plug_end_in blocks live.rest.link in
      let link = updated (answered (Named (partner_of caller)) ended) (plug_ending station.options.ready_by_application blocks live.rest.link) in
      served caller call Control (plug_end_answer ended) (call_after ended live.values.running.suite.address link)
      (after_other ended live.values.running.suite.address link)

  own_good : (caller : Caller) (call : Called) (blocks : List ℕ) (operation : Operation) → IsGood (handled_own station live caller call blocks operation)
  own_good caller call blocks Connect =
      connect_good caller call blocks (connect_answer station.identity live.rest.real station.options (number_now station live) caller.mac live.rest.link blocks)
      (updated (making live.rest.real (partner_of caller) station.options (starting_of station live) (connect_within station.options caller.mac live.rest.link blocks)) live.rest.link)
  own_good caller call blocks Release = served caller call Release (release_answer live.rest.link blocks) [] tt
  own_good caller call blocks Read =
      served caller call Read (relation_read (known_of station live) station.identity live.rest.real live.values.running blocks) [] tt
  own_good caller call blocks Write = write_good caller call (writing_of (uuid_of live.rest.link) live.rest.real blocks)
  own_good caller call blocks Control =
      cond_both (is_plug_control blocks live.rest.link) _ _ IsGood (λ _. plug_good caller call blocks) (λ _. control_good caller call blocks)
  own_good caller call blocks ReadImplicit =
      served caller call ReadImplicit (implicit_read (known_of station live) station.identity live.rest.real live.values.running blocks) [] tt

  asking_good : (caller : Caller) (call : Called) (blocks : List ℕ) (operation : Operation) (asking : Result (Option Asking) CallFault)
      → IsGood (handled_asking station live caller call blocks operation asking)
  asking_good caller call blocks operation (Ok None) = own_good caller call blocks operation
  asking_good caller call blocks operation (Ok (Some asking)) =
      let displaced = displaced_by station.options.asks_own_first asking.0 live.rest.asked in
      question_good asking.0 displaced (asks asking.0 asking.1 (behind_displaced displaced live.rest.asked))
  asking_good caller call blocks operation (Err why) = served caller call operation (Err why) [] tt

  -- a call that is answered again was answered
  again_if : (kept : Bool) (call : Called) (frame : List ℕ) → looked_if kept call.header.activity call.header.sequence live.rest.calls ≡ again frame
      → looked call.header.activity call.header.sequence live.rest.calls ≡ again frame
  again_if true call frame is = is
  again_if false call frame is = absurd cc

  looked_good : (caller : Caller) (call : Called) (blocks : List ℕ) (operation : Operation) (reported : Looked)
      → looked_if (is_kept station.options operation) call.header.activity call.header.sequence live.rest.calls ≡ reported
      → IsGood (handled_looked station live caller call blocks operation reported)
  looked_good caller call blocks operation new is =
      cond_both (is_repeat call.header.activity call.header.sequence live.rest.asked) _ _ IsGood (λ _. silent)
      (λ _. asking_good caller call blocks operation (asking_of live.rest.real station.named (uuid_of live.rest.link) caller call blocks operation))
  looked_good caller call blocks operation (again frame) is =
      λ can stored. (
        (
          each_again IsOneDatagram call.header.activity call.header.sequence live.rest.calls frame stored
              (again_if (is_kept station.options operation) call frame is),
          tt,
        ),
        stored,
      )
  looked_good caller call blocks operation old is = silent

  blocks_good : (caller : Caller) (call : Called) (operation : Operation) (blocks : Option (List ℕ)) → IsGood (handled_blocks station live caller call operation blocks)
  blocks_good caller call operation None =
      let answer = answer_to call (outcome_of operation (Err Arguments)).0 [] in
      λ can stored. ((answer_whole datagrams reads station.identity caller live.values.running.suite.address answer can.0, tt), stored)
  blocks_good caller call operation (Some blocks) = looked_good caller call blocks operation _ refl

  call_good : (caller : Caller) (call : Called) (operation : Option Operation) → IsGood (handled_call station live caller call operation)
  call_good caller call None = silent
  call_good caller call (Some operation) = blocks_good caller call operation call.blocks

  answer_good : (answer : ReadyAnswer) → IsGood (handled_answer station live answer)
  answer_good to_ready.NotWanted = silent
  answer_good to_ready.Garbled = silent
  answer_good to_ready.Confirmed =
      let real = live.rest.real.modules.items in
      let link = updated (handled_by to_ready.Confirmed) live.rest.link in
      let begun = begin_one real live.rest.diagnoses link in
      let messages = low_alarms_of (flow_of (updated (beginning real live.rest.diagnoses link) link)) in
      quiet (where_due begun messages) (due_other begun messages (low_alarms_other _))
  answer_good (to_ready.Refused farewell) = quiet (Ends farewell ∷ []) (tt, tt)

  next_good : (link : Option RelationState) → IsGood (handled_next_call live link)
  next_good link = quiet (next_call_sent live.values.running.suite.address link) (next_other live.values.running.suite.address link)

  plug_answer_good : (response : Answered) (answer : PlugAnswer) → IsGood (handled_plug_answer live response answer)
  plug_answer_good response to_plug.NotWanted = silent
  plug_answer_good response to_plug.Garbled = silent
  plug_answer_good response to_plug.Confirmed = next_good (plug_answering response live.rest.link)
  plug_answer_good response to_plug.Refused = next_good (plug_answering response live.rest.link)

  said_good : (caller : Caller) (said : Said) → IsGood (handled_said station live caller said)
  said_good caller (Calls call) = call_good caller call (operation_of call.header.operation)
  said_good caller (Responds response) =
      cond_both (is_in_exchange live.rest.link) _ _ IsGood (λ _. plug_answer_good response (plug_answer_in response live.rest.link))
      (λ _. answer_good (ready_answer response live.rest.link))
  said_good caller Garbled = silent

  pdu_good : (came : PduFate) (link : Option RelationState) → IsGood (handled_pdu live came link)
  pdu_good (fate.Data taken) link = quiet (replies_of taken (flow_of link)) (replies_other taken (flow_of link))
  pdu_good fate.Done link = silent
  pdu_good fate.Ignored link = silent
  pdu_good (fate.Aborted status) link = silent

  alarm_good : (source : Mac) (header : Header) (message : ToDevice) → IsGood (handled_alarm live source header message)
  alarm_good source header message =
      cond_both (is_alarm_of source header.destination header.source live.rest.link) _ _ IsGood
      (λ _. pdu_good (heard_by message live.rest.link) (updated (hearing message live.rest.link) live.rest.link)) (λ _. silent)

  low_pdu_good : (came : PduFate) (link : Option RelationState) → IsGood (handled_low_pdu station live came link)
  low_pdu_good (fate.Data taken) link =
      let next = updated (reporting link) link in
      quiet (low_replies_of taken (flow_of link) ++ where_due (report_one link) (low_alarms_of (flow_of next)))
      (others_then (low_replies_of taken (flow_of link)) _ (low_replies_other taken (flow_of link)) (due_other (report_one link) _ (low_alarms_other (flow_of next))))
  low_pdu_good fate.Done link = silent
  low_pdu_good fate.Ignored link = silent
  low_pdu_good (fate.Aborted status) link = silent

  low_good : (source : Mac) (header : Header) (message : ToDevice) → IsGood (handled_low station live source header message)
  low_good source header message =
      cond_both (is_alarm_of source header.destination header.source live.rest.link) _ _ IsGood
      (λ _. low_pdu_good (heard_low message live.rest.link) (updated (hearing_low message live.rest.link) live.rest.link)) (λ _. silent)

  received_good : (came : Received) (link : Option RelationState) → IsGood (handled_received live came link)
  received_good received.Foreign link = silent
  received_good received.Short link = silent
  received_good received.Stale link = silent
  received_good received.Taken link = silent

  spoken_good : (said : Local (ArrayVec ℕ)) → is_answer said ≡ false → IsGood (handled_local station live said)
  spoken_good said other = λ can stored.
      let is = local_is station live said other in (
        others_whole station.identity _ (relation_others _ (is.sends answers)),
        subst (λ (rest : Rest). AreStoredWhole rest.calls) (sym (is.keeps answers)) stored,
      )

  local_good : (said : Local (ArrayVec ℕ)) → IsGood (handled_local station live said)
  local_good (local.Answer number octets) = judged_good (gives_octets octets.items) (judged number (gives_octets octets.items) live.rest.asked)
  local_good (local.Written number) = judged_good gives_done (judged number gives_done live.rest.asked)
  local_good (local.Refuse number code1 code2) = judged_good (gives_refusal code1 code2) (judged number (gives_refusal code1 code2) live.rest.asked)
  local_good said = spoken_good said refl

  handled_good : (heard : Heard) → IsGood (handled station live heard)
  handled_good (Asks asker request) = request_good asker request.service request
  handled_good (Resolves asker packet) =
      cond_both (is_request packet.operation && is_running live.values.running packet.target.address) _ _ IsGood
      (λ _. quiet (ArpReply asker live.values.running.suite.address packet.sender ∷ []) (tt, tt)) (λ _. silent)
  handled_good (Reported caller address said) = cond_both (is_running live.values.running address) _ _ IsGood (λ _. said_good caller said) (λ _. silent)
  handled_good (Alarms source header message) = alarm_good source header message
  handled_good (LowReplies source header message) =
      cond_both (has_sent_low live.rest.link) _ _ IsGood (λ _. low_good source header message) (λ _. alarm_good source header message)
  handled_good (LowConfirms source header message) = cond_both (has_sent_low live.rest.link) _ _ IsGood (λ _. low_good source header message) (λ _. silent)
  handled_good (Cyclic source frame_id body) =
      received_good (received_by source frame_id body live.rest.link) (updated (receiving source frame_id body live.rest.link) live.rest.link)
  handled_good (Met peer) = silent
  handled_good (Applied said) = local_good said
  handled_good Ticks = ticked_good
  handled_good Unreadable = silent
  handled_good Elsewhere = silent

pub step_good : DatagramsAreRead → ResponsesAreRead → ApplicationIsLocal → (outcomes : List Outcome) (station : Station) (live : Live) (heard : Heard)
    → AreSendable station.identity (heard_step outcomes station live heard).sent → AreStoredWhole live.rest.calls
    → AllByRecursion (IsAnsweredWhole station.identity) (heard_step outcomes station live heard).sent × AreStoredWhole (heard_step outcomes station live heard).live.rest.calls
unfolding heard_step handled_step
step_good datagrams reads local_is outcomes station live heard =
    handled_good datagrams reads local_is station live (carried outcomes live.values (items_in (handled station live heard))).answers heard
