-- Two devices that are the same but for the answers stored for others take the same step, at anything but a call of others.
use Rattle.std.proofs.Common.{◌≡◌, ◌&&◌, ◌++◌, ℕ, Bool, true, false, not, length, List, [], ◌∷◌, Option, Some, None, Result, Ok, Err, if◌then◌else◌, refl, sym, ap, subst, ◌∙◌}
use Rattle.std.proofs.lemmas.Bool.{cond_both}
use Rattle.arrayvec.specs.ArrayVec.{ArrayVec}
use Rattle.pn_values.specs.IpSuite.{is_zero}
use Rattle.pn_values.specs.declared.mac.Mac.{Mac}
use Rattle.pn_values.specs.declared.real.RealModule.{RealModule}
use Rattle.module_diff.specs.declared.changes.RealChange.{RealChange}
use Rattle.module_diff.specs.Changes.{affected_by, plugged_with, pulled, slot_pulled}
use Rattle.frame_codec.specs.declared.udp.Caller.{Caller}
use Rattle.dcp_core.specs.declared.request.Service.{Service}
use Rattle.dcp_core.specs.declared.request.Service.TheVariants as service
use Rattle.dcp_core.specs.Identify.{matches}
use Rattle.dcp_core.specs.Request.{Asked}
use Rattle.rpc_core.specs.Call.{Asked as Call}
use Rattle.rpc_core.specs.Response.{Answered}
use Rattle.rpc_core.specs.declared.header.CallHeader.{CallHeader}
use Rattle.rpc_core.specs.Cache.{Kept, Reported as Looked, again, behind_reported, kept_more, kept_of, looked, new, old, reported_by}
use Rattle.record_blocks.specs.declared.write_record.IodWriteReq.{IodWriteReq}
use Rattle.records.specs.declared.status.call_fault.CallFault.{CallFault}
use Rattle.records.specs.declared.status.operation.Operation.{Operation}
use Rattle.records.specs.declared.status.operation.Operation.TheVariants.{Connect, Release, Read, Write, Control, ReadImplicit}
use Rattle.records.specs.declared.writes.write.Effect.{Effect}
use Rattle.records.specs.declared.writes.write.Effect.TheVariants.{Stores, Keeps}
use Rattle.records.specs.declared.writes.writing.Writing.{Writing}
use Rattle.records.specs.declared.writes.writing.Writing.TheVariants.{One, Each}
use Rattle.records.specs.status.Operation.{operation_of}
use Rattle.records.specs.writes.Asked.{writing_of}
use Rattle.cyclic_data.specs.declared.exchange.received.Received.{Received}
use Rattle.cyclic_data.specs.declared.exchange.received.Received.TheVariants as received
use Rattle.pn_alarms.specs.declared.device.PduFate.{PduFate}
use Rattle.pn_alarms.specs.declared.device.PduFate.TheVariants as fate
use Rattle.pn_alarms.specs.declared.pdu.Header.{Header}
use Rattle.pn_alarms.specs.Message.{ToDevice}
use Rattle.diagnosis.specs.Existing.{changed}
use Rattle.diagnosis.specs.declared.diagnosis.Change.{Change}
use Rattle.diagnosis.specs.declared.diagnosis.Diagnosis.{Diagnosis}
use Rattle.relations.specs.declared.exchange.statuses.InputStatus.{InputStatus}
use Rattle.relations.specs.declared.hearing.ReadyAnswer.{ReadyAnswer}
use Rattle.relations.specs.declared.hearing.ReadyAnswer.TheVariants as to_ready
use Rattle.relations.specs.exchange.Flow.{Flow}
use Rattle.relations.specs.exchange.Statuses.{statuses_at}
use Rattle.relations.specs.Diagnosed.{has_sent_low, heard_low, hearing_low}
use Rattle.relations.specs.Exchanged.{given_to, heard_by, hearing, raised_to, received_by, receiving}
use Rattle.relations.specs.Phases.{updated}
use Rattle.relations.specs.Ready.{answer_of as ready_answer}
use Rattle.relations.specs.declared.plugging.PlugAnswer.{PlugAnswer}
use Rattle.relations.specs.declared.plugging.PlugAnswer.TheVariants as to_plug
use Rattle.relations.specs.Plugging.{is_crowded, is_plug_control, is_readied_in, plug_answer_in}
use Rattle.relations.specs.RelationState.{RelationState, is_alarm_of, is_in_exchange, is_preparing, phase_of, uuid_of}
use Rattle.device_frames.specs.Heard.{Heard, Ticks, Unreadable, Elsewhere, Asks, Resolves, Reported, Cyclic, Alarms, LowReplies, LowConfirms, Met, Applied, Said, Calls, Responds, Garbled}
use Rattle.device_frames.specs.declared.local.Local.{Local}
use Rattle.device_frames.specs.declared.local.Local.TheVariants as local
use Rattle.relations.specs.Calls.{release_answer}
use Rattle.relations.specs.Timers.{due_of}
use Rattle.asked_records.specs.Answers.{Gives, answer_blocks, answer_status, gives_done, gives_octets, gives_refusal, judged, unanswered_status}
use Rattle.asked_records.specs.Asked.{AskedState, Standing, asks, asks_beside, behind_displaced, displaced_by, is_over, is_repeat, settled}
use Rattle.asked_records.specs.Questions.{operation_of as operation_asked}
use Rattle.asked_records.specs.declared.answering.AnswerFault.{AnswerFault}
use Rattle.asked_records.specs.declared.question.Question.{Question}
use Rattle.asked_records.specs.declared.status.Unanswered.{Unanswered}
use Rattle.asked_records.specs.declared.status.Unanswered.TheVariants.{Busy, Late}
use Rattle.device_frames.specs.Relation.{where_due}
use Rattle.device_frames.specs.Sent.{Sent}
use Rattle.device_core.specs.Asking.{Asking, answered_link, asked_later, asking_of, calls_after, ended_by, is_full, is_kept, is_new, kept_if, kept_reply, late_in, later_calls, later_replies, looked_if, question_replies, refused_calls, refused_reply, refused_sent, released_by, reply_to}
use Rattle.device_core.specs.State.{Live, Rest, Station, alias_in}
use Rattle.device_core.specs.Handled.{Handled, Refuses, Sets, Writes, WritesEach, Moves, change_of, handled, handled_alarm, handled_answer, handled_asking, handled_blocks, handled_call, handled_change, handled_effect, handled_gives, handled_input, handled_judged, handled_local, handled_looked, handled_low, handled_low_pdu, handled_modules, handled_notice, handled_own, handled_pdu, handled_plug_answer, handled_question, handled_received, handled_request, handled_response, handled_said, handled_unanswered, handled_write, is_request, is_running, kept_status, may_be_diagnosed, ticked, unit_rest, unit_sent}
use Rattle.device_core.specs.Modules.{outside, plug_of, pull_of, slot_pull_of}
use Rattle.octets_law.proofs.Asked.{dropped_such, judged_goes, later_such, left_such, same_question, settled_such}
use Rattle.octets_law.proofs.Operations.{displaced_is}
use Rattle.octets_law.proofs.Questions.{IsOwn as HasHeader, asking_own}
use Rattle.strangers_law.specs.Calling.{IsAskedOwn, IsOwn, IsRecent}
use Rattle.strangers_law.proofs.CallingStore.{own_first, own_recent}

-- The same state with other stored answers.
abbrev pub swapped : List Kept → Live → Live
swapped calls live = record { values = live.values; rest = record live.rest { calls = calls } }

-- The outcome at a device, and the same outcome at one with other stored answers: what is asked of the settings is the same, and a call is one of
-- this activity; the rest is the same but for the stored answers, of which that of this activity is the same. What is asked of the application is of
-- this activity.
abbrev pub Same : List ℕ → List (List ℕ) → Handled → Handled → Type 0
Same own others (Refuses note) other = other ≡ Refuses note
Same own others (Sets asker request in_operation) other = other ≡ Sets asker request in_operation
Same own others (Writes caller address call header value) other = (other ≡ Writes caller address call header value) × (call.header.activity ≡ own)
Same own others (WritesEach caller address call header judged) other = (other ≡ WritesEach caller address call header judged) × (call.header.activity ≡ own)
Same own others (Moves rest sent) other =
    (calls : List Kept) × (other ≡ Moves (record rest { calls = calls }) sent) × (kept_of own calls ≡ kept_of own rest.calls) × IsRecent own others rest.calls
    × IsAskedOwn own rest.asked

module _ (own : List ℕ) (others : List (List ℕ)) (station : Station) (live : Live) (calls : List Kept) (kept : kept_of own calls ≡ kept_of own live.rest.calls)
    (recent : IsRecent own others live.rest.calls) (asked : IsAskedOwn own live.rest.asked) where
  abbrev there : Live
  there = swapped calls live

  abbrev Alike : Handled → Handled → Type 0
  Alike what other = Same own others what other

  either : (b : Bool) (x y one two : Handled) → Alike x one → Alike y two → Alike (if b then x else y) (if b then one else two)
  either true x y one two first second = first
  either false x y one two first second = second

  abbrev Own : Question → Type 0
  Own question = question.header.activity ≡ own

  -- What both have stored for this activity is the same.
  found_same : (activity : List ℕ) (sequence : ℕ) → activity ≡ own → looked activity sequence live.rest.calls ≡ looked activity sequence calls
  found_same activity sequence is =
      ap (reported_by sequence) (ap (λ a. kept_of a live.rest.calls) is ∙ sym kept ∙ ap (λ a. kept_of a calls) (sym is))

  found_if_same : (stored : Bool) (activity : List ℕ) (sequence : ℕ) → activity ≡ own
      → looked_if stored activity sequence live.rest.calls ≡ looked_if stored activity sequence calls
  found_if_same true activity sequence is = found_same activity sequence is
  found_if_same false activity sequence is = refl

  -- An answer of this activity, stored or not.
  stored_same : (stored : Bool) (one : Kept) → one.activity ≡ own
      → (kept_of own (kept_if stored one calls) ≡ kept_of own (kept_if stored one live.rest.calls)) × IsRecent own others (kept_if stored one live.rest.calls)
  stored_same true one is = (own_first own one calls is ∙ sym (own_first own one live.rest.calls is), own_recent own others one live.rest.calls is)
  stored_same false one is = (kept, recent)

  -- The response to a call of this activity that was asked, after what else is sent.
  answers_same : (rest : Rest) (front : List Sent) (stored : Bool) (question : Question) (answer : Sent) → question.header.activity ≡ own
      → IsAskedOwn own rest.asked
      → Alike (Moves (record rest { calls = calls_after stored station.identity question answer live.rest.calls })
      (front ++ question_replies stored question answer live.rest.calls))
      (Moves (record rest { calls = calls_after stored station.identity question answer calls }) (front ++ question_replies stored question answer calls))
  answers_same rest front true question answer is own_asked =
      subst (λ found. Alike (Reported live.rest.calls (looked question.header.activity question.header.sequence live.rest.calls)) (Reported calls found))
      (found_same question.header.activity question.header.sequence is) (by_found (looked question.header.activity question.header.sequence live.rest.calls))
    where
      Reported : List Kept → Looked → Handled
      Reported all found =
          Moves (record rest { calls = behind_reported 4 (kept_reply station.identity question answer) all found })
          (front ++ where_due (is_new found) (answer ∷ []))

      by_found : (found : Looked) → Alike (Reported live.rest.calls found) (Reported calls found)
      by_found new =
          let it = stored_same true (kept_reply station.identity question answer) is in
          (kept_more 4 (kept_reply station.identity question answer) calls, refl, it.0, it.1, own_asked)
      by_found (again frame) = (calls, refl, kept, recent, own_asked)
      by_found old = (calls, refl, kept, recent, own_asked)
  answers_same rest front false question answer is own_asked = (calls, refl, kept, recent, own_asked)

  -- The same if it is dropped without an address.
  later_same : (rest : Rest) (front : List Sent) (stored : Bool) (question : Question) (answer : Sent) → question.header.activity ≡ own
      → IsAskedOwn own rest.asked
      → Alike (Moves (record rest { calls = later_calls stored station.identity live.values.running.suite.address question answer live.rest.calls })
      (front ++ later_replies stored live.values.running.suite.address question answer live.rest.calls))
      (Moves (record rest { calls = later_calls stored station.identity live.values.running.suite.address question answer calls })
      (front ++ later_replies stored live.values.running.suite.address question answer calls))
  later_same rest front stored question answer is own_asked = by_address (is_zero live.values.running.suite.address)
    where
      by_address : (none : Bool)
          → Alike (Moves (record rest { calls = if none then live.rest.calls else calls_after stored station.identity question answer live.rest.calls })
          (front ++ (if none then [] else question_replies stored question answer live.rest.calls)))
          (Moves (record rest { calls = if none then calls else calls_after stored station.identity question answer calls })
          (front ++ (if none then [] else question_replies stored question answer calls)))
      by_address true = (calls, refl, kept, recent, own_asked)
      by_address false = answers_same rest front stored question answer is own_asked

  -- A call of this activity that is asked no longer and is refused, if there is one.
  refused_same : (rest : Rest) (front : List Sent) (reason : Unanswered) (refused : Option Question)
      → ((question : Question) → refused ≡ Some question → question.header.activity ≡ own) → IsAskedOwn own rest.asked
      → Alike (Moves (record rest { calls = refused_calls station.options station.identity live.values.running.suite.address reason refused live.rest.calls })
      (front ++ refused_sent station.options live.values.running.suite.address reason refused live.rest.calls))
      (Moves (record rest { calls = refused_calls station.options station.identity live.values.running.suite.address reason refused calls })
      (front ++ refused_sent station.options live.values.running.suite.address reason refused calls))
  refused_same rest front reason None is own_asked = (calls, refl, kept, recent, own_asked)
  refused_same rest front reason (Some question) is own_asked =
      later_same rest front (is_kept station.options (operation_asked question.request)) question
      (refused_reply live.values.running.suite.address reason question) (is question refl) own_asked

  -- A call of this activity that is asked, if no other one is.
  abbrev IsOwnIf : Option AskedState → Type 0
  IsOwnIf None = Unit {0}
  IsOwnIf (Some later) = IsAskedOwn own later

  own_if : (question : Question) (octets : List ℕ) (state : AskedState) (standing : Option Standing) → question.header.activity ≡ own
      → IsOwnIf (asks_beside question octets state standing)
  own_if question octets state None is = λ other asks. subst Own (same_question question other asks) is
  own_if question octets state (Some one) is = tt

  -- ---- calls of this activity

  module _ (caller : Caller) (call : Call) (is : call.header.activity ≡ own) where
    first_same : (one : Kept) → one.activity ≡ call.header.activity → kept_of own (kept_more 4 one calls) ≡ kept_of own (kept_more 4 one live.rest.calls)
    first_same one same = own_first own one calls (same ∙ is) ∙ sym (own_first own one live.rest.calls (same ∙ is))

    -- An answer to this call, stored or not.
    told_kept : (stored : Bool) (one : Kept) → one.activity ≡ call.header.activity
        → kept_of own (kept_if stored one calls) ≡ kept_of own (kept_if stored one live.rest.calls)
    told_kept stored one same = (stored_same stored one (same ∙ is)).0

    told_recent : (stored : Bool) (one : Kept) → one.activity ≡ call.header.activity → IsRecent own others (kept_if stored one live.rest.calls)
    told_recent stored one same = (stored_same stored one (same ∙ is)).1

    effect_same : (header : IodWriteReq) (effect : Effect)
        → Alike (handled_effect station live caller call header effect) (handled_effect station there caller call header effect)
    effect_same header (Stores value) = (refl, is)
    effect_same header (Keeps parameter) = (_, refl, first_same _ refl, own_recent own others _ live.rest.calls is, asked)

    write_same : (writing : Result Writing CallFault) → Alike (handled_write station live caller call writing) (handled_write station there caller call writing)
    write_same (Ok (One write)) = effect_same write.request write.effect
    write_same (Ok (Each header entries)) = (refl, is)
    write_same (Err why) = (_, refl, first_same _ refl, own_recent own others _ live.rest.calls is, asked)

    own_same : (blocks : List ℕ) (operation : Operation)
        → Alike (handled_own station live caller call blocks operation) (handled_own station there caller call blocks operation)
    own_same blocks Connect = (_, refl, first_same _ refl, own_recent own others _ live.rest.calls is, asked)
    own_same blocks Release = (
      _,
      refl,
      first_same _ refl,
      own_recent own others _ live.rest.calls is,
      left_such Own
          (released_by (release_answer live.rest.link blocks) (uuid_of live.rest.link)) live.rest.asked asked,
    )
    own_same blocks Read = (_, refl, first_same _ refl, own_recent own others _ live.rest.calls is, asked)
    own_same blocks Write = write_same (writing_of (uuid_of live.rest.link) live.rest.real blocks)
    own_same blocks Control =
        either (is_plug_control blocks live.rest.link) _ _ _ _ (_, refl, first_same _ refl, own_recent own others _ live.rest.calls is, asked)
        (_, refl, first_same _ refl, own_recent own others _ live.rest.calls is, asked)
    own_same blocks ReadImplicit =
        (_, refl, told_kept (is_kept station.options ReadImplicit) _ refl, told_recent (is_kept station.options ReadImplicit) _ refl, asked)

    question_same : (question : Question) (displaced : Option Question) (later : Option AskedState) → question.header.activity ≡ own → IsOwnIf later
        → ((other : Question) → displaced ≡ Some other → other.header.activity ≡ own)
        → Alike (handled_question station live question displaced later) (handled_question station there question displaced later)
    question_same question displaced (Some later) is_own own_later gives =
        refused_same (record live.rest { asked = later }) [] Busy displaced gives own_later
    question_same question displaced None is_own own_later gives =
        answers_same live.rest [] (is_kept station.options (operation_asked question.request)) question
        (reply_to live.values.running.suite.address question (unanswered_status (operation_asked question.request) Busy) []) is_own asked

    asking_same : (blocks : List ℕ) (operation : Operation) (asking : Result (Option Asking) CallFault)
        → HasHeader live.rest.real station.named (uuid_of live.rest.link) caller call asking
        → Alike (handled_asking station live caller call blocks operation asking) (handled_asking station there caller call blocks operation asking)
    asking_same blocks operation (Ok None) header = own_same blocks operation
    asking_same blocks operation (Ok (Some asking)) header =
        let is_own : asking.0.header.activity ≡ own = ap (λ (h : CallHeader). h.activity) header ∙ is in
        let own_first_is = station.options.asks_own_first in
        let displaced = displaced_by own_first_is asking.0 live.rest.asked in
        let state = behind_displaced displaced live.rest.asked in
        question_same asking.0 displaced (asks asking.0 asking.1 state) is_own (own_if asking.0 asking.1 state state.standing is_own)
        (λ other gives. asked other (displaced_is own_first_is asking.0 other live.rest.asked gives).was)
    asking_same blocks operation (Err why) header =
        (_, refl, told_kept (is_kept station.options operation) _ refl, told_recent (is_kept station.options operation) _ refl, asked)

    new_same : (blocks : List ℕ) (operation : Operation)
        → Alike (handled_unanswered station live caller call blocks operation) (handled_unanswered station there caller call blocks operation)
    new_same blocks operation =
        let standing = uuid_of live.rest.link in
        either (is_repeat call.header.activity call.header.sequence live.rest.asked) _ _ _ _ (calls, refl, kept, recent, asked)
        (asking_same blocks operation (asking_of live.rest.real station.named standing caller call blocks operation)
        (asking_own live.rest.real station.named standing caller call blocks operation))

    looked_same : (blocks : List ℕ) (operation : Operation) (found : Looked)
        → Alike (handled_looked station live caller call blocks operation found) (handled_looked station there caller call blocks operation found)
    looked_same blocks operation new = new_same blocks operation
    looked_same blocks operation (again frame) = (calls, refl, kept, recent, asked)
    looked_same blocks operation old = refl

    blocks_same : (operation : Operation) (blocks : Option (List ℕ))
        → Alike (handled_blocks station live caller call operation blocks) (handled_blocks station there caller call operation blocks)
    blocks_same operation None = (calls, refl, kept, recent, asked)
    blocks_same operation (Some blocks) =
        let stored : Bool = is_kept station.options operation in
        let found : Looked = looked_if stored call.header.activity call.header.sequence live.rest.calls in
        subst
        (λ other. Alike (handled_looked station live caller call blocks operation found) (handled_looked station there caller call blocks operation other))
        (found_if_same stored call.header.activity call.header.sequence is) (looked_same blocks operation found)

    call_same : (operation : Option Operation) → Alike (handled_call station live caller call operation) (handled_call station there caller call operation)
    call_same None = refl
    call_same (Some operation) = blocks_same operation call.blocks

  -- ---- all else

  request_same : (asker : Mac) (asked : Service) (request : Asked)
      → Alike (handled_request station live asker asked request) (handled_request station there asker asked request)
  request_same asker service.Identify request =
      either (matches station.identity live.values.running (alias_in live.rest.peer) request) _ _ _ _ (calls, refl, kept, recent, asked) refl
  request_same asker service.Get request = (calls, refl, kept, recent, asked)
  request_same asker service.Set request = refl

  answer_same : (answer : ReadyAnswer) → Alike (handled_answer station live answer) (handled_answer station there answer)
  answer_same to_ready.NotWanted = refl
  answer_same to_ready.Garbled = refl
  answer_same to_ready.Confirmed = (calls, refl, kept, recent, asked)
  answer_same (to_ready.Refused farewell) = (calls, refl, kept, recent, left_such Own (Some farewell.uuid) live.rest.asked asked)

  plug_answer_same : (response : Answered) (answer : PlugAnswer) → Alike (handled_plug_answer live response answer) (handled_plug_answer there response answer)
  plug_answer_same response to_plug.NotWanted = refl
  plug_answer_same response to_plug.Garbled = refl
  plug_answer_same response to_plug.Confirmed = (calls, refl, kept, recent, asked)
  plug_answer_same response to_plug.Refused = (calls, refl, kept, recent, asked)

  response_same : (response : Answered) → Alike (handled_response station live response) (handled_response station there response)
  response_same response =
      either (is_in_exchange live.rest.link) _ _ _ _ (plug_answer_same response (plug_answer_in response live.rest.link))
      (answer_same (ready_answer response live.rest.link))

  said_same : (caller : Caller) (address : List ℕ) (said : Said) → IsOwn own (Reported caller address said)
      → Alike (handled_said station live caller said) (handled_said station there caller said)
  said_same caller address (Calls call) is = call_same caller call is (operation_of call.header.operation)
  said_same caller address (Responds response) is = response_same response
  said_same caller address Garbled is = refl

  received_same : (came : Received) (link : Option RelationState) → Alike (handled_received live came link) (handled_received there came link)
  received_same received.Foreign link = refl
  received_same received.Short link = refl
  received_same received.Stale link = refl
  received_same received.Taken link = (calls, refl, kept, recent, asked)

  pdu_same : (came : PduFate) (link : Option RelationState) → Alike (handled_pdu live came link) (handled_pdu there came link)
  pdu_same (fate.Data taken) link = (calls, refl, kept, recent, asked)
  pdu_same fate.Done link = (calls, refl, kept, recent, asked)
  pdu_same fate.Ignored link = refl
  pdu_same (fate.Aborted status) link = (calls, refl, kept, recent, left_such Own (uuid_of live.rest.link) live.rest.asked asked)

  alarm_same : (source : Mac) (header : Header) (told : ToDevice) → Alike (handled_alarm live source header told) (handled_alarm there source header told)
  alarm_same source header told =
      either (is_alarm_of source header.destination header.source live.rest.link) _ _ _ _
      (pdu_same (heard_by told live.rest.link) (updated (hearing told live.rest.link) live.rest.link)) refl

  low_pdu_same : (came : PduFate) (link : Option RelationState) → Alike (handled_low_pdu station live came link) (handled_low_pdu station there came link)
  low_pdu_same (fate.Data taken) link = (calls, refl, kept, recent, asked)
  low_pdu_same fate.Done link = (calls, refl, kept, recent, asked)
  low_pdu_same fate.Ignored link = refl
  low_pdu_same (fate.Aborted status) link = refl

  low_same : (source : Mac) (header : Header) (told : ToDevice)
      → Alike (handled_low station live source header told) (handled_low station there source header told)
  low_same source header told =
      either (is_alarm_of source header.destination header.source live.rest.link) _ _ _ _
      (low_pdu_same (heard_low told live.rest.link) (updated (hearing_low told live.rest.link) live.rest.link)) refl

  input_same : (flow : Option Flow) → Alike (handled_input live flow) (handled_input there flow)
  input_same (Some flow) = (calls, refl, kept, recent, asked)
  input_same None = refl

  notice_same : (flow : Option Flow) → Alike (handled_notice live flow) (handled_notice there flow)
  notice_same (Some flow) = (calls, refl, kept, recent, asked)
  notice_same None = refl

  status_same : (slot subslot : ℕ) (is_good : Bool) (statuses : Option (List InputStatus))
      → Alike (kept_status live slot subslot is_good statuses) (kept_status there slot subslot is_good statuses)
  status_same slot subslot is_good (Some statuses) = (calls, refl, kept, recent, asked)
  status_same slot subslot is_good None = refl

  change_same : (change : Change) (diagnoses : Option (List Diagnosis))
      → Alike (handled_change station live change diagnoses) (handled_change station there change diagnoses)
  change_same change (Some diagnoses) = (calls, refl, kept, recent, asked)
  change_same change None = refl

  modules_same : (made : RealChange) (real : Option (List RealModule)) → Alike (handled_modules live made real) (handled_modules there made real)
  modules_same made None = refl
  modules_same made (Some real) =
      either (is_crowded (affected_by made) live.rest.link) _ _ _ _ refl (calls, refl, kept, recent, dropped_such Own (affected_by made) live.rest.asked asked)

  judged_same : (given : Gives) (judged : Result Question AnswerFault) → ((question : Question) → judged ≡ Ok question → question.header.activity ≡ own)
      → Alike (handled_judged station live given judged) (handled_judged station there given judged)
  judged_same given (Ok question) is_own =
      later_same (record live.rest { asked = settled live.rest.asked; link = answered_link question given live.rest.link }) []
      (is_kept station.options (operation_asked question.request)) question
      (reply_to live.values.running.suite.address question (answer_status question.request given) (answer_blocks question.request given)) (is_own question refl)
      (settled_such Own live.rest.asked)
  judged_same given (Err why) is_own = refl

  gives_same : (number : ℕ) (given : Gives) → Alike (handled_gives station live number given) (handled_gives station there number given)
  gives_same number given =
      judged_same given (judged number given live.rest.asked)
      (λ question is. asked question (judged_goes number live.rest.asked.last given live.rest.asked.standing question is))

  local_same : (said : Local (ArrayVec ℕ)) → Alike (handled_local station live said) (handled_local station there said)
  local_same (local.Input slot subslot value) = input_same (given_to slot subslot value.items live.rest.link)
  local_same (local.Alarm slot subslot octets) = notice_same (raised_to live.rest.real.modules.items slot subslot octets.items live.rest.link)
  local_same (local.Status slot subslot is_good) =
      status_same slot subslot is_good
      (statuses_at live.rest.real.modules.items (record { slot = slot; subslot = subslot; is_good = is_good }) live.rest.statuses)
  local_same (local.Diagnosis slot subslot channel error appears) =
      let change : Change = change_of slot subslot channel error appears in
      either (may_be_diagnosed station live change) _ _ _ _ (change_same change (changed change live.rest.diagnoses)) refl
  local_same (local.Pull slot subslot) =
      let real = live.rest.real.modules.items in modules_same (pull_of real slot subslot) (outside slot (pulled slot subslot real))
  local_same (local.PullModule slot) =
      let real = live.rest.real.modules.items in modules_same (slot_pull_of real slot) (outside slot (slot_pulled slot real))
  local_same (local.Plug slot ident part) = modules_same (plug_of slot ident part) (plugged_with slot ident part live.rest.real.modules.items)
  local_same (local.ReadyAt slot subslot) = either (is_readied_in slot subslot live.rest.link) _ _ _ _ (calls, refl, kept, recent, asked) refl
  local_same local.Ready = either (is_preparing (phase_of live.rest.link)) _ _ _ _ (calls, refl, kept, recent, asked) refl
  local_same (local.ProviderState is_running) = (calls, refl, kept, recent, asked)
  local_same (local.Answer number octets) = gives_same number (gives_octets octets.items)
  local_same (local.Written number) = gives_same number gives_done
  local_same (local.Refuse number code1 code2) = gives_same number (gives_refusal code1 code2)

  -- A unit of time, and the call that is refused with it.
  late_is_own : (count : ℕ) (state : AskedState) → IsAskedOwn own state → (question : Question) → late_in count state ≡ Some question → Own question
  late_is_own count state own_asked question =
      cond_both (is_over state && not (is_full count)) _ _ (λ (late : Option Question). late ≡ Some question → Own question) (λ _ is. own_asked question is)
      (λ _ is. absurd cc)

  ticks_same : Alike (ticked station live) (ticked station there)
  ticks_same =
      let sent = unit_sent live in
      let rest = unit_rest live in
      let own_asked = left_such Own (ended_by (due_of live.rest.link).farewell) live.rest.asked asked in
      refused_same (record rest { asked = asked_later (length sent) rest.asked }) sent Late (late_in (length sent) rest.asked)
      (late_is_own (length sent) rest.asked own_asked) (later_such Own (length sent) rest.asked own_asked)

  pub handled_same : (heard : Heard) → IsOwn own heard → Same own others (handled station live heard) (handled station (swapped calls live) heard)
  handled_same (Asks asker request) is = request_same asker request.service request
  handled_same (Resolves asker packet) is =
      either (is_request packet.operation && is_running live.values.running packet.target.address) _ _ _ _ (calls, refl, kept, recent, asked) refl
  handled_same (Reported caller address said) is = either (is_running live.values.running address) _ _ _ _ (said_same caller address said is) refl
  handled_same (Alarms source header told) is = alarm_same source header told
  handled_same (LowReplies source header told) is = either (has_sent_low live.rest.link) _ _ _ _ (low_same source header told) (alarm_same source header told)
  handled_same (LowConfirms source header told) is = either (has_sent_low live.rest.link) _ _ _ _ (low_same source header told) refl
  handled_same (Cyclic source frame_id body) is =
      received_same (received_by source frame_id body live.rest.link) (updated (receiving source frame_id body live.rest.link) live.rest.link)
  handled_same (Applied said) is = local_same said
  handled_same (Met peer) is = (calls, refl, kept, recent, asked)
  handled_same Ticks is = ticks_same
  handled_same Unreadable is = refl
  handled_same Elsewhere is = refl
