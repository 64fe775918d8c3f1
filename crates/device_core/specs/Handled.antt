-- The outcome of an event, from the state before it.
use Rattle.std.specs.Prelude.{◌++◌, ◌-◌, ◌&&◌, ℕ, Bool, true, false, not, nat_eq, List, [], ◌∷◌, length, if◌then◌else◌, Option, Some, None, is_some, Result, Ok, Err}
use Rattle.std.specs.Cmp.Lexicographic.{pointwise}
use Rattle.arrayvec.specs.ArrayVec.{ArrayVec}
use Rattle.pn_values.specs.declared.mac.Mac.{Mac}
use Rattle.pn_values.specs.declared.identity.Identity.{Identity}
use Rattle.pn_values.specs.declared.settings.Settings.{Settings}
use Rattle.pn_values.specs.declared.im_value.ImValue.{ImValue}
use Rattle.pn_values.specs.IpSuite.{is_zero}
use Rattle.frame_codec.specs.declared.arp.Arp.{Arp}
use Rattle.frame_codec.specs.declared.arp.ArpOperation.{ArpOperation}
use Rattle.frame_codec.specs.declared.arp.ArpOperation.TheVariants as arp
use Rattle.dcp_core.specs.declared.request.Service.{Service}
use Rattle.dcp_core.specs.declared.request.Service.TheVariants as service
use Rattle.dcp_core.specs.Request.{Asked}
use Rattle.dcp_core.specs.Identify.{matches}
use Rattle.rpc_core.specs.declared.response.Status.{Status}
use Rattle.rpc_core.specs.Call.{Asked as Call}
use Rattle.rpc_core.specs.Response.{Answered, answer_to}
use Rattle.rpc_core.specs.Cache.{Kept, Reported as Looked, new, again, old}
use Rattle.records.specs.declared.status.operation.Operation.{Operation}
use Rattle.records.specs.declared.status.operation.Operation.TheVariants.{Connect, Release, Read, Write, Control, ReadImplicit}
use Rattle.records.specs.declared.status.call_fault.CallFault.{CallFault}
use Rattle.records.specs.declared.status.call_fault.CallFault.TheVariants.{Arguments}
use Rattle.records.specs.status.Operation.{operation_of}
use Rattle.records.specs.status.Status.{done, status_of}
use Rattle.connect_blocks.specs.declared.control.ControlBlock.{ControlBlock}
use Rattle.record_blocks.specs.declared.write_record.IodWriteReq.{IodWriteReq}
use Rattle.records.specs.reads.Within.{names_relation}
use Rattle.records.specs.declared.writes.write.Effect.{Effect}
use Rattle.records.specs.declared.writes.write.Effect.TheVariants.{Stores, Keeps}
use Rattle.records.specs.declared.writes.writing.Writing.{Writing}
use Rattle.records.specs.declared.writes.writing.Writing.TheVariants.{One, Each}
use Rattle.records.specs.writes.Answer.{answer_of}
use Rattle.records.specs.writes.Asked.{writing_of}
use Rattle.pn_alarms.specs.Message.{ToDevice}
use Rattle.pn_alarms.specs.declared.device.PduFate.{PduFate}
use Rattle.pn_alarms.specs.declared.device.PduFate.TheVariants as fate
use Rattle.pn_alarms.specs.declared.pdu.Header.{Header}
use Rattle.cyclic_data.specs.declared.exchange.received.Received.{Received}
use Rattle.cyclic_data.specs.declared.exchange.received.Received.TheVariants as received
use Rattle.asked_records.specs.Answers.{Gives, gives_octets, gives_done, gives_refusal, answer_blocks, answer_status, judged, unanswered_status}
use Rattle.asked_records.specs.Asked.{AskedState, asks, behind_displaced, displaced_by, is_repeat, settled}
use Rattle.asked_records.specs.Questions.{operation_of as operation_asked}
use Rattle.asked_records.specs.declared.answering.AnswerFault.{AnswerFault}
use Rattle.asked_records.specs.declared.question.Question.{Question}
use Rattle.asked_records.specs.declared.status.Unanswered.TheVariants.{Busy}
use Rattle.relations.specs.exchange.Flow.{Flow}
use Rattle.relations.specs.declared.exchange.statuses.InputStatus.{InputStatus}
use Rattle.relations.specs.exchange.Statuses.{statuses_at}
use Rattle.relations.specs.exchange.Marks.{Starting}
use Rattle.module_diff.specs.Plugged.{submodule_ident}
use Rattle.module_diff.specs.declared.changes.RealChange.{RealChange}
use Rattle.module_diff.specs.Changes.{affected_by, plugged_with, pulled, slot_pulled}
use Rattle.pn_values.specs.declared.real.RealModule.{RealModule}
use Rattle.pn_values.specs.declared.real.RealSubmodule.{RealSubmodule}
use Rattle.diagnosis.specs.Existing.{changed}
use Rattle.diagnosis.specs.declared.diagnosis.Change.{Change}
use Rattle.diagnosis.specs.declared.diagnosis.Diagnosis.{Diagnosis}
use Rattle.relations.specs.Diagnosed.{begin_one, beginning, diagnose_one, diagnosing, has_sent_low, heard_low, hearing_low, is_full_in, report_one, reporting}
use Rattle.relations.specs.Exchanged.{given_to, heard_by, hearing, raised_to, rating, received_by, receiving, turning}
use Rattle.relations.specs.declared.hearing.ReadyAnswer.{ReadyAnswer}
use Rattle.relations.specs.declared.hearing.ReadyAnswer.TheVariants as to_ready
use Rattle.relations.specs.declared.phase.Partner.{Partner}
use Rattle.relations.specs.RelationState.{RelationState, uuid_of, flow_of, is_alarm_of, is_in_exchange, is_preparing, phase_of}
use Rattle.relations.specs.declared.plugging.PlugAnswer.{PlugAnswer}
use Rattle.relations.specs.declared.plugging.PlugAnswer.TheVariants as to_plug
use Rattle.relations.specs.Plugging.{calling_next, is_crowded, is_plug_control, is_readied_in, plug_answer_in, plug_answering, plug_end_answer, plug_end_in, plug_ending, readying_at}
use Rattle.device_records.specs.Reading.{implicit_read, relation_read}
use Rattle.device_records.specs.Sources.{Known}
use Rattle.relations.specs.Calls.{prm_end_of, release_of, prm_end_answer, release_answer}
use Rattle.relations.specs.Connect.{connect_within, connect_answer, making}
use Rattle.relations.specs.Numbers.{made_after, number_of}
use Rattle.relations.specs.Ready.{answer_of as ready_answer, handled_by}
use Rattle.relations.specs.Timers.{due_of}
use Rattle.relations.specs.Phases.{Handled as Moving, Records, Parameterized, Prepared, Named, Ended, Exchanged, Unmoved, answered, keeping, updated, passing, taking}
use Rattle.device_frames.specs.declared.local.Local.{Local}
use Rattle.device_frames.specs.declared.local.Local.TheVariants as local
use Rattle.device_frames.specs.declared.note.Note.{Note}
use Rattle.device_frames.specs.declared.note.Note.TheVariants as note
use Rattle.frame_codec.specs.declared.udp.Caller.{Caller}
use Rattle.lldp.specs.Peer.{Peer}
use Rattle.device_core.specs.State.{Station, Rest, Live, alias_in, counter_of, units_after}
use Rattle.device_core.specs.Asking.{Asking, answered_link, asked_later, asking_of, calls_after, ended_by, is_kept, kept_if, late_calls, late_in, late_sent, later_calls, later_replies, left_asked, looked_if, question_replies, refused_calls, refused_sent, released_by, reply_to}
use Rattle.device_core.specs.Modules.{call_after, calling_after, changed_rest, next_call_sent, outside, plug_of, pull_of, sent_after, slot_pull_of}
use Rattle.device_core.specs.Several.{Judged, judged_each}
use Rattle.device_core.specs.Log.{arguments_log, but_rest, connect_log, end_log, err_log, release_log, with_log}
use Rattle.device_frames.specs.Relation.{alarms_of, due_frames, low_alarms_of, low_replies_of, ready_calls, replies_of, where_due}
use Rattle.device_frames.specs.Sent.{Sent, IdentifyAnswer, GetAnswer, ArpReply, CallAnswer, Again, Ends, bytes_of}
use Rattle.device_frames.specs.Heard.{Heard, Ticks, Unreadable, Elsewhere, Asks, Resolves, Reported, Cyclic, Alarms, LowReplies, LowConfirms, Met, Applied, Said, Calls, Responds, Garbled}

-- The outcome of an event: it is refused, with the note that says why; a Set, whose blocks are asked of the settings; a
-- Write of an I&M text, which is asked of the settings, with the caller, the address that was called, the call, its
-- header and the text; a Write of several records, each of which was judged; or a move, after which the rest has changed
-- and these messages are sent.
pub data Handled : Type 0 where
  Refuses : (note : Note) → Handled
  Sets : (asker : Mac) → (request : Asked) → (in_operation : Bool) → Handled
  Writes : (caller : Caller) → (address : List ℕ) → (call : Call) → (header : IodWriteReq) → (value : ImValue) → Handled
  WritesEach : (caller : Caller) → (address : List ℕ) → (call : Call) → (header : IodWriteReq) → (judged : List Judged) → Handled
  Moves : (rest : Rest) → (sent : List Sent) → Handled

-- ---- DCP

-- An Identify request that matches is answered with the identity and the running settings; otherwise it is not
-- answered. It may ask for the name by the place, which the answer does not tell.
abbrev pub identified : Station → Live → Mac → Asked → Handled
identified station live asker request =
    if matches station.identity live.values.running (alias_in live.rest.peer) request
    then Moves live.rest (IdentifyAnswer asker live.values.running request.xid ∷ [])
    else Refuses note.Filter

-- A request, by its service. Whether a relation exists is checked when the frame arrives, for all blocks of a Set.
abbrev pub handled_request : Station → Live → Mac → Service → Asked → Handled
handled_request station live asker service.Identify request = identified station live asker request
handled_request station live asker service.Get request = Moves live.rest (GetAnswer asker live.values.running (alias_in live.rest.peer) request ∷ [])
handled_request station live asker service.Set request = Sets asker request (is_some live.rest.link)

-- ---- ARP (RFC 826)

-- Whether this is the running address, and not all zeros.
abbrev pub is_running : Settings → List ℕ → Bool
is_running running address = pointwise nat_eq address running.suite.address && not (is_zero address)

-- Whether a packet of ARP is a request.
abbrev pub is_request : ArpOperation → Bool
is_request arp.Request = true
is_request arp.Reply = false

-- A request for the running address is answered, and no other packet is.
abbrev pub handled_arp : Live → Mac → Arp → Handled
handled_arp live asker packet =
    if is_request packet.operation && is_running live.values.running packet.target.address
    then Moves live.rest (ArpReply asker live.values.running.suite.address packet.sender ∷ [])
    else Refuses note.NotMine

-- ---- calls (IEC 61158-6-10, 4.10)

-- The outcome of a call: the status and the blocks of its answer. A negative answer has no blocks.
abbrev pub outcome_of : Operation → Result (List ℕ) CallFault → Status × List ℕ
outcome_of operation (Ok blocks) = (done, blocks)
outcome_of operation (Err fault) = (status_of operation fault, [])

-- The answer to a call with this outcome, from this address.
abbrev pub answer_from : List ℕ → Caller → Call → Operation → Result (List ℕ) CallFault → Sent
answer_from address caller call operation outcome =
    let came = outcome_of operation outcome in
    CallAnswer caller address (answer_to call came.0 came.1)

-- The outcome of a call, with these blocks if it is done.
abbrev pub came_with : Result (Unit {0}) CallFault → List ℕ → Result (List ℕ) CallFault
came_with (Ok it) blocks = Ok blocks
came_with (Err fault) blocks = Err fault

-- What is stored of an answer to a call: its frame.
abbrev pub kept_for : Identity → Call → Sent → Kept
kept_for identity call answer = record { activity = call.header.activity; sequence = call.header.sequence; frame = bytes_of identity answer }

-- The state after a call that had this answer, which is stored or not, and left this relation.
abbrev pub behind_answer : Bool → Identity → Rest → Call → Sent → Option RelationState → Rest
behind_answer is_kept identity rest call answer link =
    record rest { calls = kept_if is_kept (kept_for identity call answer) rest.calls; link = link }

-- The same if it is stored.
abbrev pub kept_behind : Identity → Rest → Call → Sent → Option RelationState → Rest
kept_behind identity rest call answer link = behind_answer true identity rest call answer link

-- A call with this outcome that leaves this relation: it is answered, and then this is sent.
abbrev pub served : Station → Live → Caller → Call → Operation → Result (List ℕ) CallFault → Option RelationState → List Sent → Handled
served station live caller call operation outcome link behind =
    let answer = answer_from live.values.running.suite.address caller call operation outcome in
    Moves (behind_answer (is_kept station.options operation) station.identity live.rest call answer link) (answer ∷ behind)

-- The response to a call that is not asked, and the rest before it: it is sent and stored, unless a later call of its activity was
-- answered meanwhile. That of a Read Implicit may be sent only.
abbrev pub replied : Station → Live → Rest → Question → Status → List ℕ → Handled
replied station live rest question status blocks =
    let answer = reply_to live.values.running.suite.address question status blocks in
    let is_stored = is_kept station.options (operation_asked question.request) in
    Moves (record rest { calls = calls_after is_stored station.identity question answer rest.calls }) (question_replies is_stored question answer rest.calls)

-- The response to a call that was asked before: the same, if the device still has an IP address.
abbrev pub replied_later : Station → Live → Rest → Question → Status → List ℕ → Handled
replied_later station live rest question status blocks =
    let address = live.values.running.suite.address in
    let answer = reply_to address question status blocks in
    let is_stored = is_kept station.options (operation_asked question.request) in
    Moves (record rest { calls = later_calls is_stored station.identity address question answer rest.calls })
    (later_replies is_stored address question answer rest.calls)

-- What follows an accepted PrmEnd: ApplicationReady, unless the application says when it is ready.
abbrev pub ready_behind : Bool → List ℕ → Option RelationState → Result ControlBlock CallFault → List Sent
ready_behind by_application address link (Ok block) = if by_application then [] else ready_calls address link
ready_behind by_application address link (Err fault) = []

-- The station that sent a call.
abbrev pub partner_of : Caller → Partner
partner_of caller = record { mac = caller.mac; address = caller.endpoint.address }

-- What a Read Implicit of this station does to the relation: it names the relation or not.
abbrev pub implicitly : Partner → Option RelationState → List ℕ → Moving
implicitly source link blocks = if names_relation (uuid_of link) blocks then Named source else Unmoved

-- A Write of a parameter record: it is kept if there is room, or passed on, and shows that the controller is alive.
abbrev pub kept_answer : IodWriteReq → Result Records CallFault → Result (List ℕ) CallFault
kept_answer header (Ok records) = Ok (answer_of header)
kept_answer header (Err fault) = Err fault

-- What a Write of one record does: a text is stored, a parameter record is kept.
abbrev pub handled_effect : Station → Live → Caller → Call → IodWriteReq → Effect → Handled
handled_effect station live caller call header (Stores value) = Writes caller live.values.running.suite.address call header value
handled_effect station live caller call header (Keeps parameter) =
    let kept = keeping parameter live.rest.link in
    served station live caller call Write (kept_answer header kept)
    (updated (answered (Named (partner_of caller)) kept) (updated (taking kept) live.rest.link)) []

-- What a Write does: one record, each record of a list, or why it is refused.
abbrev pub handled_write : Station → Live → Caller → Call → Result Writing CallFault → Handled
handled_write station live caller call (Ok (One write)) = handled_effect station live caller call write.request write.effect
handled_write station live caller call (Ok (Each header entries)) =
    WritesEach caller live.values.running.suite.address call header (judged_each station.named (uuid_of live.rest.link) live.rest.real entries)
handled_write station live caller call (Err fault) = served station live caller call Write (Err fault) live.rest.link []

-- The number of a relation that begins now.
abbrev pub number_now : Station → Live → ℕ
number_now station live = number_of station.options.numbers_from live.rest.made

-- A relation that is made is counted.
abbrev pub count_after : {A : Type 0} → Result A CallFault → ℕ → ℕ
count_after (Ok answer) made = made_after made
count_after (Err fault) made = made

-- The count of relations after a Connect: one more if it is accepted.
abbrev pub counted_by : {A : Type 0} → Result A CallFault → Rest → Rest
counted_by answer rest = record rest { made = count_after answer rest.made }

-- What a relation begins with.
abbrev pub starting_of : Station → Live → Starting
starting_of station live =
    record { begin_bad = station.options.inputs_begin_bad; is_running = live.rest.is_running; statuses = live.rest.statuses; units = live.rest.units; diagnoses = live.rest.diagnoses; number = number_now station live }

-- What the records of the device are made of.
abbrev pub known_of : Station → Live → Known
known_of station live = record {
  link = live.rest.link;
  units = live.rest.units;
  log = live.rest.log;
  identity = station.identity;
  settings = live.values.running;
  peer = live.rest.peer;
  diagnoses = live.rest.diagnoses;
}

-- A PrmEnd, and what follows it.
abbrev pub handled_prm_end : Station → Live → Caller → Call → List ℕ → Handled
handled_prm_end station live caller call blocks =
    let ended = prm_end_of live.rest.link blocks in
    let by_application = station.options.ready_by_application in
    let link = updated (answered (Named (partner_of caller)) ended) (updated (answered (Parameterized by_application) ended) live.rest.link) in
    served station live caller call Control (prm_end_answer live.rest.link blocks) link
    (ready_behind by_application live.values.running.suite.address link ended)

-- A PrmEnd after a plug: its answer, and after it the next ApplicationReady of a plug, if one is called.
abbrev pub handled_plug_end : Station → Live → Caller → Call → List ℕ → Handled
handled_plug_end station live caller call blocks =
    let ended = plug_end_in blocks live.rest.link in
    let link = updated (answered (Named (partner_of caller)) ended) (plug_ending station.options.ready_by_application blocks live.rest.link) in
    served station live caller call Control (plug_end_answer ended) (calling_after ended link) (call_after ended live.values.running.suite.address link)

-- A new call that the device answers by itself, by its operation.
abbrev pub handled_own : Station → Live → Caller → Call → List ℕ → Operation → Handled
handled_own station live caller call blocks Connect =
    let options = station.options in
    let answer = connect_answer station.identity live.rest.real options (number_now station live) caller.mac live.rest.link blocks in
    served station (but_rest live (counted_by answer (with_log (connect_log blocks answer) live.rest))) caller call Connect answer
    (updated (making live.rest.real (partner_of caller) options (starting_of station live) (connect_within options caller.mac live.rest.link blocks)) live.rest.link) []
handled_own station live caller call blocks Release =
    let answer = release_answer live.rest.link blocks in
    let asked = left_asked (released_by answer (uuid_of live.rest.link)) live.rest.asked in
    served station (but_rest live (record (with_log (release_log (uuid_of live.rest.link) answer) live.rest) { asked = asked })) caller call Release answer
    (updated (answered Ended (release_of live.rest.link blocks)) live.rest.link) []
handled_own station live caller call blocks Read =
    let read = relation_read (known_of station live) station.identity live.rest.real live.values.running blocks in
    served station live caller call Read read (updated (answered (Named (partner_of caller)) read) live.rest.link) []
handled_own station live caller call blocks Write = handled_write station live caller call (writing_of (uuid_of live.rest.link) live.rest.real blocks)
handled_own station live caller call blocks Control =
    if is_plug_control blocks live.rest.link then handled_plug_end station live caller call blocks
    else handled_prm_end station live caller call blocks
handled_own station live caller call blocks ReadImplicit =
    let read = implicit_read (known_of station live) station.identity live.rest.real live.values.running blocks in
    served station live caller call ReadImplicit read (updated (answered (implicitly (partner_of caller) live.rest.link blocks) read) live.rest.link) []

-- A call for a record of the application: it is asked, and the call that it displaces, if it displaces one, is refused; or it is refused
-- while another one is asked.
abbrev pub handled_question : Station → Live → Question → Option Question → Option AskedState → Handled
handled_question station live question displaced (Some asked) =
    let address = live.values.running.suite.address in
    Moves (record live.rest { asked = asked; calls = refused_calls station.options station.identity address Busy displaced live.rest.calls })
    (refused_sent station.options address Busy displaced live.rest.calls)
handled_question station live question displaced None =
    replied station live live.rest question (unanswered_status (operation_asked question.request) Busy) []

-- What a call displaces, and what is asked after it.
abbrev pub handled_asked : Station → Live → Asking → Option Question → Handled
handled_asked station live asking displaced =
    handled_question station live asking.0 displaced (asks asking.0 asking.1 (behind_displaced displaced live.rest.asked))

-- A new call, by what it asks of the application.
abbrev pub handled_asking : Station → Live → Caller → Call → List ℕ → Operation → Result (Option Asking) CallFault → Handled
handled_asking station live caller call blocks operation (Ok None) = handled_own station live caller call blocks operation
handled_asking station live caller call blocks operation (Ok (Some asking)) =
    handled_asked station live asking (displaced_by station.options.asks_own_first asking.0 live.rest.asked)
handled_asking station live caller call blocks operation (Err fault) = served station live caller call operation (Err fault) live.rest.link []

-- A new call, by its operation.
abbrev pub handled_new : Station → Live → Caller → Call → List ℕ → Operation → Handled
handled_new station live caller call blocks operation = handled_asking station live caller call blocks operation
    (asking_of live.rest.real station.named (uuid_of live.rest.link) caller call blocks operation)

-- A call that was not answered: a repeat of the one that is asked is dropped.
abbrev pub handled_unanswered : Station → Live → Caller → Call → List ℕ → Operation → Handled
handled_unanswered station live caller call blocks operation =
    if is_repeat call.header.activity call.header.sequence live.rest.asked then Moves live.rest []
    else handled_new station live caller call blocks operation

-- A call by the result of the cache: it is handled as new, or answered again with the same frame, or it is older than an
-- answered call of its activity.
abbrev pub handled_looked : Station → Live → Caller → Call → List ℕ → Operation → Looked → Handled
handled_looked station live caller call blocks operation new = handled_unanswered station live caller call blocks operation
handled_looked station live caller call blocks operation (again frame) = Moves live.rest (Again frame ∷ [])
handled_looked station live caller call blocks operation old = Refuses note.OldCall

-- If the lengths of the blocks are wrong, that is answered whatever the cache contains, and the answer is not stored. A
-- Connect is logged. A call whose answer is not stored is handled as one that was not answered.
abbrev pub handled_blocks : Station → Live → Caller → Call → Operation → Option (List ℕ) → Handled
handled_blocks station live caller call operation None =
    Moves (with_log (arguments_log operation) live.rest) (answer_from live.values.running.suite.address caller call operation (Err Arguments) ∷ [])
handled_blocks station live caller call operation (Some blocks) =
    handled_looked station live caller call blocks operation
    (looked_if (is_kept station.options operation) call.header.activity call.header.sequence live.rest.calls)

-- A call with an unknown operation is dropped.
abbrev pub handled_call : Station → Live → Caller → Call → Option Operation → Handled
handled_call station live caller call None = Refuses note.Fault
handled_call station live caller call (Some operation) = handled_blocks station live caller call operation call.blocks

-- ApplicationReady is confirmed: what exists of diagnosis is reported, and the first alarm of it is sent.
abbrev pub handled_beginning : Station → Live → Option RelationState → Handled
handled_beginning station live link =
    let real = live.rest.real.modules.items in
    let reported = updated (beginning real live.rest.diagnoses link) link in
    Moves (record live.rest { link = reported }) (where_due (begin_one real live.rest.diagnoses link) (low_alarms_of (flow_of reported)))

-- The answer to ApplicationReady, by what it means to the relation.
abbrev pub handled_answer : Station → Live → ReadyAnswer → Handled
handled_answer station live to_ready.NotWanted = Refuses note.NoRelation
handled_answer station live to_ready.Garbled = Refuses note.Fault
handled_answer station live to_ready.Confirmed = handled_beginning station live (updated (handled_by to_ready.Confirmed) live.rest.link)
handled_answer station live (to_ready.Refused farewell) =
    Moves (with_log (err_log (Some farewell)) (record live.rest {
      link = updated (handled_by (to_ready.Refused farewell)) live.rest.link;
      asked = left_asked (Some farewell.uuid) live.rest.asked;
    }))
    (Ends farewell ∷ [])

-- A response of the controller while data is exchanged, by what it means to the ApplicationReady of a plug: then the next one is
-- called, if one may be.
abbrev pub handled_next_call : Live → Option RelationState → Handled
handled_next_call live link =
    Moves (record live.rest { link = calling_next link }) (next_call_sent live.values.running.suite.address link)

-- A response while data is exchanged: once the ApplicationReady of a plug is answered, also by a refusal, the next one is called.
abbrev pub handled_plug_answer : Live → Answered → PlugAnswer → Handled
handled_plug_answer live response to_plug.NotWanted = Refuses note.NoRelation
handled_plug_answer live response to_plug.Garbled = Refuses note.Fault
handled_plug_answer live response to_plug.Confirmed = handled_next_call live (plug_answering response live.rest.link)
handled_plug_answer live response to_plug.Refused = handled_next_call live (plug_answering response live.rest.link)

-- A response: to ApplicationReady, or, while data is exchanged, to that of a plug.
abbrev pub handled_response : Station → Live → Answered → Handled
handled_response station live response =
    if is_in_exchange live.rest.link then handled_plug_answer live response (plug_answer_in response live.rest.link)
    else handled_answer station live (ready_answer response live.rest.link)

-- What a datagram does: a call, a response, or octets that are neither.
abbrev pub handled_said : Station → Live → Caller → Said → Handled
handled_said station live caller (Calls call) = handled_call station live caller call (operation_of call.header.operation)
handled_said station live caller (Responds response) = handled_response station live response
handled_said station live caller Garbled = Refuses note.Fault

-- The address is checked first.
abbrev pub handled_datagram : Station → Live → Caller → List ℕ → Said → Handled
handled_datagram station live caller address said =
    if is_running live.values.running address then handled_said station live caller said else Refuses note.NotMine

-- ---- what is exchanged

-- The relation became this, and these frames are sent.
abbrev pub goes_on_with : Live → Option RelationState → List Sent → Handled
goes_on_with live link sent = Moves (record live.rest { link = link }) sent

-- A cyclic frame, by what happens to it.
abbrev pub handled_received : Live → Received → Option RelationState → Handled
handled_received live received.Foreign link = Refuses note.NoRelation
handled_received live received.Short link = Refuses note.Fault
handled_received live received.Stale link = Refuses note.StaleCycle
handled_received live received.Taken link = goes_on_with live link []

-- What a cyclic frame does.
abbrev pub handled_cyclic : Live → Mac → ℕ → List ℕ → Handled
handled_cyclic live source frame_id body =
    handled_received live (received_by source frame_id body live.rest.link) (updated (receiving source frame_id body live.rest.link) live.rest.link)

-- An input is given, or refused.
abbrev pub handled_input : Live → Option Flow → Handled
handled_input live (Some flow) = goes_on_with live (updated (Exchanged flow) live.rest.link) []
handled_input live None = Refuses note.Refused

-- What a value that the application gives does.
abbrev pub handled_given : Live → ℕ → ℕ → List ℕ → Handled
handled_given live slot subslot value = handled_input live (given_to slot subslot value live.rest.link)

-- The application says whether the inputs of a submodule are good: it is kept, and the relation follows. It is refused for
-- what is not plugged.
abbrev pub kept_status : Live → ℕ → ℕ → Bool → Option (List InputStatus) → Handled
kept_status live slot subslot is_good (Some statuses) =
    Moves (record live.rest { link = updated (rating slot subslot is_good live.rest.link) live.rest.link; statuses = statuses }) []
kept_status live slot subslot is_good None = Refuses note.Refused

-- What a status that the application gives does.
abbrev pub handled_rated : Station → Live → ℕ → ℕ → Bool → Handled
handled_rated station live slot subslot is_good =
    kept_status live slot subslot is_good
    (statuses_at live.rest.real.modules.items (record { slot = slot; subslot = subslot; is_good = is_good }) live.rest.statuses)

-- The application runs from now on, or is stopped: it is kept, and the relation follows.
abbrev pub handled_turned : Live → Bool → Handled
handled_turned live is_running =
    Moves (record live.rest { link = updated (turning is_running live.rest.link) live.rest.link; is_running = is_running }) []

-- This neighbour is known from now on, or none.
abbrev pub handled_met : Live → Option Peer → Handled
handled_met live peer = Moves (record live.rest { peer = peer }) []

-- A diagnosis appears or disappears, and these exist after it: the relation reports the change, and its alarm is sent if none of
-- low priority is active. Or the change is refused.
abbrev pub handled_change : Station → Live → Change → Option (List Diagnosis) → Handled
handled_change station live change (Some diagnoses) =
    let real = live.rest.real.modules.items in
    let link = updated (diagnosing real change diagnoses live.rest.link) live.rest.link in
    Moves (record live.rest { link = link; diagnoses = diagnoses })
    (where_due (diagnose_one real change diagnoses live.rest.link) (low_alarms_of (flow_of link)))
handled_change station live change None = Refuses note.Refused

-- It is refused for what is not plugged, and while no further change can wait.
abbrev pub may_be_diagnosed : Station → Live → Change → Bool
may_be_diagnosed station live change =
    is_some (submodule_ident live.rest.real.modules.items change.diagnosis.slot change.diagnosis.subslot) && not (is_full_in live.rest.link)

-- What a change of diagnosis does.
abbrev pub handled_diagnosed : Station → Live → Change → Handled
handled_diagnosed station live change =
    if may_be_diagnosed station live change
    then handled_change station live change (changed change live.rest.diagnoses)
    else Refuses note.Refused

-- An alarm is raised and sent, or refused.
abbrev pub handled_notice : Live → Option Flow → Handled
handled_notice live (Some flow) =
    let link = updated (Exchanged flow) live.rest.link in
    goes_on_with live link (alarms_of (flow_of link))
handled_notice live None = Refuses note.Refused

-- What a process alarm does that the application raises.
abbrev pub handled_raised : Station → Live → ℕ → ℕ → List ℕ → Handled
handled_raised station live slot subslot octets = handled_notice live (raised_to live.rest.real.modules.items slot subslot octets live.rest.link)

-- The application is ready: ApplicationReady is sent if the relation waited for that, else it is refused.
abbrev pub handled_ready : Live → Handled
handled_ready live =
    if is_preparing (phase_of live.rest.link)
    then (let link = updated Prepared live.rest.link in goes_on_with live link (ready_calls live.values.running.suite.address link))
    else Refuses note.Refused

-- A change of diagnosis, as the application says it.
abbrev pub change_of : (slot subslot channel error : ℕ) → Bool → Change
change_of slot subslot channel error appears =
    record { diagnosis = record { slot = slot; subslot = subslot; channel = channel; error = error }; appears = appears }

-- The modules are these now, if there is a change and its alarm could wait.
abbrev pub handled_modules : Live → RealChange → Option (List RealModule) → Handled
handled_modules live made None = Refuses note.Refused
handled_modules live made (Some real) =
    if is_crowded (affected_by made) live.rest.link then Refuses note.Refused
    else Moves (changed_rest live.rest made real) (sent_after live made real)

-- A submodule is pulled, a module is pulled, a submodule is plugged.
abbrev pub handled_pull : Live → ℕ → ℕ → Handled
handled_pull live slot subslot =
    let real = live.rest.real.modules.items in
    handled_modules live (pull_of real slot subslot) (outside slot (pulled slot subslot real))

-- A module is pulled.
abbrev pub handled_pull_module : Live → ℕ → Handled
handled_pull_module live slot =
    let real = live.rest.real.modules.items in
    handled_modules live (slot_pull_of real slot) (outside slot (slot_pulled slot real))

-- A submodule is plugged.
abbrev pub handled_plug : Live → ℕ → ℕ → RealSubmodule → Handled
handled_plug live slot ident part = handled_modules live (plug_of slot ident part) (plugged_with slot ident part live.rest.real.modules.items)

-- The application is ready for the plug at a place, which waited for that: the next ApplicationReady is called.
abbrev pub handled_ready_at : Live → ℕ → ℕ → Handled
handled_ready_at live slot subslot =
    if is_readied_in slot subslot live.rest.link then handled_next_call live (readying_at slot subslot live.rest.link)
    else Refuses note.Refused

-- An answer of the application: it goes to the call that is asked, or it is refused.
abbrev pub handled_judged : Station → Live → Gives → Result Question AnswerFault → Handled
handled_judged station live given (Ok question) =
    let rest = record live.rest { asked = settled live.rest.asked; link = answered_link question given live.rest.link } in
    replied_later station live rest question (answer_status question.request given) (answer_blocks question.request given)
handled_judged station live given (Err fault) = Refuses note.Refused

-- What an answer under a number does.
abbrev pub handled_gives : Station → Live → ℕ → Gives → Handled
handled_gives station live number given = handled_judged station live given (judged number given live.rest.asked)

-- What the application says, by its cases.
abbrev pub handled_local : Station → Live → Local (ArrayVec ℕ) → Handled
handled_local station live (local.Input slot subslot value) = handled_given live slot subslot value.items
handled_local station live (local.Alarm slot subslot octets) = handled_raised station live slot subslot octets.items
handled_local station live (local.Status slot subslot is_good) = handled_rated station live slot subslot is_good
handled_local station live (local.Diagnosis slot subslot channel error appears) =
    handled_diagnosed station live (change_of slot subslot channel error appears)
handled_local station live (local.Pull slot subslot) = handled_pull live slot subslot
handled_local station live (local.PullModule slot) = handled_pull_module live slot
handled_local station live (local.Plug slot ident part) = handled_plug live slot ident part
handled_local station live (local.ReadyAt slot subslot) = handled_ready_at live slot subslot
handled_local station live local.Ready = handled_ready live
handled_local station live (local.ProviderState is_running) = handled_turned live is_running
handled_local station live (local.Answer number octets) = handled_gives station live number (gives_octets octets.items)
handled_local station live (local.Written number) = handled_gives station live number gives_done
handled_local station live (local.Refuse number code1 code2) = handled_gives station live number (gives_refusal code1 code2)

-- A PDU of the partner, by what happens to it: data is answered, an ACK counts or does not, and an ERR ends the
-- relation, which is logged.
abbrev pub handled_pdu : Live → PduFate → Option RelationState → Handled
handled_pdu live (fate.Data taken) link = goes_on_with live link (replies_of taken (flow_of link))
handled_pdu live fate.Done link = goes_on_with live link []
handled_pdu live fate.Ignored link = Refuses note.Filter
handled_pdu live (fate.Aborted status) link =
    let uuid = uuid_of live.rest.link in
    Moves (with_log (end_log uuid status) (record live.rest { link = link; asked = left_asked uuid live.rest.asked })) []

-- What an alarm PDU of high priority does.
abbrev pub handled_message : Live → ToDevice → Handled
handled_message live message = handled_pdu live (heard_by message live.rest.link) (updated (hearing message live.rest.link) live.rest.link)

-- What an alarm PDU of high priority does if it is of the relation; else it is refused.
abbrev pub handled_alarm : Live → Mac → Header → ToDevice → Handled
handled_alarm live source header message =
    if is_alarm_of source header.destination header.source live.rest.link then handled_message live message else Refuses note.NoRelation

-- A PDU of low priority of the partner, by what happens to it: data is answered, and after that the next change is reported;
-- an ACK counts or does not.
abbrev pub handled_low_pdu : Station → Live → PduFate → Option RelationState → Handled
handled_low_pdu station live (fate.Data taken) link =
    let next = updated (reporting link) link in
    goes_on_with live next (low_replies_of taken (flow_of link) ++ where_due (report_one link) (low_alarms_of (flow_of next)))
handled_low_pdu station live fate.Done link = goes_on_with live link []
handled_low_pdu station live fate.Ignored link = Refuses note.Filter
handled_low_pdu station live (fate.Aborted status) link = Refuses note.Filter

-- What an alarm PDU of low priority does.
abbrev pub handled_low_message : Station → Live → ToDevice → Handled
handled_low_message station live message =
    handled_low_pdu station live (heard_low message live.rest.link) (updated (hearing_low message live.rest.link) live.rest.link)

-- What an alarm PDU of low priority does if it is of the relation; else it is refused.
abbrev pub handled_low : Station → Live → Mac → Header → ToDevice → Handled
handled_low station live source header message =
    if is_alarm_of source header.destination header.source live.rest.link then handled_low_message station live message else Refuses note.NoRelation

-- An ACK under the FrameID of low priority is one of high priority until data of low priority was sent. An AlarmAck of low
-- priority cannot be read until then.
abbrev pub handled_low_reply : Station → Live → Mac → Header → ToDevice → Handled
handled_low_reply station live source header message =
    if has_sent_low live.rest.link then handled_low station live source header message else handled_alarm live source header message

-- What an AlarmAck of low priority does: it is a fault before the device has sent data of low priority.
abbrev pub handled_low_confirm : Station → Live → Mac → Header → ToDevice → Handled
handled_low_confirm station live source header message =
    if has_sent_low live.rest.link then handled_low station live source header message else Refuses note.Fault

-- ---- events

-- What a unit of time sends of the relation.
abbrev pub unit_sent : Live → List Sent
unit_sent live = due_frames live.values.running.suite.address (counter_of (units_after 1 live.rest.units)) (due_of live.rest.link)
    (updated (passing live.rest.link) live.rest.link)

-- The rest after a unit of time, before what is asked is counted.
abbrev pub unit_rest : Live → Rest
unit_rest live =
    let farewell = (due_of live.rest.link).farewell in
    with_log (err_log farewell) (record live.rest {
      lamp = live.rest.lamp - 1;
      link = updated (passing live.rest.link) live.rest.link;
      units = units_after 1 live.rest.units;
      asked = left_asked (ended_by farewell) live.rest.asked;
    })

-- The rest after a unit of time of what is asked, after the relation sent this many frames.
abbrev pub counted_rest : Station → List ℕ → ℕ → Rest → Rest
counted_rest station address count rest = record rest {
  asked = asked_later count rest.asked;
  calls = late_calls station.options station.identity address (late_in count rest.asked) rest.calls;
}

-- What is sent then: a call that has no answer in time is refused.
abbrev pub counted_sent : Station → List ℕ → ℕ → Rest → List Sent
counted_sent station address count rest = late_sent station.options address (late_in count rest.asked) rest.calls

-- The state after a unit of time: first of the relation, then of what is asked.
abbrev pub ticked : Station → Live → Handled
ticked station live =
    let address = live.values.running.suite.address in
    let sent = unit_sent live in
    Moves (counted_rest station address (length sent) (unit_rest live)) (sent ++ counted_sent station address (length sent) (unit_rest live))

-- What each event does to a device: the cases of its machine.
abbrev pub handled : Station → Live → Heard → Handled
handled station live (Asks asker request) = handled_request station live asker request.service request
handled station live (Resolves asker packet) = handled_arp live asker packet
handled station live (Reported caller address said) = handled_datagram station live caller address said
handled station live (Alarms source header message) = handled_alarm live source header message
handled station live (LowReplies source header message) = handled_low_reply station live source header message
handled station live (LowConfirms source header message) = handled_low_confirm station live source header message
handled station live (Cyclic source frame_id body) = handled_cyclic live source frame_id body
handled station live (Met peer) = handled_met live peer
handled station live (Applied said) = handled_local station live said
handled station live Ticks = ticked station live
handled station live Unreadable = Refuses note.Fault
handled station live Elsewhere = Refuses note.NotMine
