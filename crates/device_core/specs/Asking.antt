-- Records that the application answers: what a call asks of it, and the response to a call that was asked (IEC 61158-6-10, 5.2.3).
use Rattle.std.specs.Prelude.{◌==◌, ◌&&◌, ℕ, Bool, true, false, not, List, [], ◌∷◌, take, Option, Some, None, Result, Ok, Err, if◌then◌else◌}
use Rattle.std.specs.Option.{option_map}
use Rattle.pn_values.specs.IpSuite.{is_zero}
use Rattle.pn_values.specs.declared.identity.Identity.{Identity}
use Rattle.pn_values.specs.declared.real.Real.{Real}
use Rattle.wire.specs.Checks.{or_fault}
use Rattle.wire.specs.Codec.{◌>>=◌}
use Rattle.frame_codec.specs.declared.udp.Caller.{Caller}
use Rattle.block_codec.specs.declared.block_type.BlockType.TheVariants as kind
use Rattle.block_codec.specs.Block.{in_iod_write_req}
use Rattle.record_blocks.specs.declared.read_record.IodReadReq.{IodReadReq}
use Rattle.record_blocks.specs.declared.write_record.IodWriteReq.{IodWriteReq}
use Rattle.rpc_core.specs.declared.response.Status.{Status}
use Rattle.rpc_core.specs.Call.{Asked as Call}
use Rattle.rpc_core.specs.Response.{answer_to}
use Rattle.rpc_core.specs.Cache.{Kept, Reported as Looked, new, looked, kept_more, behind_call}
use Rattle.records.specs.calls.Naming.{in_relation, is_relation}
use Rattle.records.specs.calls.Single.{single_of}
use Rattle.records.specs.declared.status.call_fault.CallFault.{CallFault}
use Rattle.records.specs.declared.status.call_fault.CallFault.TheVariants as fault
use Rattle.records.specs.declared.status.operation.Operation.{Operation}
use Rattle.records.specs.declared.status.operation.Operation.TheVariants as operation
use Rattle.records.specs.reads.Handled.{request_of}
use Rattle.records.specs.reads.Within.{request_within}
use Rattle.asked_records.specs.Answers.{Gives, is_refusal, unanswered_status}
use Rattle.asked_records.specs.Asked.{AskedState, is_over, question_in, ticked as asked_ticked, without_relation}
use Rattle.asked_records.specs.Judging.{asked_read, asked_write}
use Rattle.asked_records.specs.Questions.{call_of, header_of, operation_of}
use Rattle.asked_records.specs.declared.names.RecordName.{RecordName}
use Rattle.asked_records.specs.declared.question.Question.{Question}
use Rattle.asked_records.specs.declared.question.Request.{Request}
use Rattle.asked_records.specs.declared.question.Request.TheVariants as request
use Rattle.asked_records.specs.declared.status.Unanswered.{Unanswered}
use Rattle.asked_records.specs.declared.status.Unanswered.TheVariants.{Late}
use Rattle.relations.specs.declared.options.DeviceOptions.{DeviceOptions}
use Rattle.relations.specs.declared.farewell.Farewell.{Farewell}
use Rattle.relations.specs.declared.phase.Partner.{Partner}
use Rattle.relations.specs.Phases.{Named, Unmoved, updated}
use Rattle.relations.specs.RelationState.{RelationState, uuid_of}
use Rattle.device_frames.specs.Relation.{where_due}
use Rattle.device_frames.specs.Sent.{Sent, CallAnswer, bytes_of}

-- ---- which answers are stored

-- Whether the answer to a call of this operation is stored. With the option `reads_not_kept` that of a Read Implicit is not.
abbrev pub is_kept : DeviceOptions → Operation → Bool
is_kept options operation.ReadImplicit = not options.reads_not_kept
is_kept options other = true

-- What the stored answers say of a call. A call whose answer is not stored is always new.
abbrev pub looked_if : Bool → List ℕ → ℕ → List Kept → Looked
looked_if true activity sequence calls = looked activity sequence calls
looked_if false activity sequence calls = new

-- The stored answers after the answer to a new call, if it is stored. The last answer of each of the last four activities is kept.
abbrev pub kept_if : Bool → Kept → List Kept → List Kept
kept_if true answer calls = kept_more 4 answer calls
kept_if false answer calls = calls

-- The stored answers after the answer to any call, if it is stored.
abbrev pub behind_if : Bool → Kept → List Kept → List Kept
behind_if true answer calls = behind_call 4 answer calls
behind_if false answer calls = calls

-- ---- what a call asks

-- What a call asks of the application, with the octets that it writes.
abbrev pub Asking : Type 0
Asking = Question × List ℕ

-- A call with this request for a record of the application.
abbrev pub question_of : Caller → Call → Request → RecordName → Question
question_of caller call wanted name =
    record { caller = caller; header = call.header; args_maximum = call.args_maximum; request = wanted; greatest_length = name.greatest_length }

-- What a Read asks, if it can be read.
abbrev pub asking_read : Real → List RecordName → (IodReadReq → Request) → Caller → Call → Result IodReadReq CallFault
    → Result (Option Asking) CallFault
asking_read real named wanted caller call (Ok read) =
    asked_read real named read >>= λ found. Ok (option_map (λ name. (question_of caller call (wanted read) name, [])) found)
asking_read real named wanted caller call (Err it) = Ok None

-- The IODWriteReqHeader of a Write in the relation, and the octets after it.
unfoldable pub write_within : Option (List ℕ) → List ℕ → Result (IodWriteReq × List ℕ) CallFault
write_within standing blocks = single_of kind.IodWriteReq blocks
    >>= λ x. or_fault fault.BlockForm (in_iod_write_req x.0)
    >>= λ write. in_relation standing write.header.ar_uuid
    >>= λ _. Ok (write, x.1)

-- What a Write asks, if it can be read.
abbrev pub asking_write : Real → List RecordName → Caller → Call → Result (IodWriteReq × List ℕ) CallFault → Result (Option Asking) CallFault
asking_write real named caller call (Ok x) = asked_write real named x.0 x.1 >>= λ found. Ok (option_map
    (λ name. (question_of caller call (request.Write x.0) name, take x.0.header.record_data_length x.1)) found)
asking_write real named caller call (Err it) = Ok None

-- What a call of this operation asks of the application, or why it may not: None if it is answered by the device, also if it
-- cannot be read or does not name the relation.
abbrev pub asking_of : Real → List RecordName → Option (List ℕ) → Caller → Call → List ℕ → Operation → Result (Option Asking) CallFault
asking_of real named standing caller call blocks operation.Read =
    asking_read real named request.Read caller call (request_within standing blocks)
asking_of real named standing caller call blocks operation.Write = asking_write real named caller call (write_within standing blocks)
asking_of real named standing caller call blocks operation.ReadImplicit =
    asking_read real named request.ReadImplicit caller call (request_of blocks)
asking_of real named standing caller call blocks other = Ok None

-- ---- the response

-- The response to a call that was asked, from this address.
abbrev pub reply_to : List ℕ → Question → Status → List ℕ → Sent
reply_to address question status blocks = CallAnswer question.caller address (answer_to (call_of question) status blocks)

-- Whether no call of its activity with this number or a later one was answered.
abbrev pub is_new : Looked → Bool
is_new new = true
is_new other = false

-- The response is sent, unless a later call of its activity was answered meanwhile. One that is not stored is always sent.
abbrev pub question_replies : Bool → Question → Sent → List Kept → List Sent
question_replies is_kept question answer calls =
    where_due (is_new (looked_if is_kept question.header.activity question.header.sequence calls)) (answer ∷ [])

-- What is stored of the response to a call that was asked: its frame.
abbrev pub kept_reply : Identity → Question → Sent → Kept
kept_reply identity question answer =
    record { activity = question.header.activity; sequence = question.header.sequence; frame = bytes_of identity answer }

-- It is stored if it is sent, or not.
abbrev pub calls_after : Bool → Identity → Question → Sent → List Kept → List Kept
calls_after is_kept identity question answer calls = behind_if is_kept (kept_reply identity question answer) calls

-- The response to a call that was asked before. It is dropped if the device has no IP address any more.
abbrev pub later_replies : Bool → List ℕ → Question → Sent → List Kept → List Sent
later_replies is_kept address question answer calls = if is_zero address then [] else question_replies is_kept question answer calls

-- The stored answers after it.
abbrev pub later_calls : Bool → Identity → List ℕ → Question → Sent → List Kept → List Kept
later_calls is_kept identity address question answer calls =
    if is_zero address then calls else calls_after is_kept identity question answer calls

-- ---- a call that was asked and is refused

-- Its response, for this reason.
abbrev pub refused_reply : List ℕ → Unanswered → Question → Sent
refused_reply address reason question = reply_to address question (unanswered_status (operation_of question.request) reason) []

-- It is sent as any other, if a call is refused.
abbrev pub refused_sent : DeviceOptions → List ℕ → Unanswered → Option Question → List Kept → List Sent
refused_sent options address reason (Some question) calls =
    later_replies (is_kept options (operation_of question.request)) address question (refused_reply address reason question) calls
refused_sent options address reason None calls = []

-- The stored answers after it.
abbrev pub refused_calls : DeviceOptions → Identity → List ℕ → Unanswered → Option Question → List Kept → List Kept
refused_calls options identity address reason (Some question) calls =
    later_calls (is_kept options (operation_of question.request)) identity address question (refused_reply address reason question) calls
refused_calls options identity address reason None calls = calls

-- The station that sent a call.
abbrev pub source_of : Question → Partner
source_of question = record { mac = question.caller.mac; address = question.caller.endpoint.address }

-- An answer that is no refusal to a call that names the relation shows that the controller is alive.
abbrev pub answered_link : Question → Gives → Option RelationState → Option RelationState
answered_link question given link =
    updated (if is_relation (uuid_of link) (header_of question.request).ar_uuid && not (is_refusal given) then Named (source_of question) else Unmoved) link

-- ---- what ends it

-- The relation with this ARUUID ended, if one did: what it asked is dropped.
abbrev pub left_asked : Option (List ℕ) → AskedState → AskedState
left_asked (Some uuid) state = without_relation uuid state
left_asked None state = state

-- The ARUUID of the relation that ended with this ERR, if one did.
abbrev pub ended_by : Option Farewell → Option (List ℕ)
ended_by ended = option_map (λ farewell. farewell.uuid) ended

-- The ARUUID of the relation that ended with a Release of this outcome, if it did.
abbrev pub released_by : {A : Type 0} → Result A CallFault → Option (List ℕ) → Option (List ℕ)
released_by (Ok answer) uuid = uuid
released_by (Err it) uuid = None

-- ---- time

-- Whether there is no room for one more frame: a unit sends at most four.
abbrev pub is_full : ℕ → Bool
is_full count = count == 4

-- What is asked after a unit of time in which the relation sends this many frames. If the call must be refused and there is no room
-- for its response, it waits for the next unit.
abbrev pub asked_later : ℕ → AskedState → AskedState
asked_later count state = if is_over state && is_full count then state else asked_ticked state

-- The call that is refused with this unit of time, if there is one.
abbrev pub late_in : ℕ → AskedState → Option Question
late_in count state = if is_over state && not (is_full count) then question_in state else None

-- Its response: busy. It is sent and stored as any other.
abbrev pub late_sent : DeviceOptions → List ℕ → Option Question → List Kept → List Sent
late_sent options address late calls = refused_sent options address Late late calls

-- The stored answers after it.
abbrev pub late_calls : DeviceOptions → Identity → List ℕ → Option Question → List Kept → List Kept
late_calls options identity address late calls = refused_calls options identity address Late late calls
