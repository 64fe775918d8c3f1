-- What one turn of a device does: nothing; something that is no call; that a response confirms ApplicationReady; that a
-- response is sent again; that a call is answered, with its operation, its outcome and the relation afterwards; that a call is asked of
-- the application, or refused while another one is; that the call that is asked is answered; or, with one of the options for that, that a
-- Read Implicit that is asked is answered and its response is not stored, or gives way to a call of the relation.
use Rattle.std.specs.Prelude.{◌≡◌, ◌⊎◌, ◌++◌, ℕ, Bool, true, false, List, [], ◌∷◌, Option, Some, None, option_map, Result, Ok, Err}
use Rattle.std.specs.List.{AllByRecursion}
use Rattle.frame_codec.specs.declared.udp.Caller.{Caller}
use Rattle.rpc_core.specs.Cache.{Kept, kept_more, kept_of, looked, new}
use Rattle.rpc_core.specs.Call.{Asked as Call}
use Rattle.rpc_core.specs.Response.{answer_to, is_done}
use Rattle.rpc_core.specs.Sendable.{IsStatus}
use Rattle.rpc_core.specs.declared.response.Status.{Status}
use Rattle.connects.specs.requests.Request.{Request}
use Rattle.records.specs.declared.status.call_fault.CallFault.{CallFault}
use Rattle.records.specs.declared.status.operation.Operation.{Operation}
use Rattle.records.specs.declared.status.operation.Operation.TheVariants as operation
use Rattle.records.specs.status.Operation.{operation_of}
use Rattle.pn_values.specs.declared.im_value.ImValue.{ImValue}
use Rattle.pn_values.specs.declared.real.Real.{Real}
use Rattle.records.specs.declared.writes.taken.TakenRecord.{TakenRecord}
use Rattle.records.specs.declared.writes.write.Effect.TheVariants.{Stores, Keeps}
use Rattle.records.specs.declared.writes.write.Write.{Write}
use Rattle.record_blocks.specs.declared.write_record.IodWriteReq.{IodWriteReq}
use Rattle.records.specs.declared.writes.writing.Writing.TheVariants.{One, Each}
use Rattle.records.specs.writes.Asked.{writing_of}
use Rattle.records.specs.writes.Entry.{Entry}
use Rattle.asked_records.specs.Answers.{unanswered_status}
use Rattle.asked_records.specs.Asked.{asked_with, question_in, settled}
use Rattle.asked_records.specs.Questions.{is_implicit}
use Rattle.asked_records.specs.declared.names.RecordName.{RecordName}
use Rattle.asked_records.specs.declared.question.Question.{Question}
use Rattle.asked_records.specs.declared.question.Request.{Request as Wanted}
use Rattle.asked_records.specs.declared.status.Unanswered.TheVariants.{Busy}
use Rattle.expected_places.specs.Machine.{PlugState}
use Rattle.relations.specs.declared.options.DeviceOptions.{DeviceOptions}
use Rattle.relations.specs.declared.phase.Partner.{Partner}
use Rattle.relations.specs.Passed.{PassedOn}
use Rattle.relations.specs.declared.phase.Phase.TheVariants.{Started, Awaiting, Exchanging}
use Rattle.relations.specs.declared.plugging.PlugReady.{PlugReady}
use Rattle.relations.specs.declared.ready.Ready.{Ready}
use Rattle.relations.specs.Connect.{connect_blocks, connect_of, differing_of, rows_of}
use Rattle.relations.specs.Phases.{Named, Records, exchanging_from, keeping, made_of, parameterized_from, restarted, updated, with_records}
use Rattle.relations.specs.RelationState.{RelationState, uuid_of}
use Rattle.relations.specs.exchange.Marks.{Starting}
use Rattle.relations.specs.Numbers.{IsNumber}
use Rattle.device_frames.specs.Heard.{Heard, Calls, Reported}
use Rattle.device_frames.specs.Sent.{Sent, CallAnswer, Again, Exchanges, ReadyCall, PlugReadyCall}
use Rattle.pn_values.specs.declared.set_item.BlockError.{BlockError}
use Rattle.device_core.specs.Asking.{Asking, asking_of, kept_if, kept_reply, looked_if, question_of, reply_to}
use Rattle.device_core.specs.Handled.{Moves, answer_from, handled_question, kept_behind, kept_for, outcome_of, partner_of}
use Rattle.device_core.specs.Machine.{link_behind, several_answer}
use Rattle.device_core.specs.Several.{judged_each}
use Rattle.device_core.specs.State.{Live, Rest, Station}
use Rattle.end_laws.specs.both.Small as small
use Rattle.end_laws.specs.both.Small.{ToDevice}
use Rattle.end_laws.specs.both.Steps.{IsPart, IsSameOrNone}
use Rattle.end_laws.specs.device.Orderly.{AreNumbered, IsOrderly, keys_of}
use Rattle.end_laws.specs.device.Owed.{IsOfPlug, IsOfRelation}
use Rattle.end_laws.specs.device.Small.{Planned, heard_as, link_of}

-- ---- messages

-- the relation waits for the response to ApplicationReady
pub record IsAwaiting (relation : Option RelationState) : Type 0 where
  pub link : RelationState
  pub is : relation ≡ Some link
  pub awaits : link.phase ≡ Awaiting

-- ApplicationReady of the relation that existed, which waits for its response afterwards
abbrev pub IsReadied : Live → Option RelationState → Ready → Type 0
IsReadied live after ready = IsOfRelation live.rest.link ready × IsAwaiting after

-- a message that is not a response to a call
abbrev pub IsOther : Live → Option RelationState → Sent → Type 0
IsOther live after (CallAnswer caller address answer) = ⊥
IsOther live after (Again frame) = ⊥
IsOther live after (ReadyCall address ready) = IsReadied live after ready
IsOther live after (PlugReadyCall address ready) = IsOfPlug live.rest.link ready
IsOther live after message = Unit {0}

-- ---- turns without a call

-- nothing changes, and nothing is sent
pub record Rests (live : Live) (after : Rest) (sent : List Sent) : Type 0 where
  pub same : after ≡ live.rest
  pub silent : sent ≡ []

-- what is heard is no call
abbrev pub IsUncalled : ToDevice → Type 0
IsUncalled (small.Call sequence ask) = ⊥
IsUncalled small.Confirms = Unit {0}
IsUncalled small.Idle = Unit {0}

-- an alarm of low priority is first sent: the relation keeps some of its records, as those of the places of a pull or a plug are
-- forgotten with its alarm; data is exchanged, if the relation is in order
pub record Forgets (before after : Option RelationState) : Type 0 where
  pub link : RelationState
  pub was : before ≡ Some link
  pub exchanges : IsOrderly link → link.phase ≡ Exchanging
  pub values : List TakenRecord
  pub part : IsPart values link.taken
  pub becomes : option_map link_of after ≡ Some (record (link_of link) { taken = values })

-- the relation keeps its phase, its request and its records, or it ends, or it forgets records
abbrev pub IsKeptOr : Option RelationState → Option RelationState → Type 0
IsKeptOr before after =
    (option_map link_of after ≡ option_map link_of before) ⊎ ((option_map link_of after ≡ None) ⊎ Forgets before after)

-- something happens that is no call, and confirms no ApplicationReady of the relation; what is asked of the application stays, or is
-- dropped
pub record GoesBy (live : Live) (heard : Heard) (after : Rest) (sent : List Sent) : Type 0 where
  pub uncalled : (planned : Planned) → IsUncalled (heard_as planned heard)
  pub calls : after.calls ≡ live.rest.calls
  pub link : IsKeptOr live.rest.link after.link
  pub others : AllByRecursion (IsOther live after.link) sent
  pub asked : IsSameOrNone (question_in live.rest.asked) (question_in after.asked)

-- The call that is asked of the application is answered, by the application or by the device as no answer came in time: the response is
-- sent after what else is sent then, and stored or not. If it is stored, no later call of its activity was answered meanwhile.
pub record Replies (is_stored : Bool) (station : Station) (live : Live) (heard : Heard) (after : Rest) (sent : List Sent) : Type 0 where
  pub idle : (planned : Planned) → heard_as planned heard ≡ small.Idle
  pub question : Question
  pub asked : question_in live.rest.asked ≡ Some question
  pub settled : question_in after.asked ≡ None
  pub fresh : looked_if is_stored question.header.activity question.header.sequence live.rest.calls ≡ new
  pub link : IsKeptOr live.rest.link after.link
  pub status : Status
  pub blocks : List ℕ
  pub keeps : after.calls ≡ kept_if is_stored
      (kept_reply station.identity question (reply_to live.values.running.suite.address question status blocks)) live.rest.calls
  pub first : List Sent
  pub others : AllByRecursion (IsOther live after.link) first
  pub sends : sent ≡ first ++ reply_to live.values.running.suite.address question status blocks ∷ []

-- a frame of the exchange
abbrev pub IsExchange : Sent → Type 0
IsExchange (Exchanges route frame) = Unit {0}
IsExchange message = ⊥

-- the response that confirms ApplicationReady, while the relation waits for it: data is exchanged, and frames of the exchange may
-- be sent; the relation keeps its records, or some of them if something was pulled or plugged before
pub record Confirms (live : Live) (heard : Heard) (after : Rest) (sent : List Sent) : Type 0 where
  pub confirms : (planned : Planned) → heard_as planned heard ≡ small.Confirms
  pub link : RelationState
  pub was : live.rest.link ≡ Some link
  pub awaits : link.phase ≡ Awaiting
  pub next : RelationState
  pub values : List TakenRecord
  pub part : IsPart values link.taken
  pub exchanges : link_of next ≡ record (link_of (exchanging_from link)) { taken = values }
  pub becomes : after ≡ record live.rest { link = Some next }
  pub others : AllByRecursion IsExchange sent

-- ---- calls

-- the call that was answered last: its response is sent again
pub record Repeats (live : Live) (heard : Heard) (after : Rest) (sent : List Sent) : Type 0 where
  pub caller : Caller
  pub address : List ℕ
  pub call : Call
  pub is : heard ≡ Reported caller address (Calls call)
  pub kept : Kept
  pub there : kept_of call.header.activity live.rest.calls ≡ Some kept
  pub number : kept.sequence ≡ call.header.sequence
  pub same : after ≡ live.rest
  pub sends : sent ≡ Again kept.frame ∷ []

-- a Connect is accepted, for a relation of a number that the device may give, and its response says what differs
pub record Connected (station : Station) (real : Real) (caller : Caller) (blocks octets : List ℕ) (before after : Option RelationState) : Type 0 where
  pub request : Request
  pub options : DeviceOptions
  pub starting : Starting
  pub read : connect_of before blocks ≡ Ok request
  pub made : after ≡ Some (made_of request (partner_of caller) (rows_of request real) options starting)
  pub numbered : IsNumber station.options starting.number
  pub answer : octets ≡ connect_blocks station.identity starting.number request (differing_of request real)

-- a call that names the relation is accepted, of its own controller or of another station, and changes nothing else
abbrev pub IsRestarted : Option RelationState → Option RelationState → Type 0
IsRestarted before after = (source : Partner) × (after ≡ option_map (restarted source) before)

-- a Write is accepted whose record the settings store
pub record Stored (real : Real) (blocks : List ℕ) (before after : Option RelationState) : Type 0 where
  pub write : Write
  pub judged : writing_of (uuid_of before) real blocks ≡ Ok (One write)
  pub value : ImValue
  pub stores : write.effect ≡ Stores value
  pub same : IsRestarted before after

-- a Write is accepted, and the relation has one more record, or passes it on
pub record Written (real : Real) (blocks : List ℕ) (before after : Option RelationState) : Type 0 where
  pub link : RelationState
  pub was : before ≡ Some link
  pub write : Write
  pub judged : writing_of (uuid_of before) real blocks ≡ Ok (One write)
  pub value : TakenRecord
  pub keeps : write.effect ≡ Keeps value
  pub source : Partner
  pub more : Records
  pub kept : keeping value (Some link) ≡ Ok more
  pub becomes : after ≡ Some (restarted source (with_records more link))

-- a relation that was named has these records after its others, and these were passed on
abbrev pub with_more : Partner → PassedOn → List TakenRecord → RelationState → RelationState
with_more source passed values link = restarted source (with_records (record { taken = link.taken ++ values; passed = passed }) link)

-- A Write of several records is accepted, and the relation has more records, if it accepted and kept any: each record is
-- carried out and answered by itself, in order.
pub record WrittenEach (named : List RecordName) (real : Real) (blocks octets : List ℕ) (before after : Option RelationState) : Type 0 where
  pub header : IodWriteReq
  pub entries : List Entry
  pub judged : writing_of (uuid_of before) real blocks ≡ Ok (Each header entries)
  pub answers : List BlockError
  pub tells : octets ≡ several_answer header (judged_each named (uuid_of before) real entries) answers before
  pub source : Partner
  pub carried : after ≡ updated (Named source) (link_behind (judged_each named (uuid_of before) real entries) before)
  pub passed : PassedOn
  pub values : List TakenRecord
  pub becomes : after ≡ option_map (with_more source passed values) before

-- a PrmEnd is accepted, by a device whose application says when it is ready, or by another
pub record Parameterized (before after : Option RelationState) : Type 0 where
  pub link : RelationState
  pub was : before ≡ Some link
  pub started : link.phase ≡ Started
  pub by_application : Bool
  pub source : Partner
  pub becomes : after ≡ Some (restarted source (parameterized_from by_application link))

-- a PrmEnd after a plug is accepted, and changes only how far the places of the relation are; data is exchanged, if the relation is in
-- order
pub record PlugEnded (before after : Option RelationState) : Type 0 where
  pub link : RelationState
  pub was : before ≡ Some link
  pub exchanges : IsOrderly link → link.phase ≡ Exchanging
  pub source : Partner
  pub plugs : PlugState
  pub numbered : AreNumbered link.plugs.calls → AreNumbered plugs.calls
  pub keys : keys_of plugs.places ≡ keys_of link.plugs.places
  pub becomes : after ≡ Some (record (restarted source link) { plugs = plugs })

-- a Release is accepted
pub record Released (before after : Option RelationState) : Type 0 where
  pub link : RelationState
  pub was : before ≡ Some link
  pub gone : after ≡ None

-- what a call does to the relation, by its outcome and its operation, at a device where these modules are plugged
abbrev pub IsEffect : Station → Real → Caller → List ℕ → Result (List ℕ) CallFault → Operation → Option RelationState → Option RelationState → Type 0
IsEffect station real caller blocks (Err fault) which before after = after ≡ before
IsEffect station real caller blocks (Ok octets) operation.Connect before after = Connected station real caller blocks octets before after
IsEffect station real caller blocks (Ok octets) operation.Write before after =
    Written real blocks before after ⊎ (Stored real blocks before after ⊎ WrittenEach station.named real blocks octets before after)
IsEffect station real caller blocks (Ok octets) operation.Control before after = Parameterized before after ⊎ PlugEnded before after
IsEffect station real caller blocks (Ok octets) operation.Release before after = Released before after
IsEffect station real caller blocks (Ok octets) operation.Read before after = IsRestarted before after
IsEffect station real caller blocks (Ok octets) operation.ReadImplicit before after = ⊥

-- What follows a response: the call ApplicationReady, or that of a plug.
pub data Following : Type 0 where
  Readying : (ready : Ready) → Following
  Plugging : (ready : PlugReady) → Following

-- ApplicationReady after a response, if there is one
abbrev pub AreReadied : Live → Option RelationState → Option Following → Type 0
AreReadied live after None = Unit {0}
AreReadied live after (Some (Readying ready)) = IsReadied live after ready
AreReadied live after (Some (Plugging ready)) = IsOfPlug live.rest.link ready

-- The call ApplicationReady that a device sends from this address, if it is due.
abbrev pub readied_from : List ℕ → Option Following → List Sent
readied_from address None = []
readied_from address (Some (Readying ready)) = ReadyCall address ready ∷ []
readied_from address (Some (Plugging ready)) = PlugReadyCall address ready ∷ []

-- a new call is answered, and the response is stored; what is asked of the application stays, or is dropped with the relation
pub record Serves (station : Station) (live : Live) (heard : Heard) (after : Rest) (sent : List Sent) : Type 0 where
  pub caller : Caller
  pub address : List ℕ
  pub call : Call
  pub is : heard ≡ Reported caller address (Calls call)
  pub blocks : List ℕ
  pub counted : call.blocks ≡ Some blocks
  pub fresh : looked call.header.activity call.header.sequence live.rest.calls ≡ new
  pub which : Operation
  pub asks : operation_of call.header.operation ≡ Some which
  pub outcome : Result (List ℕ) CallFault
  pub status : IsStatus (outcome_of which outcome).0
  pub effect : IsEffect station live.rest.real caller blocks outcome which live.rest.link after.link
  pub ready : Option Following
  pub readied : AreReadied live after.link ready
  pub keeps : after.calls ≡ kept_more 4 (kept_for station.identity call (answer_from live.values.running.suite.address caller call which outcome)) live.rest.calls
  pub sends : sent ≡ answer_from live.values.running.suite.address caller call which outcome ∷ readied_from live.values.running.suite.address ready
  pub asked : IsSameOrNone (question_in live.rest.asked) (question_in after.asked)

-- A new call asks for a record of the application. The request is that of the call: a Read, a Write or a Read Implicit.
pub record IsForRecord (station : Station) (live : Live) (heard : Heard) (asking : Asking) : Type 0 where
  pub caller : Caller
  pub address : List ℕ
  pub call : Call
  pub is : heard ≡ Reported caller address (Calls call)
  pub blocks : List ℕ
  pub counted : call.blocks ≡ Some blocks
  pub fresh : looked call.header.activity call.header.sequence live.rest.calls ≡ new
  pub which : Operation
  pub operation_is : operation_of call.header.operation ≡ Some which
  pub asks : asking_of live.rest.real station.named (uuid_of live.rest.link) caller call blocks which ≡ Ok (Some asking)
  pub wanted : Wanted
  pub name : RecordName
  pub of_call : asking.0 ≡ question_of caller call wanted name

-- a new call is asked of the application: nothing is sent, and nothing else changes
pub record Questions (station : Station) (live : Live) (heard : Heard) (after : Rest) (sent : List Sent) : Type 0 where
  pub asking : Asking
  pub new_call : IsForRecord station live heard asking
  pub free : question_in live.rest.asked ≡ None
  pub becomes : after ≡ record live.rest { asked = asked_with asking.0 asking.1 live.rest.asked }
  pub silent : sent ≡ []

-- The response to a call of this operation that is refused while another one is asked.
abbrev pub busy_answer : Live → Caller → Call → Operation → Sent
busy_answer live caller call which = CallAnswer caller live.values.running.suite.address (answer_to call (unanswered_status which Busy) [])

-- a new call for a record of the application is refused while another one is asked, and the response is stored
pub record Declines (station : Station) (live : Live) (heard : Heard) (after : Rest) (sent : List Sent) : Type 0 where
  pub asking : Asking
  pub new_call : IsForRecord station live heard asking
  pub other : Question
  pub busy : question_in live.rest.asked ≡ Some other
  pub undone : is_done (unanswered_status new_call.which Busy) ≡ false
  pub becomes : after ≡ kept_behind station.identity live.rest new_call.call (busy_answer live new_call.caller new_call.call new_call.which) live.rest.link
  pub sends : sent ≡ busy_answer live new_call.caller new_call.call new_call.which ∷ []

-- ---- Read Implicit

-- a Read Implicit that is asked gives way to a new call of the relation, which is asked then: the response is that it is busy
pub record GivesWay (station : Station) (live : Live) (heard : Heard) (question : Question) (after : Rest) (sent : List Sent) : Type 0 where
  pub asking : Asking
  pub new_call : IsForRecord station live heard asking
  pub moves : Moves after sent ≡ handled_question station live asking.0 (Some question) (Some (asked_with asking.0 asking.1 (settled live.rest.asked)))

-- a Read Implicit that is asked of the application is answered and its response is not stored, or it gives way, each with its option
pub record Implicitly (station : Station) (live : Live) (heard : Heard) (after : Rest) (sent : List Sent) : Type 0 where
  pub question : Question
  pub asked : question_in live.rest.asked ≡ Some question
  pub implicit : is_implicit question.request ≡ true
  pub does : ((station.options.reads_not_kept ≡ true) × Replies false station live heard after sent)
      ⊎ ((station.options.asks_own_first ≡ true) × GivesWay station live heard question after sent)

-- ---- a turn

-- What a step of a device does is one of these nine.
abbrev pub Does : Station → Live → Heard → Rest → List Sent → Type 0
Does station live heard after sent =
    Rests live after sent ⊎ (GoesBy live heard after sent ⊎ (Confirms live heard after sent ⊎ (Repeats live heard after sent
    ⊎ (Serves station live heard after sent ⊎ (Questions station live heard after sent
    ⊎ (Declines station live heard after sent ⊎ (Replies true station live heard after sent ⊎ Implicitly station live heard after sent)))))))
