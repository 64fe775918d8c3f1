-- A device as a small machine, and what it says and hears of a start-up.
use Rattle.std.specs.Prelude.{◌≡◌, ◌+◌, ◌-◌, ◌==◌, ◌&&◌, ◌++◌, ◌∷◌, ℕ, suc, Bool, true, false, nat_eq, List, [], unwrap_or, Option, Some, None, option_map, if◌then◌else◌, Result, Ok, Err}
use Rattle.std.specs.List.{AllByRecursion}
use Rattle.std.specs.Cmp.Lexicographic.{pointwise}
use Rattle.pn_values.specs.declared.identity.Identity.{Identity}
use Rattle.pn_values.specs.declared.real.Real.{Real}
use Rattle.rpc_core.specs.Cache.{Kept as Answer, kept_of}
use Rattle.rpc_core.specs.Call.{Asked as Call}
use Rattle.rpc_core.specs.Response.{Answered as Response, is_done}
use Rattle.rpc_core.specs.Sendable.{IsStatus}
use Rattle.rpc_core.specs.declared.response.Status.{Status}
use Rattle.connect_blocks.specs.declared.control.ControlBlock.{ControlBlock}
use Rattle.wire.specs.declared.blocks.fault.BlockFault.{BlockFault}
use Rattle.block_codec.specs.declared.block.Block.{Block}
use Rattle.block_codec.specs.Block.{block_of, in_iod_write_req}
use Rattle.records.specs.declared.status.operation.Operation.{Operation}
use Rattle.records.specs.declared.status.operation.Operation.TheVariants as operation
use Rattle.records.specs.status.Operation.{operation_of}
use Rattle.connects.specs.requests.Request.{Request}
use Rattle.connects.specs.requests.Handled.{request_of}
use Rattle.records.specs.declared.writes.taken.TakenRecord.{TakenRecord}
use Rattle.records.specs.declared.writes.write.Effect.TheVariants.{Keeps}
use Rattle.records.specs.declared.writes.write.Write.{Write}
use Rattle.records.specs.declared.writes.writing.Writing.{Writing}
use Rattle.records.specs.declared.writes.writing.Writing.TheVariants.{One, Each}
use Rattle.record_blocks.specs.declared.write_record.IodWriteReq.{IodWriteReq}
use Rattle.records.specs.writes.Answer.{answer_of, outcomes_of}
use Rattle.records.specs.writes.Entry.{Entry}
use Rattle.records.specs.writes.Asked.{writing_of}
use Rattle.asked_records.specs.Asked.{AskedState, question_in}
use Rattle.asked_records.specs.Questions.{is_implicit}
use Rattle.asked_records.specs.Judging.{asked_name}
use Rattle.asked_records.specs.declared.names.RecordName.{RecordName}
use Rattle.asked_records.specs.declared.question.Question.{Question}
use Rattle.relations.specs.declared.phase.Phase.{Phase}
use Rattle.relations.specs.declared.phase.Phase.TheVariants.{Started, Preparing, Awaiting, Exchanging}
use Rattle.relations.specs.RelationState.{RelationState}
use Rattle.relations.specs.Ready.{confirmed_block}
use Rattle.device_frames.specs.Heard.{Heard, Reported, Said, Calls, Responds, Garbled}
use Rattle.device_frames.specs.Sent.{Sent, IdentifyAnswer, GetAnswer, SetAnswer, ArpReply, CallAnswer, Again, ReadyCall, PlugReadyCall, Ends, Exchanges, bytes_of}
use Rattle.device_core.specs.Asking.{write_within}
use Rattle.device_core.specs.State.{Live}
use Rattle.device_core.specs.Several.{Judged, judged_each}
use Rattle.end_laws.specs.both.Small as small
use Rattle.end_laws.specs.both.Small.{Rules, ToDevice, ToController, reply_of}
use Rattle.end_laws.specs.both.Steps.{SaysAtMost}

-- ---- its state

-- the phase of a relation, as a start-up sees it: from PrmEnd on it awaits the response to ApplicationReady, which may be
-- sent at any time then
abbrev pub phase_in : Phase → small.Phase
phase_in Started = small.Started
phase_in Preparing = small.Awaiting
phase_in Awaiting = small.Awaiting
phase_in Exchanging = small.Exchanging

-- a relation, as a start-up sees it
abbrev pub link_of : RelationState → small.RelationState TakenRecord Request
link_of link = record { phase = phase_in link.phase; request = link.request; taken = link.taken }

-- a stored response, as a start-up sees it
abbrev pub kept_in : Answer → small.Kept
kept_in answer = record { sequence = answer.sequence; frame = answer.frame }

-- the sequence number of the call that is asked of the application, if one is
abbrev pub asked_in : AskedState → Option ℕ
asked_in state = option_map (λ question. question.header.sequence) (question_in state)

-- of the stored responses, the one of the activity of the start-up counts
abbrev pub small_of : List ℕ → Live → small.Device TakenRecord Request
small_of activity live = record {
  kept = option_map kept_in (kept_of activity live.rest.calls);
  link = option_map link_of live.rest.link;
  asked = asked_in live.rest.asked;
}

-- what is asked of the application is a call of this activity, and no Read Implicit
abbrev pub IsAskedOwn : List ℕ → AskedState → Type 0
IsAskedOwn activity state = (question : Question) → question_in state ≡ Some question
    → (question.header.activity ≡ activity) × (is_implicit question.request ≡ false)

-- ---- what it hears

-- whether a Write with a sequence number and blocks is one of the start-up
abbrev pub Planned : Type 0
Planned = ℕ → List ℕ → Bool

-- the number of a Write of the start-up: SeqNumber of its first block is one more
abbrev pub number_of_write : Option IodWriteReq → ℕ
number_of_write (Some write) = write.header.seq_number - 1
number_of_write None = 0

-- the same of the first block as it is read
abbrev pub number_by : Result (Block × List ℕ) BlockFault → ℕ
number_by (Ok read) = number_of_write (in_iod_write_req read.0)
number_by (Err fault) = 0

-- the same of the octets of its blocks
abbrev pub number_in : List ℕ → ℕ
number_in blocks = number_by (block_of blocks)

-- a Write of the start-up, with a sequence number, has a number of its own
abbrev pub written_by : Bool → ℕ → ℕ → ToDevice
written_by true sequence number = small.Call sequence (small.Writes number)
written_by false sequence number = small.Call sequence small.Accesses

-- the request of a call, by its operation and its blocks
abbrev pub asked_by : Planned → ℕ → List ℕ → Option Operation → ToDevice
asked_by planned sequence blocks (Some operation.Connect) = small.Call sequence small.Connects
asked_by planned sequence blocks (Some operation.Write) = written_by (planned sequence blocks) sequence (number_in blocks)
asked_by planned sequence blocks (Some operation.Control) = small.Call sequence small.Parameterized
asked_by planned sequence blocks (Some operation.Release) = small.Call sequence small.Releases
asked_by planned sequence blocks (Some operation.Read) = small.Call sequence small.Accesses
asked_by planned sequence blocks (Some operation.ReadImplicit) = small.Idle
asked_by planned sequence blocks None = small.Idle

-- whether a block names the relation whose ARUUID is the activity of the call
abbrev pub names_own : List ℕ → Option ControlBlock → Bool
names_own activity None = false
names_own activity (Some block) = pointwise nat_eq block.ar_uuid activity

-- whether a response is the positive one to an ApplicationReady, whose block names the relation of the call
abbrev pub confirms : Response → Bool
confirms response =
    (response.header.sequence == 0 && response.header.operation == 4)
    && (is_done response.status && names_own response.header.activity (confirmed_block (block_of response.blocks)))

-- what a datagram says to a device, as a start-up sees it
abbrev pub said_to : Planned → Said → ToDevice
said_to planned (Calls call) = asked_by planned call.header.sequence (unwrap_or call.blocks []) (operation_of call.header.operation)
said_to planned (Responds response) = if confirms response then small.Confirms else small.Idle
said_to planned Garbled = small.Idle

-- calls and responses; everything else says nothing of a start-up
abbrev pub heard_as : Planned → Heard → ToDevice
heard_as planned (Reported caller address said) = said_to planned said
heard_as planned other = small.Idle

-- ---- the calls of a start-up

-- A record of several that is judged asks for this one of the start-up, or it is refused.
abbrev pub IsKeeping : Judged → TakenRecord → Type 0
IsKeeping judged value = (write : Write) → judged.1 ≡ Ok write → write.effect ≡ Keeps value

-- these are the records of a Write of the start-up, in order, each of them judged
abbrev pub AreKeeping : List Judged → List TakenRecord → Type 0
AreKeeping [] [] = Unit {0}
AreKeeping (judged ∷ others) (value ∷ values) = IsKeeping judged value × AreKeeping others values
AreKeeping judged values = ⊥

-- the outcomes of several records, in order, each with the header of its record and a status of four octets
abbrev pub AreOutcomesOf : List Entry → List (IodWriteReq × Status) → Type 0
AreOutcomesOf [] [] = Unit {0}
AreOutcomesOf (entry ∷ entries) (outcome ∷ outcomes) = (outcome.0 ≡ entry.0) × IsStatus outcome.1 × AreOutcomesOf entries outcomes
AreOutcomesOf entries outcomes = ⊥

-- each of these records was written
abbrev pub AreDone : List (IodWriteReq × Status) → Type 0
AreDone outcomes = AllByRecursion (λ outcome. is_done outcome.1 ≡ true) outcomes

-- what a Write of the start-up with these records asks for: the one record; or each of them, and if the response says that
-- each was written, each was
abbrev pub IsWritingOf : Rules TakenRecord Request → List RecordName → Real → Option (List ℕ) → ℕ → List TakenRecord → Writing → Type 0
IsWritingOf rules named real standing stage values (One write) = (value : TakenRecord) × (values ≡ value ∷ []) × (write.effect ≡ Keeps value)
IsWritingOf rules named real standing stage values (Each header entries) =
    AreKeeping (judged_each named standing real entries) values
    × ((outcomes : List (IodWriteReq × Status)) → AreOutcomesOf entries outcomes
    → rules.grants stage (answer_of header ++ outcomes_of outcomes) ≡ true → AreDone outcomes)

-- A call with these blocks is one of the start-up, at a device where these modules are plugged, whose application answers the records
-- with these names. Its Connect is read as the expected request. Its Writes, if they are accepted, store their records, each one; none
-- of them is a record of the device's application. The contents of a PrmEnd or a Release are looked at when it arrives, and so are
-- those of a Read or of another Write, which is a call of the controller's application.
pub record IsPlannedWrite (rules : Rules TakenRecord Request) (named : List RecordName) (real : Real) (blocks : List ℕ) : Type 0 where
  pub keeps : (standing : Option (List ℕ)) (writing : Writing) → writing_of standing real blocks ≡ Ok writing →
      IsWritingOf rules named real standing (suc (number_in blocks)) (rules.group (number_in blocks)) writing
  pub unasked : (standing : Option (List ℕ)) (write : IodWriteReq × List ℕ) → write_within standing blocks ≡ Ok write →
      asked_name real named write.0.header ≡ None

-- these blocks of a call with this operation are those of the start-up, or of a call of the application
abbrev pub IsPlannedAs : Rules TakenRecord Request → List RecordName → Real → ℕ → List ℕ → Option Operation → Type 0
IsPlannedAs rules named real sequence blocks (Some operation.Connect) = request_of None blocks ≡ Ok rules.request
IsPlannedAs rules named real sequence blocks (Some operation.Write) =
    rules.is_planned sequence blocks ≡ true → IsPlannedWrite rules named real blocks
IsPlannedAs rules named real sequence blocks (Some operation.Control) = Unit {0}
IsPlannedAs rules named real sequence blocks (Some operation.Release) = Unit {0}
IsPlannedAs rules named real sequence blocks (Some operation.Read) = Unit {0}
IsPlannedAs rules named real sequence blocks (Some operation.ReadImplicit) = ⊥
IsPlannedAs rules named real sequence blocks None = ⊥

-- a call of the activity of the start-up or of the application, whose blocks have the right counts
pub record IsPlannedCall (rules : Rules TakenRecord Request) (activity : List ℕ) (named : List RecordName) (real : Real) (call : Call) : Type 0 where
  pub own : call.header.activity ≡ activity
  pub blocks : List ℕ
  pub counted : call.blocks ≡ Some blocks
  pub asks : IsPlannedAs rules named real call.header.sequence blocks (operation_of call.header.operation)

-- each call that is heard is one of the start-up or of the application
abbrev pub IsPlannedIn : Rules TakenRecord Request → List ℕ → List RecordName → Real → Said → Type 0
IsPlannedIn rules activity named real (Calls call) = IsPlannedCall rules activity named real call
IsPlannedIn rules activity named real (Responds response) = Unit {0}
IsPlannedIn rules activity named real Garbled = Unit {0}

-- if a call is heard, it is one of the start-up or of the application
abbrev pub IsPlanned : Rules TakenRecord Request → List ℕ → List RecordName → Real → Heard → Type 0
IsPlanned rules activity named real (Reported caller address said) = IsPlannedIn rules activity named real said
IsPlanned rules activity named real other = Unit {0}

-- ---- what it says

-- What the controller hears of a message: the response to a call, or ApplicationReady. That of a plug says nothing of a start-up. A
-- repeated response is not covered here: what it says was said before.
abbrev pub said_by : Sent → ToController
said_by (CallAnswer caller address answer) = small.Answers answer.header.sequence (reply_of answer)
said_by (ReadyCall address ready) = small.Readies
said_by (PlugReadyCall address ready) = small.Nothing
said_by (IdentifyAnswer asker running xid) = small.Nothing
said_by (GetAnswer asker running alias request) = small.Nothing
said_by (SetAnswer asker request answers) = small.Nothing
said_by (ArpReply asker address target) = small.Nothing
said_by (Again frame) = small.Nothing
said_by (Ends farewell) = small.Nothing
said_by (Exchanges route frame) = small.Nothing

-- both ends hear this in its octets: the device nothing, and the controller what it says, or nothing
abbrev pub IsHeardBy : Rules TakenRecord Request → List ℕ → ToController → Type 0
IsHeardBy rules frame says = (rules.to_device frame ≡ small.Idle) × SaysAtMost rules says frame

-- both ends hear a message of the device as it is meant
abbrev pub IsHeardAs : Rules TakenRecord Request → Identity → Sent → Type 0
IsHeardAs rules identity (Again frame) = Unit {0}
IsHeardAs rules identity (CallAnswer caller address answer) = IsHeardBy rules (bytes_of identity (CallAnswer caller address answer)) (said_by (CallAnswer caller address answer))
IsHeardAs rules identity (ReadyCall address ready) = IsHeardBy rules (bytes_of identity (ReadyCall address ready)) small.Readies
IsHeardAs rules identity (PlugReadyCall address ready) = IsHeardBy rules (bytes_of identity (PlugReadyCall address ready)) small.Nothing
IsHeardAs rules identity (IdentifyAnswer asker running xid) = IsHeardBy rules (bytes_of identity (IdentifyAnswer asker running xid)) small.Nothing
IsHeardAs rules identity (GetAnswer asker running alias request) = IsHeardBy rules (bytes_of identity (GetAnswer asker running alias request)) small.Nothing
IsHeardAs rules identity (SetAnswer asker request answers) = IsHeardBy rules (bytes_of identity (SetAnswer asker request answers)) small.Nothing
IsHeardAs rules identity (ArpReply asker address target) = IsHeardBy rules (bytes_of identity (ArpReply asker address target)) small.Nothing
IsHeardAs rules identity (Ends farewell) = IsHeardBy rules (bytes_of identity (Ends farewell)) small.Nothing
IsHeardAs rules identity (Exchanges route frame) = IsHeardBy rules (bytes_of identity (Exchanges route frame)) small.Nothing
