-- What the application answers, and the response that its answer makes (IEC 61158-6-10, 5.2.3 and 5.2.6).
use Rattle.std.specs.Prelude.{◌==◌, ◌||◌, ℕ, Bool, true, false, List, [], length, nat_lt, Option, Some, None, Result, Ok, Err, if◌then◌else◌}
use Rattle.rpc_core.specs.declared.response.Status.{Status}
use Rattle.record_blocks.specs.declared.write_record.IodWriteReq.{IodWriteReq}
use Rattle.records.specs.declared.status.operation.Operation.{Operation}
use Rattle.records.specs.declared.status.operation.Operation.TheVariants as operation
use Rattle.records.specs.reads.Answer.{answer_of as read_answer}
use Rattle.records.specs.status.Status.{access, done}
use Rattle.records.specs.writes.Answer.{answer_of as write_answer, outcome_of}
use Rattle.asked_records.specs.declared.answering.AnswerFault.{AnswerFault}
use Rattle.asked_records.specs.declared.answering.AnswerFault.TheVariants as fault
use Rattle.asked_records.specs.declared.answering.Given.{Given}
use Rattle.asked_records.specs.declared.answering.Given.TheVariants.{Octets, Done, Refused}
use Rattle.asked_records.specs.declared.question.Question.{Question}
use Rattle.asked_records.specs.declared.question.Request.{Request}
use Rattle.asked_records.specs.declared.question.Request.TheVariants.{Read, ReadImplicit, Write}
use Rattle.asked_records.specs.declared.status.Unanswered.{Unanswered}
use Rattle.asked_records.specs.declared.status.Unanswered.TheVariants.{Busy, Late, InList}
use Rattle.asked_records.specs.Asked.{AskedState, Standing}
use Rattle.asked_records.specs.Questions.{is_write, operation_of}

-- ---- which answers are accepted

-- What is given: the octets of a record that is read, that a record was written, or a refusal with this ErrorCode1 and
-- ErrorCode2.
pub data Gives : Type 0 where
  gives_octets : List ℕ → Gives
  gives_done : Gives
  gives_refusal : (code1 code2 : ℕ) → Gives

-- What is given, independent of the place of its octets in memory.
abbrev pub gives : Given → Gives
gives (Octets octets) = gives_octets octets.now
gives Done = gives_done
gives (Refused code1 code2) = gives_refusal code1 code2

-- The number of octets that are given.
abbrev pub given_size : Gives → ℕ
given_size (gives_octets octets) = length octets
given_size gives_done = 0
given_size (gives_refusal code1 code2) = 0

-- Whether it is a refusal.
abbrev pub is_refusal : Gives → Bool
is_refusal (gives_refusal code1 code2) = true
is_refusal other = false

-- Why an answer to a call is not accepted: octets answer a Read, `done` a Write, and the ErrorCode1 of an application is 0xA0 to
-- 0xAF.
abbrev pub fault_of : Question → Gives → Option AnswerFault
fault_of question (gives_octets octets) =
    if is_write question.request then Some fault.Kind
    else if nat_lt question.greatest_length (length octets) then Some fault.Length
    else None
fault_of question gives_done = if is_write question.request then None else Some fault.Kind
fault_of question (gives_refusal code1 code2) = if nat_lt code1 0xA0 || nat_lt 0xAF code1 then Some fault.Code else None

-- The question, or its fault.
abbrev pub question_unless : Question → Option AnswerFault → Result Question AnswerFault
question_unless question (Some it) = Err it
question_unless question None = Ok question

-- The call that an answer under a number goes to: the last one, if it is still asked and has this number.
abbrev pub judged_with : ℕ → ℕ → Gives → Option Standing → Result Question AnswerFault
judged_with last number given None = Err fault.NotAsked
judged_with last number given (Some standing) =
    if number == last then question_unless standing.question (fault_of standing.question given) else Err fault.NotAsked

-- The call that an answer under a number goes to.
abbrev pub judged : ℕ → Gives → AskedState → Result Question AnswerFault
judged number given state = judged_with state.last number given state.standing

-- The number of a fault.
abbrev pub answer_number : AnswerFault → ℕ
answer_number fault.NotAsked = 1
answer_number fault.Kind = 2
answer_number fault.Length = 3
answer_number fault.Code = 4

-- ---- the response

-- PNIOStatus: DE or DF, 80, ErrorCode1 and ErrorCode2 of a refusal.
abbrev pub answer_status : Request → Gives → Status
answer_status request (gives_octets octets) = done
answer_status request gives_done = done
answer_status request (gives_refusal code1 code2) = access (operation_of request) code1 code2

-- The IODReadRes of a record, with as much of it as the request asks for.
abbrev pub read_blocks : Request → List ℕ → List ℕ
read_blocks (Read request) octets = read_answer request octets
read_blocks (ReadImplicit request) octets = read_answer request octets
read_blocks (Write request) octets = []

-- The IODWriteRes of a Write.
abbrev pub written_blocks : Request → List ℕ
written_blocks (Read request) = []
written_blocks (ReadImplicit request) = []
written_blocks (Write request) = write_answer request

-- The blocks of the response. A refusal has none.
abbrev pub answer_blocks : Request → Gives → List ℕ
answer_blocks request (gives_octets octets) = read_blocks request octets
answer_blocks request gives_done = written_blocks request
answer_blocks request (gives_refusal code1 code2) = []

-- ---- what the device refuses by itself

-- Resource busy; busy, since the application gave no answer in time; and feature not supported, for an entry of a list.
abbrev pub unanswered_code : Unanswered → ℕ
unanswered_code Busy = 0xC2
unanswered_code Late = 0xA7
unanswered_code InList = 0xA9

-- PNIOStatus of a call that is refused for this reason.
abbrev pub unanswered_status : Operation → Unanswered → Status
unanswered_status operation reason = access operation (unanswered_code reason) 0

-- The outcome of an entry of a list that names a record of the application.
abbrev pub listed_entry : IodWriteReq → List ℕ
listed_entry request = outcome_of request (unanswered_status operation.Write InList)
