-- What is asked, over any events.
use Rattle.std.specs.Prelude.{◌+◌, ◌≤◌, ℕ, Bool, zero, suc, List, [], ◌∷◌, ◌++◌, Option, Some, None, Result, Ok, Err, unwrap_or}
use Rattle.module_diff.specs.declared.changes.Affected.{Affected}
use Rattle.asked_records.specs.declared.answering.AnswerFault.{AnswerFault}
use Rattle.asked_records.specs.declared.question.Question.{Question}
use Rattle.asked_records.specs.Answers.{Gives, judged}
use Rattle.asked_records.specs.Asked.{AskedState, Standing, asks, behind_displaced, displaced_by, dropped_at, next_number, settled, ticked, without_relation}

-- A call for a record of the application with the octets that it writes, an answer of the application to the question with a
-- number, a unit of time, the end of the relation with an ARUUID, a pull, and a call that another one gives way to.
pub data Event : Type 0 where
  calls : Question → List ℕ → Event
  answers : ℕ → Gives → Event
  waits : Event
  ends : List ℕ → Event
  pulls : Affected → Event
  displaces : Bool → Question → Event

-- The state after an answer that is accepted, or not.
abbrev pub after_answer : AskedState → Result Question AnswerFault → AskedState
after_answer state (Ok question) = settled state
after_answer state (Err fault) = state

-- The state after an event.
abbrev pub after_event : Event → AskedState → AskedState
after_event (calls question octets) state = unwrap_or (asks question octets state) state
after_event (answers number given) state = after_answer state (judged number given state)
after_event waits state = ticked state
after_event (ends ar_uuid) state = without_relation ar_uuid state
after_event (pulls affected) state = dropped_at affected state
after_event (displaces own_first question) state = behind_displaced (displaced_by own_first question state) state

-- The number of an answer that is accepted.
abbrev pub number_if : ℕ → Result Question AnswerFault → List ℕ
number_if number (Ok question) = number ∷ []
number_if number (Err fault) = []

-- The number under which an event is an answer that is accepted.
abbrev pub answered_by : Event → AskedState → List ℕ
answered_by (calls question octets) state = []
answered_by (answers number given) state = number_if number (judged number given state)
answered_by waits state = []
answered_by (ends ar_uuid) state = []
answered_by (pulls affected) state = []
answered_by (displaces own_first question) state = []

-- The numbers under which answers are accepted, in their order.
abbrev pub answered_in : List Event → AskedState → List ℕ
answered_in [] state = []
answered_in (event ∷ events) state = answered_by event state ++ answered_in events (after_event event state)

-- 1 for a call, 0 for another event.
abbrev pub question_in : Event → ℕ
question_in (calls question octets) = 1
question_in (answers number given) = 0
question_in waits = 0
question_in (ends ar_uuid) = 0
question_in (pulls affected) = 0
question_in (displaces own_first question) = 0

-- How many of some events are calls.
abbrev pub questions_in : List Event → ℕ
questions_in [] = 0
questions_in (event ∷ events) = question_in event + questions_in events

-- The least number under which an answer can still be accepted, after the last number.
abbrev pub open_with : ℕ → Option Standing → ℕ
open_with last None = last + 1
open_with last (Some standing) = last

-- The least number under which an answer can still be accepted: that of the call that is asked, or else the next one.
abbrev pub open_number : AskedState → ℕ
open_number state = open_with state.last state.standing

-- Numbers that ascend, from at least this one.
abbrev pub Ascends : ℕ → List ℕ → Type 0
Ascends least [] = Unit {0}
Ascends least (number ∷ numbers) = (least ≤ number) × Ascends (number + 1) numbers

-- The number of the question that comes this many after another one.
abbrev pub numbers_after : ℕ → ℕ → ℕ
numbers_after zero last = last
numbers_after (suc more) last = next_number (numbers_after more last)
