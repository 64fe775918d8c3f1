-- The call that is asked of the application: one at a time, until it is answered or dropped, or until 64,000 units have passed.
use Rattle.std.specs.Prelude.{◌≡◌, ◌+◌, ◌-◌, ◌<◌, ◌==◌, ◌&&◌, ℕ, Bool, false, not, List, nat_eq, Option, Some, None, if◌then◌else◌}
use Rattle.std.specs.Cmp.Lexicographic.{pointwise}
use Rattle.std.specs.Option.{option_map}
use Rattle.module_diff.specs.declared.changes.Affected.{Affected}
use Rattle.module_diff.specs.Changes.{covers}
use Rattle.pn_alarms.specs.Leaps.{after, never}
use Rattle.asked_records.specs.declared.asked.AskedRecord.{AskedRecord}
use Rattle.asked_records.specs.declared.asked.Wanted.{Wanted}
use Rattle.asked_records.specs.declared.asked.Wanted.TheVariants as wanted
use Rattle.asked_records.specs.declared.question.Question.{Question}
use Rattle.asked_records.specs.Questions.{header_of, is_implicit, is_of_relation, is_write}

-- The call that is asked, the octets that it writes, and the units since it was asked.
pub record Standing : Type 0 where
  pub question : Question
  pub octets : List ℕ
  pub waited : ℕ

-- The call that is asked, if there is one, and the number of the last question, 0 before the first. If a call is asked, this
-- is its number.
pub record AskedState : Type 0 where
  pub standing : Option Standing
  pub last : ℕ

-- The device starts.
abbrev pub not_asked : AskedState
not_asked = record { standing = None; last = 0 }

-- Nothing is asked any more.
abbrev pub settled : AskedState → AskedState
settled state = record state { standing = None }

-- ---- a question

-- Questions are counted from 1. After the largest number of 32 bits they begin at 1 again: no two of 4,294,967,295 questions in
-- a row have the same number.
abbrev pub next_number : ℕ → ℕ
next_number last = if last == 4294967295 then 1 else last + 1

-- The number of the last question.
abbrev pub last_number : AskedState → ℕ
last_number state = state.last

-- A call is asked under the next number.
abbrev pub asked_with : Question → List ℕ → AskedState → AskedState
asked_with question octets state = record {
  standing = Some (record { question = question; octets = octets; waited = 0 });
  last = next_number state.last;
}

-- It is asked if no other one is. None if another is.
abbrev pub asks_beside : Question → List ℕ → AskedState → Option Standing → Option AskedState
asks_beside question octets state None = Some (asked_with question octets state)
asks_beside question octets state (Some standing) = None

-- A call is asked, if no other one is.
abbrev pub asks : Question → List ℕ → AskedState → Option AskedState
asks question octets state = asks_beside question octets state state.standing

-- ---- a question that gives way

-- Whether a call takes the place of one that is asked: it is of the relation, and the other is a Read Implicit.
abbrev pub goes_before : Question → Question → Bool
goes_before question other = not (is_implicit question.request) && is_implicit other.request

-- The call that gives way to another one, if one is asked that does.
abbrev pub gives_way : Question → Option Standing → Option Question
gives_way question None = None
gives_way question (Some standing) = if goes_before question standing.question then Some standing.question else None

-- The call that is displaced by another one. None without the option that calls of the relation are asked first.
abbrev pub displaced_by : Bool → Question → AskedState → Option Question
displaced_by own_first question state = if own_first then gives_way question state.standing else None

-- It is asked no longer.
abbrev pub behind_displaced : Option Question → AskedState → AskedState
behind_displaced None state = state
behind_displaced (Some question) state = settled state

-- ---- a repeat

-- Whether a call is a repeat of this one: it has the same activity and the same sequence.
abbrev pub repeats : List ℕ → ℕ → Option Standing → Bool
repeats activity sequence None = false
repeats activity sequence (Some standing) =
    pointwise nat_eq standing.question.header.activity activity && standing.question.header.sequence == sequence

-- Whether a call is a repeat of the one that is asked.
abbrev pub is_repeat : List ℕ → ℕ → AskedState → Bool
is_repeat activity sequence state = repeats activity sequence state.standing

-- ---- what the application sees

-- The call that is asked.
abbrev pub question_in : AskedState → Option Question
question_in state = option_map (λ standing. standing.question) state.standing

-- What is wanted: the octets of a record, of which this number is sent, or that these octets are written.
pub data Want : Type 0 where
  to_read : ℕ → Want
  to_write : List ℕ → Want

-- The number of the question, the record, and what is wanted.
pub record Seen : Type 0 where
  pub number : ℕ
  pub slot : ℕ
  pub subslot : ℕ
  pub index : ℕ
  pub want : Want

-- What is wanted, independent of the place of its octets in memory.
abbrev pub want_of : Wanted → Want
want_of (wanted.Read length) = to_read length
want_of (wanted.Write octets) = to_write octets.now

-- A question as the application sees it, independent of the place of its octets in memory.
abbrev pub seen : AskedRecord → Seen
seen asked = record { number = asked.number; slot = asked.slot; subslot = asked.subslot; index = asked.index; want = want_of asked.wanted }

-- A call under a number, with the octets that it writes.
abbrev pub seen_as : ℕ → Question → List ℕ → Seen
seen_as number question octets = record {
  number = number;
  slot = (header_of question.request).slot_number;
  subslot = (header_of question.request).subslot_number;
  index = (header_of question.request).index;
  want = if is_write question.request then to_write octets else to_read (header_of question.request).record_data_length;
}

-- What the application sees, if something is asked.
abbrev pub seen_in : AskedState → Option Seen
seen_in state = option_map (λ standing. seen_as state.last standing.question standing.octets) state.standing

-- ---- what ends a question

-- Whether a call was asked by the relation with this ARUUID.
abbrev pub asks_of : List ℕ → Option Standing → Bool
asks_of ar_uuid None = false
asks_of ar_uuid (Some standing) = is_of_relation ar_uuid standing.question.request

-- Whether what is asked was asked by the relation with this ARUUID.
abbrev pub is_of : List ℕ → AskedState → Bool
is_of ar_uuid state = asks_of ar_uuid state.standing

-- The relation with this ARUUID ends.
abbrev pub without_relation : List ℕ → AskedState → AskedState
without_relation ar_uuid state = if is_of ar_uuid state then settled state else state

-- Whether a call is asked of a submodule that is pulled.
abbrev pub asks_at : Affected → Option Standing → Bool
asks_at affected None = false
asks_at affected (Some standing) =
    covers affected (header_of standing.question.request).slot_number (header_of standing.question.request).subslot_number

-- Whether what is asked is asked of a submodule that is pulled.
abbrev pub is_affected : Affected → AskedState → Bool
is_affected affected state = asks_at affected state.standing

-- Submodules are pulled.
abbrev pub dropped_at : Affected → AskedState → AskedState
dropped_at affected state = if is_affected affected state then settled state else state

-- ---- time

-- A call is asked for this many units.
abbrev pub limit : ℕ
limit = 64000

-- Whether a call is refused with the next unit.
abbrev pub over_with : Option Standing → Bool
over_with None = false
over_with (Some standing) = standing.waited + 1 == limit

-- Whether what is asked is refused with the next unit.
abbrev pub is_over : AskedState → Bool
is_over state = over_with state.standing

-- A call this many units later.
abbrev pub waits : ℕ → Standing → Standing
waits units standing = record standing { waited = standing.waited + units }

-- A call after a unit more, unless it is refused.
abbrev pub later_with : Option Standing → Option Standing
later_with None = None
later_with (Some standing) = if standing.waited + 1 == limit then None else Some (waits 1 standing)

-- The state after a unit of time.
abbrev pub ticked : AskedState → AskedState
ticked state = record state { standing = later_with state.standing }

-- The number of units up to and including the one with which a call is refused.
abbrev pub due_with : Option Standing → ℕ
due_with None = never
due_with (Some standing) = limit - standing.waited

-- The number of units up to and including the one with which what is asked is refused.
abbrev pub due_in : AskedState → ℕ
due_in state = due_with state.standing

-- The call is refused with none of some units.
abbrev pub NeverOver : ℕ → AskedState → Type 0
NeverOver units state = (before : ℕ) → before < units → is_over (after ticked before state) ≡ false
