-- What is stored of an answer that is stored, or not.
use Rattle.std.proofs.Common.{◌≡◌, ◌≤◌, ◌∷◌, ◌&&◌, [], ℕ, Bool, List, Option, Some, None, true, false, cond, not, length, take, Result, Ok, Err, refl, ◌∙◌, sym, ap, arith}
use Rattle.std.specs.List.{AllByRecursion}
use Rattle.std.specs.Prelude.{option_map, unwrap_or}
use Rattle.pn_values.specs.declared.identity.Identity.{Identity}
use Rattle.pn_values.specs.IpSuite.{is_zero}
use Rattle.pn_values.specs.declared.real.Real.{Real}
use Rattle.wire.specs.Codec.{◌>>=◌}
use Rattle.frame_codec.specs.declared.udp.Caller.{Caller}
use Rattle.record_blocks.specs.declared.read_record.IodReadReq.{IodReadReq}
use Rattle.record_blocks.specs.declared.write_record.IodWriteReq.{IodWriteReq}
use Rattle.rpc_core.specs.Call.{Asked as Call}
use Rattle.rpc_core.specs.Cache.{Kept, behind_calls, behind_reported, new}
use Rattle.records.specs.declared.status.call_fault.CallFault.{CallFault}
use Rattle.records.specs.declared.status.operation.Operation.{Operation}
use Rattle.records.specs.declared.status.operation.Operation.TheVariants as operation
use Rattle.records.specs.reads.Handled.{request_of}
use Rattle.records.specs.reads.Within.{request_within}
use Rattle.records.specs.status.Operation.{operation_of as called_of}
use Rattle.asked_records.specs.declared.names.RecordName.{RecordName}
use Rattle.asked_records.specs.declared.question.Request.{Request}
use Rattle.asked_records.specs.declared.question.Request.TheVariants as request
use Rattle.asked_records.specs.Judging.{asked_read, asked_write}
use Rattle.asked_records.specs.Asked.{AskedState, Standing, displaced_by, gives_way, goes_before, is_of, is_over, question_in, settled}
use Rattle.asked_records.specs.Questions.{is_implicit, operation_of}
use Rattle.asked_records.specs.declared.question.Question.{Question}
use Rattle.asked_records.specs.declared.status.Unanswered.{Unanswered}
use Rattle.relations.specs.declared.options.DeviceOptions.{DeviceOptions}
use Rattle.device_frames.specs.Heard.{Heard, Ticks, Reported, Applied, Said, Calls}
use Rattle.device_frames.specs.Relation.{where_due}
use Rattle.device_frames.specs.Sent.{Sent}
use Rattle.device_core.specs.Asking.{Asking, asking_of, asking_read, asking_write, calls_after, is_full, is_kept, kept_if, kept_reply, late_in, left_asked, looked_if, question_of, refused_calls, refused_reply, write_within}
use Rattle.device_core.specs.State.{Live, Station}

-- The stored answers are what calls make of those before, each of which is of this kind, by its activity and its sequence.
abbrev pub IsStoredOf : (List ℕ → ℕ → Type 0) → List Kept → List Kept → Type 0
IsStoredOf P before now = (calls : List Kept) × (now ≡ behind_calls 4 calls before) × AllByRecursion (λ (kept : Kept). P kept.activity kept.sequence) calls

pub stored_none : (P : List ℕ → ℕ → Type 0) (calls : List Kept) → IsStoredOf P calls calls
stored_none P calls = ([], refl, tt)

-- The answer to a new call.
pub stored_called : (P : List ℕ → ℕ → Type 0) (is_stored : Bool) (calls : List Kept) (answer : Kept) → (is_stored ≡ true → P answer.activity answer.sequence)
    → looked_if is_stored answer.activity answer.sequence calls ≡ new → IsStoredOf P calls (kept_if is_stored answer calls)
stored_called P true calls answer allowed is_new = (answer ∷ [], sym (ap (behind_reported 4 answer calls) is_new), (allowed refl, tt))
stored_called P false calls answer allowed is_new = stored_none P calls

-- The response to a call that was asked is stored, unless a later call of its activity was answered.
pub replied_called : (P : List ℕ → ℕ → Type 0) (is_stored : Bool) (identity : Identity) (question : Question) (answer : Sent) (calls : List Kept)
    → (is_stored ≡ true → P question.header.activity question.header.sequence) → IsStoredOf P calls (calls_after is_stored identity question answer calls)
replied_called P true identity question answer calls allowed = (kept_reply identity question answer ∷ [], refl, (allowed refl, tt))
replied_called P false identity question answer calls allowed = stored_none P calls

-- It is dropped without an IP address.
pub later_called : (P : List ℕ → ℕ → Type 0) (is_gone is_stored : Bool) (identity : Identity) (question : Question) (answer : Sent) (calls : List Kept)
    → (is_stored ≡ true → P question.header.activity question.header.sequence) → IsStoredOf P calls (cond is_gone calls (calls_after is_stored identity question answer calls))
later_called P true is_stored identity question answer calls allowed = stored_none P calls
later_called P false is_stored identity question answer calls allowed = replied_called P is_stored identity question answer calls allowed

-- A call that was asked and is refused.
pub refused_called : (P : List ℕ → ℕ → Type 0) (options : DeviceOptions) (identity : Identity) (address : List ℕ) (reason : Unanswered)
    (refused : Option Question) (calls : List Kept)
    → ((question : Question) → refused ≡ Some question → is_kept options (operation_of question.request) ≡ true → P question.header.activity question.header.sequence)
    → IsStoredOf P calls (refused_calls options identity address reason refused calls)
refused_called P options identity address reason None calls allowed = stored_none P calls
refused_called P options identity address reason (Some question) calls allowed =
    later_called P (is_zero address) (is_kept options (operation_of question.request)) identity question (refused_reply address reason question) calls
    (allowed question refl)

-- ---- what is asked

-- A call that is displaced is asked.
pub displaced_asked : (own_first : Bool) (question : Question) (state : AskedState) (other : Question) → displaced_by own_first question state ≡ Some other
    → question_in state ≡ Some other
displaced_asked true question state other is = by_standing state.standing is
  where
    by_standing : (standing : Option Standing) → gives_way question standing ≡ Some other → option_map (λ (one : Standing). one.question) standing ≡ Some other
    by_standing None found = cc
    by_standing (Some standing) found = by_turn (goes_before question standing.question) found
      where
        by_turn : (turn : Bool) → cond turn (Some standing.question) None ≡ Some other → ◌≡◌ {A = Option Question} (Some standing.question) (Some other)
        by_turn true same = same
        by_turn false same = cc
displaced_asked false question state other is = cc

-- A call that is refused with a unit of time is asked.
pub late_asked : (count : ℕ) (state : AskedState) (other : Question) → late_in count state ≡ Some other → question_in state ≡ Some other
late_asked count state other is = by_over (is_over state && not (is_full count)) is
  where
    by_over : (over : Bool) → cond over (question_in state) None ≡ Some other → question_in state ≡ Some other
    by_over true found = found
    by_over false found = cc

-- What is still asked after the end of a relation was asked before.
pub left_was_asked : (ended : Option (List ℕ)) (state : AskedState) (other : Question) → question_in (left_asked ended state) ≡ Some other → question_in state ≡ Some other
left_was_asked None state other is = is
left_was_asked (Some uuid) state other is = by_end (is_of uuid state) is
  where
    by_end : (ends : Bool) → question_in (cond ends (settled state) state) ≡ Some other → question_in state ≡ Some other
    by_end true found = cc
    by_end false found = found

-- A call that is displaced is a Read Implicit.
pub displaced_implicit : (own_first : Bool) (question : Question) (state : AskedState) (other : Question) → displaced_by own_first question state ≡ Some other
    → is_implicit other.request ≡ true
displaced_implicit true question state other is = by_standing state.standing is
  where
    by_standing : (standing : Option Standing) → gives_way question standing ≡ Some other → is_implicit other.request ≡ true
    by_standing None found = cc
    by_standing (Some standing) found = by_turn (is_implicit question.request) (is_implicit standing.question.request) refl found
      where
        by_turn : (own turn : Bool) → is_implicit standing.question.request ≡ turn → cond (not own && turn) (Some standing.question) None ≡ Some other
            → is_implicit other.request ≡ true
        by_turn false true implicit same = ap (λ (one : Option Question). is_implicit (unwrap_or one standing.question).request) (sym same) ∙ implicit
        by_turn false false implicit same = cc
        by_turn true turn implicit same = cc
displaced_implicit false question state other is = cc

-- What a call asks of the application is asked under its header, for its operation.
abbrev pub IsAskedOf : Call → Operation → Result (Option Asking) CallFault → Type 0
IsAskedOf call operation (Ok (Some asking)) = (asking.0.header ≡ call.header) × (operation_of asking.0.request ≡ operation)
IsAskedOf call operation other = Unit {0}

module _ (real : Real) (named : List RecordName) (caller : Caller) (call : Call) where
  read_of : (wanted : IodReadReq → Request) (operation : Operation) → ((read : IodReadReq) → operation_of (wanted read) ≡ operation)
      → (came : Result IodReadReq CallFault) → IsAskedOf call operation (asking_read real named wanted caller call came)
  read_of wanted operation is (Err fault) = tt
  read_of wanted operation is (Ok read) = by_found (asked_read real named read)
    where
      by_found : (found : Result (Option RecordName) CallFault)
          → IsAskedOf call operation (found >>= λ name. Ok (option_map (λ one. (question_of caller call (wanted read) one, [])) name))
      by_found (Err fault) = tt
      by_found (Ok None) = tt
      by_found (Ok (Some name)) = (refl, is read)

  write_of : (came : Result (IodWriteReq × List ℕ) CallFault) → IsAskedOf call operation.Write (asking_write real named caller call came)
  write_of (Err fault) = tt
  write_of (Ok x) = by_found (asked_write real named x.0 x.1)
    where
      by_found : (found : Result (Option RecordName) CallFault)
          → IsAskedOf call operation.Write (found >>= λ name. Ok (option_map (λ one. (question_of caller call (request.Write x.0) one, take x.0.header.record_data_length x.1)) name))
      by_found (Err fault) = tt
      by_found (Ok None) = tt
      by_found (Ok (Some name)) = (refl, refl)

pub asked_of : (real : Real) (named : List RecordName) (standing : Option (List ℕ)) (caller : Caller) (call : Call) (blocks : List ℕ) (which : Operation)
    → IsAskedOf call which (asking_of real named standing caller call blocks which)
asked_of real named standing caller call blocks operation.Read = read_of real named caller call request.Read operation.Read (λ read. refl) (request_within standing blocks)
asked_of real named standing caller call blocks operation.Write = write_of real named caller call (write_within standing blocks)
asked_of real named standing caller call blocks operation.ReadImplicit =
    read_of real named caller call request.ReadImplicit operation.ReadImplicit (λ read. refl) (request_of blocks)
asked_of real named standing caller call blocks operation.Connect = tt
asked_of real named standing caller call blocks operation.Release = tt
asked_of real named standing caller call blocks operation.Control = tt

-- ---- which answers an event may store

-- The answer to what is asked is of this kind, if it may be stored.
abbrev pub AllowsAsked : (List ℕ → ℕ → Type 0) → Station → Live → Type 0
AllowsAsked P station live = (question : Question) → question_in live.rest.asked ≡ Some question
    → is_kept station.options (operation_of question.request) ≡ true → P question.header.activity question.header.sequence

-- The same of a Read Implicit that is displaced.
abbrev pub AllowsDisplaced : (List ℕ → ℕ → Type 0) → Station → Live → Type 0
AllowsDisplaced P station live = (question : Question) → question_in live.rest.asked ≡ Some question → is_implicit question.request ≡ true
    → is_kept station.options (operation_of question.request) ≡ true → P question.header.activity question.header.sequence

abbrev pub AllowsSaid : (List ℕ → ℕ → Type 0) → Station → Said → Type 0
AllowsSaid P station (Calls call) = (which : Operation) → called_of call.header.operation ≡ Some which → is_kept station.options which ≡ true
    → P call.header.activity call.header.sequence
AllowsSaid P station other = Unit {0}

-- The same of an event.
abbrev pub AllowsHeard : (List ℕ → ℕ → Type 0) → Station → Live → Heard → Type 0
AllowsHeard P station live (Reported caller address said) = AllowsSaid P station said × AllowsDisplaced P station live
AllowsHeard P station live (Applied said) = AllowsAsked P station live
AllowsHeard P station live Ticks = AllowsAsked P station live
AllowsHeard P station live other = Unit {0}

-- ---- the response

-- At most this one response is sent.
pub later_one : (is_gone is_due : Bool) (reply : Sent) → length (cond is_gone [] (where_due is_due (reply ∷ []))) ≤ 1
later_one true is_due reply = omega arith
later_one false true reply = omega arith
later_one false false reply = omega arith

pub later_each : (P : Sent → Type 0) (is_gone is_due : Bool) (reply : Sent) → P reply → AllByRecursion P (cond is_gone [] (where_due is_due (reply ∷ [])))
later_each P true is_due reply holds = tt
later_each P false true reply holds = (holds, tt)
later_each P false false reply holds = tt
