-- The answers that are stored: what leaves them as they are, and how a call is answered when it comes again.
use Rattle.std.specs.Prelude.{◌≡◌, ◌≤◌, ◌⊎◌, ℕ, Bool, true, false, List, [], ◌∷◌, length, nat_eq, Some}
use Rattle.std.specs.Cmp.Lexicographic.{pointwise}
use Rattle.std.specs.List.{AllByRecursion, list_any}
use Rattle.settings_journal.specs.settings_store.Machine.{Outcome}
use Rattle.rpc_core.specs.declared.header.CallHeader.{CallHeader}
use Rattle.rpc_core.specs.Call.{Asked as Called}
use Rattle.rpc_core.specs.Cache.{Kept}
use Rattle.records.specs.declared.status.operation.Operation.{Operation}
use Rattle.records.specs.declared.status.operation.Operation.TheVariants.{ReadImplicit}
use Rattle.records.specs.status.Operation.{operation_of}
use Rattle.asked_records.specs.Asked.{AskedState, question_in}
use Rattle.asked_records.specs.Questions.{is_implicit, operation_of as operation_asked}
use Rattle.asked_records.specs.declared.question.Question.{Question}
use Rattle.device_frames.specs.declared.event.Event.{Event}
use Rattle.device_frames.specs.Heard.{Heard, Ticks, Reported, Applied, Said, Calls, heard_of}
use Rattle.device_core.specs.State.{Station, Live}
use Rattle.device_core.specs.Asking.{is_kept}
use Rattle.device_core.specs.Machine.{heard_step, run_of}
use Rattle.device_core.specs.Steps.{IsServed}

-- ---- Read Implicit that are not stored

-- A datagram is the call of a Read Implicit.
abbrev pub IsReadImplicit : Said → Type 0
IsReadImplicit (Calls call) = operation_of call.header.operation ≡ Some ReadImplicit
IsReadImplicit other = ⊥

-- The application is asked for a Read Implicit.
abbrev pub IsAskedImplicitly : AskedState → Type 0
IsAskedImplicitly asked = (question : Question) × (question_in asked ≡ Some question) × (is_implicit question.request ≡ true)

-- An event of a Read Implicit: its call, and, while the application is asked for one, what the application says and a unit of time,
-- with which it may be refused.
abbrev pub IsOfRead : Live → Heard → Type 0
IsOfRead live (Reported caller address said) = IsReadImplicit said
IsOfRead live (Applied said) = IsAskedImplicitly live.rest.asked
IsOfRead live Ticks = IsAskedImplicitly live.rest.asked
IsOfRead live other = ⊥

-- With the option that the answers to Read Implicit are not stored, an event of one leaves the stored answers exactly as they are.
abbrev pub ReadsLeaveStoredAnswers : Type 0
ReadsLeaveStoredAnswers = (outcomes : List Outcome) (station : Station) (live : Live) (heard : Heard) →
    station.options.reads_not_kept ≡ true → IsOfRead live heard →
    (heard_step outcomes station live heard).live.rest.calls ≡ live.rest.calls

-- ---- the repeats of a call

-- Whether an activity is one of these.
abbrev pub is_among : List (List ℕ) → List ℕ → Bool
is_among activities activity = list_any (λ one. pointwise nat_eq one activity) activities

-- A call between an answered one and its repeat: its answer is not stored, it is of one of these other activities, or it is the answered
-- call again, or an earlier one of its activity.
abbrev pub IsBetween : Station → Kept → List (List ℕ) → CallHeader → Operation → Type 0
IsBetween station answered others header operation = is_kept station.options operation ≡ true →
    (is_among others header.activity ≡ true) ⊎ ((header.activity ≡ answered.activity) × (header.sequence ≤ answered.sequence))

-- A datagram between them, if it is a call of the device.
abbrev pub IsSaidBetween : Station → Kept → List (List ℕ) → Said → Type 0
IsSaidBetween station answered others (Calls call) = (operation : Operation) → operation_of call.header.operation ≡ Some operation →
    IsBetween station answered others call.header operation
IsSaidBetween station answered others other = Unit {0}

-- An event between them.
abbrev pub IsHeardBetween : Station → Kept → List (List ℕ) → Heard → Type 0
IsHeardBetween station answered others (Reported caller address said) = IsSaidBetween station answered others said
IsHeardBetween station answered others other = Unit {0}

-- The call that is asked of the application, if one is, is such a call.
abbrev pub IsAskedBetween : Station → Kept → List (List ℕ) → AskedState → Type 0
IsAskedBetween station answered others asked = (question : Question) → question_in asked ≡ Some question →
    IsBetween station answered others question.header (operation_asked question.request)

-- The call whose answer was stored last is answered with the same frame when it comes again, and nothing changes, after any events and for
-- any outcomes of the flash, if in between there were stored answers only to calls of at most three other activities. With the option,
-- Read Implicit count for nothing, of whichever activity.
abbrev pub RepeatsAreAnsweredAlike : Type 0
RepeatsAreAnsweredAlike = (outcomes : List (List Outcome)) (station : Station) (live : Live) (events : List Event)
    (answered : Kept) (earlier : List Kept) (others : List (List ℕ)) →
    live.rest.calls ≡ answered ∷ earlier → length others ≤ 3 → is_among others answered.activity ≡ false →
    IsAskedBetween station answered others live.rest.asked →
    AllByRecursion (λ event. IsHeardBetween station answered others (heard_of station.identity event)) events →
    let after = (run_of outcomes station live events).live in
    (now : List Outcome) (heard : Heard) (call : Called) → IsServed station after heard call →
    call.header.activity ≡ answered.activity → call.header.sequence ≡ answered.sequence →
    ((heard_step now station after heard).frames ≡ answered.frame ∷ []) × ((heard_step now station after heard).live ≡ after)

-- The answers to Read Implicit are not stored with the option, so such a call is always one between.
abbrev pub ReadsAreBetween : Type 0
ReadsAreBetween = (station : Station) (answered : Kept) (others : List (List ℕ)) (header : CallHeader) → station.options.reads_not_kept ≡ true →
    IsBetween station answered others header ReadImplicit
