-- A step of a Write is bridged.
use Rattle.std.proofs.Common.{◌≡◌, ◌==◌, ℕ, Bool, true, false, nat_eq, List, [], ◌∷◌, drop, flat_map, map, Option, Some, None, Result, Ok, Err, refl, sym, ap, subst, ◌∙◌, if◌then◌else◌}
use Rattle.std.proofs.lemmas.Bool.{cond_both, cond-true}
use Rattle.std.proofs.lemmas.List.{append-nil}
use Rattle.std.specs.Cmp.Lexicographic.{pointwise}
use Rattle.pn_values.specs.declared.command.Command.TheVariants.{SetIm}
use Rattle.pn_values.specs.declared.set_item.BlockError.{BlockError}
use Rattle.pn_values.specs.declared.set_item.SetItem.TheVariants.{Ask}
use Rattle.frame_codec.specs.declared.udp.Caller.{Caller}
use Rattle.rpc_core.specs.declared.response.Status.{Status}
use Rattle.rpc_core.specs.declared.header.CallHeader.{CallHeader}
use Rattle.rpc_core.specs.Call.{Asked as Called}
use Rattle.rpc_core.specs.Response.{answer_to}
use Rattle.records.specs.declared.status.call_fault.CallFault.{CallFault}
use Rattle.records.specs.declared.status.call_fault.CallFault.TheVariants.{Arguments}
use Rattle.records.specs.declared.status.operation.Operation.{Operation}
use Rattle.records.specs.declared.status.operation.Operation.TheVariants.{Write as Writing}
use Rattle.records.specs.declared.writes.write.Effect.{Effect}
use Rattle.records.specs.declared.writes.write.Effect.TheVariants.{Stores, Keeps}
use Rattle.records.specs.declared.writes.write.Write.{Write}
use Rattle.records.specs.declared.writes.writing.Writing.{Writing as Asking}
use Rattle.records.specs.declared.writes.writing.Writing.TheVariants.{One, Each}
use Rattle.records.specs.status.Operation.{operation_of}
use Rattle.records.specs.status.Status.{status_of}
use Rattle.records.specs.writes.Answer.{number_of}
use Rattle.records.specs.writes.Asked.{writing_of}
use Rattle.relations.specs.Phases.{keeping}
use Rattle.relations.specs.RelationState.{uuid_of}
use Rattle.settings_journal.specs.settings_store.Machine.{Outcome, carried}
use Rattle.device_frames.specs.declared.event.Event.{Event}
use Rattle.device_frames.specs.Heard.{Calls, Reported, heard_of}
use Rattle.device_frames.specs.Sendable.{AreSendable, IsSendable}
use Rattle.device_frames.specs.Relation.{where_due}
use Rattle.device_frames.specs.Sent.{CallAnswer, Sent, bytes_of}
use Rattle.asked_records.specs.Answers.{unanswered_status}
use Rattle.asked_records.specs.Asked.{AskedState, asks as asks_now, behind_displaced, displaced_by, is_repeat}
use Rattle.asked_records.specs.Questions.{call_of, operation_of as operation_asked}
use Rattle.asked_records.specs.declared.question.Question.{Question}
use Rattle.asked_records.specs.declared.question.Request.{Request}
use Rattle.asked_records.specs.declared.question.Request.TheVariants as request
use Rattle.asked_records.specs.declared.status.Unanswered.TheVariants.{Busy}
use Rattle.device_core.specs.Asking.{Asking as Asked, asking_of, calls_after, is_kept, is_new, looked_if, refused_sent, reply_to}
use Rattle.device_core.specs.State.{Live, Rest, Station}
use Rattle.device_core.specs.Several.{Judged, judged_each, texts_in}
use Rattle.device_core.specs.Handled.{Handled, Moves, WritesEach, handled, handled_asking, handled_blocks, handled_effect, handled_new, handled_question, handled_write, kept_answer, outcome_of, replied}
use Rattle.device_core.specs.Machine.{first_answer, handled_step, heard_step, several_answer, step_of, written_as}
use Rattle.octets_law.specs.Bridge.{Bridges}
use Rattle.octets_law.specs.Octets.{Call, answers_in, asking_of as asks_of, called, calling, commands_in, in_order, number, statuses_in, written_by}
use Rattle.octets_law.proofs.AnswerPlaces.{answer_statuses}
use Rattle.octets_law.proofs.CallPlaces.{IsCallRead}
use Rattle.octets_law.proofs.CallReads.{tested}
use Rattle.octets_law.proofs.CallSteps.{WritesAreBridged, holds}
use Rattle.octets_law.proofs.Operations.{displaced_is, other_name, refused_statuses}
use Rattle.octets_law.proofs.Questions.{IsOwn, asking_own, write_plain}
use Rattle.octets_law.proofs.Quiet.{dropped_bridged, unanswered_bridged}
use Rattle.octets_law.proofs.WriteFaults.{IsPlainIn, plain_not}
use Rattle.octets_law.proofs.WriteAnswers.{several_read}
use Rattle.octets_law.proofs.WriteEach.{each_asked}
use Rattle.octets_law.proofs.WriteHeard.{kept_step, refused_step, write_step}
use Rattle.octets_law.proofs.WriteJudged.{each_listed}
use Rattle.octets_law.proofs.WriteMarks.{IsOther, other_fault}
use Rattle.octets_law.proofs.WriteSteps.{refused_write, written_each}

-- The operation of a Write is 3.
operation_three : (n : ℕ) → operation_of n ≡ Some Writing → n ≡ 3
unfolding operation_of
operation_three n =
    cond_both (n == 0) _ _ P (λ _ e. absurd cc) (λ _. cond_both (n == 1) _ _ P (λ _ e. absurd cc) (λ _. cond_both (n == 2) _ _ P (λ _ e. absurd cc)
    (λ _. cond_both (n == 3) _ _ P (λ is _. tested n 3 is) (λ _. cond_both (n == 4) _ _ P (λ _ e. absurd cc) (λ _. cond_both (n == 5) _ _ P (λ _ e. absurd cc) (λ _ e. absurd cc))))))
  where
    P : Option Operation → Type 0
    P r = r ≡ Some Writing → n ≡ 3

-- Busy is neither done nor a fault of the flash.
busy_other : (wanted : Request) → IsOther (number_of (unanswered_status (operation_asked wanted) Busy))
busy_other (request.Read read) = record { no_zero = refl; no_five = refl }
busy_other (request.ReadImplicit read) = record { no_zero = refl; no_five = refl }
busy_other (request.Write write) = record { no_zero = refl; no_five = refl }

module _ (names : List (List ℕ)) (outcomes : List Outcome) (station : Station) (live : Live) (event : Event) (octets : List ℕ)
    (asks : asks_of station.identity.mac event ≡ calling octets) (caller : Caller) (address : List ℕ) (call : Called) (read : IsCallRead octets call)
    (heard : heard_of station.identity event ≡ Reported caller address (Calls call))
    (can : AreSendable station.identity (step_of outcomes station live event).sent) where
  abbrev Goal : Type 0
  Goal = Bridges station.identity.mac names event live.values (step_of outcomes station live event)

  -- The step of what it means.
  abbrev Step : Handled → Type 0
  Step what = Bridges station.identity.mac names event live.values (handled_step outcomes station live what)

  stepped : (what : Handled) → handled station live (heard_of station.identity event) ≡ what
      → (AreSendable station.identity (handled_step outcomes station live what).sent → Step what) → Goal
  unfolding heard_step
  stepped what is step =
      subst Step (sym is) (step (subst (λ what. AreSendable station.identity (handled_step outcomes station live what).sent) is can))

  asked : asks_of station.identity.mac event ≡ Call octets
  asked = asks ∙ cond-true (number 0 2 octets == 0x0400) _ _ (holds _ 0x0400 read.kind)

  -- The statuses of the answer.
  told : (came : Status × List ℕ) → IsSendable station.identity (CallAnswer caller live.values.running.suite.address (answer_to call came.0 came.1))
      → flat_map (answers_in (asks_of station.identity.mac event))
      (bytes_of station.identity (CallAnswer caller live.values.running.suite.address (answer_to call came.0 came.1)) ∷ [])
      ≡ number_of came.0 ∷ statuses_in 16 (drop 64 came.1)
  told came sent =
      let frame : List ℕ = bytes_of station.identity (CallAnswer caller live.values.running.suite.address (answer_to call came.0 came.1)) in
      ap (λ a. flat_map (answers_in a) (frame ∷ [])) asked ∙ append-nil _
      ∙ answer_statuses station.identity caller live.values.running.suite.address (answer_to call came.0 came.1) octets sent read.name

  -- Its blocks are missing.
  by_none : handled station live (heard_of station.identity event) ≡ handled_blocks station live caller call Writing None → Goal
  unfolding handled_step
  by_none what =
      stepped (handled_blocks station live caller call Writing None) what (λ sent.
      refused_write station.identity.mac names event live (handled_step outcomes station live (handled_blocks station live caller call Writing None)) (number_of (status_of Writing Arguments))
      refl (other_fault Arguments (λ e. absurd cc)) (told (outcome_of Writing (Err Arguments)) sent.0))

  module _ (blocks : List ℕ) (counted : call.blocks ≡ Some blocks) (is_write : operation_of call.header.operation ≡ Some Writing) where
    reads : commands_in (asks_of station.identity.mac event) ≡ written_by blocks
    reads =
        ap commands_in asked ∙ cond-true (in_order 68 2 octets == 3) _ _ (holds _ 3 (read.operation ∙ operation_three call.header.operation is_write)) ∙ ap written_by (read.blocks blocks counted)

    -- One record, by what it does.
    by_effect : (write : Write) (effect : Effect) → write.effect ≡ effect → writing_of (uuid_of live.rest.link) live.rest.real blocks ≡ Ok (One write)
        → handled station live (heard_of station.identity event) ≡ handled_effect station live caller call write.request effect → Goal
    unfolding handled_step
    by_effect write (Stores value) effect is what =
        let address : List ℕ = live.values.running.suite.address in
        stepped (handled_effect station live caller call write.request (Stores value)) what (λ sent.
        write_step station.identity.mac names outcomes station live event caller address call write value (uuid_of live.rest.link) live.rest.real blocks is effect reads
        (told (outcome_of Writing (written_as write.request (first_answer (carried outcomes live.values (Ask (SetIm value) ∷ [])).answers))) sent.0))
    by_effect write (Keeps parameter) effect is what =
        let heeded : Handled = handled_effect station live caller call write.request (Keeps parameter) in
        stepped heeded what (λ sent.
        kept_step station.identity.mac names event live (handled_step outcomes station live heeded) write parameter (keeping parameter live.rest.link) (uuid_of live.rest.link) live.rest.real blocks
        is effect refl reads (told (outcome_of Writing (kept_answer write.request (keeping parameter live.rest.link))) sent.0))

    by_writing : (writing : Result Asking CallFault) → writing_of (uuid_of live.rest.link) live.rest.real blocks ≡ writing
        → handled station live (heard_of station.identity event) ≡ handled_write station live caller call writing → Goal
    unfolding handled_step
    by_writing (Ok (One write)) is what = by_effect write write.effect refl is what
    by_writing (Ok (Each header entries)) is what =
        let address : List ℕ = live.values.running.suite.address in
        let judged : List Judged = judged_each station.named (uuid_of live.rest.link) live.rest.real entries in
        let answers : List BlockError = (carried outcomes live.values (texts_in judged)).answers in
        let it = each_asked station.named (uuid_of live.rest.link) live.rest.real blocks header entries is in
        let list = each_listed station.named (uuid_of live.rest.link) live.rest.real blocks header entries is in
        stepped (WritesEach caller address call header judged) what (λ sent.
        written_each station.identity.mac names outcomes station live event caller address call header judged it.0 (reads ∙ it.1) it.2
        (told (outcome_of Writing (Ok (several_answer header judged answers live.rest.link))) sent.0
        ∙ ap (λ l. 0 ∷ l) (several_read header judged answers live.rest.link list.wide list.judged list.few)))
    by_writing (Err why) is what =
        let refused : Handled = handled_write station live caller call (Err why) in
        stepped refused what (λ sent.
        refused_step station.identity.mac names event live (handled_step outcomes station live refused) (uuid_of live.rest.link) live.rest.real blocks why is refl
        (told (outcome_of Writing (Err why)) sent.0))

    -- Nothing is sent: the application is asked, or was asked this call.
    by_silence : (rest : Rest) → handled station live (heard_of station.identity event) ≡ Moves rest [] → Goal
    by_silence rest what = stepped (Moves rest []) what (λ _. dropped_bridged station.identity.mac names event outcomes station live rest)

    -- It is refused, since the application is asked another call.
    by_busy : (question : Question) (status : Status) → question.header ≡ call.header → IsOther (number_of status)
        → handled station live (heard_of station.identity event) ≡ replied station live live.rest question status [] → Goal
    unfolding handled_step
    by_busy question status same other what =
        stepped (replied station live live.rest question status []) what
        (by_due (is_new (looked_if stored question.header.activity question.header.sequence live.rest.calls))
        (record live.rest { calls = calls_after stored station.identity question answer live.rest.calls }))
      where
        answer : Sent
        answer = reply_to live.values.running.suite.address question status []

        stored : Bool
        stored = is_kept station.options (operation_asked question.request)

        by_due : (due : Bool) (rest : Rest) → AreSendable station.identity (handled_step outcomes station live (Moves rest (where_due due (answer ∷ [])))).sent
            → Step (Moves rest (where_due due (answer ∷ [])))
        by_due false rest sent = dropped_bridged station.identity.mac names event outcomes station live rest
        by_due true rest sent =
            refused_write station.identity.mac names event live (handled_step outcomes station live (Moves rest (answer ∷ []))) (number_of status) refl other
            (ap (λ a. flat_map (answers_in a) (bytes_of station.identity answer ∷ [])) asked ∙ append-nil _
            ∙ answer_statuses station.identity question.caller live.values.running.suite.address (answer_to (call_of question) status []) octets sent.0
            (read.name ∙ sym (ap (λ (h : CallHeader). h.sequence ∷ h.activity) same)))

    -- The call that it displaces has another name.
    abbrev IsOtherCall : Option Question → Type 0
    IsOtherCall displaced = (other : Question) → displaced ≡ Some other → pointwise nat_eq (other.header.sequence ∷ other.header.activity) (called octets) ≡ false

    by_question : (question : Question) (displaced : Option Question) (asked : Option AskedState) → question.header ≡ call.header → IsOtherCall displaced
        → handled station live (heard_of station.identity event) ≡ handled_question station live question displaced asked → Goal
    unfolding handled_step
    by_question question displaced (Some later) same other what =
        let address = live.values.running.suite.address in
        stepped (handled_question station live question displaced (Some later)) what (λ sent.
        unanswered_bridged station.identity.mac names event outcomes station live _ (refused_sent station.options address Busy displaced live.rest.calls)
        (ap (λ a. flat_map (answers_in a) (map (bytes_of station.identity) (refused_sent station.options address Busy displaced live.rest.calls))) asked
        ∙ refused_statuses station.options station.identity address octets Busy displaced live.rest.calls other sent))
    by_question question displaced None same other what =
        by_busy question (unanswered_status (operation_asked question.request) Busy) same (busy_other question.request) what

    by_asking : (asking : Result (Option Asked) CallFault) → IsOwn live.rest.real station.named (uuid_of live.rest.link) caller call asking → IsPlainIn asking
        → is_repeat call.header.activity call.header.sequence live.rest.asked ≡ false
        → handled station live (heard_of station.identity event) ≡ handled_asking station live caller call blocks Writing asking → Goal
    unfolding handled_step
    by_asking (Ok None) own plain once what = by_writing (writing_of (uuid_of live.rest.link) live.rest.real blocks) refl what
    by_asking (Ok (Some asking)) own plain once what =
        let own_first = station.options.asks_own_first in
        let displaced = displaced_by own_first asking.0 live.rest.asked in
        by_question asking.0 displaced (asks_now asking.0 asking.1 (behind_displaced displaced live.rest.asked)) own
        (λ other gives. ap (pointwise nat_eq (other.header.sequence ∷ other.header.activity)) read.name
        ∙ other_name call.header.activity call.header.sequence other live.rest.asked (displaced_is own_first asking.0 other live.rest.asked gives).was once) what
    by_asking (Err why) own plain once what =
        let refused : Handled = handled_asking station live caller call blocks Writing (Err why) in
        stepped refused what (λ sent.
        refused_write station.identity.mac names event live (handled_step outcomes station live refused) (number_of (status_of Writing why)) refl
        (other_fault why (plain_not why plain)) (told (outcome_of Writing (Err why)) sent.0))

    by_repeat : (is : Bool) → is_repeat call.header.activity call.header.sequence live.rest.asked ≡ is
        → handled station live (heard_of station.identity event) ≡ (if is then Moves live.rest [] else handled_new station live caller call blocks Writing)
        → Goal
    by_repeat true once what = by_silence live.rest what
    by_repeat false once what =
        let standing = uuid_of live.rest.link in
        by_asking (asking_of live.rest.real station.named standing caller call blocks Writing)
        (asking_own live.rest.real station.named standing caller call blocks Writing)
        (write_plain live.rest.real station.named standing caller call blocks) once what

  -- A Write is bridged, if what the device sends at it can be sent.
  pub writes_bridged : WritesAreBridged names outcomes station live event octets asks caller address call read heard
  writes_bridged is = (
    λ _ what. by_none what,
    λ blocks counted _ what. by_repeat blocks counted is (is_repeat call.header.activity call.header.sequence live.rest.asked) refl what,
  )
