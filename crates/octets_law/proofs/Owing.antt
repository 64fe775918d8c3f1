-- A whole Write is answered, and so is a whole Read Implicit where the answers to these are not stored.
use Rattle.std.proofs.Common.{◌≡◌, ◌⊎◌, ◌==◌, ◌&&◌, ℕ, Bool, true, false, not, nat_eq, List, [], ◌∷◌, drop, map, Option, Some, None, Result, Ok, Err, refl, sym, ap, subst, ◌∙◌, inl, inr, arith, if◌then◌else◌}
use Rattle.std.proofs.lemmas.Bool.{cond-false, cond-true}
use Rattle.std.proofs.lemmas.Bool.Decides.{nat_tests}
use Rattle.std.proofs.lemmas.List.{append-nil}
use Rattle.pn_values.specs.declared.command.Command.TheVariants.{SetIm}
use Rattle.pn_values.specs.declared.set_item.SetItem.TheVariants.{Ask}
use Rattle.frame_codec.specs.declared.udp.Caller.{Caller}
use Rattle.rpc_core.specs.declared.header.CallHeader.{CallHeader}
use Rattle.rpc_core.specs.declared.response.Status.{Status}
use Rattle.rpc_core.specs.Cache.{looked, new}
use Rattle.rpc_core.specs.Call.{Asked as Called}
use Rattle.rpc_core.specs.Response.{answer_to}
use Rattle.record_blocks.specs.declared.write_record.IodWriteReq.{IodWriteReq}
use Rattle.records.specs.declared.status.call_fault.CallFault.{CallFault}
use Rattle.records.specs.declared.status.operation.Operation.{Operation}
use Rattle.records.specs.declared.status.operation.Operation.TheVariants.{ReadImplicit, Write as Writing}
use Rattle.records.specs.declared.writes.write.Effect.{Effect}
use Rattle.records.specs.declared.writes.write.Effect.TheVariants.{Stores, Keeps}
use Rattle.records.specs.declared.writes.writing.Writing.{Writing as Asking}
use Rattle.records.specs.declared.writes.writing.Writing.TheVariants.{One, Each}
use Rattle.records.specs.status.Operation.{operation_of}
use Rattle.records.specs.writes.Answer.{number_of}
use Rattle.records.specs.writes.Asked.{writing_of}
use Rattle.relations.specs.Phases.{keeping}
use Rattle.relations.specs.RelationState.{RelationState, uuid_of}
use Rattle.settings_journal.specs.settings_store.Machine.{Outcome, carried}
use Rattle.flash_model.specs.declared.flash.Flash.{Ghosts as Flash}
use Rattle.std.specs.Cmp.Lexicographic.{pointwise}
use Rattle.pn_values.specs.IpSuite.{is_zero}
use Rattle.rpc_core.specs.Response.{response_of}
use Rattle.device_frames.specs.declared.event.Event.{Event}
use Rattle.device_frames.specs.declared.event.Event.TheVariants.{Call as Joined, Frame, Neighbour, Application, Tick}
use Rattle.device_frames.specs.declared.note.Note.{Note}
use Rattle.device_frames.specs.Heard.{Calls, Heard, Reported, heard_content, heard_frame, heard_of, is_own, said_by, said_first}
use Rattle.device_frames.specs.Sendable.{AreSendable, IsSendable}
use Rattle.device_frames.specs.Sent.{CallAnswer, Sent, bytes_of}
use Rattle.device_frames.specs.Relation.{where_due}
use Rattle.asked_records.specs.Answers.{unanswered_status}
use Rattle.asked_records.specs.Asked.{AskedState, Standing, asks_beside, behind_displaced, displaced_by, is_repeat, question_in}
use Rattle.asked_records.specs.Questions.{call_of, is_implicit, operation_of as operation_asked}
use Rattle.asked_records.specs.declared.names.RecordName.{RecordName}
use Rattle.asked_records.specs.declared.question.Question.{Question}
use Rattle.asked_records.specs.declared.question.Request.{Request}
use Rattle.asked_records.specs.declared.question.Request.TheVariants as request
use Rattle.asked_records.specs.declared.status.Unanswered.TheVariants.{Busy}
use Rattle.device_core.specs.Asking.{Asking as Questioning, asking_of as questioning_of, is_kept, is_new, looked_if, question_replies, refused_reply, refused_sent, reply_to}
use Rattle.device_core.specs.State.{Live, State, Station}
use Rattle.device_core.specs.Steps.{Steps}
use Rattle.device_core.specs.Several.{judged_each, texts_in}
use Rattle.device_core.specs.Handled.{Handled, Moves, handled, handled_asking, handled_effect, handled_new, handled_own, handled_question, handled_write, is_running, kept_answer, outcome_of, served}
use Rattle.device_core.specs.Machine.{Stepped, first_answer, handled_step, heard_step, several_answer, written_as}
use Rattle.octets_law.specs.Octets.{args_of, in_order, part, statuses_in}
use Rattle.octets_law.specs.Owed.{AreAnswers, IsAskedNow, IsDisplaced, IsFor, IsNewWrite, IsOwed, IsRead, identifier, is_named}
use Rattle.octets_law.proofs.AnswerPlaces.{answer_found, answer_statuses}
use Rattle.octets_law.proofs.CallPlaces.{IsCallRead}
use Rattle.octets_law.proofs.CallWhole.{both, call_whole}
use Rattle.octets_law.proofs.DatagramWhole.{datagram_whole}
use Rattle.octets_law.proofs.Asked.{IsSuch, step_such}
use Rattle.octets_law.proofs.Operations.{GivesWay, IsOfOperation, asking_has, displaced_is}
use Rattle.octets_law.proofs.Questions.{IsOwn, asking_own, asks_named, no_names}
use Rattle.octets_law.proofs.Repeats.{itself_octets}

-- Busy, as the answer to a Read Implicit.
busy_status : (wanted : Request) → is_implicit wanted ≡ true → number_of (unanswered_status (operation_asked wanted) Busy) ≡ 0xDE80C200
busy_status (request.Read read) is = absurd cc
busy_status (request.ReadImplicit read) is = refl
busy_status (request.Write write) is = absurd cc

same_question : (one other : List ℕ) (first second : ℕ) → one ≡ other → first ≡ second → (pointwise nat_eq one other && first == second) ≡ true
same_question one other first second same number =
    both (pointwise nat_eq one other) (first == second) (subst (λ l. pointwise nat_eq one l ≡ true) same (itself_octets one))
    (subst (λ n. (first == n) ≡ true) number (itself first))
  where
    itself : (n : ℕ) → (n == n) ≡ true
    itself n = grind (arith, nat_tests)

module _ (outcomes : List Outcome) (station : Station) (live : Live) (octets : List ℕ) (caller : Caller) (call : Called) (read : IsCallRead octets call) where
  -- What is done is answered, if what is sent can be sent.
  abbrev IsAnswered : Handled → Type 0
  IsAnswered what =
      AreSendable station.identity (handled_step outcomes station live what).sent → AreAnswers octets (handled_step outcomes station live what).frames

  told : (came : Status × List ℕ) → IsSendable station.identity (CallAnswer caller live.values.running.suite.address (answer_to call came.0 came.1))
      → AreAnswers octets (bytes_of station.identity (CallAnswer caller live.values.running.suite.address (answer_to call came.0 came.1)) ∷ [])
  told came can = (
    number_of came.0,
    statuses_in 16 (drop 64 came.1),
    append-nil _ ∙ answer_statuses station.identity caller live.values.running.suite.address (answer_to call came.0 came.1) octets can read.name,
  )

  -- The answer to a call that may not ask now.
  busy : (question : Question) (status : Status) → question.header ≡ call.header
      → IsSendable station.identity (reply_to live.values.running.suite.address question status [])
      → AreAnswers octets (bytes_of station.identity (reply_to live.values.running.suite.address question status []) ∷ [])
  busy question status same can = (
    number_of status,
    [],
    append-nil _ ∙ answer_statuses station.identity question.caller live.values.running.suite.address (answer_to (call_of question) status []) octets can
        (read.name ∙ sym (ap (λ (h : CallHeader). h.sequence ∷ h.activity) same)),
  )

  by_effect : (header : IodWriteReq) (effect : Effect) → IsAnswered (handled_effect station live caller call header effect)
  unfolding handled_step
  by_effect header (Stores value) can = told (outcome_of Writing (written_as header (first_answer (carried outcomes live.values (Ask (SetIm value) ∷ [])).answers))) can.0
  by_effect header (Keeps parameter) can = told (outcome_of Writing (kept_answer header (keeping parameter live.rest.link))) can.0

  by_writing : (writing : Result Asking CallFault) → IsAnswered (handled_write station live caller call writing)
  unfolding handled_step
  by_writing (Ok (One write)) can = by_effect write.request write.effect can
  by_writing (Ok (Each header entries)) can =
      let judged = judged_each station.named (uuid_of live.rest.link) live.rest.real entries in
      told (outcome_of Writing (Ok (several_answer header judged (carried outcomes live.values (texts_in judged)).answers live.rest.link))) can.0
  by_writing (Err why) can = told (outcome_of Writing (Err why)) can.0

  -- What the device answers by itself.
  by_own : (blocks : List ℕ) → IsAnswered (handled_own station live caller call blocks Writing)
  by_own blocks can = by_writing (writing_of (uuid_of live.rest.link) live.rest.real blocks) can

  served_told : (which : Operation) (outcome : Result (List ℕ) CallFault) (link : Option RelationState)
      → IsAnswered (served station live caller call which outcome link [])
  unfolding handled_step
  served_told which outcome link can = told (outcome_of which outcome) can.0

  read_own : (blocks : List ℕ) → IsAnswered (handled_own station live caller call blocks ReadImplicit)
  read_own blocks = served_told ReadImplicit _ _

  -- A call that is asked, if no other one is.
  abbrev IsAnsweredOrAsked : Handled → Type 0
  IsAnsweredOrAsked what = AreSendable station.identity (handled_step outcomes station live what).sent
      → AreAnswers octets (handled_step outcomes station live what).frames
      ⊎ IsAskedNow station.options octets live.rest.asked (handled_step outcomes station live what).frames
      (handled_step outcomes station live what).live.rest.asked

  -- The call that gives way is refused.
  displaced_sent : (displaced : Option Question) → ((other : Question) → displaced ≡ Some other → GivesWay station.options.asks_own_first live.rest.asked other)
      → AreSendable station.identity (refused_sent station.options live.values.running.suite.address Busy displaced live.rest.calls)
      → (map (bytes_of station.identity) (refused_sent station.options live.values.running.suite.address Busy displaced live.rest.calls) ≡ [])
      ⊎ IsDisplaced station.options live.rest.asked
      (map (bytes_of station.identity) (refused_sent station.options live.values.running.suite.address Busy displaced live.rest.calls))
  displaced_sent None gives can = inl refl
  displaced_sent (Some other) gives can = by_address (is_zero address) can
    where
      address : List ℕ
      address = live.values.running.suite.address

      answer : Sent
      answer = refused_reply address Busy other

      kept : Bool
      kept = is_kept station.options (operation_asked other.request)

      by_due : (due : Bool) → AreSendable station.identity (where_due due (answer ∷ []))
          → (map (bytes_of station.identity) (where_due due (answer ∷ [])) ≡ [])
          ⊎ IsDisplaced station.options live.rest.asked (map (bytes_of station.identity) (where_due due (answer ∷ [])))
      by_due false can = inl refl
      by_due true can =
          let it = answer_found station.identity other.caller address _ can.0 in
          let way = gives other refl in
          inr (record {
            own_first = way.option;
            question = other;
            was = way.was;
            implicit = way.implicit;
            refused = record { frame = _; alone = refl; is = it.is; name = it.name; busy = it.status ∙ busy_status other.request way.implicit };
          })

      by_address : (none : Bool) → AreSendable station.identity (if none then [] else question_replies kept other answer live.rest.calls)
          → (map (bytes_of station.identity) (if none then [] else question_replies kept other answer live.rest.calls) ≡ [])
          ⊎ IsDisplaced station.options live.rest.asked
          (map (bytes_of station.identity) (if none then [] else question_replies kept other answer live.rest.calls))
      by_address true can = inl refl
      by_address false can = by_due (is_new (looked_if kept other.header.activity other.header.sequence live.rest.calls)) can

  by_question : (which : Operation) (question : Question) (displaced : Option Question) (written : List ℕ) (state : AskedState) (standing : Option Standing)
      → question.header ≡ call.header → operation_asked question.request ≡ which
      → ((other : Question) → displaced ≡ Some other → GivesWay station.options.asks_own_first live.rest.asked other)
      → identifier 40 octets ≡ call.header.activity → in_order 64 4 octets ≡ call.header.sequence
      → looked_if (is_kept station.options which) call.header.activity call.header.sequence live.rest.calls ≡ new
      → IsAnsweredOrAsked (handled_question station live question displaced (asks_beside question written state standing))
  unfolding handled_step
  by_question which question displaced written state None same kind gives activity sequence fresh can = inr (record {
    silent = displaced_sent displaced gives can;
    asks = same_question question.header.activity (identifier 40 octets) question.header.sequence (in_order 64 4 octets)
        (ap (λ (h : CallHeader). h.activity) same ∙ sym activity) (ap (λ (h : CallHeader). h.sequence) same ∙ sym sequence);
    due = refl;
  })
  by_question which question displaced written state (Some standing) same kind gives activity sequence fresh can =
      let answer = reply_to live.values.running.suite.address question (unanswered_status (operation_asked question.request) Busy) [] in
      let found : looked_if (is_kept station.options (operation_asked question.request)) question.header.activity question.header.sequence live.rest.calls ≡ new =
      ap (λ o. looked_if (is_kept station.options o) question.header.activity question.header.sequence live.rest.calls) kind
      ∙ ap (λ (h : CallHeader). looked_if (is_kept station.options which) h.activity h.sequence live.rest.calls) same ∙ fresh in
      inl (subst (λ r. AreSendable station.identity (where_due (is_new r) (answer ∷ [])) → AreAnswers octets
      (map (bytes_of station.identity) (where_due (is_new r) (answer ∷ []))))
      (sym found) (λ sent. busy question (unanswered_status (operation_asked question.request) Busy) same sent.0) can)

  by_asking : (which : Operation) (blocks : List ℕ) → IsAnswered (handled_own station live caller call blocks which)
      → (asking : Result (Option Questioning) CallFault)
      → IsOwn live.rest.real station.named (uuid_of live.rest.link) caller call asking
      → IsOfOperation live.rest.real station.named (uuid_of live.rest.link) caller call which asking
      → identifier 40 octets ≡ call.header.activity → in_order 64 4 octets ≡ call.header.sequence
      → looked_if (is_kept station.options which) call.header.activity call.header.sequence live.rest.calls ≡ new
      → IsAnsweredOrAsked (handled_asking station live caller call blocks which asking)
  unfolding handled_step
  by_asking which blocks owned (Ok None) own kind activity sequence fresh can = inl (owned can)
  by_asking which blocks owned (Ok (Some asking)) own kind activity sequence fresh can =
      let own_first = station.options.asks_own_first in
      let displaced = displaced_by own_first asking.0 live.rest.asked in
      let state = behind_displaced displaced live.rest.asked in
      by_question which asking.0 displaced asking.1 state state.standing own kind
      (λ other gives. displaced_is own_first asking.0 other live.rest.asked gives) activity sequence fresh can
  by_asking which blocks owned (Err why) own kind activity sequence fresh can = inl (told (outcome_of which (Err why)) can.0)

  -- What asks nothing is answered.
  by_unnamed : (named : List RecordName) (blocks : List ℕ) (asking : Result (Option Questioning) CallFault)
      → ((it : Questioning) → asking ≡ Ok (Some it) → is_named named blocks ≡ true) → is_named named blocks ≡ false
      → IsAnswered (handled_asking station live caller call blocks Writing asking)
  unfolding handled_step
  by_unnamed named blocks (Ok None) asks not can = by_own blocks can
  by_unnamed named blocks (Ok (Some asking)) asks not can = absurd (let e : true ≡ false = sym (asks asking refl) ∙ not in cc)
  by_unnamed named blocks (Err why) asks not can = told (outcome_of Writing (Err why)) can.0

  -- A new call to the running address.
  module _ (which : Operation) (address blocks : List ℕ) (running : is_running live.values.running address ≡ true)
      (operation : operation_of call.header.operation ≡ Some which) (counted : call.blocks ≡ Some blocks)
      (activity : identifier 40 octets ≡ call.header.activity) (sequence : in_order 64 4 octets ≡ call.header.sequence)
      (fresh : looked_if (is_kept station.options which) (identifier 40 octets) (in_order 64 4 octets) live.rest.calls ≡ new)
      (once : is_repeat (identifier 40 octets) (in_order 64 4 octets) live.rest.asked ≡ false)
      (can : AreSendable station.identity (heard_step outcomes station live (Reported caller address (Calls call))).sent) where
    found : looked_if (is_kept station.options which) call.header.activity call.header.sequence live.rest.calls ≡ new
    found =
        ap (λ a. looked_if (is_kept station.options which) a call.header.sequence live.rest.calls) (sym activity)
        ∙ ap (λ n. looked_if (is_kept station.options which) (identifier 40 octets) n live.rest.calls) (sym sequence)
        ∙ fresh

    repeat_not : is_repeat call.header.activity call.header.sequence live.rest.asked ≡ false
    repeat_not =
        ap (λ a. is_repeat a call.header.sequence live.rest.asked) (sym activity) ∙ ap (λ n. is_repeat (identifier 40 octets) n live.rest.asked)
        (sym sequence) ∙ once

    abbrev asking : Result (Option Questioning) CallFault
    asking = questioning_of live.rest.real station.named (uuid_of live.rest.link) caller call blocks which

    what : handled station live (Reported caller address (Calls call)) ≡ handled_asking station live caller call blocks which asking
    what =
        cond-true (is_running live.values.running address) _ _ running ∙ rw (operation, counted, found) refl ∙ cond-false
        (is_repeat call.header.activity call.header.sequence live.rest.asked) (Moves live.rest [])
        (handled_new station live caller call blocks which) repeat_not

    -- It is answered, or the application is asked.
    pub call_asked : IsAnswered (handled_own station live caller call blocks which)
        → AreAnswers octets (heard_step outcomes station live (Reported caller address (Calls call))).frames
        ⊎ IsAskedNow station.options octets live.rest.asked (heard_step outcomes station live (Reported caller address (Calls call))).frames
        (heard_step outcomes station live (Reported caller address (Calls call))).live.rest.asked
    unfolding heard_step
    call_asked owned =
        subst IsAnsweredOrAsked (sym what) (by_asking which blocks owned asking
        (asking_own live.rest.real station.named (uuid_of live.rest.link) caller call blocks which)
        (asking_has live.rest.real station.named (uuid_of live.rest.link) caller call blocks which) activity sequence found) can

  -- A Write of a record that the station does not name is answered.
  module _ (address blocks : List ℕ) (running : is_running live.values.running address ≡ true)
      (operation : operation_of call.header.operation ≡ Some Writing) (counted : call.blocks ≡ Some blocks)
      (activity : identifier 40 octets ≡ call.header.activity) (sequence : in_order 64 4 octets ≡ call.header.sequence)
      (fresh : looked (identifier 40 octets) (in_order 64 4 octets) live.rest.calls ≡ new)
      (once : is_repeat (identifier 40 octets) (in_order 64 4 octets) live.rest.asked ≡ false)
      (can : AreSendable station.identity (heard_step outcomes station live (Reported caller address (Calls call))).sent) where
    pub write_answered : is_named station.named blocks ≡ false
        → AreAnswers octets (heard_step outcomes station live (Reported caller address (Calls call))).frames
    unfolding heard_step
    write_answered not =
        let asks = questioning_of live.rest.real station.named (uuid_of live.rest.link) caller call blocks Writing in
        subst IsAnswered (sym (what Writing address blocks running operation counted activity sequence fresh once can)) (by_unnamed station.named blocks asks
        (λ it is. asks_named live.rest.real station.named (uuid_of live.rest.link) caller call blocks it is) not) can

-- ---- a step

none_asked : (question : Question) → None ≡ Some question → ⊥
none_asked question e = cc

nothing_later : (state : AskedState) → IsSuch (λ question. ⊥) state → question_in state ≡ None
nothing_later state such = by_question (question_in state) refl
  where
    by_question : (found : Option Question) → question_in state ≡ found → found ≡ None
    by_question None is = refl
    by_question (Some question) is = absurd (such question is)

same_address : (one other : List ℕ) → one ≡ other → is_zero other ≡ false → pointwise nat_eq one other && not (is_zero one) ≡ true
same_address one other is not_zero = rw (is, itself_octets other, not_zero) refl

module _ (outcomes : List Outcome) (station : Station) (live : Live) (event : Event) where
  abbrev Step : Heard → Stepped
  Step heard = heard_step outcomes station live heard

  -- A whole new Write.
  abbrev IsNew : List ℕ → Type 0
  IsNew call = IsNewWrite station.identity.mac live.values.running.suite.address live.rest.calls live.rest.asked event call

  -- A whole Read Implicit whose answer is not stored.
  abbrev IsReading : List ℕ → Type 0
  IsReading call = IsRead station.options station.identity.mac live.values.running.suite.address live.rest.asked event call

  -- What is owed to it.
  abbrev AreAnsweredOrAsked : List ℕ → Heard → Type 0
  AreAnsweredOrAsked call heard =
      AreAnswers call (Step heard).frames ⊎ IsAskedNow station.options call live.rest.asked (Step heard).frames (Step heard).live.rest.asked

  abbrev Owes : List ℕ → Heard → Type 0
  Owes call heard =
      (is_named station.named (args_of call) ≡ false → AreAnswers call (Step heard).frames)
      × AreAnsweredOrAsked call heard

  -- The call that is heard is the whole one.
  write_owed : (call : List ℕ) (caller : Caller) (to : List ℕ) → to ≡ live.values.running.suite.address → IsNew call → (heard : Heard)
      → heard ≡ Reported caller to (said_by call)
      → AreSendable station.identity (Step heard).sent → Owes call heard
  unfolding operation_of said_by
  write_owed call caller to is one heard heard_is can =
      let it = call_whole call one.whole in
      let said : heard ≡ Reported caller to (Calls it.call) = heard_is ∙ ap (λ r. Reported caller to (said_first r (response_of call))) it.read in
      let running = same_address to _ is one.address_is in
      let writes : operation_of it.call.header.operation ≡ Some Writing = ap operation_of (sym it.placed.operation ∙ one.operation) in
      let sent = subst (λ h. AreSendable station.identity (Step h).sent) said can in
      subst (Owes call) (sym said) (
        write_answered outcomes station live call caller it.call it.placed to (args_of call) running writes it.blocks (sym it.activity)
            (sym it.sequence) one.fresh one.once sent,
        call_asked outcomes station live call caller it.call it.placed Writing to (args_of call) running writes it.blocks (sym it.activity)
            (sym it.sequence) one.fresh one.once sent (by_own outcomes station live call caller it.call it.placed (args_of call)),
      )

  read_owed : (call : List ℕ) (caller : Caller) (to : List ℕ) → to ≡ live.values.running.suite.address → IsReading call → (heard : Heard)
      → heard ≡ Reported caller to (said_by call)
      → AreSendable station.identity (Step heard).sent → AreAnsweredOrAsked call heard
  unfolding operation_of said_by
  read_owed call caller to is one heard heard_is can =
      let it = call_whole call one.whole in
      let said : heard ≡ Reported caller to (Calls it.call) = heard_is ∙ ap (λ r. Reported caller to (said_first r (response_of call))) it.read in
      let running = same_address to _ is one.address_is in
      let reads : operation_of it.call.header.operation ≡ Some ReadImplicit = ap operation_of (sym it.placed.operation ∙ one.operation) in
      let sent = subst (λ h. AreSendable station.identity (Step h).sent) said can in
      let fresh = ap (λ b. looked_if (not b) (identifier 40 call) (in_order 64 4 call) live.rest.calls) one.not_kept in
      subst (AreAnsweredOrAsked call) (sym said)
      (call_asked outcomes station live call caller it.call it.placed ReadImplicit to (args_of call) running reads it.blocks (sym it.activity)
      (sym it.sequence) fresh one.once sent (read_own outcomes station live call caller it.call it.placed (args_of call)))

  -- What holds of the call that is heard holds of the event that has it.
  by_event : (call : List ℕ) (P : Heard → Type 0)
      → ((caller : Caller) (to : List ℕ) → to ≡ live.values.running.suite.address → (heard : Heard) → heard ≡ Reported caller to (said_by call)
      → AreSendable station.identity (Step heard).sent → P heard)
      → (kind : Event) → event ≡ kind → IsFor station.identity.mac live.values.running.suite.address kind call
      → AreSendable station.identity (Step (heard_of station.identity event)).sent → P (heard_of station.identity event)
  unfolding heard_of
  by_event call P owed (Joined caller to octets) is (at, called) can =
      owed caller to at (heard_of station.identity event)
      (ap (heard_of station.identity) is ∙ ap (λ l. Reported caller to (said_by l)) (sym called)) can
  by_event call P owed (Frame frame) is (own, at, datagram, body) can =
      let it = datagram_whole frame.items datagram in
      let mine : is_own station.identity it.meaning.destination ≡ true =
      ap (λ l. pointwise nat_eq l station.identity.mac.octets) (it.destination ∙ own) ∙ itself_octets station.identity.mac.octets in
      let caller : Caller = record { mac = it.meaning.source; endpoint = record { address = it.source; port = it.port } } in
      owed caller (part 30 4 frame.items) at (heard_of station.identity event)
      (ap (heard_of station.identity) is ∙ ap (heard_frame station.identity) it.read
      ∙ ap (heard_content station.identity it.meaning.destination it.meaning.source) it.content
      ∙ cond-true (is_own station.identity it.meaning.destination && true) _ _ (both _ _ mine refl)
      ∙ ap (λ l. Reported caller (part 30 4 frame.items) (said_by l)) (sym body)) can
  by_event call P owed Tick is for can = absurd for
  by_event call P owed (Application local) is for can = absurd for
  by_event call P owed (Neighbour neighbour) is for can = absurd for

  event_owed : AreSendable station.identity (Step (heard_of station.identity event)).sent
      → IsOwed station.options station.identity.mac live.values.running.suite.address station.named live.rest.calls live.rest.asked event
      (Step (heard_of station.identity event)).frames
      (Step (heard_of station.identity event)).live.rest.asked
  event_owed can = record {
    write = λ call one. (by_event call (Owes call) (λ caller to at heard is sent. write_owed call caller to at one heard is sent) event refl one.for can).0;
    named_write = λ call one _.
        (by_event call (Owes call) (λ caller to at heard is sent. write_owed call caller to at one heard is sent) event refl one.for can).1;
    read = λ call one.
        by_event call (AreAnsweredOrAsked call) (λ caller to at heard is sent. read_owed call caller to at one heard is sent) event refl one.for can;
    unasked = λ none was. nothing_later (Step (heard_of station.identity event)).live.rest.asked
        (step_such (λ question. ⊥) outcomes station live (heard_of station.identity event)
        (λ caller address call blocks operation asking heard there which asks. no_names live.rest.real
        (uuid_of live.rest.link) caller call blocks operation asking
        (subst (λ n. questioning_of live.rest.real n (uuid_of live.rest.link) caller call blocks operation ≡ Ok (Some asking)) none asks))
        (λ question is. none_asked question (sym was ∙ is)));
  }

-- What a step sends is what is owed.
pub step_owed : {F : Type 0} {S : ℕ} (as_flash : Flash F S) (old after : State F) (event : Event) (sent : List (List ℕ)) (said : Note)
    → Steps as_flash old (heard_of old.station.identity event) sent said after
    → IsOwed old.station.options old.station.identity.mac old.live.values.running.suite.address old.station.named old.live.rest.calls old.live.rest.asked event sent after.live.rest.asked
step_owed as_flash old after event sent said step =
    subst
    (λ s. IsOwed old.station.options old.station.identity.mac old.live.values.running.suite.address old.station.named old.live.rest.calls old.live.rest.asked event s after.live.rest.asked) (sym step.frames)
    (subst (IsOwed old.station.options old.station.identity.mac old.live.values.running.suite.address old.station.named old.live.rest.calls old.live.rest.asked event _)
    (sym (ap (λ (l : Live). l.rest.asked) step.live)) (event_owed step.outcomes old.station old.live event step.sendable))
