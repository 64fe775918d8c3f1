-- What a device does with what a stranger says: its relation remains.
use Rattle.std.proofs.Common.{◌≡◌, ◌==◌, ◌++◌, inl, inr, nat_lt, ◌&&◌, ℕ, Bool, true, false, nat_eq, List, [], ◌∷◌, Option, Some, None, is_some, Result, Ok, Err, refl, sym, ap, subst, if◌then◌else◌}
use Rattle.std.proofs.lemmas.Bool.{cond_both, cond-false}
use Rattle.std.specs.Cmp.Lexicographic.{pointwise}
use Rattle.std.specs.List.{AllByRecursion}
use Rattle.pn_values.specs.declared.mac.Mac.{Mac}
use Rattle.pn_values.specs.declared.set_item.SetItem.{SetItem}
use Rattle.pn_values.specs.declared.set_item.SetItem.TheVariants.{Ask, Signal, Answer}
use Rattle.pn_values.specs.declared.set_item.BlockError.{BlockError}
use Rattle.frame_codec.specs.declared.udp.Caller.{Caller}
use Rattle.dcp_core.specs.declared.request.Service.{Service}
use Rattle.dcp_core.specs.declared.request.Service.TheVariants as service
use Rattle.dcp_core.specs.Request.{Asked}
use Rattle.dcp_core.specs.Identify.{matches}
use Rattle.dcp_core.specs.Set.{plan_of}
use Rattle.rpc_core.specs.Call.{Asked as Call}
use Rattle.rpc_core.specs.Cache.{Kept, Reported as Looked, again, is_of, looked, new, old, reported_by}
use Rattle.rpc_core.specs.Response.{Answered}
use Rattle.connect_blocks.specs.declared.control.ControlBlock.{ControlBlock}
use Rattle.connect_blocks.specs.declared.plug_control.PlugControlBlock.{PlugControlBlock}
use Rattle.records.specs.declared.status.call_fault.CallFault.{CallFault}
use Rattle.records.specs.declared.status.operation.Operation.{Operation}
use Rattle.records.specs.declared.status.operation.Operation.TheVariants.{Connect, Release, Read, Write, Control, ReadImplicit}
use Rattle.records.specs.declared.writes.writing.Writing.{Writing}
use Rattle.records.specs.status.Operation.{operation_of}
use Rattle.records.specs.reads.Within.{names_relation}
use Rattle.records.specs.writes.Asked.{writing_of}
use Rattle.cyclic_data.specs.declared.exchange.received.Received.{Received}
use Rattle.cyclic_data.specs.declared.exchange.received.Received.TheVariants as received
use Rattle.cyclic_data.specs.exchange.Received.{is_of_partner}
use Rattle.pn_alarms.specs.declared.pdu.Header.{Header}
use Rattle.pn_alarms.specs.Message.{ToDevice}
use Rattle.relations.specs.exchange.Received.{received_as}
use Rattle.relations.specs.Calls.{prm_end_of, release_of, prm_end_answer}
use Rattle.relations.specs.Connect.{connect_answer, connect_within, making}
use Rattle.relations.specs.Diagnosed.{has_sent_low}
use Rattle.relations.specs.Exchanged.{received_by, receiving}
use Rattle.relations.specs.Phases.{Handled as Moving, Ended, Named, Parameterized, Unmoved, answered, updated}
use Rattle.relations.specs.declared.hearing.ReadyAnswer.TheVariants as to_ready
use Rattle.relations.specs.Plugging.{ended_by, is_plug_control, plug_answer_in, plug_end_answer, plug_end_in}
use Rattle.relations.specs.Ready.{answer_of as ready_answer, is_wanted}
use Rattle.relations.specs.RelationState.{RelationState, is_alarm_of, is_awaiting, is_in_exchange, uuid_of}
use Rattle.device_records.specs.Reading.{implicit_read, relation_read}
use Rattle.device_frames.specs.Heard.{Heard, Unreadable, Elsewhere, Asks, Resolves, Reported, Cyclic, Alarms, LowReplies, LowConfirms, Said, Calls, Responds, Garbled}
use Rattle.device_frames.specs.Sent.{Sent, IdentifyAnswer, GetAnswer, SetAnswer, ArpReply, CallAnswer, Again, ReadyCall, PlugReadyCall, Ends, Exchanges}
use Rattle.settings_journal.specs.settings_store.State.{Values}
use Rattle.settings_journal.specs.settings_store.Machine.{Outcome, carried, rest_of}
use Rattle.rpc_core.specs.declared.response.Status.{Status}
use Rattle.asked_records.specs.Answers.{unanswered_status}
use Rattle.pn_values.specs.IpSuite.{is_zero}
use Rattle.asked_records.specs.Asked.{AskedState, asks, behind_displaced, displaced_by, is_repeat}
use Rattle.asked_records.specs.Questions.{operation_of as operation_asked}
use Rattle.asked_records.specs.declared.question.Question.{Question}
use Rattle.asked_records.specs.declared.status.Unanswered.TheVariants.{Busy}
use Rattle.device_frames.specs.Relation.{where_due}
use Rattle.device_core.specs.Asking.{Asking, asking_of, is_kept, is_new, looked_if, question_replies, refused_reply, refused_sent, reply_to}
use Rattle.device_core.specs.State.{Live, Rest, Station, alias_in}
use Rattle.device_core.specs.Handled.{Handled, Refuses, Sets, Writes, WritesEach, Moves, handled, handled_alarm, handled_answer, handled_blocks, handled_call, handled_cyclic, handled_looked, handled_low, handled_asking, handled_own, handled_plug_answer, handled_question, handled_unanswered, handled_received, handled_request, handled_response, handled_said, handled_write, answer_from, counted_by, kept_behind, implicitly, is_running, is_request, known_of, number_now, partner_of, ready_behind, served, starting_of}
use Rattle.device_core.specs.Log.{connect_log, with_log}
use Rattle.device_core.specs.Modules.{call_after, calling_after}
use Rattle.device_core.specs.Machine.{farewells_at, handled_step, link_after, resets}
use Rattle.strangers_law.specs.Device.{IsIn, IsLeft, frames_stored}
use Rattle.strangers_law.proofs.Harmless.{IsHarmless, IsQuiet, IsUnnamed, Names}
use Rattle.strangers_law.proofs.Unnamed.{IsNoEnd, connect_still, connect_uncounted, no_plug_end, no_prm_end, no_read, no_write, plug_unwanted, release_still, unnamed_read}

-- ---- what remains

-- The rest of a device, but for the lamp, the stored answers, the log and what is asked.
pub record RestStays (old new : Rest) : Type 0 where
  pub link : new.link ≡ old.link
  pub units : new.units ≡ old.units
  pub is_running : new.is_running ≡ old.is_running
  pub statuses : new.statuses ≡ old.statuses
  pub peer : new.peer ≡ old.peer
  pub diagnoses : new.diagnoses ≡ old.diagnoses
  pub made : new.made ≡ old.made
  pub real : new.real ≡ old.real

-- A message that answers, or one of these frames again.
abbrev pub IsAnswer : List (List ℕ) → Sent → Type 0
IsAnswer stored (IdentifyAnswer asker running xid) = Unit {0}
IsAnswer stored (GetAnswer asker running alias request) = Unit {0}
IsAnswer stored (SetAnswer asker request answers) = Unit {0}
IsAnswer stored (ArpReply asker address target) = Unit {0}
IsAnswer stored (CallAnswer caller address answer) = Unit {0}
IsAnswer stored (Again frame) = IsIn frame stored
IsAnswer stored (ReadyCall address ready) = ⊥
IsAnswer stored (PlugReadyCall address ready) = ⊥
IsAnswer stored (Ends farewell) = ⊥
IsAnswer stored (Exchanges route frame) = ⊥

-- The frames of the stored answers.
abbrev pub stored_in : Live → List (List ℕ)
stored_in live = frames_stored live.rest.calls

abbrev pub Remains : Live → Handled → Type 0
Remains live (Refuses note) = Unit {0}
Remains live (Sets asker request in_operation) = AllByRecursion IsQuiet (plan_of in_operation request)
Remains live (Writes caller address call header value) = ⊥
Remains live (WritesEach caller address call header judged) = ⊥
Remains live (Moves rest sent) = RestStays live.rest rest × AllByRecursion (IsAnswer (stored_in live)) sent

-- Whether a relation is counted or not, nothing else changes.
record IsCount (old new : Rest) : Type 0 where
  units : new.units ≡ old.units
  is_running : new.is_running ≡ old.is_running
  statuses : new.statuses ≡ old.statuses
  peer : new.peer ≡ old.peer
  diagnoses : new.diagnoses ≡ old.diagnoses
  real : new.real ≡ old.real

count_alone : {A : Type 0} (answer : Result A CallFault) (rest : Rest) → IsCount rest (counted_by answer rest)
count_alone (Ok answer) rest = record { units = refl; is_running = refl; statuses = refl; peer = refl; diagnoses = refl; real = refl }
count_alone (Err why) rest = record { units = refl; is_running = refl; statuses = refl; peer = refl; diagnoses = refl; real = refl }

stays_as_is : (rest : Rest) → RestStays rest rest
stays_as_is rest = record { link = refl; units = refl; is_running = refl; statuses = refl; peer = refl; diagnoses = refl; made = refl; real = refl }

looked_stored : (activity : List ℕ) (sequence : ℕ) (calls : List Kept) (frame : List ℕ) → looked activity sequence calls ≡ again frame → IsIn frame (frames_stored calls)
looked_stored activity sequence [] frame e = absurd cc
looked_stored activity sequence (one ∷ others) frame e =
    cond_both (is_of activity one) _ _ (λ (k : Option Kept). reported_by sequence k ≡ again frame → IsIn frame (one.frame ∷ frames_stored others))
    (λ _. cond_both (sequence == one.sequence) _ _ (λ (r : Looked). r ≡ again frame → IsIn frame (one.frame ∷ frames_stored others)) (λ _ e. inl (let same : frame ≡ one.frame = cc in same))
    (λ _. cond_both (nat_lt sequence one.sequence) _ _ (λ (r : Looked). r ≡ again frame → IsIn frame (one.frame ∷ frames_stored others)) (λ _ e. absurd cc) (λ _ e. absurd cc)))
    (λ _ e. inr (looked_stored activity sequence others frame e)) e

looked_if_stored : (stored : Bool) (activity : List ℕ) (sequence : ℕ) (calls : List Kept) (frame : List ℕ)
    → looked_if stored activity sequence calls ≡ again frame → IsIn frame (frames_stored calls)
looked_if_stored true activity sequence calls frame e = looked_stored activity sequence calls frame e
looked_if_stored false activity sequence calls frame e = absurd cc

-- ---- a Set without a reset

pub quiet_carried : (outcomes : List Outcome) (values : Values) (items : List SetItem) → AllByRecursion IsQuiet items → (carried outcomes values items).values ≡ values
quiet_carried outcomes values [] quiet = refl
quiet_carried outcomes values (Ask command ∷ items) quiet = absurd quiet.0
quiet_carried outcomes values (Signal ∷ items) quiet = quiet_carried (rest_of outcomes) values items quiet.1
quiet_carried outcomes values (Answer answer ∷ items) quiet = quiet_carried (rest_of outcomes) values items quiet.1

pub quiet_resets : (items : List SetItem) (answers : List BlockError) → AllByRecursion IsQuiet items → resets items answers ≡ false
quiet_resets [] answers quiet = refl
quiet_resets (item ∷ items) [] quiet = refl
quiet_resets (Ask command ∷ items) (answer ∷ answers) quiet = absurd quiet.0
quiet_resets (Signal ∷ items) (answer ∷ answers) quiet = quiet_resets items answers quiet.1
quiet_resets (Answer error ∷ items) (answer ∷ answers) quiet = quiet_resets items answers quiet.1

-- ---- the step

pub remains_left : (outcomes : List Outcome) (station : Station) (live : Live) (what : Handled) → Remains live what → IsLeft live (handled_step outcomes station live what).live
unfolding handled_step
remains_left outcomes station live (Refuses note) remains = record { values = refl; link = refl; units = refl; is_running = refl; statuses = refl; peer = refl; diagnoses = refl; made = refl; real = refl }
remains_left outcomes station live (Sets asker request in_operation) remains = record {
  values = quiet_carried outcomes live.values (plan_of in_operation request) remains;
  link = ap (λ ends. link_after ends live.rest.link)
      (quiet_resets (plan_of in_operation request) (carried outcomes live.values (plan_of in_operation request)).answers remains);
  units = refl;
  is_running = refl;
  statuses = refl;
  peer = refl;
  diagnoses = refl;
  made = refl;
  real = refl;
}
remains_left outcomes station live (Writes caller address call header value) remains = absurd remains
remains_left outcomes station live (WritesEach caller address call header judged) remains = absurd remains
remains_left outcomes station live (Moves rest sent) remains =
    record { values = refl; link = remains.0.link; units = remains.0.units; is_running = remains.0.is_running; statuses = remains.0.statuses; peer = remains.0.peer; diagnoses = remains.0.diagnoses; made = remains.0.made; real = remains.0.real }

pub remains_sent : (outcomes : List Outcome) (station : Station) (live : Live) (what : Handled) → Remains live what → AllByRecursion (IsAnswer (stored_in live)) (handled_step outcomes station live what).sent
unfolding handled_step
remains_sent outcomes station live (Refuses note) remains = tt
remains_sent outcomes station live (Sets asker request in_operation) remains =
    let answers : List BlockError = (carried outcomes live.values (plan_of in_operation request)).answers in
    subst (λ ends. AllByRecursion (IsAnswer (stored_in live)) (farewells_at ends live.rest.link ++ SetAnswer asker request answers ∷ []))
    (sym (quiet_resets (plan_of in_operation request) answers remains)) (tt, tt)
remains_sent outcomes station live (Writes caller address call header value) remains = absurd remains
remains_sent outcomes station live (WritesEach caller address call header judged) remains = absurd remains
remains_sent outcomes station live (Moves rest sent) remains = remains.1

-- ---- a new call

module _ (station : Station) (live : Live) (link : RelationState) (exists : live.rest.link ≡ Some link) where
  own_remains : (caller : Caller) (call : Call) (blocks : List ℕ) (operation : Operation) → Names link blocks ≡ false
      → Remains live (handled_own station live caller call blocks operation)
  own_remains caller call blocks Connect other = (
    record {
      link = subst (λ (l : Option RelationState). updated (making live.rest.real (partner_of caller) station.options (starting_of station live) (connect_within station.options caller.mac l blocks)) l ≡ l)
          (sym exists) (connect_still live.rest.real (partner_of caller) station.options (starting_of station live) caller.mac link blocks);
      units = (count_alone answer logged).units;
      is_running = (count_alone answer logged).is_running;
      statuses = (count_alone answer logged).statuses;
      peer = (count_alone answer logged).peer;
      diagnoses = (count_alone answer logged).diagnoses;
      real = (count_alone answer logged).real;
      made = subst (λ (l : Option RelationState). (counted_by (connect_answer station.identity live.rest.real station.options (number_now station live) caller.mac l blocks) logged).made ≡ live.rest.made)
          (sym exists) (connect_uncounted station.identity live.rest.real station.options (number_now station live) caller.mac link blocks logged);
    },
    (tt, tt),
  )
    where
      answer : Result (List ℕ) CallFault
      answer = connect_answer station.identity live.rest.real station.options (number_now station live) caller.mac live.rest.link blocks

      logged : Rest
      logged = with_log (connect_log blocks answer) live.rest
  own_remains caller call blocks Release other = (
    record {
      link = subst (λ (l : Option RelationState). updated (answered Ended (release_of l blocks)) l ≡ l) (sym exists) (release_still link blocks other);
      units = refl;
      is_running = refl;
      statuses = refl;
      peer = refl;
      diagnoses = refl;
      made = refl;
      real = refl;
    },
    (tt, tt),
  )
  own_remains caller call blocks Read other = (
    record {
      link = by_result (relation_read (known_of station live) station.identity live.rest.real live.values.running blocks) refl;
      units = refl;
      is_running = refl;
      statuses = refl;
      peer = refl;
      diagnoses = refl;
      made = refl;
      real = refl;
    },
    (tt, tt),
  )
    where
      by_result : (r : Result (List ℕ) CallFault) → relation_read (known_of station live) station.identity live.rest.real live.values.running blocks ≡ r
          → updated (answered (Named (partner_of caller)) r) live.rest.link ≡ live.rest.link
      by_result (Ok octets) is = absurd (no_read (known_of station live) station.identity live.rest.real live.values.running link blocks octets exists other is)
      by_result (Err why) is = refl
  own_remains caller call blocks Write other =
      by_result (writing_of (uuid_of live.rest.link) live.rest.real blocks) refl
    where
      by_result : (r : Result Writing CallFault) → writing_of (uuid_of live.rest.link) live.rest.real blocks ≡ r → Remains live (handled_write station live caller call r)
      by_result (Ok writing) is =
          absurd (no_write link live.rest.real blocks writing other (subst (λ (l : Option RelationState). writing_of (uuid_of l) live.rest.real blocks ≡ Ok writing) exists is))
      by_result (Err why) is = (record { link = refl; units = refl; is_running = refl; statuses = refl; peer = refl; diagnoses = refl; made = refl; real = refl }, (tt, tt))
  own_remains caller call blocks Control other =
      cond_both (is_plug_control blocks live.rest.link) _ _ (Remains live) (λ _. by_end (plug_end_in blocks live.rest.link) refl)
      (λ _. by_result (prm_end_of live.rest.link blocks) refl)
    where
      by_end : (r : Result PlugControlBlock CallFault) → plug_end_in blocks live.rest.link ≡ r
          → let next = updated (answered (Named (partner_of caller)) r) (ended_by station.options.ready_by_application r live.rest.link) in
          Remains live (served station live caller call Control (plug_end_answer r) (calling_after r next) (call_after r live.values.running.suite.address next))
      by_end (Ok block) is =
          absurd (let e : plug_end_in blocks (Some link) ≡ Ok block = subst (λ (l : Option RelationState). plug_end_in blocks l ≡ Ok block) exists is in
          let n = (no_plug_end link blocks other).is in cc)
      by_end (Err why) is = (record { link = refl; units = refl; is_running = refl; statuses = refl; peer = refl; diagnoses = refl; made = refl; real = refl }, (tt, tt))

      none : IsNoEnd link blocks
      none = no_prm_end link blocks other

      by_result : (r : Result ControlBlock CallFault) → prm_end_of live.rest.link blocks ≡ r
          → RestStays live.rest (record live.rest {
            calls = (kept_behind station.identity live.rest call
                (answer_from live.values.running.suite.address caller call Control (prm_end_answer live.rest.link blocks)) live.rest.link).calls;
            link = updated (answered (Named (partner_of caller)) r) (updated (answered (Parameterized station.options.ready_by_application) r) live.rest.link);
          }) × AllByRecursion (IsAnswer (stored_in live)) (answer_from live.values.running.suite.address caller call Control (prm_end_answer live.rest.link blocks)
          ∷ ready_behind station.options.ready_by_application live.values.running.suite.address
          (updated (answered (Named (partner_of caller)) r) (updated (answered (Parameterized station.options.ready_by_application) r) live.rest.link)) r)
      by_result (Ok block) is = absurd (let e : prm_end_of (Some link) blocks ≡ Ok block = subst (λ (l : Option RelationState). prm_end_of l blocks ≡ Ok block) exists is in let n = none.is in cc)
      by_result (Err why) is = (record { link = refl; units = refl; is_running = refl; statuses = refl; peer = refl; diagnoses = refl; made = refl; real = refl }, (tt, tt))
  own_remains caller call blocks ReadImplicit other = (
    record {
      link = by_result (implicit_read (known_of station live) station.identity live.rest.real live.values.running blocks);
      units = refl;
      is_running = refl;
      statuses = refl;
      peer = refl;
      diagnoses = refl;
      made = refl;
      real = refl;
    },
    (tt, tt),
  )
    where
      unmoved : implicitly (partner_of caller) live.rest.link blocks ≡ Unmoved
      unmoved = cond-false (names_relation (uuid_of live.rest.link) blocks) _ _
          (subst (λ (l : Option RelationState). names_relation (uuid_of l) blocks ≡ false) (sym exists) (unnamed_read link blocks other))

      by_result : (r : Result (List ℕ) CallFault) → updated (answered (implicitly (partner_of caller) live.rest.link blocks) r) live.rest.link ≡ live.rest.link
      by_result (Ok octets) = ap (λ (m : Moving). updated m live.rest.link) unmoved
      by_result (Err why) = refl

  -- ---- any call, and any response

  -- A call for a record of the application.
  reply_answers : (due : Bool) (question : Question) (status : Status) (blocks : List ℕ)
      → AllByRecursion (IsAnswer (stored_in live)) (where_due due (reply_to live.values.running.suite.address question status blocks ∷ []))
  reply_answers true question status blocks = (tt, tt)
  reply_answers false question status blocks = tt

  refused_answers : (refused : Option Question)
      → AllByRecursion (IsAnswer (stored_in live)) (refused_sent station.options live.values.running.suite.address Busy refused live.rest.calls)
  refused_answers None = tt
  refused_answers (Some question) = by_address (is_zero live.values.running.suite.address)
    where
      stored : Bool
      stored = is_kept station.options (operation_asked question.request)

      by_address : (none : Bool) → AllByRecursion (IsAnswer (stored_in live)) (if none then []
          else question_replies stored question (refused_reply live.values.running.suite.address Busy question) live.rest.calls)
      by_address true = tt
      by_address false =
          reply_answers (is_new (looked_if stored question.header.activity question.header.sequence live.rest.calls)) question
          (unanswered_status (operation_asked question.request) Busy) []

  question_remains : (question : Question) (displaced : Option Question) (asked : Option AskedState)
      → Remains live (handled_question station live question displaced asked)
  question_remains question displaced (Some asked) = (
    record { link = refl; units = refl; is_running = refl; statuses = refl; peer = refl; diagnoses = refl; made = refl; real = refl },
    refused_answers displaced,
  )
  question_remains question displaced None = (
    record { link = refl; units = refl; is_running = refl; statuses = refl; peer = refl; diagnoses = refl; made = refl; real = refl },
    reply_answers
        (is_new (looked_if (is_kept station.options (operation_asked question.request)) question.header.activity question.header.sequence live.rest.calls))
        question (unanswered_status (operation_asked question.request) Busy) [],
  )

  asking_remains : (caller : Caller) (call : Call) (blocks : List ℕ) (operation : Operation) (asking : Result (Option Asking) CallFault)
      → Names link blocks ≡ false
      → Remains live (handled_asking station live caller call blocks operation asking)
  asking_remains caller call blocks operation (Ok None) other = own_remains caller call blocks operation other
  asking_remains caller call blocks operation (Ok (Some asking)) other =
      let displaced = displaced_by station.options.asks_own_first asking.0 live.rest.asked in
      question_remains asking.0 displaced (asks asking.0 asking.1 (behind_displaced displaced live.rest.asked))
  asking_remains caller call blocks operation (Err why) other =
      (record { link = refl; units = refl; is_running = refl; statuses = refl; peer = refl; diagnoses = refl; made = refl; real = refl }, (tt, tt))

  unanswered_remains : (caller : Caller) (call : Call) (blocks : List ℕ) (operation : Operation) → Names link blocks ≡ false
      → Remains live (handled_unanswered station live caller call blocks operation)
  unanswered_remains caller call blocks operation other =
      cond_both (is_repeat call.header.activity call.header.sequence live.rest.asked) _ _ (Remains live) (λ _. (stays_as_is live.rest, tt))
      (λ _. asking_remains caller call blocks operation (asking_of live.rest.real station.named (uuid_of live.rest.link) caller call blocks operation) other)

  looked_remains : (caller : Caller) (call : Call) (blocks : List ℕ) (operation : Operation) (found : Looked)
      → looked_if (is_kept station.options operation) call.header.activity call.header.sequence live.rest.calls ≡ found
      → Names link blocks ≡ false → Remains live (handled_looked station live caller call blocks operation found)
  looked_remains caller call blocks operation new is other = unanswered_remains caller call blocks operation other
  looked_remains caller call blocks operation (again frame) is other = (
    stays_as_is live.rest,
    (looked_if_stored (is_kept station.options operation) call.header.activity call.header.sequence live.rest.calls frame is, tt),
  )
  looked_remains caller call blocks operation old is other = tt

  blocks_remain : (caller : Caller) (call : Call) (operation : Operation) (blocks : Option (List ℕ)) → call.blocks ≡ blocks → IsUnnamed link call
      → Remains live (handled_blocks station live caller call operation blocks)
  blocks_remain caller call operation None is other = (record { link = refl; units = refl; is_running = refl; statuses = refl; peer = refl; diagnoses = refl; made = refl; real = refl }, (tt, tt))
  blocks_remain caller call operation (Some blocks) is other =
      looked_remains caller call blocks operation
      (looked_if (is_kept station.options operation) call.header.activity call.header.sequence live.rest.calls) refl (other blocks is)

  call_remains : (caller : Caller) (call : Call) (operation : Option Operation) → IsUnnamed link call → Remains live (handled_call station live caller call operation)
  call_remains caller call None other = tt
  call_remains caller call (Some operation) other = blocks_remain caller call operation call.blocks refl other

  response_remains : (response : Answered) → pointwise nat_eq response.header.activity link.request.ar.uuid ≡ false
      → Remains live (handled_response station live response)
  unfolding ready_answer
  response_remains response other =
      cond_both (is_in_exchange live.rest.link) _ _ (Remains live) (λ _.
      subst (λ (l : Option RelationState). Remains live (handled_plug_answer live response (plug_answer_in response l))) (sym exists)
      (subst (λ answer. Remains live (handled_plug_answer live response answer)) (sym (plug_unwanted response link other)) tt))
      (λ _. subst (λ (l : Option RelationState). Remains live (handled_answer station live (ready_answer response l))) (sym exists)
      (subst (λ answer. Remains live (handled_answer station live answer)) (sym unwanted) tt))
    where
      not_all : (a b c : Bool) → b ≡ false → a && (b && c) ≡ false
      not_all true false c is = refl
      not_all false false c is = refl
      not_all a true c is = absurd cc

      unwanted : ready_answer response (Some link) ≡ to_ready.NotWanted
      unwanted = cond-false (is_wanted response link) _ _ (not_all (is_awaiting link.phase) (pointwise nat_eq response.header.activity link.request.ar.uuid) _ other)

  request_remains : (asker : Mac) (asked : Service) (request : Asked) → request.service ≡ asked → (request.service ≡ service.Set → AllByRecursion IsQuiet (plan_of true request))
      → Remains live (handled_request station live asker asked request)
  request_remains asker service.Identify request is quiet =
      cond_both (matches station.identity live.values.running (alias_in live.rest.peer) request) _ _ (Remains live) (λ _. (stays_as_is live.rest, (tt, tt))) (λ _. tt)
  request_remains asker service.Get request is quiet = (stays_as_is live.rest, (tt, tt))
  request_remains asker service.Set request is quiet =
      subst (λ (b : Bool). AllByRecursion IsQuiet (plan_of b request)) (sym (ap is_some exists)) (quiet is)

  said_remains : (caller : Caller) (address : List ℕ) (said : Said) → IsHarmless link (Reported caller address said) → Remains live (handled_said station live caller said)
  said_remains caller address (Calls call) other = call_remains caller call (operation_of call.header.operation) other
  said_remains caller address (Responds response) other = response_remains response other
  said_remains caller address Garbled other = tt

  cyclic_remains : (source : Mac) (frame_id : ℕ) (body : List ℕ) → is_of_partner link.flow.cyclic.route source frame_id ≡ false
      → Remains live (handled_cyclic live source frame_id body)
  cyclic_remains source frame_id body other =
      subst (λ (r : Received). Remains live (handled_received live r (updated (receiving source frame_id body live.rest.link) live.rest.link)))
      (sym (subst (λ (l : Option RelationState). received_by source frame_id body l ≡ received.Foreign) (sym exists) foreign)) tt
    where
      foreign : received_as link.flow source frame_id body ≡ received.Foreign
      foreign = cond-false (is_of_partner link.flow.cyclic.route source frame_id) _ _ other

  alarm_remains : (source : Mac) (header : Header) (told : ToDevice) → is_alarm_of source header.destination header.source (Some link) ≡ false
      → Remains live (handled_alarm live source header told)
  alarm_remains source header told other =
      subst (Remains live) (sym (cond-false (is_alarm_of source header.destination header.source live.rest.link) _ _
      (subst (λ (l : Option RelationState). is_alarm_of source header.destination header.source l ≡ false) (sym exists) other))) tt

  low_remains : (source : Mac) (header : Header) (told : ToDevice) → is_alarm_of source header.destination header.source (Some link) ≡ false
      → Remains live (handled_low station live source header told)
  low_remains source header told other =
      subst (Remains live) (sym (cond-false (is_alarm_of source header.destination header.source live.rest.link) _ _
      (subst (λ (l : Option RelationState). is_alarm_of source header.destination header.source l ≡ false) (sym exists) other))) tt

  pub remains : (heard : Heard) → IsHarmless link heard → Remains live (handled station live heard)
  remains (Asks source request) other = request_remains source request.service request refl other
  remains (Resolves asker packet) other =
      cond_both (is_request packet.operation && is_running live.values.running packet.target.address) _ _ (Remains live) (λ _. (stays_as_is live.rest, (tt, tt))) (λ _. tt)
  remains (Reported caller address said) other =
      cond_both (is_running live.values.running address) _ _ (Remains live) (λ _. said_remains caller address said other) (λ _. tt)
  remains (Cyclic source frame_id body) other = cyclic_remains source frame_id body other
  remains (Alarms source header told) other = alarm_remains source header told other
  remains (LowReplies source header told) other =
      cond_both (has_sent_low live.rest.link) _ _ (Remains live) (λ _. low_remains source header told other) (λ _. alarm_remains source header told other)
  remains (LowConfirms source header told) other =
      cond_both (has_sent_low live.rest.link) _ _ (Remains live) (λ _. low_remains source header told other) (λ _. tt)
  remains Unreadable other = tt
  remains Elsewhere other = tt
  remains heard other = absurd other
