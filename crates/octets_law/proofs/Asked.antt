-- What is asked of the application after each step: what was asked before, a call that came with the step, or nothing.
use Rattle.std.proofs.Common.{◌≡◌, ◌==◌, ◌&&◌, ◌+◌, ℕ, Bool, true, false, length, List, Option, Some, None, Result, Ok, Err, refl, sym, ap, subst, ◌∙◌, if◌then◌else◌}
use Rattle.std.proofs.lemmas.Bool.{cond_both}
use Rattle.std.specs.Option.{option_map}
use Rattle.arrayvec.specs.ArrayVec.{ArrayVec}
use Rattle.pn_values.specs.declared.mac.Mac.{Mac}
use Rattle.pn_values.specs.declared.real.RealModule.{RealModule}
use Rattle.pn_values.specs.declared.set_item.BlockError.{BlockError}
use Rattle.module_diff.specs.declared.changes.Affected.{Affected}
use Rattle.module_diff.specs.declared.changes.RealChange.{RealChange}
use Rattle.module_diff.specs.Changes.{affected_by, plugged_with, pulled, slot_pulled}
use Rattle.frame_codec.specs.declared.udp.Caller.{Caller}
use Rattle.dcp_core.specs.declared.request.Service.{Service}
use Rattle.dcp_core.specs.declared.request.Service.TheVariants as service
use Rattle.dcp_core.specs.Identify.{matches}
use Rattle.dcp_core.specs.Request.{Asked}
use Rattle.dcp_core.specs.Set.{plan_of}
use Rattle.rpc_core.specs.Cache.{Reported as Looked, again, new, old}
use Rattle.rpc_core.specs.Call.{Asked as Called}
use Rattle.rpc_core.specs.Response.{Answered}
use Rattle.records.specs.declared.status.call_fault.CallFault.{CallFault}
use Rattle.records.specs.declared.status.operation.Operation.{Operation}
use Rattle.records.specs.declared.status.operation.Operation.TheVariants.{Connect, Control, Read, ReadImplicit, Release, Write}
use Rattle.records.specs.status.Operation.{operation_of}
use Rattle.record_blocks.specs.declared.write_record.IodWriteReq.{IodWriteReq}
use Rattle.records.specs.declared.writes.write.Effect.{Effect}
use Rattle.records.specs.declared.writes.write.Effect.TheVariants.{Keeps, Stores}
use Rattle.records.specs.declared.writes.writing.Writing.{Writing}
use Rattle.records.specs.declared.writes.writing.Writing.TheVariants.{Each, One}
use Rattle.records.specs.writes.Asked.{writing_of}
use Rattle.diagnosis.specs.Existing.{changed}
use Rattle.diagnosis.specs.declared.diagnosis.Change.{Change}
use Rattle.diagnosis.specs.declared.diagnosis.Diagnosis.{Diagnosis}
use Rattle.pn_alarms.specs.declared.device.PduFate.{PduFate}
use Rattle.pn_alarms.specs.declared.device.PduFate.TheVariants as fate
use Rattle.pn_alarms.specs.declared.pdu.Header.{Header}
use Rattle.pn_alarms.specs.Message.{ToDevice}
use Rattle.cyclic_data.specs.declared.exchange.received.Received.{Received}
use Rattle.cyclic_data.specs.declared.exchange.received.Received.TheVariants as received
use Rattle.asked_records.specs.Answers.{Gives, fault_of, gives_done, gives_octets, gives_refusal, judged, judged_with, question_unless}
use Rattle.asked_records.specs.Asked.{AskedState, Standing, asks, asks_beside, behind_displaced, displaced_by, dropped_at, is_affected, is_of, is_over, is_repeat, limit, not_asked, question_in, settled, ticked}
use Rattle.asked_records.specs.declared.answering.AnswerFault.{AnswerFault}
use Rattle.asked_records.specs.declared.answering.AnswerFault.TheVariants as fault
use Rattle.asked_records.specs.declared.question.Question.{Question}
use Rattle.relations.specs.declared.exchange.statuses.InputStatus.{InputStatus}
use Rattle.relations.specs.declared.hearing.ReadyAnswer.{ReadyAnswer}
use Rattle.relations.specs.declared.hearing.ReadyAnswer.TheVariants as to_ready
use Rattle.relations.specs.declared.plugging.PlugAnswer.{PlugAnswer}
use Rattle.relations.specs.declared.plugging.PlugAnswer.TheVariants as to_plug
use Rattle.relations.specs.exchange.Flow.{Flow}
use Rattle.relations.specs.exchange.Statuses.{statuses_at}
use Rattle.relations.specs.Calls.{release_answer}
use Rattle.relations.specs.Diagnosed.{has_sent_low, heard_low, hearing_low}
use Rattle.relations.specs.Exchanged.{given_to, heard_by, hearing, raised_to, received_by, receiving}
use Rattle.relations.specs.Phases.{updated}
use Rattle.relations.specs.Plugging.{is_crowded, is_plug_control, is_readied_in, plug_answer_in}
use Rattle.relations.specs.Ready.{answer_of as ready_answer}
use Rattle.relations.specs.RelationState.{RelationState, is_alarm_of, is_in_exchange, is_preparing, phase_of, uuid_of}
use Rattle.relations.specs.Timers.{due_of}
use Rattle.settings_journal.specs.settings_store.Machine.{Outcome, carried}
use Rattle.device_frames.specs.declared.local.Local.{Local}
use Rattle.device_frames.specs.declared.local.Local.TheVariants as local
use Rattle.device_frames.specs.Heard.{Heard, Ticks, Unreadable, Elsewhere, Asks, Resolves, Reported, Cyclic, Alarms, LowReplies, LowConfirms, Met, Applied, Said, Calls, Responds, Garbled}
use Rattle.device_core.specs.Asking.{Asking, asked_later, asking_of, ended_by, is_full, is_kept, left_asked, looked_if, released_by}
use Rattle.device_core.specs.Handled.{Handled, change_of, handled, handled_alarm, handled_answer, handled_asking, handled_blocks, handled_call, handled_change, handled_effect, handled_input, handled_judged, handled_local, handled_looked, handled_low, handled_low_pdu, handled_modules, handled_notice, handled_own, handled_pdu, handled_plug_answer, handled_question, handled_received, handled_request, handled_response, handled_said, handled_unanswered, handled_write, is_request, is_running, kept_status, may_be_diagnosed, unit_sent}
use Rattle.device_core.specs.Machine.{farewell_at, finished, handled_step, heard_step, items_in, resets}
use Rattle.device_core.specs.Modules.{outside, plug_of, pull_of, slot_pull_of}
use Rattle.device_core.specs.State.{Live, Station, alias_in}

pub same_question : (one other : Question) → Some one ≡ Some other → one ≡ other
same_question one other is = cc

-- The call that an answer goes to is the one that is asked.
pub judged_goes : (number last : ℕ) (given : Gives) (standing : Option Standing) (question : Question) → judged_with last number given standing ≡ Ok question
    → option_map (λ one. one.question) standing ≡ Some question
judged_goes number last given None question = λ is. absurd cc
judged_goes number last given (Some standing) question = by_number (number == last)
  where
    by_fault : (found : Option AnswerFault) → question_unless standing.question found ≡ Ok question
        → ◌≡◌ {A = Option Question} (Some standing.question) (Some question)
    by_fault None is = cc
    by_fault (Some it) is = absurd cc

    by_number : (same : Bool) → (if same then question_unless standing.question (fault_of standing.question given) else Err fault.NotAsked) ≡ Ok question
        → ◌≡◌ {A = Option Question} (Some standing.question) (Some question)
    by_number true is = by_fault (fault_of standing.question given) is
    by_number false is = absurd cc

module _ (R : Question → Type 0) where
  -- What is asked, if anything is, is such a call.
  abbrev pub IsSuch : AskedState → Type 0
  IsSuch state = (question : Question) → question_in state ≡ Some question → R question

  no_question : (question : Question) → None ≡ Some question → R question
  no_question question is = absurd cc

  pub settled_such : (state : AskedState) → IsSuch (settled state)
  settled_such state = λ question is. no_question question is

  pub unasked_such : IsSuch not_asked
  unasked_such = λ question is. no_question question is

  -- A relation ends, submodules are pulled, a unit passes.
  pub left_such : (uuid : Option (List ℕ)) (state : AskedState) → IsSuch state → IsSuch (left_asked uuid state)
  left_such None state such = such
  left_such (Some uuid) state such = cond_both (is_of uuid state) _ _ IsSuch (λ _. settled_such state) (λ _. such)

  pub dropped_such : (affected : Affected) (state : AskedState) → IsSuch state → IsSuch (dropped_at affected state)
  dropped_such affected state such = cond_both (is_affected affected state) _ _ IsSuch (λ _. settled_such state) (λ _. such)

  ticked_such : (state : AskedState) → IsSuch state → IsSuch (ticked state)
  ticked_such state such = by_standing state.standing refl
    where
      by_standing : (standing : Option Standing) → state.standing ≡ standing → IsSuch (ticked state)
      by_standing None is = subst (λ s. IsSuch (ticked (record { standing = s; last = state.last }))) (sym is) (λ question none. no_question question none)
      by_standing (Some one) is =
          subst (λ s. IsSuch (ticked (record { standing = s; last = state.last }))) (sym is)
          (cond_both (one.waited + 1 == limit) _ _ (λ s. IsSuch (record { standing = s; last = state.last })) (λ _ question none. no_question question none)
          (λ _ question some. such question (ap (λ (s : Option Standing). question_in (record { standing = s; last = state.last })) is ∙ some)))

  pub later_such : (count : ℕ) (state : AskedState) → IsSuch state → IsSuch (asked_later count state)
  later_such count state such = cond_both (is_over state && is_full count) _ _ IsSuch (λ _. such) (λ _. ticked_such state such)

  -- A call is asked if no other one is.
  abbrev IsSuchIf : AskedState → Option AskedState → Type 0
  IsSuchIf state None = Unit {0}
  IsSuchIf state (Some later) = IsSuch later

  asks_such : (question : Question) (octets : List ℕ) (state : AskedState) (standing : Option Standing) → R question
      → IsSuchIf state (asks_beside question octets state standing)
  asks_such question octets state None such = λ other is. subst R (same_question question other is) such
  asks_such question octets state (Some one) such = tt

  module _ (station : Station) (live : Live) (was : IsSuch live.rest.asked) where
    -- What is asked after an outcome is such a call.
    abbrev Stays : Handled → Type 0
    Stays what = (answers : List BlockError) → IsSuch (finished station.identity live.rest what answers).rest.asked

    same : (answers : List BlockError) → IsSuch live.rest.asked
    same answers = was

    -- ---- calls

    module _ (caller : Caller) (call : Called) (blocks : List ℕ) where
      -- What the call asks, if it asks.
      abbrev IsFresh : Operation → Type 0
      IsFresh operation =
          (asking : Asking) → asking_of live.rest.real station.named (uuid_of live.rest.link) caller call blocks operation ≡ Ok (Some asking) → R asking.0

      effect_stays : (header : IodWriteReq) (effect : Effect) → Stays (handled_effect station live caller call header effect)
      effect_stays header (Stores value) = same
      effect_stays header (Keeps parameter) = same

      write_stays : (writing : Result Writing CallFault) → Stays (handled_write station live caller call writing)
      write_stays (Ok (One write)) = effect_stays write.request write.effect
      write_stays (Ok (Each header entries)) = same
      write_stays (Err why) = same

      own_stays : (operation : Operation) → Stays (handled_own station live caller call blocks operation)
      own_stays Connect = same
      own_stays Release = λ answers. left_such (released_by (release_answer live.rest.link blocks) (uuid_of live.rest.link)) live.rest.asked was
      own_stays Read = same
      own_stays Write = write_stays (writing_of (uuid_of live.rest.link) live.rest.real blocks)
      own_stays Control = cond_both (is_plug_control blocks live.rest.link) _ _ Stays (λ _. same) (λ _. same)
      own_stays ReadImplicit = same

      question_stays : (question : Question) (displaced : Option Question) (asked : Option AskedState) → IsSuchIf live.rest.asked asked
          → Stays (handled_question station live question displaced asked)
      question_stays question displaced (Some asked) such = λ answers. such
      question_stays question displaced None such = same

      asking_stays : (operation : Operation) (asking : Result (Option Asking) CallFault)
          → asking_of live.rest.real station.named (uuid_of live.rest.link) caller call blocks operation ≡ asking → IsFresh operation
          → Stays (handled_asking station live caller call blocks operation asking)
      asking_stays operation (Ok None) is fresh = own_stays operation
      asking_stays operation (Ok (Some asking)) is fresh =
          let displaced = displaced_by station.options.asks_own_first asking.0 live.rest.asked in
          let state = behind_displaced displaced live.rest.asked in
          question_stays asking.0 displaced (asks asking.0 asking.1 state) (asks_such asking.0 asking.1 state state.standing (fresh asking is))
      asking_stays operation (Err why) is fresh = same

      unanswered_stays : (operation : Operation) → IsFresh operation → Stays (handled_unanswered station live caller call blocks operation)
      unanswered_stays operation fresh =
          cond_both (is_repeat call.header.activity call.header.sequence live.rest.asked) _ _ Stays (λ _. same)
          (λ _. asking_stays operation (asking_of live.rest.real station.named (uuid_of live.rest.link) caller call blocks operation) refl fresh)

      looked_stays : (operation : Operation) (found : Looked) → IsFresh operation → Stays (handled_looked station live caller call blocks operation found)
      looked_stays operation new fresh = unanswered_stays operation fresh
      looked_stays operation (again frame) fresh = same
      looked_stays operation old fresh = same

    -- What a call that is heard asks.
    abbrev FreshCall : Caller → Called → Type 0
    FreshCall caller call = (blocks : List ℕ) (operation : Operation) → call.blocks ≡ Some blocks → operation_of call.header.operation ≡ Some operation
        → IsFresh caller call blocks operation

    blocks_stays : (caller : Caller) (call : Called) (operation : Operation) (blocks : Option (List ℕ)) → call.blocks ≡ blocks
        → operation_of call.header.operation ≡ Some operation → FreshCall caller call → Stays (handled_blocks station live caller call operation blocks)
    blocks_stays caller call operation None there is fresh = same
    blocks_stays caller call operation (Some blocks) there is fresh =
        looked_stays caller call blocks operation
        (looked_if (is_kept station.options operation) call.header.activity call.header.sequence live.rest.calls) (fresh blocks operation there is)

    call_stays : (caller : Caller) (call : Called) (operation : Option Operation) → operation_of call.header.operation ≡ operation → FreshCall caller call
        → Stays (handled_call station live caller call operation)
    call_stays caller call None is fresh = same
    call_stays caller call (Some operation) is fresh = blocks_stays caller call operation call.blocks refl is fresh

    -- ---- all else

    request_stays : (asker : Mac) (asked : Service) (request : Asked) → Stays (handled_request station live asker asked request)
    request_stays asker service.Identify request =
        cond_both (matches station.identity live.values.running (alias_in live.rest.peer) request) _ _ Stays (λ _. same) (λ _. same)
    request_stays asker service.Get request = same
    request_stays asker service.Set request = λ answers.
        left_such (ended_by (farewell_at (resets (plan_of _ request) answers) live.rest.link)) live.rest.asked was

    answer_stays : (answer : ReadyAnswer) → Stays (handled_answer station live answer)
    answer_stays to_ready.NotWanted = same
    answer_stays to_ready.Garbled = same
    answer_stays to_ready.Confirmed = same
    answer_stays (to_ready.Refused farewell) = λ answers. left_such (Some farewell.uuid) live.rest.asked was

    plug_answer_stays : (response : Answered) (answer : PlugAnswer) → Stays (handled_plug_answer live response answer)
    plug_answer_stays response to_plug.NotWanted = same
    plug_answer_stays response to_plug.Garbled = same
    plug_answer_stays response to_plug.Confirmed = same
    plug_answer_stays response to_plug.Refused = same

    response_stays : (response : Answered) → Stays (handled_response station live response)
    response_stays response =
        cond_both (is_in_exchange live.rest.link) _ _ Stays (λ _. plug_answer_stays response (plug_answer_in response live.rest.link))
        (λ _. answer_stays (ready_answer response live.rest.link))

    -- What a call among what is said asks.
    abbrev FreshIn : Caller → Said → Type 0
    FreshIn caller (Calls call) = FreshCall caller call
    FreshIn caller said = Unit {0}

    said_stays : (caller : Caller) (said : Said) → FreshIn caller said → Stays (handled_said station live caller said)
    said_stays caller (Calls call) fresh = call_stays caller call (operation_of call.header.operation) refl fresh
    said_stays caller (Responds response) fresh = response_stays response
    said_stays caller Garbled fresh = same

    pdu_stays : (came : PduFate) (link : Option RelationState) → Stays (handled_pdu live came link)
    pdu_stays (fate.Data taken) link = same
    pdu_stays fate.Done link = same
    pdu_stays fate.Ignored link = same
    pdu_stays (fate.Aborted status) link = λ answers. left_such (uuid_of live.rest.link) live.rest.asked was

    alarm_stays : (source : Mac) (header : Header) (message : ToDevice) → Stays (handled_alarm live source header message)
    alarm_stays source header message =
        cond_both (is_alarm_of source header.destination header.source live.rest.link) _ _ Stays
        (λ _. pdu_stays (heard_by message live.rest.link) (updated (hearing message live.rest.link) live.rest.link)) (λ _. same)

    low_pdu_stays : (came : PduFate) (link : Option RelationState) → Stays (handled_low_pdu station live came link)
    low_pdu_stays (fate.Data taken) link = same
    low_pdu_stays fate.Done link = same
    low_pdu_stays fate.Ignored link = same
    low_pdu_stays (fate.Aborted status) link = same

    low_stays : (source : Mac) (header : Header) (message : ToDevice) → Stays (handled_low station live source header message)
    low_stays source header message =
        cond_both (is_alarm_of source header.destination header.source live.rest.link) _ _ Stays
        (λ _. low_pdu_stays (heard_low message live.rest.link) (updated (hearing_low message live.rest.link) live.rest.link)) (λ _. same)

    received_stays : (came : Received) (link : Option RelationState) → Stays (handled_received live came link)
    received_stays received.Foreign link = same
    received_stays received.Short link = same
    received_stays received.Stale link = same
    received_stays received.Taken link = same

    -- ---- what the application says

    input_stays : (flow : Option Flow) → Stays (handled_input live flow)
    input_stays (Some flow) = same
    input_stays None = same

    notice_stays : (flow : Option Flow) → Stays (handled_notice live flow)
    notice_stays (Some flow) = same
    notice_stays None = same

    status_stays : (slot subslot : ℕ) (is_good : Bool) (statuses : Option (List InputStatus)) → Stays (kept_status live slot subslot is_good statuses)
    status_stays slot subslot is_good (Some statuses) = same
    status_stays slot subslot is_good None = same

    change_stays : (change : Change) (diagnoses : Option (List Diagnosis)) → Stays (handled_change station live change diagnoses)
    change_stays change (Some diagnoses) = same
    change_stays change None = same

    modules_stay : (made : RealChange) (real : Option (List RealModule)) → Stays (handled_modules live made real)
    modules_stay made None = same
    modules_stay made (Some real) =
        cond_both (is_crowded (affected_by made) live.rest.link) _ _ Stays (λ _. same) (λ _ answers. dropped_such (affected_by made) live.rest.asked was)

    judged_stays : (given : Gives) (judged : Result Question AnswerFault) → Stays (handled_judged station live given judged)
    judged_stays given (Ok question) = λ answers. settled_such live.rest.asked
    judged_stays given (Err why) = same

    local_stays : (said : Local (ArrayVec ℕ)) → Stays (handled_local station live said)
    local_stays (local.Input slot subslot value) = input_stays (given_to slot subslot value.items live.rest.link)
    local_stays (local.Alarm slot subslot octets) = notice_stays (raised_to live.rest.real.modules.items slot subslot octets.items live.rest.link)
    local_stays (local.Status slot subslot is_good) =
        status_stays slot subslot is_good
        (statuses_at live.rest.real.modules.items (record { slot = slot; subslot = subslot; is_good = is_good }) live.rest.statuses)
    local_stays (local.Diagnosis slot subslot channel error appears) =
        let change : Change = change_of slot subslot channel error appears in
        cond_both (may_be_diagnosed station live change) _ _ Stays (λ _. change_stays change (changed change live.rest.diagnoses)) (λ _. same)
    local_stays (local.Pull slot subslot) =
        let real = live.rest.real.modules.items in modules_stay (pull_of real slot subslot) (outside slot (pulled slot subslot real))
    local_stays (local.PullModule slot) =
        let real = live.rest.real.modules.items in modules_stay (slot_pull_of real slot) (outside slot (slot_pulled slot real))
    local_stays (local.Plug slot ident part) = modules_stay (plug_of slot ident part) (plugged_with slot ident part live.rest.real.modules.items)
    local_stays (local.ReadyAt slot subslot) = cond_both (is_readied_in slot subslot live.rest.link) _ _ Stays (λ _. same) (λ _. same)
    local_stays local.Ready = cond_both (is_preparing (phase_of live.rest.link)) _ _ Stays (λ _. same) (λ _. same)
    local_stays (local.ProviderState is_running) = same
    local_stays (local.Answer number octets) = judged_stays (gives_octets octets.items) (judged number (gives_octets octets.items) live.rest.asked)
    local_stays (local.Written number) = judged_stays gives_done (judged number gives_done live.rest.asked)
    local_stays (local.Refuse number code1 code2) = judged_stays (gives_refusal code1 code2) (judged number (gives_refusal code1 code2) live.rest.asked)

    -- ---- any event

    abbrev FreshHeard : Heard → Type 0
    FreshHeard (Reported caller address said) = FreshIn caller said
    FreshHeard heard = Unit {0}

    handled_stays : (heard : Heard) → FreshHeard heard → Stays (handled station live heard)
    handled_stays (Asks asker request) fresh = request_stays asker request.service request
    handled_stays (Resolves asker packet) fresh =
        cond_both (is_request packet.operation && is_running live.values.running packet.target.address) _ _ Stays (λ _. same) (λ _. same)
    handled_stays (Reported caller address said) fresh =
        cond_both (is_running live.values.running address) _ _ Stays (λ _. said_stays caller said fresh) (λ _. same)
    handled_stays (Alarms source header message) fresh = alarm_stays source header message
    handled_stays (LowReplies source header message) fresh =
        cond_both (has_sent_low live.rest.link) _ _ Stays (λ _. low_stays source header message) (λ _. alarm_stays source header message)
    handled_stays (LowConfirms source header message) fresh =
        cond_both (has_sent_low live.rest.link) _ _ Stays (λ _. low_stays source header message) (λ _. same)
    handled_stays (Cyclic source frame_id body) fresh =
        received_stays (received_by source frame_id body live.rest.link) (updated (receiving source frame_id body live.rest.link) live.rest.link)
    handled_stays (Met peer) fresh = same
    handled_stays (Applied said) fresh = local_stays said
    handled_stays Ticks fresh = λ answers.
        later_such (length (unit_sent live)) (left_asked (ended_by (due_of live.rest.link).farewell) live.rest.asked)
        (left_such (ended_by (due_of live.rest.link).farewell) live.rest.asked was)
    handled_stays Unreadable fresh = same
    handled_stays Elsewhere fresh = same

  -- What is asked after a step is such a call, if what was asked before is, and a call that came with the step and is asked.
  pub step_such : (outcomes : List Outcome) (station : Station) (live : Live) (heard : Heard)
      → ((caller : Caller) (address : List ℕ) (call : Called) (blocks : List ℕ) (operation : Operation) (asking : Asking)
      → heard ≡ Reported caller address (Calls call)
      → call.blocks ≡ Some blocks → operation_of call.header.operation ≡ Some operation
      → asking_of live.rest.real station.named (uuid_of live.rest.link) caller call blocks operation ≡ Ok (Some asking) → R asking.0)
      → IsSuch live.rest.asked → IsSuch (heard_step outcomes station live heard).live.rest.asked
  unfolding heard_step handled_step
  step_such outcomes station live heard fresh was =
      handled_stays station live was heard (by_heard heard refl) (carried outcomes live.values (items_in (handled station live heard))).answers
    where
      by_heard : (one : Heard) → heard ≡ one → FreshHeard station live was one
      by_heard (Reported caller address (Calls call)) is =
          λ blocks operation there which asking asks. fresh caller address call blocks operation asking is there which asks
      by_heard (Reported caller address (Responds response)) is = tt
      by_heard (Reported caller address Garbled) is = tt
      by_heard (Asks asker request) is = tt
      by_heard (Resolves asker packet) is = tt
      by_heard (Alarms source header message) is = tt
      by_heard (LowReplies source header message) is = tt
      by_heard (LowConfirms source header message) is = tt
      by_heard (Cyclic source frame_id body) is = tt
      by_heard (Met peer) is = tt
      by_heard (Applied said) is = tt
      by_heard Ticks is = tt
      by_heard Unreadable is = tt
      by_heard Elsewhere is = tt
