-- Each event after which a controller has ended is that of its cause, and what the device is then sent is as the cause says.
use Rattle.std.proofs.Common.{◌≡◌, ◌≢◌, ◌⊎◌, inl, inr, ◌+◌, ◌==◌, ◌&&◌, ℕ, Bool, true, false, List, [], ◌∷◌, length, map, Option, Some, None, refl, sym, ap, subst, ◌∙◌}
use Rattle.std.specs.Prelude.{if◌then◌else◌, nat_eq, nat_lt}
use Rattle.std.specs.Cmp.Lexicographic.{other_text, pointwise, same_text}
use Rattle.std.proofs.lemmas.Bool.{and_parts, eqb-true, eq-eqb, false≢true, true≢false}
use Rattle.pn_values.specs.declared.mac.Mac.{Mac}
use Rattle.frame_codec.specs.declared.udp.Caller.{Caller}
use Rattle.dcp_core.specs.declared.kind.Kind.TheVariants.{NameOfStation, DeviceId}
use Rattle.dcp_core.specs.declared.request.Service.{Service}
use Rattle.dcp_core.specs.declared.request.Service.TheVariants.{Get, Set, Identify}
use Rattle.dcp_core.specs.Response.{Answered}
use Rattle.dcp_core.specs.Answered.{is_agreed, value_among}
use Rattle.rpc_core.specs.declared.header.CallHeader.{CallHeader}
use Rattle.rpc_core.specs.declared.response.Status.{Status as Code}
use Rattle.rpc_core.specs.Call.{Asked as Call}
use Rattle.rpc_core.specs.Response.{Answered as Response, is_done}
use Rattle.connect_blocks.specs.declared.control.ControlBlock.{ControlBlock}
use Rattle.connect_blocks.specs.declared.plug_control.PlugControlBlock.{PlugControlBlock}
use Rattle.block_codec.specs.Block.{block_of}
use Rattle.record_blocks.specs.declared.alarm_notification.AlarmNotification.{AlarmNotification}
use Rattle.pn_alarms.specs.declared.abort.Abort.{Abort}
use Rattle.pn_alarms.specs.declared.abort.Abort.TheVariants as reason
use Rattle.pn_alarms.specs.declared.message.Notice.TheVariants as notice
use Rattle.pn_alarms.specs.declared.pdu.Header.{Header}
use Rattle.pn_alarms.specs.declared.receiver.Taken.{Taken}
use Rattle.pn_alarms.specs.declared.receiver.Taken.TheVariants.{New, Again, Refused}
use Rattle.pn_alarms.specs.declared.repeats.Due.{Due}
use Rattle.pn_alarms.specs.declared.repeats.Due.TheVariants as is_due
use Rattle.pn_alarms.specs.Controller.{confirmed, with_ack, with_data}
use Rattle.pn_alarms.specs.Ends.{ControllerEnd}
use Rattle.pn_alarms.specs.Receiver.{taken_as}
use Rattle.pn_alarms.specs.Sending.{due, either_due}
use Rattle.diagnosis.specs.declared.reports.priority.Priority.{Priority}
use Rattle.diagnosis.specs.declared.reports.priority.Priority.TheVariants.{High, Low}
use Rattle.diagnosis.specs.declared.reports.report.Report.{Report}
use Rattle.diagnosis.specs.reports.Message.{ToController}
use Rattle.cyclic_data.specs.exchange.Received.{behind_frame}
use Rattle.cyclic_data.specs.exchange.Units.{ending_by, is_silent, tick_by}
use Rattle.connects.specs.declared.answers.connect.Found.{Found}
use Rattle.connects.specs.answers.Connect.{Chosen, chosen_of, found_in, is_whole, nothing}
use Rattle.plan_places.specs.Places.{Told}
use Rattle.controller_messages.specs.declared.plug_request.PlugRequest.{PlugRequest}
use Rattle.controller_messages.specs.declared.record_request.RecordRequest.{RecordRequest}
use Rattle.controller_messages.specs.declared.record_request.RecordService.{RecordService}
use Rattle.controller_messages.specs.declared.record_request.RecordService.TheVariants as service
use Rattle.controller_messages.specs.declared.refusal.Refusal.{Refusal}
use Rattle.controller_messages.specs.declared.setup.Setup.{Setup}
use Rattle.controller_messages.specs.declared.request.Request.{Request}
use Rattle.controller_messages.specs.declared.request.Request.TheVariants as asks
use Rattle.controller_messages.specs.Access.{Accessing, is_rejected, is_reply, record_in}
use Rattle.controller_messages.specs.Heard.{Heard, Nothing, Answers, Responds, Refuses, Calls, Alarms}
use Rattle.controller_messages.specs.Heard.{Cyclic as Comes}
use Rattle.controller_messages.specs.PlugRequests.{is_plug_answer, is_plug_ready, plug_ready_in}
use Rattle.controller_messages.specs.RecordRequests.{most_record_octets}
use Rattle.controller_messages.specs.Requests.{first_of, header_of, writing_from, writing_after}
use Rattle.controller_messages.specs.Sent.{Sent, bytes_of}
use Rattle.controller_core.specs.declared.start_up.outcomes.Outcomes.{Outcomes}
use Rattle.controller_core.specs.declared.start_up.outcomes.Outcomes.TheVariants.{AllWritten, Unreadable}
use Rattle.controller_core.specs.declared.start_up.outcomes.Outcomes.TheVariants.{Refused as Denied}
use Rattle.controller_core.specs.declared.stored.event.Event.{Event}
use Rattle.controller_core.specs.declared.stored.event.Event.TheVariants.{Frame, Tick, Give, Status, Read, Write, Stop}
use Rattle.controller_core.specs.declared.stored.state.Cause.{Cause}
use Rattle.controller_core.specs.declared.stored.state.Cause.TheVariants as why
use Rattle.controller_core.specs.declared.stored.state.State.{State}
use Rattle.controller_core.specs.declared.stored.state.State.TheVariants.{Looking, Addressing, Connecting, Writing, Ending, Waiting, Exchanging, Ended}
use Rattle.controller_core.specs.start_up.Answers.{ident_bytes, is_addressed, is_answer, is_found, is_held, is_identify, is_ready, is_refused, is_reported, is_right, is_set_answer, is_state_conflict, ready_in, is_tried}
use Rattle.controller_core.specs.start_up.Outcomes.{is_all_written, outcomes_of}
use Rattle.controller_core.specs.stored.Alarms.{ack_of, is_alarm, kept_alarm}
use Rattle.controller_core.specs.stored.State.{Controlling, Live, is_limited, phase_for}
use Rattle.controller_core.specs.stored.Cause.{cause_of}
use Rattle.controller_core.specs.Machine.{Turn, acked_under, acking, after_turn, after_write, alarmed, answered, asking, asks_next, behind_data, beside, brings, brought, called, can_begin, can_request, connected, decided, done, end_of, ended_by, exchange_later, failed, flow_later, flowed, found as is_found_by, fresh_with, gone_on, granted, is_again, is_plug_awaited, is_spent, keeping, later, noted, noticed, over, past_record, placed, plug_called, plug_replied, quit, readied, refused, refused_beside, refused_by, rejected, related_by, released, replied, replied_by, requested, requests_of, responded, standing, stays, step_of, stopped, taken, ticked, turn_of, turned, undone, where_due, with_end, writing, refused_end, refused_write, trying}
use Rattle.controller_core.specs.start_up.Requests.{behind_write, write_after}
use Rattle.end_laws.specs.turns.Belongs.{call_by, waiting_by}
use Rattle.end_laws.specs.turns.Beside.{MayFollow, flow_begun}
use Rattle.end_laws.specs.turns.Causes.{EachCauseEnds, EachEndHasItsCause, EachRunHasItsCause, EndsBy, HasCause, IsNegative, IsNoRefusal, IsOfTheCall, IsOfWrongDevice, IsOutOfTime, IsRefusal, IsReleaseAlone, IsReleaseFromConnect, IsToldAs, WasEnded, has_ended}
use Rattle.end_laws.specs.turns.Runs.{IsReached, behind_all}
use Rattle.end_laws.specs.turns.Turns.{Came, Hears, Passes, Gets, GetsStatus, AsksRead, AsksWrite, Halts, came_by, turn_for}
use Rattle.end_laws.proofs.TurnsBeside.{begins, begun_beside, flows, follows, gone_is, rejected_now, rejected_step, replied_step, unit_begun}
use Rattle.end_laws.proofs.TurnsEnded.{keeps_its_cause}
use Rattle.end_laws.proofs.TurnsWhole.{reached_on}

-- ---- what is read

-- No state that is not an end is the end for a cause.
not_ended : (state : State) (cause : Cause) → has_ended state ≡ false → state ≡ Ended cause → ⊥
not_ended state cause going e = false≢true (sym going ∙ ap (λ (s : State). has_ended s) e)

same_cause : (mine cause : Cause) → Ended mine ≡ Ended cause → mine ≡ cause
same_cause mine cause e = cc

some_same : (value wanted : List ℕ) → Some value ≡ Some wanted → value ≡ wanted
some_same value wanted e = cc

none_some : (wanted : List ℕ) → None ≡ Some wanted → ⊥
none_some wanted e = cc

reported_is : (wanted : List ℕ) (value : Option (List ℕ)) → is_reported wanted value ≡ true → value ≡ Some wanted
reported_is wanted (Some value) e = ap (λ (v : List ℕ). Some v) (same_text value wanted (sym e))
reported_is wanted None e = absurd (false≢true e)

unreported_is : (wanted : List ℕ) (value : Option (List ℕ)) → is_reported wanted value ≡ false → value ≢ Some wanted
unreported_is wanted (Some value) e = λ same. other_text value wanted (sym e) (some_same value wanted same)
unreported_is wanted None e = λ same. none_some wanted same

own_text : (text : List ℕ) → pointwise nat_eq text text ≡ true
own_text text = by_test (pointwise nat_eq text text) refl
  where
    by_test : (b : Bool) → pointwise nat_eq text text ≡ b → b ≡ true
    by_test true e = refl
    by_test false e = absurd (other_text text text (sym e) refl)

identify_is : (service : Service) → is_identify service ≡ true → service ≡ Identify
identify_is Identify e = refl
identify_is Get e = absurd (false≢true e)
identify_is Set e = absurd (false≢true e)

module _ (setup : Setup) (live : Live) (going : has_ended live.phase ≡ false) where
  -- If a turn ends the controller, it is for the cause of what comes, and the device learns of it.
  record IsFor (came : Came) (turn : Turn) : Type 0 where
    caused : (cause : Cause) → turn.live.phase ≡ Ended cause → HasCause setup live came cause × IsToldAs setup live came cause (map (bytes_of setup) turn.sent)

  moves : {came : Came} (turn : Turn) → has_ended turn.live.phase ≡ false → IsFor came turn
  moves turn goes = record { caused = λ cause e. absurd (not_ended turn.live.phase cause goes e) }

  keeps : {came : Came} (turn : Turn) → turn.live.phase ≡ live.phase → IsFor came turn
  keeps turn same = moves turn (ap (λ (s : State). has_ended s) same ∙ going)

  rests : {came : Came} → IsFor came (stays live)
  rests = keeps (stays live) refl

  ends : {came : Came} (mine : Cause) (next : Live) (sent : List Sent) → HasCause setup live came mine → IsToldAs setup live came mine (map (bytes_of setup) sent)
      → IsFor came (record { live = over mine next; sent = sent })
  ends {came = came} mine next sent is told = record {
    caused = λ cause e. subst (λ (c : Cause). HasCause setup live came c × IsToldAs setup live came c (map (bytes_of setup) sent)) (same_cause mine cause e) (is, told);
  }

  releases : {came : Came} (mine : Cause) (next : Live) → next.device ≡ live.device → HasCause setup live came mine
      → (IsReleaseAlone setup live (map (bytes_of setup) (released setup mine next).sent) → IsToldAs setup live came mine (map (bytes_of setup) (released setup mine next).sent))
      → IsFor came (released setup mine next)
  releases {came = came} mine next same is told = record {
    caused = λ cause e.
        subst (λ (c : Cause). HasCause setup live came c × IsToldAs setup live came c (map (bytes_of setup) (released setup mine next).sent)) (same_cause mine cause e)
        (is, told (_, ap (λ (device : Mac). map (bytes_of setup) (released setup mine (record next { device = device })).sent) same));
  }

  by_cases : {came : Came} (is : Bool) {x y : Turn} → (is ≡ true → IsFor came x) → (is ≡ false → IsFor came y) → IsFor came (if is then x else y)
  by_cases true one other = one refl
  by_cases false one other = other refl

  either : {came : Came} (is : Bool) {x y : Turn} → IsFor came x → IsFor came y → IsFor came (if is then x else y)
  either true one other = one
  either false one other = other

  -- The turn of a place begins only while data is exchanged.
  follows_for : {came : Came} (turn after : Turn) → MayFollow setup turn after → IsFor came turn → IsFor came after
  follows_for {came = came} turn after (inl e) is = subst (λ (t : Turn). IsFor came t) (sym e) is
  follows_for turn after (inr followed) is =
      moves after (ap (λ (s : State). has_ended s) (ap (λ (l : Live). l.phase) followed.begun.beside ∙ followed.begun.phase))

  after_for : {came : Came} (turn : Turn) → IsFor came turn → IsFor came (after_turn setup (can_begin live) turn)
  after_for turn is = follows_for turn (after_turn setup (can_begin live) turn) (follows setup (can_begin live) turn) is

  -- ---- DCP answers

  wrong : (source : Mac) (answer : Answered) → live.phase ≡ Looking → is_found setup.plan answer ≡ true → is_right setup.plan answer ≡ false
      → IsOfWrongDevice setup live (Hears (Answers source answer))
  wrong source answer looks found other =
      let one = and_parts (is_identify answer.service) _ found in
      let two = and_parts answer.is_supported _ one.1 in
      let three = and_parts (answer.xid == 1) (is_reported setup.plan.station.name (value_among NameOfStation answer.blocks)) two.1 in
      record {
        source = source;
        answer = answer;
        comes = refl;
        looks = looks;
        identifies = identify_is answer.service one.0;
        supported = two.0;
        asked = eqb-true answer.xid 1 three.0;
        named = reported_is setup.plan.station.name (value_among NameOfStation answer.blocks) three.1;
        other = unreported_is (ident_bytes setup.plan.station) (value_among DeviceId answer.blocks) other;
      }

  answered_for : (source : Mac) (answer : Answered) (phase : State) → live.phase ≡ phase → IsFor (Hears (Answers source answer)) (answered setup live source answer phase)
  answered_for source answer Looking is =
      by_cases (is_found setup.plan answer)
      (λ found. by_cases (is_right setup.plan answer)
      (λ right. either (is_addressed setup.plan answer) (moves _ refl) (moves _ refl))
      (λ other. ends why.WrongDevice live [] (wrong source answer is found other) refl))
      (λ not. rests)
  answered_for source answer Addressing is =
      either (is_set_answer answer)
      (by_cases (is_agreed answer) (λ agreed. moves _ refl) (λ other. ends why.Refused live [] (Answers source answer, refl, (is, other)) (inl refl)))
      rests
  answered_for source answer phase is = rests

  -- ---- responses

  of_the_call : (request : Request) (call : CallHeader) (activity : List ℕ) (sequence : ℕ) → live.asked ≡ Some request → call_by setup request ≡ Some call
      → (pointwise nat_eq activity call.activity && sequence == call.sequence) ≡ true → IsOfTheCall setup live activity sequence
  of_the_call request call activity sequence stood is right =
      let parts = and_parts (pointwise nat_eq activity call.activity) (sequence == call.sequence) right in
      record {
        call = call;
        waits = ap (λ (asked : Option Request). waiting_by setup asked live.access.plug live.access.waiting) stood ∙ is;
        activity_is = sym (same_text activity call.activity (sym parts.0));
        sequence_is = sym (eqb-true sequence call.sequence parts.1);
      }

  answers_it : (request : Request) (response : Response) → live.asked ≡ Some request → is_answer setup request response.header ≡ true
      → IsOfTheCall setup live response.header.activity response.header.sequence
  answers_it asks.Identify response stood right = absurd (false≢true right)
  answers_it asks.Address response stood right = absurd (false≢true right)
  answers_it asks.Connect response stood right = of_the_call asks.Connect (header_of setup asks.Connect) _ _ stood refl right
  answers_it (asks.Write number) response stood right = of_the_call (asks.Write number) (header_of setup (asks.Write number)) _ _ stood refl right
  answers_it asks.PrmEnd response stood right = of_the_call asks.PrmEnd (header_of setup asks.PrmEnd) _ _ stood refl right
  answers_it (asks.WriteAfter number tries) response stood right = of_the_call (asks.WriteAfter number tries) (header_of setup (asks.WriteAfter number tries)) _ _ stood refl right
  answers_it (asks.PrmEndAfter tries) response stood right = of_the_call (asks.PrmEndAfter tries) (header_of setup (asks.PrmEndAfter tries)) _ _ stood refl right
  answers_it (asks.Release sequence) response stood right = of_the_call (asks.Release sequence) (header_of setup (asks.Release sequence)) _ _ stood refl right

  refuses_it : (request : Request) (refusal : Refusal) → live.asked ≡ Some request → is_refused setup request refusal ≡ true
      → IsOfTheCall setup live refusal.activity refusal.sequence
  refuses_it asks.Identify refusal stood right = absurd (false≢true right)
  refuses_it asks.Address refusal stood right = absurd (false≢true right)
  refuses_it asks.Connect refusal stood right = of_the_call asks.Connect (header_of setup asks.Connect) _ _ stood refl right
  refuses_it (asks.Write number) refusal stood right = of_the_call (asks.Write number) (header_of setup (asks.Write number)) _ _ stood refl right
  refuses_it asks.PrmEnd refusal stood right = of_the_call asks.PrmEnd (header_of setup asks.PrmEnd) _ _ stood refl right
  refuses_it (asks.WriteAfter number tries) refusal stood right = of_the_call (asks.WriteAfter number tries) (header_of setup (asks.WriteAfter number tries)) _ _ stood refl right
  refuses_it (asks.PrmEndAfter tries) refusal stood right = of_the_call (asks.PrmEndAfter tries) (header_of setup (asks.PrmEndAfter tries)) _ _ stood refl right
  refuses_it (asks.Release sequence) refusal stood right = of_the_call (asks.Release sequence) (header_of setup (asks.Release sequence)) _ _ stood refl right

  module _ (response : Response) where
    abbrev heard_now : Came
    heard_now = Hears (Responds response)

    module _ (stood : live.asked ≡ Some asks.Connect) (right : is_answer setup asks.Connect response.header ≡ true) (granted : is_done response.status ≡ true) where
      abbrev now_placed : Live
      now_placed = placed setup response.blocks live

      related_for : (found : Option Chosen) → IsFor heard_now (related_by setup now_placed found)
      related_for (Some chosen) = moves (writing setup (writing_from setup.plan 0) (standing setup now_placed chosen)) (goes_by (writing_from setup.plan 0))
        where
          goes_by : (request : Request) → has_ended (phase_for request) ≡ false
          goes_by (asks.Write number) = refl
          goes_by (asks.WriteAfter number tries) = refl
          goes_by request = refl
      related_for None = keeps (stays now_placed) refl

      connected_for : (read : Option Found) → found_in 400 response.blocks nothing ≡ read → IsFor heard_now (connected setup live response.blocks read)
      connected_for (Some found) e =
          by_cases (is_whole found)
          (λ whole. by_cases found.differs
          (λ differs. releases why.ModuleDiff live refl (record {
            response = response;
            comes = refl;
            connects = stood;
            of_it = answers_it asks.Connect response stood right;
            granted = granted;
            found = found;
            read = e;
            whole = whole;
            differs = differs;
          }) (λ alone. alone))
          (λ same. related_for (chosen_of found)))
          (λ part. rests)
      connected_for None e = rests

    goes_with : (request : Request) → has_ended (phase_for request) ≡ false
    goes_with (asks.Write number) = refl
    goes_with (asks.WriteAfter number tries) = refl
    goes_with request = refl

    writes_for : (request : Request) (next : Live) → IsFor heard_now (writing setup request next)
    writes_for request next = moves (writing setup request next) (goes_with request)

    passed_for : (next : Request) (refused : ℕ) (status : Code) → IsRefusal setup live heard_now → IsFor heard_now (past_record setup next (noted status refused live))
    passed_for next refused status is =
        either setup.plan.continue_on_refused_record
        (writes_for next (noted status refused live))
        (by_cases setup.plan.release_on_refused_record
        (λ informs. releases why.Refused (noted status refused live) refl is (λ alone. inr (inl informs, alone)))
        (λ silent. ends why.Refused (noted status refused live) [] is (inl refl)))

    negative : (request : Request) → live.asked ≡ Some request → is_answer setup request response.header ≡ true → IsNegative setup live.asked response → IsRefusal setup live heard_now
    negative request stood right denies = (Responds response, refl, (answers_it request response stood right, denies))

    outcomes_for : (number : ℕ) (tries : Option ℕ) → live.asked ≡ Some (write_after number tries) → is_answer setup (write_after number tries) response.header ≡ true
        → (outcomes : Outcomes) → outcomes_of setup.plan number response.blocks ≡ outcomes
        → IsFor heard_now (after_write setup live number (behind_write setup.plan number tries) outcomes)
    outcomes_for number tries stood right AllWritten e = writes_for (behind_write setup.plan number tries) live
    outcomes_for number tries stood right (Denied place status) e =
        passed_for (behind_write setup.plan number tries) (first_of setup.plan number + place) status
        (negative (write_after number tries) stood right (inr (number, tries, stood, ap (λ (o : Outcomes). is_all_written o) e)))
    outcomes_for number tries stood right Unreadable e = rests

    -- a Write, or PrmEnd, that is refused as busy is tried again, if the plan says so
    refused_write_for : (number tries : ℕ) (next : Request) → IsRefusal setup live heard_now
        → IsFor heard_now (refused_write setup live response.status number tries next)
    refused_write_for number tries next is =
        either (is_tried setup.plan response.status tries) (keeps (trying (asks.WriteAfter number (tries + 1)) response.status live) refl)
        (passed_for next (first_of setup.plan number) response.status is)

    refused_end_for : (tries : ℕ) → IsRefusal setup live heard_now → IsFor heard_now (refused_end setup live response.status tries)
    refused_end_for tries is =
        either (is_tried setup.plan response.status tries) (keeps (trying (asks.PrmEndAfter (tries + 1)) response.status live) refl)
        (ends why.Refused (record live { refusal = Some response.status }) [] is (inl refl))

    done_for : (request : Request) → live.asked ≡ Some request → is_answer setup request response.header ≡ true → is_done response.status ≡ true
        → IsFor heard_now (done setup live response.blocks request)
    done_for asks.Identify stood right granted = rests
    done_for asks.Address stood right granted = rests
    done_for asks.Connect stood right granted = connected_for stood right granted (found_in 400 response.blocks nothing) refl
    done_for (asks.Write number) stood right granted = outcomes_for number None stood right (outcomes_of setup.plan number response.blocks) refl
    done_for (asks.WriteAfter number tries) stood right granted = outcomes_for number (Some tries) stood right (outcomes_of setup.plan number response.blocks) refl
    done_for asks.PrmEnd stood right granted = moves _ refl
    done_for (asks.PrmEndAfter tries) stood right granted = moves _ refl
    done_for (asks.Release sequence) stood right granted = keeps _ refl

    undone_for : (request : Request) → live.asked ≡ Some request → is_answer setup request response.header ≡ true → is_done response.status ≡ false
        → IsFor heard_now (undone setup live response.status request)
    undone_for (asks.Write number) stood right denies =
        refused_write_for number 0 (writing_from setup.plan (number + 1)) (negative (asks.Write number) stood right (inl denies))
    undone_for (asks.WriteAfter number tries) stood right denies =
        refused_write_for number tries (writing_after setup.plan (number + 1) tries) (negative (asks.WriteAfter number tries) stood right (inl denies))
    undone_for asks.PrmEnd stood right denies = refused_end_for 0 (negative asks.PrmEnd stood right (inl denies))
    undone_for (asks.PrmEndAfter tries) stood right denies = refused_end_for tries (negative (asks.PrmEndAfter tries) stood right (inl denies))
    undone_for asks.Connect stood right denies =
        let refuses = negative asks.Connect stood right (inl denies) in
        let next : Live = record live { refusal = Some response.status } in
        by_cases (is_held setup.plan response.status)
        (λ held. let parts = and_parts setup.plan.persistent_start (is_state_conflict response.status) held in
        releases why.Refused next refl refuses
        (λ alone. inr (inr (parts.0, record { response = response; comes = refl; connects = stood; conflicts = parts.1 }), alone)))
        (λ other. ends why.Refused next [] refuses (inl refl))
    undone_for request stood right denies = ends why.Refused (record live { refusal = Some response.status }) [] (negative request stood right (inl denies)) (inl refl)

    decided_for : (request : Request) → live.asked ≡ Some request → is_answer setup request response.header ≡ true → IsFor heard_now (decided setup live response request)
    decided_for (asks.Release sequence) stood right = keeps _ refl
    decided_for request stood right =
        by_cases (is_done response.status) (λ granted. done_for request stood right granted) (λ denies. undone_for request stood right denies)

    -- to a request of the application
    replied_same : (waiting : Option RecordRequest) → (replied setup live response waiting).phase ≡ live.phase
    replied_same None = refl
    replied_same (Some request) = by_header (is_reply setup request response.header)
      where
        by_record : (octets : Option (List ℕ)) → (brings request octets live).phase ≡ live.phase
        by_record (Some octets) = refl
        by_record None = refl

        by_service : (kind : RecordService) → (granted request response.blocks kind live).phase ≡ live.phase
        by_service service.Read = by_record (record_in (block_of response.blocks))
        by_service service.Write = refl

        by_status : (is : Bool) → (if is then granted request response.blocks request.service live else failed response.status request live).phase ≡ live.phase
        by_status true = by_service request.service
        by_status false = refl

        by_header : (is : Bool) → (if is then replied_by live response request else live).phase ≡ live.phase
        by_header true = by_status (is_done response.status)
        by_header false = refl

    -- to the request after a plug, or else to that of the application
    beside_for : (plug : Option PlugRequest) → IsFor heard_now (beside setup live response plug)
    beside_for (Some request) =
        either (is_plug_answer setup request response.header.activity response.header.sequence)
        (keeps (asks_next (plug_replied setup live response.status request)) (ap (λ (l : Live). l.phase) (replied_step setup live response.status request))) rests
    beside_for None = keeps _ (replied_same live.access.waiting)

    responded_for : (asked : Option Request) → live.asked ≡ asked → IsFor heard_now (responded setup live response asked)
    responded_for (Some request) stood = by_cases (is_answer setup request response.header) (λ right. decided_for request stood right) (λ other. rests)
    responded_for None stood = beside_for live.access.plug

  -- ---- rejects and faults

  refused_by_for : (refusal : Refusal) (request : Request) → live.asked ≡ Some request → is_refused setup request refusal ≡ true
      → IsFor (Hears (Refuses refusal)) (refused_by live refusal request)
  refused_by_for refusal (asks.Release sequence) stood right = keeps _ refl
  refused_by_for refusal request stood right =
      ends why.Refused (record live { refusal = Some refusal.status }) [] (Refuses refusal, refl, refuses_it request refusal stood right) (inl refl)

  rejected_same : (refusal : Refusal) (waiting : Option RecordRequest) → (rejected setup live refusal waiting).phase ≡ live.phase
  rejected_same refusal None = refl
  rejected_same refusal (Some request) = by_header (is_rejected setup request refusal)
    where
      by_header : (is : Bool) → (if is then failed refusal.status request live else live).phase ≡ live.phase
      by_header true = refl
      by_header false = refl

  beside_same : (refusal : Refusal) (plug : Option PlugRequest) → (refused_beside setup live refusal plug).phase ≡ live.phase
  beside_same refusal None = rejected_same refusal live.access.waiting
  beside_same refusal (Some request) = by_header (is_plug_answer setup request refusal.activity refusal.sequence)
    where
      by_header : (is : Bool) → (if is then rejected_now setup live refusal request else live).phase ≡ live.phase
      by_header true = ap (λ (l : Live). l.phase) (rejected_step setup live refusal request)
      by_header false = refl

  refused_for : (refusal : Refusal) (asked : Option Request) → live.asked ≡ asked → IsFor (Hears (Refuses refusal)) (refused setup live refusal asked)
  refused_for refusal (Some request) stood = by_cases (is_refused setup request refusal) (λ right. refused_by_for refusal request stood right) (λ other. rests)
  refused_for refusal None stood = keeps _ (beside_same refusal live.access.plug)

  -- ---- ApplicationReady

  readied_for : (caller : Caller) (call : Call) (block : ControlBlock) (phase : State) → live.phase ≡ phase → IsFor (Hears (Calls caller call)) (readied live caller call block phase)
  readied_for caller call block Ending is = moves _ refl
  readied_for caller call block Waiting is = moves _ refl
  readied_for caller call block Exchanging is = keeps _ refl
  readied_for caller call block phase is = rests

  plug_called_for : (caller : Caller) (call : Call) (block : Option PlugControlBlock) → IsFor (Hears (Calls caller call)) (plug_called setup live caller call block)
  plug_called_for caller call (Some block) = either (is_plug_ready setup block && is_plug_awaited live block.alarm_sequence_number) (keeps _ refl) rests
  plug_called_for caller call None = rests

  called_for : (caller : Caller) (call : Call) (block : Option ControlBlock) → IsFor (Hears (Calls caller call)) (called setup live caller call block)
  called_for caller call (Some block) = either (is_ready setup block) (readied_for caller call block live.phase refl) rests
  called_for caller call None = after_for (plug_called setup live caller call (plug_ready_in call)) (plug_called_for caller call (plug_ready_in call))

  -- ---- alarms, and cyclic frames

  end_same : (next : Live) (priority : Priority) (end : ControllerEnd) → (with_end next priority end).phase ≡ next.phase
  end_same next High end = refl
  end_same next Low end = refl

  kept_same : (next : Live) (priority : Priority) (alarm : AlarmNotification) (structure : Option ℕ) → (keeping next priority alarm structure).phase ≡ next.phase
  kept_same next High alarm structure = refl
  kept_same next Low alarm structure = refl

  taken_same : (next : Live) (report : Report) (as_what : Taken) → (taken next report as_what).live.phase ≡ next.phase
  taken_same next report New =
      kept_same (acking next report.priority (ack_of report.notification)) report.priority (kept_alarm report.notification) report.user_structure
      ∙ end_same next report.priority (confirmed (end_of next report.priority) (ack_of report.notification))
  taken_same next report Again = refl
  taken_same next report Refused = refl

  noticed_for : (source : Mac) (under : Priority) (header : Header) (reported : ToController) → live.stands ≡ true → is_alarm live.cyclic.route source header ≡ true
      → IsFor (Hears (Alarms source under header reported)) (noticed live under reported)
  noticed_for source under header (notice.Data number report) up own =
      keeps _ (taken_same (behind_data live report.priority number) report (taken_as (end_of live report.priority).seen number)
      ∙ end_same live report.priority (with_data (end_of live report.priority) number))
  noticed_for source under header (notice.Ack number) up own =
      keeps _ (end_same live (acked_under live under) (with_ack (end_of live (acked_under live under)) number))
  noticed_for source under header notice.Nack up own = rests
  noticed_for source under header (notice.Abort status) up own =
      ends why.Aborted live [] (record { source = source; under = under; header = header; status = status; comes = refl; stands = up; own = own }) refl

  come_same : (source : Mac) (frame_id : ℕ) (body : List ℕ) (is : Bool)
      → (if is then record live { cyclic = behind_frame live.cyclic source frame_id body } else live).phase ≡ live.phase
  come_same source frame_id body true = refl
  come_same source frame_id body false = refl

  turned_for : (heard : Heard) → IsFor (Hears heard) (turned setup live heard)
  turned_for Nothing = rests
  turned_for (Answers source answer) = answered_for source answer live.phase refl
  turned_for (Responds response) = after_for (responded setup live response live.asked) (responded_for response live.asked refl)
  turned_for (Refuses refusal) = after_for (refused setup live refusal live.asked) (refused_for refusal live.asked refl)
  turned_for (Calls caller call) = called_for caller call (ready_in call)
  turned_for (Comes source frame_id body) = keeps _ (come_same source frame_id body live.stands)
  turned_for (Alarms source under header reported) =
      after_for (alarmed live source under header reported)
      (by_cases (live.stands && is_alarm live.cyclic.route source header)
      (λ e. let parts = and_parts live.stands (is_alarm live.cyclic.route source header) e in noticed_for source under header reported parts.0 parts.1)
      (λ other. rests))

  -- ---- units, and the application

  in_time : is_spent live ≡ false → IsOutOfTime live Passes → ⊥
  in_time going_on out = false≢true (sym going_on ∙ (ap (λ (b : Bool). b && live.left == 1) out.1 ∙ ap (λ (n : ℕ). n == 1) out.2))

  module _ (waited : ℕ) (places : Told) (access : Accessing) where
    -- a unit with which the turn of a place may begin
    abbrev unit_over : Live
    unit_over = record (exchange_later (later live)) { waited = waited; places = places; access = access }

    broken_for : (because : Abort) (sent : List Sent) (silent : Bool) (alarm : Due) → is_silent live.cyclic ≡ silent
        → either_due (due live.alarms.sending) (due live.low_alarms.sending) ≡ alarm → is_spent live ≡ false → live.stands ≡ true
        → (tick_by live.cyclic alarm (if silent then Some reason.DataHold else ending_by alarm)).ending ≡ Some because
        → IsFor Passes (ended_by unit_over because)
    broken_for because sent true alarm is due_is going_on up e = by_reason because (some_is because e)
      where
        some_is : (told : Abort) → Some reason.DataHold ≡ Some told → reason.DataHold ≡ told
        some_is told same = cc

        by_reason : (told : Abort) → reason.DataHold ≡ told → IsFor Passes (ended_by unit_over told)
        by_reason told same =
            subst (λ (r : Abort). IsFor Passes (ended_by unit_over r)) same
            (ends why.DataHold unit_over (ended_by unit_over reason.DataHold).sent (refl, up, is, in_time going_on) refl)
    broken_for because sent false is_due.Nothing is due_is going_on up e = absurd (no_reason because e)
      where
        no_reason : (told : Abort) → None ≡ Some told → ⊥
        no_reason told same = cc
    broken_for because sent false is_due.Again is due_is going_on up e = absurd (no_reason because e)
      where
        no_reason : (told : Abort) → None ≡ Some told → ⊥
        no_reason told same = cc
    broken_for because sent false is_due.Spent is due_is going_on up e = by_reason because (some_is because e)
      where
        some_is : (told : Abort) → Some reason.Other ≡ Some told → reason.Other ≡ told
        some_is told same = cc

        by_reason : (told : Abort) → reason.Other ≡ told → IsFor Passes (ended_by unit_over told)
        by_reason told same =
            subst (λ (r : Abort). IsFor Passes (ended_by unit_over r)) same
            (ends why.AlarmRetries unit_over (ended_by unit_over reason.Other).sent (refl, up, is, due_is, in_time going_on) refl)

    flowed_for : (ending : Option Abort) → is_spent live ≡ false → live.stands ≡ true → (brought live).ending ≡ ending
        → IsFor Passes (flowed unit_over (due live.alarms.sending) (due live.low_alarms.sending) (is_again live) (brought live) ending)
    flowed_for (Some because) going_on up e =
        broken_for because [] (is_silent live.cyclic) (either_due (due live.alarms.sending) (due live.low_alarms.sending)) refl refl going_on up e
    flowed_for None going_on up e = keeps _ refl

  gone_on_for : (is : Bool) → is_spent live ≡ false → live.stands ≡ is
      → IsFor Passes (if is then flowed (flow_begun setup live) (due live.alarms.sending) (due live.low_alarms.sending) (is_again live) (brought live) (brought live).ending
      else record { live = unit_begun setup live; sent = where_due (is_again live) (requests_of live.device live.asked) })
  gone_on_for true going_on up =
      let next = flow_begun setup live in
      subst (λ (l : Live). IsFor Passes (flowed l (due live.alarms.sending) (due live.low_alarms.sending) (is_again live) (brought live) (brought live).ending))
      (sym (begun_beside setup (flow_later live) next (flows setup live)))
      (flowed_for next.waited next.places next.access (brought live).ending going_on up refl)
  gone_on_for false going_on down =
      keeps (record { live = unit_begun setup live; sent = where_due (is_again live) (requests_of live.device live.asked) })
      (ap (λ (l : Live). l.phase) (begun_beside setup (later live) (unit_begun setup live) (begins setup (is_again live) (later live))))

  -- the cause of an end that the controller chooses, in any state from the Connect on, or before
  quit_for : {came : Came} (mine : Cause) (next : Live) (phase : State) → live.phase ≡ phase → next.device ≡ live.device → HasCause setup live came mine
      → ((frames : List (List ℕ)) → IsReleaseFromConnect setup live phase frames → IsToldAs setup live came mine frames) → IsFor came (quit setup mine next phase)
  quit_for mine next Looking is same has told = ends mine next [] has (told [] refl)
  quit_for mine next Addressing is same has told = ends mine next [] has (told [] refl)
  quit_for mine next Connecting is same has told = releases mine next same has (λ alone. told _ alone)
  quit_for mine next Writing is same has told = releases mine next same has (λ alone. told _ alone)
  quit_for mine next Ending is same has told = releases mine next same has (λ alone. told _ alone)
  quit_for mine next Waiting is same has told = releases mine next same has (λ alone. told _ alone)
  quit_for mine next Exchanging is same has told = releases mine next same has (λ alone. told _ alone)
  quit_for mine next (Ended cause) is same has told = absurd (not_ended live.phase cause going is)

  ticked_for : IsFor Passes (ticked setup live)
  ticked_for =
      by_cases (is_spent live)
      (λ spent.
      let parts = and_parts (is_limited live.phase) (live.left == 1) spent in
      quit_for why.NoProgress (later live) live.phase refl refl (refl, parts.0, eqb-true live.left 1 parts.1) (λ frames told. told))
      (λ going_on. subst (λ (t : Turn). IsFor Passes t) (sym (gone_is setup live)) (gone_on_for live.stands going_on refl))

  stopped_for : IsFor Halts (stopped setup live live.phase)
  stopped_for = quit_for why.Stopped live live.phase refl refl refl (λ frames told. told)

  requested_for : {came : Came} (kind : RecordService) (slot subslot index : ℕ) (octets : List ℕ) → IsFor came (requested setup live kind slot subslot index octets)
  requested_for kind slot subslot index octets = either (can_request live) (keeps _ refl) rests

  turn_is_for : (came : Came) → IsFor came (turn_for setup live came)
  turn_is_for (Hears heard) = turned_for heard
  turn_is_for Passes = ticked_for
  turn_is_for (Gets slot subslot value) = keeps _ refl
  turn_is_for (GetsStatus slot subslot is_good) = keeps _ refl
  turn_is_for (AsksRead slot subslot index) = requested_for service.Read slot subslot index []
  turn_is_for (AsksWrite slot subslot index octets) =
      either (nat_lt most_record_octets (length octets)) rests (requested_for service.Write slot subslot index octets)
  turn_is_for Halts = stopped_for

-- The turn for an event is that for what comes with it.
pub turn_by_event : (setup : Setup) (live : Live) (event : Event) → turn_of setup live event ≡ turn_for setup live (came_by setup event)
turn_by_event setup live (Frame bytes) = refl
turn_by_event setup live Tick = refl
turn_by_event setup live (Give slot subslot value) = refl
turn_by_event setup live (Status slot subslot is_good) = refl
turn_by_event setup live (Read slot subslot index) = refl
turn_by_event setup live (Write slot subslot index octets) = refl
turn_by_event setup live Stop = refl

pub each_end_has_its_cause : EachEndHasItsCause
unfolding step_of
each_end_has_its_cause controller event cause going ended =
    let is = subst (λ (t : Turn). IsFor controller.setup controller.live going (came_by controller.setup event) t) (sym (turn_by_event controller.setup controller.live event))
    (turn_is_for controller.setup controller.live going (came_by controller.setup event)) in
    let both = is.caused cause ended in
    record { cause_is = both.0; told = both.1 }

-- ---- each cause ends

module _ (setup : Setup) (live : Live) (going : has_ended live.phase ≡ false) where
  number_same : (n : ℕ) → (n == n) ≡ true
  number_same n = eq-eqb n n refl

  both_true : (one other : Bool) → one ≡ true → other ≡ true → (one && other) ≡ true
  both_true one other e f = ap (λ (b : Bool). b && other) e ∙ f

  found_so : (answer : Answered) → answer.service ≡ Identify → answer.is_supported ≡ true → answer.xid ≡ 1
      → value_among NameOfStation answer.blocks ≡ Some setup.plan.station.name → is_found setup.plan answer ≡ true
  found_so answer service supported xid named =
      both_true (is_identify answer.service) _ (ap is_identify service)
      (both_true answer.is_supported _ supported
      (both_true (answer.xid == 1) _ (ap (λ (n : ℕ). n == 1) xid)
      (ap (λ (v : Option (List ℕ)). is_reported setup.plan.station.name v) named ∙ own_text setup.plan.station.name)))

  not_right : (wanted : List ℕ) (value : Option (List ℕ)) → value ≢ Some wanted → is_reported wanted value ≡ false
  not_right wanted None other = refl
  not_right wanted (Some value) other = by_test (pointwise nat_eq value wanted) refl
    where
      by_test : (b : Bool) → pointwise nat_eq value wanted ≡ b → b ≡ false
      by_test true e = absurd (other (ap (λ (v : List ℕ). Some v) (same_text value wanted (sym e))))
      by_test false e = refl

  abbrev EndsFor : Cause → Turn → Type 0
  EndsFor cause turn = turn.live.phase ≡ Ended cause

  -- No turn of a place begins after an end.
  ended_exchanging : (cause : Cause) (state : State) → state ≡ Ended cause → state ≡ Exchanging → ⊥
  ended_exchanging cause state one other = absurd (true≢false (sym (ap (λ (s : State). has_ended s) one) ∙ ap (λ (s : State). has_ended s) other))

  ends_follow : (cause : Cause) (turn after : Turn) → MayFollow setup turn after → EndsFor cause turn → EndsFor cause after
  ends_follow cause turn after (inl e) is = ap (λ (t : Turn). t.live.phase) e ∙ is
  ends_follow cause turn after (inr followed) is = absurd (ended_exchanging cause turn.live.phase is followed.begun.phase)

  ends_after : (cause : Cause) (turn : Turn) → EndsFor cause turn → EndsFor cause (after_turn setup (can_begin live) turn)
  ends_after cause turn is = ends_follow cause turn (after_turn setup (can_begin live) turn) (follows setup (can_begin live) turn) is

  wrong_ends : (source : Mac) (answer : Answered) (phase : State) → phase ≡ Looking → is_found setup.plan answer ≡ true → is_right setup.plan answer ≡ false
      → EndsFor why.WrongDevice (answered setup live source answer phase)
  wrong_ends source answer phase looks found other =
      subst (λ (p : State). EndsFor why.WrongDevice (answered setup live source answer p)) (sym looks)
      (ap (λ (b : Bool). (if b then is_found_by setup live source answer else stays live).live.phase) found
      ∙ ap (λ (b : Bool). (if b then (if is_addressed setup.plan answer then asking setup Connecting asks.Connect (record live { device = source })
      else asking setup Addressing asks.Address (record live { device = source })) else stays (over why.WrongDevice live)).live.phase) other)

  answer_is : (call : CallHeader) (activity : List ℕ) (sequence : ℕ) → call.activity ≡ activity → call.sequence ≡ sequence
      → (pointwise nat_eq activity call.activity && sequence == call.sequence) ≡ true
  answer_is call activity sequence same equal =
      both_true (pointwise nat_eq activity call.activity) (sequence == call.sequence)
      (ap (λ (a : List ℕ). pointwise nat_eq activity a) same ∙ own_text activity)
      (ap (λ (n : ℕ). sequence == n) equal ∙ number_same sequence)

  same_header : (one other : CallHeader) → Some one ≡ Some other → one ≡ other
  same_header one other e = cc

  connect_is : (response : Response) → live.asked ≡ Some asks.Connect → IsOfTheCall setup live response.header.activity response.header.sequence
      → is_answer setup asks.Connect response.header ≡ true
  connect_is response stood of_it =
      let is : header_of setup asks.Connect ≡ of_it.call =
      same_header (header_of setup asks.Connect) of_it.call (sym (ap (λ (asked : Option Request). waiting_by setup asked live.access.plug live.access.waiting) stood) ∙ of_it.waits) in
      answer_is (header_of setup asks.Connect) response.header.activity response.header.sequence
      (ap (λ (h : CallHeader). h.activity) is ∙ of_it.activity_is) (ap (λ (h : CallHeader). h.sequence) is ∙ of_it.sequence_is)

  module_ends : (response : Response) (found : Found) → live.asked ≡ Some asks.Connect → is_answer setup asks.Connect response.header ≡ true → is_done response.status ≡ true
      → found_in 400 response.blocks nothing ≡ Some found → is_whole found ≡ true → found.differs ≡ true → EndsFor why.ModuleDiff (responded setup live response live.asked)
  module_ends response found stood right granted read whole differs =
      subst (λ (asked : Option Request). EndsFor why.ModuleDiff (responded setup live response asked)) (sym stood)
      (ap (λ (b : Bool). (if b then decided setup live response asks.Connect else stays live).live.phase) right
      ∙ (ap (λ (b : Bool). (if b then done setup live response.blocks asks.Connect else undone setup live response.status asks.Connect).live.phase) granted
      ∙ (ap (λ (f : Option Found). (connected setup live response.blocks f).live.phase) read
      ∙ (ap (λ (b : Bool). (if b then (if found.differs then released setup why.ModuleDiff live else related_by setup (placed setup response.blocks live) (chosen_of found))
      else stays live).live.phase) whole
      ∙ ap (λ (b : Bool). (if b then released setup why.ModuleDiff live else related_by setup (placed setup response.blocks live) (chosen_of found)).live.phase) differs))))

  aborted_ends : (source : Mac) (under : Priority) (header : Header) (status : Code) → live.stands ≡ true → is_alarm live.cyclic.route source header ≡ true
      → EndsFor why.Aborted (alarmed live source under header (notice.Abort status))
  aborted_ends source under header status up own =
      ap (λ (b : Bool). (if b then noticed live under (notice.Abort status) else stays live).live.phase)
      (both_true live.stands (is_alarm live.cyclic.route source header) up own)

  not_out : (limited is_last : Bool) → is_limited live.phase ≡ limited → (live.left == 1) ≡ is_last → (IsOutOfTime live Passes → ⊥) → (limited && is_last) ≡ false
  not_out true true e f out = absurd (out (refl, e, eqb-true live.left 1 f))
  not_out true false e f out = refl
  not_out false is_last e f out = refl

  unit_ends : (because : Abort) (mine : Cause) → (IsOutOfTime live Passes → ⊥) → live.stands ≡ true → (brought live).ending ≡ Some because → cause_of because ≡ mine
      → EndsFor mine (ticked setup live)
  unit_ends because mine out up breaks is =
      ap (λ (b : Bool). (if b then quit setup why.NoProgress (later live) live.phase else gone_on (unit_begun setup live) (is_again live)).live.phase)
      (not_out (is_limited live.phase) (live.left == 1) refl refl out)
      ∙ (ap (λ (t : Turn). t.live.phase) (gone_is setup live)
      ∙ (ap (λ (b : Bool). (if b then flowed (flow_begun setup live) (due live.alarms.sending) (due live.low_alarms.sending) (is_again live) (brought live) (brought live).ending
      else record { live = unit_begun setup live; sent = where_due (is_again live) (requests_of live.device live.asked) }).live.phase) up
      ∙ (ap (λ (o : Option Abort). (flowed (flow_begun setup live) (due live.alarms.sending) (due live.low_alarms.sending) (is_again live) (brought live) o).live.phase) breaks
      ∙ ap (λ (c : Cause). Ended c) is)))

  hold_breaks : is_silent live.cyclic ≡ true → (brought live).ending ≡ Some reason.DataHold
  hold_breaks silent =
      ap (λ (b : Bool). (tick_by live.cyclic (either_due (due live.alarms.sending) (due live.low_alarms.sending))
      (if b then Some reason.DataHold else ending_by (either_due (due live.alarms.sending) (due live.low_alarms.sending)))).ending) silent

  alarm_breaks : is_silent live.cyclic ≡ false → either_due (due live.alarms.sending) (due live.low_alarms.sending) ≡ is_due.Spent → (brought live).ending ≡ Some reason.Other
  alarm_breaks heard spent =
      ap (λ (b : Bool). (tick_by live.cyclic (either_due (due live.alarms.sending) (due live.low_alarms.sending))
      (if b then Some reason.DataHold else ending_by (either_due (due live.alarms.sending) (due live.low_alarms.sending)))).ending) heard
      ∙ ap (λ (d : Due). (tick_by live.cyclic d (ending_by d)).ending) spent

  quit_ends : (mine : Cause) (next : Live) (phase : State) → has_ended phase ≡ false → EndsFor mine (quit setup mine next phase)
  quit_ends mine next (Ended cause) other = absurd (true≢false other)
  quit_ends mine next Looking other = refl
  quit_ends mine next Addressing other = refl
  quit_ends mine next phase other = refl

  time_ends : is_limited live.phase ≡ true → live.left ≡ 1 → EndsFor why.NoProgress (ticked setup live)
  time_ends limited last =
      ap (λ (b : Bool). (if b then quit setup why.NoProgress (later live) live.phase else gone_on (unit_begun setup live) (is_again live)).live.phase)
      (both_true (is_limited live.phase) (live.left == 1) limited (ap (λ (n : ℕ). n == 1) last))
      ∙ quit_ends why.NoProgress (later live) live.phase going

  -- what comes, by an equation
  at_came : (cause : Cause) (came is : Came) → came ≡ is → EndsFor cause (turn_for setup live is) → EndsFor cause (turn_for setup live came)
  at_came cause came is e ends_so = subst (λ (c : Came). EndsFor cause (turn_for setup live c)) (sym e) ends_so

  out_at : (came : Came) → came ≡ Passes → (IsOutOfTime live came → ⊥) → IsOutOfTime live Passes → ⊥
  out_at came e out = subst (λ (c : Came). IsOutOfTime live c → ⊥) e out

  cause_ends : (came : Came) (cause : Cause) → IsNoRefusal cause → HasCause setup live came cause → EndsFor cause (turn_for setup live came)
  cause_ends came why.WrongDevice other has =
      at_came why.WrongDevice came (Hears (Answers has.source has.answer)) has.comes
      (wrong_ends has.source has.answer live.phase has.looks (found_so has.answer has.identifies has.supported has.asked has.named)
      (not_right (ident_bytes setup.plan.station) (value_among DeviceId has.answer.blocks) has.other))
  cause_ends came why.Refused other has = absurd other
  cause_ends came why.ModuleDiff other has =
      at_came why.ModuleDiff came (Hears (Responds has.response)) has.comes
      (ends_after why.ModuleDiff (responded setup live has.response live.asked)
      (module_ends has.response has.found has.connects (connect_is has.response has.connects has.of_it) has.granted has.read has.whole has.differs))
  cause_ends came why.DataHold other has =
      at_came why.DataHold came Passes has.0 (unit_ends reason.DataHold why.DataHold (out_at came has.0 has.3) has.1 (hold_breaks has.2) refl)
  cause_ends came why.Aborted other has =
      at_came why.Aborted came (Hears (Alarms has.source has.under has.header (notice.Abort has.status))) has.comes
      (ends_after why.Aborted (alarmed live has.source has.under has.header (notice.Abort has.status))
      (aborted_ends has.source has.under has.header has.status has.stands has.own))
  cause_ends came why.AlarmRetries other has =
      at_came why.AlarmRetries came Passes has.0 (unit_ends reason.Other why.AlarmRetries (out_at came has.0 has.4) has.1 (alarm_breaks has.2 has.3) refl)
  cause_ends came why.Stopped other has = at_came why.Stopped came Halts has (quit_ends why.Stopped live live.phase going)
  cause_ends came why.NoProgress other has = at_came why.NoProgress came Passes has.0 (time_ends has.1 has.2)

pub each_cause_ends : EachCauseEnds
unfolding step_of
each_cause_ends controller event cause going other has =
    ap (λ (t : Turn). t.live.phase) (turn_by_event controller.setup controller.live event)
    ∙ cause_ends controller.setup controller.live going (came_by controller.setup event) cause other has

-- ---- any run

split_on : (first : Controlling) (event : Event) (events : List Event) (cause : Cause) → WasEnded (step_of first event).controller events cause → WasEnded first (event ∷ events) cause
split_on first event events cause was = record {
  before = event ∷ was.before;
  event = was.event;
  later = was.later;
  all = ap (λ (xs : List Event). event ∷ xs) was.all;
  going = was.going;
  ends = was.ends;
}

ended_or_not : (state : State) → (has_ended state ≡ false) ⊎ ((cause : Cause) × (state ≡ Ended cause))
ended_or_not (Ended cause) = inr (cause, refl)
ended_or_not Looking = inl refl
ended_or_not Addressing = inl refl
ended_or_not Connecting = inl refl
ended_or_not Writing = inl refl
ended_or_not Ending = inl refl
ended_or_not Waiting = inl refl
ended_or_not Exchanging = inl refl

module _ (first : Controlling) (event : Event) (events : List Event) (cause : Cause) where
  ended_here : (mine : Cause) → IsReached first → has_ended first.live.phase ≡ false → (step_of first event).controller.live.phase ≡ Ended mine
      → (behind_all events (step_of first event).controller).live.phase ≡ Ended cause → WasEnded first (event ∷ events) cause
  ended_here mine reached going here ended =
      let kept = keeps_its_cause (step_of first event).controller mine events (record { reached = reached_on first event reached; phase = here }) in
      let same : mine ≡ cause = same_cause mine cause (sym kept.phase ∙ ended) in
      record {
        before = [];
        event = event;
        later = events;
        all = refl;
        going = going;
        ends = subst (λ (c : Cause). EndsBy first event c) same (each_end_has_its_cause first event mine going here);
      }

was_ended : (events : List Event) (first : Controlling) (cause : Cause) → IsReached first → has_ended first.live.phase ≡ false
    → (behind_all events first).live.phase ≡ Ended cause → WasEnded first events cause
was_ended [] first cause reached going ended = absurd (not_ended first.live.phase cause going ended)
was_ended (event ∷ events) first cause reached going ended =
    by_state (λ goes_on. was_ended events (step_of first event).controller cause (reached_on first event reached) goes_on ended)
    (ended_or_not (step_of first event).controller.live.phase)
  where
    by_state : (has_ended (step_of first event).controller.live.phase ≡ false → WasEnded (step_of first event).controller events cause)
        → (has_ended (step_of first event).controller.live.phase ≡ false) ⊎ ((mine : Cause) × ((step_of first event).controller.live.phase ≡ Ended mine))
        → WasEnded first (event ∷ events) cause
    by_state later (inl goes_on) = split_on first event events cause (later goes_on)
    by_state later (inr here) = ended_here first event events cause here.0 reached going here.1 ended

pub each_run_has_its_cause : EachRunHasItsCause
each_run_has_its_cause plan ar activity options events cause ended =
    was_ended events (fresh_with plan ar activity options) cause
    (record { plan = plan; ar = ar; activity = activity; options = options; events = []; made = refl }) refl ended
