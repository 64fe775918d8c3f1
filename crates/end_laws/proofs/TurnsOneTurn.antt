-- Each turn of a controller is of one of the kinds.
use Rattle.std.proofs.Common.{◌≡◌, inl, inr, ◌≤◌, ◌+◌, ◌%◌, ◌==◌, ◌&&◌, ◌||◌, ◌++◌, ℕ, Bool, true, false, not, List, [], length, Option, Some, None, refl, sym, ap, subst, ◌∙◌, arith}
use Rattle.std.specs.Prelude.{if◌then◌else◌, is_some, nat_lt, option_and_then}
use Rattle.std.proofs.lemmas.Bool.{and_parts, false≢true, ltb-false}
use Rattle.pn_values.specs.declared.mac.Mac.{Mac}
use Rattle.frame_codec.specs.declared.udp.Caller.{Caller}
use Rattle.dcp_core.specs.Response.{Answered}
use Rattle.dcp_core.specs.Answered.{is_agreed}
use Rattle.rpc_core.specs.declared.response.Status.{Status as Code}
use Rattle.rpc_core.specs.Call.{Asked as Call}
use Rattle.rpc_core.specs.Response.{Answered as Response, is_done}
use Rattle.connect_blocks.specs.declared.control.ControlBlock.{ControlBlock}
use Rattle.connect_blocks.specs.declared.plug_control.PlugControlBlock.{PlugControlBlock}
use Rattle.block_codec.specs.Block.{block_of}
use Rattle.pn_alarms.specs.declared.abort.Abort.{Abort}
use Rattle.pn_alarms.specs.declared.message.Notice.TheVariants as notice
use Rattle.pn_alarms.specs.declared.pdu.Header.{Header}
use Rattle.diagnosis.specs.declared.reports.priority.Priority.{Priority}
use Rattle.diagnosis.specs.declared.reports.priority.Priority.TheVariants.{High, Low}
use Rattle.diagnosis.specs.reports.Message.{ToController}
use Rattle.pn_alarms.specs.Controller.{with_ack}
use Rattle.pn_alarms.specs.Ends.{ControllerEnd}
use Rattle.pn_alarms.specs.Sending.{due}
use Rattle.cyclic_data.specs.exchange.Received.{behind_frame}
use Rattle.plans.specs.declared.parts.Parts.{Parts}
use Rattle.plan_places.specs.Places.{is_awaited, next_waiting}
use Rattle.controller_messages.specs.declared.plug_request.PlugRequest.{PlugRequest}
use Rattle.controller_messages.specs.declared.record_request.RecordRequest.{RecordRequest}
use Rattle.controller_messages.specs.declared.record_request.RecordService.{RecordService}
use Rattle.controller_messages.specs.declared.record_request.RecordService.TheVariants as service
use Rattle.controller_messages.specs.declared.refusal.Refusal.{Refusal}
use Rattle.controller_messages.specs.declared.setup.Setup.{Setup}
use Rattle.controller_messages.specs.declared.request.Request.{Request}
use Rattle.controller_messages.specs.declared.request.Request.TheVariants as asks
use Rattle.controller_messages.specs.Heard.{Heard, Nothing, Answers, Responds, Refuses, Calls, Alarms, heard_of}
use Rattle.controller_messages.specs.Heard.{Cyclic as Comes}
use Rattle.controller_messages.specs.PlugRequests.{is_plug_answer, is_plug_ready, plug_ready_in}
use Rattle.controller_messages.specs.RecordRequests.{most_record_octets}
use Rattle.controller_messages.specs.Requests.{first_of, writing_from, writing_after}
use Rattle.controller_messages.specs.Sent.{done as no_error}
use Rattle.controller_core.specs.declared.stored.event.Event.{Event}
use Rattle.controller_core.specs.declared.stored.event.Event.TheVariants.{Frame, Tick, Give, Status, Read, Write, Stop}
use Rattle.controller_core.specs.declared.stored.state.Cause.{Cause}
use Rattle.controller_core.specs.declared.stored.state.Cause.TheVariants as why
use Rattle.controller_core.specs.declared.stored.state.RefusedRecord.{RefusedRecord}
use Rattle.controller_core.specs.declared.stored.state.State.{State}
use Rattle.controller_core.specs.declared.stored.state.State.TheVariants.{Looking, Addressing, Ending, Waiting, Exchanging, Ended}
use Rattle.controller_core.specs.stored.State.{Live, is_limited, phase_for}
use Rattle.controller_messages.specs.Access.{Accessing, answered_with, is_free, is_rejected, is_reply, record_in, unplugged}
use Rattle.controller_core.specs.stored.Alarms.{is_alarm}
use Rattle.controller_core.specs.start_up.Answers.{is_addressed, is_answer, is_found, is_held, is_ready, is_refused, is_right, is_set_answer, is_state_conflict, is_tried}
use Rattle.connects.specs.answers.Connect.{Chosen, chosen_by, chosen_of, found_in, is_whole, nothing}
use Rattle.controller_core.specs.declared.start_up.outcomes.Outcomes.{Outcomes}
use Rattle.controller_core.specs.declared.start_up.outcomes.Outcomes.TheVariants.{AllWritten, Unreadable}
use Rattle.controller_core.specs.declared.start_up.outcomes.Outcomes.TheVariants.{Refused as Denied}
use Rattle.controller_core.specs.start_up.Outcomes.{are_written, is_all_written, outcomes_of}
use Rattle.controller_core.specs.Machine.{Turn, acked_under, after_turn, after_write, answered, asks_next, begun_turn, behind_ack, beside, brings, brought, called, can_begin, can_request, connected, decided, done, failed, flowed, gone_on, granted, is_again, is_exchanging, is_plug_awaited, is_spent, handled, later, end_of, noticed, placed, plug_called, plug_rejected, plug_replied, plug_responded, plugs_by, plugs_of, quit, readied, past_record, refused, refused_beside, refused_by, rejected, related_by, replied, replied_by, request_for, requested, requests_of, responded, standing, stays, stopped, turn_of, turned, undone, noted, where_due, with_end, writing, written, trying, refused_end, refused_write}
use Rattle.controller_core.specs.start_up.Answers.{ready_in}
use Rattle.controller_core.specs.start_up.Requests.{behind_write, end_after, tried_as, tries_before, write_after}
use Rattle.end_laws.specs.turns.Beside.{flow_begun}
use Rattle.end_laws.specs.turns.Ended.{may_release}
use Rattle.end_laws.specs.turns.Turns.{Came, Hears, Passes, Gets, GetsStatus, AsksRead, AsksWrite, Halts, Found, IsGoing, IsGranted, IsKind, IsReadied, IsSought, IsReported, IsStepped, IsTurn, Kind, Rests, Connects, Addresses, Ends, Releases, Relates, Writes, Skips, Tries, Waits, Forgets, Begins, Repeats, Follows, Takes, IsAcked, Gives, GivesStatus, Asks, IsReplied, IsPlugAnswered, IsPlugReadied, Flows, Breaks, Idles, came_by, chosen_in, turn_by, turn_for, units_behind}
use Rattle.end_laws.proofs.TurnsBeside.{IsPlugStep, exchanging_is, gone_is, idle_is, none_is, rejected_asks, rejected_now, rejected_step, replied_asks, replied_step, stepped_octets, stepped_waiting, unit_begun}

-- No other phase is an end.
abbrev pub is_over : State → Bool
is_over (Ended cause) = true
is_over phase = false

pub not_over : (phase : State) (cause : Cause) → is_over phase ≡ false → phase ≡ Ended cause → ⊥
not_over phase cause stands e = absurd (false≢true (sym stands ∙ ap (λ (p : State). is_over p) e))

-- An answer to a Connect with all of its blocks names a FrameID and an alarm endpoint.
chosen_by_parts : (output alarm : Option ℕ) (deviates : Bool) → is_some output ≡ true → is_some alarm ≡ true → chosen_by output alarm deviates ≡ None → ⊥
chosen_by_parts (Some output) (Some alarm) deviates one other e = absurd cc
chosen_by_parts None alarm deviates one other e = false≢true one
chosen_by_parts (Some output) None deviates one other e = false≢true other

chosen_whole : (found : Found) → is_whole found ≡ true → chosen_of found ≡ None → ⊥
chosen_whole found whole e =
    let one = and_parts found.relation (found.input && (is_some found.output && is_some found.alarm)) whole in
    let two = and_parts found.input (is_some found.output && is_some found.alarm) one.1 in
    let three = and_parts (is_some found.output) (is_some found.alarm) two.1 in
    chosen_by_parts found.output found.alarm found.deviates three.0 three.1 e

-- At a complete end no request is active except a Release.
abbrev pub is_release : Request → Bool
is_release (asks.Release sequence) = true
is_release request = false

pub unreported : (plan : Parts) (request : Request) (cause : Cause) → is_release request ≡ false → IsReported plan cause (Some request) → ⊥
unreported plan (asks.Release sequence) cause other reported = false≢true (sym other)
unreported plan request cause other reported = reported

pub write_going : (number : ℕ) (tries : Option ℕ) → is_release (write_after number tries) ≡ false
write_going number None = refl
write_going number (Some tries) = refl

pub end_going : (tries : Option ℕ) → is_release (end_after tries) ≡ false
end_going None = refl
end_going (Some tries) = refl

-- Only a Write and PrmEnd are tried again.
pub tried_going : (request next : Request) → tried_as request ≡ Some next → is_release request ≡ false
tried_going (asks.Release sequence) next e = absurd cc
tried_going request next e = refl

module _ (setup : Setup) (live : Live) where
  going : (phase : State) → live.phase ≡ phase → is_over phase ≡ false → IsGoing setup.plan live
  going phase is stands = λ cause end. not_over phase cause stands (sym is ∙ end.phase)

  asked_going : (request : Request) → live.asked ≡ Some request → is_release request ≡ false → IsGoing setup.plan live
  asked_going request stood other = λ cause end. unreported setup.plan request cause other (subst (λ (o : Option Request). IsReported setup.plan cause o) stood end.asked)

  up_going : live.stands ≡ true → IsGoing setup.plan live
  up_going up = λ cause end. false≢true (sym end.down ∙ up)

  as_kind : (came : Came) (kind : Kind) → IsKind setup live came kind → IsTurn setup live came (turn_by setup live kind)
  as_kind came kind holds = record { kind = kind; holds = holds; is = refl }

  rests : (came : Came) → IsTurn setup live came (stays live)
  rests came = as_kind came Rests tt

  either : {came : Came} (is : Bool) {x y : Turn} → IsTurn setup live came x → IsTurn setup live came y → IsTurn setup live came (if is then x else y)
  either true one other = one
  either false one other = other

  if_so : {came : Came} (is : Bool) {x y : Turn} → (is ≡ true → IsTurn setup live came x) → IsTurn setup live came y → IsTurn setup live came (if is then x else y)
  if_so true one other = one refl
  if_so false one other = other

  by_cases : {came : Came} (is : Bool) {x y : Turn} → (is ≡ true → IsTurn setup live came x) → (is ≡ false → IsTurn setup live came y)
      → IsTurn setup live came (if is then x else y)
  by_cases true one other = one refl
  by_cases false one other = other refl

  -- ---- the turn of a place that may begin afterwards

  -- A turn with which that of a place may begin.
  record Then (came : Came) (turn : Turn) : Type 0 where
    both : IsTurn setup live came (after_turn setup (can_begin live) turn)

  or_not : (b : Bool) → (b || not b) ≡ true
  or_not true = refl
  or_not false = refl

  or_true : (b : Bool) → (b || true) ≡ true
  or_true true = refl
  or_true false = refl

  or_left : (a b : Bool) → a ≡ true → (a || b) ≡ true
  or_left true b e = refl
  or_left false b e = absurd (false≢true e)

  or_right : (a b : Bool) → b ≡ true → (a || b) ≡ true
  or_right a true e = or_true a
  or_right a false e = absurd (false≢true e)

  never : (b c : Bool) → (b && (false && c)) ≡ false
  never true c = refl
  never false c = refl

  -- None begins, since it could begin before, or since it cannot now.
  nothing_more : (turn : Turn) → (can_begin live || not (can_begin turn.live)) ≡ true → after_turn setup (can_begin live) turn ≡ turn
  nothing_more turn e =
      let next = begun_turn setup turn.live in
      let begun : Turn = record { live = next; sent = turn.sent ++ plugs_of next } in
      ap (λ (b : Bool). if b then turn else begun) e

  as_before : (turn : Turn) → can_begin turn.live ≡ can_begin live → after_turn setup (can_begin live) turn ≡ turn
  as_before turn e = nothing_more turn (ap (λ (b : Bool). can_begin live || not b) e ∙ or_not (can_begin live))

  none_now : (turn : Turn) → can_begin turn.live ≡ false → after_turn setup (can_begin live) turn ≡ turn
  none_now turn e = nothing_more turn (ap (λ (b : Bool). can_begin live || not b) e ∙ or_true (can_begin live))

  alone : (came : Came) (kind : Kind) → IsKind setup live came kind → after_turn setup (can_begin live) (turn_by setup live kind) ≡ turn_by setup live kind
      → Then came (turn_by setup live kind)
  alone came kind holds e = record { both = record { kind = kind; holds = holds; is = e } }

  rests_then : (came : Came) → Then came (stays live)
  rests_then came = alone came Rests tt (as_before (stays live) refl)

  ends_then : (came : Came) (cause : Cause) (refusal : Option Code) (refused_one : Option RefusedRecord) → IsGoing setup.plan live
      → (live.units ≡ units_behind live came) → Then came (turn_by setup live (Ends cause refusal refused_one live.units))
  ends_then came cause refusal refused_one goes units =
      alone came (Ends cause refusal refused_one live.units) (goes, units) (none_now (turn_by setup live (Ends cause refusal refused_one live.units)) refl)

  releases_then : (came : Came) (cause : Cause) (refusal : Option Code) (refused_one : Option RefusedRecord) → IsGoing setup.plan live
      → may_release setup.plan cause ≡ true → (live.units ≡ units_behind live came) → Then came (turn_by setup live (Releases cause refusal refused_one live.units))
  releases_then came cause refusal refused_one goes may units =
      alone came (Releases cause refusal refused_one live.units) (goes, may, units) (none_now (turn_by setup live (Releases cause refusal refused_one live.units)) refl)

  -- No data is exchanged while the records are written.
  waits_none : (request : Request) → is_exchanging (phase_for request) ≡ false
  waits_none (asks.Write number) = refl
  waits_none (asks.WriteAfter number tries) = refl
  waits_none request = refl

  writing_none : (request : Request) (next : Live) → after_turn setup (can_begin live) (writing setup request next) ≡ writing setup request next
  writing_none request next =
      let free = is_free next.access && is_some (next_waiting next.places) in
      none_now (writing setup request next) (ap (λ (b : Bool). next.stands && (b && free)) (waits_none request) ∙ never next.stands free)

  either_then : {came : Came} (is : Bool) {x y : Turn} → Then came x → Then came y → Then came (if is then x else y)
  either_then true one other = one
  either_then false one other = other

  if_so_then : {came : Came} (is : Bool) {x y : Turn} → (is ≡ true → Then came x) → Then came y → Then came (if is then x else y)
  if_so_then true one other = one refl
  if_so_then false one other = other

  by_cases_then : {came : Came} (is : Bool) {x y : Turn} → (is ≡ true → Then came x) → (is ≡ false → Then came y) → Then came (if is then x else y)
  by_cases_then true one other = one refl
  by_cases_then false one other = other refl

  -- ---- DCP answers

  answered_is : (source : Mac) (answer : Answered) (phase : State) → live.phase ≡ phase
      → IsTurn setup live (Hears (Answers source answer)) (answered setup live source answer phase)
  answered_is source answer Looking is =
      let came = Hears (Answers source answer) in
      let sought : IsSought live came source = record { seeking = inl is; known = inr (answer, refl) } in
      either (is_found setup.plan answer)
      (either (is_right setup.plan answer)
      (either (is_addressed setup.plan answer) (as_kind came (Connects source) sought) (as_kind came (Addresses source) (sought, is)))
      (as_kind came (Ends why.WrongDevice live.refusal live.refused_record live.units) (going Looking is refl, refl)))
      (rests came)
  answered_is source answer Addressing is =
      let came = Hears (Answers source answer) in
      either (is_set_answer answer)
      (either (is_agreed answer)
      (as_kind came (Connects live.device) (record { seeking = inr is; known = inl refl }))
      (as_kind came (Ends why.Refused live.refusal live.refused_record live.units) (going Addressing is refl, refl)))
      (rests came)
  answered_is source answer phase is = rests (Hears (Answers source answer))

  -- ---- responses

  -- The request after a plug is answered: its next one is sent, if one is asked.
  plug_steps : (came : Came) (request : PlugRequest) (next : Live) → live.asked ≡ None → live.access.plug ≡ Some request → IsPlugStep live next
      → IsStepped setup live next.access → Then came (asks_next next)
  plug_steps came request next stood waits step asks_so = record {
    both = record {
      kind = IsPlugAnswered next.refusal next.refused_record next.waited next.places next.access;
      holds = (stood, stepped_waiting setup live next.access asks_so, stepped_octets setup live next.access asks_so, asks_so, request, waits);
      is = ap (λ (l : Live). after_turn setup (can_begin live) (asks_next l)) step;
    };
  }

  module _ (response : Response) where
    abbrev heard_now : Came
    heard_now = Hears (Responds response)

    forgets : (sequence : ℕ) → live.asked ≡ Some (asks.Release sequence) → is_answer setup (asks.Release sequence) response.header ≡ true
        → Then heard_now (stays (record live { asked = None }))
    forgets sequence stood right =
        alone heard_now Forgets (Responds response, refl, inl (record { response = response; sequence = sequence; stood = stood; comes = refl; right = right }))
        (as_before (stays (record live { asked = None })) refl)

    abbrev granted_by : (request : Request) → live.asked ≡ Some request → is_answer setup request response.header ≡ true → is_done response.status ≡ true
        → IsGranted setup live heard_now request
    granted_by request stood right granted = record { stood = stood; response = response; comes = refl; right = right; granted = granted }

    module _ (stood : live.asked ≡ Some asks.Connect) (right : is_answer setup asks.Connect response.header ≡ true) (granted : is_done response.status ≡ true) where
      abbrev now_placed : Live
      now_placed = placed setup response.blocks live

      related_is : (found : Option Chosen) → (found ≡ None → ⊥) → chosen_in response.blocks ≡ found → Then heard_now (related_by setup now_placed found)
      related_is (Some chosen) some is =
          alone heard_now (Relates now_placed.places chosen) (granted_by asks.Connect stood right granted, is, refl)
          (writing_none (writing_from setup.plan 0) (standing setup now_placed chosen))
      related_is None some is = absurd (some refl)

      connected_is : (read : Option Found) → found_in 400 response.blocks nothing ≡ read → Then heard_now (connected setup live response.blocks read)
      connected_is (Some found) e =
          if_so_then (is_whole found)
          (λ whole. either_then found.differs
          (releases_then heard_now why.ModuleDiff live.refusal live.refused_record (asked_going asks.Connect stood refl) refl refl)
          (related_is (chosen_of found) (chosen_whole found whole) (ap (λ (o : Option Found). option_and_then (λ (f : Found). chosen_of f) o) e)))
          (rests_then heard_now)
      connected_is None e = rests_then heard_now

    -- a record is refused, which is the one with this number
    passed_is : (number : ℕ) (tries : Option ℕ) (refused : ℕ) (status : Code) → live.asked ≡ Some (write_after number tries)
        → is_answer setup (write_after number tries) response.header ≡ true
        → (is_done response.status && are_written setup.plan number response.blocks) ≡ false
        → Then heard_now (past_record setup (behind_write setup.plan number tries) (noted status refused live))
    passed_is number tries refused status stood right negative =
        by_cases_then setup.plan.continue_on_refused_record
        (λ goes. alone heard_now (Skips number tries refused status)
        (record { stood = stood; response = response; comes = refl; right = right; refused = negative; goes_on = goes })
        (writing_none (behind_write setup.plan number tries) (noted status refused live)))
        (λ ends. by_cases_then setup.plan.release_on_refused_record
        (λ informs. releases_then heard_now why.Refused (Some status) (Some (record { number = refused; status = status }))
        (asked_going (write_after number tries) stood (write_going number tries)) (or_left setup.plan.release_on_refused_record setup.plan.persistent_start informs) refl)
        (λ silent. ends_then heard_now why.Refused (Some status) (Some (record { number = refused; status = status }))
        (asked_going (write_after number tries) stood (write_going number tries)) refl))

    -- a Write is answered, and this became of its records
    outcomes_is : (number : ℕ) (tries : Option ℕ) → live.asked ≡ Some (write_after number tries) → is_answer setup (write_after number tries) response.header ≡ true
        → is_done response.status ≡ true → (outcomes : Outcomes) → outcomes_of setup.plan number response.blocks ≡ outcomes
        → Then heard_now (after_write setup live number (behind_write setup.plan number tries) outcomes)
    outcomes_is number tries stood right granted AllWritten e =
        alone heard_now (Writes number tries) (granted_by (write_after number tries) stood right granted, ap is_all_written e)
        (writing_none (behind_write setup.plan number tries) live)
    outcomes_is number tries stood right granted (Denied place status) e =
        passed_is number tries (first_of setup.plan number + place) status stood right
        (ap (λ (b : Bool). b && are_written setup.plan number response.blocks) granted ∙ ap is_all_written e)
    outcomes_is number tries stood right granted Unreadable e = rests_then heard_now

    -- PrmEnd is accepted
    ended_is : (tries : Option ℕ) → live.asked ≡ Some (end_after tries) → is_answer setup (end_after tries) response.header ≡ true → is_done response.status ≡ true
        → Then heard_now (turn_by setup live (Waits tries))
    ended_is tries stood right granted =
        alone heard_now (Waits tries) (granted_by (end_after tries) stood right granted)
        (none_now (turn_by setup live (Waits tries)) (never live.stands (is_free live.access && is_some (next_waiting live.places))))

    -- a Write, or PrmEnd, is refused as busy, and tried again
    tried_is : (request next : Request) → tried_as request ≡ Some next → live.asked ≡ Some request → is_answer setup request response.header ≡ true
        → is_done response.status ≡ false → is_tried setup.plan response.status (tries_before request) ≡ true → Then heard_now (trying next response.status live)
    tried_is request next tries stood right negative again =
        alone heard_now (Tries next response.status) (record {
          request = request;
          stood = stood;
          tries = tries;
          response = response;
          comes = refl;
          right = right;
          negative = negative;
          is_status = refl;
          again = again;
        })
        (as_before (trying next response.status live) refl)

    done_is : (request : Request) → live.asked ≡ Some request → is_answer setup request response.header ≡ true → is_done response.status ≡ true
        → Then heard_now (done setup live response.blocks request)
    done_is asks.Identify stood right granted = rests_then heard_now
    done_is asks.Address stood right granted = rests_then heard_now
    done_is asks.Connect stood right granted = connected_is stood right granted (found_in 400 response.blocks nothing) refl
    done_is (asks.Write number) stood right granted = outcomes_is number None stood right granted (outcomes_of setup.plan number response.blocks) refl
    done_is (asks.WriteAfter number tries) stood right granted =
        outcomes_is number (Some tries) stood right granted (outcomes_of setup.plan number response.blocks) refl
    done_is asks.PrmEnd stood right granted = ended_is None stood right granted
    done_is (asks.PrmEndAfter tries) stood right granted = ended_is (Some tries) stood right granted
    done_is (asks.Release sequence) stood right granted = forgets sequence stood right

    undone_is : (request : Request) → live.asked ≡ Some request → is_answer setup request response.header ≡ true → is_release request ≡ false → is_done response.status ≡ false
        → Then heard_now (undone setup live response.status request)
    undone_is (asks.Write number) stood right other negative =
        if_so_then (is_tried setup.plan response.status 0)
        (λ again. tried_is (asks.Write number) (asks.WriteAfter number 1) refl stood right negative again)
        (passed_is number None (first_of setup.plan number) response.status stood right
        (ap (λ (b : Bool). b && are_written setup.plan number response.blocks) negative))
    undone_is (asks.WriteAfter number tries) stood right other negative =
        if_so_then (is_tried setup.plan response.status tries)
        (λ again. tried_is (asks.WriteAfter number tries) (asks.WriteAfter number (tries + 1)) refl stood right negative again)
        (passed_is number (Some tries) (first_of setup.plan number) response.status stood right
        (ap (λ (b : Bool). b && are_written setup.plan number response.blocks) negative))
    undone_is asks.PrmEnd stood right other negative =
        if_so_then (is_tried setup.plan response.status 0)
        (λ again. tried_is asks.PrmEnd (asks.PrmEndAfter 1) refl stood right negative again)
        (ends_then heard_now why.Refused (Some response.status) live.refused_record (asked_going asks.PrmEnd stood other) refl)
    undone_is (asks.PrmEndAfter tries) stood right other negative =
        if_so_then (is_tried setup.plan response.status tries)
        (λ again. tried_is (asks.PrmEndAfter tries) (asks.PrmEndAfter (tries + 1)) refl stood right negative again)
        (ends_then heard_now why.Refused (Some response.status) live.refused_record (asked_going (asks.PrmEndAfter tries) stood other) refl)
    undone_is asks.Connect stood right other negative =
        by_cases_then (is_held setup.plan response.status)
        (λ held. releases_then heard_now why.Refused (Some response.status) live.refused_record (asked_going asks.Connect stood refl)
        (or_right setup.plan.release_on_refused_record setup.plan.persistent_start (and_parts setup.plan.persistent_start (is_state_conflict response.status) held).0) refl)
        (λ not. ends_then heard_now why.Refused (Some response.status) live.refused_record (asked_going asks.Connect stood refl) refl)
    undone_is request stood right other negative = ends_then heard_now why.Refused (Some response.status) live.refused_record (asked_going request stood other) refl

    handled_is : (request : Request) → live.asked ≡ Some request → is_answer setup request response.header ≡ true → is_release request ≡ false
        → Then heard_now (handled setup live response request)
    handled_is request stood right other =
        by_cases_then (is_done response.status) (λ granted. done_is request stood right granted) (λ negative. undone_is request stood right other negative)

    decided_is : (request : Request) → live.asked ≡ Some request → is_answer setup request response.header ≡ true
        → Then heard_now (decided setup live response request)
    decided_is (asks.Release sequence) stood right = forgets sequence stood right
    decided_is request stood right = handled_is request stood right refl

    -- of a request of the application
    module _ (stood : live.asked ≡ None) (none : live.access.plug ≡ None) (request : RecordRequest) (waits : live.access.waiting ≡ Some request) where
      replies : (refusal : Option Code) (code : Code) (octets : List ℕ)
          → Then heard_now (stays (record live { refusal = refusal; access = answered_with request code octets live.access }))
      replies refusal code octets =
          record { both = as_kind heard_now (IsReplied refusal (answered_with request code octets live.access)) (stood, refl, refl, request, waits, none, none) }

      brings_is : (octets : Option (List ℕ)) → Then heard_now (stays (brings request octets live))
      brings_is (Some octets) = replies live.refusal no_error octets
      brings_is None = rests_then heard_now

      granted_is : (kind : RecordService) → Then heard_now (stays (granted request response.blocks kind live))
      granted_is service.Read = brings_is (record_in (block_of response.blocks))
      granted_is service.Write = replies live.refusal no_error []

      by_status : (is : Bool) → Then heard_now (stays (if is then granted request response.blocks request.service live else failed response.status request live))
      by_status true = granted_is request.service
      by_status false = replies (Some response.status) response.status []

      by_header : (is : Bool) → Then heard_now (stays (if is then replied_by live response request else live))
      by_header true = by_status (is_done response.status)
      by_header false = rests_then heard_now

    replied_is : (waiting : Option RecordRequest) → live.asked ≡ None → live.access.plug ≡ None → live.access.waiting ≡ waiting
        → Then heard_now (stays (replied setup live response waiting))
    replied_is (Some request) stood none waits = by_header stood none request waits (is_reply setup request response.header)
    replied_is None stood none waits = rests_then heard_now

    -- of the request after a plug
    plug_responded_is : (request : PlugRequest) → live.asked ≡ None → live.access.plug ≡ Some request → Then heard_now (plug_responded setup live response request)
    plug_responded_is request stood waits =
        if_so_then (is_plug_answer setup request response.header.activity response.header.sequence)
        (λ right. plug_steps heard_now request (plug_replied setup live response.status request) stood waits
        (replied_step setup live response.status request) (replied_asks setup live response.status request))
        (rests_then heard_now)

    beside_is : (plug : Option PlugRequest) → live.asked ≡ None → live.access.plug ≡ plug → Then heard_now (beside setup live response plug)
    beside_is (Some request) stood waits = plug_responded_is request stood waits
    beside_is None stood none = replied_is live.access.waiting stood none refl

    responded_is : (asked : Option Request) → live.asked ≡ asked → Then heard_now (responded setup live response asked)
    responded_is (Some request) stood = if_so_then (is_answer setup request response.header) (λ right. decided_is request stood right) (rests_then heard_now)
    responded_is None stood = beside_is live.access.plug stood refl

  -- ---- rejects and faults

  refused_by_is : (refusal : Refusal) (request : Request) → live.asked ≡ Some request → is_refused setup request refusal ≡ true
      → Then (Hears (Refuses refusal)) (refused_by live refusal request)
  refused_by_is refusal (asks.Release sequence) stood right =
      alone (Hears (Refuses refusal)) Forgets
      (Refuses refusal, refl, inr (record { refusal = refusal; sequence = sequence; stood = stood; comes = refl; right = right }))
      (as_before (stays (record live { asked = None })) refl)
  refused_by_is refusal request stood right = ends_then (Hears (Refuses refusal)) why.Refused (Some refusal.status) live.refused_record (asked_going request stood refl) refl

  rejected_is : (refusal : Refusal) (waiting : Option RecordRequest) → live.asked ≡ None → live.access.plug ≡ None → live.access.waiting ≡ waiting
      → Then (Hears (Refuses refusal)) (stays (rejected setup live refusal waiting))
  rejected_is refusal None stood none waits = rests_then (Hears (Refuses refusal))
  rejected_is refusal (Some request) stood none waits = by_header (is_rejected setup request refusal)
    where
      by_header : (is : Bool) → Then (Hears (Refuses refusal)) (stays (if is then failed refusal.status request live else live))
      by_header true =
          record {
            both = as_kind (Hears (Refuses refusal)) (IsReplied (Some refusal.status) (answered_with request refusal.status [] live.access))
                (stood, refl, refl, request, waits, none, none);
          }
      by_header false = rests_then (Hears (Refuses refusal))

  -- The request after a plug is refused: none is sent.
  sends_none : (next : Live) → next.access ≡ unplugged live.access → asks_next next ≡ stays next
  sends_none next e = ap (λ (a : Accessing). let turn : Turn = record { live = next; sent = plugs_by next.device a.plug } in turn) e

  plug_rejected_is : (refusal : Refusal) (request : PlugRequest) → live.asked ≡ None → live.access.plug ≡ Some request
      → Then (Hears (Refuses refusal)) (stays (plug_rejected setup live refusal request))
  plug_rejected_is refusal request stood waits = by_header (is_plug_answer setup request refusal.activity refusal.sequence)
    where
      by_header : (is : Bool) → Then (Hears (Refuses refusal)) (stays (if is then rejected_now setup live refusal request else live))
      by_header true =
          let asks_none = rejected_asks setup live refusal request in
          subst (λ (t : Turn). Then (Hears (Refuses refusal)) t) (sends_none (rejected_now setup live refusal request) asks_none)
          (plug_steps (Hears (Refuses refusal)) request (rejected_now setup live refusal request) stood waits (rejected_step setup live refusal request) (inl asks_none))
      by_header false = rests_then (Hears (Refuses refusal))

  refused_beside_is : (refusal : Refusal) (plug : Option PlugRequest) → live.asked ≡ None → live.access.plug ≡ plug
      → Then (Hears (Refuses refusal)) (stays (refused_beside setup live refusal plug))
  refused_beside_is refusal (Some request) stood waits = plug_rejected_is refusal request stood waits
  refused_beside_is refusal None stood none = rejected_is refusal live.access.waiting stood none refl

  refused_is : (refusal : Refusal) (asked : Option Request) → live.asked ≡ asked → Then (Hears (Refuses refusal)) (refused setup live refusal asked)
  refused_is refusal (Some request) stood =
      if_so_then (is_refused setup request refusal) (λ right. refused_by_is refusal request stood right) (rests_then (Hears (Refuses refusal)))
  refused_is refusal None stood = refused_beside_is refusal live.access.plug stood refl

  -- ---- ApplicationReady

  readied_is : (caller : Caller) (call : Call) (block : ControlBlock) (phase : State) → live.phase ≡ phase → IsReadied setup (Hears (Calls caller call)) caller call block
      → IsTurn setup live (Hears (Calls caller call)) (readied live caller call block phase)
  readied_is caller call block Ending is ready = as_kind (Hears (Calls caller call)) (Begins caller call block) (inl is, ready)
  readied_is caller call block Waiting is ready = as_kind (Hears (Calls caller call)) (Begins caller call block) (inr is, ready)
  readied_is caller call block Exchanging is ready = as_kind (Hears (Calls caller call)) (Repeats caller call block) (is, ready)
  readied_is caller call block phase is ready = rests (Hears (Calls caller call))

  plug_called_is : (caller : Caller) (call : Call) (block : Option PlugControlBlock) → ready_in call ≡ None → plug_ready_in call ≡ block
      → Then (Hears (Calls caller call)) (plug_called setup live caller call block)
  plug_called_is caller call (Some block) none is =
      if_so_then (is_plug_ready setup block && is_plug_awaited live block.alarm_sequence_number)
      (λ e.
      let parts = and_parts (is_plug_ready setup block) (is_plug_awaited live block.alarm_sequence_number) e in
      let awaited = and_parts (is_exchanging live.phase) (is_awaited block.alarm_sequence_number live.places) parts.1 in
      record { both = as_kind (Hears (Calls caller call)) (IsPlugReadied caller call block) (exchanging_is live.phase awaited.0, refl, none, is, parts.0) })
      (rests_then (Hears (Calls caller call)))
  plug_called_is caller call None none is = rests_then (Hears (Calls caller call))

  called_is : (caller : Caller) (call : Call) (block : Option ControlBlock) → ready_in call ≡ block
      → IsTurn setup live (Hears (Calls caller call)) (called setup live caller call block)
  called_is caller call (Some block) is =
      if_so (is_ready setup block) (λ right. readied_is caller call block live.phase refl (record { comes = refl; is = is; right = right })) (rests (Hears (Calls caller call)))
  called_is caller call None is = (plug_called_is caller call (plug_ready_in call) is refl).both

  -- ---- alarms, and cyclic frames

  -- Alarms change nothing that is in the way of a place.
  end_begins : (priority : Priority) (end : ControllerEnd) → can_begin (with_end live priority end) ≡ can_begin live
  end_begins High end = refl
  end_begins Low end = refl

  noticed_is : (source : Mac) (under : Priority) (header : Header) (reported : ToController) → live.stands ≡ true
      → Then (Hears (Alarms source under header reported)) (noticed live under reported)
  noticed_is source under header (notice.Data number report) up =
      record { both = as_kind (Hears (Alarms source under header (notice.Data number report))) (Takes number report) (up, source, under, header, refl) }
  noticed_is source under header (notice.Ack number) up =
      let priority = acked_under live under in
      alone (Hears (Alarms source under header (notice.Ack number))) (IsAcked priority number) (up, source, under, header, refl, refl)
      (as_before (stays (behind_ack live priority number)) (end_begins priority (with_ack (end_of live priority) number)))
  noticed_is source under header notice.Nack up = rests_then (Hears (Alarms source under header notice.Nack))
  noticed_is source under header (notice.Abort status) up =
      ends_then (Hears (Alarms source under header (notice.Abort status))) why.Aborted live.refusal live.refused_record (up_going up) refl

  come_is : (source : Mac) (frame_id : ℕ) (body : List ℕ) (is : Bool) → live.stands ≡ is
      → IsTurn setup live (Hears (Comes source frame_id body)) (stays (if is then record live { cyclic = behind_frame live.cyclic source frame_id body } else live))
  come_is source frame_id body true up = as_kind (Hears (Comes source frame_id body)) (Follows source frame_id body) up
  come_is source frame_id body false down = rests (Hears (Comes source frame_id body))

  turned_is : (heard : Heard) → IsTurn setup live (Hears heard) (turned setup live heard)
  turned_is Nothing = rests (Hears Nothing)
  turned_is (Answers source answer) = answered_is source answer live.phase refl
  turned_is (Responds response) = (responded_is response live.asked refl).both
  turned_is (Refuses refusal) = (refused_is refusal live.asked refl).both
  turned_is (Calls caller call) = called_is caller call (ready_in call) refl
  turned_is (Comes source frame_id body) = come_is source frame_id body live.stands refl
  turned_is (Alarms source under header reported) =
      (if_so_then (live.stands && is_alarm live.cyclic.route source header)
      (λ e. noticed_is source under header reported (and_parts live.stands (is_alarm live.cyclic.route source header) e).0)
      (rests_then (Hears (Alarms source under header reported)))).both

  -- ---- units, and the application

  flowed_is : (ending : Option Abort) → live.stands ≡ true → (brought live).ending ≡ ending
      → IsTurn setup live Passes (flowed (flow_begun setup live) (due live.alarms.sending) (due live.low_alarms.sending) (is_again live) (brought live) ending)
  flowed_is (Some reason) up e = as_kind Passes (Breaks reason) (refl, up, e)
  flowed_is None up e = as_kind Passes Flows (refl, up, e)

  ticked_is : (is : Bool) → live.stands ≡ is
      → IsTurn setup live Passes (if is then flowed (flow_begun setup live) (due live.alarms.sending) (due live.low_alarms.sending) (is_again live) (brought live) (brought live).ending
      else record { live = unit_begun setup live; sent = where_due (is_again live) (requests_of live.device live.asked) })
  ticked_is true up = flowed_is (brought live).ending up refl
  ticked_is false down = record {
    kind = Idles;
    holds = (refl, down);
    is = ap (λ (l : Live). let turn : Turn = record { live = l; sent = where_due (is_again live) (requests_of live.device live.asked) } in turn) (idle_is setup live down);
  }

  -- a unit with which the patience of a phase ends
  spent_is : (phase : State) → live.phase ≡ phase → is_limited phase ≡ true → IsTurn setup live Passes (quit setup why.NoProgress (later live) phase)
  spent_is Looking is limited = absurd (false≢true limited)
  spent_is Addressing is limited = as_kind Passes (Ends why.NoProgress live.refusal live.refused_record ((live.units + 1) % 65536)) (going Addressing is refl, refl)
  spent_is Exchanging is limited = absurd (false≢true limited)
  spent_is (Ended cause) is limited = absurd (false≢true limited)
  spent_is phase is limited = as_kind Passes (Releases why.NoProgress live.refusal live.refused_record ((live.units + 1) % 65536)) (going phase is refl, refl, refl)

  passes_is : (is : Bool) → is_spent live ≡ is
      → IsTurn setup live Passes (if is then quit setup why.NoProgress (later live) live.phase else gone_on (unit_begun setup live) (is_again live))
  passes_is true spent = spent_is live.phase refl (and_parts (is_limited live.phase) (live.left == 1) spent).0
  passes_is false going_on = subst (λ (t : Turn). IsTurn setup live Passes t) (sym (gone_is setup live)) (ticked_is live.stands refl)

  stopped_is : (phase : State) → live.phase ≡ phase → IsTurn setup live Halts (stopped setup live phase)
  stopped_is Looking is = as_kind Halts (Ends why.Stopped live.refusal live.refused_record live.units) (going Looking is refl, refl)
  stopped_is Addressing is = as_kind Halts (Ends why.Stopped live.refusal live.refused_record live.units) (going Addressing is refl, refl)
  stopped_is (Ended cause) is = rests Halts
  stopped_is phase is = as_kind Halts (Releases why.Stopped live.refusal live.refused_record live.units) (going phase is refl, refl, refl)

  requested_is : (came : Came) (kind : RecordService) (slot subslot index : ℕ) (octets : List ℕ) → length octets ≤ most_record_octets
      → IsTurn setup live came (requested setup live kind slot subslot index octets)
  requested_is came kind slot subslot index octets few =
      if_so (can_request live)
      (λ e.
      let parts = and_parts (is_exchanging live.phase) (is_free live.access) e in
      let free = and_parts (not (is_some live.access.waiting)) (not (is_some live.access.plug)) parts.1 in
      as_kind came (Asks (request_for setup live kind slot subslot index) octets)
      (exchanging_is live.phase parts.0, none_is live.access.waiting free.0, refl, few, none_is live.access.plug free.1))
      (rests came)

  written_is : (came : Came) (slot subslot index : ℕ) (octets : List ℕ) → IsTurn setup live came (written setup live slot subslot index octets)
  written_is came slot subslot index octets =
      by_cases (nat_lt most_record_octets (length octets)) (λ e. rests came)
      (λ e. requested_is came service.Write slot subslot index octets (ltb-false most_record_octets (length octets) e))

  pub turn_is : (came : Came) → IsTurn setup live came (turn_for setup live came)
  turn_is (Hears heard) = turned_is heard
  turn_is Passes = passes_is (is_spent live) refl
  turn_is (Gets slot subslot value) = as_kind (Gets slot subslot value) (Gives slot subslot value) refl
  turn_is (GetsStatus slot subslot is_good) = as_kind (GetsStatus slot subslot is_good) (GivesStatus slot subslot is_good) refl
  turn_is (AsksRead slot subslot index) = requested_is (AsksRead slot subslot index) service.Read slot subslot index [] (omega arith)
  turn_is (AsksWrite slot subslot index octets) = written_is (AsksWrite slot subslot index octets) slot subslot index octets
  turn_is Halts = stopped_is live.phase refl

  pub event_is : (event : Event) → IsTurn setup live (came_by setup event) (turn_of setup live event)
  event_is (Frame bytes) = turn_is (Hears (heard_of setup.plan.controller bytes.items))
  event_is Tick = turn_is Passes
  event_is (Give slot subslot value) = turn_is (Gets slot subslot value.items)
  event_is (Status slot subslot is_good) = turn_is (GetsStatus slot subslot is_good)
  event_is (Read slot subslot index) = turn_is (AsksRead slot subslot index)
  event_is (Write slot subslot index octets) = turn_is (AsksWrite slot subslot index octets.items)
  event_is Stop = turn_is Halts
