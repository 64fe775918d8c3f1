-- Data is exchanged from exactly the step that answers an ApplicationReady of the relation.
use Rattle.std.proofs.Common.{◌≡◌, ◌⊎◌, ◌&&◌, ◌||◌, not, ℕ, zero, suc, Bool, true, false, List, [], ◌∷◌, map, Option, Some, None, if◌then◌else◌, refl, sym, ap, subst, ◌∙◌, inl, inr, nat_lt, length, ◌+◌}
use Rattle.std.proofs.lemmas.Bool.{cond-true}
use Rattle.pn_values.specs.declared.mac.Mac.{Mac}
use Rattle.frame_codec.specs.declared.udp.Caller.{Caller}
use Rattle.dcp_core.specs.Response.{Answered}
use Rattle.dcp_core.specs.Answered.{is_agreed}
use Rattle.rpc_core.specs.declared.response.Status.{Status}
use Rattle.rpc_core.specs.Call.{Asked as Call}
use Rattle.rpc_core.specs.Response.{Answered as Response, is_done}
use Rattle.connect_blocks.specs.declared.control.ControlBlock.{ControlBlock}
use Rattle.connect_blocks.specs.declared.plug_control.PlugControlBlock.{PlugControlBlock}
use Rattle.block_codec.specs.Block.{block_of}
use Rattle.pn_alarms.specs.declared.abort.Abort.{Abort}
use Rattle.pn_alarms.specs.declared.message.Notice.TheVariants as notice
use Rattle.record_blocks.specs.declared.alarm_notification.AlarmNotification.{AlarmNotification}
use Rattle.pn_alarms.specs.Ends.{ControllerEnd}
use Rattle.pn_alarms.specs.declared.repeats.Due.{Due}
use Rattle.cyclic_data.specs.exchange.Units.{Brought}
use Rattle.pn_alarms.specs.declared.receiver.Taken.{Taken}
use Rattle.pn_alarms.specs.declared.receiver.Taken.TheVariants.{New, Again, Refused}
use Rattle.pn_alarms.specs.Receiver.{taken_as}
use Rattle.diagnosis.specs.declared.reports.priority.Priority.{Priority}
use Rattle.diagnosis.specs.declared.reports.priority.Priority.TheVariants.{High, Low}
use Rattle.diagnosis.specs.declared.reports.report.Report.{Report}
use Rattle.diagnosis.specs.reports.Message.{ToController}
use Rattle.controller_messages.specs.declared.record_request.RecordRequest.{RecordRequest}
use Rattle.controller_messages.specs.declared.record_request.RecordService.{RecordService}
use Rattle.controller_messages.specs.declared.record_request.RecordService.TheVariants as service
use Rattle.controller_messages.specs.declared.plug_request.PlugRequest.{PlugRequest}
use Rattle.controller_messages.specs.declared.plug_request.PlugStep.{PlugStep}
use Rattle.controller_messages.specs.declared.plug_request.PlugStep.TheVariants as steps
use Rattle.controller_messages.specs.declared.refusal.Refusal.{Refusal}
use Rattle.controller_messages.specs.declared.setup.Setup.{Setup}
use Rattle.controller_messages.specs.declared.request.Request.{Request}
use Rattle.controller_messages.specs.declared.request.Request.TheVariants as asks
use Rattle.controller_messages.specs.Heard.{Heard, Nothing, Answers, Responds, Refuses, Calls, Alarms, heard_of}
use Rattle.controller_messages.specs.Heard.{Cyclic as Comes}
use Rattle.controller_messages.specs.Access.{is_rejected, is_reply, record_in}
use Rattle.controller_messages.specs.PlugRequests.{is_plug_answer, is_plug_ready, plug_ready_in}
use Rattle.controller_messages.specs.RecordRequests.{most_record_octets}
use Rattle.controller_messages.specs.Requests.{first_of, writing_after, writing_from}
use Rattle.controller_messages.specs.Sent.{Agrees, bytes_of, ready_answer}
use Rattle.connects.specs.declared.answers.connect.Found.{Found}
use Rattle.connects.specs.answers.Connect.{Chosen, chosen_of, found_in, is_whole, nothing}
use Rattle.plan_places.specs.declared.report.Plug.{Plug}
use Rattle.plan_places.specs.Places.{has_turn_at, next_waiting}
use Rattle.controller_core.specs.declared.start_up.outcomes.Outcomes.{Outcomes}
use Rattle.controller_core.specs.declared.start_up.outcomes.Outcomes.TheVariants.{AllWritten, Unreadable}
use Rattle.controller_core.specs.declared.start_up.outcomes.Outcomes.TheVariants.{Refused as Denied}
use Rattle.controller_core.specs.declared.stored.event.Event.{Event}
use Rattle.controller_core.specs.declared.stored.event.Event.TheVariants.{Frame, Tick, Give, Status as Rate, Read, Write, Stop}
use Rattle.controller_core.specs.declared.stored.state.Cause.{Cause}
use Rattle.controller_core.specs.declared.stored.state.Cause.TheVariants as cause
use Rattle.controller_core.specs.declared.stored.state.State.{State}
use Rattle.controller_core.specs.declared.stored.state.State.TheVariants.{Looking, Addressing, Connecting, Writing, Ending, Waiting, Exchanging, Ended}
use Rattle.controller_core.specs.stored.State.{Controlling, Live}
use Rattle.controller_core.specs.stored.Alarms.{ack_of, is_alarm}
use Rattle.controller_core.specs.start_up.Answers.{is_addressed, is_answer, is_found, is_held, is_ready, is_refused, is_right, is_set_answer, is_tried, ready_in}
use Rattle.controller_core.specs.start_up.Outcomes.{outcomes_of}
use Rattle.controller_core.specs.Machine.{Turn, acked_under, acking, after_turn, after_write, alarmed, answered, begun_by, begun_turn, behind_data, beside, brings, brought, called, can_begin, can_request, come, connected, decided, done, end_of, exchange_later, flowed, given, gone_on, granted, handled, is_again, is_plug_awaited, is_spent, keeping, later, noted, noticed, past_record, placed, plug_called, plug_finished, plug_passed_by, plug_refused, plug_replied, plug_responded, quit, rated, readied, refused, refused_beside, refused_by, refused_end, refused_place, refused_write, rejected, related_by, replied, requested, responded, standing, stays, step_of, taken, ticked, turn_due, turn_of, turned, undone, with_end, writing, written}
use Rattle.controller_core.specs.Readied.{IsReadied}
use Rattle.controller_core.specs.Leaps.{ticks_of}

-- If data is exchanged after the turn, it was exchanged before.
abbrev Goes : Live → Turn → Type 0
Goes live turn = turn.live.phase ≡ Exchanging → live.phase ≡ Exchanging

either : (live : Live) (x y : Turn) (is : Bool) → Goes live x → Goes live y → Goes live (if is then x else y)
either live x y true one other = one
either live x y false one other = other

phase_by : (b : Bool) (one other now : Live) → one.phase ≡ now.phase → other.phase ≡ now.phase → (if b then one else other).phase ≡ now.phase
phase_by true one other now same rest = same
phase_by false one other now same rest = rest

module _ (setup : Setup) (live : Live) where
  rests : Goes live (stays live)
  rests e = e

  -- ---- ends, and what is asked

  quits : (why : Cause) (now : Live) (phase : State) → now.phase ≡ live.phase → Goes live (quit setup why now phase)
  quits why now Looking same e = absurd cc
  quits why now Addressing same e = absurd cc
  quits why now Connecting same e = absurd cc
  quits why now Writing same e = absurd cc
  quits why now Ending same e = absurd cc
  quits why now Waiting same e = absurd cc
  quits why now Exchanging same e = absurd cc
  quits why now (Ended before) same e = sym same ∙ e

  writes : (request : Request) (now : Live) → Goes live (writing setup request now)
  writes (asks.Write number) now e = absurd cc
  writes asks.Identify now e = absurd cc
  writes asks.Address now e = absurd cc
  writes asks.Connect now e = absurd cc
  writes asks.PrmEnd now e = absurd cc
  writes (asks.Release sequence) now e = absurd cc
  writes (asks.WriteAfter number tries) now e = absurd cc
  writes (asks.PrmEndAfter tries) now e = absurd cc

  -- ---- DCP answers

  answers_go : (source : Mac) (answer : Answered) (phase : State) → Goes live (answered setup live source answer phase)
  answers_go source answer Looking =
      either live _ _ (is_found setup.plan answer)
      (either live _ _ (is_right setup.plan answer) (either live _ _ (is_addressed setup.plan answer) (λ e. absurd cc) (λ e. absurd cc)) (λ e. absurd cc)) rests
  answers_go source answer Addressing = either live _ _ (is_set_answer answer) (either live _ _ (is_agreed answer) (λ e. absurd cc) (λ e. absurd cc)) rests
  answers_go source answer Connecting = rests
  answers_go source answer Writing = rests
  answers_go source answer Ending = rests
  answers_go source answer Waiting = rests
  answers_go source answer Exchanging = rests
  answers_go source answer (Ended before) = rests

  -- ---- responses

  relates : (now : Live) → now.phase ≡ live.phase → (chosen : Option Chosen) → Goes live (related_by setup now chosen)
  relates now same (Some chosen) e = writes (writing_from setup.plan 0) (standing setup now chosen) e
  relates now same None e = sym same ∙ e

  connects : (blocks : List ℕ) (found : Option Found) → Goes live (connected setup live blocks found)
  connects blocks (Some found) =
      either live _ _ (is_whole found) (either live _ _ found.differs (λ e. absurd cc) (relates (placed setup blocks live) refl (chosen_of found))) rests
  connects blocks None = rests

  passes : (next : Request) (now : Live) → Goes live (past_record setup next now)
  passes next now =
      either live _ _ setup.plan.continue_on_refused_record (writes next now)
      (either live _ _ setup.plan.release_on_refused_record (λ e. absurd cc) (λ e. absurd cc))

  after_writes : (number : ℕ) (next : Request) (outcomes : Outcomes) → Goes live (after_write setup live number next outcomes)
  after_writes number next AllWritten = writes next live
  after_writes number next (Denied place status) = passes next (noted status (first_of setup.plan number + place) live)
  after_writes number next Unreadable = rests

  done_goes : (blocks : List ℕ) (request : Request) → Goes live (done setup live blocks request)
  done_goes blocks asks.Identify e = rests e
  done_goes blocks asks.Address e = rests e
  done_goes blocks asks.Connect e = connects blocks (found_in 400 blocks nothing) e
  done_goes blocks (asks.Write number) e = after_writes number (writing_from setup.plan (number + 1)) (outcomes_of setup.plan number blocks) e
  done_goes blocks (asks.WriteAfter number tries) e =
      after_writes number (writing_after setup.plan (number + 1) tries) (outcomes_of setup.plan number blocks) e
  done_goes blocks (asks.PrmEndAfter tries) e = absurd cc
  done_goes blocks asks.PrmEnd e = absurd cc
  done_goes blocks (asks.Release sequence) e = e

  refuses_write : (status : Status) (number tries : ℕ) (next : Request) → Goes live (refused_write setup live status number tries next)
  refuses_write status number tries next =
      either live _ _ (is_tried setup.plan status tries) rests (passes next (noted status (first_of setup.plan number) live))

  refuses_end : (status : Status) (tries : ℕ) → Goes live (refused_end setup live status tries)
  refuses_end status tries = either live _ _ (is_tried setup.plan status tries) rests (λ e. absurd cc)

  undone_goes : (status : Status) (request : Request) → Goes live (undone setup live status request)
  undone_goes status (asks.Write number) e = refuses_write status number 0 (writing_from setup.plan (number + 1)) e
  undone_goes status (asks.WriteAfter number tries) e = refuses_write status number tries (writing_after setup.plan (number + 1) tries) e
  undone_goes status asks.Identify e = absurd cc
  undone_goes status asks.Address e = absurd cc
  undone_goes status asks.Connect e = either live _ _ (is_held setup.plan status) (λ e. absurd cc) (λ e. absurd cc) e
  undone_goes status asks.PrmEnd e = refuses_end status 0 e
  undone_goes status (asks.PrmEndAfter tries) e = refuses_end status tries e
  undone_goes status (asks.Release sequence) e = absurd cc

  handled_goes : (response : Response) (request : Request) → Goes live (handled setup live response request)
  handled_goes response request = either live _ _ (is_done response.status) (done_goes response.blocks request) (undone_goes response.status request)

  decides : (response : Response) (request : Request) → Goes live (decided setup live response request)
  decides response (asks.Release sequence) e = e
  decides response asks.Identify e = handled_goes response asks.Identify e
  decides response asks.Address e = handled_goes response asks.Address e
  decides response asks.Connect e = handled_goes response asks.Connect e
  decides response (asks.Write number) e = handled_goes response (asks.Write number) e
  decides response asks.PrmEnd e = handled_goes response asks.PrmEnd e
  decides response (asks.WriteAfter number tries) e = handled_goes response (asks.WriteAfter number tries) e
  decides response (asks.PrmEndAfter tries) e = handled_goes response (asks.PrmEndAfter tries) e

  brings_go : (request : RecordRequest) (octets : Option (List ℕ)) → Goes live (stays (brings request octets live))
  brings_go request (Some octets) e = e
  brings_go request None e = e

  grants : (request : RecordRequest) (blocks : List ℕ) (kind : RecordService) → Goes live (stays (granted request blocks kind live))
  grants request blocks service.Read e = brings_go request (record_in (block_of blocks)) e
  grants request blocks service.Write e = e

  if_stays : (is : Bool) (one other : Live) → Goes live (stays one) → Goes live (stays other) → Goes live (stays (if is then one else other))
  if_stays true one other a b = a
  if_stays false one other a b = b

  replied_goes : (response : Response) (waiting : Option RecordRequest) → Goes live (stays (replied setup live response waiting))
  replied_goes response (Some request) =
      if_stays (is_reply setup request response.header) _ _
      (if_stays (is_done response.status) _ _ (grants request response.blocks request.service) (λ e. e)) rests
  replied_goes response None = rests

  -- ---- the turns of places

  begun_by_same : (next : Option Plug) (now : Live) → (begun_by setup next now).phase ≡ now.phase
  begun_by_same (Some one) now = refl
  begun_by_same None now = refl

  begun_same : (now : Live) → (begun_turn setup now).phase ≡ now.phase
  begun_same now = phase_by (can_begin now) _ now now (begun_by_same (next_waiting now.places) now) refl

  after_goes : (could : Bool) (turn : Turn) → Goes live turn → Goes live (after_turn setup could turn)
  after_goes could turn goes = either live turn _ (could || not (can_begin turn.live)) goes (λ e. goes (sym (begun_same turn.live) ∙ e))

  passed_same : (now : Live) (request : PlugRequest) (step : PlugStep) → (plug_passed_by setup now request step).phase ≡ now.phase
  passed_same now request (steps.Record number) = phase_by (has_turn_at request.slot request.subslot now.places) _ now now refl refl
  passed_same now request steps.PrmEnd = refl

  refused_same : (request : PlugRequest) (now : Live) → (refused_place request now).phase ≡ now.phase
  refused_same request now = phase_by (has_turn_at request.slot request.subslot now.places) _ now now refl refl

  plug_refused_same : (now : Live) (status : Status) (request : PlugRequest) (step : PlugStep) → (plug_refused setup now status request step).phase ≡ now.phase
  plug_refused_same now status request (steps.Record number) =
      phase_by setup.plan.continue_on_refused_record _ _ now (passed_same (noted status number now) request request.step) (refused_same request (noted status number now))
  plug_refused_same now status request steps.PrmEnd = refused_same request (record now { refusal = Some status })

  plug_replied_same : (status : Status) (request : PlugRequest) → (plug_replied setup live status request).phase ≡ live.phase
  plug_replied_same status request =
      phase_by (is_done status) _ _ live (passed_same (plug_finished live) request request.step) (plug_refused_same (plug_finished live) status request request.step)

  plug_responds : (response : Response) (request : PlugRequest) → Goes live (plug_responded setup live response request)
  plug_responds response request =
      either live _ _ (is_plug_answer setup request response.header.activity response.header.sequence)
      (λ e. sym (plug_replied_same response.status request) ∙ e) rests

  besides : (response : Response) (request : Option PlugRequest) → Goes live (beside setup live response request)
  besides response (Some request) = plug_responds response request
  besides response None = replied_goes response live.access.waiting

  plug_calls : (caller : Caller) (call : Call) (block : Option PlugControlBlock) → Goes live (plug_called setup live caller call block)
  plug_calls caller call (Some block) = either live _ _ (is_plug_ready setup block && is_plug_awaited live block.alarm_sequence_number) (λ e. e) rests
  plug_calls caller call None = rests

  responds : (response : Response) (asked : Option Request) → Goes live (responded setup live response asked)
  responds response (Some request) = either live _ _ (is_answer setup request response.header) (decides response request) rests
  responds response None = besides response live.access.plug

  -- ---- rejects and faults

  refuses_by : (refusal : Refusal) (request : Request) → Goes live (refused_by live refusal request)
  refuses_by refusal (asks.Release sequence) e = e
  refuses_by refusal asks.Identify e = absurd cc
  refuses_by refusal asks.Address e = absurd cc
  refuses_by refusal asks.Connect e = absurd cc
  refuses_by refusal (asks.Write number) e = absurd cc
  refuses_by refusal asks.PrmEnd e = absurd cc
  refuses_by refusal (asks.WriteAfter number tries) e = absurd cc
  refuses_by refusal (asks.PrmEndAfter tries) e = absurd cc

  rejects : (refusal : Refusal) (waiting : Option RecordRequest) → Goes live (stays (rejected setup live refusal waiting))
  rejects refusal (Some request) = if_stays (is_rejected setup request refusal) _ _ (λ e. e) rests
  rejects refusal None = rests

  refuses_beside : (refusal : Refusal) (request : Option PlugRequest) → Goes live (stays (refused_beside setup live refusal request))
  refuses_beside refusal (Some request) =
      if_stays (is_plug_answer setup request refusal.activity refusal.sequence) _ _
      (λ e. sym (refused_same request (record (plug_finished live) { refusal = Some refusal.status })) ∙ e) rests
  refuses_beside refusal None = rejects refusal live.access.waiting

  refuses : (refusal : Refusal) (asked : Option Request) → Goes live (refused setup live refusal asked)
  refuses refusal (Some request) = either live _ _ (is_refused setup request refusal) (refuses_by refusal request) rests
  refuses refusal None = refuses_beside refusal live.access.plug

  -- ---- alarms

  end_same : (now : Live) (priority : Priority) (end : ControllerEnd) → (with_end now priority end).phase ≡ now.phase
  end_same now High end = refl
  end_same now Low end = refl

  kept_same : (now : Live) (priority : Priority) (alarm : AlarmNotification) (structure : Option ℕ) → (keeping now priority alarm structure).phase ≡ now.phase
  kept_same now High alarm structure = refl
  kept_same now Low alarm structure = refl

  taken_same : (now : Live) (report : Report) (came : Taken) → (taken now report came).live.phase ≡ now.phase
  taken_same now report New = kept_same (acking now report.priority (ack_of report.notification)) report.priority _ _ ∙ end_same now report.priority _
  taken_same now report Again = refl
  taken_same now report Refused = refl

  notices : (under : Priority) (reported : ToController) → Goes live (noticed live under reported)
  notices under (notice.Data number report) e =
      sym (taken_same (behind_data live report.priority number) report (taken_as (end_of live report.priority).seen number) ∙ end_same live report.priority _) ∙ e
  notices under (notice.Ack number) e = sym (end_same live (acked_under live under) _) ∙ e
  notices under notice.Nack e = e
  notices under (notice.Abort status) e = absurd cc

  -- ---- units, and the application

  flows : (now : Live) → now.phase ≡ live.phase → (high low : Due) (is_request : Bool) (tick : Brought) (ending : Option Abort)
      → Goes live (flowed (exchange_later now) high low is_request tick ending)
  flows now same high low is_request tick (Some reason) e = absurd cc
  flows now same high low is_request tick None e = sym same ∙ e

  goes_later : (now : Live) → now.phase ≡ live.phase → (is_request : Bool) → Goes live (gone_on now is_request)
  goes_later now same is_request = either live _ _ now.stands (flows now same _ _ is_request (brought now) (brought now).ending) (λ e. sym same ∙ e)

  due_same : (is_due : Bool) (now : Live) → (turn_due setup is_due now).phase ≡ now.phase
  due_same is_due now = phase_by is_due _ now now (begun_same now) refl

  ticks : Goes live (ticked setup live)
  ticks =
      either live _ _ (is_spent live) (quits cause.NoProgress (later live) live.phase refl)
      (goes_later (turn_due setup (is_again live) (later live)) (due_same (is_again live) (later live)) (is_again live))

  asks_record : (kind : RecordService) (slot subslot index : ℕ) (octets : List ℕ) → Goes live (requested setup live kind slot subslot index octets)
  asks_record kind slot subslot index octets = either live _ _ (can_request live) (λ e. e) rests

  -- ---- ApplicationReady

  -- If data is exchanged after a turn, it was before, or an ApplicationReady is answered.
  abbrev Begins : Event → Turn → Type 0
  Begins event turn = turn.live.phase ≡ Exchanging
      → (live.phase ≡ Exchanging) ⊎ IsReadied (record { setup = setup; live = live }) event (map (bytes_of setup) turn.sent)

  goes_on : (event : Event) (turn : Turn) → Goes live turn → Begins event turn
  goes_on event turn goes e = inl (goes e)

  module _ (octets : List ℕ) (caller : Caller) (call : Call) (heard : heard_of setup.plan.controller octets ≡ Calls caller call) where
    abbrev came : Event
    came = Frame (record { items = octets })

    answers_it : (block : ControlBlock) → ready_in call ≡ Some block → is_ready setup block ≡ true
        → IsReadied (record { setup = setup; live = live }) came (bytes_of setup (Agrees caller (ready_answer call block)) ∷ [])
    answers_it block is right = record { octets = octets; comes = refl; caller = caller; call = call; heard = heard; block = block; is = is; right = right; sends = refl }

    readies : (block : ControlBlock) → ready_in call ≡ Some block → is_ready setup block ≡ true → (phase : State) → live.phase ≡ phase
        → Begins came (readied live caller call block phase)
    readies block is right Ending same e = inr (answers_it block is right)
    readies block is right Waiting same e = inr (answers_it block is right)
    readies block is right Exchanging same e = inl same
    readies block is right Looking same e = inl e
    readies block is right Addressing same e = inl e
    readies block is right Connecting same e = inl e
    readies block is right Writing same e = inl e
    readies block is right (Ended before) same e = inl e

    by_right : (block : ControlBlock) → ready_in call ≡ Some block → (is : Bool) → is_ready setup block ≡ is
        → Begins came (if is then readied live caller call block live.phase else stays live)
    by_right block is true right e = readies block is right live.phase refl e
    by_right block is false wrong e = inl e

    by_block : (block : Option ControlBlock) → ready_in call ≡ block → Begins came (called setup live caller call block)
    by_block (Some block) is e = by_right block is (is_ready setup block) refl e
    by_block None is e = inl (after_goes (can_begin live) (plug_called setup live caller call (plug_ready_in call)) (plug_calls caller call (plug_ready_in call)) e)

  by_heard : (octets : List ℕ) (heard : Heard) → heard_of setup.plan.controller octets ≡ heard → Begins (Frame (record { items = octets })) (turned setup live heard)
  by_heard octets Nothing is = goes_on (Frame (record { items = octets })) (turned setup live Nothing) rests
  by_heard octets (Answers source answer) is = goes_on (Frame (record { items = octets })) (turned setup live (Answers source answer)) (answers_go source answer live.phase)
  by_heard octets (Responds response) is = goes_on (Frame (record { items = octets })) (turned setup live (Responds response)) (after_goes (can_begin live) (responded setup live response live.asked) (responds response live.asked))
  by_heard octets (Refuses refusal) is = goes_on (Frame (record { items = octets })) (turned setup live (Refuses refusal)) (after_goes (can_begin live) (refused setup live refusal live.asked) (refuses refusal live.asked))
  by_heard octets (Calls caller call) is = by_block octets caller call is (ready_in call) refl
  by_heard octets (Comes source frame_id body) is = goes_on (Frame (record { items = octets })) (stays (come live source frame_id body)) (if_stays live.stands _ _ (λ e. e) rests)
  by_heard octets (Alarms source under header reported) is =
      goes_on (Frame (record { items = octets })) (turned setup live (Alarms source under header reported))
      (after_goes (can_begin live) (alarmed live source under header reported) (either live _ _ (live.stands && is_alarm live.cyclic.route source header) (notices under reported) rests))

  pub begins : (event : Event) → Begins event (turn_of setup live event)
  begins (Frame bytes) = by_heard bytes.items (heard_of setup.plan.controller bytes.items) refl
  begins Tick = goes_on Tick (turn_of setup live Tick) ticks
  begins (Give slot subslot value) = goes_on (Give slot subslot value) (stays (given live slot subslot value.items)) (λ e. e)
  begins (Rate slot subslot is_good) = goes_on (Rate slot subslot is_good) (stays (rated live slot subslot is_good)) (λ e. e)
  begins (Read slot subslot index) = goes_on (Read slot subslot index) (turn_of setup live (Read slot subslot index)) (asks_record service.Read slot subslot index [])
  begins (Write slot subslot index octets) =
      goes_on (Write slot subslot index octets) (written setup live slot subslot index octets.items)
      (either live _ _ (nat_lt most_record_octets (length octets.items)) rests (asks_record service.Write slot subslot index octets.items))
  begins Stop = goes_on Stop (turn_of setup live Stop) (quits cause.Stopped live live.phase refl)

  -- After such an answer data is exchanged.
  abbrev Ends : List ℕ → Turn → Type 0
  Ends frame turn = map (bytes_of setup) turn.sent ≡ frame ∷ [] → turn.live.phase ≡ Exchanging

  readied_exchanges : (caller : Caller) (call : Call) (block : ControlBlock) (frame : List ℕ) (phase : State) → live.phase ≡ phase → Ends frame (readied live caller call block phase)
  readied_exchanges caller call block frame Ending same sends = refl
  readied_exchanges caller call block frame Waiting same sends = refl
  readied_exchanges caller call block frame Exchanging same sends = same
  readied_exchanges caller call block frame Looking same sends = absurd cc
  readied_exchanges caller call block frame Addressing same sends = absurd cc
  readied_exchanges caller call block frame Connecting same sends = absurd cc
  readied_exchanges caller call block frame Writing same sends = absurd cc
  readied_exchanges caller call block frame (Ended before) same sends = absurd cc

  pub answered_exchanges : (event : Event) → IsReadied (record { setup = setup; live = live }) event (map (bytes_of setup) (turn_of setup live event).sent)
      → (turn_of setup live event).live.phase ≡ Exchanging
  answered_exchanges event it =
      let turn : turn_of setup live event ≡ readied live it.caller it.call it.block live.phase =
      ap (turn_of setup live) it.comes ∙ ap (turned setup live) it.heard ∙ ap (called setup live it.caller it.call) it.is
      ∙ cond-true (is_ready setup it.block) _ _ it.right in
      subst (Ends (bytes_of setup (Agrees it.caller (ready_answer it.call it.block)))) (sym turn)
      (readied_exchanges it.caller it.call it.block _ live.phase refl) it.sends

no_frame : (old : Controlling) (octets : List ℕ) → Tick ≡ Frame (record { items = octets }) → old.live.phase ≡ Exchanging
no_frame old octets e = absurd cc

-- The same of a step, by the controller and the frames after it.
pub step_begins : (old new : Controlling) (event : Event) (frames : List (List ℕ)) → new ≡ (step_of old event).controller → frames ≡ (step_of old event).frames
    → new.live.phase ≡ Exchanging → (old.live.phase ≡ Exchanging) ⊎ IsReadied old event frames
unfolding step_of
step_begins old new event frames state sent e =
    subst (λ (f : List (List ℕ)). (old.live.phase ≡ Exchanging) ⊎ IsReadied old event f) (sym sent)
    (begins old.setup old.live event (sym (ap (λ (c : Controlling). c.live.phase) state) ∙ e))

pub step_exchanges : (old new : Controlling) (event : Event) (frames : List (List ℕ)) → new ≡ (step_of old event).controller → frames ≡ (step_of old event).frames
    → IsReadied old event frames → new.live.phase ≡ Exchanging
unfolding step_of
step_exchanges old new event frames state sent it =
    ap (λ (c : Controlling). c.live.phase) state
    ∙ answered_exchanges old.setup old.live event (subst (λ (f : List (List ℕ)). IsReadied old event f) sent it)

-- No unit of time begins it.
by_tick : (old : Controlling) (frames : List (List ℕ)) → (old.live.phase ≡ Exchanging) ⊎ IsReadied old Tick frames → old.live.phase ≡ Exchanging
by_tick old frames (inl before) = before
by_tick old frames (inr it) = no_frame old it.octets it.comes

pub ticks_begin : (units : ℕ) (old : Controlling) → (ticks_of units old).controller.live.phase ≡ Exchanging → old.live.phase ≡ Exchanging
ticks_begin zero old e = e
ticks_begin (suc units) old e =
    let before = (ticks_of units old).controller in
    let step = step_of before Tick in
    ticks_begin units old (by_tick before step.frames (step_begins before step.controller Tick step.frames refl refl e))
