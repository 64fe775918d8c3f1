-- The request after a plug that waits, with each turn of a controller.
use Rattle.std.proofs.Common.{◌≡◌, ◌⊎◌, inl, inr, ◌+◌, ◌&&◌, ◌||◌, ◌++◌, ℕ, Bool, true, false, not, cond, List, [], ◌∷◌, length, Option, Some, None, Result, Ok, Err, refl, sym, ap, subst, ◌∙◌}
use Rattle.std.specs.Prelude.{if◌then◌else◌, is_some, nat_lt}
use Rattle.pn_values.specs.declared.mac.Mac.{Mac}
use Rattle.frame_codec.specs.declared.udp.Caller.{Caller}
use Rattle.dcp_core.specs.Response.{Answered}
use Rattle.dcp_core.specs.Answered.{is_agreed}
use Rattle.rpc_core.specs.declared.response.Status.{Status as Code}
use Rattle.rpc_core.specs.Call.{Asked as Call}
use Rattle.rpc_core.specs.Response.{Answered as Response, is_done}
use Rattle.connect_blocks.specs.declared.control.ControlBlock.{ControlBlock}
use Rattle.connect_blocks.specs.declared.plug_control.PlugControlBlock.{PlugControlBlock}
use Rattle.block_codec.specs.Block.{block_of}
use Rattle.record_blocks.specs.declared.alarm_notification.AlarmNotification.{AlarmNotification}
use Rattle.pn_alarms.specs.declared.abort.Abort.{Abort}
use Rattle.pn_alarms.specs.declared.message.Notice.TheVariants as notice
use Rattle.pn_alarms.specs.declared.pdu.Header.{Header}
use Rattle.pn_alarms.specs.declared.receiver.Taken.{Taken}
use Rattle.pn_alarms.specs.declared.receiver.Taken.TheVariants.{New, Again, Refused}
use Rattle.pn_alarms.specs.Ends.{ControllerEnd}
use Rattle.pn_alarms.specs.Receiver.{taken_as}
use Rattle.pn_alarms.specs.Sending.{due}
use Rattle.diagnosis.specs.declared.reports.priority.Priority.{Priority}
use Rattle.diagnosis.specs.declared.reports.priority.Priority.TheVariants.{High, Low}
use Rattle.diagnosis.specs.declared.reports.report.Report.{Report}
use Rattle.diagnosis.specs.reports.Message.{ToController}
use Rattle.cyclic_data.specs.exchange.Received.{behind_frame}
use Rattle.connects.specs.declared.answers.connect.Found.{Found}
use Rattle.connects.specs.answers.Connect.{Chosen, chosen_of, found_in, is_whole, nothing}
use Rattle.plan_places.specs.declared.report.Plug.{Plug}
use Rattle.plan_places.specs.declared.place.PlaceState.TheVariants as known
use Rattle.plan_places.specs.Places.{has_turn_at, next_waiting, with_state}
use Rattle.controller_messages.specs.declared.plug_request.PlugRequest.{PlugRequest}
use Rattle.controller_messages.specs.declared.plug_request.PlugStep.{PlugStep}
use Rattle.controller_messages.specs.declared.plug_request.PlugStep.TheVariants.{Record, PrmEnd}
use Rattle.controller_messages.specs.declared.record_request.RecordRequest.{RecordRequest}
use Rattle.controller_messages.specs.declared.record_request.RecordService.{RecordService}
use Rattle.controller_messages.specs.declared.record_request.RecordService.TheVariants as service
use Rattle.controller_messages.specs.declared.refusal.Refusal.{Refusal}
use Rattle.controller_messages.specs.declared.setup.Setup.{Setup}
use Rattle.controller_messages.specs.declared.request.Request.{Request}
use Rattle.controller_messages.specs.declared.request.Request.TheVariants as asks
use Rattle.controller_messages.specs.Access.{Accessing, is_free, is_rejected, is_reply, record_in, unplugged}
use Rattle.controller_messages.specs.Heard.{Heard, Nothing, Answers, Responds, Refuses, Calls, Alarms, heard_of}
use Rattle.controller_messages.specs.Heard.{Cyclic as Comes}
use Rattle.controller_messages.specs.PlugRequests.{is_plug_answer, is_plug_ready, plug_ready_in}
use Rattle.controller_messages.specs.RecordRequests.{most_record_octets}
use Rattle.controller_messages.specs.Requests.{first_of, writing_from, writing_after}
use Rattle.controller_messages.specs.Sent.{Sent}
use Rattle.controller_core.specs.declared.start_up.outcomes.Outcomes.{Outcomes}
use Rattle.controller_core.specs.declared.start_up.outcomes.Outcomes.TheVariants.{AllWritten, Unreadable}
use Rattle.controller_core.specs.declared.start_up.outcomes.Outcomes.TheVariants.{Refused as Denied}
use Rattle.controller_core.specs.declared.stored.event.Event.{Event}
use Rattle.controller_core.specs.declared.stored.event.Event.TheVariants as event
use Rattle.controller_core.specs.declared.stored.state.Cause.{Cause}
use Rattle.controller_core.specs.declared.stored.state.Cause.TheVariants as why
use Rattle.controller_core.specs.declared.stored.state.State.{State}
use Rattle.controller_core.specs.declared.stored.state.State.TheVariants.{Looking, Addressing, Connecting, Writing, Ending, Waiting, Exchanging, Ended}
use Rattle.controller_core.specs.start_up.Answers.{is_addressed, is_answer, is_found, is_held, is_ready, is_refused, is_right, is_set_answer, ready_in, is_tried}
use Rattle.controller_core.specs.start_up.Outcomes.{outcomes_of}
use Rattle.controller_core.specs.stored.Alarms.{ack_of, is_alarm, kept_alarm}
use Rattle.controller_core.specs.stored.Cause.{cause_of}
use Rattle.controller_core.specs.stored.State.{Live}
use Rattle.controller_core.specs.Machine.{Turn, acked_under, acking, after_turn, after_write, alarmed, answered, begun_by, begun_turn, behind_data, beside, brings, brought, called, can_begin, can_request, come, connected, decided, done, end_of, exchange_later, failed, flowed, gone_on, granted, is_again, is_end_of, is_plug_awaited, is_spent, keeping, asks_next, later, noted, noticed, over, past_record, placed, plug_asked, plug_called, plug_finished, plug_passed, plug_passed_by, plug_refused, plug_rejected, plug_replied, plug_responded, plugs_of, quit, readied, refused, refused_beside, refused_by, refused_place, rejected, related_by, released, replied, requested, requests_of, responded, standing, stays, step_from, taken, ticked, turn_due, turn_of, turned, undone, where_due, with_end, writing, refused_end, refused_write, trying}
use Rattle.plug_law.specs.Written.{granted_by, granted_in, granted_with}

-- ---- what becomes of the request

-- The turn of a place begins: its first step is asked.
pub record Begins (setup : Setup) (after : Option PlugRequest) : Type 0 where
  pub request : PlugRequest
  pub asks : after ≡ Some request
  pub step : request.step ≡ step_from setup.plan request.slot request.subslot 0

-- A record was granted, and the next step of the same place is asked.
pub record Passes (setup : Setup) (granted_now : List PlugRequest) (before after : Option PlugRequest) : Type 0 where
  pub request : PlugRequest
  pub was : before ≡ Some request
  pub number : ℕ
  pub is : request.step ≡ Record number
  pub granted_is : granted_now ≡ request ∷ []
  pub next : PlugRequest
  pub asks : after ≡ Some next
  pub slot : next.slot ≡ request.slot
  pub subslot : next.subslot ≡ request.subslot
  pub same : next.number ≡ request.number
  pub step : next.step ≡ step_from setup.plan request.slot request.subslot (number + 1)

-- It waits on, and nothing was granted; none waits; or one of these.
abbrev pub Outcome : Setup → List PlugRequest → Option PlugRequest → Option PlugRequest → Type 0
Outcome setup granted_now before after =
    ((after ≡ before) × (granted_now ≡ [])) ⊎ ((after ≡ None) ⊎ (Begins setup after ⊎ Passes setup granted_now before after))

-- ---- turns that leave it

module _ (setup : Setup) (live : Live) where
  -- The request waits on, or none does.
  record Goes (turn : Turn) : Type 0 where
    so : (turn.live.access.plug ≡ live.access.plug) ⊎ (turn.live.access.plug ≡ None)

  keeps : (turn : Turn) → turn.live.access.plug ≡ live.access.plug → Goes turn
  keeps turn same = record { so = inl same }

  rests : Goes (stays live)
  rests = keeps (stays live) refl

  ends : (cause : Cause) (next : Live) (sent : List Sent) → Goes (record { live = over cause next; sent = sent })
  ends cause next sent = record { so = inr refl }

  releases : (cause : Cause) (next : Live) → Goes (released setup cause next)
  releases cause next = record { so = inr refl }

  either : (is : Bool) {x y : Turn} → Goes x → Goes y → Goes (if is then x else y)
  either true one other = one
  either false one other = other

  answered_goes : (source : Mac) (answer : Answered) (phase : State) → Goes (answered setup live source answer phase)
  answered_goes source answer Looking =
      either (is_found setup.plan answer)
      (either (is_right setup.plan answer) (either (is_addressed setup.plan answer) (keeps _ refl) (keeps _ refl)) (ends why.WrongDevice live []))
      rests
  answered_goes source answer Addressing =
      either (is_set_answer answer) (either (is_agreed answer) (keeps _ refl) (ends why.Refused live [])) rests
  answered_goes source answer phase = rests

  related_goes : (blocks : List ℕ) (found : Option Chosen) → Goes (related_by setup (placed setup blocks live) found)
  related_goes blocks (Some chosen) = keeps (writing setup (writing_from setup.plan 0) (standing setup (placed setup blocks live) chosen)) refl
  related_goes blocks None = keeps (stays (placed setup blocks live)) refl

  connected_goes : (blocks : List ℕ) (found : Option Found) → Goes (connected setup live blocks found)
  connected_goes blocks (Some found) = either (is_whole found) (either found.differs (releases why.ModuleDiff live) (related_goes blocks (chosen_of found))) rests
  connected_goes blocks None = rests

  passed_goes : (next : Request) (refused_number : ℕ) (status : Code) → Goes (past_record setup next (noted status refused_number live))
  passed_goes next refused_number status =
      either setup.plan.continue_on_refused_record (keeps _ refl)
      (either setup.plan.release_on_refused_record (releases why.Refused (noted status refused_number live)) (ends why.Refused (noted status refused_number live) []))

  outcomes_go : (number : ℕ) (next : Request) (outcomes : Outcomes) → Goes (after_write setup live number next outcomes)
  outcomes_go number next AllWritten = keeps _ refl
  outcomes_go number next (Denied place status) = passed_goes next (first_of setup.plan number + place) status
  outcomes_go number next Unreadable = rests

  done_goes : (blocks : List ℕ) (request : Request) → Goes (done setup live blocks request)
  done_goes blocks asks.Identify = rests
  done_goes blocks asks.Address = rests
  done_goes blocks asks.Connect = connected_goes blocks (found_in 400 blocks nothing)
  done_goes blocks (asks.Write number) = outcomes_go number (writing_from setup.plan (number + 1)) (outcomes_of setup.plan number blocks)
  done_goes blocks (asks.WriteAfter number tries) = outcomes_go number (writing_after setup.plan (number + 1) tries) (outcomes_of setup.plan number blocks)
  done_goes blocks asks.PrmEnd = keeps _ refl
  done_goes blocks (asks.PrmEndAfter tries) = keeps _ refl
  done_goes blocks (asks.Release sequence) = keeps _ refl

  refused_write_goes : (status : Code) (number tries : ℕ) (next : Request) → Goes (refused_write setup live status number tries next)
  refused_write_goes status number tries next = either (is_tried setup.plan status tries) (keeps _ refl) (passed_goes next (first_of setup.plan number) status)

  refused_end_goes : (status : Code) (tries : ℕ) → Goes (refused_end setup live status tries)
  refused_end_goes status tries = either (is_tried setup.plan status tries) (keeps _ refl) (ends why.Refused (record live { refusal = Some status }) [])

  undone_goes : (status : Code) (request : Request) → Goes (undone setup live status request)
  undone_goes status (asks.Write number) = refused_write_goes status number 0 (writing_from setup.plan (number + 1))
  undone_goes status (asks.WriteAfter number tries) = refused_write_goes status number tries (writing_after setup.plan (number + 1) tries)
  undone_goes status asks.PrmEnd = refused_end_goes status 0
  undone_goes status (asks.PrmEndAfter tries) = refused_end_goes status tries
  undone_goes status asks.Connect =
      let next : Live = record live { refusal = Some status } in either (is_held setup.plan status) (releases why.Refused next) (ends why.Refused next [])
  undone_goes status request = ends why.Refused (record live { refusal = Some status }) []

  decided_goes : (response : Response) (request : Request) → Goes (decided setup live response request)
  decided_goes response (asks.Release sequence) = keeps _ refl
  decided_goes response request = either (is_done response.status) (done_goes response.blocks request) (undone_goes response.status request)

  -- requests of the application
  same_if : (is : Bool) (x y : Live) → x.access.plug ≡ live.access.plug → y.access.plug ≡ live.access.plug → (if is then x else y).access.plug ≡ live.access.plug
  same_if true x y one other = one
  same_if false x y one other = other

  brought_same : (request : RecordRequest) (octets : Option (List ℕ)) → (brings request octets live).access.plug ≡ live.access.plug
  brought_same request (Some octets) = refl
  brought_same request None = refl

  granted_same : (request : RecordRequest) (blocks : List ℕ) (kind : RecordService) → (granted request blocks kind live).access.plug ≡ live.access.plug
  granted_same request blocks service.Read = brought_same request (record_in (block_of blocks))
  granted_same request blocks service.Write = refl

  replied_same : (response : Response) (waiting : Option RecordRequest) → (replied setup live response waiting).access.plug ≡ live.access.plug
  replied_same response None = refl
  replied_same response (Some request) =
      same_if (is_reply setup request response.header) _ _
      (same_if (is_done response.status) _ _ (granted_same request response.blocks request.service) refl) refl

  rejected_same : (refusal : Refusal) (waiting : Option RecordRequest) → (rejected setup live refusal waiting).access.plug ≡ live.access.plug
  rejected_same refusal None = refl
  rejected_same refusal (Some request) = same_if (is_rejected setup request refusal) _ _ refl refl

  refused_by_goes : (refusal : Refusal) (request : Request) → Goes (refused_by live refusal request)
  refused_by_goes refusal (asks.Release sequence) = keeps _ refl
  refused_by_goes refusal request = ends why.Refused (record live { refusal = Some refusal.status }) []

  -- the turn of a place is over
  unplugged_by : (request : PlugRequest) (next : Live) → next.access.plug ≡ None → (refused_place request next).access.plug ≡ None
  unplugged_by request next none = by_test (has_turn_at request.slot request.subslot next.places)
    where
      by_test : (b : Bool) → (if b then record next { places = with_state request.slot request.subslot known.Refused next.places } else next).access.plug ≡ None
      by_test true = none
      by_test false = none

  readied_goes : (caller : Caller) (call : Call) (block : ControlBlock) (phase : State) → Goes (readied live caller call block phase)
  readied_goes caller call block Ending = keeps _ refl
  readied_goes caller call block Waiting = keeps _ refl
  readied_goes caller call block Exchanging = keeps _ refl
  readied_goes caller call block phase = rests

  -- alarms
  end_same : (before : Live) (priority : Priority) (end : ControllerEnd) → (with_end before priority end).access.plug ≡ before.access.plug
  end_same before High end = refl
  end_same before Low end = refl

  kept_same : (before : Live) (priority : Priority) (alarm : AlarmNotification) (structure : Option ℕ) → (keeping before priority alarm structure).access.plug ≡ before.access.plug
  kept_same before High alarm structure = refl
  kept_same before Low alarm structure = refl

  taken_same : (before : Live) (report : Report) (as_what : Taken) → (taken before report as_what).live.access.plug ≡ before.access.plug
  taken_same before report New =
      kept_same (acking before report.priority (ack_of report.notification)) report.priority (kept_alarm report.notification) report.user_structure
      ∙ end_same before report.priority _
  taken_same before report Again = refl
  taken_same before report Refused = refl

  noticed_goes : (under : Priority) (reported : ToController) → Goes (noticed live under reported)
  noticed_goes under (notice.Data number report) =
      keeps _ (taken_same (behind_data live report.priority number) report (taken_as (end_of live report.priority).seen number) ∙ end_same live report.priority _)
  noticed_goes under (notice.Ack number) = keeps _ (end_same live (acked_under live under) _)
  noticed_goes under notice.Nack = rests
  noticed_goes under (notice.Abort status) = ends why.Aborted live []

  alarmed_goes : (source : Mac) (under : Priority) (header : Header) (reported : ToController) → Goes (alarmed live source under header reported)
  alarmed_goes source under header reported = either (live.stands && is_alarm live.cyclic.route source header) (noticed_goes under reported) rests

  come_goes : (source : Mac) (frame_id : ℕ) (body : List ℕ) → (come live source frame_id body).access.plug ≡ live.access.plug
  come_goes source frame_id body = by_test live.stands
    where
      by_test : (b : Bool) → (if b then record live { cyclic = behind_frame live.cyclic source frame_id body } else live).access.plug ≡ live.access.plug
      by_test true = refl
      by_test false = refl

  quit_goes : (cause : Cause) (next : Live) (phase : State) → next.access.plug ≡ live.access.plug → Goes (quit setup cause next phase)
  quit_goes cause next Looking same = ends cause next []
  quit_goes cause next Addressing same = ends cause next []
  quit_goes cause next (Ended before) same = keeps (stays next) same
  quit_goes cause next Connecting same = releases cause next
  quit_goes cause next Writing same = releases cause next
  quit_goes cause next Ending same = releases cause next
  quit_goes cause next Waiting same = releases cause next
  quit_goes cause next Exchanging same = releases cause next

  requested_goes : (kind : RecordService) (slot subslot index : ℕ) (octets : List ℕ) → Goes (requested setup live kind slot subslot index octets)
  requested_goes kind slot subslot index octets = either (can_request live) (keeps _ refl) rests

-- ---- any turn

outcome_after : (setup : Setup) (granted_now : List PlugRequest) (before between after : Option PlugRequest) → Outcome setup granted_now before between
    → (after ≡ between) ⊎ Begins setup after → Outcome setup granted_now before after
outcome_after setup granted_now before between after outcome (inl same) = subst (λ (plug : Option PlugRequest). Outcome setup granted_now before plug) (sym same) outcome
outcome_after setup granted_now before between after outcome (inr begins) = inr (inr (inl begins))

module _ (setup : Setup) (strict : setup.plan.continue_on_refused_record ≡ false) (live : Live) where
  abbrev IsOut : List PlugRequest → Live → Type 0
  IsOut granted_now next = Outcome setup granted_now live.access.plug next.access.plug

  goes_out : (turn : Turn) → Goes setup live turn → IsOut [] turn.live
  goes_out turn goes = by_either goes.so
    where
      by_either : (turn.live.access.plug ≡ live.access.plug) ⊎ (turn.live.access.plug ≡ None) → IsOut [] turn.live
      by_either (inl same) = inl (same, refl)
      by_either (inr none) = inr (inl none)

  -- the turn of a place may begin
  begun_so : (next : Live) → ((begun_turn setup next).access.plug ≡ next.access.plug) ⊎ Begins setup (begun_turn setup next).access.plug
  begun_so next = by_tests (can_begin next) (next_waiting next.places)
    where
      by_tests : (b : Bool) (plug : Option Plug) → ((if b then begun_by setup plug next else next).access.plug ≡ next.access.plug) ⊎ Begins setup (if b then begun_by setup plug next else next).access.plug
      by_tests false plug = inl refl
      by_tests true None = inl refl
      by_tests true (Some plug) = inr (record { request = _; asks = refl; step = refl })

  after_out : (granted_now : List PlugRequest) (could : Bool) (turn : Turn) → IsOut granted_now turn.live → IsOut granted_now (after_turn setup could turn).live
  after_out granted_now could turn out = by_test (could || not (can_begin turn.live))
    where
      by_test : (b : Bool) → IsOut granted_now (if b then turn else record { live = begun_turn setup turn.live; sent = turn.sent ++ plugs_of (begun_turn setup turn.live) }).live
      by_test true = out
      by_test false = outcome_after setup granted_now live.access.plug turn.live.access.plug (begun_turn setup turn.live).access.plug out (begun_so turn.live)

  -- ---- responses

  passed_out : (request : PlugRequest) → live.access.plug ≡ Some request → (step : PlugStep) → request.step ≡ step
      → IsOut (request ∷ []) (plug_passed_by setup (plug_finished live) request step)
  passed_out request was PrmEnd is = inr (inl refl)
  passed_out request was (Record number) is = by_test (has_turn_at request.slot request.subslot live.places)
    where
      by_test : (b : Bool) → IsOut (request ∷ [])
          (if b then plug_asked setup request.slot request.subslot request.number (step_from setup.plan request.slot request.subslot (number + 1)) (plug_finished live) else plug_finished live)
      by_test true = inr (inr (inr (record {
        request = request;
        was = was;
        number = number;
        is = is;
        granted_is = refl;
        next = _;
        asks = refl;
        slot = refl;
        subslot = refl;
        same = refl;
        step = refl;
      })))
      by_test false = inr (inl refl)

  refused_step : (status : Code) (request : PlugRequest) (step : PlugStep) → (plug_refused setup (plug_finished live) status request step).access.plug ≡ None
  refused_step status request (Record number) =
      ap (λ (b : Bool). (if b then plug_passed setup (noted status number (plug_finished live)) request else refused_place request (noted status number (plug_finished live))).access.plug) strict
      ∙ unplugged_by setup live request (noted status number (plug_finished live)) refl
  refused_step status request PrmEnd = unplugged_by setup live request (record (plug_finished live) { refusal = Some status }) refl

  answered_out : (response : Response) (request : PlugRequest) → live.access.plug ≡ Some request
      → IsOut (granted_by setup response None (Some request)) (plug_responded setup live response request).live
  answered_out response request was = by_tests (is_plug_answer setup request response.header.activity response.header.sequence) (is_done response.status)
    where
      by_tests : (answers positive : Bool) → IsOut (if answers && positive then request ∷ [] else [])
          (if answers then asks_next (if positive then plug_passed setup (plug_finished live) request else plug_refused setup (plug_finished live) response.status request request.step) else stays live).live
      by_tests false positive = inl (refl, refl)
      by_tests true true = passed_out request was request.step refl
      by_tests true false = inr (inl (refused_step response.status request request.step))

  beside_out : (response : Response) (plug : Option PlugRequest) → live.access.plug ≡ plug → IsOut (granted_by setup response None plug) (beside setup live response plug).live
  beside_out response (Some request) was = answered_out response request was
  beside_out response None was = inl (replied_same setup live response live.access.waiting, refl)

  responded_out : (response : Response) (asked : Option Request) → IsOut (granted_by setup response asked live.access.plug) (responded setup live response asked).live
  responded_out response (Some request) =
      goes_out (responded setup live response (Some request)) (either setup live (is_answer setup request response.header) (decided_goes setup live response request) (rests setup live))
  responded_out response None = beside_out response live.access.plug refl

  rejected_goes : (refusal : Refusal) (plug : Option PlugRequest) → Goes setup live (stays (refused_beside setup live refusal plug))
  rejected_goes refusal (Some request) = by_test (is_plug_answer setup request refusal.activity refusal.sequence)
    where
      by_test : (b : Bool) → Goes setup live (stays (if b then refused_place request (record (plug_finished live) { refusal = Some refusal.status }) else live))
      by_test true = record { so = inr (unplugged_by setup live request (record (plug_finished live) { refusal = Some refusal.status }) refl) }
      by_test false = rests setup live
  rejected_goes refusal None = keeps setup live _ (rejected_same setup live refusal live.access.waiting)

  refused_goes : (refusal : Refusal) (asked : Option Request) → Goes setup live (refused setup live refusal asked)
  refused_goes refusal (Some request) = either setup live (is_refused setup request refusal) (refused_by_goes setup live refusal request) (rests setup live)
  refused_goes refusal None = rejected_goes refusal live.access.plug

  -- ---- calls

  there_goes : (caller : Caller) (call : Call) (block : Option PlugControlBlock) → Goes setup live (plug_called setup live caller call block)
  there_goes caller call (Some block) =
      either setup live (is_plug_ready setup block && is_plug_awaited live block.alarm_sequence_number) (record { so = by_test (is_end_of block.alarm_sequence_number live.access.plug) }) (rests setup live)
    where
      by_test : (b : Bool) → ((if b then unplugged live.access else live.access).plug ≡ live.access.plug) ⊎ ((if b then unplugged live.access else live.access).plug ≡ None)
      by_test true = inr refl
      by_test false = inl refl
  there_goes caller call None = rests setup live

  called_out : (caller : Caller) (call : Call) (block : Option ControlBlock) → IsOut [] (called setup live caller call block).live
  called_out caller call (Some block) =
      goes_out (called setup live caller call (Some block)) (either setup live (is_ready setup block) (readied_goes setup live caller call block live.phase) (rests setup live))
  called_out caller call None =
      after_out [] (can_begin live) (plug_called setup live caller call (plug_ready_in call)) (goes_out (plug_called setup live caller call (plug_ready_in call)) (there_goes caller call (plug_ready_in call)))

  -- ---- what is heard

  heard_out : (heard : Heard) → IsOut (granted_in setup live heard) (turned setup live heard).live
  heard_out Nothing = inl (refl, refl)
  heard_out (Answers source answer) = goes_out (answered setup live source answer live.phase) (answered_goes setup live source answer live.phase)
  heard_out (Responds response) = after_out (granted_by setup response live.asked live.access.plug) (can_begin live) (responded setup live response live.asked) (responded_out response live.asked)
  heard_out (Refuses refusal) = after_out [] (can_begin live) (refused setup live refusal live.asked) (goes_out (refused setup live refusal live.asked) (refused_goes refusal live.asked))
  heard_out (Calls caller call) = called_out caller call (ready_in call)
  heard_out (Comes source frame_id body) = inl (come_goes setup live source frame_id body, refl)
  heard_out (Alarms source under header reported) =
      after_out [] (can_begin live) (alarmed live source under header reported) (goes_out (alarmed live source under header reported) (alarmed_goes setup live source under header reported))

  -- ---- units

  due_so : (is_due : Bool) (next : Live) → ((turn_due setup is_due next).access.plug ≡ next.access.plug) ⊎ Begins setup (turn_due setup is_due next).access.plug
  due_so true next = begun_so next
  due_so false next = inl refl

  gone_so : (next : Live) (is_request b : Bool) (ending : Option Abort)
      → ((if b then flowed (exchange_later next) (due next.alarms.sending) (due next.low_alarms.sending) is_request (brought next) ending
      else record { live = next; sent = where_due is_request (requests_of next.device next.asked) }).live.access.plug ≡ next.access.plug)
      ⊎ ((if b then flowed (exchange_later next) (due next.alarms.sending) (due next.low_alarms.sending) is_request (brought next) ending
      else record { live = next; sent = where_due is_request (requests_of next.device next.asked) }).live.access.plug ≡ None)
  gone_so next is_request true (Some reason) = inr refl
  gone_so next is_request true None = inl refl
  gone_so next is_request false ending = inl refl

  ticked_out : IsOut [] (ticked setup live).live
  ticked_out = by_test (is_spent live)
    where
      next : Live
      next = turn_due setup (is_again live) (later live)

      due_out : IsOut [] next
      due_out = outcome_after setup [] live.access.plug live.access.plug next.access.plug (inl (refl, refl)) (due_so (is_again live) (later live))

      by_either : ((gone_on next (is_again live)).live.access.plug ≡ next.access.plug) ⊎ ((gone_on next (is_again live)).live.access.plug ≡ None) → IsOut [] (gone_on next (is_again live)).live
      by_either (inl same) = subst (λ (plug : Option PlugRequest). Outcome setup [] live.access.plug plug) (sym same) due_out
      by_either (inr none) = inr (inl none)

      by_test : (b : Bool) → IsOut [] (if b then quit setup why.NoProgress (later live) live.phase else gone_on next (is_again live)).live
      by_test true = goes_out (quit setup why.NoProgress (later live) live.phase) (quit_goes setup live why.NoProgress (later live) live.phase refl)
      by_test false = by_either (gone_so next (is_again live) next.stands (brought next).ending)

  -- ---- events

  pub event_out : (one : Event) → Outcome setup (granted_with setup live one) live.access.plug (turn_of setup live one).live.access.plug
  event_out (event.Frame bytes) = heard_out (heard_of setup.plan.controller bytes.items)
  event_out event.Tick = ticked_out
  event_out (event.Give slot subslot value) = inl (refl, refl)
  event_out (event.Status slot subslot is_good) = inl (refl, refl)
  event_out (event.Read slot subslot index) = goes_out _ (requested_goes setup live service.Read slot subslot index [])
  event_out (event.Write slot subslot index octets) =
      goes_out _ (either setup live (nat_lt most_record_octets (length octets.items)) (rests setup live) (requested_goes setup live service.Write slot subslot index octets.items))
  event_out event.Stop = goes_out _ (quit_goes setup live why.Stopped live live.phase refl)
