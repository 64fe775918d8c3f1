-- The inputs that a controller shows come from one frame that it accepted, or are zeros.
use Rattle.std.proofs.Common.{◌≡◌, ◌⊎◌, inl, inr, ◌+◌, ◌++◌, ◌&&◌, ℕ, Bool, true, false, List, [], ◌∷◌, length, map, Option, Some, None, Result, Ok, Err, refl, sym, ap, subst, ◌∙◌}
use Rattle.std.specs.Prelude.{if◌then◌else◌, nat_lt, replicate}
use Rattle.pn_values.specs.declared.mac.Mac.{Mac}
use Rattle.frame_codec.specs.declared.udp.Caller.{Caller}
use Rattle.dcp_core.specs.Response.{Answered}
use Rattle.dcp_core.specs.Answered.{is_agreed}
use Rattle.rpc_core.specs.declared.response.Status.{Status as Code}
use Rattle.rpc_core.specs.Call.{Asked as Call}
use Rattle.rpc_core.specs.Response.{Answered as Response, is_done}
use Rattle.connect_blocks.specs.declared.control.ControlBlock.{ControlBlock}
use Rattle.connect_blocks.specs.declared.plug_control.PlugControlBlock.{PlugControlBlock}
use Rattle.block_codec.specs.Block.{block_of}
use Rattle.record_blocks.specs.declared.alarm_notification.AlarmNotification.{AlarmNotification}
use Rattle.pn_alarms.specs.declared.abort.Abort.{Abort}
use Rattle.pn_alarms.specs.declared.message.Notice.TheVariants as notice
use Rattle.pn_alarms.specs.declared.receiver.Taken.{Taken}
use Rattle.pn_alarms.specs.declared.receiver.Taken.TheVariants.{New, Again, Refused}
use Rattle.pn_alarms.specs.Controller.{confirmed, with_ack, with_data}
use Rattle.pn_alarms.specs.Ends.{ControllerEnd}
use Rattle.pn_alarms.specs.Receiver.{taken_as}
use Rattle.pn_alarms.specs.Sending.{due}
use Rattle.diagnosis.specs.declared.reports.priority.Priority.{Priority}
use Rattle.diagnosis.specs.declared.reports.priority.Priority.TheVariants.{High, Low}
use Rattle.diagnosis.specs.declared.reports.report.Report.{Report}
use Rattle.diagnosis.specs.reports.Message.{ToController}
use Rattle.cyclic_data.specs.Image.{Cell, Shown, cell_of, with_frame}
use Rattle.cyclic_data.specs.declared.tail.CyclicTail.{CyclicTail}
use Rattle.cyclic_data.specs.declared.tail.ShortFrame.{ShortFrame}
use Rattle.cyclic_data.specs.Tail.{cyclic_of}
use Rattle.cyclic_data.specs.Timing.{held_on}
use Rattle.cyclic_data.specs.exchange.Cyclic.{Cyclic as CyclicEnd}
use Rattle.cyclic_data.specs.exchange.Received.{behind_frame, behind_read, is_new, is_of_partner, taken_from}
use Rattle.connects.specs.declared.answers.connect.Found.{Found}
use Rattle.connects.specs.answers.Connect.{Chosen, chosen_of, found_in, is_whole, nothing}
use Rattle.plans.specs.declared.parts.Parts.{Parts}
use Rattle.controller_messages.specs.declared.plug_request.PlugRequest.{PlugRequest}
use Rattle.controller_messages.specs.declared.record_request.RecordRequest.{RecordRequest}
use Rattle.controller_messages.specs.declared.record_request.RecordService.{RecordService}
use Rattle.controller_messages.specs.declared.record_request.RecordService.TheVariants as service
use Rattle.controller_messages.specs.declared.refusal.Refusal.{Refusal}
use Rattle.controller_messages.specs.declared.setup.ControllerOptions.{ControllerOptions}
use Rattle.controller_messages.specs.declared.setup.Setup.{Setup}
use Rattle.controller_messages.specs.declared.request.Request.{Request}
use Rattle.controller_messages.specs.declared.request.Request.TheVariants as asks
use Rattle.controller_messages.specs.Access.{is_rejected, is_reply, record_in}
use Rattle.controller_messages.specs.Heard.{Heard, Nothing, Answers, Responds, Refuses, Calls, Alarms, heard_of}
use Rattle.controller_messages.specs.Heard.{Cyclic as Comes}
use Rattle.controller_messages.specs.PlugRequests.{is_plug_answer, is_plug_ready, plug_ready_in}
use Rattle.controller_messages.specs.RecordRequests.{most_record_octets}
use Rattle.controller_messages.specs.Requests.{first_of, writing_from, writing_after}
use Rattle.controller_messages.specs.Sent.{Sent}
use Rattle.controller_core.specs.declared.start_up.outcomes.Outcomes.{Outcomes}
use Rattle.controller_core.specs.declared.start_up.outcomes.Outcomes.TheVariants.{AllWritten, Unreadable}
use Rattle.controller_core.specs.declared.start_up.outcomes.Outcomes.TheVariants.{Refused as Denied}
use Rattle.controller_core.specs.declared.stored.event.Event.{Event}
use Rattle.controller_core.specs.declared.stored.event.Event.TheVariants.{Frame, Tick, Give, Status, Read, Write, Stop}
use Rattle.controller_core.specs.declared.stored.state.Cause.{Cause}
use Rattle.controller_core.specs.declared.stored.state.Cause.TheVariants as why
use Rattle.controller_core.specs.declared.stored.state.State.{State}
use Rattle.controller_core.specs.declared.stored.state.State.TheVariants.{Looking, Addressing, Connecting, Writing, Ending, Waiting, Exchanging, Ended}
use Rattle.controller_core.specs.start_up.Answers.{is_addressed, is_answer, is_found, is_held, is_ready, is_refused, is_right, is_set_answer, ready_in, is_tried}
use Rattle.controller_core.specs.start_up.Outcomes.{outcomes_of}
use Rattle.controller_core.specs.stored.Alarms.{ack_of, is_alarm, kept_alarm}
use Rattle.controller_core.specs.stored.Cause.{cause_of}
use Rattle.controller_core.specs.stored.State.{Controlling, Live}
use Rattle.controller_core.specs.Machine.{Turn, acked_under, acking, after_turn, after_write, alarmed, answered, asks_next, behind_data, beside, brings, brought, called, can_begin, can_request, connected, decided, done, end_of, flow_later, flowed, fresh_with, granted, is_again, is_plug_awaited, is_spent, keeping, later, noted, noticed, over, past_record, placed, plug_called, plug_replied, quit, readied, refused, refused_beside, refused_by, rejected, related_by, released, replied, requested, requests_of, responded, standing, stays, step_of, taken, ticked, turn_of, undone, where_due, with_end, writing, refused_end, refused_write, trying}
use Rattle.end_laws.specs.cyclic.Ends.{Got, got_at}
use Rattle.end_laws.specs.turns.Beside.{IsBeside, MayFollow, flow_begun}
use Rattle.end_laws.specs.turns.Inputs.{AreZeros, Brings, ComeFromOne, ShowsWhatCame, ShowsNothingWithout, no_inputs}
use Rattle.end_laws.specs.turns.Runs.{behind_all}
use Rattle.end_laws.specs.turns.Turns.{Came, Hears, Passes, Gets, GetsStatus, AsksRead, AsksWrite, Halts, came_by, turn_for}
use Rattle.end_laws.proofs.TurnsBeside.{begins, begun_beside, flows, follows, gone_is, rejected_step, replied_step, unit_begun}
use Rattle.end_laws.proofs.TurnsCauses.{turn_by_event}

module _ (setup : Setup) (live : Live) where
  -- What was received is unchanged, and an established relation stays so; or the inputs are zeros from now on.
  pub record Keeps (next : Live) : Type 0 where
    pub received : got_at next.cyclic ≡ got_at live.cyclic
    pub stands : live.stands ≡ true → next.stands ≡ true

  taken_kept : (next : Live) → Keeps next → next.cyclic.taken ≡ live.cyclic.taken
  taken_kept next k = ap (λ (g : Got). g.taken) k.received

  zeros_from : (next : Live) → got_at next.cyclic ≡ got_at live.cyclic → next.cyclic.taken ≡ live.cyclic.taken
  zeros_from next same = ap (λ (g : Got). g.taken) same

  -- A unit leaves what was received.
  later_received : (begun : Bool) → ◌≡◌ {A = Got} (record { taken = live.cyclic.taken; data_status = live.cyclic.data_status; last = (if begun then held_on live.cyclic.hearing else live.cyclic.hearing).last }) (got_at live.cyclic)
  later_received true = refl
  later_received false = refl

  abbrev pub IsZeroed : Live → Type 0
  IsZeroed next = (next.cyclic.taken ≡ with_frame (replicate live.cyclic.taken.data_length 0) live.cyclic.taken) × (next.stands ≡ false)

  pub record Goes (turn : Turn) : Type 0 where
    pub either_so : Keeps turn.live ⊎ IsZeroed turn.live

  keeps : (turn : Turn) → got_at turn.live.cyclic ≡ got_at live.cyclic → (live.stands ≡ true → turn.live.stands ≡ true) → Goes turn
  keeps turn same stands = record { either_so = inl (record { received = same; stands = stands }) }

  rests : Goes (stays live)
  rests = keeps (stays live) refl (λ up. up)

  ends : (cause : Cause) (next : Live) (sent : List Sent) → next.cyclic.taken ≡ live.cyclic.taken → Goes (record { live = over cause next; sent = sent })
  ends cause next sent same = record { either_so = inr (ap (λ (shown : Shown). with_frame (replicate shown.data_length 0) shown) same, refl) }

  releases : (cause : Cause) (next : Live) → next.cyclic.taken ≡ live.cyclic.taken → Goes (released setup cause next)
  releases cause next same = record { either_so = inr (ap (λ (shown : Shown). with_frame (replicate shown.data_length 0) shown) same, refl) }

  either : (is : Bool) {x y : Turn} → Goes x → Goes y → Goes (if is then x else y)
  either true one other = one
  either false one other = other

  writes : (request : Request) (next : Live) → got_at next.cyclic ≡ got_at live.cyclic → (live.stands ≡ true → next.stands ≡ true) → Goes (writing setup request next)
  writes request next same stands = keeps (writing setup request next) same stands

  answered_goes : (source : Mac) (answer : Answered) (phase : State) → Goes (answered setup live source answer phase)
  answered_goes source answer Looking =
      either (is_found setup.plan answer)
      (either (is_right setup.plan answer) (either (is_addressed setup.plan answer) (keeps _ refl (λ up. up)) (keeps _ refl (λ up. up))) (ends why.WrongDevice live [] refl))
      rests
  answered_goes source answer Addressing =
      either (is_set_answer answer) (either (is_agreed answer) (keeps _ refl (λ up. up)) (ends why.Refused live [] refl)) rests
  answered_goes source answer phase = rests

  -- The turn of a place that begins changes neither.
  beside_goes : (before : Live) (after : Turn) → IsBeside before after.live → Goes (stays before) → Goes after
  beside_goes before after beside is = record { either_so = by_way is.either_so }
    where
      by_way : Keeps before ⊎ IsZeroed before → Keeps after.live ⊎ IsZeroed after.live
      by_way (inl k) = inl (record { received = ap (λ (l : Live). got_at l.cyclic) beside ∙ k.received; stands = λ up. ap (λ (l : Live). l.stands) beside ∙ k.stands up })
      by_way (inr z) = inr (ap (λ (l : Live). l.cyclic.taken) beside ∙ z.0, ap (λ (l : Live). l.stands) beside ∙ z.1)

  follows_goes : (turn after : Turn) → MayFollow setup turn after → Goes turn → Goes after
  follows_goes turn after (inl e) is = subst (λ (t : Turn). Goes t) (sym e) is
  follows_goes turn after (inr followed) is = beside_goes turn.live after followed.begun.beside (record { either_so = is.either_so })

  after_goes : (turn : Turn) → Goes turn → Goes (after_turn setup (can_begin live) turn)
  after_goes turn is = follows_goes turn (after_turn setup (can_begin live) turn) (follows setup (can_begin live) turn) is

  related_goes : (blocks : List ℕ) (found : Option Chosen) → Goes (related_by setup (placed setup blocks live) found)
  related_goes blocks (Some chosen) = writes (writing_from setup.plan 0) (standing setup (placed setup blocks live) chosen) refl (λ up. refl)
  related_goes blocks None = keeps (stays (placed setup blocks live)) refl (λ up. up)

  connected_goes : (blocks : List ℕ) (found : Option Found) → Goes (connected setup live blocks found)
  connected_goes blocks (Some found) = either (is_whole found) (either found.differs (releases why.ModuleDiff live refl) (related_goes blocks (chosen_of found))) rests
  connected_goes blocks None = rests

  passed_goes : (next : Request) (denied : ℕ) (status : Code) → Goes (past_record setup next (noted status denied live))
  passed_goes next denied status =
      either setup.plan.continue_on_refused_record (writes next (noted status denied live) refl (λ up. up))
      (either setup.plan.release_on_refused_record (releases why.Refused (noted status denied live) refl) (ends why.Refused (noted status denied live) [] refl))

  outcomes_go : (number : ℕ) (next : Request) (outcomes : Outcomes) → Goes (after_write setup live number next outcomes)
  outcomes_go number next AllWritten = writes next live refl (λ up. up)
  outcomes_go number next (Denied place status) = passed_goes next (first_of setup.plan number + place) status
  outcomes_go number next Unreadable = rests

  done_goes : (blocks : List ℕ) (request : Request) → Goes (done setup live blocks request)
  done_goes blocks asks.Identify = rests
  done_goes blocks asks.Address = rests
  done_goes blocks asks.Connect = connected_goes blocks (found_in 400 blocks nothing)
  done_goes blocks (asks.Write number) = outcomes_go number (writing_from setup.plan (number + 1)) (outcomes_of setup.plan number blocks)
  done_goes blocks (asks.WriteAfter number tries) = outcomes_go number (writing_after setup.plan (number + 1) tries) (outcomes_of setup.plan number blocks)
  done_goes blocks asks.PrmEnd = keeps _ refl (λ up. up)
  done_goes blocks (asks.PrmEndAfter tries) = keeps _ refl (λ up. up)
  done_goes blocks (asks.Release sequence) = keeps _ refl (λ up. up)

  refused_write_goes : (status : Code) (number tries : ℕ) (next : Request) → Goes (refused_write setup live status number tries next)
  refused_write_goes status number tries next =
      either (is_tried setup.plan status tries) (keeps (trying (asks.WriteAfter number (tries + 1)) status live) refl (λ up. up))
      (passed_goes next (first_of setup.plan number) status)

  refused_end_goes : (status : Code) (tries : ℕ) → Goes (refused_end setup live status tries)
  refused_end_goes status tries =
      either (is_tried setup.plan status tries) (keeps (trying (asks.PrmEndAfter (tries + 1)) status live) refl (λ up. up))
      (ends why.Refused (record live { refusal = Some status }) [] refl)

  undone_goes : (status : Code) (request : Request) → Goes (undone setup live status request)
  undone_goes status (asks.Write number) = refused_write_goes status number 0 (writing_from setup.plan (number + 1))
  undone_goes status (asks.WriteAfter number tries) = refused_write_goes status number tries (writing_after setup.plan (number + 1) tries)
  undone_goes status asks.PrmEnd = refused_end_goes status 0
  undone_goes status (asks.PrmEndAfter tries) = refused_end_goes status tries
  undone_goes status asks.Connect =
      let next : Live = record live { refusal = Some status } in either (is_held setup.plan status) (releases why.Refused next refl) (ends why.Refused next [] refl)
  undone_goes status request = ends why.Refused (record live { refusal = Some status }) [] refl

  decided_goes : (response : Response) (request : Request) → Goes (decided setup live response request)
  decided_goes response (asks.Release sequence) = keeps _ refl (λ up. up)
  decided_goes response request = either (is_done response.status) (done_goes response.blocks request) (undone_goes response.status request)

  -- requests of the application
  record IsSame (next : Live) : Type 0 where
    cyclic : next.cyclic ≡ live.cyclic
    stands : next.stands ≡ live.stands

  same_goes : (next : Live) → IsSame next → Goes (stays next)
  same_goes next is = keeps (stays next) (ap got_at is.cyclic) (λ up. is.stands ∙ up)

  same_if : (is : Bool) {x y : Live} → IsSame x → IsSame y → IsSame (if is then x else y)
  same_if true one other = one
  same_if false one other = other

  abbrev same : IsSame live
  same = record { cyclic = refl; stands = refl }

  brought_same : (request : RecordRequest) (octets : Option (List ℕ)) → IsSame (brings request octets live)
  brought_same request (Some octets) = record { cyclic = refl; stands = refl }
  brought_same request None = record { cyclic = refl; stands = refl }

  granted_same : (request : RecordRequest) (blocks : List ℕ) (kind : RecordService) → IsSame (granted request blocks kind live)
  granted_same request blocks service.Read = brought_same request (record_in (block_of blocks))
  granted_same request blocks service.Write = record { cyclic = refl; stands = refl }

  replied_same : (response : Response) (waiting : Option RecordRequest) → IsSame (replied setup live response waiting)
  replied_same response None = record { cyclic = refl; stands = refl }
  replied_same response (Some request) =
      same_if (is_reply setup request response.header)
      (same_if (is_done response.status) (granted_same request response.blocks request.service) (record { cyclic = refl; stands = refl })) (record { cyclic = refl; stands = refl })

  -- the request after a plug, or else that of the application
  beside_responds : (response : Response) (plug : Option PlugRequest) → Goes (beside setup live response plug)
  beside_responds response (Some request) =
      let step = replied_step setup live response.status request in
      either (is_plug_answer setup request response.header.activity response.header.sequence)
      (keeps (asks_next (plug_replied setup live response.status request)) (ap (λ (l : Live). got_at l.cyclic) step) (λ up. ap (λ (l : Live). l.stands) step ∙ up)) rests
  beside_responds response None = same_goes _ (replied_same response live.access.waiting)

  responded_goes : (response : Response) (asked : Option Request) → Goes (responded setup live response asked)
  responded_goes response (Some request) = either (is_answer setup request response.header) (decided_goes response request) rests
  responded_goes response None = beside_responds response live.access.plug

  refused_by_goes : (refusal : Refusal) (request : Request) → Goes (refused_by live refusal request)
  refused_by_goes refusal (asks.Release sequence) = keeps _ refl (λ up. up)
  refused_by_goes refusal request = ends why.Refused (record live { refusal = Some refusal.status }) [] refl

  rejected_same : (refusal : Refusal) (waiting : Option RecordRequest) → IsSame (rejected setup live refusal waiting)
  rejected_same refusal None = record { cyclic = refl; stands = refl }
  rejected_same refusal (Some request) = same_if (is_rejected setup request refusal) (record { cyclic = refl; stands = refl }) (record { cyclic = refl; stands = refl })

  beside_same : (refusal : Refusal) (plug : Option PlugRequest) → IsSame (refused_beside setup live refusal plug)
  beside_same refusal None = rejected_same refusal live.access.waiting
  beside_same refusal (Some request) =
      let step = rejected_step setup live refusal request in
      same_if (is_plug_answer setup request refusal.activity refusal.sequence)
      (record { cyclic = ap (λ (l : Live). l.cyclic) step; stands = ap (λ (l : Live). l.stands) step }) (record { cyclic = refl; stands = refl })

  refused_goes : (refusal : Refusal) (asked : Option Request) → Goes (refused setup live refusal asked)
  refused_goes refusal (Some request) = either (is_refused setup request refusal) (refused_by_goes refusal request) rests
  refused_goes refusal None = same_goes _ (beside_same refusal live.access.plug)

  readied_goes : (caller : Caller) (call : Call) (block : ControlBlock) (phase : State) → Goes (readied live caller call block phase)
  readied_goes caller call block Ending = keeps _ refl (λ up. up)
  readied_goes caller call block Waiting = keeps _ refl (λ up. up)
  readied_goes caller call block Exchanging = keeps _ refl (λ up. up)
  readied_goes caller call block phase = rests

  plug_called_goes : (caller : Caller) (call : Call) (block : Option PlugControlBlock) → Goes (plug_called setup live caller call block)
  plug_called_goes caller call (Some block) =
      either (is_plug_ready setup block && is_plug_awaited live block.alarm_sequence_number) (keeps _ refl (λ up. up)) rests
  plug_called_goes caller call None = rests

  called_goes : (caller : Caller) (call : Call) (block : Option ControlBlock) → Goes (called setup live caller call block)
  called_goes caller call (Some block) = either (is_ready setup block) (readied_goes caller call block live.phase) rests
  called_goes caller call None = after_goes (plug_called setup live caller call (plug_ready_in call)) (plug_called_goes caller call (plug_ready_in call))

  -- alarms
  record IsAlike (before next : Live) : Type 0 where
    cyclic : next.cyclic ≡ before.cyclic
    stands : next.stands ≡ before.stands

  end_alike : (before : Live) (priority : Priority) (end : ControllerEnd) → IsAlike before (with_end before priority end)
  end_alike before High end = record { cyclic = refl; stands = refl }
  end_alike before Low end = record { cyclic = refl; stands = refl }

  kept_alike : (before : Live) (priority : Priority) (alarm : AlarmNotification) (structure : Option ℕ) → IsAlike before (keeping before priority alarm structure)
  kept_alike before High alarm structure = record { cyclic = refl; stands = refl }
  kept_alike before Low alarm structure = record { cyclic = refl; stands = refl }

  taken_alike : (before : Live) (report : Report) (as_what : Taken) → IsAlike before (taken before report as_what).live
  taken_alike before report New =
      let one = end_alike before report.priority (confirmed (end_of before report.priority) (ack_of report.notification)) in
      let two = kept_alike (acking before report.priority (ack_of report.notification)) report.priority (kept_alarm report.notification) report.user_structure in
      record { cyclic = two.cyclic ∙ one.cyclic; stands = two.stands ∙ one.stands }
  taken_alike before report Again = record { cyclic = refl; stands = refl }
  taken_alike before report Refused = record { cyclic = refl; stands = refl }

  noticed_goes : (under : Priority) (reported : ToController) → Goes (noticed live under reported)
  noticed_goes under (notice.Data number report) =
      let one = end_alike live report.priority (with_data (end_of live report.priority) number) in
      let two = taken_alike (behind_data live report.priority number) report (taken_as (end_of live report.priority).seen number) in
      keeps _ (ap got_at (two.cyclic ∙ one.cyclic)) (λ up. two.stands ∙ (one.stands ∙ up))
  noticed_goes under (notice.Ack number) =
      let one = end_alike live (acked_under live under) (with_ack (end_of live (acked_under live under)) number) in
      keeps _ (ap got_at one.cyclic) (λ up. one.stands ∙ up)
  noticed_goes under notice.Nack = rests
  noticed_goes under (notice.Abort status) = ends why.Aborted live [] refl

  -- units, and the application
  abbrev unit_over : Live
  unit_over = flow_begun setup live

  unit_beside : IsBeside (flow_later live) unit_over
  unit_beside = begun_beside setup (flow_later live) unit_over (flows setup live)

  flowed_goes : (ending : Option Abort) → Goes (flowed unit_over (due live.alarms.sending) (due live.low_alarms.sending) (is_again live) (brought live) ending)
  flowed_goes (Some because) = ends (cause_of because) unit_over _ (ap (λ (l : Live). l.cyclic.taken) unit_beside)
  flowed_goes None = beside_goes (flow_later live) _ unit_beside (keeps (stays (flow_later live)) (later_received live.cyclic.begun) (λ up. up))

  gone_on_goes : (is : Bool) → Goes (if is then flowed unit_over (due live.alarms.sending) (due live.low_alarms.sending) (is_again live) (brought live) (brought live).ending
      else record { live = unit_begun setup live; sent = where_due (is_again live) (requests_of live.device live.asked) })
  gone_on_goes true = flowed_goes (brought live).ending
  gone_on_goes false =
      beside_goes (later live) (record { live = unit_begun setup live; sent = where_due (is_again live) (requests_of live.device live.asked) })
      (begun_beside setup (later live) (unit_begun setup live) (begins setup (is_again live) (later live))) (keeps (stays (later live)) refl (λ up. up))

  quit_goes : (cause : Cause) (next : Live) (phase : State) → got_at next.cyclic ≡ got_at live.cyclic → (live.stands ≡ true → next.stands ≡ true) → Goes (quit setup cause next phase)
  quit_goes cause next Looking same stands = ends cause next [] (zeros_from next same)
  quit_goes cause next Addressing same stands = ends cause next [] (zeros_from next same)
  quit_goes cause next (Ended before) same stands = keeps (stays next) same stands
  quit_goes cause next Connecting same stands = releases cause next (zeros_from next same)
  quit_goes cause next Writing same stands = releases cause next (zeros_from next same)
  quit_goes cause next Ending same stands = releases cause next (zeros_from next same)
  quit_goes cause next Waiting same stands = releases cause next (zeros_from next same)
  quit_goes cause next Exchanging same stands = releases cause next (zeros_from next same)

  ticked_goes : Goes (ticked setup live)
  ticked_goes = either (is_spent live) (quit_goes why.NoProgress (later live) live.phase refl (λ up. up))
      (subst (λ (t : Turn). Goes t) (sym (gone_is setup live)) (gone_on_goes live.stands))

  requested_goes : (kind : RecordService) (slot subslot index : ℕ) (octets : List ℕ) → Goes (requested setup live kind slot subslot index octets)
  requested_goes kind slot subslot index octets = either (can_request live) (keeps _ refl (λ up. up)) rests

  -- ---- a cyclic frame

  -- These octets are brought by a frame that is accepted.
  pub record Takes (source : Mac) (frame_id : ℕ) (body : List ℕ) (next : Live) : Type 0 where
    pub stood : live.stands ≡ true
    pub own : is_of_partner live.cyclic.route source frame_id ≡ true
    pub octets : List ℕ
    pub tail : CyclicTail
    pub read : cyclic_of live.cyclic.taken.data_length body ≡ Ok (octets, tail)
    pub newer : is_new live.cyclic tail ≡ true
    pub are : next.cyclic.taken ≡ with_frame octets live.cyclic.taken
    pub stands : next.stands ≡ true

  abbrev pub GoesOrTakes : Mac → ℕ → List ℕ → Live → Type 0
  GoesOrTakes source frame_id body next = (Keeps next ⊎ IsZeroed next) ⊎ Takes source frame_id body next

  module _ (source : Mac) (frame_id : ℕ) (body : List ℕ) where
    unchanged : (cyclic : CyclicEnd) → got_at cyclic ≡ got_at live.cyclic → GoesOrTakes source frame_id body (record live { cyclic = cyclic })
    unchanged cyclic same = inl (inl (record { received = same; stands = λ up. up }))

    newer_as : (x : List ℕ × CyclicTail) (b : Bool) → live.stands ≡ true → is_of_partner live.cyclic.route source frame_id ≡ true → cyclic_of live.cyclic.taken.data_length body ≡ Ok x
        → is_new live.cyclic x.1 ≡ b → GoesOrTakes source frame_id body (record live { cyclic = if b then taken_from live.cyclic x.0 x.1 else live.cyclic })
    newer_as x true up own read e = inr (record { stood = up; own = own; octets = x.0; tail = x.1; read = read; newer = e; are = refl; stands = up })
    newer_as x false up own read e = unchanged live.cyclic refl

    read_as : (read : Result (List ℕ × CyclicTail) ShortFrame) → live.stands ≡ true → is_of_partner live.cyclic.route source frame_id ≡ true → cyclic_of live.cyclic.taken.data_length body ≡ read
        → GoesOrTakes source frame_id body (record live { cyclic = behind_read live.cyclic read })
    read_as (Ok x) up own e = newer_as x (is_new live.cyclic x.1) up own e refl
    read_as (Err short) up own e = unchanged live.cyclic refl

    partner_as : (b : Bool) → live.stands ≡ true → is_of_partner live.cyclic.route source frame_id ≡ b
        → GoesOrTakes source frame_id body (record live { cyclic = if b then behind_read live.cyclic (cyclic_of live.cyclic.taken.data_length body) else live.cyclic })
    partner_as true up e = read_as (cyclic_of live.cyclic.taken.data_length body) up e refl
    partner_as false up e = unchanged live.cyclic refl

    stands_as : (b : Bool) → live.stands ≡ b → GoesOrTakes source frame_id body (if b then record live { cyclic = behind_frame live.cyclic source frame_id body } else live)
    stands_as true up = partner_as (is_of_partner live.cyclic.route source frame_id) up refl
    stands_as false down = inl (inl (record { received = refl; stands = λ up. up }))

  -- What a turn does to the inputs, by what comes.
  abbrev pub GoesBy : Came → Turn → Type 0
  GoesBy (Hears (Comes source frame_id body)) turn = GoesOrTakes source frame_id body turn.live
  GoesBy came turn = Goes turn

  pub came_goes : (came : Came) → GoesBy came (turn_for setup live came)
  came_goes (Hears Nothing) = rests
  came_goes (Hears (Answers source answer)) = answered_goes source answer live.phase
  came_goes (Hears (Responds response)) = after_goes (responded setup live response live.asked) (responded_goes response live.asked)
  came_goes (Hears (Refuses refusal)) = after_goes (refused setup live refusal live.asked) (refused_goes refusal live.asked)
  came_goes (Hears (Calls caller call)) = called_goes caller call (ready_in call)
  came_goes (Hears (Comes source frame_id body)) = stands_as source frame_id body live.stands refl
  came_goes (Hears (Alarms source under header reported)) =
      after_goes (alarmed live source under header reported)
      (either (live.stands && is_alarm live.cyclic.route source header) (noticed_goes under reported) rests)
  came_goes Passes = ticked_goes
  came_goes (Gets slot subslot value) = keeps _ refl (λ up. up)
  came_goes (GetsStatus slot subslot is_good) = keeps _ refl (λ up. up)
  came_goes (AsksRead slot subslot index) = requested_goes service.Read slot subslot index []
  came_goes (AsksWrite slot subslot index octets) = either (nat_lt most_record_octets (length octets)) rests (requested_goes service.Write slot subslot index octets)
  came_goes Halts = quit_goes why.Stopped live live.phase refl (λ up. up)

-- ---- frames, one after the other

cells_again : (octets others : List ℕ) (cells : List Cell) → map (λ (cell : Cell). cell_of octets cell.place) (map (λ (cell : Cell). cell_of others cell.place) cells) ≡ map (λ (cell : Cell). cell_of octets cell.place) cells
cells_again octets others [] = refl
cells_again octets others (cell ∷ cells) = ap (λ (more : List Cell). cell_of octets cell.place ∷ more) (cells_again octets others cells)

frame_again : (octets others : List ℕ) (image : Shown) → with_frame octets (with_frame others image) ≡ with_frame octets image
frame_again octets others image = ap (λ (cells : List Cell). let shown : Shown = record { data_length = image.data_length; cells = cells } in shown) (cells_again octets others image.cells)

behind_last : (happened : List Event) (event : Event) (first : Controlling) → behind_all (happened ++ event ∷ []) first ≡ (step_of (behind_all happened first) event).controller
behind_last [] event first = refl
behind_last (one ∷ more) event first = behind_last more event (step_of first one).controller

append_last : (happened : List Event) (event : Event) (more : List Event) → (happened ++ event ∷ []) ++ more ≡ happened ++ event ∷ more
append_last [] event more = refl
append_last (one ∷ happened) event more = ap (λ (events : List Event). one ∷ events) (append_last happened event more)

append_none : (happened : List Event) → happened ++ [] ≡ happened
append_none [] = refl
append_none (one ∷ happened) = ap (λ (events : List Event). one ∷ events) (append_none happened)

no_bool : true ≡ false → ⊥
no_bool e = cc

-- ---- any run

module _ (plan : Parts) (first : Controlling) where
  record Holds (happened : List Event) (now : Controlling) : Type 0 where
    setup : now.setup.plan ≡ plan
    size : now.live.cyclic.taken.data_length ≡ (no_inputs plan).data_length
    places : (octets : List ℕ) → with_frame octets now.live.cyclic.taken ≡ with_frame octets (no_inputs plan)
    shows : AreZeros plan now.live.cyclic.taken ⊎ (ComeFromOne first happened now.live.cyclic.taken × (now.live.stands ≡ true))

  came_later : (happened : List Event) (event : Event) (inputs : Shown) → ComeFromOne first happened inputs → ComeFromOne first (happened ++ event ∷ []) inputs
  came_later happened event inputs came = record {
    before = came.before;
    octets = came.octets;
    later = came.later ++ event ∷ [];
    all = ap (λ (events : List Event). events ++ event ∷ []) came.all ∙ longer came.before (Frame (record { items = came.octets })) came.later event;
    brings = came.brings;
  }
    where
      longer : (before : List Event) (one : Event) (later : List Event) (last : Event) → (before ++ one ∷ later) ++ last ∷ [] ≡ before ++ one ∷ (later ++ last ∷ [])
      longer [] one later last = refl
      longer (other ∷ before) one later last = ap (λ (events : List Event). other ∷ events) (longer before one later last)

  module _ (happened : List Event) (now : Controlling) (is : now ≡ behind_all happened first) (holds : Holds happened now) (event : Event) (next : Live) where
    abbrev After : Type 0
    After = Holds (happened ++ event ∷ []) (record { setup = now.setup; live = next })

    kept : Keeps now.setup now.live next → After
    kept k = record {
      setup = holds.setup;
      size = ap (λ (shown : Shown). shown.data_length) (taken_kept now.setup now.live next k) ∙ holds.size;
      places = λ octets. ap (λ (shown : Shown). with_frame octets shown) (taken_kept now.setup now.live next k) ∙ holds.places octets;
      shows = by_shows holds.shows;
    }
      where
        by_shows : AreZeros plan now.live.cyclic.taken ⊎ (ComeFromOne first happened now.live.cyclic.taken × (now.live.stands ≡ true))
            → AreZeros plan next.cyclic.taken ⊎ (ComeFromOne first (happened ++ event ∷ []) next.cyclic.taken × (next.stands ≡ true))
        by_shows (inl zeros) = inl (subst (λ (shown : Shown). AreZeros plan shown) (sym (taken_kept now.setup now.live next k)) zeros)
        by_shows (inr came) =
            inr (subst (λ (shown : Shown). ComeFromOne first (happened ++ event ∷ []) shown) (sym (taken_kept now.setup now.live next k)) (came_later happened event now.live.cyclic.taken came.0), k.stands came.1)

    framed_size : (octets : List ℕ) → next.cyclic.taken ≡ with_frame octets now.live.cyclic.taken → next.cyclic.taken.data_length ≡ (no_inputs plan).data_length
    framed_size octets same = ap (λ (shown : Shown). shown.data_length) same ∙ holds.size

    framed_places : (others : List ℕ) → next.cyclic.taken ≡ with_frame others now.live.cyclic.taken → (octets : List ℕ) → with_frame octets next.cyclic.taken ≡ with_frame octets (no_inputs plan)
    framed_places others same octets =
        ap (λ (shown : Shown). with_frame octets shown) same ∙ (frame_again octets others now.live.cyclic.taken ∙ holds.places octets)

    zeroed : IsZeroed now.setup now.live next → After
    zeroed z = record {
      setup = holds.setup;
      size = framed_size _ z.0;
      places = framed_places _ z.0;
      shows = inl (inr (z.0 ∙ (holds.places (replicate now.live.cyclic.taken.data_length 0) ∙ ap (λ (n : ℕ). with_frame (replicate n 0) (no_inputs plan)) holds.size)));
    }

    took : (bytes : List ℕ) (source : Mac) (frame_id : ℕ) (body : List ℕ) → event ≡ Frame (record { items = bytes }) → heard_of now.setup.plan.controller bytes ≡ Comes source frame_id body
        → Takes now.setup now.live source frame_id body next → After
    took bytes source frame_id body event_is heard takes =
        let inputs : next.cyclic.taken ≡ with_frame takes.octets (no_inputs plan) = takes.are ∙ holds.places takes.octets in
        let brings : Brings now bytes next.cyclic.taken = record {
          source = source;
          frame_id = frame_id;
          body = body;
          heard = heard;
          stands = takes.stood;
          own = takes.own;
          content = takes.octets;
          tail = takes.tail;
          read = ap (λ (n : ℕ). cyclic_of n body) (ap (λ (p : Parts). (no_inputs p).data_length) holds.setup ∙ sym holds.size) ∙ takes.read;
          newer = takes.newer;
          are = inputs ∙ ap (λ (p : Parts). with_frame takes.octets (no_inputs p)) (sym holds.setup);
        } in
        record {
          setup = holds.setup;
          size = framed_size takes.octets takes.are;
          places = framed_places takes.octets takes.are;
          shows = inr (
            record {
              before = happened;
              octets = bytes;
              later = [];
              all = ap (λ (e : Event). happened ++ e ∷ []) event_is;
              brings = subst (λ (c : Controlling). Brings c bytes next.cyclic.taken) is brings;
            },
            takes.stands,
          );
        }

    by_either : Keeps now.setup now.live next ⊎ IsZeroed now.setup now.live next → After
    by_either (inl k) = kept k
    by_either (inr z) = zeroed z

    goes : Goes now.setup now.live (record { live = next; sent = [] }) → After
    goes by = by_either by.either_so

    heard_goes : (bytes : List ℕ) (heard : Heard) → event ≡ Frame (record { items = bytes }) → heard_of now.setup.plan.controller bytes ≡ heard
        → GoesBy now.setup now.live (Hears heard) (record { live = next; sent = [] }) → After
    heard_goes bytes (Comes source frame_id body) event_is heard (inl either) = by_either either
    heard_goes bytes (Comes source frame_id body) event_is heard (inr takes) = took bytes source frame_id body event_is heard takes
    heard_goes bytes Nothing event_is heard by = goes by
    heard_goes bytes (Answers source answer) event_is heard by = goes by
    heard_goes bytes (Responds response) event_is heard by = goes by
    heard_goes bytes (Refuses refusal) event_is heard by = goes by
    heard_goes bytes (Calls caller call) event_is heard by = goes by
    heard_goes bytes (Alarms source under header reported) event_is heard by = goes by

  -- a turn without what is sent
  bare : (now : Controlling) (came : Came) (turn : Turn) → GoesBy now.setup now.live came turn → GoesBy now.setup now.live came (record { live = turn.live; sent = [] })
  bare now (Hears (Comes source frame_id body)) turn by = by
  bare now (Hears Nothing) turn by = record { either_so = by.either_so }
  bare now (Hears (Answers source answer)) turn by = record { either_so = by.either_so }
  bare now (Hears (Responds response)) turn by = record { either_so = by.either_so }
  bare now (Hears (Refuses refusal)) turn by = record { either_so = by.either_so }
  bare now (Hears (Calls caller call)) turn by = record { either_so = by.either_so }
  bare now (Hears (Alarms source under header reported)) turn by = record { either_so = by.either_so }
  bare now Passes turn by = record { either_so = by.either_so }
  bare now (Gets slot subslot value) turn by = record { either_so = by.either_so }
  bare now (GetsStatus slot subslot is_good) turn by = record { either_so = by.either_so }
  bare now (AsksRead slot subslot index) turn by = record { either_so = by.either_so }
  bare now (AsksWrite slot subslot index octets) turn by = record { either_so = by.either_so }
  bare now Halts turn by = record { either_so = by.either_so }

  event_goes : (happened : List Event) (now : Controlling) → now ≡ behind_all happened first → Holds happened now → (event : Event)
      → Holds (happened ++ event ∷ []) (record { setup = now.setup; live = (turn_of now.setup now.live event).live })
  event_goes happened now is holds event =
      by_event event refl (bare now (came_by now.setup event) (turn_of now.setup now.live event)
      (subst (λ (t : Turn). GoesBy now.setup now.live (came_by now.setup event) t) (sym (turn_by_event now.setup now.live event)) (came_goes now.setup now.live (came_by now.setup event))))
    where
      by_event : (one : Event) → event ≡ one → GoesBy now.setup now.live (came_by now.setup one) (record { live = (turn_of now.setup now.live event).live; sent = [] })
          → Holds (happened ++ event ∷ []) (record { setup = now.setup; live = (turn_of now.setup now.live event).live })
      by_event (Frame bytes) e by =
          heard_goes happened now is holds event (turn_of now.setup now.live event).live bytes.items (heard_of now.setup.plan.controller bytes.items) e refl by
      by_event Tick e by = goes happened now is holds event (turn_of now.setup now.live event).live by
      by_event (Give slot subslot value) e by = goes happened now is holds event (turn_of now.setup now.live event).live by
      by_event (Status slot subslot is_good) e by = goes happened now is holds event (turn_of now.setup now.live event).live by
      by_event (Read slot subslot index) e by = goes happened now is holds event (turn_of now.setup now.live event).live by
      by_event (Write slot subslot index octets) e by = goes happened now is holds event (turn_of now.setup now.live event).live by
      by_event Stop e by = goes happened now is holds event (turn_of now.setup now.live event).live by

  step_holds : (happened : List Event) (now : Controlling) → now ≡ behind_all happened first → Holds happened now → (event : Event)
      → Holds (happened ++ event ∷ []) (step_of now event).controller
  unfolding step_of
  step_holds happened now is holds event = event_goes happened now is holds event

  all_hold : (more happened : List Event) (now : Controlling) → now ≡ behind_all happened first → Holds happened now → Holds (happened ++ more) (behind_all more now)
  all_hold [] happened now is holds = subst (λ (events : List Event). Holds events now) (sym (append_none happened)) holds
  all_hold (event ∷ more) happened now is holds =
      subst (λ (events : List Event). Holds events (behind_all more (step_of now event).controller)) (append_last happened event more)
      (all_hold more (happened ++ event ∷ []) (step_of now event).controller
      (ap (λ (c : Controlling). (step_of c event).controller) is ∙ sym (behind_last happened event first)) (step_holds happened now is holds event))

first_holds : (plan : Parts) (ar activity : List ℕ) (options : ControllerOptions) → Holds plan (fresh_with plan ar activity options) [] (fresh_with plan ar activity options)
first_holds plan ar activity options = record { setup = refl; size = refl; places = λ octets. refl; shows = inl (inl refl) }

run_holds : (plan : Parts) (ar activity : List ℕ) (options : ControllerOptions) (events : List Event)
    → Holds plan (fresh_with plan ar activity options) events (behind_all events (fresh_with plan ar activity options))
run_holds plan ar activity options events =
    all_hold plan (fresh_with plan ar activity options) events [] (fresh_with plan ar activity options) refl (first_holds plan ar activity options)

pub shows_what_came : ShowsWhatCame
shows_what_came plan ar activity options events = by_shows (run_holds plan ar activity options events).shows
  where
    by_shows : AreZeros plan (behind_all events (fresh_with plan ar activity options)).live.cyclic.taken
        ⊎ (ComeFromOne (fresh_with plan ar activity options) events (behind_all events (fresh_with plan ar activity options)).live.cyclic.taken
        × ((behind_all events (fresh_with plan ar activity options)).live.stands ≡ true))
        → AreZeros plan (behind_all events (fresh_with plan ar activity options)).live.cyclic.taken
        ⊎ ComeFromOne (fresh_with plan ar activity options) events (behind_all events (fresh_with plan ar activity options)).live.cyclic.taken
    by_shows (inl zeros) = inl zeros
    by_shows (inr came) = inr came.0

pub shows_nothing_without : ShowsNothingWithout
shows_nothing_without plan ar activity options events down = by_shows (run_holds plan ar activity options events).shows
  where
    by_shows : AreZeros plan (behind_all events (fresh_with plan ar activity options)).live.cyclic.taken
        ⊎ (ComeFromOne (fresh_with plan ar activity options) events (behind_all events (fresh_with plan ar activity options)).live.cyclic.taken
        × ((behind_all events (fresh_with plan ar activity options)).live.stands ≡ true))
        → AreZeros plan (behind_all events (fresh_with plan ar activity options)).live.cyclic.taken
    by_shows (inl zeros) = zeros
    by_shows (inr came) = absurd (no_bool (sym came.1 ∙ down))
