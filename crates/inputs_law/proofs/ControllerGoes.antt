-- What becomes of the inputs that a controller shows, with any event: they stay, the relation ends, or a frame is accepted.
use Rattle.std.proofs.Common.{◌≡◌, ◌⊎◌, inl, inr, ◌+◌, ◌&&◌, ◌||◌, ℕ, Bool, true, false, not, List, [], length, Option, Some, None, Result, Ok, Err, refl, sym, ap, subst, ◌∙◌}
use Rattle.std.specs.Prelude.{if◌then◌else◌, is_some, nat_lt}
use Rattle.pn_values.specs.declared.mac.Mac.{Mac}
use Rattle.frame_codec.specs.declared.udp.Caller.{Caller}
use Rattle.dcp_core.specs.Response.{Answered}
use Rattle.dcp_core.specs.Answered.{is_agreed}
use Rattle.rpc_core.specs.declared.response.Status.{Status as Code}
use Rattle.rpc_core.specs.Call.{Asked as Call}
use Rattle.rpc_core.specs.Response.{Answered as Response, is_done}
use Rattle.connect_blocks.specs.declared.control.ControlBlock.{ControlBlock}
use Rattle.connect_blocks.specs.declared.plug_control.PlugControlBlock.{PlugControlBlock}
use Rattle.block_codec.specs.Block.{block_of}
use Rattle.record_blocks.specs.declared.alarm_notification.AlarmNotification.{AlarmNotification}
use Rattle.pn_alarms.specs.declared.abort.Abort.{Abort}
use Rattle.pn_alarms.specs.declared.message.Notice.TheVariants as notice
use Rattle.pn_alarms.specs.declared.receiver.Taken.{Taken}
use Rattle.pn_alarms.specs.declared.receiver.Taken.TheVariants.{New, Again, Refused}
use Rattle.pn_alarms.specs.Controller.{confirmed, with_ack, with_data}
use Rattle.pn_alarms.specs.Ends.{ControllerEnd}
use Rattle.pn_alarms.specs.Receiver.{taken_as}
use Rattle.pn_alarms.specs.Sending.{due}
use Rattle.diagnosis.specs.declared.reports.priority.Priority.{Priority}
use Rattle.diagnosis.specs.declared.reports.priority.Priority.TheVariants.{High, Low}
use Rattle.diagnosis.specs.declared.reports.report.Report.{Report}
use Rattle.diagnosis.specs.reports.Message.{ToController}
use Rattle.cyclic_data.specs.Image.{with_frame}
use Rattle.cyclic_data.specs.declared.tail.CyclicTail.{CyclicTail}
use Rattle.cyclic_data.specs.declared.tail.ShortFrame.{ShortFrame}
use Rattle.cyclic_data.specs.Tail.{cyclic_of}
use Rattle.cyclic_data.specs.Timing.{Hearing, held_on}
use Rattle.cyclic_data.specs.exchange.Cyclic.{Cyclic as CyclicEnd}
use Rattle.cyclic_data.specs.exchange.Units.{cyclic_later}
use Rattle.cyclic_data.specs.exchange.Received.{behind_frame, behind_read, is_new, is_of_partner}
use Rattle.connects.specs.declared.answers.connect.Found.{Found}
use Rattle.connects.specs.answers.Connect.{Chosen, chosen_of, found_in, is_whole, nothing}
use Rattle.controller_messages.specs.declared.plug_request.PlugRequest.{PlugRequest}
use Rattle.controller_messages.specs.declared.record_request.RecordRequest.{RecordRequest}
use Rattle.controller_messages.specs.declared.record_request.RecordService.{RecordService}
use Rattle.controller_messages.specs.declared.record_request.RecordService.TheVariants as service
use Rattle.controller_messages.specs.declared.refusal.Refusal.{Refusal}
use Rattle.controller_messages.specs.declared.setup.Setup.{Setup}
use Rattle.controller_messages.specs.declared.request.Request.{Request}
use Rattle.controller_messages.specs.declared.request.Request.TheVariants as asks
use Rattle.controller_messages.specs.Access.{is_rejected, is_reply, record_in}
use Rattle.controller_messages.specs.Heard.{Nothing, Answers, Responds, Refuses, Calls, Alarms}
use Rattle.controller_messages.specs.Heard.{Cyclic as Comes}
use Rattle.controller_messages.specs.PlugRequests.{is_plug_answer, is_plug_ready, plug_ready_in}
use Rattle.controller_messages.specs.RecordRequests.{most_record_octets}
use Rattle.controller_messages.specs.Requests.{first_of, writing_from, writing_after}
use Rattle.controller_messages.specs.Sent.{Sent}
use Rattle.controller_core.specs.declared.start_up.outcomes.Outcomes.{Outcomes}
use Rattle.controller_core.specs.declared.start_up.outcomes.Outcomes.TheVariants.{AllWritten, Unreadable}
use Rattle.controller_core.specs.declared.start_up.outcomes.Outcomes.TheVariants.{Refused as Denied}
use Rattle.controller_core.specs.declared.stored.state.Cause.{Cause}
use Rattle.controller_core.specs.declared.stored.state.Cause.TheVariants as why
use Rattle.controller_core.specs.declared.stored.state.State.{State}
use Rattle.controller_core.specs.declared.stored.state.State.TheVariants.{Looking, Addressing, Connecting, Writing, Ending, Waiting, Exchanging, Ended}
use Rattle.controller_core.specs.start_up.Answers.{is_addressed, is_answer, is_found, is_held, is_ready, is_refused, is_right, is_set_answer, ready_in, is_tried}
use Rattle.controller_core.specs.start_up.Outcomes.{outcomes_of}
use Rattle.controller_core.specs.stored.Alarms.{ack_of, is_alarm, kept_alarm}
use Rattle.controller_core.specs.stored.Cause.{cause_of}
use Rattle.controller_core.specs.stored.State.{Live}
use Rattle.controller_core.specs.Machine.{Turn, acked_under, acking, after_turn, after_write, alarmed, answered, asks_next, begun_turn, behind_data, beside, brings, brought, called, can_begin, can_request, is_plug_awaited, placed, plug_called, plug_readied, plug_rejected, plug_replied, refused_beside, turn_due, connected, decided, done, end_of, exchange_later, flowed, granted, is_again, is_spent, keeping, later, noted, noticed, over, past_record, quit, readied, refused, refused_by, rejected, related_by, released, replied, requested, requests_of, responded, standing, stays, taken, ticked, undone, where_due, with_end, writing, refused_end, refused_write}
use Rattle.both_ends.proofs.ExchangePlugs.{IsAside, due_aside, readied_aside, rejected_aside, replied_aside, turn_aside}
use Rattle.end_laws.specs.turns.Turns.{Came, Hears, Passes, Gets, GetsStatus, AsksRead, AsksWrite, Halts, turn_for}

-- It has ended, its relation is over, and no request is active except its Release.
abbrev pub IsReleasedOnly : Option Request → Type 0
IsReleasedOnly None = Unit {0}
IsReleasedOnly (Some (asks.Release sequence)) = Unit {0}
IsReleasedOnly (Some other) = ⊥

pub record IsOver (live : Live) : Type 0 where
  pub phase : (cause : Cause) × (live.phase ≡ Ended cause)
  pub down : live.stands ≡ false
  pub asked : IsReleasedOnly live.asked

held_last : (begun : Bool) (hearing : Hearing) → (if begun then held_on hearing else hearing).last ≡ hearing.last
held_last true hearing = refl
held_last false hearing = refl

module _ (setup : Setup) (live : Live) where
  -- The inputs and the counter of the last frame are unchanged, and an established relation stays so.
  pub record Keeps (next : Live) : Type 0 where
    pub taken : next.cyclic.taken ≡ live.cyclic.taken
    pub last : next.cyclic.hearing.last ≡ live.cyclic.hearing.last
    pub stands : live.stands ≡ true → next.stands ≡ true

  pub record Goes (turn : Turn) : Type 0 where
    pub either_so : Keeps turn.live ⊎ IsOver turn.live

  keeps_all : (turn : Turn) → turn.live.cyclic.taken ≡ live.cyclic.taken → turn.live.cyclic.hearing.last ≡ live.cyclic.hearing.last → (live.stands ≡ true → turn.live.stands ≡ true) → Goes turn
  keeps_all turn same last stands = record { either_so = inl (record { taken = same; last = last; stands = stands }) }

  keeps : (turn : Turn) → (turn.live.cyclic.taken ≡ live.cyclic.taken) × (turn.live.cyclic.hearing.last ≡ live.cyclic.hearing.last) → (live.stands ≡ true → turn.live.stands ≡ true) → Goes turn
  keeps turn same stands = keeps_all turn same.0 same.1 stands

  rests : Goes (stays live)
  rests = keeps (stays live) (refl, refl) (λ up. up)

  ends : (cause : Cause) (next : Live) (sent : List Sent) → Goes (record { live = over cause next; sent = sent })
  ends cause next sent = record { either_so = inr (record { phase = (cause, refl); down = refl; asked = tt }) }

  releases : (cause : Cause) (next : Live) → Goes (released setup cause next)
  releases cause next = record { either_so = inr (record { phase = (cause, refl); down = refl; asked = tt }) }

  either : (is : Bool) {x y : Turn} → Goes x → Goes y → Goes (if is then x else y)
  either true one other = one
  either false one other = other

  writes : (request : Request) (next : Live) → (next.cyclic.taken ≡ live.cyclic.taken) × (next.cyclic.hearing.last ≡ live.cyclic.hearing.last) → (live.stands ≡ true → next.stands ≡ true) → Goes (writing setup request next)
  writes request next same stands = keeps (writing setup request next) same stands

  answered_goes : (source : Mac) (answer : Answered) (phase : State) → Goes (answered setup live source answer phase)
  answered_goes source answer Looking =
      either (is_found setup.plan answer)
      (either (is_right setup.plan answer) (either (is_addressed setup.plan answer) (keeps _ (refl, refl) (λ up. up)) (keeps _ (refl, refl) (λ up. up))) (ends why.WrongDevice live []))
      rests
  answered_goes source answer Addressing =
      either (is_set_answer answer) (either (is_agreed answer) (keeps _ (refl, refl) (λ up. up)) (ends why.Refused live [])) rests
  answered_goes source answer phase = rests

  related_goes : (blocks : List ℕ) (found : Option Chosen) → Goes (related_by setup (placed setup blocks live) found)
  related_goes blocks (Some chosen) = writes (writing_from setup.plan 0) (standing setup (placed setup blocks live) chosen) (refl, refl) (λ up. refl)
  related_goes blocks None = keeps (stays (placed setup blocks live)) (refl, refl) (λ up. up)

  connected_goes : (blocks : List ℕ) (found : Option Found) → Goes (connected setup live blocks found)
  connected_goes blocks (Some found) = either (is_whole found) (either found.differs (releases why.ModuleDiff live) (related_goes blocks (chosen_of found))) rests
  connected_goes blocks None = rests

  passed_goes : (next : Request) (denied : ℕ) (status : Code) → Goes (past_record setup next (noted status denied live))
  passed_goes next denied status =
      either setup.plan.continue_on_refused_record (writes next (noted status denied live) (refl, refl) (λ up. up))
      (either setup.plan.release_on_refused_record (releases why.Refused (noted status denied live)) (ends why.Refused (noted status denied live) []))

  outcomes_go : (number : ℕ) (next : Request) (outcomes : Outcomes) → Goes (after_write setup live number next outcomes)
  outcomes_go number next AllWritten = writes next live (refl, refl) (λ up. up)
  outcomes_go number next (Denied place status) = passed_goes next (first_of setup.plan number + place) status
  outcomes_go number next Unreadable = rests

  done_goes : (blocks : List ℕ) (request : Request) → Goes (done setup live blocks request)
  done_goes blocks asks.Identify = rests
  done_goes blocks asks.Address = rests
  done_goes blocks asks.Connect = connected_goes blocks (found_in 400 blocks nothing)
  done_goes blocks (asks.Write number) = outcomes_go number (writing_from setup.plan (number + 1)) (outcomes_of setup.plan number blocks)
  done_goes blocks (asks.WriteAfter number tries) = outcomes_go number (writing_after setup.plan (number + 1) tries) (outcomes_of setup.plan number blocks)
  done_goes blocks asks.PrmEnd = keeps _ (refl, refl) (λ up. up)
  done_goes blocks (asks.PrmEndAfter tries) = keeps _ (refl, refl) (λ up. up)
  done_goes blocks (asks.Release sequence) = keeps _ (refl, refl) (λ up. up)

  refused_write_goes : (status : Code) (number tries : ℕ) (next : Request) → Goes (refused_write setup live status number tries next)
  refused_write_goes status number tries next =
      either (is_tried setup.plan status tries) (keeps _ (refl, refl) (λ up. up)) (passed_goes next (first_of setup.plan number) status)

  refused_end_goes : (status : Code) (tries : ℕ) → Goes (refused_end setup live status tries)
  refused_end_goes status tries =
      either (is_tried setup.plan status tries) (keeps _ (refl, refl) (λ up. up)) (ends why.Refused (record live { refusal = Some status }) [])

  undone_goes : (status : Code) (request : Request) → Goes (undone setup live status request)
  undone_goes status (asks.Write number) = refused_write_goes status number 0 (writing_from setup.plan (number + 1))
  undone_goes status (asks.WriteAfter number tries) = refused_write_goes status number tries (writing_after setup.plan (number + 1) tries)
  undone_goes status asks.PrmEnd = refused_end_goes status 0
  undone_goes status (asks.PrmEndAfter tries) = refused_end_goes status tries
  undone_goes status asks.Connect =
      let next : Live = record live { refusal = Some status } in either (is_held setup.plan status) (releases why.Refused next) (ends why.Refused next [])
  undone_goes status request = ends why.Refused (record live { refusal = Some status }) []

  decided_goes : (response : Response) (request : Request) → Goes (decided setup live response request)
  decided_goes response (asks.Release sequence) = keeps _ (refl, refl) (λ up. up)
  decided_goes response request = either (is_done response.status) (done_goes response.blocks request) (undone_goes response.status request)

  -- requests of the application
  record IsSame (next : Live) : Type 0 where
    cyclic : next.cyclic ≡ live.cyclic
    stands : next.stands ≡ live.stands

  same_goes : (next : Live) → IsSame next → Goes (stays next)
  same_goes next is = keeps (stays next) (ap (λ (c : CyclicEnd). c.taken) is.cyclic, ap (λ (c : CyclicEnd). c.hearing.last) is.cyclic) (λ up. is.stands ∙ up)

  same_if : (is : Bool) {x y : Live} → IsSame x → IsSame y → IsSame (if is then x else y)
  same_if true one other = one
  same_if false one other = other

  abbrev same : IsSame live
  same = record { cyclic = refl; stands = refl }

  brought_same : (request : RecordRequest) (octets : Option (List ℕ)) → IsSame (brings request octets live)
  brought_same request (Some octets) = record { cyclic = refl; stands = refl }
  brought_same request None = record { cyclic = refl; stands = refl }

  granted_same : (request : RecordRequest) (blocks : List ℕ) (kind : RecordService) → IsSame (granted request blocks kind live)
  granted_same request blocks service.Read = brought_same request (record_in (block_of blocks))
  granted_same request blocks service.Write = record { cyclic = refl; stands = refl }

  replied_same : (response : Response) (waiting : Option RecordRequest) → IsSame (replied setup live response waiting)
  replied_same response None = record { cyclic = refl; stands = refl }
  replied_same response (Some request) =
      same_if (is_reply setup request response.header)
      (same_if (is_done response.status) (granted_same request response.blocks request.service) (record { cyclic = refl; stands = refl })) (record { cyclic = refl; stands = refl })

  -- after a plug
  aside_same : (next : Live) → IsAside live next → IsSame next
  aside_same next aside = record { cyclic = ap (λ (l : Live). l.cyclic) aside.is; stands = ap (λ (l : Live). l.stands) aside.is }

  asks_goes : (next : Live) → IsAside live next → Goes (asks_next next)
  asks_goes next aside =
      let alike = aside_same next aside in
      keeps (asks_next next) (ap (λ (c : CyclicEnd). c.taken) alike.cyclic, ap (λ (c : CyclicEnd). c.hearing.last) alike.cyclic) (λ up. alike.stands ∙ up)

  -- a turn of a place begins, if one can
  after_goes : (could : Bool) (turn : Turn) → Goes turn → Goes (after_turn setup could turn)
  after_goes could turn goes = either (could || not (can_begin turn.live)) goes (record { either_so = by_either goes.either_so })
    where
      aside : IsAside turn.live (begun_turn setup turn.live)
      aside = turn_aside setup turn.live

      by_either : Keeps turn.live ⊎ IsOver turn.live → Keeps (begun_turn setup turn.live) ⊎ IsOver (begun_turn setup turn.live)
      by_either (inl so) = inl (subst (λ (l : Live). Keeps l) (sym aside.is) (record { taken = so.taken; last = so.last; stands = so.stands }))
      by_either (inr so) = inr (subst (λ (l : Live). IsOver l) (sym aside.is) (record { phase = so.phase; down = so.down; asked = so.asked }))

  beside_goes : (response : Response) (plug : Option PlugRequest) → Goes (beside setup live response plug)
  beside_goes response (Some request) =
      either (is_plug_answer setup request response.header.activity response.header.sequence)
      (asks_goes (plug_replied setup live response.status request) (replied_aside setup live response.status request)) rests
  beside_goes response None = same_goes _ (replied_same response live.access.waiting)

  responded_goes : (response : Response) (asked : Option Request) → Goes (responded setup live response asked)
  responded_goes response (Some request) = either (is_answer setup request response.header) (decided_goes response request) rests
  responded_goes response None = beside_goes response live.access.plug

  refused_by_goes : (refusal : Refusal) (request : Request) → Goes (refused_by live refusal request)
  refused_by_goes refusal (asks.Release sequence) = keeps _ (refl, refl) (λ up. up)
  refused_by_goes refusal request = ends why.Refused (record live { refusal = Some refusal.status }) []

  rejected_same : (refusal : Refusal) (waiting : Option RecordRequest) → IsSame (rejected setup live refusal waiting)
  rejected_same refusal None = record { cyclic = refl; stands = refl }
  rejected_same refusal (Some request) = same_if (is_rejected setup request refusal) (record { cyclic = refl; stands = refl }) (record { cyclic = refl; stands = refl })

  refused_beside_same : (refusal : Refusal) (plug : Option PlugRequest) → IsSame (refused_beside setup live refusal plug)
  refused_beside_same refusal (Some request) = aside_same (plug_rejected setup live refusal request) (rejected_aside setup live refusal request)
  refused_beside_same refusal None = rejected_same refusal live.access.waiting

  refused_goes : (refusal : Refusal) (asked : Option Request) → Goes (refused setup live refusal asked)
  refused_goes refusal (Some request) = either (is_refused setup request refusal) (refused_by_goes refusal request) rests
  refused_goes refusal None = same_goes _ (refused_beside_same refusal live.access.plug)

  readied_goes : (caller : Caller) (call : Call) (block : ControlBlock) (phase : State) → Goes (readied live caller call block phase)
  readied_goes caller call block Ending = keeps _ (refl, refl) (λ up. up)
  readied_goes caller call block Waiting = keeps _ (refl, refl) (λ up. up)
  readied_goes caller call block Exchanging = keeps _ (refl, refl) (λ up. up)
  readied_goes caller call block phase = rests

  plug_called_goes : (caller : Caller) (call : Call) (block : Option PlugControlBlock) → Goes (plug_called setup live caller call block)
  plug_called_goes caller call (Some block) =
      let alike = aside_same (plug_readied live block.alarm_sequence_number) (readied_aside setup live block.alarm_sequence_number) in
      either (is_plug_ready setup block && is_plug_awaited live block.alarm_sequence_number)
      (keeps _ (ap (λ (c : CyclicEnd). c.taken) alike.cyclic, ap (λ (c : CyclicEnd). c.hearing.last) alike.cyclic) (λ up. alike.stands ∙ up)) rests
  plug_called_goes caller call None = rests

  called_goes : (caller : Caller) (call : Call) (block : Option ControlBlock) → Goes (called setup live caller call block)
  called_goes caller call (Some block) = either (is_ready setup block) (readied_goes caller call block live.phase) rests
  called_goes caller call None = after_goes (can_begin live) (plug_called setup live caller call (plug_ready_in call)) (plug_called_goes caller call (plug_ready_in call))

  -- alarms
  record IsAlike (before next : Live) : Type 0 where
    cyclic : next.cyclic ≡ before.cyclic
    stands : next.stands ≡ before.stands

  end_alike : (before : Live) (priority : Priority) (end : ControllerEnd) → IsAlike before (with_end before priority end)
  end_alike before High end = record { cyclic = refl; stands = refl }
  end_alike before Low end = record { cyclic = refl; stands = refl }

  kept_alike : (before : Live) (priority : Priority) (alarm : AlarmNotification) (structure : Option ℕ) → IsAlike before (keeping before priority alarm structure)
  kept_alike before High alarm structure = record { cyclic = refl; stands = refl }
  kept_alike before Low alarm structure = record { cyclic = refl; stands = refl }

  taken_alike : (before : Live) (report : Report) (as_what : Taken) → IsAlike before (taken before report as_what).live
  taken_alike before report New =
      let one = end_alike before report.priority (confirmed (end_of before report.priority) (ack_of report.notification)) in
      let two = kept_alike (acking before report.priority (ack_of report.notification)) report.priority (kept_alarm report.notification) report.user_structure in
      record { cyclic = two.cyclic ∙ one.cyclic; stands = two.stands ∙ one.stands }
  taken_alike before report Again = record { cyclic = refl; stands = refl }
  taken_alike before report Refused = record { cyclic = refl; stands = refl }

  noticed_goes : (under : Priority) (reported : ToController) → Goes (noticed live under reported)
  noticed_goes under (notice.Data number report) =
      let one = end_alike live report.priority (with_data (end_of live report.priority) number) in
      let two = taken_alike (behind_data live report.priority number) report (taken_as (end_of live report.priority).seen number) in
      keeps _ (ap (λ (c : CyclicEnd). c.taken) (two.cyclic ∙ one.cyclic), ap (λ (c : CyclicEnd). c.hearing.last) (two.cyclic ∙ one.cyclic)) (λ up. two.stands ∙ (one.stands ∙ up))
  noticed_goes under (notice.Ack number) =
      let one = end_alike live (acked_under live under) (with_ack (end_of live (acked_under live under)) number) in
      keeps _ (ap (λ (c : CyclicEnd). c.taken) one.cyclic, ap (λ (c : CyclicEnd). c.hearing.last) one.cyclic) (λ up. one.stands ∙ up)
  noticed_goes under notice.Nack = rests
  noticed_goes under (notice.Abort status) = ends why.Aborted live []

  -- units, and the application
  module _ (next : Live) (alike : IsSame next) where
    flowed_goes : (ending : Option Abort) → Goes (flowed (exchange_later next) (due next.alarms.sending) (due next.low_alarms.sending) (is_again live) (brought next) ending)
    flowed_goes (Some because) = ends (cause_of because) (exchange_later next) _
    flowed_goes None =
        keeps _ (
          ap (λ (c : CyclicEnd). (cyclic_later c).taken) alike.cyclic,
          ap (λ (c : CyclicEnd). (cyclic_later c).hearing.last) alike.cyclic ∙ held_last live.cyclic.begun live.cyclic.hearing,
        ) (λ up. alike.stands ∙ up)

    gone_on_goes : (is : Bool) → Goes (if is then flowed (exchange_later next) (due next.alarms.sending) (due next.low_alarms.sending) (is_again live) (brought next) (brought next).ending
        else record { live = next; sent = where_due (is_again live) (requests_of next.device next.asked) })
    gone_on_goes true = flowed_goes (brought next).ending
    gone_on_goes false = keeps _ (ap (λ (c : CyclicEnd). c.taken) alike.cyclic, ap (λ (c : CyclicEnd). c.hearing.last) alike.cyclic) (λ up. alike.stands ∙ up)

  -- the controller with the unit, when the turn of a place may begin
  abbrev due_next : Live
  due_next = turn_due setup (is_again live) (later live)

  due_same : IsSame due_next
  due_same =
      let aside = due_aside setup (is_again live) (later live) in
      record { cyclic = ap (λ (l : Live). l.cyclic) aside.is; stands = ap (λ (l : Live). l.stands) aside.is }

  quit_goes : (cause : Cause) (next : Live) (phase : State) → (next.cyclic.taken ≡ live.cyclic.taken) × (next.cyclic.hearing.last ≡ live.cyclic.hearing.last) → (live.stands ≡ true → next.stands ≡ true) → Goes (quit setup cause next phase)
  quit_goes cause next Looking unchanged_so stands = ends cause next []
  quit_goes cause next Addressing unchanged_so stands = ends cause next []
  quit_goes cause next (Ended before) unchanged_so stands = keeps (stays next) unchanged_so stands
  quit_goes cause next Connecting unchanged_so stands = releases cause next
  quit_goes cause next Writing unchanged_so stands = releases cause next
  quit_goes cause next Ending unchanged_so stands = releases cause next
  quit_goes cause next Waiting unchanged_so stands = releases cause next
  quit_goes cause next Exchanging unchanged_so stands = releases cause next

  ticked_goes : Goes (ticked setup live)
  ticked_goes = either (is_spent live) (quit_goes why.NoProgress (later live) live.phase (refl, refl) (λ up. up)) (gone_on_goes due_next due_same due_next.stands)

  requested_goes : (kind : RecordService) (slot subslot index : ℕ) (octets : List ℕ) → Goes (requested setup live kind slot subslot index octets)
  requested_goes kind slot subslot index octets = either (can_request live) (keeps _ (refl, refl) (λ up. up)) rests

  -- ---- a cyclic frame

  -- These octets are brought by a frame that is accepted.
  pub record Takes (source : Mac) (frame_id : ℕ) (body : List ℕ) (next : Live) : Type 0 where
    pub stood : live.stands ≡ true
    pub own : is_of_partner live.cyclic.route source frame_id ≡ true
    pub octets : List ℕ
    pub tail : CyclicTail
    pub read : cyclic_of live.cyclic.taken.data_length body ≡ Ok (octets, tail)
    pub are : next.cyclic.taken ≡ with_frame octets live.cyclic.taken
    pub counted : is_some next.cyclic.hearing.last ≡ true
    pub stands : next.stands ≡ true

  abbrev pub GoesOrTakes : Mac → ℕ → List ℕ → Live → Type 0
  GoesOrTakes source frame_id body next = (Keeps next ⊎ IsOver next) ⊎ Takes source frame_id body next

  module _ (source : Mac) (frame_id : ℕ) (body : List ℕ) where
    unchanged : GoesOrTakes source frame_id body live
    unchanged = inl (inl (record { taken = refl; last = refl; stands = λ up. up }))

    newer_as : (x : List ℕ × CyclicTail) (b : Bool) → live.stands ≡ true → is_of_partner live.cyclic.route source frame_id ≡ true → cyclic_of live.cyclic.taken.data_length body ≡ Ok x
        → GoesOrTakes source frame_id body (record live {
          cyclic = if b then record live.cyclic {
            hearing = if b then record { last = Some x.1.counter; held = 0; limit = live.cyclic.hearing.limit } else live.cyclic.hearing;
            taken = with_frame x.0 live.cyclic.taken;
            data_status = x.1.data_status.0;
          } else live.cyclic;
        })
    newer_as x true up own read = inr (record { stood = up; own = own; octets = x.0; tail = x.1; read = read; are = refl; counted = refl; stands = up })
    newer_as x false up own read = unchanged

    read_as : (read : Result (List ℕ × CyclicTail) ShortFrame) → live.stands ≡ true → is_of_partner live.cyclic.route source frame_id ≡ true → cyclic_of live.cyclic.taken.data_length body ≡ read
        → GoesOrTakes source frame_id body (record live { cyclic = behind_read live.cyclic read })
    read_as (Ok x) up own e = newer_as x (is_new live.cyclic x.1) up own e
    read_as (Err short) up own e = unchanged

    partner_as : (b : Bool) → live.stands ≡ true → is_of_partner live.cyclic.route source frame_id ≡ b
        → GoesOrTakes source frame_id body (record live { cyclic = if b then behind_read live.cyclic (cyclic_of live.cyclic.taken.data_length body) else live.cyclic })
    partner_as true up e = read_as (cyclic_of live.cyclic.taken.data_length body) up e refl
    partner_as false up e = unchanged

    stands_as : (b : Bool) → live.stands ≡ b → GoesOrTakes source frame_id body (if b then record live { cyclic = behind_frame live.cyclic source frame_id body } else live)
    stands_as true up = partner_as (is_of_partner live.cyclic.route source frame_id) up refl
    stands_as false down = unchanged

  -- What a turn does to the inputs, by what comes.
  abbrev pub GoesBy : Came → Turn → Type 0
  GoesBy (Hears (Comes source frame_id body)) turn = GoesOrTakes source frame_id body turn.live
  GoesBy came turn = Goes turn

  pub came_goes : (came : Came) → GoesBy came (turn_for setup live came)
  came_goes (Hears Nothing) = rests
  came_goes (Hears (Answers source answer)) = answered_goes source answer live.phase
  came_goes (Hears (Responds response)) = after_goes (can_begin live) (responded setup live response live.asked) (responded_goes response live.asked)
  came_goes (Hears (Refuses refusal)) = after_goes (can_begin live) (refused setup live refusal live.asked) (refused_goes refusal live.asked)
  came_goes (Hears (Calls caller call)) = called_goes caller call (ready_in call)
  came_goes (Hears (Comes source frame_id body)) = stands_as source frame_id body live.stands refl
  came_goes (Hears (Alarms source under header reported)) =
      after_goes (can_begin live) (alarmed live source under header reported) (either (live.stands && is_alarm live.cyclic.route source header) (noticed_goes under reported) rests)
  came_goes Passes = ticked_goes
  came_goes (Gets slot subslot value) = keeps _ (refl, refl) (λ up. up)
  came_goes (GetsStatus slot subslot is_good) = keeps _ (refl, refl) (λ up. up)
  came_goes (AsksRead slot subslot index) = requested_goes service.Read slot subslot index []
  came_goes (AsksWrite slot subslot index octets) = either (nat_lt most_record_octets (length octets)) rests (requested_goes service.Write slot subslot index octets)
  came_goes Halts = quit_goes why.Stopped live live.phase (refl, refl) (λ up. up)
