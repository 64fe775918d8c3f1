-- A controller sends to the station that responded, and its outputs under the FrameID that this station chose.
use Rattle.std.proofs.Common.{◌≡◌, ◌&&◌, ◌||◌, ◌+◌, ℕ, Bool, true, false, not, cond, List, [], length, Option, Some, None, refl, sym, ap, subst, ◌∙◌}
use Rattle.std.specs.Prelude.{is_some, nat_lt}
use Rattle.std.specs.List.{AllByRecursion}
use Rattle.pn_values.specs.declared.mac.Mac.{Mac}
use Rattle.frame_codec.specs.declared.udp.Caller.{Caller}
use Rattle.frame_codec.specs.FrameId.{is_alarm}
use Rattle.dcp_core.specs.Response.{Answered}
use Rattle.dcp_core.specs.Answered.{is_agreed}
use Rattle.rpc_core.specs.declared.response.Status.{Status}
use Rattle.rpc_core.specs.Call.{Asked as Call}
use Rattle.rpc_core.specs.Response.{Answered as Response, is_done}
use Rattle.connect_blocks.specs.declared.control.ControlBlock.{ControlBlock}
use Rattle.connect_blocks.specs.declared.plug_control.PlugControlBlock.{PlugControlBlock}
use Rattle.record_blocks.specs.declared.alarm_ack.AlarmAck.{AlarmAck}
use Rattle.record_blocks.specs.declared.alarm_notification.AlarmNotification.{AlarmNotification}
use Rattle.cyclic_data.specs.declared.exchange.route.Route.{Route}
use Rattle.cyclic_data.specs.exchange.Units.{Brought}
use Rattle.cyclic_data.specs.exchange.Cyclic.{Cyclic}
use Rattle.cyclic_data.specs.exchange.Received.{behind_frame}
use Rattle.pn_alarms.specs.declared.abort.Abort.{Abort}
use Rattle.pn_alarms.specs.declared.message.Notice.TheVariants as notice
use Rattle.pn_alarms.specs.declared.pdu.Header.{Header}
use Rattle.pn_alarms.specs.declared.receiver.Taken.{Taken}
use Rattle.pn_alarms.specs.declared.receiver.Taken.TheVariants.{New, Again, Refused}
use Rattle.diagnosis.specs.reports.Message.{ToController}
use Rattle.pn_alarms.specs.Receiver.{taken_as}
use Rattle.pn_alarms.specs.Ends.{ControllerEnd}
use Rattle.diagnosis.specs.declared.reports.priority.Priority.{Priority}
use Rattle.diagnosis.specs.declared.reports.priority.Priority.TheVariants.{High, Low}
use Rattle.pn_alarms.specs.declared.repeats.Due.{Due}
use Rattle.diagnosis.specs.declared.reports.report.Report.{Report}
use Rattle.pn_alarms.specs.Sending.{due}
use Rattle.pn_alarms.specs.Sending.{is_again as is_repeated}
use Rattle.plans.specs.declared.parts.Parts.{Parts}
use Rattle.controller_messages.specs.declared.refusal.Refusal.{Refusal}
use Rattle.controller_messages.specs.declared.setup.Setup.{Setup}
use Rattle.block_codec.specs.Block.{block_of}
use Rattle.controller_messages.specs.declared.plug_request.PlugRequest.{PlugRequest}
use Rattle.controller_messages.specs.declared.record_request.RecordRequest.{RecordRequest}
use Rattle.controller_messages.specs.declared.record_request.RecordService.{RecordService}
use Rattle.controller_messages.specs.declared.record_request.RecordService.TheVariants as service
use Rattle.controller_messages.specs.PlugRequests.{is_plug_answer, is_plug_ready, plug_ready_in}
use Rattle.controller_messages.specs.RecordRequests.{most_record_octets}
use Rattle.controller_messages.specs.Requests.{first_of, write_count}
use Rattle.controller_messages.specs.declared.request.Request.{Request}
use Rattle.controller_messages.specs.declared.request.Request.TheVariants as asks
use Rattle.controller_messages.specs.Heard.{Heard, Nothing, Answers, Responds, Refuses, Calls, Alarms, heard_of}
use Rattle.controller_messages.specs.Heard.{Cyclic as Comes}
use Rattle.controller_messages.specs.Sent.{Sent}
use Rattle.controller_core.specs.declared.stored.event.Event.{Event}
use Rattle.controller_core.specs.declared.stored.event.Event.TheVariants as event
use Rattle.controller_core.specs.declared.stored.state.Cause.{Cause}
use Rattle.controller_core.specs.declared.stored.state.Cause.TheVariants.{NoProgress, Stopped}
use Rattle.controller_core.specs.declared.stored.state.State.{State}
use Rattle.controller_core.specs.declared.stored.state.State.TheVariants.{Looking, Addressing, Ending, Waiting, Exchanging, Ended}
use Rattle.controller_messages.specs.Access.{Accessing, is_rejected, is_reply, record_in}
use Rattle.controller_core.specs.stored.Alarms.{ack_of, is_alarm as is_of_relation, kept_alarm}
use Rattle.controller_core.specs.start_up.Answers.{is_addressed, is_answer, is_found, is_held, is_ready, is_refused, is_right, is_set_answer, is_tried}
use Rattle.connects.specs.answers.Connect.{Chosen, chosen_of, found_in, is_whole, nothing}
use Rattle.controller_core.specs.declared.start_up.outcomes.Outcomes.{Outcomes}
use Rattle.controller_core.specs.declared.start_up.outcomes.Outcomes.TheVariants.{AllWritten, Unreadable}
use Rattle.controller_core.specs.declared.start_up.outcomes.Outcomes.TheVariants.{Refused as Denied}
use Rattle.controller_core.specs.start_up.Outcomes.{outcomes_of}
use Rattle.controller_core.specs.Machine.{Turn, accesses_by, accesses_of, accessing, acked_under, acking, acks_in, acks_of, addressed, after_turn, after_write, alarmed, answered, asks_next, begun_turn, behind_ack, behind_data, beside, beside_of, brings, brought, called, can_begin, can_request, come, confirming, connected, decided, denied, diagnosing, done, end_of, exchange_later, failed, first, flowed, found, given, gone_on, granted, handled, is_again, is_plug_awaited, is_spent, keeping, later, noted, noticed, outputs_of, over, past_record, pending_by, pending_of, plug_called, plug_readied, plug_rejected, plug_replied, plugs_by, plugs_of, quit, rated, readied, refused, refused_beside, refused_by, rejected, related_by, released, replied, replied_by, requested, requests_of, responded, standing, stays, taken, turn_due, turn_of, turned, undone, where_due, with_end, writing, trying, waits_from}
use Rattle.controller_core.specs.Machine.{placed as told_of}
use Rattle.controller_core.specs.start_up.Answers.{ready_in}
use Rattle.controller_core.specs.stored.State.{Live}
use Rattle.end_laws.specs.sending.Sized.{Found}
use Rattle.both_ends.specs.exchange.Sized.{IsChosenWell}
use Rattle.both_ends.proofs.ExchangeReported.{IsWell}
use Rattle.both_ends.proofs.ExchangeLists.{each_behind}
use Rattle.both_ends.proofs.ExchangeTurns.{frame_route}
use Rattle.both_ends.proofs.ExchangeMessages.{IsAimed}
use Rattle.controller_core.specs.start_up.Requests.{behind_write}
use Rattle.both_ends.proofs.ExchangePlugs.{IsAside, due_aside, readied_aside, rejected_aside, replied_aside, turn_aside}

-- The state of a controller, as far as its frames are concerned: its relation is with this station, under a FrameID of
-- outputs that is not one of alarms, and so is its pending request.
pub record IsPlaced (mac : Mac) (live : Live) : Type 0 where
  pub plain : is_alarm live.cyclic.route.sent_id ≡ false
  pub partner : live.stands ≡ true → live.cyclic.route.partner ≡ mac
  pub asking : live.asked ≡ Some asks.Connect → live.device ≡ mac
  pub giving : live.phase ≡ Addressing → live.device ≡ mac
  pub addressing : live.asked ≡ Some asks.Address → live.device ≡ mac

-- only this station responds to the controller and calls it, and it chooses no FrameID of alarms for outputs
abbrev pub IsOf : Setup → Mac → Heard → Type 0
IsOf setup mac (Answers source answer) = source ≡ mac
IsOf setup mac (Responds response) = IsWell setup (Responds response)
IsOf setup mac (Calls caller call) = caller.mac ≡ mac
IsOf setup mac other = Unit {0}

module _ (setup : Setup) (mac : Mac) (apart : mac ≡ setup.plan.controller.mac → ⊥) where
  pub record PlacedTurn (turn : Turn) : Type 0 where
    pub live : IsPlaced mac turn.live
    pub sent : AllByRecursion (IsAimed setup) turn.sent

  either : (b : Bool) (x y : Turn) → PlacedTurn x → PlacedTurn y → PlacedTurn (cond b x y)
  either true x y px py = px
  either false x y px py = py

  stays_placed : (live : Live) → IsPlaced mac live → PlacedTurn (stays live)
  stays_placed live p = record { live = p; sent = tt }

  over_placed : (cause : Cause) (live : Live) → IsPlaced mac live → IsPlaced mac (over cause live)
  over_placed cause live p = record { plain = p.plain; partner = λ e. absurd cc; asking = λ e. absurd cc; giving = λ e. absurd cc; addressing = λ e. absurd cc }

  ends_placed : (cause : Cause) (live : Live) → IsPlaced mac live → PlacedTurn (stays (over cause live))
  ends_placed cause live p = stays_placed (over cause live) (over_placed cause live p)

  denied_placed : (status : Status) (live : Live) → IsPlaced mac live → PlacedTurn (stays (denied status live))
  denied_placed status live p =
      stays_placed (denied status live) (record { plain = p.plain; partner = λ e. absurd cc; asking = λ e. absurd cc; giving = λ e. absurd cc; addressing = λ e. absurd cc })

  released_placed : (cause : Cause) (live : Live) → IsPlaced mac live → PlacedTurn (released setup cause live)
  released_placed cause live p =
      record { live = record { plain = p.plain; partner = λ e. absurd cc; asking = λ e. absurd cc; giving = λ e. absurd cc; addressing = λ e. absurd cc }; sent = (tt, tt) }

  -- ---- DCP responses

  found_placed : (live : Live) (source : Mac) (answer : Answered) → source ≡ mac → IsPlaced mac live → PlacedTurn (found setup live source answer)
  found_placed live source answer is p =
      either (is_right setup.plan answer) _ _
      (either (is_addressed setup.plan answer) _ _
      (record { live = record { plain = p.plain; partner = p.partner; asking = λ e. is; giving = λ e. is; addressing = λ e. is }; sent = (tt, tt) })
      (record { live = record { plain = p.plain; partner = p.partner; asking = λ e. is; giving = λ e. is; addressing = λ e. is }; sent = (λ e. apart (sym is ∙ e), tt) }))
      (ends_placed _ live p)

  addressed_placed : (live : Live) (answer : Answered) → live.device ≡ mac → IsPlaced mac live → PlacedTurn (addressed setup live answer)
  addressed_placed live answer is p =
      either (is_agreed answer) _ _
      (record { live = record { plain = p.plain; partner = p.partner; asking = λ e. is; giving = λ e. is; addressing = λ e. is }; sent = (tt, tt) })
      (ends_placed _ live p)

  answered_placed : (live : Live) (source : Mac) (answer : Answered) (phase : State) → live.phase ≡ phase → source ≡ mac → IsPlaced mac live → PlacedTurn (answered setup live source answer phase)
  answered_placed live source answer Looking now is p = either (is_found setup.plan answer) _ _ (found_placed live source answer is p) (stays_placed live p)
  answered_placed live source answer Addressing now is p = either (is_set_answer answer) _ _ (addressed_placed live answer (p.giving now) p) (stays_placed live p)
  answered_placed live source answer other now is p = stays_placed live p

  -- ---- responses

  -- the next request is a Write, or PrmEnd
  writes_placed : (live : Live) (number : ℕ) (b : Bool) → IsPlaced mac live → PlacedTurn (writing setup (cond b (asks.Write number) asks.PrmEnd) live)
  writes_placed live number true p = record { live = record { plain = p.plain; partner = p.partner; asking = λ e. absurd cc; giving = λ e. absurd cc; addressing = λ e. absurd cc }; sent = (tt, tt) }
  writes_placed live number false p = record { live = record { plain = p.plain; partner = p.partner; asking = λ e. absurd cc; giving = λ e. absurd cc; addressing = λ e. absurd cc }; sent = (tt, tt) }

  rewrites_placed : (live : Live) (number tries : ℕ) (b : Bool) → IsPlaced mac live
      → PlacedTurn (writing setup (cond b (asks.WriteAfter number tries) (asks.PrmEndAfter tries)) live)
  rewrites_placed live number tries true p = record { live = record { plain = p.plain; partner = p.partner; asking = λ e. absurd cc; giving = λ e. absurd cc; addressing = λ e. absurd cc }; sent = (tt, tt) }
  rewrites_placed live number tries false p = record { live = record { plain = p.plain; partner = p.partner; asking = λ e. absurd cc; giving = λ e. absurd cc; addressing = λ e. absurd cc }; sent = (tt, tt) }

  -- the request that follows a Write
  behind_placed : (live : Live) (number : ℕ) (tries : Option ℕ) → IsPlaced mac live → PlacedTurn (writing setup (behind_write setup.plan number tries) live)
  behind_placed live number None p = writes_placed live (number + 1) (nat_lt (number + 1) (write_count setup.plan)) p
  behind_placed live number (Some tries) p = rewrites_placed live (number + 1) tries (nat_lt (number + 1) (write_count setup.plan)) p

  related_placed : (live : Live) (found_so : Option Chosen) → live.device ≡ mac → ((chosen : Chosen) → found_so ≡ Some chosen → is_alarm chosen.frame_id ≡ false) → IsPlaced mac live → PlacedTurn (related_by setup live found_so)
  related_placed live (Some chosen) is plain p =
      writes_placed (standing setup live chosen) 0 (nat_lt 0 (write_count setup.plan))
      (record { plain = plain chosen refl; partner = λ e. is; asking = λ e. is; giving = λ e. is; addressing = λ e. is })
  related_placed live None is plain p = stays_placed live p

  if_so : (b : Bool) (x y : Turn) → (b ≡ true → PlacedTurn x) → (b ≡ false → PlacedTurn y) → PlacedTurn (cond b x y)
  if_so true x y px py = px refl
  if_so false x y px py = py refl

  -- the places of the plan, by the response to the Connect
  told_placed : (live : Live) (blocks : List ℕ) → IsPlaced mac live → IsPlaced mac (told_of setup blocks live)
  told_placed live blocks p = record { plain = p.plain; partner = p.partner; asking = p.asking; giving = p.giving; addressing = p.addressing }

  connected_placed : (live : Live) (blocks : List ℕ) (found_so : Option Found) → found_in 400 blocks nothing ≡ found_so → live.device ≡ mac
      → IsChosenWell blocks → IsPlaced mac live → PlacedTurn (connected setup live blocks found_so)
  connected_placed live blocks (Some found_so) e is well p =
      if_so (is_whole found_so) _ _
      (λ whole. if_so found_so.differs _ _ (λ differs. released_placed _ live p)
      (λ same. related_placed (told_of setup blocks live) (chosen_of found_so) is (λ chosen there. (well found_so e whole same chosen there).2) (told_placed live blocks p)))
      (λ lacks. stays_placed live p)
  connected_placed live blocks None e is well p = stays_placed live p

  noted_placed : (status : Status) (number : ℕ) (live : Live) → IsPlaced mac live → IsPlaced mac (noted status number live)
  noted_placed status number live p = record { plain = p.plain; partner = p.partner; asking = p.asking; giving = p.giving; addressing = p.addressing }

  -- a record is refused: the next Write, or the end
  passed_placed : (live : Live) (number : ℕ) (tries : Option ℕ) (refused : ℕ) (status : Status) → IsPlaced mac live
      → PlacedTurn (past_record setup (behind_write setup.plan number tries) (noted status refused live))
  passed_placed live number tries refused status p =
      either setup.plan.continue_on_refused_record _ _
      (behind_placed (noted status refused live) number tries (noted_placed status refused live p))
      (either setup.plan.release_on_refused_record _ _
      (released_placed _ (noted status refused live) (noted_placed status refused live p))
      (ends_placed _ (noted status refused live) (noted_placed status refused live p)))

  wrote_placed : (live : Live) (number : ℕ) (tries : Option ℕ) (outcomes : Outcomes) → IsPlaced mac live
      → PlacedTurn (after_write setup live number (behind_write setup.plan number tries) outcomes)
  wrote_placed live number tries AllWritten p = behind_placed live number tries p
  wrote_placed live number tries (Denied place status) p = passed_placed live number tries (first_of setup.plan number + place) status p
  wrote_placed live number tries Unreadable p = stays_placed live p

  -- a Write, or PrmEnd, that is refused as busy is tried again
  waits_placed : (live : Live) → IsPlaced mac live → PlacedTurn (stays (waits_from setup live))
  waits_placed live p =
      stays_placed (waits_from setup live)
      (record { plain = p.plain; partner = p.partner; asking = λ e. absurd cc; giving = λ e. absurd cc; addressing = λ e. absurd cc })

  rewriting_placed : (live : Live) (status : Status) (number tries : ℕ) → IsPlaced mac live → PlacedTurn (trying (asks.WriteAfter number tries) status live)
  rewriting_placed live status number tries p =
      record { live = record { plain = p.plain; partner = p.partner; asking = λ e. absurd cc; giving = p.giving; addressing = λ e. absurd cc }; sent = tt }

  reending_placed : (live : Live) (status : Status) (tries : ℕ) → IsPlaced mac live → PlacedTurn (trying (asks.PrmEndAfter tries) status live)
  reending_placed live status tries p =
      record { live = record { plain = p.plain; partner = p.partner; asking = λ e. absurd cc; giving = p.giving; addressing = λ e. absurd cc }; sent = tt }

  done_placed : (live : Live) (blocks : List ℕ) (request : Request) → live.asked ≡ Some request → (request ≡ asks.Connect → IsChosenWell blocks) → IsPlaced mac live
      → PlacedTurn (done setup live blocks request)
  done_placed live blocks asks.Identify now well p = stays_placed live p
  done_placed live blocks asks.Address now well p = stays_placed live p
  done_placed live blocks asks.Connect now well p = connected_placed live blocks (found_in 400 blocks nothing) refl (p.asking now) (well refl) p
  done_placed live blocks (asks.Write number) now well p = wrote_placed live number None (outcomes_of setup.plan number blocks) p
  done_placed live blocks (asks.WriteAfter number tries) now well p = wrote_placed live number (Some tries) (outcomes_of setup.plan number blocks) p
  done_placed live blocks asks.PrmEnd now well p = waits_placed live p
  done_placed live blocks (asks.PrmEndAfter tries) now well p = waits_placed live p
  done_placed live blocks (asks.Release sequence) now well p =
      stays_placed (record live { asked = None }) (record { plain = p.plain; partner = p.partner; asking = λ e. absurd cc; giving = p.giving; addressing = λ e. absurd cc })

  undone_placed : (live : Live) (status : Status) (request : Request) → IsPlaced mac live → PlacedTurn (undone setup live status request)
  undone_placed live status (asks.Write number) p =
      either (is_tried setup.plan status 0) _ _ (rewriting_placed live status number 1 p) (passed_placed live number None (first_of setup.plan number) status p)
  undone_placed live status (asks.WriteAfter number tries) p =
      either (is_tried setup.plan status tries) _ _ (rewriting_placed live status number (tries + 1) p)
      (passed_placed live number (Some tries) (first_of setup.plan number) status p)
  undone_placed live status asks.PrmEnd p = either (is_tried setup.plan status 0) _ _ (reending_placed live status 1 p) (denied_placed status live p)
  undone_placed live status (asks.PrmEndAfter tries) p =
      either (is_tried setup.plan status tries) _ _ (reending_placed live status (tries + 1) p) (denied_placed status live p)
  undone_placed live status asks.Connect p =
      let next : Live = record live { refusal = Some status } in
      either (is_held setup.plan status) _ _
      (released_placed _ next (record { plain = p.plain; partner = p.partner; asking = p.asking; giving = p.giving; addressing = p.addressing }))
      (denied_placed status live p)
  undone_placed live status request p = denied_placed status live p

  handled_placed : (live : Live) (response : Response) (request : Request) → live.asked ≡ Some request → (request ≡ asks.Connect → is_done response.status ≡ true → IsChosenWell response.blocks) → IsPlaced mac live
      → PlacedTurn (handled setup live response request)
  handled_placed live response request now well p =
      if_so (is_done response.status) _ _ (λ positive. done_placed live response.blocks request now (λ connects. well connects positive) p) (λ negative. undone_placed live response.status request p)

  decided_placed : (live : Live) (response : Response) (request : Request) → live.asked ≡ Some request → (request ≡ asks.Connect → is_done response.status ≡ true → IsChosenWell response.blocks) → IsPlaced mac live
      → PlacedTurn (decided setup live response request)
  decided_placed live response asks.Identify now well p = handled_placed live response asks.Identify now well p
  decided_placed live response asks.Address now well p = handled_placed live response asks.Address now well p
  decided_placed live response asks.Connect now well p = handled_placed live response asks.Connect now well p
  decided_placed live response (asks.Write number) now well p = handled_placed live response (asks.Write number) now well p
  decided_placed live response asks.PrmEnd now well p = handled_placed live response asks.PrmEnd now well p
  decided_placed live response (asks.WriteAfter number tries) now well p = handled_placed live response (asks.WriteAfter number tries) now well p
  decided_placed live response (asks.PrmEndAfter tries) now well p = handled_placed live response (asks.PrmEndAfter tries) now well p
  decided_placed live response (asks.Release sequence) now well p =
      stays_placed (record live { asked = None }) (record { plain = p.plain; partner = p.partner; asking = λ e. absurd cc; giving = p.giving; addressing = λ e. absurd cc })

  -- the answer to a request of the application changes nothing of it
  reported_so : (live : Live) (refusal : Option Status) (access : Accessing) → IsPlaced mac live → IsPlaced mac (record live { refusal = refusal; access = access })
  reported_so live refusal access p = record { plain = p.plain; partner = p.partner; asking = p.asking; giving = p.giving; addressing = p.addressing }

  placed_if : (b : Bool) (x y : Live) → IsPlaced mac x → IsPlaced mac y → IsPlaced mac (cond b x y)
  placed_if true x y one other = one
  placed_if false x y one other = other

  brings_so : (request : RecordRequest) (read : Option (List ℕ)) (live : Live) → IsPlaced mac live → IsPlaced mac (brings request read live)
  brings_so request (Some octets) live p = reported_so live live.refusal _ p
  brings_so request None live p = p

  granted_so : (request : RecordRequest) (blocks : List ℕ) (asked : RecordService) (live : Live) → IsPlaced mac live → IsPlaced mac (granted request blocks asked live)
  granted_so request blocks service.Read live p = brings_so request (record_in (block_of blocks)) live p
  granted_so request blocks service.Write live p = reported_so live live.refusal _ p

  replied_so : (live : Live) (response : Response) (waiting : Option RecordRequest) → IsPlaced mac live → IsPlaced mac (replied setup live response waiting)
  replied_so live response (Some request) p =
      placed_if (is_reply setup request response.header) (replied_by live response request) live
      (placed_if (is_done response.status) (granted request response.blocks request.service live) (failed response.status request live)
      (granted_so request response.blocks request.service live p) (reported_so live (Some response.status) _ p)) p
  replied_so live response None p = p

  rejected_so : (live : Live) (refusal : Refusal) (waiting : Option RecordRequest) → IsPlaced mac live → IsPlaced mac (rejected setup live refusal waiting)
  rejected_so live refusal (Some request) p =
      placed_if (is_rejected setup request refusal) (failed refusal.status request live) live (reported_so live (Some refusal.status) _ p) p
  rejected_so live refusal None p = p

  -- ---- after a plug

  aside_placed : (live after : Live) → IsAside live after → IsPlaced mac live → IsPlaced mac after
  aside_placed live after aside p =
      subst (λ (l : Live). IsPlaced mac l) (sym aside.is) (record { plain = p.plain; partner = p.partner; asking = p.asking; giving = p.giving; addressing = p.addressing })

  plugs_placed : (device : Mac) (plug : Option PlugRequest) → AllByRecursion (IsAimed setup) (plugs_by device plug)
  plugs_placed device (Some request) = (tt, tt)
  plugs_placed device None = tt

  -- after a turn, that of a place begins, if one can
  after_placed : (could : Bool) (turn : Turn) → PlacedTurn turn → PlacedTurn (after_turn setup could turn)
  after_placed could turn placed =
      let begun = begun_turn setup turn.live in
      either (could || not (can_begin turn.live)) _ _ placed
      (record {
        live = aside_placed turn.live begun (turn_aside setup turn.live) placed.live;
        sent = each_behind (IsAimed setup) turn.sent (plugs_of begun) placed.sent (plugs_placed begun.device begun.access.plug);
      })

  asks_placed : (live : Live) → IsPlaced mac live → PlacedTurn (asks_next live)
  asks_placed live p = record { live = p; sent = plugs_placed live.device live.access.plug }

  -- a response, if no request of the start-up waits
  beside_placed : (live : Live) (response : Response) (plug : Option PlugRequest) → IsPlaced mac live → PlacedTurn (beside setup live response plug)
  beside_placed live response (Some request) p =
      let after = plug_replied setup live response.status request in
      either (is_plug_answer setup request response.header.activity response.header.sequence) _ _
      (asks_placed after (aside_placed live after (replied_aside setup live response.status request) p)) (stays_placed live p)
  beside_placed live response None p = stays_placed (replied setup live response live.access.waiting) (replied_so live response live.access.waiting p)

  -- a reject or a fault
  refused_beside_so : (live : Live) (refusal : Refusal) (plug : Option PlugRequest) → IsPlaced mac live → IsPlaced mac (refused_beside setup live refusal plug)
  refused_beside_so live refusal (Some request) p = aside_placed live (plug_rejected setup live refusal request) (rejected_aside setup live refusal request) p
  refused_beside_so live refusal None p = rejected_so live refusal live.access.waiting p

  responded_placed : (live : Live) (response : Response) (asked : Option Request) → live.asked ≡ asked → IsWell setup (Responds response) → IsPlaced mac live
      → PlacedTurn (responded setup live response asked)
  responded_placed live response (Some request) now fit p =
      if_so (is_answer setup request response.header) _ _
      (λ answers. decided_placed live response request now
      (λ connects. fit (ap (λ (one : Request). is_answer setup one response.header) (sym connects) ∙ answers)) p)
      (λ other. stays_placed live p)
  responded_placed live response None now fit p = beside_placed live response live.access.plug p

  -- ---- calls, cyclic frames and outputs

  readied_placed : (live : Live) (caller : Caller) (call : Call) (block : ControlBlock) (phase : State) → caller.mac ≡ mac → IsPlaced mac live → PlacedTurn (readied live caller call block phase)
  readied_placed live caller call block Ending is p = record { live = record { plain = p.plain; partner = p.partner; asking = λ e. absurd cc; giving = λ e. absurd cc; addressing = λ e. absurd cc }; sent = (λ e. apart (sym is ∙ e), tt) }
  readied_placed live caller call block Waiting is p = record { live = record { plain = p.plain; partner = p.partner; asking = λ e. absurd cc; giving = λ e. absurd cc; addressing = λ e. absurd cc }; sent = (λ e. apart (sym is ∙ e), tt) }
  readied_placed live caller call block Exchanging is p = record { live = p; sent = (λ e. apart (sym is ∙ e), tt) }
  readied_placed live caller call block other is p = stays_placed live p

  -- ApplicationReady for a plug
  plugged_placed : (live : Live) (caller : Caller) (call : Call) (block : Option PlugControlBlock) → caller.mac ≡ mac → IsPlaced mac live → PlacedTurn (plug_called setup live caller call block)
  plugged_placed live caller call (Some block) is p =
      either (is_plug_ready setup block && is_plug_awaited live block.alarm_sequence_number) _ _
      (record {
        live = aside_placed live (plug_readied live block.alarm_sequence_number) (readied_aside setup live block.alarm_sequence_number) p;
        sent = (λ e. apart (sym is ∙ e), tt);
      }) (stays_placed live p)
  plugged_placed live caller call None is p = stays_placed live p

  called_placed : (live : Live) (caller : Caller) (call : Call) (block : Option ControlBlock) → caller.mac ≡ mac → IsPlaced mac live → PlacedTurn (called setup live caller call block)
  called_placed live caller call (Some block) is p = either (is_ready setup block) _ _ (readied_placed live caller call block live.phase is p) (stays_placed live p)
  called_placed live caller call None is p = after_placed (can_begin live) (plug_called setup live caller call (plug_ready_in call)) (plugged_placed live caller call (plug_ready_in call) is p)

  cyclic_placed : (live : Live) (cyclic : Cyclic) → cyclic.route ≡ live.cyclic.route → IsPlaced mac live → IsPlaced mac (record live { cyclic = cyclic })
  cyclic_placed live cyclic same p = record {
    plain = ap (λ (r : Route). is_alarm r.sent_id) same ∙ p.plain;
    partner = λ e. ap (λ (r : Route). r.partner) same ∙ p.partner e;
    asking = p.asking;
    giving = p.giving;
    addressing = p.addressing;
  }

  come_placed : (live : Live) (source : Mac) (frame_id : ℕ) (body : List ℕ) (b : Bool) → IsPlaced mac live → IsPlaced mac (cond b (record live { cyclic = behind_frame live.cyclic source frame_id body }) live)
  come_placed live source frame_id body true p = cyclic_placed live (behind_frame live.cyclic source frame_id body) (frame_route live.cyclic source frame_id body) p
  come_placed live source frame_id body false p = p

  -- ---- alarms

  partner_other : (live : Live) → live.stands ≡ true → IsPlaced mac live → live.cyclic.route.partner ≡ setup.plan.controller.mac → ⊥
  partner_other live up p e = apart (sym (p.partner up) ∙ e)

  with_end_placed : (live : Live) (priority : Priority) (end : ControllerEnd) → IsPlaced mac live → IsPlaced mac (with_end live priority end)
  with_end_placed live High end p = record { plain = p.plain; partner = p.partner; asking = p.asking; giving = p.giving; addressing = p.addressing }
  with_end_placed live Low end p = record { plain = p.plain; partner = p.partner; asking = p.asking; giving = p.giving; addressing = p.addressing }

  with_end_up : (live : Live) (priority : Priority) (end : ControllerEnd) → live.stands ≡ true → (with_end live priority end).stands ≡ true
  with_end_up live High end up = up
  with_end_up live Low end up = up

  keeping_placed : (live : Live) (priority : Priority) (alarm : AlarmNotification) (structure : Option ℕ) → IsPlaced mac live → IsPlaced mac (keeping live priority alarm structure)
  keeping_placed live High alarm structure p = record { plain = p.plain; partner = p.partner; asking = p.asking; giving = p.giving; addressing = p.addressing }
  keeping_placed live Low alarm structure p = record { plain = p.plain; partner = p.partner; asking = p.asking; giving = p.giving; addressing = p.addressing }

  keeping_up : (live : Live) (priority : Priority) (alarm : AlarmNotification) (structure : Option ℕ) → live.stands ≡ true → (keeping live priority alarm structure).stands ≡ true
  keeping_up live High alarm structure up = up
  keeping_up live Low alarm structure up = up

  diagnosing_placed : (live : Live) (report : Report) → IsPlaced mac live → IsPlaced mac (diagnosing report live)
  diagnosing_placed live report p = record { plain = p.plain; partner = p.partner; asking = p.asking; giving = p.giving; addressing = p.addressing }

  confirming_placed : (live : Live) (report : Report) → IsPlaced mac live → IsPlaced mac (confirming live report)
  confirming_placed live report p =
      let acked = acking live report.priority (ack_of report.notification) in
      diagnosing_placed (keeping acked report.priority (kept_alarm report.notification) report.user_structure) report
      (keeping_placed acked report.priority (kept_alarm report.notification) report.user_structure (with_end_placed live report.priority _ p))

  confirming_up : (live : Live) (report : Report) → live.stands ≡ true → (confirming live report).stands ≡ true
  confirming_up live report up =
      keeping_up (acking live report.priority (ack_of report.notification)) report.priority _ report.user_structure (with_end_up live report.priority _ up)

  taken_placed : (live : Live) (report : Report) (as_what : Taken) → live.stands ≡ true → IsPlaced mac live → PlacedTurn (taken live report as_what)
  taken_placed live report New up p =
      let placed = confirming_placed live report p in
      record { live = placed; sent = (partner_other live up p, (partner_other (confirming live report) (confirming_up live report up) placed, tt)) }
  taken_placed live report Again up p = record { live = p; sent = (partner_other live up p, tt) }
  taken_placed live report Refused up p = record { live = p; sent = (partner_other live up p, tt) }

  noticed_placed : (live : Live) (under : Priority) (reported : ToController) → live.stands ≡ true → IsPlaced mac live → PlacedTurn (noticed live under reported)
  noticed_placed live under (notice.Data number report) up p =
      taken_placed (behind_data live report.priority number) report (taken_as (end_of live report.priority).seen number) (with_end_up live report.priority _ up) (with_end_placed live report.priority _ p)
  noticed_placed live under (notice.Ack number) up p = stays_placed (behind_ack live (acked_under live under) number) (with_end_placed live (acked_under live under) _ p)
  noticed_placed live under notice.Nack up p = stays_placed live p
  noticed_placed live under (notice.Abort status) up p = ends_placed _ live p

  and_first : (a b : Bool) → (a && b) ≡ true → a ≡ true
  and_first true b e = refl
  and_first false b e = absurd cc

  alarmed_placed : (live : Live) (source : Mac) (under : Priority) (header : Header) (reported : ToController) (b : Bool) → (live.stands && is_of_relation live.cyclic.route source header) ≡ b → IsPlaced mac live
      → PlacedTurn (cond b (noticed live under reported) (stays live))
  alarmed_placed live source under header reported true e p = noticed_placed live under reported (and_first live.stands (is_of_relation live.cyclic.route source header) e) p
  alarmed_placed live source under header reported false e p = stays_placed live p

  -- ---- rejects and faults

  refused_by_placed : (live : Live) (refusal : Refusal) (request : Request) → IsPlaced mac live → PlacedTurn (refused_by live refusal request)
  refused_by_placed live refusal (asks.Release sequence) p =
      stays_placed (record live { asked = None }) (record { plain = p.plain; partner = p.partner; asking = λ e. absurd cc; giving = p.giving; addressing = λ e. absurd cc })
  refused_by_placed live refusal request p = denied_placed refusal.status live p

  refused_placed : (live : Live) (refusal : Refusal) (asked : Option Request) → IsPlaced mac live → PlacedTurn (refused setup live refusal asked)
  refused_placed live refusal (Some request) p = either (is_refused setup request refusal) _ _ (refused_by_placed live refusal request p) (stays_placed live p)
  refused_placed live refusal None p = stays_placed (refused_beside setup live refusal live.access.plug) (refused_beside_so live refusal live.access.plug p)

  -- ---- what is heard

  heard_placed : (live : Live) (heard : Heard) → IsOf setup mac heard → IsPlaced mac live → PlacedTurn (turned setup live heard)
  heard_placed live Nothing is p = stays_placed live p
  heard_placed live (Answers source answer) is p = answered_placed live source answer live.phase refl is p
  heard_placed live (Responds response) is p =
      after_placed (can_begin live) (responded setup live response live.asked) (responded_placed live response live.asked refl is p)
  heard_placed live (Refuses refusal) is p = after_placed (can_begin live) (refused setup live refusal live.asked) (refused_placed live refusal live.asked p)
  heard_placed live (Calls caller call) is p = called_placed live caller call (ready_in call) is p
  heard_placed live (Comes source frame_id body) is p = stays_placed (come live source frame_id body) (come_placed live source frame_id body live.stands p)
  heard_placed live (Alarms source under header reported) is p =
      after_placed (can_begin live) (alarmed live source under header reported)
      (alarmed_placed live source under header reported (live.stands && is_of_relation live.cyclic.route source header) refl p)

  -- ---- units

  due_placed : (b : Bool) (messages : List Sent) → AllByRecursion (IsAimed setup) messages → AllByRecursion (IsAimed setup) (where_due b messages)
  due_placed true messages all = all
  due_placed false messages all = tt

  acks_placed : (live : Live) (priority : Priority) (ack : Option AlarmAck) → live.stands ≡ true → IsPlaced mac live → AllByRecursion (IsAimed setup) (acks_in live priority ack)
  acks_placed live priority (Some ack) up p = (partner_other live up p, tt)
  acks_placed live priority None up p = tt

  requests_placed : (device : Mac) (asked : Option Request) → (asked ≡ Some asks.Address → device ≡ mac) → AllByRecursion (IsAimed setup) (requests_of device asked)
  requests_placed device (Some asks.Address) own = (λ e. apart (sym (own refl) ∙ e), tt)
  requests_placed device None own = tt
  requests_placed device other own = (tt, tt)

  accesses_placed : (device : Mac) (octets : List ℕ) (waiting : Option RecordRequest) → AllByRecursion (IsAimed setup) (accesses_by device octets waiting)
  accesses_placed device octets (Some request) = (tt, tt)
  accesses_placed device octets None = tt

  due_beside : (b : Bool) (one other : List Sent) → AllByRecursion (IsAimed setup) one → AllByRecursion (IsAimed setup) other → AllByRecursion (IsAimed setup) (cond b one other)
  due_beside true one other first second = first
  due_beside false one other first second = second

  beside_aimed : (live : Live) → AllByRecursion (IsAimed setup) (beside_of live)
  beside_aimed live =
      due_beside (is_some live.access.plug) (plugs_of live) (accesses_of live) (plugs_placed live.device live.access.plug)
      (accesses_placed live.device live.access.octets live.access.waiting)

  pending_placed : (live : Live) (asked : Option Request) → (asked ≡ Some asks.Address → live.device ≡ mac) → AllByRecursion (IsAimed setup) (pending_by live asked)
  pending_placed live (Some asks.Address) own = (λ e. apart (sym (own refl) ∙ e), tt)
  pending_placed live None own = beside_aimed live
  pending_placed live (Some asks.Identify) own = (tt, tt)
  pending_placed live (Some asks.Connect) own = (tt, tt)
  pending_placed live (Some (asks.Write number)) own = (tt, tt)
  pending_placed live (Some asks.PrmEnd) own = (tt, tt)
  pending_placed live (Some (asks.Release sequence)) own = (tt, tt)
  pending_placed live (Some (asks.WriteAfter number tries)) own = (tt, tt)
  pending_placed live (Some (asks.PrmEndAfter tries)) own = (tt, tt)

  flowed_placed : (live : Live) (high low : Due) (is_request : Bool) (tick : Brought) (reason : Option Abort) → live.stands ≡ true → IsPlaced mac live → PlacedTurn (flowed live high low is_request tick reason)
  flowed_placed live high low is_request tick (Some reason) up p = record { live = over_placed _ live p; sent = (partner_other live up p, tt) }
  flowed_placed live high low is_request tick None up p = record {
    live = p;
    sent = each_behind (IsAimed setup) (where_due (is_repeated high) (acks_of live High)) _ (due_placed (is_repeated high) _ (acks_placed live High live.alarms.confirming up p))
        (each_behind (IsAimed setup) (where_due (is_repeated low) (acks_of live Low)) _ (due_placed (is_repeated low) _ (acks_placed live Low live.low_alarms.confirming up p))
        (each_behind (IsAimed setup) (where_due is_request (pending_of live)) _ (due_placed is_request _ (pending_placed live live.asked p.addressing))
        (due_placed tick.is_cyclic (outputs_of live) ((p.plain, partner_other live up p), tt))));
  }

  -- the rest of a unit
  gone_placed : (live : Live) (is_request b : Bool) → live.stands ≡ b → IsPlaced mac live
      → PlacedTurn (cond b (flowed (exchange_later live) (due live.alarms.sending) (due live.low_alarms.sending) is_request (brought live) (brought live).ending)
      (record { live = live; sent = where_due is_request (requests_of live.device live.asked) }))
  gone_placed live is_request true up p =
      flowed_placed (exchange_later live) (due live.alarms.sending) (due live.low_alarms.sending) is_request (brought live) (brought live).ending up (record { plain = p.plain; partner = p.partner; asking = p.asking; giving = p.giving; addressing = p.addressing })
  gone_placed live is_request false up p = record {
    live = p;
    sent = due_placed is_request _ (requests_placed live.device live.asked p.addressing);
  }

  later_placed : (live : Live) → IsPlaced mac live → IsPlaced mac (later live)
  later_placed live p = record { plain = p.plain; partner = p.partner; asking = p.asking; giving = p.giving; addressing = p.addressing }

  -- a controller that is ended for this cause
  quit_placed : (cause : Cause) (live : Live) (phase : State) → IsPlaced mac live → PlacedTurn (quit setup cause live phase)
  quit_placed cause live Looking p = ends_placed _ live p
  quit_placed cause live Addressing p = ends_placed _ live p
  quit_placed cause live (Ended before) p = stays_placed live p
  quit_placed cause live other p = released_placed _ live p

  -- the patience of the phase ends with a unit, or it does not
  unit_placed : (live : Live) (b : Bool) → IsPlaced mac live
      → PlacedTurn (cond b (quit setup NoProgress (later live) live.phase) (gone_on (turn_due setup (is_again live) (later live)) (is_again live)))
  unit_placed live true p = quit_placed NoProgress (later live) live.phase (later_placed live p)
  unit_placed live false p =
      let next = turn_due setup (is_again live) (later live) in
      gone_placed next (is_again live) next.stands refl (aside_placed (later live) next (due_aside setup (is_again live) (later live)) (later_placed live p))

  -- ---- requests of the application

  accessing_placed : (live : Live) (request : RecordRequest) (octets : List ℕ) → IsPlaced mac live → PlacedTurn (accessing request octets live)
  accessing_placed live request octets p =
      record { live = record { plain = p.plain; partner = p.partner; asking = p.asking; giving = p.giving; addressing = p.addressing }; sent = (tt, tt) }

  requested_placed : (live : Live) (kind : RecordService) (slot subslot index : ℕ) (octets : List ℕ) → IsPlaced mac live → PlacedTurn (requested setup live kind slot subslot index octets)
  requested_placed live kind slot subslot index octets p = either (can_request live) _ _ (accessing_placed live _ octets p) (stays_placed live p)

  -- ---- events

  abbrev pub IsEventOf : Event → Type 0
  IsEventOf (event.Frame bytes) = IsOf setup mac (heard_of setup.plan.controller bytes.items)
  IsEventOf other = Unit {0}

  pub event_placed : (live : Live) (one : Event) → IsEventOf one → IsPlaced mac live → PlacedTurn (turn_of setup live one)
  event_placed live (event.Frame bytes) is p = heard_placed live (heard_of setup.plan.controller bytes.items) is p
  event_placed live event.Tick is p = unit_placed live (is_spent live) p
  event_placed live (event.Give slot subslot value) is p =
      stays_placed (given live slot subslot value.items) (record { plain = p.plain; partner = p.partner; asking = p.asking; giving = p.giving; addressing = p.addressing })
  event_placed live (event.Status slot subslot is_good) is p =
      stays_placed (rated live slot subslot is_good) (record { plain = p.plain; partner = p.partner; asking = p.asking; giving = p.giving; addressing = p.addressing })
  event_placed live (event.Read slot subslot index) is p = requested_placed live service.Read slot subslot index [] p
  event_placed live (event.Write slot subslot index octets) is p =
      either (nat_lt most_record_octets (length octets.items)) _ _ (stays_placed live p) (requested_placed live service.Write slot subslot index octets.items p)
  event_placed live event.Stop is p = quit_placed Stopped live live.phase p

  -- a controller that was just made
  pub first_placed : (plan : Parts) → IsPlaced mac (first plan)
  first_placed plan = record { plain = refl; partner = λ e. absurd cc; asking = λ e. absurd cc; giving = λ e. absurd cc; addressing = λ e. absurd cc }
