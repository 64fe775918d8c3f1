-- What a turn of a controller does to the places of its plan and to its request after a plug.
use Rattle.std.proofs.Common.{◌≡◌, ◌⊎◌, inl, inr, ◌==◌, ◌&&◌, ◌+◌, ◌++◌, ℕ, Bool, true, false, cond, List, [], ◌∷◌, length, Option, Some, None, refl, sym, ap}
use Rattle.std.proofs.Common.{subst, ◌∙◌, append-nil}
use Rattle.std.specs.Prelude.{if◌then◌else◌, is_some, nat_lt}
use Rattle.std.specs.List.{AllByRecursion}
use Rattle.std.proofs.lemmas.Bool.{and_parts, false≢true}
use Rattle.pn_values.specs.declared.mac.Mac.{Mac}
use Rattle.frame_codec.specs.declared.udp.Caller.{Caller}
use Rattle.dcp_core.specs.Answered.{is_agreed}
use Rattle.dcp_core.specs.Response.{Answered}
use Rattle.rpc_core.specs.declared.response.Status.{Status as Code}
use Rattle.rpc_core.specs.Call.{Asked as Call}
use Rattle.rpc_core.specs.Response.{Answered as Response, is_done}
use Rattle.connect_blocks.specs.declared.control.ControlBlock.{ControlBlock}
use Rattle.connect_blocks.specs.declared.plug_control.PlugControlBlock.{PlugControlBlock}
use Rattle.block_codec.specs.Block.{block_of}
use Rattle.record_blocks.specs.declared.alarm_ack.AlarmAck.{AlarmAck}
use Rattle.record_blocks.specs.declared.alarm_notification.AlarmNotification.{AlarmNotification}
use Rattle.pn_alarms.specs.declared.abort.Abort.{Abort}
use Rattle.pn_alarms.specs.declared.message.Notice.TheVariants as notice
use Rattle.pn_alarms.specs.declared.pdu.Header.{Header}
use Rattle.pn_alarms.specs.declared.receiver.Taken.{Taken}
use Rattle.pn_alarms.specs.declared.receiver.Taken.TheVariants.{New, Again, Refused as Unwanted}
use Rattle.pn_alarms.specs.Receiver.{taken_as}
use Rattle.pn_alarms.specs.Sending.{due}
use Rattle.pn_alarms.specs.Sending.{is_again as is_repeated}
use Rattle.diagnosis.specs.Line.{more_taken}
use Rattle.diagnosis.specs.declared.reports.priority.Priority.{Priority}
use Rattle.diagnosis.specs.declared.reports.priority.Priority.TheVariants.{High, Low}
use Rattle.diagnosis.specs.reports.Message.{ToController}
use Rattle.cyclic_data.specs.exchange.Received.{behind_frame}
use Rattle.connects.specs.declared.answers.connect.Found.{Found}
use Rattle.connects.specs.answers.Connect.{Chosen, chosen_of, found_in, is_whole, nothing}
use Rattle.plan_places.specs.declared.place.PlaceState.TheVariants as known
use Rattle.plan_places.specs.declared.report.PlaceReport.{PlaceReport}
use Rattle.plan_places.specs.declared.report.Plug.{Plug}
use Rattle.plan_places.specs.Places.{Told, has_turn_at, is_awaited, next_waiting, no_places, opened, told_by, with_state}
use Rattle.plan_places.specs.Places.{readied as places_readied}
use Rattle.plan_places.specs.Reports.{place_report, report_by_type}
use Rattle.controller_messages.specs.declared.plug_request.PlugRequest.{PlugRequest}
use Rattle.controller_messages.specs.declared.plug_request.PlugStep.{PlugStep}
use Rattle.controller_messages.specs.declared.plug_request.PlugStep.TheVariants.{Record, PrmEnd}
use Rattle.controller_messages.specs.declared.record_request.RecordRequest.{RecordRequest}
use Rattle.controller_messages.specs.declared.record_request.RecordService.{RecordService}
use Rattle.controller_messages.specs.declared.record_request.RecordService.TheVariants as service
use Rattle.controller_messages.specs.declared.refusal.Refusal.{Refusal}
use Rattle.controller_messages.specs.declared.setup.Setup.{Setup}
use Rattle.controller_messages.specs.declared.request.Request.{Request}
use Rattle.controller_messages.specs.declared.request.Request.TheVariants as asks
use Rattle.controller_messages.specs.Access.{Accessing, call_number, is_rejected, is_reply, record_in, unplugged}
use Rattle.controller_messages.specs.Heard.{Heard, Nothing, Answers, Responds, Refuses, Calls, Cyclic, Alarms}
use Rattle.controller_messages.specs.PlugRequests.{is_plug_answer, is_plug_ready, plug_answer, plug_ready_in}
use Rattle.controller_messages.specs.RecordRequests.{most_record_octets}
use Rattle.controller_messages.specs.Requests.{first_of, writing_from, writing_after}
use Rattle.controller_messages.specs.Sent.{Sent, Requests, Parametrizes, Agrees, ready_answer}
use Rattle.controller_core.specs.declared.start_up.outcomes.Outcomes.{Outcomes}
use Rattle.controller_core.specs.declared.start_up.outcomes.Outcomes.TheVariants.{AllWritten, Unreadable}
use Rattle.controller_core.specs.declared.start_up.outcomes.Outcomes.TheVariants.{Refused as Denied}
use Rattle.controller_core.specs.declared.stored.event.Event.{Event}
use Rattle.controller_core.specs.declared.stored.event.Event.TheVariants as event
use Rattle.controller_core.specs.declared.stored.state.Cause.{Cause}
use Rattle.controller_core.specs.declared.stored.state.Cause.TheVariants as why
use Rattle.controller_core.specs.declared.stored.state.RefusedRecord.{RefusedRecord}
use Rattle.controller_core.specs.declared.stored.state.State.{State}
use Rattle.controller_core.specs.declared.stored.state.State.TheVariants.{Looking, Addressing, Connecting, Writing, Ending, Waiting, Exchanging, Ended}
use Rattle.controller_core.specs.start_up.Answers.{is_addressed, is_answer, is_found, is_held, is_ready, is_refused, is_right, is_set_answer, ready_in, is_tried}
use Rattle.controller_core.specs.start_up.Outcomes.{outcomes_of}
use Rattle.controller_core.specs.stored.Alarms.{is_alarm}
use Rattle.controller_core.specs.stored.Cause.{cause_of}
use Rattle.controller_core.specs.stored.State.{Live}
use Rattle.controller_core.specs.Machine.{Turn, accesses_by, accesses_of, acked_under, acks_in, acks_of, after_turn, after_write, alarmed, answered, refused_end, refused_write}
use Rattle.controller_core.specs.Machine.{asks_next, behind_ack, behind_data, beside, brings, brought, called, can_begin, can_request, come, connected}
use Rattle.controller_core.specs.Machine.{decided, done, due_frames, end_of, exchange_later, flowed, gone_on, granted, is_again, is_end_of, is_exchanging}
use Rattle.controller_core.specs.Machine.{is_plug_awaited, is_spent, later, noted, noticed, outputs_of, over, past_record, pending_by, pending_of, placed}
use Rattle.controller_core.specs.Machine.{plug_asked, plug_called, plug_finished, plug_passed, plug_passed_by, plug_readied, plug_refused, plug_rejected}
use Rattle.controller_core.specs.Machine.{plug_responded, plugs_by, quit, readied, refused, refused_beside, refused_by, refused_place, rejected}
use Rattle.controller_core.specs.Machine.{related_by, released, replied, requested, requests_of, responded, standing, state_of_step, stays, step_from, taken}
use Rattle.controller_core.specs.Machine.{ticked, turn_due, turn_of, turned, undone, where_due, writing}
use Rattle.end_laws.specs.controller.Small.{IsInStep, IsSteady, MayWait}
use Rattle.end_laws.specs.turns.Alarms.{is_priority, report_as}
use Rattle.end_laws.specs.turns.Beside.{IsBegun, MayBegin, MayFollow, first_asked}
use Rattle.both_ends.specs.exchange.Over.{taken_by, taken_of}
use Rattle.both_ends.proofs.ExchangeReported.{IsGood, IsOfPriority, IsOurs}
use Rattle.plug_ends.specs.Told.{report_in}

-- ---- what is seen of a controller

-- Its request after a plug, its places, whether its relation is established, and the device that it sends to.
pub record View : Type 0 where
  pub plug : Option PlugRequest
  pub places : Told
  pub stands : Bool
  pub device : Mac

abbrev pub viewed : Option PlugRequest → Told → Bool → Mac → View
viewed plug places stands device = record { plug = plug; places = places; stands = stands; device = device }

abbrev pub view_of : Live → View
view_of live = viewed live.access.plug live.places live.stands live.device

-- it has ended
abbrev pub over_view : View → View
over_view v = viewed None no_places false v.device

-- this is asked of a place
abbrev pub asked_view : ℕ → ℕ → ℕ → PlugRequest → View → View
asked_view slot subslot number request v =
    viewed (Some request) (with_state slot subslot (state_of_step request.step number) v.places) v.stands v.device

-- an ApplicationReady with this number came
abbrev pub unplugged_by : Bool → Option PlugRequest → Option PlugRequest
unplugged_by is_end plug = if is_end then None else plug

abbrev pub ready_view : ℕ → View → View
ready_view number v = viewed (unplugged_by (is_end_of number v.plug) v.plug) (places_readied number v.places) v.stands v.device

-- the step after a record, with this sequence number
abbrev pub next_request : Setup → ℕ → PlugRequest → ℕ → PlugRequest
next_request setup sequence request number = record {
  sequence = sequence;
  slot = request.slot;
  subslot = request.subslot;
  number = request.number;
  step = step_from setup.plan request.slot request.subslot (number + 1);
}

-- A message that is no request after a plug, and does not answer an ApplicationReady of one.
abbrev pub IsPlain : Sent → Type 0
IsPlain (Parametrizes device request) = ⊥
IsPlain (Agrees caller answer) = (call : Call) × (block : ControlBlock) × (answer ≡ ready_answer call block)
IsPlain message = Unit {0}

abbrev pub ArePlain : List Sent → Type 0
ArePlain sent = AllByRecursion IsPlain sent

-- ---- what a turn is made of

-- This is true of the controller as it is, and goes on with each thing that a turn may do: with the alarms that it accepted, what is seen of
-- it then, and what it sent.
pub record Closed (setup : Setup) (live : Live) (alarms : List AlarmNotification) (Fine : List AlarmNotification → Type 0) (IsResponse : Response → Type 0)
    (P : List AlarmNotification → View → List Sent → Type 0) : Type 0 where
  pub start : P alarms (view_of live) []
  pub front : (all : List AlarmNotification) (v : View) (sent more : List Sent) → ArePlain more → P all v sent → P all v (more ++ sent)
  pub back : (all : List AlarmNotification) (v : View) (sent more : List Sent) → ArePlain more → P all v sent → P all v (sent ++ more)
  pub found : (source : Mac) → live.access.plug ≡ None → P alarms (viewed live.access.plug live.places live.stands source) []
  pub over : P alarms (over_view (view_of live)) []
  pub relates : (blocks : List ℕ) (stands : Bool) → live.asked ≡ Some asks.Connect
      → P alarms (viewed live.access.plug (opened setup.plan 400 blocks) stands live.device) []
  pub again : (request : PlugRequest) → live.access.plug ≡ Some request → P alarms (view_of live) (Parametrizes live.device request ∷ [])
  pub ends : (request : PlugRequest) → live.access.plug ≡ Some request → P alarms (viewed None live.places live.stands live.device) []
  pub refuses : (request : PlugRequest) → live.access.plug ≡ Some request → has_turn_at request.slot request.subslot live.places ≡ true
      → P alarms (viewed None (with_state request.slot request.subslot known.Refused live.places) live.stands live.device) []
  pub next : (request : PlugRequest) (number sequence : ℕ) (response : Response) → live.access.plug ≡ Some request → request.step ≡ Record number
      → IsResponse response → is_plug_answer setup request response.header.activity response.header.sequence ≡ true
      → (is_done response.status ≡ true) ⊎ (setup.plan.continue_on_refused_record ≡ true)
      → has_turn_at request.slot request.subslot live.places ≡ true
      → P alarms (asked_view request.slot request.subslot request.number (next_request setup sequence request number) (view_of live))
      (Parametrizes live.device (next_request setup sequence request number) ∷ [])
  pub begins : (all : List AlarmNotification) (v : View) (sent : List Sent) (plug : Plug) (sequence : ℕ) → v.plug ≡ None
      → next_waiting v.places ≡ Some plug → P all v sent
      → P all (asked_view plug.slot plug.subslot plug.number (first_asked setup sequence plug) v)
      (sent ++ Parametrizes v.device (first_asked setup sequence plug) ∷ [])
  pub ready : (caller : Caller) (call : Call) (block : PlugControlBlock) → is_plug_ready setup block ≡ true
      → is_awaited block.alarm_sequence_number live.places ≡ true
      → P alarms (ready_view block.alarm_sequence_number (view_of live)) (Agrees caller (plug_answer call block) ∷ [])
  pub alarm : (alarm : AlarmNotification) → live.stands ≡ true → Fine (alarms ++ alarm ∷ [])
      → P (alarms ++ alarm ∷ []) (viewed live.access.plug (told_by (report_in alarm) live.places) live.stands live.device) []

-- no frame is delivered
abbrev pub IsNoFrame : Event → Type 0
IsNoFrame (event.Frame bytes) = ⊥
IsNoFrame other = Unit {0}

-- An alarm of high priority is a process alarm, and reports nothing of places.
high_quiet : (alarm : AlarmNotification) → alarm.alarm_type ≡ 2 → place_report (report_as High alarm) ≡ None
high_quiet alarm e = by_api (alarm.api == 0)
  where
    by_type : (n : ℕ) → alarm.alarm_type ≡ n → n ≡ 2 → report_by_type alarm ≡ None
    by_type n e f = rw (e, f) refl

    by_api : (b : Bool) → cond b (report_by_type alarm) None ≡ None
    by_api true = by_type 2 e refl
    by_api false = refl

module _ (setup : Setup) (live : Live) (alarms : List AlarmNotification) (Fine : List AlarmNotification → Type 0) (IsResponse : Response → Type 0)
    (P : List AlarmNotification → View → List Sent → Type 0) (c : Closed setup live alarms Fine IsResponse P)
    (steady : IsSteady setup.plan live)
    (follows : (could : Bool) (turn : Turn) → MayFollow setup turn (after_turn setup could turn))
    (due_so : (is_due : Bool) (next : Live) → MayBegin setup next (turn_due setup is_due next)) where
  pub record Goes (all : List AlarmNotification) (turn : Turn) : Type 0 where
    pub so : P all (view_of turn.live) turn.sent

  keeps : (turn : Turn) → view_of turn.live ≡ view_of live → ArePlain turn.sent → Goes alarms turn
  keeps turn same plain = record {
    so = subst (λ (v : View). P alarms v turn.sent) (sym same) (c.back alarms (view_of live) [] turn.sent plain c.start);
  }

  rests : Goes alarms (stays live)
  rests = record { so = c.start }

  either : (b : Bool) {all : List AlarmNotification} {x y : Turn} → Goes all x → Goes all y → Goes all (if b then x else y)
  either true one other = one
  either false one other = other

  ends : (cause : Cause) (next : Live) (sent : List Sent) → next.device ≡ live.device → ArePlain sent
      → Goes alarms (record { live = over cause next; sent = sent })
  ends cause next sent same plain = record {
    so = subst (λ (device : Mac). P alarms (viewed None no_places false device) sent) (sym same)
        (c.back alarms (over_view (view_of live)) [] sent plain c.over);
  }

  releases : (cause : Cause) (next : Live) → next.device ≡ live.device → Goes alarms (released setup cause next)
  releases cause next same = record {
    so = subst (λ (device : Mac). P alarms (viewed None no_places false device) (released setup cause next).sent) (sym same)
        (c.back alarms (over_view (view_of live)) [] (released setup cause next).sent (tt, tt) c.over);
  }

  -- ---- DCP

  none_in : live.phase ≡ Looking → live.access.plug ≡ None
  none_in e = subst (λ (s : State). MayWait s live.access.plug) e steady.plug

  found_goes : (source : Mac) (turn : Turn) → live.access.plug ≡ None → view_of turn.live ≡ viewed live.access.plug live.places live.stands source
      → ArePlain turn.sent → Goes alarms turn
  found_goes source turn none same plain = record {
    so = subst (λ (v : View). P alarms v turn.sent) (sym same)
        (c.back alarms (viewed live.access.plug live.places live.stands source) [] turn.sent plain (c.found source none));
  }

  answered_goes : (source : Mac) (answer : Answered) (phase : State) → live.phase ≡ phase → Goes alarms (answered setup live source answer phase)
  answered_goes source answer Looking e =
      either (is_found setup.plan answer)
      (either (is_right setup.plan answer)
      (either (is_addressed setup.plan answer) (found_goes source _ (none_in e) refl (tt, tt)) (found_goes source _ (none_in e) refl (tt, tt)))
      (ends why.WrongDevice live [] refl tt))
      rests
  answered_goes source answer Addressing e =
      either (is_set_answer answer) (either (is_agreed answer) (keeps _ refl (tt, tt)) (ends why.Refused live [] refl tt)) rests
  answered_goes source answer phase e = rests

  -- ---- responses of the start-up

  related_goes : (blocks : List ℕ) (found : Option Chosen) → live.asked ≡ Some asks.Connect
      → Goes alarms (related_by setup (placed setup blocks live) found)
  related_goes blocks (Some chosen) e = record {
    so = c.back alarms (viewed live.access.plug (opened setup.plan 400 blocks) true live.device) []
        (writing setup (writing_from setup.plan 0) (standing setup (placed setup blocks live) chosen)).sent (tt, tt) (c.relates blocks true e);
  }
  related_goes blocks None e = record { so = c.relates blocks live.stands e }

  connected_goes : (blocks : List ℕ) (found : Option Found) → live.asked ≡ Some asks.Connect → Goes alarms (connected setup live blocks found)
  connected_goes blocks (Some found) e =
      either (is_whole found) (either found.differs (releases why.ModuleDiff live refl) (related_goes blocks (chosen_of found) e)) rests
  connected_goes blocks None e = rests

  passed_goes : (next : Request) (refused_number : ℕ) (status : Code) → Goes alarms (past_record setup next (noted status refused_number live))
  passed_goes next refused_number status =
      either setup.plan.continue_on_refused_record (keeps _ refl (tt, tt))
      (either setup.plan.release_on_refused_record (releases why.Refused (noted status refused_number live) refl)
      (ends why.Refused (noted status refused_number live) [] refl tt))

  outcomes_go : (number : ℕ) (next : Request) (outcomes : Outcomes) → Goes alarms (after_write setup live number next outcomes)
  outcomes_go number next AllWritten = keeps _ refl (tt, tt)
  outcomes_go number next (Denied place status) = passed_goes next (first_of setup.plan number + place) status
  outcomes_go number next Unreadable = rests

  done_goes : (blocks : List ℕ) (request : Request) → live.asked ≡ Some request → Goes alarms (done setup live blocks request)
  done_goes blocks asks.Identify e = rests
  done_goes blocks asks.Address e = rests
  done_goes blocks asks.Connect e = connected_goes blocks (found_in 400 blocks nothing) e
  done_goes blocks (asks.Write number) e = outcomes_go number (writing_from setup.plan (number + 1)) (outcomes_of setup.plan number blocks)
  done_goes blocks (asks.WriteAfter number tries) e = outcomes_go number (writing_after setup.plan (number + 1) tries) (outcomes_of setup.plan number blocks)
  done_goes blocks asks.PrmEnd e = keeps _ refl tt
  done_goes blocks (asks.PrmEndAfter tries) e = keeps _ refl tt
  done_goes blocks (asks.Release sequence) e = keeps _ refl tt

  refused_write_goes : (status : Code) (number tries : ℕ) (next : Request) → Goes alarms (refused_write setup live status number tries next)
  refused_write_goes status number tries next =
      either (is_tried setup.plan status tries) (keeps _ refl tt) (passed_goes next (first_of setup.plan number) status)

  refused_end_goes : (status : Code) (tries : ℕ) → Goes alarms (refused_end setup live status tries)
  refused_end_goes status tries =
      either (is_tried setup.plan status tries) (keeps _ refl tt) (ends why.Refused (record live { refusal = Some status }) [] refl tt)

  undone_goes : (status : Code) (request : Request) → Goes alarms (undone setup live status request)
  undone_goes status (asks.Write number) = refused_write_goes status number 0 (writing_from setup.plan (number + 1))
  undone_goes status (asks.WriteAfter number tries) = refused_write_goes status number tries (writing_after setup.plan (number + 1) tries)
  undone_goes status asks.PrmEnd = refused_end_goes status 0
  undone_goes status (asks.PrmEndAfter tries) = refused_end_goes status tries
  undone_goes status asks.Connect =
      let next : Live = record live { refusal = Some status } in either (is_held setup.plan status) (releases why.Refused next refl) (ends why.Refused next [] refl tt)
  undone_goes status request = ends why.Refused (record live { refusal = Some status }) [] refl tt

  decided_goes : (response : Response) (request : Request) → live.asked ≡ Some request → Goes alarms (decided setup live response request)
  decided_goes response (asks.Release sequence) e = keeps _ refl tt
  decided_goes response request e = either (is_done response.status) (done_goes response.blocks request e) (undone_goes response.status request)

  refused_by_goes : (refusal : Refusal) (request : Request) → Goes alarms (refused_by live refusal request)
  refused_by_goes refusal (asks.Release sequence) = keeps _ refl tt
  refused_by_goes refusal request = ends why.Refused (record live { refusal = Some refusal.status }) [] refl tt

  -- ---- requests of the application

  same_if : (b : Bool) (x y : Live) → view_of x ≡ view_of live → view_of y ≡ view_of live → view_of (if b then x else y) ≡ view_of live
  same_if true x y one other = one
  same_if false x y one other = other

  brought_same : (request : RecordRequest) (octets : Option (List ℕ)) → view_of (brings request octets live) ≡ view_of live
  brought_same request (Some octets) = refl
  brought_same request None = refl

  granted_same : (request : RecordRequest) (blocks : List ℕ) (kind : RecordService) → view_of (granted request blocks kind live) ≡ view_of live
  granted_same request blocks service.Read = brought_same request (record_in (block_of blocks))
  granted_same request blocks service.Write = refl

  replied_same : (response : Response) (waiting : Option RecordRequest) → view_of (replied setup live response waiting) ≡ view_of live
  replied_same response None = refl
  replied_same response (Some request) =
      same_if (is_reply setup request response.header) _ _
      (same_if (is_done response.status) _ _ (granted_same request response.blocks request.service) refl) refl

  rejected_same : (refusal : Refusal) (waiting : Option RecordRequest) → view_of (rejected setup live refusal waiting) ≡ view_of live
  rejected_same refusal None = refl
  rejected_same refusal (Some request) = same_if (is_rejected setup request refusal) _ _ refl refl

  requested_goes : (kind : RecordService) (slot subslot index : ℕ) (octets : List ℕ) → Goes alarms (requested setup live kind slot subslot index octets)
  requested_goes kind slot subslot index octets = either (can_request live) (keeps _ refl (tt, tt)) rests

  -- ---- a turn begins

  begun_so : (all : List AlarmNotification) (next after : Live) (sent : List Sent) (begun : IsBegun setup next after) → P all (view_of next) sent
      → P all (view_of after) (sent ++ Parametrizes next.device begun.request ∷ [])
  begun_so all next after sent begun so =
      subst (λ (v : View). P all v (sent ++ Parametrizes next.device begun.request ∷ [])) (sym view_is)
      (subst (λ (r : PlugRequest). P all (asked_view plug.slot plug.subslot plug.number r (view_of next)) (sent ++ Parametrizes next.device r ∷ []))
      (sym begun.request_is)
      (c.begins all (view_of next) sent plug (call_number setup.plan next.access.calls) begun.plug begun.is_next so))
    where
      plug : Plug
      plug = begun.next

      view_is : view_of after ≡ asked_view plug.slot plug.subslot plug.number begun.request (view_of next)
      view_is =
          ap view_of begun.beside
          ∙ (ap (λ (access : Accessing). viewed access.plug after.places next.stands next.device) begun.access
          ∙ ap (λ (places : Told). viewed (Some begun.request) places next.stands next.device) begun.places)

  after_goes : (all : List AlarmNotification) (could : Bool) (turn : Turn) → Goes all turn → Goes all (after_turn setup could turn)
  after_goes all could turn goes = by_follow (follows could turn)
    where
      after : Turn
      after = after_turn setup could turn

      by_follow : MayFollow setup turn (after_turn setup could turn) → Goes all (after_turn setup could turn)
      by_follow (inl same) = subst (λ (t : Turn). Goes all t) (sym same) goes
      by_follow (inr more) = record {
        so = subst (λ (sent : List Sent). P all (view_of after.live) sent) (sym more.sent) (begun_so all turn.live after.live turn.sent more.begun goes.so);
      }

  -- ---- the request after a plug is answered

  module _ (request : PlugRequest) (was : live.access.plug ≡ Some request) where
    -- the turn is over
    abbrev finished : Option Code → Option RefusedRecord → Live
    finished refusal refused_one = record (plug_finished live) { refusal = refusal; refused_record = refused_one }

    refused_goes : (refusal : Option Code) (refused_one : Option RefusedRecord) → Goes alarms (asks_next (refused_place request (finished refusal refused_one)))
    refused_goes refusal refused_one = by_turn (has_turn_at request.slot request.subslot live.places) refl
      where
        by_turn : (b : Bool) → has_turn_at request.slot request.subslot live.places ≡ b
            → Goes alarms (asks_next (if b then record (finished refusal refused_one) { places = with_state request.slot request.subslot known.Refused live.places }
            else finished refusal refused_one))
        by_turn true e = record { so = c.refuses request was e }
        by_turn false e = record { so = c.ends request was }

    refused_stays : (refusal : Option Code) (refused_one : Option RefusedRecord) → Goes alarms (stays (refused_place request (finished refusal refused_one)))
    refused_stays refusal refused_one = by_turn (has_turn_at request.slot request.subslot live.places) refl
      where
        by_turn : (b : Bool) → has_turn_at request.slot request.subslot live.places ≡ b
            → Goes alarms (stays (if b then record (finished refusal refused_one) { places = with_state request.slot request.subslot known.Refused live.places }
            else finished refusal refused_one))
        by_turn true e = record { so = c.refuses request was e }
        by_turn false e = record { so = c.ends request was }

    passes_goes : (response : Response) → IsResponse response → is_plug_answer setup request response.header.activity response.header.sequence ≡ true
        → (is_done response.status ≡ true) ⊎ (setup.plan.continue_on_refused_record ≡ true)
        → (refusal : Option Code) (refused_one : Option RefusedRecord) (step : PlugStep) → request.step ≡ step
        → Goes alarms (asks_next (plug_passed_by setup (finished refusal refused_one) request step))
    passes_goes response hears answers granted_or refusal refused_one PrmEnd is = record { so = c.ends request was }
    passes_goes response hears answers granted_or refusal refused_one (Record number) is = by_turn (has_turn_at request.slot request.subslot live.places) refl
      where
        by_turn : (b : Bool) → has_turn_at request.slot request.subslot live.places ≡ b
            → Goes alarms (asks_next (if b
            then plug_asked setup request.slot request.subslot request.number (step_from setup.plan request.slot request.subslot (number + 1))
            (finished refusal refused_one)
            else finished refusal refused_one))
        by_turn true e = record { so = c.next request number (call_number setup.plan live.access.calls) response was is hears answers granted_or e }
        by_turn false e = record { so = c.ends request was }

    denied_goes : (response : Response) → IsResponse response → is_plug_answer setup request response.header.activity response.header.sequence ≡ true
        → (step : PlugStep) → Goes alarms (asks_next (plug_refused setup (plug_finished live) response.status request step))
    denied_goes response hears answers (Record number) = by_cont setup.plan.continue_on_refused_record refl
      where
        by_cont : (b : Bool) → setup.plan.continue_on_refused_record ≡ b
            → Goes alarms (asks_next (if b then plug_passed setup (noted response.status number (plug_finished live)) request
            else refused_place request (noted response.status number (plug_finished live))))
        by_cont true e =
            passes_goes response hears answers (inr e) (Some response.status) (Some (record { number = number; status = response.status })) request.step refl
        by_cont false e = refused_goes (Some response.status) (Some (record { number = number; status = response.status }))
    denied_goes response hears answers PrmEnd = refused_goes (Some response.status) live.refused_record

    responded_goes : (response : Response) → IsResponse response → Goes alarms (plug_responded setup live response request)
    responded_goes response hears =
        by_answer (is_plug_answer setup request response.header.activity response.header.sequence) refl (is_done response.status) refl
      where
        by_answer : (answers : Bool) → is_plug_answer setup request response.header.activity response.header.sequence ≡ answers
            → (positive : Bool) → is_done response.status ≡ positive
            → Goes alarms (if answers
            then asks_next (if positive then plug_passed setup (plug_finished live) request
            else plug_refused setup (plug_finished live) response.status request request.step)
            else stays live)
        by_answer false e positive f = rests
        by_answer true e true f = passes_goes response hears e (inl f) live.refusal live.refused_record request.step refl
        by_answer true e false f = denied_goes response hears e request.step

    plug_rejected_goes : (refusal : Refusal) → Goes alarms (stays (plug_rejected setup live refusal request))
    plug_rejected_goes refusal = by_answer (is_plug_answer setup request refusal.activity refusal.sequence)
      where
        by_answer : (b : Bool)
            → Goes alarms (stays (if b then refused_place request (record (plug_finished live) { refusal = Some refusal.status }) else live))
        by_answer true = refused_stays (Some refusal.status) live.refused_record
        by_answer false = rests

  beside_goes : (response : Response) (plug : Option PlugRequest) → live.access.plug ≡ plug → IsResponse response
      → Goes alarms (beside setup live response plug)
  beside_goes response (Some request) was hears = responded_goes request was response hears
  beside_goes response None was hears = keeps (stays (replied setup live response live.access.waiting)) (replied_same response live.access.waiting) tt

  responds_goes : (response : Response) (asked : Option Request) → live.asked ≡ asked → IsResponse response
      → Goes alarms (responded setup live response asked)
  responds_goes response (Some request) e hears = either (is_answer setup request response.header) (decided_goes response request e) rests
  responds_goes response None e hears = beside_goes response live.access.plug refl hears

  refuses_beside : (refusal : Refusal) (plug : Option PlugRequest) → live.access.plug ≡ plug → Goes alarms (stays (refused_beside setup live refusal plug))
  refuses_beside refusal (Some request) was = plug_rejected_goes request was refusal
  refuses_beside refusal None was = keeps (stays (rejected setup live refusal live.access.waiting)) (rejected_same refusal live.access.waiting) tt

  refuses_goes : (refusal : Refusal) (asked : Option Request) → Goes alarms (refused setup live refusal asked)
  refuses_goes refusal (Some request) = either (is_refused setup request refusal) (refused_by_goes refusal request) rests
  refuses_goes refusal None = refuses_beside refusal live.access.plug refl

  -- ---- ApplicationReady

  readied_goes : (caller : Caller) (call : Call) (block : ControlBlock) (phase : State) → Goes alarms (readied live caller call block phase)
  readied_goes caller call block Ending = keeps _ refl ((call, block, refl), tt)
  readied_goes caller call block Waiting = keeps _ refl ((call, block, refl), tt)
  readied_goes caller call block Exchanging = keeps _ refl ((call, block, refl), tt)
  readied_goes caller call block phase = rests

  there_goes : (caller : Caller) (call : Call) (block : Option PlugControlBlock) → Goes alarms (plug_called setup live caller call block)
  there_goes caller call None = rests
  there_goes caller call (Some block) = by_test (is_plug_ready setup block && is_plug_awaited live block.alarm_sequence_number) refl
    where
      number : ℕ
      number = block.alarm_sequence_number

      plug_by : (b : Bool) → (if b then unplugged live.access else live.access).plug ≡ unplugged_by b live.access.plug
      plug_by true = refl
      plug_by false = refl

      by_test : (b : Bool) → (is_plug_ready setup block && is_plug_awaited live block.alarm_sequence_number) ≡ b
          → Goes alarms (if b then record { live = plug_readied live block.alarm_sequence_number; sent = Agrees caller (plug_answer call block) ∷ [] }
          else stays live)
      by_test true e =
          let both = and_parts (is_plug_ready setup block) (is_plug_awaited live number) e in
          record {
            so = subst (λ (plug : Option PlugRequest). P alarms (viewed plug (places_readied number live.places) live.stands live.device)
                (Agrees caller (plug_answer call block) ∷ []))
                (sym (plug_by (is_end_of number live.access.plug)))
                (c.ready caller call block both.0 (and_parts (is_exchanging live.phase) (is_awaited number live.places) both.1).1);
          }
      by_test false e = rests

  called_goes : (caller : Caller) (call : Call) (block : Option ControlBlock) → Goes alarms (called setup live caller call block)
  called_goes caller call (Some block) = either (is_ready setup block) (readied_goes caller call block live.phase) rests
  called_goes caller call None =
      after_goes alarms (can_begin live) (plug_called setup live caller call (plug_ready_in call)) (there_goes caller call (plug_ready_in call))

  -- ---- alarms

  high_goes : (number : ℕ) (alarm : AlarmNotification) (structure : Option ℕ) (as_what : Taken) → alarm.alarm_type ≡ 2
      → Goes alarms (taken (behind_data live High number) (record { priority = High; notification = alarm; user_structure = structure }) as_what)
  high_goes number alarm structure New quiet =
      keeps _ (ap (λ (o : Option PlaceReport). viewed live.access.plug (told_by o live.places) live.stands live.device) (high_quiet alarm quiet)) (tt, (tt, tt))
  high_goes number alarm structure Again quiet = keeps _ refl (tt, tt)
  high_goes number alarm structure Unwanted quiet = keeps _ refl (tt, tt)

  low_goes : (number : ℕ) (alarm : AlarmNotification) (structure : Option ℕ) (as_what : Taken) → live.stands ≡ true → Fine (more_taken alarms alarm as_what)
      → Goes (more_taken alarms alarm as_what)
      (taken (behind_data live Low number) (record { priority = Low; notification = alarm; user_structure = structure }) as_what)
  low_goes number alarm structure New up fine = record {
    so = c.back (alarms ++ alarm ∷ []) (viewed live.access.plug (told_by (report_in alarm) live.places) live.stands live.device) []
        (taken (behind_data live Low number) (record { priority = Low; notification = alarm; user_structure = structure }) New).sent (tt, (tt, tt))
        (c.alarm alarm up fine);
  }
  low_goes number alarm structure Again up fine = keeps _ refl (tt, tt)
  low_goes number alarm structure Unwanted up fine = keeps _ refl (tt, tt)

  more_is : (as_what : Taken) (alarm : AlarmNotification) → alarms ++ more_taken [] alarm as_what ≡ more_taken alarms alarm as_what
  more_is New alarm = refl
  more_is Again alarm = append-nil alarms
  more_is Unwanted alarm = append-nil alarms

  none_more : (turn : Turn) → Goes alarms turn → Goes (alarms ++ []) turn
  none_more turn goes = subst (λ (xs : List AlarmNotification). Goes xs turn) (sym (append-nil alarms)) goes

  data_goes : (under : Priority) (number : ℕ) (priority : Priority) (alarm : AlarmNotification) (structure : Option ℕ) → IsOfPriority priority alarm
      → (b : Bool) → (b ≡ true → live.stands ≡ true)
      → Fine (alarms ++ cond (is_priority Low priority && b) (more_taken [] alarm (taken_as (end_of live Low).seen number)) [])
      → Goes (alarms ++ cond (is_priority Low priority && b) (more_taken [] alarm (taken_as (end_of live Low).seen number)) [])
      (cond b (noticed live under (notice.Data number (record { priority = priority; notification = alarm; user_structure = structure }))) (stays live))
  data_goes under number High alarm structure quiet true up fine = none_more _ (high_goes number alarm structure (taken_as (end_of live High).seen number) quiet)
  data_goes under number High alarm structure quiet false up fine = none_more _ rests
  data_goes under number Low alarm structure quiet true up fine =
      let as_what = taken_as (end_of live Low).seen number in
      subst (λ (xs : List AlarmNotification). Goes xs
      (taken (behind_data live Low number) (record { priority = Low; notification = alarm; user_structure = structure }) (taken_as (end_of live Low).seen number)))
      (sym (more_is as_what alarm))
      (low_goes number alarm structure as_what (up refl) (subst (λ (xs : List AlarmNotification). Fine xs) (more_is as_what alarm) fine))
  data_goes under number Low alarm structure quiet false up fine = none_more _ rests

  acked_same : (priority : Priority) (number : ℕ) → view_of (behind_ack live priority number) ≡ view_of live
  acked_same High number = refl
  acked_same Low number = refl

  alarmed_goes : (source : Mac) (under : Priority) (header : Header) (message : ToController) → IsOurs message
      → Fine (alarms ++ taken_of Low live source header message)
      → Goes (alarms ++ taken_of Low live source header message) (alarmed live source under header message)
  alarmed_goes source under header (notice.Data number report) ours fine =
      data_goes under number report.priority report.notification report.user_structure ours.1 (live.stands && is_alarm live.cyclic.route source header)
      (λ e. (and_parts live.stands (is_alarm live.cyclic.route source header) e).0) fine
  alarmed_goes source under header (notice.Ack number) ours fine =
      none_more _ (either (live.stands && is_alarm live.cyclic.route source header)
      (keeps (stays (behind_ack live (acked_under live under) number)) (acked_same (acked_under live under) number) tt) rests)
  alarmed_goes source under header notice.Nack ours fine =
      none_more _ (either (live.stands && is_alarm live.cyclic.route source header) rests rests)
  alarmed_goes source under header (notice.Abort status) ours fine =
      none_more _ (either (live.stands && is_alarm live.cyclic.route source header) (ends why.Aborted live [] refl tt) rests)

  -- ---- what is heard

  come_same : (source : Mac) (frame_id : ℕ) (body : List ℕ) → view_of (come live source frame_id body) ≡ view_of live
  come_same source frame_id body = same_if live.stands (record live { cyclic = behind_frame live.cyclic source frame_id body }) live refl refl

  pub heard_goes : (mac : Mac) (heard : Heard) → IsGood mac heard → ((response : Response) → heard ≡ Responds response → IsResponse response)
      → Fine (alarms ++ taken_by Low live heard) → Goes (alarms ++ taken_by Low live heard) (turned setup live heard)
  heard_goes mac Nothing good hears fine = none_more _ rests
  heard_goes mac (Answers source answer) good hears fine = none_more _ (answered_goes source answer live.phase refl)
  heard_goes mac (Responds response) good hears fine =
      none_more _ (after_goes alarms (can_begin live) (responded setup live response live.asked)
      (responds_goes response live.asked refl (hears response refl)))
  heard_goes mac (Refuses refusal) good hears fine =
      none_more _ (after_goes alarms (can_begin live) (refused setup live refusal live.asked) (refuses_goes refusal live.asked))
  heard_goes mac (Calls caller call) good hears fine = none_more _ (called_goes caller call (ready_in call))
  heard_goes mac (Cyclic source frame_id body) good hears fine =
      none_more _ (keeps (stays (come live source frame_id body)) (come_same source frame_id body) tt)
  heard_goes mac (Alarms source under header message) good hears fine =
      after_goes (alarms ++ taken_of Low live source header message) (can_begin live) (alarmed live source under header message)
      (alarmed_goes source under header message good.1 fine)

  -- ---- units

  quit_goes : (cause : Cause) (next : Live) (phase : State) → view_of next ≡ view_of live → Goes alarms (quit setup cause next phase)
  quit_goes cause next Looking same = ends cause next [] (ap (λ (v : View). v.device) same) tt
  quit_goes cause next Addressing same = ends cause next [] (ap (λ (v : View). v.device) same) tt
  quit_goes cause next (Ended before) same = keeps (stays next) same tt
  quit_goes cause next Connecting same = releases cause next (ap (λ (v : View). v.device) same)
  quit_goes cause next Writing same = releases cause next (ap (λ (v : View). v.device) same)
  quit_goes cause next Ending same = releases cause next (ap (λ (v : View). v.device) same)
  quit_goes cause next Waiting same = releases cause next (ap (λ (v : View). v.device) same)
  quit_goes cause next Exchanging same = releases cause next (ap (λ (v : View). v.device) same)

  where_plain : (b : Bool) (sent : List Sent) → ArePlain sent → ArePlain (where_due b sent)
  where_plain true sent plain = plain
  where_plain false sent plain = tt

  acks_plain : (next : Live) (priority : Priority) (ack : Option AlarmAck) → ArePlain (acks_in next priority ack)
  acks_plain next priority (Some ack) = (tt, tt)
  acks_plain next priority None = tt

  accesses_plain : (device : Mac) (octets : List ℕ) (waiting : Option RecordRequest) → ArePlain (accesses_by device octets waiting)
  accesses_plain device octets (Some request) = (tt, tt)
  accesses_plain device octets None = tt

  requests_plain : (device : Mac) (asked : Option Request) → ArePlain (requests_of device asked)
  requests_plain device (Some request) = (tt, tt)
  requests_plain device None = tt

  -- what is sent with a unit, around the request
  due_goes : (next : Live) (high low is_request is_cyclic : Bool) → P alarms (view_of next) (where_due is_request (pending_of next))
      → P alarms (view_of next) (due_frames next high low is_request is_cyclic)
  due_goes next high low is_request is_cyclic so =
      c.front alarms (view_of next) _ (where_due high (acks_of next High)) (where_plain high (acks_of next High) (acks_plain next High (end_of next High).confirming))
      (c.front alarms (view_of next) _ (where_due low (acks_of next Low)) (where_plain low (acks_of next Low) (acks_plain next Low (end_of next Low).confirming))
      (c.back alarms (view_of next) (where_due is_request (pending_of next)) (where_due is_cyclic (outputs_of next))
      (where_plain is_cyclic (outputs_of next) (tt, tt)) so))

  flow_goes : (next : Live) (is_request stands : Bool) (ending : Option Abort) → next.device ≡ live.device
      → P alarms (view_of next) (where_due is_request (pending_of (exchange_later next)))
      → (stands ≡ false → P alarms (view_of next) (where_due is_request (requests_of next.device next.asked)))
      → Goes alarms (if stands then flowed (exchange_later next) (due next.alarms.sending) (due next.low_alarms.sending) is_request (brought next) ending
      else record { live = next; sent = where_due is_request (requests_of next.device next.asked) })
  flow_goes next is_request true (Some reason) device so other = ends (cause_of reason) (exchange_later next) _ device (tt, tt)
  flow_goes next is_request true None device so other = record {
    so = due_goes (exchange_later next) (is_repeated (due next.alarms.sending)) (is_repeated (due next.low_alarms.sending)) is_request (brought next).is_cyclic so;
  }
  flow_goes next is_request false ending device so other = record { so = other refl }

  -- nothing begins
  pending_so : (next : Live) → view_of next ≡ view_of live → next.device ≡ live.device → (asked : Option Request) (plug : Option PlugRequest)
      → live.access.plug ≡ plug
      → P alarms (view_of live) (pending_by (record next { access = record next.access { plug = plug }; device = live.device }) asked)
  pending_so next same device (Some request) plug e = c.back alarms (view_of live) [] (Requests live.device request ∷ []) (tt, tt) c.start
  pending_so next same device None (Some request) e = c.again request e
  pending_so next same device None None e =
      c.back alarms (view_of live) [] (accesses_by live.device next.access.octets next.access.waiting)
      (accesses_plain live.device next.access.octets next.access.waiting) c.start

  where_so : (b : Bool) (sent : List Sent) → P alarms (view_of live) sent → P alarms (view_of live) (where_due b sent)
  where_so true sent so = so
  where_so false sent so = c.start

  gone_same : (b : Bool) → Goes alarms (gone_on (later live) b)
  gone_same b =
      flow_goes (later live) b live.stands (brought (later live)).ending refl
      (where_so b (pending_of (exchange_later (later live)))
      (pending_so (exchange_later (later live)) refl refl live.asked live.access.plug refl))
      (λ e. where_so b (requests_of live.device live.asked)
      (c.back alarms (view_of live) [] (requests_of live.device live.asked) (requests_plain live.device live.asked) c.start))

  -- a turn begins with the unit
  gone_begun : (next : Live) → IsBegun setup (later live) next → Goes alarms (gone_on next true)
  gone_begun next begun =
      flow_goes next true next.stands (brought next).ending device_is
      (subst (λ (sent : List Sent). P alarms (view_of next) sent) (sym pending_is) (begun_so alarms (later live) next [] begun c.start))
      (λ e. absurd (false≢true (sym e ∙ (ap (λ (l : Live). l.stands) begun.beside ∙ begun.stands))))
    where
      device_is : next.device ≡ live.device
      device_is = ap (λ (l : Live). l.device) begun.beside

      none : next.asked ≡ None
      none = ap (λ (l : Live). l.asked) begun.beside ∙ subst (λ (s : State). IsInStep setup.plan s live.asked) begun.phase steady.asked

      plug_is : next.access.plug ≡ Some begun.request
      plug_is = ap (λ (access : Accessing). access.plug) begun.access

      pending_is : pending_of (exchange_later next) ≡ Parametrizes live.device begun.request ∷ []
      pending_is =
          ap (λ (asked : Option Request). pending_by (exchange_later next) asked) none
          ∙ (ap (λ (plug : Option PlugRequest). if is_some plug then plugs_by next.device plug else accesses_of (exchange_later next)) plug_is
          ∙ ap (λ (device : Mac). Parametrizes device begun.request ∷ []) device_is)

  again_goes : (b : Bool) → MayBegin setup (later live) (turn_due setup b (later live)) → Goes alarms (gone_on (turn_due setup b (later live)) b)
  again_goes false may = gone_same false
  again_goes true (inl same) = subst (λ (next : Live). Goes alarms (gone_on next true)) (sym same) (gone_same true)
  again_goes true (inr begun) = gone_begun (turn_due setup true (later live)) begun

  ticked_goes : Goes alarms (ticked setup live)
  ticked_goes = either (is_spent live) (quit_goes why.NoProgress (later live) live.phase refl) (again_goes (is_again live) (due_so (is_again live) (later live)))

  -- ---- events

  pub event_goes : (one : Event) → IsNoFrame one → Goes alarms (turn_of setup live one)
  event_goes (event.Frame bytes) plain = absurd plain
  event_goes event.Tick plain = ticked_goes
  event_goes (event.Give slot subslot value) plain = keeps _ refl tt
  event_goes (event.Status slot subslot is_good) plain = keeps _ refl tt
  event_goes (event.Read slot subslot index) plain = requested_goes service.Read slot subslot index []
  event_goes (event.Write slot subslot index octets) plain =
      either (nat_lt most_record_octets (length octets.items)) rests (requested_goes service.Write slot subslot index octets.items)
  event_goes event.Stop plain = quit_goes why.Stopped live live.phase refl
