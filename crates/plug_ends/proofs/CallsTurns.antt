-- The call that a controller makes, with each of its turns: the same one goes on; or it is answered, and the next one may be made.
use Rattle.std.proofs.Common.{◌≡◌, ◌⊎◌, inl, inr, ◌+◌, ◌&&◌, ◌++◌, ◌==◌, ℕ, Bool, true, false, not, List, [], ◌∷◌, length, Option, Some, None, refl}
use Rattle.std.proofs.Common.{sym, ap, subst, ◌∙◌}
use Rattle.std.specs.Prelude.{if◌then◌else◌, is_some, nat_lt}
use Rattle.std.specs.List.{AllByRecursion}
use Rattle.std.specs.Prelude.{nat_eq}
use Rattle.std.specs.Cmp.Lexicographic.{pointwise}
use Rattle.std.proofs.lemmas.Bool.{eqb-true}
use Rattle.pn_values.specs.declared.mac.Mac.{Mac}
use Rattle.frame_codec.specs.declared.udp.Caller.{Caller}
use Rattle.dcp_core.specs.Response.{Answered}
use Rattle.dcp_core.specs.Answered.{is_agreed}
use Rattle.rpc_core.specs.declared.response.Status.{Status as Code}
use Rattle.rpc_core.specs.Call.{Asked as Call}
use Rattle.rpc_core.specs.Response.{Answered as Response, is_done}
use Rattle.connect_blocks.specs.declared.control.ControlBlock.{ControlBlock}
use Rattle.block_codec.specs.Block.{block_of}
use Rattle.connect_blocks.specs.declared.plug_control.PlugControlBlock.{PlugControlBlock}
use Rattle.record_blocks.specs.declared.alarm_ack.AlarmAck.{AlarmAck}
use Rattle.record_blocks.specs.declared.alarm_notification.AlarmNotification.{AlarmNotification}
use Rattle.pn_alarms.specs.declared.abort.Abort.{Abort}
use Rattle.pn_alarms.specs.declared.message.Notice.TheVariants as notice
use Rattle.pn_alarms.specs.declared.pdu.Header.{Header}
use Rattle.pn_alarms.specs.declared.receiver.Taken.{Taken}
use Rattle.pn_alarms.specs.declared.receiver.Taken.TheVariants.{New, Again, Refused}
use Rattle.pn_alarms.specs.Ends.{ControllerEnd}
use Rattle.pn_alarms.specs.Receiver.{taken_as}
use Rattle.pn_alarms.specs.Sending.{due}
use Rattle.pn_alarms.specs.Sending.{is_again as is_repeated}
use Rattle.diagnosis.specs.declared.reports.priority.Priority.{Priority}
use Rattle.diagnosis.specs.declared.reports.priority.Priority.TheVariants.{High, Low}
use Rattle.diagnosis.specs.declared.reports.report.Report.{Report}
use Rattle.diagnosis.specs.reports.Message.{ToController as AlarmReported}
use Rattle.cyclic_data.specs.exchange.Received.{behind_frame}
use Rattle.connects.specs.declared.answers.connect.Found.{Found}
use Rattle.connects.specs.answers.Connect.{Chosen, chosen_of, found_in, is_whole, nothing}
use Rattle.plans.specs.declared.parts.Parts.{Parts}
use Rattle.plan_places.specs.declared.place.PlaceState.TheVariants as known
use Rattle.plan_places.specs.Places.{has_turn_at, with_state}
use Rattle.controller_messages.specs.declared.plug_request.PlugRequest.{PlugRequest}
use Rattle.controller_messages.specs.declared.plug_request.PlugStep.{PlugStep}
use Rattle.controller_messages.specs.declared.plug_request.PlugStep.TheVariants.{Record, PrmEnd}
use Rattle.controller_messages.specs.declared.record_request.RecordRequest.{RecordRequest}
use Rattle.controller_messages.specs.declared.record_request.RecordService.{RecordService}
use Rattle.controller_messages.specs.declared.record_request.RecordService.TheVariants as service
use Rattle.controller_messages.specs.declared.setup.Setup.{Setup}
use Rattle.controller_messages.specs.declared.request.Request.{Request}
use Rattle.controller_messages.specs.declared.request.Request.TheVariants as asks
use Rattle.controller_messages.specs.Access.{Accessing, is_free, is_reply, record_in, unplugged}
use Rattle.controller_messages.specs.declared.refusal.Refusal.{Refusal}
use Rattle.controller_messages.specs.Heard.{Heard, Nothing, Responds, Refuses, Calls, Cyclic, Alarms, heard_of}
use Rattle.controller_messages.specs.Heard.{Answers as Comes_back}
use Rattle.rpc_core.specs.declared.header.CallHeader.{CallHeader}
use Rattle.controller_core.specs.declared.stored.event.Event.{Event}
use Rattle.controller_core.specs.declared.stored.event.Event.TheVariants as event
use Rattle.controller_core.specs.start_up.Answers.{is_call, is_held, is_tried}
use Rattle.controller_core.specs.start_up.Requests.{end_after}
use Rattle.controller_messages.specs.PlugRequests.{is_plug_answer, is_plug_ready, plug_answer, plug_ready_in}
use Rattle.controller_messages.specs.RecordRequests.{most_record_octets}
use Rattle.controller_messages.specs.Requests.{first_of, sequence_of, writing_after, writing_from}
use Rattle.controller_messages.specs.Sent.{Sent, Requests, Accesses, Parametrizes, Agrees}
use Rattle.controller_core.specs.declared.start_up.outcomes.Outcomes.{Outcomes}
use Rattle.controller_core.specs.declared.start_up.outcomes.Outcomes.TheVariants.{AllWritten, Unreadable}
use Rattle.controller_core.specs.declared.start_up.outcomes.Outcomes.TheVariants.{Refused as Denied}
use Rattle.controller_core.specs.declared.stored.state.Cause.{Cause}
use Rattle.controller_core.specs.declared.stored.state.Cause.TheVariants as why
use Rattle.controller_core.specs.declared.stored.state.State.{State}
use Rattle.controller_core.specs.declared.stored.state.State.TheVariants.{Looking, Addressing, Connecting, Writing, Ending, Waiting, Exchanging, Ended}
use Rattle.controller_core.specs.start_up.Answers.{is_addressed, is_answer, is_found, is_ready, is_right, is_set_answer, ready_in}
use Rattle.controller_core.specs.start_up.Outcomes.{outcomes_of}
use Rattle.controller_core.specs.stored.Alarms.{ack_of, is_alarm, kept_alarm}
use Rattle.controller_core.specs.stored.State.{Live}
use Rattle.controller_core.specs.Machine.{Turn, accesses_by, accesses_of, accessing, acked_under, brings, failed, granted, pending_by, plug_asked}
use Rattle.controller_core.specs.Machine.{request_for, acking, acks_in, acks_of, after_turn, after_write, alarmed, answered, asking, asks_next}
use Rattle.controller_core.specs.Machine.{behind_data, beside, brought, called, can_begin, can_request, come, connected, decided, done, due_frames}
use Rattle.controller_core.specs.Machine.{end_of, exchange_later, flowed, gone_on, is_again, is_end_by, is_end_of, is_exchanging, is_plug_awaited}
use Rattle.controller_core.specs.Machine.{is_spent, keeping, later, noted, noticed, outputs_of, over, past_record, pending_of, placed, plug_called}
use Rattle.controller_core.specs.Machine.{plug_finished, plug_passed_by, plug_readied, plug_refused, plug_replied, plugs_by, plugs_of, quit, readied}
use Rattle.controller_core.specs.Machine.{refused_end, refused_place, refused_write, related_by, released, replied, replied_by, requested, requests_of, responded, standing}
use Rattle.controller_core.specs.Machine.{stays, step_from, taken, ticked, turn_due, turn_of, turned, undone, where_due, with_end}
use Rattle.network_world.specs.World.{is_ended}
use Rattle.end_laws.specs.both.Small.{Reply, ToController, Answers, reply_of}
use Rattle.end_laws.specs.both.Small.{Nothing as Nothing_said}
use Rattle.end_laws.specs.controller.Small.{IsInStep, IsSteady, MayWait, said_in, said_to}
use Rattle.end_laws.specs.turns.Beside.{IsBegun, MayBegin, MayFollow}

-- ---- the call that a controller makes

-- It is the request of the start-up that waits, or the one after a plug, or that of the application.
abbrev pub present_by : Mac → Option Request → Option PlugRequest → List ℕ → Option RecordRequest → Option Sent
present_by device (Some request) plug octets waiting = Some (Requests device request)
present_by device None (Some request) octets waiting = Some (Parametrizes device request)
present_by device None None octets (Some request) = Some (Accesses device request octets)
present_by device None None octets None = None

abbrev pub present_of : Live → Option Sent
present_of live = present_by live.device live.asked live.access.plug live.access.octets live.access.waiting

-- the number of its call
abbrev pub number_in : Parts → Sent → ℕ
number_in plan (Requests device request) = sequence_of plan request
number_in plan (Accesses device request octets) = request.sequence
number_in plan (Parametrizes device request) = request.sequence
number_in plan message = 0

-- a request by DCP, or the end of parameters
abbrev pub IsUncounted : Sent → Type 0
IsUncounted (Requests device asks.Identify) = Unit {0}
IsUncounted (Requests device asks.Address) = Unit {0}
IsUncounted (Requests device asks.PrmEnd) = Unit {0}
IsUncounted (Requests device (asks.PrmEndAfter tries)) = Unit {0}
IsUncounted (Parametrizes device request) = request.step ≡ PrmEnd
IsUncounted message = ⊥

-- no request
abbrev pub IsPlain : Sent → Type 0
IsPlain (Requests device request) = ⊥
IsPlain (Accesses device request octets) = ⊥
IsPlain (Parametrizes device request) = ⊥
IsPlain message = Unit {0}

-- what is heard answers it
pub record IsAnswered (plan : Parts) (heard : ToController) (message : Sent) : Type 0 where
  pub reply : Reply
  pub is : heard ≡ Answers (number_in plan message) reply

-- none waits, or the one that waits needs no answer, or is answered
abbrev pub IsOver : Parts → ToController → Option Sent → Type 0
IsOver plan heard None = Unit {0}
IsOver plan heard (Some message) = IsUncounted message ⊎ IsAnswered plan heard message

-- a message that is sent is the call that waits then, or no request
abbrev pub IsAsked : Live → Sent → Type 0
IsAsked after message = (present_of after ≡ Some message) ⊎ IsPlain message

-- this is true of the call that waits
abbrev pub Waits : (Sent → Type 0) → Live → Type 0
Waits Said live = (message : Sent) → present_of live ≡ Some message → Said message

-- the call is the same, or is over; and what is sent is the call
abbrev pub Goes : Parts → ToController → Live → Turn → Type 0
Goes plan heard live turn =
    ((present_of turn.live ≡ present_of live) ⊎ IsOver plan heard (present_of live)) × AllByRecursion (IsAsked turn.live) turn.sent

-- The controller has ended after a turn; or the call is the same, or is over; and what is sent is the call.
pub record Turns (plan : Parts) (heard : ToController) (live : Live) (turn : Turn) : Type 0 where
  pub so : (is_ended turn.live.phase ≡ true) ⊎ Goes plan heard live turn

-- of the requests beside the exchange at most one waits
abbrev pub IsAlone : Live → Type 0
IsAlone live = (live.access.plug ≡ None) ⊎ (live.access.waiting ≡ None)

-- the controller hears no reject and no fault with an event
abbrev pub IsUnrefused : Setup → Event → Type 0
IsUnrefused setup (event.Frame bytes) = (refusal : Refusal) → heard_of setup.plan.controller bytes.items ≡ Refuses refusal → ⊥
IsUnrefused setup one = Unit {0}

-- ---- a call of each kind waits

pub requested_is : (l : Live) (request : Request) → l.asked ≡ Some request → present_of l ≡ Some (Requests l.device request)
requested_is l request e = ap (λ (asked : Option Request). present_by l.device asked l.access.plug l.access.octets l.access.waiting) e

pub plugged_is : (l : Live) (request : PlugRequest) → l.asked ≡ None → l.access.plug ≡ Some request → present_of l ≡ Some (Parametrizes l.device request)
plugged_is l request none e =
    ap (λ (asked : Option Request). present_by l.device asked l.access.plug l.access.octets l.access.waiting) none
    ∙ ap (λ (plug : Option PlugRequest). present_by l.device None plug l.access.octets l.access.waiting) e

pub waiting_is : (l : Live) (request : RecordRequest) → l.asked ≡ None → l.access.plug ≡ None → l.access.waiting ≡ Some request
    → present_of l ≡ Some (Accesses l.device request l.access.octets)
waiting_is l request none unplugged_now e =
    ap (λ (asked : Option Request). present_by l.device asked l.access.plug l.access.octets l.access.waiting) none
    ∙ (ap (λ (plug : Option PlugRequest). present_by l.device None plug l.access.octets l.access.waiting) unplugged_now
    ∙ ap (λ (waiting : Option RecordRequest). present_by l.device None None l.access.octets waiting) e)

none_is : (l : Live) → l.asked ≡ None → l.access.plug ≡ None → l.access.waiting ≡ None → present_of l ≡ None
none_is l none unplugged_now e =
    ap (λ (asked : Option Request). present_by l.device asked l.access.plug l.access.octets l.access.waiting) none
    ∙ (ap (λ (plug : Option PlugRequest). present_by l.device None plug l.access.octets l.access.waiting) unplugged_now
    ∙ ap (λ (waiting : Option RecordRequest). present_by l.device None None l.access.octets waiting) e)

-- the request after a plug, as it is sent
plugs_asked : (after : Live) → after.asked ≡ None → AllByRecursion (IsAsked after) (plugs_of after)
plugs_asked after none = by_plug after.access.plug refl
  where
    by_plug : (plug : Option PlugRequest) → after.access.plug ≡ plug → AllByRecursion (IsAsked after) (plugs_by after.device plug)
    by_plug None e = tt
    by_plug (Some request) e = (inl (plugged_is after request none e), tt)

pub none_some : {A : Type 0} (x : A) → None ≡ Some x → ⊥
none_some x e = absurd cc

pub some_same : {A : Type 0} (x y : A) → Some x ≡ Some y → x ≡ y
some_same x y e = cc

pub false_true : false ≡ true → ⊥
false_true e = absurd cc

all_if : (P : Sent → Type 0) (b : Bool) (sent : List Sent) → AllByRecursion P sent → AllByRecursion P (where_due b sent)
all_if P true sent all = all
all_if P false sent all = tt

all_more : (P : Sent → Type 0) (one other : List Sent) → AllByRecursion P one → AllByRecursion P other → AllByRecursion P (one ++ other)
all_more P [] other first second = second
all_more P (message ∷ one) other first second = (first.0, all_more P one other first.1 second)

all_as : (P Q : Sent → Type 0) → ((message : Sent) → P message → Q message) → (sent : List Sent) → AllByRecursion P sent → AllByRecursion Q sent
all_as P Q to [] all = tt
all_as P Q to (message ∷ sent) all = (to message all.0, all_as P Q to sent all.1)

-- the one that waits is a call that is sent
said_is : (Said : Sent → Type 0) (after : Live) (message : Sent) → present_of after ≡ Some message → Said message → Waits Said after
said_is Said after message is said other e = subst Said (some_same message other (sym is ∙ e)) said

-- what is true of each message that is sent is true of the one that waits, or no request is sent
pub sent_waits : (Said : Sent → Type 0) (after : Live) (sent : List Sent) → AllByRecursion (IsAsked after) sent → AllByRecursion Said sent
    → AllByRecursion IsPlain sent ⊎ Waits Said after
sent_waits Said after [] asked all = inl tt
sent_waits Said after (message ∷ sent) asked all = by_first asked.0 (sent_waits Said after sent asked.1 all.1)
  where
    by_first : IsAsked after message → AllByRecursion IsPlain sent ⊎ Waits Said after → AllByRecursion IsPlain (message ∷ sent) ⊎ Waits Said after
    by_first (inl is) rest = inr (said_is Said after message is all.0)
    by_first (inr plain) (inl rest) = inl (plain, rest)
    by_first (inr plain) (inr waits) = inr waits

-- what is true of the one that waited is true of the same one
pub same_waits : (Said : Sent → Type 0) (live after : Live) → present_of after ≡ present_of live → Waits Said live → Waits Said after
same_waits Said live after same was message e = was message (sym same ∙ e)

-- ---- the parts of the machine

module _ (setup : Setup) (heard : ToController) (live : Live) (steady : IsSteady setup.plan live) (alone : IsAlone live) where
  abbrev Does : Turn → Type 0
  Does turn = Turns setup.plan heard live turn

  abbrev Over : Type 0
  Over = IsOver setup.plan heard (present_of live)

  either : (is : Bool) {x y : Turn} → Does x → Does y → Does (if is then x else y)
  either true one other = one
  either false one other = other

  keeps : (after : Live) → present_of after ≡ present_of live → Does (stays after)
  keeps after same = record { so = inr (inl same, tt) }

  rests : Does (stays live)
  rests = keeps live refl

  rests_over : Over → (after : Live) → Does (stays after)
  rests_over is after = record { so = inr (inr is, tt) }

  ends : (cause : Cause) (next : Live) (sent : List Sent) → Does (record { live = over cause next; sent = sent })
  ends cause next sent = record { so = inl refl }

  releases : (cause : Cause) (next : Live) → Does (released setup cause next)
  releases cause next = record { so = inl refl }

  asks_for : Over → (phase : State) (request : Request) (next : Live) → Does (asking setup phase request next)
  asks_for is phase request next = record { so = inr (inr is, (inl refl, tt)) }

  quits : (cause : Cause) (next : Live) (phase : State) → present_of next ≡ present_of live → Does (quit setup cause next phase)
  quits cause next Looking same = ends cause next []
  quits cause next Addressing same = ends cause next []
  quits cause next (Ended before) same = keeps next same
  quits cause next Connecting same = releases cause next
  quits cause next Writing same = releases cause next
  quits cause next Ending same = releases cause next
  quits cause next Waiting same = releases cause next
  quits cause next Exchanging same = releases cause next

  -- what waits in each state
  in_phase : (phase : State) → live.phase ≡ phase → IsInStep setup.plan phase live.asked
  in_phase phase e = subst (λ (p : State). IsInStep setup.plan p live.asked) e steady.asked

  beside_in : (phase : State) → live.phase ≡ phase → MayWait phase live.access.plug × MayWait phase live.access.waiting
  beside_in phase e = (subst (λ (p : State). MayWait p live.access.plug) e steady.plug, subst (λ (p : State). MayWait p live.access.waiting) e steady.waiting)

  -- ---- responses, one that answers the call that waits

  -- neither a request of the start-up waits nor one of the application
  abbrev Quiet : Live → Type 0
  Quiet next = (next.asked ≡ None) × (next.access.waiting ≡ None)

  module _ (is : Over) where
    related_turns : (blocks : List ℕ) (found : Option Chosen) → Does (related_by setup (placed setup blocks live) found)
    related_turns blocks (Some chosen) = asks_for is _ _ (standing setup (placed setup blocks live) chosen)
    related_turns blocks None = keeps (placed setup blocks live) refl

    connected_turns : (blocks : List ℕ) (found : Option Found) → Does (connected setup live blocks found)
    connected_turns blocks (Some found) = either (is_whole found) (either found.differs (releases why.ModuleDiff live)
        (related_turns blocks (chosen_of found))) rests
    connected_turns blocks None = rests

    passed_turns : (next : Request) (refused_number : ℕ) (status : Code) → Does (past_record setup next (noted status refused_number live))
    passed_turns next refused_number status =
        either setup.plan.continue_on_refused_record (asks_for is _ _ (noted status refused_number live))
        (either setup.plan.release_on_refused_record (releases why.Refused (noted status refused_number live))
        (ends why.Refused (noted status refused_number live) []))

    outcomes_turn : (number : ℕ) (next : Request) (outcomes : Outcomes) → Does (after_write setup live number next outcomes)
    outcomes_turn number next AllWritten = asks_for is _ _ live
    outcomes_turn number next (Denied place status) = passed_turns next (first_of setup.plan number + place) status
    outcomes_turn number next Unreadable = rests

    done_turns : (blocks : List ℕ) (request : Request) → Does (done setup live blocks request)
    done_turns blocks asks.Identify = rests
    done_turns blocks asks.Address = rests
    done_turns blocks asks.Connect = connected_turns blocks (found_in 400 blocks nothing)
    done_turns blocks (asks.Write number) = outcomes_turn number (writing_from setup.plan (number + 1)) (outcomes_of setup.plan number blocks)
    done_turns blocks (asks.WriteAfter number tries) =
        outcomes_turn number (writing_after setup.plan (number + 1) tries) (outcomes_of setup.plan number blocks)
    done_turns blocks asks.PrmEnd = rests_over is _
    done_turns blocks (asks.PrmEndAfter tries) = rests_over is _
    done_turns blocks (asks.Release sequence) = rests_over is _

    -- a call that is refused as busy is over: its next try is another call
    refused_write_turns : (status : Code) (number tries : ℕ) (next : Request) → Does (refused_write setup live status number tries next)
    refused_write_turns status number tries next =
        either (is_tried setup.plan status tries) (rests_over is _) (passed_turns next (first_of setup.plan number) status)

    refused_end_turns : (status : Code) (tries : ℕ) → Does (refused_end setup live status tries)
    refused_end_turns status tries =
        either (is_tried setup.plan status tries) (rests_over is _) (ends why.Refused (record live { refusal = Some status }) [])

    undone_turns : (status : Code) (request : Request) → Does (undone setup live status request)
    undone_turns status (asks.Write number) = refused_write_turns status number 0 (writing_from setup.plan (number + 1))
    undone_turns status (asks.WriteAfter number tries) = refused_write_turns status number tries (writing_after setup.plan (number + 1) tries)
    undone_turns status asks.PrmEnd = refused_end_turns status 0
    undone_turns status (asks.PrmEndAfter tries) = refused_end_turns status tries
    undone_turns status asks.Connect =
        let next : Live = record live { refusal = Some status } in either (is_held setup.plan status) (releases why.Refused next) (ends why.Refused next [])
    undone_turns status request = ends why.Refused (record live { refusal = Some status }) []

    decided_turns : (response : Response) (request : Request) → Does (decided setup live response request)
    decided_turns response (asks.Release sequence) = rests_over is _
    decided_turns response request = either (is_done response.status) (done_turns response.blocks request) (undone_turns response.status request)

    -- the request after a plug is answered
    refused_quiet : (request : PlugRequest) (next : Live) → Quiet next → Quiet (refused_place request next)
    refused_quiet request next quiet = by_test (has_turn_at request.slot request.subslot next.places)
      where
        by_test : (b : Bool) → Quiet (if b then record next { places = with_state request.slot request.subslot known.Refused next.places } else next)
        by_test true = quiet
        by_test false = quiet

    passed_quiet : (request : PlugRequest) (next : Live) → Quiet next → (step : PlugStep) → Quiet (plug_passed_by setup next request step)
    passed_quiet request next quiet PrmEnd = quiet
    passed_quiet request next quiet (Record number) = by_test (has_turn_at request.slot request.subslot next.places)
      where
        by_test : (b : Bool) → Quiet (if b then plug_asked setup request.slot request.subslot request.number
            (step_from setup.plan request.slot request.subslot (number + 1)) next else next)
        by_test true = quiet
        by_test false = quiet

    quiet_if : (b : Bool) (x y : Live) → Quiet x → Quiet y → Quiet (if b then x else y)
    quiet_if true x y one other = one
    quiet_if false x y one other = other

    refused_step : (status : Code) (request : PlugRequest) (next : Live) → Quiet next → (step : PlugStep) → Quiet (plug_refused setup next status request step)
    refused_step status request next quiet (Record number) =
        quiet_if setup.plan.continue_on_refused_record _ _ (passed_quiet request (noted status number next) quiet request.step)
        (refused_quiet request (noted status number next) quiet)
    refused_step status request next quiet PrmEnd = refused_quiet request (record next { refusal = Some status }) quiet

    replied_quiet : (status : Code) (request : PlugRequest) → Quiet live → Quiet (plug_replied setup live status request)
    replied_quiet status request quiet =
        quiet_if (is_done status) _ _ (passed_quiet request (plug_finished live) quiet request.step)
        (refused_step status request (plug_finished live) quiet request.step)

    plug_answered : (status : Code) (request : PlugRequest) → Quiet live → Does (asks_next (plug_replied setup live status request))
    plug_answered status request quiet =
        record { so = inr (inr is, plugs_asked (plug_replied setup live status request) (replied_quiet status request quiet).0) }

    -- the request of the application is answered
    brings_turns : (request : RecordRequest) (octets : Option (List ℕ)) → Does (stays (brings request octets live))
    brings_turns request (Some octets) = rests_over is _
    brings_turns request None = rests

    granted_turns : (request : RecordRequest) (blocks : List ℕ) (kind : RecordService) → Does (stays (granted request blocks kind live))
    granted_turns request blocks service.Read = brings_turns request (record_in (block_of blocks))
    granted_turns request blocks service.Write = rests_over is _

    replied_turns : (response : Response) (request : RecordRequest) → Does (stays (replied_by live response request))
    replied_turns response request = by_test (is_done response.status)
      where
        by_test : (b : Bool) → Does (stays (if b then granted request response.blocks request.service live else failed response.status request live))
        by_test true = granted_turns request response.blocks request.service
        by_test false = rests_over is _

  -- ---- a turn of a place may begin after another one

  module _ (follows : (could : Bool) (turn : Turn) → MayFollow setup turn (after_turn setup could turn)) where
    followed : (could : Bool) (turn : Turn) → IsSteady setup.plan (after_turn setup could turn).live → Does turn → Does (after_turn setup could turn)
    followed could turn steady does = by_follow (follows could turn)
      where
        after : Turn
        after = after_turn setup could turn

        begins : (begun : IsBegun setup turn.live after.live) → after.sent ≡ turn.sent ++ Parametrizes turn.live.device begun.request ∷ [] → Does after
        begins begun sent_is = record { so = by_so does.so }
          where
            asked_before : after.live.asked ≡ turn.live.asked
            asked_before = ap (λ (l : Live). l.asked) begun.beside

            phase_after : after.live.phase ≡ Exchanging
            phase_after = ap (λ (l : Live). l.phase) begun.beside ∙ begun.phase

            none_after : after.live.asked ≡ None
            none_after = subst (λ (phase : State). IsInStep setup.plan phase after.live.asked) phase_after steady.asked

            none_before : present_of turn.live ≡ None
            none_before = none_is turn.live (sym asked_before ∙ none_after) begun.plug begun.waiting

            now : present_of after.live ≡ Some (Parametrizes turn.live.device begun.request)
            now =
                plugged_is after.live begun.request none_after (ap (λ (a : Accessing). a.plug) begun.access)
                ∙ ap (λ (device : Mac). Some (Parametrizes device begun.request)) (ap (λ (l : Live). l.device) begun.beside)

            plain : (message : Sent) → IsAsked turn.live message → IsAsked after.live message
            plain message (inl is) = absurd (none_some message (sym none_before ∙ is))
            plain message (inr is) = inr is

            sent_all : AllByRecursion (IsAsked turn.live) turn.sent → AllByRecursion (IsAsked after.live) after.sent
            sent_all all =
                subst (λ (sent : List Sent). AllByRecursion (IsAsked after.live) sent) (sym sent_is)
                (all_more (IsAsked after.live) turn.sent (Parametrizes turn.live.device begun.request ∷ [])
                (all_as (IsAsked turn.live) (IsAsked after.live) plain turn.sent all) (inl now, tt))

            over_now : (present_of turn.live ≡ present_of live) ⊎ Over → Over
            over_now (inl same) = subst (λ (message : Option Sent). IsOver setup.plan heard message) (sym none_before ∙ same) tt
            over_now (inr is) = is

            by_so : (is_ended turn.live.phase ≡ true) ⊎ Goes setup.plan heard live turn
                → (is_ended after.live.phase ≡ true) ⊎ Goes setup.plan heard live after
            by_so (inl ended) = absurd (false_true (ap (λ (phase : State). is_ended phase) (sym begun.phase) ∙ ended))
            by_so (inr goes) = inr (inr (over_now goes.0), sent_all goes.1)

        by_follow : MayFollow setup turn after → Does after
        by_follow (inl same) = subst (λ (t : Turn). Does t) (sym same) does
        by_follow (inr more) = begins more.begun more.sent

    -- ---- what is heard

    module _ (due_so : (is_due : Bool) (next : Live) → MayBegin setup next (turn_due setup is_due next)) where
      uncounted : (request : Request) → live.asked ≡ Some request → IsUncounted (Requests live.device request) → Over
      uncounted request e is = subst (λ (message : Option Sent). IsOver setup.plan heard message) (sym (requested_is live request e)) (inl is)

      end_uncounted : (tries : Option ℕ) → live.asked ≡ Some (end_after tries) → Over
      end_uncounted None e = uncounted asks.PrmEnd e tt
      end_uncounted (Some tries) e = uncounted (asks.PrmEndAfter tries) e tt

      none_over : present_of live ≡ None → Over
      none_over e = subst (λ (message : Option Sent). IsOver setup.plan heard message) (sym e) tt

      answered_turns : (source : Mac) (answer : Answered) (phase : State) → live.phase ≡ phase → Does (answered setup live source answer phase)
      answered_turns source answer Looking e =
          let is : Over = uncounted asks.Identify (in_phase Looking e) tt in
          either (is_found setup.plan answer)
          (either (is_right setup.plan answer) (either (is_addressed setup.plan answer) (asks_for is _ _ (record live { device = source }))
          (asks_for is _ _ (record live { device = source })))
          (ends why.WrongDevice live []))
          rests
      answered_turns source answer Addressing e =
          let is : Over = uncounted asks.Address (in_phase Addressing e) tt in
          either (is_set_answer answer) (either (is_agreed answer) (asks_for is _ _ live) (ends why.Refused live [])) rests
      answered_turns source answer phase e = rests

      readied_turns : (caller : Caller) (call : Call) (block : ControlBlock) (phase : State) → live.phase ≡ phase → Does (readied live caller call block phase)
      readied_turns caller call block Ending e =
          record { so = inr (inr (end_uncounted (in_phase Ending e).0 (in_phase Ending e).1), (inr tt, tt)) }
      readied_turns caller call block Waiting e = record {
        so = inr (inr (none_over (none_is live (in_phase Waiting e) (beside_in Waiting e).0 (beside_in Waiting e).1)), (inr tt, tt));
      }
      readied_turns caller call block Exchanging e = record { so = inr (inl refl, (inr tt, tt)) }
      readied_turns caller call block phase e = rests

      -- the place is ready, and the end of its parameters needs no answer
      end_step : (number : ℕ) (request : PlugRequest) (step : PlugStep) → is_end_by number request step ≡ true → step ≡ PrmEnd
      end_step number request PrmEnd e = refl
      end_step number request (Record record_number) e = absurd (false_true e)

      waiting_free : (request : PlugRequest) → live.access.plug ≡ Some request → IsAlone live → live.access.waiting ≡ None
      waiting_free request e (inl unplug) = absurd (none_some request (sym unplug ∙ e))
      waiting_free request e (inr free) = free

      ready_plug : (number : ℕ) → live.asked ≡ None → (plug : Option PlugRequest) → live.access.plug ≡ plug → is_end_of number plug ≡ true
          → Over × (live.access.waiting ≡ None)
      ready_plug number none None e is = absurd (false_true is)
      ready_plug number none (Some request) e is = (
        subst (λ (message : Option Sent). IsOver setup.plan heard message) (sym (plugged_is live request none e))
            (inl (end_step number request request.step is)),
        waiting_free request e alone,
      )

      ready_place : (number : ℕ) → (present_of (plug_readied live number) ≡ present_of live) ⊎ (Over × (present_of (plug_readied live number) ≡ None))
      ready_place number = by_asked live.asked refl (is_end_of number live.access.plug) refl
        where
          by_asked : (asked : Option Request) → live.asked ≡ asked → (b : Bool) → is_end_of number live.access.plug ≡ b
              → (present_of (plug_readied live number) ≡ present_of live) ⊎ (Over × (present_of (plug_readied live number) ≡ None))
          by_asked (Some request) e b f = inl (requested_is (plug_readied live number) request e ∙ sym (requested_is live request e))
          by_asked None e true f =
              let found = ready_plug number e live.access.plug refl f in
              inr (
                found.0,
                none_is (plug_readied live number) e (ap (λ (b : Bool). (if b then unplugged live.access else live.access).plug) f)
                    (ap (λ (b : Bool). (if b then unplugged live.access else live.access).waiting) f ∙ found.1),
              )
          by_asked None e false f =
              inl (ap (λ (b : Bool). present_by live.device live.asked (if b then unplugged live.access else live.access).plug
              (if b then unplugged live.access else live.access).octets
              (if b then unplugged live.access else live.access).waiting) f)

      plug_turns : (caller : Caller) (call : Call) (block : Option PlugControlBlock) → Does (plug_called setup live caller call block)
      plug_turns caller call (Some block) =
          either (is_plug_ready setup block && is_plug_awaited live block.alarm_sequence_number)
          (record { so = inr (by_place (ready_place block.alarm_sequence_number)) }) rests
        where
          by_place : (present_of (plug_readied live block.alarm_sequence_number) ≡ present_of live)
              ⊎ (Over × (present_of (plug_readied live block.alarm_sequence_number) ≡ None))
              → Goes setup.plan heard live (record {
                live = plug_readied live block.alarm_sequence_number;
                sent = Agrees caller
                    (plug_answer call block) ∷ [];
              })
          by_place (inl same) = (inl same, (inr tt, tt))
          by_place (inr over_now) = (inr over_now.0, (inr tt, tt))
      plug_turns caller call None = rests

      -- alarms
      end_same : (before : Live) (priority : Priority) (end : ControllerEnd) → present_of (with_end before priority end) ≡ present_of before
      end_same before High end = refl
      end_same before Low end = refl

      kept_same : (before : Live) (priority : Priority) (alarm : AlarmNotification) (structure : Option ℕ)
          → present_of (keeping before priority alarm structure) ≡ present_of before
      kept_same before High alarm structure = refl
      kept_same before Low alarm structure = refl

      taken_turns : (before : Live) → present_of before ≡ present_of live → (report : Report) (as_what : Taken) → Does (taken before report as_what)
      taken_turns before same report New =
          let after = (taken before report New).live in
          let now : present_of after ≡ present_of live =
          kept_same (acking before report.priority (ack_of report.notification)) report.priority (kept_alarm report.notification) report.user_structure
          ∙ (end_same before report.priority _ ∙ same) in
          record { so = inr (inl now, (inr tt, (inr tt, tt))) }
      taken_turns before same report Again = record { so = inr (inl same, (inr tt, tt)) }
      taken_turns before same report Refused = record { so = inr (inl same, (inr tt, tt)) }

      noticed_turns : (under : Priority) (reported : AlarmReported) → Does (noticed live under reported)
      noticed_turns under (notice.Data number report) =
          taken_turns (behind_data live report.priority number) (end_same live report.priority _) report (taken_as (end_of live report.priority).seen number)
      noticed_turns under (notice.Ack number) = keeps _ (end_same live (acked_under live under) _)
      noticed_turns under notice.Nack = rests
      noticed_turns under (notice.Abort status) = ends why.Aborted live []

      alarmed_turns : (source : Mac) (under : Priority) (header : Header) (reported : AlarmReported) → Does (alarmed live source under header reported)
      alarmed_turns source under header reported = either (live.stands && is_alarm live.cyclic.route source header) (noticed_turns under reported) rests

      come_same : (source : Mac) (frame_id : ℕ) (body : List ℕ) → present_of (come live source frame_id body) ≡ present_of live
      come_same source frame_id body = by_test live.stands
        where
          by_test : (b : Bool) → present_of (if b then record live { cyclic = behind_frame live.cyclic source frame_id body } else live) ≡ present_of live
          by_test true = refl
          by_test false = refl

      called_turns : (caller : Caller) (call : Call) (block : Option ControlBlock) → IsSteady setup.plan (called setup live caller call block).live
          → Does (called setup live caller call block)
      called_turns caller call (Some block) after = either (is_ready setup block) (readied_turns caller call block live.phase refl) rests
      called_turns caller call None after = followed (can_begin live) (plug_called setup live caller call (plug_ready_in call)) after
          (plug_turns caller call (plug_ready_in call))

      -- ---- units

      acks_plain : (after : Live) (priority : Priority) (confirming : Option AlarmAck) → AllByRecursion (IsAsked after) (acks_in after priority confirming)
      acks_plain after priority (Some ack) = (inr tt, tt)
      acks_plain after priority None = tt

      -- what is true of the call that waits is true of what is pending, and the other way round
      pending_so : (P : Sent → Type 0) (after : Live) → Waits P after → AllByRecursion P (pending_of after)
      pending_so P after waits = by_asked after.asked refl
        where
          by_waiting : (waiting : Option RecordRequest) → after.asked ≡ None → after.access.plug ≡ None → after.access.waiting ≡ waiting
              → AllByRecursion P (accesses_by after.device after.access.octets waiting)
          by_waiting None none unplug e = tt
          by_waiting (Some request) none unplug e = (waits _ (waiting_is after request none unplug e), tt)

          by_plug : (plug : Option PlugRequest) → after.asked ≡ None → after.access.plug ≡ plug
              → AllByRecursion P (if is_some plug then plugs_by after.device plug else accesses_of after)
          by_plug None none e = by_waiting after.access.waiting none e refl
          by_plug (Some request) none e = (waits _ (plugged_is after request none e), tt)

          by_asked : (asked : Option Request) → after.asked ≡ asked → AllByRecursion P (pending_by after asked)
          by_asked (Some request) e = (waits _ (requested_is after request e), tt)
          by_asked None e = by_plug after.access.plug e refl

      pending_asked : (after : Live) → AllByRecursion (IsAsked after) (pending_of after)
      pending_asked after = pending_so (IsAsked after) after (λ message e. inl e)

      requests_asked : (after : Live) (asked : Option Request) → after.asked ≡ asked → AllByRecursion (IsAsked after) (requests_of after.device asked)
      requests_asked after (Some request) e = (inl (requested_is after request e), tt)
      requests_asked after None e = tt

      due_asked : (after : Live) (is_high is_low is_request is_cyclic : Bool)
          → AllByRecursion (IsAsked after) (due_frames after is_high is_low is_request is_cyclic)
      due_asked after is_high is_low is_request is_cyclic =
          let P = IsAsked after in
          all_more P _ _ (all_if P is_high (acks_of after High) (acks_plain after High (end_of after High).confirming))
          (all_more P _ _ (all_if P is_low (acks_of after Low) (acks_plain after Low (end_of after Low).confirming))
          (all_more P _ _ (all_if P is_request (pending_of after) (pending_asked after)) (all_if P is_cyclic (outputs_of after) (inr tt, tt))))

      -- the unit, after which a turn of a place has begun, or not
      module _ (next : Live) where
        abbrev flow_turn : Bool → Bool → Option Abort → Turn
        flow_turn again b ending =
            if b then flowed (exchange_later next) (due next.alarms.sending) (due next.low_alarms.sending) again (brought next) ending
            else record { live = next; sent = where_due again (requests_of next.device next.asked) }

        kept_unit : (again b : Bool) (ending : Option Abort) → present_of next ≡ present_of live → Does (flow_turn again b ending)
        kept_unit again true (Some reason) same = record { so = inl refl }
        kept_unit again true None same = record { so = inr (inl same, due_asked (exchange_later next) _ _ _ _) }
        kept_unit again false ending same = record { so = inr (inl same, all_if (IsAsked next) again _ (requests_asked next next.asked refl)) }

        begun_unit : (b : Bool) (ending : Option Abort) → next.stands ≡ b → IsSteady setup.plan (flow_turn true b ending).live
            → IsBegun setup (later live) next → Does (flow_turn true b ending)
        begun_unit true (Some reason) stands steady_after begun = record { so = inl refl }
        begun_unit true None stands steady_after begun = record {
          so = inr (
            inr (none_over (none_is live none begun.plug begun.waiting)),
            due_asked (exchange_later next) (is_repeated (due next.alarms.sending)) (is_repeated (due next.low_alarms.sending)) true (brought next).is_cyclic,
          );
        }
          where
            phase_after : next.phase ≡ Exchanging
            phase_after = ap (λ (l : Live). l.phase) begun.beside ∙ begun.phase

            none_after : next.asked ≡ None
            none_after = subst (λ (phase : State). IsInStep setup.plan phase next.asked) phase_after steady_after.asked

            none : live.asked ≡ None
            none = sym (ap (λ (l : Live). l.asked) begun.beside) ∙ none_after
        begun_unit false ending stands steady_after begun = absurd (false_true (sym stands ∙ (ap (λ (l : Live). l.stands) begun.beside ∙ begun.stands)))

        unit_turns : (again b : Bool) (ending : Option Abort) → next.stands ≡ b → MayBegin setup (later live) next → (again ≡ false → next ≡ later live)
            → IsSteady setup.plan (flow_turn again b ending).live → Does (flow_turn again b ending)
        unit_turns again b ending stands (inl same) rested after = kept_unit again b ending (ap (λ (l : Live). present_of l) same)
        unit_turns true b ending stands (inr begun) rested after = begun_unit b ending stands after begun
        unit_turns false b ending stands (inr begun) rested after = kept_unit false b ending (ap (λ (l : Live). present_of l) (rested refl))

      ticked_turns : IsSteady setup.plan (ticked setup live).live → Does (ticked setup live)
      ticked_turns after = by_test (is_spent live) after
        where
          next : Live
          next = turn_due setup (is_again live) (later live)

          by_test : (b : Bool) → IsSteady setup.plan (if b then quit setup why.NoProgress (later live) live.phase else gone_on next (is_again live)).live
              → Does (if b then quit setup why.NoProgress (later live) live.phase else gone_on next (is_again live))
          by_test true steady_after = quits why.NoProgress (later live) live.phase refl
          by_test false steady_after =
              unit_turns next (is_again live) next.stands (brought next).ending refl (due_so (is_again live) (later live))
              (λ e. ap (λ (b : Bool). turn_due setup b (later live)) e) steady_after

      -- ---- requests of the application

      free_none : {A B : Type 0} (one : Option A) (other : Option B) → (not (is_some one) && not (is_some other)) ≡ true → (one ≡ None) × (other ≡ None)
      free_none None None e = (refl, refl)
      free_none None (Some y) e = absurd (false_true e)
      free_none (Some x) other e = absurd (false_true e)

      both_of : (a b : Bool) → (a && b) ≡ true → (a ≡ true) × (b ≡ true)
      both_of true true e = (refl, refl)
      both_of true false e = absurd (false_true e)
      both_of false b e = absurd (false_true e)

      none_in : (phase : State) → live.phase ≡ phase → is_exchanging phase ≡ true → live.asked ≡ None
      none_in Exchanging e can = in_phase Exchanging e
      none_in Looking e can = absurd (false_true can)
      none_in Addressing e can = absurd (false_true can)
      none_in Connecting e can = absurd (false_true can)
      none_in Writing e can = absurd (false_true can)
      none_in Ending e can = absurd (false_true can)
      none_in Waiting e can = absurd (false_true can)
      none_in (Ended cause) e can = absurd (false_true can)

      requested_turns : (kind : RecordService) (slot subslot index : ℕ) (octets : List ℕ) → Does (requested setup live kind slot subslot index octets)
      requested_turns kind slot subslot index octets = by_test (can_request live) refl
        where
          request : RecordRequest
          request = request_for setup live kind slot subslot index

          by_test : (b : Bool) → can_request live ≡ b → Does (if b then accessing request octets live else stays live)
          by_test false e = rests
          by_test true e =
              let parts = both_of (is_exchanging live.phase) (is_free live.access) e in
              let none = none_in live.phase refl parts.0 in
              let free = free_none live.access.waiting live.access.plug parts.1 in
              let now : present_of (accessing request octets live).live ≡ Some (Accesses live.device request octets) =
              waiting_is (accessing request octets live).live request none free.1 refl in
              record { so = inr (inr (none_over (none_is live none free.1 free.0)), (inl now, tt)) }

      -- ---- any event

      -- a response with this activity and this number answers the call that waits
      answers_it : (message : Sent) (response : Response) → heard ≡ said_to setup (Responds response) → present_of live ≡ Some message
          → pointwise nat_eq response.header.activity setup.activity ≡ true → (response.header.sequence == number_in setup.plan message) ≡ true → Over
      answers_it message response heard_is waits own same =
          subst (λ (m : Option Sent). IsOver setup.plan heard m) (sym waits) (inr (record {
            reply = reply_of response;
            is = heard_is ∙ (ap (λ (b : Bool). if b then Answers response.header.sequence (reply_of response) else Nothing_said) own
                ∙ ap (λ (number : ℕ). Answers number (reply_of response)) (eqb-true _ _ same));
          }))

      answer_parts : (request : Request) (header : CallHeader) → is_answer setup request header ≡ true
          → (pointwise nat_eq header.activity setup.activity ≡ true) × ((header.sequence == sequence_of setup.plan request) ≡ true)
      answer_parts request header e =
          both_of (pointwise nat_eq header.activity setup.activity) (header.sequence == sequence_of setup.plan request)
          (both_of (is_call request) (pointwise nat_eq header.activity setup.activity && header.sequence == sequence_of setup.plan request) e).1

      beside_all : (response : Response) → heard ≡ said_to setup (Responds response) → live.asked ≡ None → (plug : Option PlugRequest)
          → live.access.plug ≡ plug → Does (beside setup live response plug)
      beside_all response heard_is none (Some request) e = by_test (is_plug_answer setup request response.header.activity response.header.sequence) refl
        where
          by_test : (b : Bool) → is_plug_answer setup request response.header.activity response.header.sequence ≡ b
              → Does (if b then asks_next (plug_replied setup live response.status request) else stays live)
          by_test false f = rests
          by_test true f =
              let parts = both_of (pointwise nat_eq response.header.activity setup.activity) (response.header.sequence == request.sequence) f in
              plug_answered (answers_it (Parametrizes live.device request) response heard_is (plugged_is live request none e) parts.0 parts.1)
              response.status request
              (none, waiting_free request e alone)
      beside_all response heard_is none None e = by_waiting live.access.waiting refl
        where
          by_waiting : (waiting : Option RecordRequest) → live.access.waiting ≡ waiting → Does (stays (replied setup live response waiting))
          by_waiting None f = rests
          by_waiting (Some request) f = by_test (is_reply setup request response.header) refl
            where
              by_test : (b : Bool) → is_reply setup request response.header ≡ b → Does (stays (if b then replied_by live response request else live))
              by_test false g = rests
              by_test true g =
                  let parts = both_of (pointwise nat_eq response.header.activity setup.activity) (response.header.sequence == request.sequence) g in
                  replied_turns (answers_it (Accesses live.device request live.access.octets) response heard_is
                  (waiting_is live request none e f) parts.0 parts.1) response request

      responded_all : (response : Response) → heard ≡ said_to setup (Responds response) → (asked : Option Request) → live.asked ≡ asked
          → Does (responded setup live response asked)
      responded_all response heard_is None e = beside_all response heard_is e live.access.plug refl
      responded_all response heard_is (Some request) e = by_test (is_answer setup request response.header) refl
        where
          by_test : (b : Bool) → is_answer setup request response.header ≡ b → Does (if b then decided setup live response request else stays live)
          by_test false f = rests
          by_test true f =
              let parts = answer_parts request response.header f in
              decided_turns (answers_it (Requests live.device request) response heard_is (requested_is live request e) parts.0 parts.1) response request

      heard_turns : (what : Heard) → heard ≡ said_to setup what → ((refusal : Refusal) → what ≡ Refuses refusal → ⊥)
          → IsSteady setup.plan (turned setup live what).live
          → Does (turned setup live what)
      heard_turns Nothing heard_is unrefused after = rests
      heard_turns (Comes_back source answer) heard_is unrefused after = answered_turns source answer live.phase refl
      heard_turns (Responds response) heard_is unrefused after =
          followed (can_begin live) (responded setup live response live.asked) after (responded_all response heard_is live.asked refl)
      heard_turns (Refuses refusal) heard_is unrefused after = absurd (unrefused refusal refl)
      heard_turns (Calls caller call) heard_is unrefused after = called_turns caller call (ready_in call) after
      heard_turns (Cyclic source frame_id body) heard_is unrefused after = keeps _ (come_same source frame_id body)
      heard_turns (Alarms source under header reported) heard_is unrefused after =
          followed (can_begin live) (alarmed live source under header reported) after (alarmed_turns source under header reported)

      pub event_turns : (one : Event) → heard ≡ said_in setup (heard_of setup.plan.controller) one → IsUnrefused setup one
          → IsSteady setup.plan (turn_of setup live one).live → Does (turn_of setup live one)
      event_turns (event.Frame bytes) heard_is unrefused after = heard_turns (heard_of setup.plan.controller bytes.items) heard_is unrefused after
      event_turns event.Tick heard_is unrefused after = ticked_turns after
      event_turns (event.Give slot subslot value) heard_is unrefused after = keeps _ refl
      event_turns (event.Status slot subslot is_good) heard_is unrefused after = keeps _ refl
      event_turns (event.Read slot subslot index) heard_is unrefused after = requested_turns service.Read slot subslot index []
      event_turns (event.Write slot subslot index octets) heard_is unrefused after =
          either (nat_lt most_record_octets (length octets.items)) rests (requested_turns service.Write slot subslot index octets.items)
      event_turns event.Stop heard_is unrefused after = quits why.Stopped live live.phase refl
