-- What a controller says of the places of its plan is what the alarms that it accepted report of them.
use Rattle.std.proofs.Common.{◌≡◌, ◌==◌, ◌&&◌, ◌||◌, ◌++◌, ◌+◌, ℕ, Bool, true, false, cond, not, List, [], ◌∷◌, length, map, Option, Some, None, refl, sym, ap, subst, ◌∙◌, append-nil, if◌then◌else◌}
use Rattle.std.specs.Prelude.{nat_lt}
use Rattle.std.proofs.lemmas.Bool.{and_parts, false≢true}
use Rattle.pn_values.specs.declared.mac.Mac.{Mac}
use Rattle.frame_codec.specs.declared.udp.Caller.{Caller}
use Rattle.dcp_core.specs.Answered.{is_agreed}
use Rattle.dcp_core.specs.Response.{Answered}
use Rattle.rpc_core.specs.Call.{Asked as Call}
use Rattle.rpc_core.specs.Response.{Answered as Response, is_done}
use Rattle.rpc_core.specs.declared.response.Status.{Status}
use Rattle.connect_blocks.specs.declared.control.ControlBlock.{ControlBlock}
use Rattle.connect_blocks.specs.declared.plug_control.PlugControlBlock.{PlugControlBlock}
use Rattle.record_blocks.specs.declared.alarm_notification.AlarmNotification.{AlarmNotification}
use Rattle.block_codec.specs.Block.{block_of}
use Rattle.pn_alarms.specs.declared.abort.Abort.{Abort}
use Rattle.pn_alarms.specs.declared.message.Notice.TheVariants as notice
use Rattle.pn_alarms.specs.declared.pdu.Header.{Header}
use Rattle.pn_alarms.specs.declared.receiver.Taken.{Taken}
use Rattle.pn_alarms.specs.declared.receiver.Taken.TheVariants.{New, Again, Refused as Unwanted}
use Rattle.pn_alarms.specs.Receiver.{taken_as}
use Rattle.pn_alarms.specs.Sending.{due}
use Rattle.diagnosis.specs.Line.{more_taken}
use Rattle.diagnosis.specs.declared.reports.priority.Priority.{Priority}
use Rattle.diagnosis.specs.declared.reports.priority.Priority.TheVariants.{High, Low}
use Rattle.diagnosis.specs.reports.Message.{ToController}
use Rattle.connects.specs.declared.answers.connect.Found.{Found}
use Rattle.connects.specs.answers.Connect.{Chosen, chosen_of, found_in, is_whole, nothing}
use Rattle.plans.specs.declared.parts.Parts.{Parts}
use Rattle.pn_values.specs.declared.real.RealModule.{RealModule}
use Rattle.pn_values.specs.declared.real.RealSubmodule.{RealSubmodule}
use Rattle.plan_places.specs.declared.place.PlaceState.TheVariants.{Differs, There, Refused as place_refused}
use Rattle.plan_places.specs.Listed.{is_listed_in}
use Rattle.plan_places.specs.declared.report.PlaceReport.{PlaceReport}
use Rattle.plan_places.specs.declared.report.Plug.{Plug}
use Rattle.plan_places.specs.Places.{first_place, first_state, Told, has_turn_at, next_waiting, places_of, told_by, with_state}
use Rattle.plan_places.specs.Reports.{place_report, report_by_type}
use Rattle.controller_messages.specs.declared.plug_request.PlugRequest.{PlugRequest}
use Rattle.controller_messages.specs.declared.plug_request.PlugStep.{PlugStep}
use Rattle.controller_messages.specs.declared.plug_request.PlugStep.TheVariants.{Record, PrmEnd}
use Rattle.controller_messages.specs.declared.record_request.RecordRequest.{RecordRequest}
use Rattle.controller_messages.specs.declared.record_request.RecordService.{RecordService}
use Rattle.controller_messages.specs.declared.record_request.RecordService.TheVariants as service
use Rattle.controller_messages.specs.declared.refusal.Refusal.{Refusal}
use Rattle.controller_messages.specs.declared.request.Request.{Request}
use Rattle.controller_messages.specs.declared.request.Request.TheVariants as asks
use Rattle.controller_messages.specs.declared.setup.Setup.{Setup}
use Rattle.cyclic_data.specs.exchange.Received.{behind_frame}
use Rattle.cyclic_data.specs.exchange.Units.{Brought}
use Rattle.pn_alarms.specs.declared.repeats.Due.{Due}
use Rattle.controller_messages.specs.Access.{is_rejected, is_reply, record_in}
use Rattle.controller_messages.specs.Heard.{Heard, Nothing, Answers, Responds, Refuses, Calls, Cyclic, Alarms}
use Rattle.controller_messages.specs.PlugRequests.{is_plug_answer, is_plug_ready, plug_answer, plug_ready_in}
use Rattle.controller_messages.specs.RecordRequests.{most_record_octets}
use Rattle.controller_messages.specs.Requests.{first_of, write_count, writing_from}
use Rattle.controller_messages.specs.Sent.{Agrees}
use Rattle.controller_core.specs.declared.start_up.outcomes.Outcomes.{Outcomes}
use Rattle.controller_core.specs.declared.start_up.outcomes.Outcomes.TheVariants.{AllWritten, Unreadable}
use Rattle.controller_core.specs.declared.start_up.outcomes.Outcomes.TheVariants.{Refused as Denied}
use Rattle.controller_core.specs.declared.stored.event.Event.{Event}
use Rattle.controller_core.specs.declared.stored.event.Event.TheVariants as event
use Rattle.controller_core.specs.declared.stored.state.Cause.{Cause}
use Rattle.controller_core.specs.declared.stored.state.Cause.TheVariants as cause
use Rattle.controller_core.specs.declared.stored.state.State.{State}
use Rattle.controller_core.specs.declared.stored.state.State.TheVariants.{Looking, Addressing, Connecting, Writing, Ending, Waiting, Exchanging, Ended}
use Rattle.controller_core.specs.start_up.Answers.{is_addressed, is_answer, is_found, is_held, is_ready, is_refused, is_right, is_set_answer, ready_in, is_tried}
use Rattle.controller_core.specs.start_up.Outcomes.{outcomes_of}
use Rattle.controller_core.specs.stored.Alarms.{is_alarm}
use Rattle.controller_core.specs.stored.Cause.{cause_of}
use Rattle.controller_core.specs.stored.State.{Live, phase_for}
use Rattle.controller_core.specs.Machine as machine
use Rattle.controller_core.specs.Machine.{Turn, accessing, addressed, after_turn, after_write, alarmed, answered, asking, asks_next, begun_by, begun_turn, beside, brings, brought, called, can_begin, can_request, come, connected, decided, denied, end_of, exchange_later, first as first_live, flowed, found, given, gone_on, granted, is_again, is_plug_awaited, is_spent, later, noted, noticed, over, past_record, placed, plug_asked, plug_called, plug_finished, plug_passed, plug_passed_by, plug_readied, plug_refused, plug_rejected, plug_replied, plug_responded, plugs_of, quit, rated, readied, refused, refused_beside, refused_by, refused_connect, refused_place, refused_record, rejected, related_by, released, replied, replied_by, request_for, requested, responded, state_of_step, standing, stays, step_from, taken, ticked, turn_due, turn_of, turned, writing, behind_ack, behind_data, acked_under, refused_end, refused_write, trying}
use Rattle.controller_core.specs.start_up.Requests.{behind_write}
use Rattle.end_laws.specs.turns.Alarms.{is_priority, report_as}
use Rattle.both_ends.specs.exchange.Over.{taken_by, taken_of}
use Rattle.both_ends.proofs.ExchangeLists.{each_behind, holds_if}
use Rattle.both_ends.proofs.ExchangeReported.{IsGood, IsOfPriority, IsOurs}
use Rattle.places_law.specs.Agreed.{is_in_plan}
use Rattle.places_law.proofs.PlacesAnswered.{TellsSo}
use Rattle.places_law.proofs.PlacesOctets.{Tells}
use Rattle.places_law.proofs.PlacesSeen.{AreAs, AreOf, IsAs, as_same, by_as, by_of, known_after, known_by, known_more, known_of, next_fine, opened_of, readied_as, readied_of, set_as, set_of, turn_fine}

-- ---- the invariant

-- No relation was established yet.
abbrev IsBefore : State → Type 0
IsBefore Looking = Unit {0}
IsBefore Addressing = Unit {0}
IsBefore Connecting = Unit {0}
IsBefore _ = ⊥

record IsUnbegun (live : Live) (alarms : List AlarmNotification) : Type 0 where
  none : alarms ≡ []
  down : live.stands ≡ false

-- While its relation is established, its places are those of the plan, each as these alarms report it, if one does, and else there; and
-- this holds, as the response to its Connect says.
pub record IsSeen (Clear : Type 0) (setup : Setup) (alarms : List AlarmNotification) (live : Live) : Type 0 where
  pub clear : Clear
  pub own : AreOf (is_in_plan setup.plan.real.modules.items) live.places.places
  pub are : AreAs (λ slot subslot. known_by alarms slot subslot None) live.places.places

pub record IsShown (Clear : Type 0) (setup : Setup) (alarms : List AlarmNotification) (live : Live) : Type 0 where
  asks : live.asked ≡ Some asks.Connect → IsBefore live.phase
  before : IsBefore live.phase → IsUnbegun live alarms
  pub sees : live.stands ≡ true → IsSeen Clear setup alarms live

address_asks : Some asks.Address ≡ Some asks.Connect → ⊥
address_asks e = absurd cc

release_asks : (sequence : ℕ) → Some (asks.Release sequence) ≡ Some asks.Connect → ⊥
release_asks sequence e = absurd cc

none_asks : ◌≡◌ {A = Option Request} None (Some asks.Connect) → ⊥
none_asks e = absurd cc

next_asks : (b : Bool) (number : ℕ) → Some (cond b (asks.Write number) asks.PrmEnd) ≡ Some asks.Connect → ⊥
next_asks true number e = absurd cc
next_asks false number e = absurd cc

next_phase : (b : Bool) (number : ℕ) → IsBefore (phase_for (cond b (asks.Write number) asks.PrmEnd)) → ⊥
next_phase true number b = b
next_phase false number b = b

after_asks : (b : Bool) (number tries : ℕ) → Some (cond b (asks.WriteAfter number tries) (asks.PrmEndAfter tries)) ≡ Some asks.Connect → ⊥
after_asks true number tries e = absurd cc
after_asks false number tries e = absurd cc

after_phase : (b : Bool) (number tries : ℕ) → IsBefore (phase_for (cond b (asks.WriteAfter number tries) (asks.PrmEndAfter tries))) → ⊥
after_phase true number tries b = b
after_phase false number tries b = b

behind_asks : (plan : Parts) (number : ℕ) (tries : Option ℕ) → Some (behind_write plan number tries) ≡ Some asks.Connect → ⊥
behind_asks plan number None e = next_asks (nat_lt (number + 1) (write_count plan)) (number + 1) e
behind_asks plan number (Some tries) e = after_asks (nat_lt (number + 1) (write_count plan)) (number + 1) tries e

behind_phase : (plan : Parts) (number : ℕ) (tries : Option ℕ) → IsBefore (phase_for (behind_write plan number tries)) → ⊥
behind_phase plan number None b = next_phase (nat_lt (number + 1) (write_count plan)) (number + 1) b
behind_phase plan number (Some tries) b = after_phase (nat_lt (number + 1) (write_count plan)) (number + 1) tries b

-- what holds of both branches, of the first one if the test holds
held_if : {A : Type 0} (P : A → Type 0) (b : Bool) (x y : A) → (b ≡ true → P x) → P y → P (cond b x y)
held_if P true x y one other = one refl
held_if P false x y one other = other

step_fine : (step : PlugStep) (number : ℕ) → known_of (state_of_step step number) ≡ Some false
step_fine (Record record_number) number = refl
step_fine PrmEnd number = refl

module _ (Clear : Type 0) (setup : Setup) (alarms : List AlarmNotification) where
  -- the places become others that are seen alike
  becomes : (live next : Live) → next.phase ≡ live.phase → next.asked ≡ live.asked → next.stands ≡ live.stands
      → ((has : ℕ → ℕ → Bool) → AreOf has live.places.places → AreOf has next.places.places)
      → ((has : ℕ → ℕ → Option Bool) → AreAs has live.places.places → AreAs has next.places.places) → IsShown Clear setup alarms live → IsShown Clear setup alarms next
  becomes live next phase asked stands own places is = record {
    asks = λ e. subst (λ (s : State). IsBefore s) (sym phase) (is.asks (sym asked ∙ e));
    before = λ b. let u = is.before (subst (λ (s : State). IsBefore s) phase b) in record { none = u.none; down = stands ∙ u.down };
    sees = λ up. let s = is.sees (sym stands ∙ up) in record { clear = s.clear; own = own (is_in_plan setup.plan.real.modules.items) s.own; are = places (λ slot subslot. known_by alarms slot subslot None) s.are };
  }

  same : (live next : Live) → next.phase ≡ live.phase → next.asked ≡ live.asked → next.stands ≡ live.stands → next.places ≡ live.places → IsShown Clear setup alarms live → IsShown Clear setup alarms next
  same live next phase asked stands places is =
      becomes live next phase asked stands (λ has all. subst (λ (told : Told). AreOf has told.places) (sym places) all) (λ has all. subst (λ (told : Told). AreAs has told.places) (sym places) all) is

  abbrev Shown : Turn → Type 0
  Shown turn = IsShown Clear setup alarms turn.live

  -- ---- the end

  over_shown : (why : Cause) (live : Live) → IsShown Clear setup alarms (over why live)
  over_shown why live = record { asks = λ e. absurd (none_asks e); before = λ b. absurd b; sees = λ up. absurd (false≢true up) }

  released_shown : (why : Cause) (live : Live) → IsShown Clear setup alarms (released setup why live).live
  released_shown why live = record { asks = λ e. absurd (release_asks _ e); before = λ b. absurd b; sees = λ up. absurd (false≢true up) }

  quit_shown : (why : Cause) (live : Live) (phase : State) → IsShown Clear setup alarms live → IsShown Clear setup alarms (quit setup why live phase).live
  quit_shown why live Looking is = over_shown why live
  quit_shown why live Addressing is = over_shown why live
  quit_shown why live Connecting is = released_shown why live
  quit_shown why live Writing is = released_shown why live
  quit_shown why live Ending is = released_shown why live
  quit_shown why live Waiting is = released_shown why live
  quit_shown why live Exchanging is = released_shown why live
  quit_shown why live (Ended before) is = is

  -- ---- a turn of a place

  asked_shown : (slot subslot number : ℕ) (step : PlugStep) (live : Live) → ((has : ℕ → ℕ → Option Bool) → AreAs has live.places.places → has slot subslot ≡ Some false)
      → IsShown Clear setup alarms live → IsShown Clear setup alarms (plug_asked setup slot subslot number step live)
  asked_shown slot subslot number step live good is =
      becomes live (plug_asked setup slot subslot number step live) refl refl refl (λ has own. set_of has slot subslot (state_of_step step number) live.places own)
      (λ has all. set_as has slot subslot (state_of_step step number) live.places (good has all) (step_fine step number) all) is

  begun_shown : (live : Live) → IsShown Clear setup alarms live → IsShown Clear setup alarms (begun_turn setup live)
  begun_shown live is = holds_if (IsShown Clear setup alarms) (can_begin live) (begun_by setup (next_waiting live.places) live) live (by_next (next_waiting live.places) refl) is
    where
      by_next : (o : Option Plug) → next_waiting live.places ≡ o → IsShown Clear setup alarms (begun_by setup o live)
      by_next None e = is
      by_next (Some plug) e =
          asked_shown plug.slot plug.subslot plug.number (step_from setup.plan plug.slot plug.subslot 0) live (λ has all. next_fine has live.places plug all e) is

  after_shown : (could : Bool) (turn : Turn) → IsShown Clear setup alarms turn.live → IsShown Clear setup alarms (after_turn setup could turn).live
  after_shown could turn is =
      holds_if (λ (t : Turn). IsShown Clear setup alarms t.live) (could || not (can_begin turn.live)) turn
      (record { live = begun_turn setup turn.live; sent = turn.sent ++ plugs_of (begun_turn setup turn.live) }) is (begun_shown turn.live is)

  passed_by_shown : (live : Live) (request : PlugRequest) (step : PlugStep) → IsShown Clear setup alarms live → IsShown Clear setup alarms (plug_passed_by setup live request step)
  passed_by_shown live request (Record number) is = by_turn (has_turn_at request.slot request.subslot live.places) refl
    where
      next : PlugStep
      next = step_from setup.plan request.slot request.subslot (number + 1)

      by_turn : (b : Bool) → has_turn_at request.slot request.subslot live.places ≡ b
          → IsShown Clear setup alarms (cond b (plug_asked setup request.slot request.subslot request.number (step_from setup.plan request.slot request.subslot (number + 1)) live) live)
      by_turn true e =
          asked_shown request.slot request.subslot request.number (step_from setup.plan request.slot request.subslot (number + 1)) live
          (λ has all. turn_fine has live.places request.slot request.subslot all e) is
      by_turn false e = is
  passed_by_shown live request PrmEnd is = is

  refused_place_shown : (request : PlugRequest) (live : Live) → IsShown Clear setup alarms live → IsShown Clear setup alarms (refused_place request live)
  refused_place_shown request live is = by_turn (has_turn_at request.slot request.subslot live.places) refl
    where
      by_turn : (b : Bool) → has_turn_at request.slot request.subslot live.places ≡ b
          → IsShown Clear setup alarms (cond b (record live { places = with_state request.slot request.subslot place_refused live.places }) live)
      by_turn true e =
          becomes live (record live { places = with_state request.slot request.subslot place_refused live.places }) refl refl refl
          (λ has own. set_of has request.slot request.subslot place_refused live.places own)
          (λ has all. set_as has request.slot request.subslot place_refused live.places (turn_fine has live.places request.slot request.subslot all e) refl all) is
      by_turn false e = is

  finished_shown : (live : Live) → IsShown Clear setup alarms live → IsShown Clear setup alarms (plug_finished live)
  finished_shown live is = same live (plug_finished live) refl refl refl refl is

  noted_shown : (status : Status) (number : ℕ) (live : Live) → IsShown Clear setup alarms live → IsShown Clear setup alarms (noted status number live)
  noted_shown status number live is = same live (noted status number live) refl refl refl refl is

  plug_refused_shown : (live : Live) (status : Status) (request : PlugRequest) (step : PlugStep) → IsShown Clear setup alarms live → IsShown Clear setup alarms (plug_refused setup live status request step)
  plug_refused_shown live status request (Record number) is =
      holds_if (IsShown Clear setup alarms) setup.plan.continue_on_refused_record (plug_passed setup (noted status number live) request) (refused_place request (noted status number live))
      (passed_by_shown (noted status number live) request request.step (noted_shown status number live is))
      (refused_place_shown request (noted status number live) (noted_shown status number live is))
  plug_refused_shown live status request PrmEnd is =
      refused_place_shown request (record live { refusal = Some status }) (same live (record live { refusal = Some status }) refl refl refl refl is)

  plug_replied_shown : (live : Live) (status : Status) (request : PlugRequest) → IsShown Clear setup alarms live → IsShown Clear setup alarms (plug_replied setup live status request)
  plug_replied_shown live status request is =
      holds_if (IsShown Clear setup alarms) (is_done status) (plug_passed setup (plug_finished live) request) (plug_refused setup (plug_finished live) status request request.step)
      (passed_by_shown (plug_finished live) request request.step (finished_shown live is))
      (plug_refused_shown (plug_finished live) status request request.step (finished_shown live is))

  plug_responded_shown : (live : Live) (response : Response) (request : PlugRequest) → IsShown Clear setup alarms live → Shown (plug_responded setup live response request)
  plug_responded_shown live response request is =
      holds_if Shown (is_plug_answer setup request response.header.activity response.header.sequence) (asks_next (plug_replied setup live response.status request)) (stays live)
      (plug_replied_shown live response.status request is) is

  plug_rejected_shown : (live : Live) (refusal : Refusal) (request : PlugRequest) → IsShown Clear setup alarms live → IsShown Clear setup alarms (plug_rejected setup live refusal request)
  plug_rejected_shown live refusal request is =
      let next : Live = record (plug_finished live) { refusal = Some refusal.status } in
      holds_if (IsShown Clear setup alarms) (is_plug_answer setup request refusal.activity refusal.sequence) (refused_place request next) live
      (refused_place_shown request next (same live next refl refl refl refl is)) is

  readied_shown : (live : Live) (number : ℕ) → IsShown Clear setup alarms live → IsShown Clear setup alarms (plug_readied live number)
  readied_shown live number is = becomes live (plug_readied live number) refl refl refl (λ has own. readied_of has number live.places own) (λ has all. readied_as has number live.places all) is

  -- ---- requests of the application

  brings_shown : (request : RecordRequest) (o : Option (List ℕ)) (live : Live) → IsShown Clear setup alarms live → IsShown Clear setup alarms (brings request o live)
  brings_shown request (Some octets) live is = same live (brings request (Some octets) live) refl refl refl refl is
  brings_shown request None live is = is

  granted_shown : (request : RecordRequest) (blocks : List ℕ) (which : RecordService) (live : Live) → IsShown Clear setup alarms live → IsShown Clear setup alarms (granted request blocks which live)
  granted_shown request blocks service.Read live is = brings_shown request (record_in (block_of blocks)) live is
  granted_shown request blocks service.Write live is = same live (granted request blocks service.Write live) refl refl refl refl is

  failed_shown : (status : Status) (request : RecordRequest) (live : Live) → IsShown Clear setup alarms live → IsShown Clear setup alarms (machine.failed status request live)
  failed_shown status request live is = same live (machine.failed status request live) refl refl refl refl is

  replied_by_shown : (live : Live) (response : Response) (request : RecordRequest) → IsShown Clear setup alarms live → IsShown Clear setup alarms (replied_by live response request)
  replied_by_shown live response request is =
      holds_if (IsShown Clear setup alarms) (is_done response.status) (granted request response.blocks request.service live) (machine.failed response.status request live)
      (granted_shown request response.blocks request.service live is) (failed_shown response.status request live is)

  replied_shown : (live : Live) (response : Response) (o : Option RecordRequest) → IsShown Clear setup alarms live → IsShown Clear setup alarms (replied setup live response o)
  replied_shown live response (Some request) is =
      holds_if (IsShown Clear setup alarms) (is_reply setup request response.header) (replied_by live response request) live (replied_by_shown live response request is) is
  replied_shown live response None is = is

  rejected_shown : (live : Live) (refusal : Refusal) (o : Option RecordRequest) → IsShown Clear setup alarms live → IsShown Clear setup alarms (rejected setup live refusal o)
  rejected_shown live refusal (Some request) is =
      holds_if (IsShown Clear setup alarms) (is_rejected setup request refusal) (machine.failed refusal.status request live) live (failed_shown refusal.status request live is) is
  rejected_shown live refusal None is = is

  -- ---- the start-up

  asks_shown : (phase : State) (request : Request) (live : Live) → (Some request ≡ Some asks.Connect → IsBefore phase) → (IsBefore phase → IsUnbegun live alarms)
      → (live.stands ≡ true → IsSeen Clear setup alarms live) → IsShown Clear setup alarms (asking setup phase request live).live
  asks_shown phase request live asked before sees = record {
    asks = asked;
    before = λ b. let u = before b in record { none = u.none; down = u.down };
    sees = λ up. let s = sees up in record { clear = s.clear; own = s.own; are = s.are };
  }

  writing_shown : (number : ℕ) (live : Live) → (live.stands ≡ true → IsSeen Clear setup alarms live) → IsShown Clear setup alarms (writing setup (writing_from setup.plan number) live).live
  writing_shown number live sees =
      asks_shown (phase_for (writing_from setup.plan number)) (writing_from setup.plan number) live
      (λ e. absurd (next_asks (nat_lt number (write_count setup.plan)) number e)) (λ b. absurd (next_phase (nat_lt number (write_count setup.plan)) number b)) sees

  -- the request that follows a Write
  behind_shown : (number : ℕ) (tries : Option ℕ) (live : Live) → (live.stands ≡ true → IsSeen Clear setup alarms live)
      → IsShown Clear setup alarms (writing setup (behind_write setup.plan number tries) live).live
  behind_shown number tries live sees =
      asks_shown (phase_for (behind_write setup.plan number tries)) (behind_write setup.plan number tries) live
      (λ e. absurd (behind_asks setup.plan number tries e)) (λ b. absurd (behind_phase setup.plan number tries b)) sees

  connect_shown : (live : Live) → IsUnbegun live alarms → (live.stands ≡ true → IsSeen Clear setup alarms live) → IsShown Clear setup alarms (asking setup Connecting asks.Connect live).live
  connect_shown live unbegun sees = asks_shown Connecting asks.Connect live (λ e. tt) (λ b. unbegun) sees

  address_shown : (live : Live) → IsUnbegun live alarms → (live.stands ≡ true → IsSeen Clear setup alarms live) → IsShown Clear setup alarms (asking setup Addressing asks.Address live).live
  address_shown live unbegun sees = asks_shown Addressing asks.Address live (λ e. tt) (λ b. unbegun) sees

  at_shown : (source : Mac) (live : Live) → IsUnbegun live alarms → (live.stands ≡ true → IsSeen Clear setup alarms live)
      → (IsUnbegun (record live { device = source }) alarms) × ((record live { device = source }).stands ≡ true → IsSeen Clear setup alarms (record live { device = source }))
  at_shown source live unbegun sees = (record { none = unbegun.none; down = unbegun.down }, λ up. let s = sees up in record { clear = s.clear; own = s.own; are = s.are })

  answered_shown : (live : Live) (source : Mac) (answer : Answered) → IsShown Clear setup alarms live → (phase : State) → live.phase ≡ phase → Shown (answered setup live source answer phase)
  answered_shown live source answer is Looking e =
      let unbegun = is.before (subst (λ (s : State). IsBefore s) (sym e) tt) in
      let here = at_shown source live unbegun is.sees in
      let there : Live = record live { device = source } in
      holds_if Shown (is_found setup.plan answer) (found setup live source answer) (stays live)
      (holds_if Shown (is_right setup.plan answer)
      (cond (is_addressed setup.plan answer) (asking setup Connecting asks.Connect there) (asking setup Addressing asks.Address there)) (stays (over cause.WrongDevice live))
      (holds_if Shown (is_addressed setup.plan answer) (asking setup Connecting asks.Connect there) (asking setup Addressing asks.Address there)
      (connect_shown there here.0 here.1) (address_shown there here.0 here.1)) (over_shown cause.WrongDevice live)) is
  answered_shown live source answer is Addressing e =
      let unbegun = is.before (subst (λ (s : State). IsBefore s) (sym e) tt) in
      holds_if Shown (is_set_answer answer) (addressed setup live answer) (stays live)
      (holds_if Shown (is_agreed answer) (asking setup Connecting asks.Connect live) (stays (over cause.Refused live))
      (connect_shown live unbegun is.sees) (over_shown cause.Refused live)) is
  answered_shown live source answer is Connecting e = is
  answered_shown live source answer is Writing e = is
  answered_shown live source answer is Ending e = is
  answered_shown live source answer is Waiting e = is
  answered_shown live source answer is Exchanging e = is
  answered_shown live source answer is (Ended why) e = is

  -- the places as the relation begins
  parts_opened : (most : ℕ) (blocks : List ℕ) (slot : ℕ) (parts : List RealSubmodule)
      → AreAs (λ s subslot. known_of (first_state most blocks s subslot)) (map (first_place most blocks slot) parts)
  parts_opened most blocks slot [] = tt
  parts_opened most blocks slot (part ∷ parts) = (refl, parts_opened most blocks slot parts)

  all_opened : (most : ℕ) (blocks : List ℕ) (modules : List RealModule) → AreAs (λ s subslot. known_of (first_state most blocks s subslot)) (places_of most blocks modules)
  all_opened most blocks [] = tt
  all_opened most blocks (entry ∷ modules) =
      each_behind (IsAs (λ s subslot. known_of (first_state most blocks s subslot))) (map (first_place most blocks entry.slot) entry.submodules.items) (places_of most blocks modules)
      (parts_opened most blocks entry.slot entry.submodules.items) (all_opened most blocks modules)

  standing_seen : (live : Live) (blocks : List ℕ) (chosen : Chosen) → alarms ≡ [] → Clear × ((slot subslot : ℕ) → is_listed_in 400 blocks slot subslot ≡ false)
      → IsSeen Clear setup alarms (standing setup (placed setup blocks live) chosen)
  standing_seen live blocks chosen none tells = record {
    clear = tells.0;
    own = opened_of 400 blocks setup.plan.real.modules.items;
    are = subst (λ (xs : List AlarmNotification). AreAs (λ slot subslot. known_by xs slot subslot None) (places_of 400 blocks setup.plan.real.modules.items)) (sym none)
        (as_same (λ slot subslot. known_of (first_state 400 blocks slot subslot)) (λ slot subslot. None)
        (λ slot subslot. ap (λ (b : Bool). known_of (cond b Differs There)) (tells.1 slot subslot)) (places_of 400 blocks setup.plan.real.modules.items)
        (all_opened 400 blocks setup.plan.real.modules.items));
  }

  connected_shown : (live : Live) (blocks : List ℕ) → IsShown Clear setup alarms live → IsUnbegun live alarms → Tells Clear blocks → (o : Option Found) → found_in 400 blocks nothing ≡ o
      → Shown (connected setup live blocks o)
  connected_shown live blocks is unbegun tells None e = is
  connected_shown live blocks is unbegun tells (Some it) e =
      held_if Shown (is_whole it) (cond it.differs (released setup cause.ModuleDiff live) (related_by setup (placed setup blocks live) (chosen_of it))) (stays live)
      (λ all. by_differs it.differs refl all) is
    where
      by_chosen : (o : Option Chosen) → Clear × ((slot subslot : ℕ) → is_listed_in 400 blocks slot subslot ≡ false) → Shown (related_by setup (placed setup blocks live) o)
      by_chosen (Some chosen) told = writing_shown 0 (standing setup (placed setup blocks live) chosen) (λ up. standing_seen live blocks chosen unbegun.none told)
      by_chosen None told = record {
        asks = is.asks;
        before = λ b. record { none = unbegun.none; down = unbegun.down };
        sees = λ up. absurd (false≢true (sym unbegun.down ∙ up));
      }

      by_differs : (b : Bool) → it.differs ≡ b → is_whole it ≡ true → Shown (cond b (released setup cause.ModuleDiff live) (related_by setup (placed setup blocks live) (chosen_of it)))
      by_differs true f all = released_shown cause.ModuleDiff live
      by_differs false f all = by_chosen (chosen_of it) (tells it e all f)

  past_shown : (number : ℕ) (tries : Option ℕ) (live : Live) → IsShown Clear setup alarms live → Shown (past_record setup (behind_write setup.plan number tries) live)
  past_shown number tries live is =
      holds_if Shown setup.plan.continue_on_refused_record (writing setup (behind_write setup.plan number tries) live) (refused_record setup live) (behind_shown number tries live is.sees)
      (holds_if Shown setup.plan.release_on_refused_record (released setup cause.Refused live) (stays (over cause.Refused live)) (released_shown cause.Refused live) (over_shown cause.Refused live))

  after_write_shown : (live : Live) (number : ℕ) (tries : Option ℕ) → IsShown Clear setup alarms live → (outcomes : Outcomes)
      → Shown (after_write setup live number (behind_write setup.plan number tries) outcomes)
  after_write_shown live number tries is AllWritten = behind_shown number tries live is.sees
  after_write_shown live number tries is (Denied place status) =
      past_shown number tries (noted status (first_of setup.plan number + place) live) (noted_shown status (first_of setup.plan number + place) live is)
  after_write_shown live number tries is Unreadable = is

  -- a Write, or PrmEnd, that is refused as busy is tried again
  trying_shown : (status : Status) (next : Request) (live : Live) → (Some next ≡ Some asks.Connect → ⊥) → IsShown Clear setup alarms live → Shown (trying next status live)
  trying_shown status next live no_connect is = record {
    asks = λ e. absurd (no_connect e);
    before = λ b. let u = is.before b in record { none = u.none; down = u.down };
    sees = λ up. let s = is.sees up in record { clear = s.clear; own = s.own; are = s.are };
  }

  again_asks : (number tries : ℕ) → Some (asks.WriteAfter number tries) ≡ Some asks.Connect → ⊥
  again_asks number tries e = absurd cc

  end_asks : (tries : ℕ) → Some (asks.PrmEndAfter tries) ≡ Some asks.Connect → ⊥
  end_asks tries e = absurd cc

  -- the response to a Write, after this many calls were refused as busy
  write_shown : (live : Live) (response : Response) (number : ℕ) (tries : Option ℕ) (before : ℕ) → IsShown Clear setup alarms live
      → Shown (if is_done response.status
      then after_write setup live number (behind_write setup.plan number tries) (outcomes_of setup.plan number response.blocks)
      else refused_write setup live response.status number before (behind_write setup.plan number tries))
  write_shown live response number tries before is =
      let next = behind_write setup.plan number tries in
      holds_if Shown (is_done response.status) (after_write setup live number next (outcomes_of setup.plan number response.blocks))
      (refused_write setup live response.status number before next)
      (after_write_shown live number tries is (outcomes_of setup.plan number response.blocks))
      (holds_if Shown (is_tried setup.plan response.status before) (trying (asks.WriteAfter number (before + 1)) response.status live)
      (past_record setup next (noted response.status (first_of setup.plan number) live))
      (trying_shown response.status (asks.WriteAfter number (before + 1)) live (again_asks number (before + 1)) is)
      (past_shown number tries (noted response.status (first_of setup.plan number) live) (noted_shown response.status (first_of setup.plan number) live is)))

  forgets_shown : (live : Live) → IsShown Clear setup alarms live → IsShown Clear setup alarms (record live { asked = None })
  forgets_shown live is = record {
    asks = λ e. absurd (none_asks e);
    before = λ b. let u = is.before b in record { none = u.none; down = u.down };
    sees = λ up. let s = is.sees up in record { clear = s.clear; own = s.own; are = s.are };
  }

  waits_shown : (live : Live) → IsShown Clear setup alarms live → IsShown Clear setup alarms (record live { phase = Waiting; asked = None; left = setup.options.waiting_patience })
  waits_shown live is = record { asks = λ e. absurd (none_asks e); before = λ b. absurd b; sees = λ up. let s = is.sees up in record { clear = s.clear; own = s.own; are = s.are } }

  denied_shown : (status : Status) (live : Live) → IsShown Clear setup alarms (denied status live)
  denied_shown status live = over_shown cause.Refused (record live { refusal = Some status })

  -- the response to PrmEnd
  end_shown : (live : Live) (response : Response) (before : ℕ) → IsShown Clear setup alarms live
      → Shown (if is_done response.status then stays (record live { phase = Waiting; asked = None; left = setup.options.waiting_patience })
      else refused_end setup live response.status before)
  end_shown live response before is =
      holds_if Shown (is_done response.status) (stays (record live { phase = Waiting; asked = None; left = setup.options.waiting_patience }))
      (refused_end setup live response.status before) (waits_shown live is)
      (holds_if Shown (is_tried setup.plan response.status before) (trying (asks.PrmEndAfter (before + 1)) response.status live)
      (stays (denied response.status live))
      (trying_shown response.status (asks.PrmEndAfter (before + 1)) live (end_asks (before + 1)) is) (denied_shown response.status live))

  refused_connect_shown : (status : Status) (live : Live) → Shown (refused_connect setup live status)
  refused_connect_shown status live =
      let next : Live = record live { refusal = Some status } in
      holds_if Shown (is_held setup.plan status) (released setup cause.Refused next) (stays (denied status live)) (released_shown cause.Refused next) (denied_shown status live)

  handled_shown : (live : Live) (response : Response) → IsShown Clear setup alarms live → TellsSo Clear setup (Responds response) → (request : Request) → live.asked ≡ Some request
      → is_answer setup request response.header ≡ true → Shown (decided setup live response request)
  handled_shown live response is tells asks.Identify e answered =
      holds_if Shown (is_done response.status) (stays live) (stays (denied response.status live)) is (denied_shown response.status live)
  handled_shown live response is tells asks.Address e answered =
      holds_if Shown (is_done response.status) (stays live) (stays (denied response.status live)) is (denied_shown response.status live)
  handled_shown live response is tells asks.Connect e answered =
      held_if Shown (is_done response.status) (connected setup live response.blocks (found_in 400 response.blocks nothing)) (refused_connect setup live response.status)
      (λ done. connected_shown live response.blocks is (is.before (is.asks e)) (tells answered done) (found_in 400 response.blocks nothing) refl) (refused_connect_shown response.status live)
  handled_shown live response is tells (asks.Write number) e answered = write_shown live response number None 0 is
  handled_shown live response is tells (asks.WriteAfter number tries) e answered = write_shown live response number (Some tries) tries is
  handled_shown live response is tells asks.PrmEnd e answered = end_shown live response 0 is
  handled_shown live response is tells (asks.PrmEndAfter tries) e answered = end_shown live response tries is
  handled_shown live response is tells (asks.Release sequence) e answered = forgets_shown live is

  beside_shown : (live : Live) (response : Response) → IsShown Clear setup alarms live → (o : Option PlugRequest) → Shown (beside setup live response o)
  beside_shown live response is (Some request) = plug_responded_shown live response request is
  beside_shown live response is None = replied_shown live response live.access.waiting is

  responded_shown : (live : Live) (response : Response) → IsShown Clear setup alarms live → TellsSo Clear setup (Responds response) → (o : Option Request) → live.asked ≡ o
      → Shown (responded setup live response o)
  responded_shown live response is tells (Some request) e =
      held_if Shown (is_answer setup request response.header) (decided setup live response request) (stays live) (λ answered. handled_shown live response is tells request e answered) is
  responded_shown live response is tells None e = beside_shown live response is live.access.plug

  refused_by_shown : (live : Live) (refusal : Refusal) → IsShown Clear setup alarms live → (request : Request) → Shown (refused_by live refusal request)
  refused_by_shown live refusal is asks.Identify = denied_shown refusal.status live
  refused_by_shown live refusal is asks.Address = denied_shown refusal.status live
  refused_by_shown live refusal is asks.Connect = denied_shown refusal.status live
  refused_by_shown live refusal is (asks.Write number) = denied_shown refusal.status live
  refused_by_shown live refusal is asks.PrmEnd = denied_shown refusal.status live
  refused_by_shown live refusal is (asks.WriteAfter number tries) = denied_shown refusal.status live
  refused_by_shown live refusal is (asks.PrmEndAfter tries) = denied_shown refusal.status live
  refused_by_shown live refusal is (asks.Release sequence) = forgets_shown live is

  refused_shown : (live : Live) (refusal : Refusal) → IsShown Clear setup alarms live → (o : Option Request) → Shown (refused setup live refusal o)
  refused_shown live refusal is (Some request) =
      holds_if Shown (is_refused setup request refusal) (refused_by live refusal request) (stays live) (refused_by_shown live refusal is request) is
  refused_shown live refusal is None = by_plug live.access.plug
    where
      by_plug : (o : Option PlugRequest) → IsShown Clear setup alarms (refused_beside setup live refusal o)
      by_plug (Some request) = plug_rejected_shown live refusal request is
      by_plug None = rejected_shown live refusal live.access.waiting is

  begins_shown : (live : Live) (caller : Caller) (call : Call) (block : ControlBlock) → IsShown Clear setup alarms live → (phase : State) → Shown (readied live caller call block phase)
  begins_shown live caller call block is Looking = is
  begins_shown live caller call block is Addressing = is
  begins_shown live caller call block is Connecting = is
  begins_shown live caller call block is Writing = is
  begins_shown live caller call block is Ending =
      record { asks = λ e. absurd (none_asks e); before = λ b. absurd b; sees = λ up. let s = is.sees up in record { clear = s.clear; own = s.own; are = s.are } }
  begins_shown live caller call block is Waiting =
      record { asks = λ e. absurd (none_asks e); before = λ b. absurd b; sees = λ up. let s = is.sees up in record { clear = s.clear; own = s.own; are = s.are } }
  begins_shown live caller call block is Exchanging = is
  begins_shown live caller call block is (Ended why) = is

  plug_called_shown : (live : Live) (caller : Caller) (call : Call) → IsShown Clear setup alarms live → (o : Option PlugControlBlock) → Shown (plug_called setup live caller call o)
  plug_called_shown live caller call is (Some block) =
      holds_if Shown (is_plug_ready setup block && is_plug_awaited live block.alarm_sequence_number)
      (record { live = plug_readied live block.alarm_sequence_number; sent = Agrees caller (plug_answer call block) ∷ [] }) (stays live)
      (readied_shown live block.alarm_sequence_number is) is
  plug_called_shown live caller call is None = is

  called_shown : (live : Live) (caller : Caller) (call : Call) → IsShown Clear setup alarms live → (o : Option ControlBlock) → Shown (called setup live caller call o)
  called_shown live caller call is (Some block) =
      holds_if Shown (is_ready setup block) (readied live caller call block live.phase) (stays live) (begins_shown live caller call block is live.phase) is
  called_shown live caller call is None =
      after_shown (can_begin live) (plug_called setup live caller call (plug_ready_in call)) (plug_called_shown live caller call is (plug_ready_in call))

  -- ---- units

  flowed_shown : (live : Live) (high low : Due) (is_request : Bool) (tick : Brought) → IsShown Clear setup alarms live → (o : Option Abort) → Shown (flowed live high low is_request tick o)
  flowed_shown live high low is_request tick is (Some reason) = over_shown (cause_of reason) live
  flowed_shown live high low is_request tick is None = is

  gone_shown : (live : Live) (is_request : Bool) → IsShown Clear setup alarms live → Shown (gone_on live is_request)
  gone_shown live is_request is = by_stands live.stands
    where
      next : IsShown Clear setup alarms (exchange_later live)
      next = same live (exchange_later live) refl refl refl refl is

      by_stands : (b : Bool) → Shown (cond b (flowed (exchange_later live) (due live.alarms.sending) (due live.low_alarms.sending) is_request (brought live) (brought live).ending)
          (record { live = live; sent = machine.where_due is_request (machine.requests_of live.device live.asked) }))
      by_stands true = flowed_shown (exchange_later live) (due live.alarms.sending) (due live.low_alarms.sending) is_request (brought live) next (brought live).ending
      by_stands false = is

  ticked_shown : (live : Live) → IsShown Clear setup alarms live → Shown (ticked setup live)
  ticked_shown live is =
      let next = same live (later live) refl refl refl refl is in
      holds_if Shown (is_spent live) (quit setup cause.NoProgress (later live) live.phase) (gone_on (turn_due setup (is_again live) (later live)) (is_again live))
      (quit_shown cause.NoProgress (later live) live.phase next)
      (gone_shown (turn_due setup (is_again live) (later live)) (is_again live)
      (holds_if (IsShown Clear setup alarms) (is_again live) (begun_turn setup (later live)) (later live) (begun_shown (later live) next) next))

  -- ---- the application

  requested_shown : (live : Live) (kind : RecordService) (slot subslot index : ℕ) (octets : List ℕ) → IsShown Clear setup alarms live → Shown (requested setup live kind slot subslot index octets)
  requested_shown live kind slot subslot index octets is =
      holds_if Shown (can_request live) (accessing (request_for setup live kind slot subslot index) octets live) (stays live)
      (same live (accessing (request_for setup live kind slot subslot index) octets live).live refl refl refl refl is) is

  -- ---- what is no alarm

  come_shown : (live : Live) (source : Mac) (frame_id : ℕ) (body : List ℕ) → IsShown Clear setup alarms live → IsShown Clear setup alarms (come live source frame_id body)
  come_shown live source frame_id body is =
      let next : Live = record live { cyclic = behind_frame live.cyclic source frame_id body } in
      holds_if (IsShown Clear setup alarms) live.stands next live (same live next refl refl refl refl is) is

  acked_shown : (live : Live) (priority : Priority) (number : ℕ) → IsShown Clear setup alarms live → IsShown Clear setup alarms (behind_ack live priority number)
  acked_shown live High number is = same live (behind_ack live High number) refl refl refl refl is
  acked_shown live Low number is = same live (behind_ack live Low number) refl refl refl refl is

-- ---- alarms

high_quiet : (alarm : AlarmNotification) → alarm.alarm_type ≡ 2 → place_report (report_as High alarm) ≡ None
high_quiet alarm e = by_api (alarm.api == 0)
  where
    by_type : (n : ℕ) → alarm.alarm_type ≡ n → n ≡ 2 → report_by_type alarm ≡ None
    by_type n e f = rw (e, f) refl

    by_api : (b : Bool) → cond b (report_by_type alarm) None ≡ None
    by_api true = by_type 2 e refl
    by_api false = refl

module _ (Clear : Type 0) (setup : Setup) (alarms : List AlarmNotification) where
  -- data of high priority reports nothing of places
  high_shown : (live : Live) (number : ℕ) (alarm : AlarmNotification) (structure : Option ℕ) (as_what : Taken) → alarm.alarm_type ≡ 2 → IsShown Clear setup alarms live
      → IsShown Clear setup alarms (taken (behind_data live High number) (record { priority = High; notification = alarm; user_structure = structure }) as_what).live
  high_shown live number alarm structure New quiet is = same Clear setup alarms live _ refl refl refl (ap (λ (o : Option PlaceReport). told_by o live.places) (high_quiet alarm quiet)) is
  high_shown live number alarm structure Again quiet is = same Clear setup alarms live _ refl refl refl refl is
  high_shown live number alarm structure Unwanted quiet is = same Clear setup alarms live _ refl refl refl refl is

  -- a new alarm of low priority is the last one
  low_shown : (live : Live) (number : ℕ) (alarm : AlarmNotification) (structure : Option ℕ) (as_what : Taken) → live.stands ≡ true → IsShown Clear setup alarms live
      → IsShown Clear setup (more_taken alarms alarm as_what) (taken (behind_data live Low number) (record { priority = Low; notification = alarm; user_structure = structure }) as_what).live
  low_shown live number alarm structure New up is = record {
    asks = is.asks;
    before = λ b. absurd (false≢true (sym (is.before b).down ∙ up));
    sees = λ now. let s = is.sees up in record {
      clear = s.clear;
      own = by_of (is_in_plan setup.plan.real.modules.items) (place_report (report_as Low alarm)) live.places s.own;
      are = as_same (λ slot subslot. known_after (place_report (report_as Low alarm)) slot subslot (known_by alarms slot subslot None))
          (λ slot subslot. known_by (alarms ++ alarm ∷ []) slot subslot None) (λ slot subslot. sym (known_more alarms alarm slot subslot None))
          (told_by (place_report (report_as Low alarm)) live.places).places
          (by_as (λ slot subslot. known_by alarms slot subslot None) (place_report (report_as Low alarm)) live.places s.are);
    };
  }
  low_shown live number alarm structure Again up is = same Clear setup alarms live _ refl refl refl refl is
  low_shown live number alarm structure Unwanted up is = same Clear setup alarms live _ refl refl refl refl is

  more_is : (as_what : Taken) (alarm : AlarmNotification) → alarms ++ more_taken [] alarm as_what ≡ more_taken alarms alarm as_what
  more_is New alarm = refl
  more_is Again alarm = append-nil alarms
  more_is Unwanted alarm = append-nil alarms

  none_more : (live : Live) → IsShown Clear setup alarms live → IsShown Clear setup (alarms ++ []) live
  none_more live is = subst (λ (xs : List AlarmNotification). IsShown Clear setup xs live) (sym (append-nil alarms)) is

  data_shown : (live : Live) (under : Priority) (number : ℕ) (priority : Priority) (alarm : AlarmNotification) (structure : Option ℕ) → IsOfPriority priority alarm → IsShown Clear setup alarms live
      → (b : Bool) → (b ≡ true → live.stands ≡ true)
      → IsShown Clear setup (alarms ++ cond (is_priority Low priority && b) (more_taken [] alarm (taken_as (end_of live Low).seen number)) [])
      (cond b (noticed live under (notice.Data number (record { priority = priority; notification = alarm; user_structure = structure }))) (stays live)).live
  data_shown live under number High alarm structure quiet is true up =
      none_more _ (high_shown live number alarm structure (taken_as (end_of live High).seen number) quiet is)
  data_shown live under number High alarm structure quiet is false up = none_more live is
  data_shown live under number Low alarm structure quiet is true up =
      subst (λ (xs : List AlarmNotification). IsShown Clear setup xs (taken (behind_data live Low number) (record { priority = Low; notification = alarm; user_structure = structure }) (taken_as (end_of live Low).seen number)).live)
      (sym (more_is (taken_as (end_of live Low).seen number) alarm)) (low_shown live number alarm structure (taken_as (end_of live Low).seen number) (up refl) is)
  data_shown live under number Low alarm structure quiet is false up = none_more live is

  alarmed_shown : (live : Live) (source : Mac) (under : Priority) (header : Header) (message : ToController) → IsOurs message → IsShown Clear setup alarms live
      → IsShown Clear setup (alarms ++ taken_of Low live source header message) (alarmed live source under header message).live
  alarmed_shown live source under header (notice.Data number report) ours is =
      data_shown live under number report.priority report.notification report.user_structure ours.1 is (live.stands && is_alarm live.cyclic.route source header)
      (λ e. (and_parts live.stands (is_alarm live.cyclic.route source header) e).0)
  alarmed_shown live source under header (notice.Ack number) ours is =
      none_more _ (holds_if (λ (t : Turn). IsShown Clear setup alarms t.live) (live.stands && is_alarm live.cyclic.route source header) (stays (behind_ack live (acked_under live under) number)) (stays live)
      (acked_shown Clear setup alarms live (acked_under live under) number is) is)
  alarmed_shown live source under header notice.Nack ours is =
      none_more _ (holds_if (λ (t : Turn). IsShown Clear setup alarms t.live) (live.stands && is_alarm live.cyclic.route source header) (stays live) (stays live) is is)
  alarmed_shown live source under header (notice.Abort status) ours is =
      none_more _ (holds_if (λ (t : Turn). IsShown Clear setup alarms t.live) (live.stands && is_alarm live.cyclic.route source header) (stays (over cause.Aborted live)) (stays live)
      (over_shown Clear setup alarms cause.Aborted live) is)

  -- ---- what is heard, and other events

  pub heard_shown : (mac : Mac) (live : Live) (heard : Heard) → IsGood mac heard → TellsSo Clear setup heard → IsShown Clear setup alarms live → IsShown Clear setup (alarms ++ taken_by Low live heard) (turned setup live heard).live
  heard_shown mac live Nothing good tells is = none_more live is
  heard_shown mac live (Answers source answer) good tells is = none_more _ (answered_shown Clear setup alarms live source answer is live.phase refl)
  heard_shown mac live (Responds response) good tells is =
      none_more _ (after_shown Clear setup alarms (can_begin live) (responded setup live response live.asked) (responded_shown Clear setup alarms live response is tells live.asked refl))
  heard_shown mac live (Refuses refusal) good tells is =
      none_more _ (after_shown Clear setup alarms (can_begin live) (refused setup live refusal live.asked) (refused_shown Clear setup alarms live refusal is live.asked))
  heard_shown mac live (Calls caller call) good tells is = none_more _ (called_shown Clear setup alarms live caller call is (ready_in call))
  heard_shown mac live (Cyclic source frame_id body) good tells is = none_more _ (come_shown Clear setup alarms live source frame_id body is)
  heard_shown mac live (Alarms source under header message) good tells is =
      after_shown Clear setup (alarms ++ taken_of Low live source header message) (can_begin live) (alarmed live source under header message)
      (alarmed_shown live source under header message good.1 is)

  -- no frame is delivered
  abbrev pub IsNoFrame : Event → Type 0
  IsNoFrame (event.Frame bytes) = ⊥
  IsNoFrame other = Unit {0}

  pub event_shown : (live : Live) (one : Event) → IsNoFrame one → IsShown Clear setup alarms live → IsShown Clear setup alarms (turn_of setup live one).live
  event_shown live (event.Frame bytes) plain is = absurd plain
  event_shown live event.Tick plain is = ticked_shown Clear setup alarms live is
  event_shown live (event.Give slot subslot value) plain is = same Clear setup alarms live (given live slot subslot value.items) refl refl refl refl is
  event_shown live (event.Status slot subslot is_good) plain is = same Clear setup alarms live (rated live slot subslot is_good) refl refl refl refl is
  event_shown live (event.Read slot subslot index) plain is = requested_shown Clear setup alarms live service.Read slot subslot index [] is
  event_shown live (event.Write slot subslot index octets) plain is =
      holds_if (λ (t : Turn). IsShown Clear setup alarms t.live) (nat_lt most_record_octets (length octets.items)) (stays live) (requested setup live service.Write slot subslot index octets.items) is
      (requested_shown Clear setup alarms live service.Write slot subslot index octets.items is)
  event_shown live event.Stop plain is = quit_shown Clear setup alarms cause.Stopped live live.phase is

pub first_shown : (Clear : Type 0) (setup : Setup) (plan : Parts) → IsShown Clear setup [] (first_live plan)
first_shown Clear setup plan = record { asks = λ e. absurd (identify_asks e); before = λ b. record { none = refl; down = refl }; sees = λ up. absurd (false≢true up) }
  where
    identify_asks : Some asks.Identify ≡ Some asks.Connect → ⊥
    identify_asks e = absurd cc

-- what else follows
pub shown_on : (Clear Next : Type 0) → (Clear → Next) → (setup : Setup) (alarms : List AlarmNotification) (live : Live) → IsShown Clear setup alarms live → IsShown Next setup alarms live
shown_on Clear Next on setup alarms live is =
    record { asks = is.asks; before = is.before; sees = λ up. let s = is.sees up in record { clear = on s.clear; own = s.own; are = s.are } }
