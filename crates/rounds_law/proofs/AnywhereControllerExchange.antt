-- A controller that exchanges data, in any state: frames and units of time.
use Rattle.std.proofs.Common.{◌≡◌, ◌⊎◌, inl, inr, ◌≤◌, ◌<◌, ◌+◌, ◌==◌, ◌&&◌, ◌||◌, ◌++◌, not, ℕ, suc, Bool, true, false, List, [], ◌∷◌}
use Rattle.std.proofs.Common.{Option, Some, None, if◌then◌else◌, refl}
use Rattle.std.proofs.Common.{sym, ap, subst, ◌∙◌, arith}
use Rattle.std.proofs.lemmas.Option.{none-some}
use Rattle.pn_values.specs.declared.mac.Mac.{Mac}
use Rattle.frame_codec.specs.declared.udp.Caller.{Caller}
use Rattle.frame_codec.specs.Sendable.{IsMac}
use Rattle.rpc_core.specs.declared.response.Status.{Status}
use Rattle.rpc_core.specs.Call.{Asked as Call}
use Rattle.rpc_core.specs.Response.{Answered as Response, is_done}
use Rattle.plan_places.specs.declared.place.PlaceState.TheVariants as known
use Rattle.plan_places.specs.Places.{Told, has_turn_at, with_state}
use Rattle.connect_blocks.specs.declared.control.ControlBlock.{ControlBlock}
use Rattle.connect_blocks.specs.declared.plug_control.PlugControlBlock.{PlugControlBlock}
use Rattle.pn_alarms.specs.declared.abort.Abort.{Abort}
use Rattle.pn_alarms.specs.declared.abort.Abort.TheVariants.{DataHold}
use Rattle.pn_alarms.specs.declared.message.Notice.TheVariants as notice
use Rattle.pn_alarms.specs.declared.repeats.Due.{Due}
use Rattle.pn_alarms.specs.Receiver.{taken_as}
use Rattle.pn_alarms.specs.Sending.{due, either_due}
use Rattle.pn_alarms.specs.Sending.{is_again as is_repeated}
use Rattle.diagnosis.specs.declared.reports.priority.Priority.{Priority}
use Rattle.diagnosis.specs.reports.Message.{ToController}
use Rattle.cyclic_data.specs.declared.exchange.route.Route.{Route}
use Rattle.cyclic_data.specs.exchange.Cyclic.{Cyclic}
use Rattle.cyclic_data.specs.exchange.Received.{behind_frame, behind_read, is_of_partner}
use Rattle.cyclic_data.specs.exchange.Units.{Brought, ending_by, is_silent, tick_by}
use Rattle.cyclic_data.specs.Tail.{cyclic_of}
use Rattle.controller_messages.specs.declared.plug_request.PlugRequest.{PlugRequest}
use Rattle.controller_messages.specs.declared.plug_request.PlugStep.{PlugStep}
use Rattle.controller_messages.specs.declared.plug_request.PlugStep.TheVariants.{PrmEnd, Record}
use Rattle.controller_messages.specs.declared.record_request.RecordRequest.{RecordRequest}
use Rattle.controller_messages.specs.declared.refusal.Refusal.{Refusal}
use Rattle.controller_messages.specs.declared.request.Request.{Request}
use Rattle.controller_messages.specs.declared.setup.Setup.{Setup}
use Rattle.controller_messages.specs.Access.{Accessing, unplugged}
use Rattle.controller_messages.specs.Heard.{Heard, Nothing, Answers, Responds, Refuses, Calls, Alarms}
use Rattle.controller_messages.specs.Heard.{Cyclic as Comes}
use Rattle.controller_messages.specs.PlugRequests.{is_plug_answer, is_plug_ready, plug_answer, plug_ready_in}
use Rattle.controller_messages.specs.Sent.{Agrees, Sent, ready_answer}
use Rattle.controller_core.specs.declared.stored.state.State.{State}
use Rattle.controller_core.specs.declared.stored.state.State.TheVariants.{Exchanging}
use Rattle.controller_core.specs.start_up.Answers.{is_ready, ready_in}
use Rattle.controller_core.specs.stored.Alarms.{is_alarm}
use Rattle.controller_core.specs.stored.State.{Live, is_limited}
use Rattle.controller_core.specs.Machine.{Turn, acked_under, after_turn, alarmed, answered, asks_next, begun_turn, behind_ack, behind_data, beside, brought}
use Rattle.controller_core.specs.Machine.{called, can_begin, due_frames, end_of, ended_by, exchange_later, flowed, gone_on, is_again, is_end_of, is_plug_awaited}
use Rattle.controller_core.specs.Machine.{is_spent, later, noted, noticed, plug_asked, plug_called, plug_finished, plug_passed_by, plug_readied, plug_refused}
use Rattle.controller_core.specs.Machine.{plug_rejected, plug_replied, plugs_of, readied, refused, refused_beside, refused_place, rejected, replied, requests_of}
use Rattle.controller_core.specs.Machine.{responded, stays, step_from, taken, ticked, turned, where_due}
use Rattle.network_world.specs.World.{is_ended}
use Rattle.end_laws.specs.hearing.Stations.{IsSetup}
use Rattle.end_laws.specs.controller.Small.{IsInStep, IsSteady}
use Rattle.rounds_law.specs.Anywhere.{IsFit}
use Rattle.rounds_law.specs.Path.{hold_of}
use Rattle.rounds_law.proofs.AgainAlone.{held_on_more, still_few}
use Rattle.rounds_law.proofs.AnywhereControllerKept.{IsKept, Runs, data_kept, exchange_kept, later_kept, stands_in}
use Rattle.rounds_law.proofs.AnywhereControllerLaws.{ControllerLaws}
use Rattle.rounds_law.proofs.AnywhereControllerReached.{kept_beside}
use Rattle.rounds_law.proofs.AnywhereControllerSent.{Allows, AreSaid, IsChosenIn, IsSaid, agreed, due_said, ended, plug_agreed, plugs_said, taken_said}
use Rattle.rounds_law.proofs.AnywhereControllerSizes.{all_append}
use Rattle.rounds_law.proofs.AnywhereControllerTurns.{IsAlike, ack_alike, behind_alike, data_alike}
use Rattle.rounds_law.proofs.AnywhereParts.{IsOfExchange}
use Rattle.rounds_law.proofs.AnywhereTurning.{IsTurning, alarmed_good, begun_good, due_good, later_good, plug_called_good, plug_replied_good, refused_good}
use Rattle.rounds_law.proofs.AnywhereTurning.{responded_good}
use Rattle.rounds_law.proofs.ControllerPassingParts.{frame_on}
use Rattle.rounds_law.proofs.ControllerPassingUnits.{begins_or_not}
use Rattle.rounds_law.proofs.PlaceTurns.{begun_beside, due_beside, unfollowed, with_turn, without_relation}

-- What is sent while data is exchanged under this route.
allowed : (route : Route) → Allows (IsOfExchange route) route
allowed route = record {
  agrees = λ caller answer. tt;
  cycles = λ shown counter. refl;
  confirms = λ priority header ack. tt;
  replies = λ priority header. tt;
  ends = λ header reason. tt;
}

-- It ends.
pub record EndsNow (setup : Setup) (route : Route) (turn : Turn) : Type 0 where
  pub ends : is_ended turn.live.phase ≡ true
  pub down : turn.live.stands ≡ false
  pub alone : turn.live.access.waiting ≡ None
  pub said : AreSaid setup (IsOfExchange route) turn.sent

-- It still exchanges data, under the same route.
pub record GoesOn (setup : Setup) (live : Live) (turn : Turn) : Type 0 where
  pub in_phase : turn.live.phase ≡ Exchanging
  pub route : turn.live.cyclic.route ≡ live.cyclic.route
  pub device : turn.live.device ≡ live.device
  pub alone : turn.live.access.waiting ≡ None
  pub said : AreSaid setup (IsOfExchange live.cyclic.route) turn.sent

-- A cyclic frame of its partner.
pub record BringsInputs (route : Route) (heard : Heard) : Type 0 where
  pub source : Mac
  pub frame_id : ℕ
  pub body : List ℕ
  pub comes : heard ≡ Comes source frame_id body
  pub of_partner : is_of_partner route source frame_id ≡ true

-- Its data hold time starts again only with such a frame.
abbrev pub KeepsTime : Live → Heard → Live → Type 0
KeepsTime live heard after = (after.cyclic.hearing.held ≡ live.cyclic.hearing.held) ⊎ BringsInputs live.cyclic.route heard

-- ---- the turn of a place leaves the exchange as it is

-- The phase, the exchange, the station and the request of the application are the same.
pub record IsSame (before after : Live) : Type 0 where
  pub phase : after.phase ≡ before.phase
  pub cyclic : after.cyclic ≡ before.cyclic
  pub device : after.device ≡ before.device
  pub waiting : after.access.waiting ≡ before.access.waiting

same : (live : Live) → IsSame live live
same live = record { phase = refl; cyclic = refl; device = refl; waiting = refl }

either_same : (test : Bool) (before one other : Live) → IsSame before one → IsSame before other → IsSame before (if test then one else other)
either_same true before one other first second = first
either_same false before one other first second = second

begun_same : (setup : Setup) (live : Live) → IsSame live (begun_turn setup live)
begun_same setup live =
    begun_beside (IsSame live) setup live
    (λ waited places access less waiting. record { phase = refl; cyclic = refl; device = refl; waiting = waiting })

passed_same : (setup : Setup) (live : Live) (request : PlugRequest) (step : PlugStep) → IsSame live (plug_passed_by setup live request step)
passed_same setup live request (Record number) =
    either_same (has_turn_at request.slot request.subslot live.places) live
    (plug_asked setup request.slot request.subslot request.number (step_from setup.plan request.slot request.subslot (number + 1)) live) live
    (record { phase = refl; cyclic = refl; device = refl; waiting = refl }) (same live)
passed_same setup live request PrmEnd = same live

place_same : (live : Live) (request : PlugRequest) → IsSame live (refused_place request live)
place_same live request =
    either_same (has_turn_at request.slot request.subslot live.places) live
    (record live { places = with_state request.slot request.subslot known.Refused live.places }) live
    (record { phase = refl; cyclic = refl; device = refl; waiting = refl }) (same live)

-- A refusal is noted before that.
noted_same : (live next after : Live) → IsSame live next → IsSame next after → IsSame live after
noted_same live next after one other = record {
  phase = other.phase ∙ one.phase;
  cyclic = other.cyclic ∙ one.cyclic;
  device = other.device ∙ one.device;
  waiting = other.waiting ∙ one.waiting;
}

refused_same : (setup : Setup) (live : Live) (status : Status) (request : PlugRequest) (step : PlugStep)
    → IsSame live (plug_refused setup live status request step)
refused_same setup live status request (Record number) =
    noted_same live (noted status number live) _ (record { phase = refl; cyclic = refl; device = refl; waiting = refl })
    (either_same setup.plan.continue_on_refused_record (noted status number live) _ _
    (passed_same setup (noted status number live) request request.step) (place_same (noted status number live) request))
refused_same setup live status request PrmEnd =
    noted_same live (record live { refusal = Some status }) _ (record { phase = refl; cyclic = refl; device = refl; waiting = refl })
    (place_same (record live { refusal = Some status }) request)

replied_same : (setup : Setup) (live : Live) (status : Status) (request : PlugRequest) → IsSame live (plug_replied setup live status request)
replied_same setup live status request =
    noted_same live (plug_finished live) _ (record { phase = refl; cyclic = refl; device = refl; waiting = refl })
    (either_same (is_done status) (plug_finished live) _ _ (passed_same setup (plug_finished live) request request.step)
    (refused_same setup (plug_finished live) status request request.step))

rejected_same : (setup : Setup) (live : Live) (refusal : Refusal) (request : PlugRequest) → IsSame live (plug_rejected setup live refusal request)
rejected_same setup live refusal request =
    either_same (is_plug_answer setup request refusal.activity refusal.sequence) live _ _
    (noted_same live (record (plug_finished live) { refusal = Some refusal.status }) _
    (record { phase = refl; cyclic = refl; device = refl; waiting = refl })
    (place_same (record (plug_finished live) { refusal = Some refusal.status }) request)) (same live)

readied_waiting : (is_end : Bool) (access : Accessing) → (if is_end then unplugged access else access).waiting ≡ access.waiting
readied_waiting true access = refl
readied_waiting false access = refl

module _ (laws : ControllerLaws) (setup : Setup) (good : IsSetup setup) (live : Live) (kept : IsKept setup live) (steady : IsSteady setup.plan live)
    (turning : IsTurning setup live) (chosen : IsChosenIn live.cyclic.route) (alone : live.access.waiting ≡ None) (exchanges : live.phase ≡ Exchanging) where
  unasked : live.asked ≡ None
  unasked = subst (λ (p : State). IsInStep setup.plan p live.asked) exchanges steady.asked

  up : live.stands ≡ true
  up = kept.stands ∙ ap stands_in exchanges

  -- The request after a plug that waits in such a state, as it is sent.
  plugs_so : (next : Live) → IsTurning setup next → next.device ≡ live.device → AreSaid setup (IsOfExchange live.cyclic.route) (plugs_of next)
  plugs_so next well same_device =
      plugs_said setup (IsOfExchange live.cyclic.route) next.device (subst IsMac (sym same_device) kept.device) next.access.plug well.plugs
      (λ request. tt)

  -- ---- frames

  -- What a frame may do.
  abbrev pub Becomes : Heard → Turn → Type 0
  Becomes heard turn = EndsNow setup live.cyclic.route turn ⊎ (GoesOn setup live turn × KeepsTime live heard turn.live)

  rests : (heard : Heard) (after : Live) (sent : List Sent) → IsAlike live after → AreSaid setup (IsOfExchange live.cyclic.route) sent
      → Becomes heard (record { live = after; sent = sent })
  rests heard after sent is said = inr (
    record {
      in_phase = is.phase ∙ exchanges;
      route = ap (λ (c : Cyclic). c.route) is.cyclic;
      device = is.device;
      alone = ap (λ (a : Accessing). a.waiting) is.access ∙ alone;
      said = said;
    },
    inl (ap (λ (c : Cyclic). c.hearing.held) is.cyclic),
  )

  -- The exchange is the same, and so is the request of the application.
  goes_same : (heard : Heard) (after : Live) (sent : List Sent) → IsSame live after → AreSaid setup (IsOfExchange live.cyclic.route) sent
      → Becomes heard (record { live = after; sent = sent })
  goes_same heard after sent is said = inr (
    record {
      in_phase = is.phase ∙ exchanges;
      route = ap (λ (c : Cyclic). c.route) is.cyclic;
      device = is.device;
      alone = is.waiting ∙ alone;
      said = said;
    },
    inl (ap (λ (c : Cyclic). c.hearing.held) is.cyclic),
  )

  stays_so : (heard : Heard) → Becomes heard (stays live)
  stays_so heard = goes_same heard live [] (same live) tt

  as_stays : (heard : Heard) (turn : Turn) → turn ≡ stays live → Becomes heard turn
  as_stays heard turn is = subst (λ (t : Turn). Becomes heard t) (sym is) (stays_so heard)

  either : (heard : Heard) (is : Bool) (one other : Turn) → (is ≡ true → Becomes heard one) → Becomes heard other → Becomes heard (if is then one else other)
  either heard true one other first second = first refl
  either heard false one other first second = second

  readied_so : (heard : Heard) (caller : Caller) (call : Call) (block : ControlBlock)
      → AreSaid setup (IsOfExchange live.cyclic.route) (Agrees caller (ready_answer call block) ∷ [])
      → Becomes heard (readied live caller call block live.phase)
  readied_so heard caller call block said =
      subst (λ (p : State). Becomes heard (readied live caller call block p)) (sym exchanges)
      (goes_same heard live _ (same live) said)

  -- A turn may follow.
  followed_so : (heard : Heard) (turn : Turn) → IsTurning setup turn.live → Becomes heard turn → Becomes heard (after_turn setup (can_begin live) turn)
  followed_so heard turn well (inl over) =
      inl (subst (EndsNow setup live.cyclic.route) (sym (unfollowed setup (can_begin live) turn (without_relation turn.live over.down))) over)
  followed_so heard turn well (inr on) = by_test (can_begin live || not (can_begin turn.live))
    where
      begun : Live
      begun = begun_turn setup turn.live

      is : IsSame turn.live begun
      is = begun_same setup turn.live

      by_test : (test : Bool) → Becomes heard (if test then turn else record { live = begun; sent = turn.sent ++ plugs_of begun })
      by_test true = inr on
      by_test false = inr (
        record {
          in_phase = is.phase ∙ on.0.in_phase;
          route = ap (λ (c : Cyclic). c.route) is.cyclic ∙ on.0.route;
          device = is.device ∙ on.0.device;
          alone = is.waiting ∙ on.0.alone;
          said = all_append (IsSaid setup (IsOfExchange live.cyclic.route)) turn.sent (plugs_of begun) on.0.said
              (plugs_so begun (begun_good setup turn.live well) (is.device ∙ on.0.device));
        },
        subst (λ (c : Cyclic). (c.hearing.held ≡ live.cyclic.hearing.held) ⊎ BringsInputs live.cyclic.route heard) (sym is.cyclic) on.1,
      )

  -- ApplicationReady of a plug is answered, if it is one of a place.
  plug_so : (caller : Caller) (call : Call) (block : Option PlugControlBlock) → IsFit setup (Calls caller call)
      → Becomes (Calls caller call) (plug_called setup live caller call block)
  plug_so caller call None fit = stays_so (Calls caller call)
  plug_so caller call (Some block) fit = by_test (is_plug_ready setup block) (is_plug_awaited live number) refl
    where
      number : ℕ
      number = block.alarm_sequence_number

      turn : Turn
      turn = record { live = plug_readied live number; sent = Agrees caller (plug_answer call block) ∷ [] }

      by_test : (right awaited : Bool) → is_plug_ready setup block ≡ right
          → Becomes (Calls caller call) (if right && awaited then turn else stays live)
      by_test true true right =
          goes_same (Calls caller call) turn.live turn.sent
          (record { phase = refl; cyclic = refl; device = refl; waiting = readied_waiting (is_end_of number live.access.plug) live.access })
          (plug_agreed setup (IsOfExchange live.cyclic.route) laws.can_answer_plug good caller call block fit right tt, tt)
      by_test true false right = stays_so (Calls caller call)
      by_test false awaited right = stays_so (Calls caller call)

  called_so : (caller : Caller) (call : Call) (block : Option ControlBlock) → IsFit setup (Calls caller call) → ready_in call ≡ block
      → Becomes (Calls caller call) (called setup live caller call block)
  called_so caller call (Some block) fit is =
      either (Calls caller call) (is_ready setup block) _ (stays live)
      (λ right. readied_so (Calls caller call) caller call block (
        agreed setup (IsOfExchange live.cyclic.route) laws.can_answer good (Calls caller call) caller call block fit (record {
          comes = refl;
          is = is;
          right = right;
        }) tt,
        tt,
      ))
      (stays_so (Calls caller call))
  called_so caller call None fit is =
      followed_so (Calls caller call) (plug_called setup live caller call (plug_ready_in call))
      (plug_called_good setup live turning caller call (plug_ready_in call)) (plug_so caller call (plug_ready_in call) fit)

  came_so : (source : Mac) (frame_id : ℕ) (body : List ℕ)
      → Becomes (Comes source frame_id body) (stays (record live { cyclic = behind_frame live.cyclic source frame_id body }))
  came_so source frame_id body = inr (
    record {
      in_phase = exchanges;
      route = (frame_on live.cyclic source frame_id body).route;
      device = refl;
      alone = alone;
      said = tt;
    },
    by (is_of_partner live.cyclic.route source frame_id) refl,
  )
    where
      read : Cyclic
      read = behind_read live.cyclic (cyclic_of live.cyclic.taken.data_length body)

      by : (is : Bool) → is_of_partner live.cyclic.route source frame_id ≡ is
          → ((if is then read else live.cyclic).hearing.held ≡ live.cyclic.hearing.held) ⊎ BringsInputs live.cyclic.route (Comes source frame_id body)
      by true is = inr (record { source = source; frame_id = frame_id; body = body; comes = refl; of_partner = is })
      by false is = inl refl

  noticed_so : (heard : Heard) (under : Priority) (said : ToController) → Becomes heard (noticed live under said)
  noticed_so heard under (notice.Data number report) =
      let as_what = taken_as (end_of live report.priority).seen number in
      let behind = behind_data live report.priority number in
      let way : live.cyclic.route ≡ behind.cyclic.route = sym (ap (λ (c : Cyclic). c.route) (behind_alike live report.priority number).cyclic) in
      rests heard (taken behind report as_what).live (taken behind report as_what).sent (data_alike live report number as_what)
      (taken_said setup (IsOfExchange live.cyclic.route) behind (data_kept setup live report.priority number kept) (subst IsChosenIn way chosen)
      (subst (λ (r : Route). Allows (IsOfExchange live.cyclic.route) r) way (allowed live.cyclic.route)) report as_what)
  noticed_so heard under (notice.Ack number) =
      let priority = acked_under live under in
      rests heard (behind_ack live priority number) [] (ack_alike live priority number) tt
  noticed_so heard under notice.Nack = stays_so heard
  noticed_so heard under (notice.Abort status) = inl (record { ends = refl; down = refl; alone = refl; said = tt })

  -- A response to the request that waits.
  beside_so : (response : Response) (plug : Option PlugRequest) → live.access.plug ≡ plug → Becomes (Responds response) (beside setup live response plug)
  beside_so response (Some request) was =
      let after = plug_replied setup live response.status request in
      let is = replied_same setup live response.status request in
      either (Responds response) (is_plug_answer setup request response.header.activity response.header.sequence) (asks_next after) (stays live)
      (λ right. goes_same (Responds response) after (plugs_of after) is
      (plugs_so after (plug_replied_good setup live turning response.status request was) is.device)) (stays_so (Responds response))
  beside_so response None was =
      as_stays (Responds response) (beside setup live response None)
      (ap (λ (o : Option RecordRequest). stays (replied setup live response o)) alone)

  -- A reject or a fault.
  refused_so : (refusal : Refusal) (plug : Option PlugRequest) → Becomes (Refuses refusal) (stays (refused_beside setup live refusal plug))
  refused_so refusal (Some request) = goes_same (Refuses refusal) (plug_rejected setup live refusal request) [] (rejected_same setup live refusal request) tt
  refused_so refusal None =
      as_stays (Refuses refusal) (stays (refused_beside setup live refusal None))
      (ap (λ (o : Option RecordRequest). stays (rejected setup live refusal o)) alone)

  pub frame_so : (heard : Heard) → IsFit setup heard → Becomes heard (turned setup live heard)
  frame_so Nothing fit = stays_so Nothing
  frame_so (Answers source answer) fit =
      as_stays (Answers source answer) (answered setup live source answer live.phase) (ap (λ (p : State). answered setup live source answer p) exchanges)
  frame_so (Responds response) fit =
      followed_so (Responds response) (responded setup live response live.asked) (responded_good setup live turning response live.asked)
      (subst (λ (o : Option Request). Becomes (Responds response) (responded setup live response o)) (sym unasked)
      (beside_so response live.access.plug refl))
  frame_so (Refuses refusal) fit =
      followed_so (Refuses refusal) (refused setup live refusal live.asked) (refused_good setup live turning refusal live.asked)
      (subst (λ (o : Option Request). Becomes (Refuses refusal) (refused setup live refusal o)) (sym unasked)
      (refused_so refusal live.access.plug))
  frame_so (Calls caller call) fit = called_so caller call (ready_in call) fit refl
  frame_so (Comes source frame_id body) fit =
      subst (λ (b : Bool). Becomes (Comes source frame_id body)
      (stays (if b then record live { cyclic = behind_frame live.cyclic source frame_id body } else live))) (sym up) (came_so source frame_id body)
  frame_so (Alarms source under header said) fit =
      followed_so heard (alarmed live source under header said) (alarmed_good setup live turning source under header said)
      (either heard (live.stands && is_alarm live.cyclic.route source header) (noticed live under said) (stays live)
      (λ is. noticed_so heard under said) (stays_so heard))
    where
      heard : Heard
      heard = Alarms source under header said

  -- ---- a unit

  -- Its data hold time has run a unit more, and is not over.
  pub record HoldsOn (after : Live) : Type 0 where
    pub held : after.cyclic.hearing.held ≡ suc live.cyclic.hearing.held
    pub less : suc live.cyclic.hearing.held < hold_of setup.plan

  -- What a unit may do.
  abbrev pub Passes : Turn → Type 0
  Passes turn = EndsNow setup live.cyclic.route turn ⊎ (GoesOn setup live turn × HoldsOn turn.live)

  runs : live.cyclic.begun ≡ true
  runs = subst (λ (p : State). Runs p live.cyclic.begun) exchanges kept.runs

  -- The state with its turn, which may have begun with the unit.
  module _ (waited : ℕ) (places : Told) (access : Accessing) (less : waited ≤ (later live).waited) (waiting : access.waiting ≡ live.access.waiting)
      (well : IsTurning setup (with_turn (later live) waited places access)) where
    abbrev next : Live
    next = with_turn (later live) waited places access

    at : IsKept setup (exchange_later next)
    at = exchange_kept setup next (kept_beside setup (later live) (later_kept setup live kept) waited places access less waiting)

    -- What is due of the alarms of each priority with the unit.
    abbrev high : Due
    high = due live.alarms.sending

    abbrev low : Due
    low = due live.low_alarms.sending

    -- The turn of a unit that brings this.
    abbrev flows : Brought → Turn
    flows tick = flowed (exchange_later next) high low (is_again live) tick tick.ending

    ends_by : (reason : Abort) → Passes (ended_by (exchange_later next) reason)
    ends_by reason = inl (record {
      ends = refl;
      down = refl;
      alone = refl;
      said = (ended setup (IsOfExchange live.cyclic.route) (exchange_later next) at chosen (allowed live.cyclic.route) reason, tt);
    })

    goes_so : is_silent live.cyclic ≡ false → (is_cyclic : Bool)
        → Passes (record {
          live = exchange_later next;
          sent = due_frames (exchange_later next) (is_repeated high) (is_repeated low) (is_again live) is_cyclic;
        })
    goes_so heard is_cyclic =
        let few = still_few live.cyclic runs heard in
        inr (
          record {
            in_phase = exchanges;
            route = refl;
            device = refl;
            alone = waiting ∙ alone;
            said = due_said setup (IsOfExchange live.cyclic.route) (exchange_later next) at chosen (allowed live.cyclic.route)
                (λ request asks. absurd (none_asked request asks)) (waiting ∙ alone) (plugs_so next well refl) (is_repeated high) (is_repeated low)
                (is_again live) is_cyclic;
          },
          record {
            held = let more = held_on_more live.cyclic.begun live.cyclic.hearing runs few in omega (arith, more);
            less = omega (arith, few, kept.cyclic.limit_is);
          },
        )
      where
        none_asked : (request : Request) → live.asked ≡ Some request → ⊥
        none_asked request asks = none-some request (sym unasked ∙ asks)

    by_alarm : is_silent live.cyclic ≡ false → (ending : Option Abort) → Passes (flows (tick_by live.cyclic (either_due high low) ending))
    by_alarm heard (Some reason) = ends_by reason
    by_alarm heard None = goes_so heard _

    by_silence : (silent : Bool) → is_silent live.cyclic ≡ silent
        → Passes (flows (tick_by live.cyclic (either_due high low) (if silent then Some DataHold else ending_by (either_due high low))))
    by_silence true e = ends_by DataHold
    by_silence false e = by_alarm e (ending_by (either_due high low))

    gone_so : Passes (gone_on next (is_again live))
    gone_so =
        subst (λ (b : Bool). Passes (if b then flows (brought live)
        else record { live = next; sent = where_due (is_again live) (requests_of live.device live.asked) })) (sym up)
        (by_silence (is_silent live.cyclic) refl)

  unspent : is_spent live ≡ false
  unspent = ap (λ (p : State). is_limited p && live.left == 1) exchanges

  pub unit_so : Passes (ticked setup live)
  unit_so =
      subst Passes (sym (begins_or_not setup live unspent))
      (due_beside (λ (l : Live). IsTurning setup l → Passes (gone_on l (is_again live))) setup (is_again live) (later live) gone_so
      (due_good setup (is_again live) (later live) (later_good setup live turning)))
