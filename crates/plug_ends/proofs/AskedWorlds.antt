-- Over any run of worlds: what the controller asks of its places after their plugs, and what it confirmed.
use Rattle.std.proofs.Common.{◌≡◌, ◌⊎◌, inl, inr, ◌<◌, ◌≤◌, ◌&&◌, ◌+◌, ◌++◌, ℕ, zero, suc, Bool, true, false, List, [], ◌∷◌, length, map, Option, Some, None, option_map, refl}
use Rattle.std.proofs.Common.{sym, ap, subst, ◌∙◌, append-nil, arith}
use Rattle.std.specs.Prelude.{slice_get, if◌then◌else◌}
use Rattle.std.specs.List.{AllByRecursion}
use Rattle.lldp.specs.Views.{peer_as}
use Rattle.flash_model.specs.declared.flash.Flash.{Ghosts as Flash}
use Rattle.settings_journal.specs.settings_store.Machine.{Outcome}
use Rattle.pn_values.specs.declared.identity.Identity.{Identity}
use Rattle.pn_values.specs.declared.mac.Mac.{Mac}
use Rattle.rpc_core.specs.Cache.{Kept as Answer, kept_of}
use Rattle.rpc_core.specs.Response.{Answered as Response, is_done}
use Rattle.record_blocks.specs.declared.alarm_notification.AlarmNotification.{AlarmNotification}
use Rattle.pn_alarms.specs.declared.message.Notice.TheVariants as notice
use Rattle.pn_alarms.specs.declared.pdu.Header.{Header}
use Rattle.pn_alarms.specs.Receiver.{taken_as}
use Rattle.diagnosis.specs.Line.{more_taken}
use Rattle.diagnosis.specs.declared.reports.priority.Priority.TheVariants.{Low}
use Rattle.diagnosis.specs.reports.Message.{ToController as AlarmReported}
use Rattle.plan_places.specs.declared.place.PlaceState.{PlaceState}
use Rattle.plan_places.specs.declared.place.PlaceState.TheVariants.{There, Plugged, Writing as Writing_place}
use Rattle.plan_places.specs.Places.{state_at}
use Rattle.device_frames.specs.declared.event.Event.TheVariants.{Frame}
use Rattle.device_frames.specs.Heard.{Applied, Heard, Met, Ticks, heard_of}
use Rattle.device_frames.specs.Sendable.{AreSendable}
use Rattle.device_core.specs.State.{Live, Station}
use Rattle.device_core.specs.Machine.{handled_step, heard_step}
use Rattle.controller_messages.specs.declared.plug_request.PlugRequest.{PlugRequest}
use Rattle.controller_messages.specs.declared.plug_request.PlugStep.TheVariants.{Record, PrmEnd}
use Rattle.controller_messages.specs.declared.request.Request.TheVariants as asks
use Rattle.controller_messages.specs.declared.setup.Setup.{Setup}
use Rattle.controller_messages.specs.Access.{call_number}
use Rattle.controller_messages.specs.Heard as controller
use Rattle.controller_messages.specs.Heard.{heard_of as heard_by}
use Rattle.controller_messages.specs.PlugRequests.{is_plug_answer}
use Rattle.controller_messages.specs.Sent as said
use Rattle.controller_messages.specs.Sent.{bytes_of}
use Rattle.controller_core.specs.declared.stored.event.Event.{Event}
use Rattle.controller_core.specs.declared.stored.event.Event.TheVariants as event
use Rattle.controller_core.specs.stored.Alarms.{is_alarm}
use Rattle.controller_core.specs.stored.State.{Controlling, Live as ControllerLive, with_live}
use Rattle.controller_core.specs.Machine.{Turn, after_turn, end_of, first as first_live, flow_later, step_from, step_of, turn_due, turn_of}
use Rattle.network_world.specs.declared.moves.End.TheVariants.{Device, Controller}
use Rattle.network_world.specs.declared.moves.Move.{Move}
use Rattle.network_world.specs.declared.moves.Move.TheVariants as move
use Rattle.network_world.specs.World.{at_controller, AtDevice, Comes, Delivers, Happens, is_skipped, World}
use Rattle.end_laws.specs.hearing.Stations.{IsDevice, IsSetup}
use Rattle.end_laws.specs.sending.Addressed.{IsAimed, IsAimedAt, IsEventFrom, IsHeardFrom}
use Rattle.end_laws.specs.both.Small as small
use Rattle.end_laws.specs.controller.Small.{GoesOn, IsSteady, said_in}
use Rattle.end_laws.specs.device.Owed.{IsOfKept}
use Rattle.end_laws.specs.device.Small.{IsPlanned, IsPlannedCall, heard_as, kept_in}
use Rattle.end_laws.specs.device.Small as device
use Rattle.end_laws.specs.turns.Alarms.{is_priority}
use Rattle.end_laws.specs.turns.Beside.{MayBegin, MayFollow, flow_begun}
use Rattle.end_laws.specs.turns.Turns.{IsTurn, came_by}
use Rattle.both_ends.specs.startup.View.{IsMeant, IsMeantAtDevice, is_planned, rules_of}
use Rattle.both_ends.specs.startup.Played.{Begins}
use Rattle.both_ends.specs.exchange.Over.{taken_by, taken_from, taken_in, taken_of, taken_with}
use Rattle.both_ends.proofs.ExchangeFollows.{IsIn}
use Rattle.both_ends.proofs.ExchangeLaw.{DeviceSo, FollowsAt}
use Rattle.both_ends.proofs.ExchangeReported.{IsGood}
use Rattle.plug_ends.specs.Calls.{WasSent}
use Rattle.plug_ends.specs.Told.{AreNumberedFrom}
use Rattle.plug_ends.proofs.AskedFrames.{FramesSo, IsAskedBy, IsCalledAt, IsCalledBy, IsDoneOf, IsEndOf, IsQuietAt, IsReadAs, IsSmallIn, asked_later, confirms_number}
use Rattle.plug_ends.proofs.AskedFrames.{messages_quiet, quiet_called, quiet_done, quiet_end, said_done, said_end, said_mine, start_no_number}
use Rattle.plug_ends.proofs.AskedKeeps.{AreFew, Base, Done, Ended, IsConfirming, IsIn as IsAmong, IsOfStart, IsSaid, Reached, StepsBy, reached_closed}
use Rattle.plug_ends.proofs.AskedKinds.{IsBefore, IsStarting, PhaseGoes, asked_connects, event_phase, unplugged_starting}
use Rattle.plug_ends.proofs.AskedLists.{was_few}
use Rattle.plug_ends.proofs.AskedPlaces.{States, state_by, there_by}
use Rattle.plug_ends.proofs.AskedTurns.{IsNoFrame, View, event_goes, heard_goes, view_of}
use Rattle.plug_ends.proofs.AskedWords.{HearsDone, HearsEnd, IsDoneAt, IsEndedAt, WasPlug}
use Rattle.plug_ends.proofs.CallsFine.{all_joined, kept_after}
use Rattle.plug_ends.proofs.CallsHeard.{IsPlans}
use Rattle.plug_ends.proofs.CallsRuns.{all_at, all_both, controller_is, kept_for}
use Rattle.plug_ends.proofs.CallsWorlds.{opening_is}

-- ---- frames that were sent

-- a frame among these
pub record WasIn (sent : List (List ℕ)) (frame : List ℕ) : Type 0 where
  pub number : ℕ
  pub is : slice_get sent number ≡ Some frame

some_is : {A : Type 0} (x y : A) → Some x ≡ Some y → x ≡ y
some_is x y e = cc

none_some : {A : Type 0} {x : A} → ◌≡◌ {A = Option A} None (Some x) → ⊥
none_some e = absurd cc

module _ {A : Type 0} where
  get_front : (xs ys : List A) (number : ℕ) (x : A) → slice_get xs number ≡ Some x → slice_get (xs ++ ys) number ≡ Some x
  get_front [] ys number x e = absurd (none_some e)
  get_front (y ∷ xs) ys zero x e = e
  get_front (y ∷ xs) ys (suc number) x e = get_front xs ys number x e

  get_back : (xs ys : List A) (number : ℕ) (x : A) → slice_get ys number ≡ Some x → (at : ℕ) × (slice_get (xs ++ ys) at ≡ Some x)
  get_back [] ys number x e = (number, e)
  get_back (y ∷ xs) ys number x e =
      let found = get_back xs ys number x e in
      (suc found.0, found.1)

  get_part : (xs ys : List A) (number : ℕ) (x : A) → slice_get (xs ++ ys) number ≡ Some x
      → (slice_get xs number ≡ Some x) ⊎ ((at : ℕ) × (slice_get ys at ≡ Some x))
  get_part [] ys number x e = inr (number, e)
  get_part (y ∷ xs) ys zero x e = inl e
  get_part (y ∷ xs) ys (suc number) x e = get_part xs ys number x e

  get_mapped : {B : Type 0} (f : B → A) (P : B → Type 0) (xs : List B) (number : ℕ) (y : A) → AllByRecursion P xs → slice_get (map f xs) number ≡ Some y
      → (x : B) × P x × (f x ≡ y)
  get_mapped f P [] number y all e = absurd (none_some e)
  get_mapped f P (x ∷ xs) zero y all e = (x, all.0, some_is (f x) y e)
  get_mapped f P (x ∷ xs) (suc number) y all e = get_mapped f P xs number y all.1 e

  get_middle : {B : Type 0} (f : B → A) (front : List B) (x : B) (rest : List B) → (at : ℕ) × (slice_get (map f (front ++ x ∷ rest)) at ≡ Some (f x))
  get_middle f [] x rest = (0, refl)
  get_middle f (y ∷ front) x rest =
      let found = get_middle f front x rest in
      (suc found.0, found.1)

front_in : (sent frames : List (List ℕ)) (frame : List ℕ) → WasIn sent frame → WasIn (sent ++ frames) frame
front_in sent frames frame was = record { number = was.number; is = get_front sent frames was.number frame was.is }

back_in : (sent frames : List (List ℕ)) (frame : List ℕ) → WasIn frames frame → WasIn (sent ++ frames) frame
back_in sent frames frame was =
    let found = get_back sent frames was.number frame was.is in
    record { number = found.0; is = found.1 }

part_in : (sent frames : List (List ℕ)) (frame : List ℕ) → WasIn (sent ++ frames) frame → WasIn sent frame ⊎ WasIn frames frame
part_in sent frames frame was = by_part (get_part sent frames was.number frame was.is)
  where
    by_part : (slice_get sent was.number ≡ Some frame) ⊎ ((at : ℕ) × (slice_get frames at ≡ Some frame)) → WasIn sent frame ⊎ WasIn frames frame
    by_part (inl e) = inl (record { number = was.number; is = e })
    by_part (inr found) = inr (record { number = found.0; is = found.1 })

-- ---- what is known of a world

-- The parameters of a plug with this number ended, at some place.
pub record EndedSome (alarms : List AlarmNotification) (plug : Option PlugRequest) (states : States) (number : ℕ) : Type 0 where
  pub slot : ℕ
  pub subslot : ℕ
  pub ended : Ended alarms plug states slot subslot number

-- An ApplicationReady of one was confirmed.
pub record DoneSome (alarms : List AlarmNotification) (v : View) (states : States) (number : ℕ) : Type 0 where
  pub slot : ℕ
  pub subslot : ℕ
  pub done : Done alarms v states slot subslot number

-- Both ends, after the controller accepted these alarms.
pub record AskingOf (c : Controlling) (station : Station) (live : Live) (sent : List (List ℕ)) (alarms : List AlarmNotification) : Type 0 where
  pub states : States
  pub base : Base alarms (view_of c.live) states
  pub steady : IsSteady c.setup.plan c.live
  pub aimed : IsAimed c.live
  pub good : IsSetup c.setup
  pub real : IsDevice station.identity
  pub before : IsBefore c.live.phase → (alarms ≡ []) × (c.live.stands ≡ false)
  pub few : AreFew alarms
  pub asks : (r : PlugRequest) → c.live.access.plug ≡ Some r → WasIn sent (bytes_of c.setup (said.Parametrizes c.live.device r))
  pub starts : IsStarting c.live.phase → (frame : List ℕ) (number : ℕ) → WasIn sent frame → HearsEnd station.identity frame number → ⊥
  pub ends : (frame : List ℕ) (number : ℕ) → WasIn sent frame → HearsEnd station.identity frame number
      → EndedSome alarms c.live.access.plug states number
  pub dones : (frame : List ℕ) (number : ℕ) → WasIn sent frame → HearsDone station.identity frame number → DoneSome alarms (view_of c.live) states number
  pub callers : AllByRecursion (IsCalledAt c.setup.plan.controller.mac station.identity) sent
  pub again : (answer : small.Kept) → kept_for c.setup live ≡ Some answer → IsQuietAt station.identity answer.frame
  pub asked : IsAskedBy c.setup.plan.controller.mac live.rest.asked

-- ---- what a step does to the request after a plug

-- Each PrmEnd after a plug that was sent then was sent before.
abbrev pub AreEndsBefore : Identity → List (List ℕ) → List (List ℕ) → Type 0
AreEndsBefore identity sent all = (frame : List ℕ) (number : ℕ) → WasIn all frame → HearsEnd identity frame number → WasIn sent frame

-- Each was, or is that of this request.
abbrev pub AreEndsOf : Identity → List (List ℕ) → List (List ℕ) → PlugRequest → Type 0
AreEndsOf identity sent all request =
    (frame : List ℕ) (number : ℕ) → WasIn all frame → HearsEnd identity frame number
    → WasIn sent frame ⊎ ((request.step ≡ PrmEnd) × (request.number ≡ number))

pub record IsSameBy (identity : Identity) (c next : Controlling) (sent all : List (List ℕ)) : Type 0 where
  pub same : next.live.access.plug ≡ c.live.access.plug
  pub ended : AreEndsBefore identity sent all

pub record IsNoneBy (identity : Identity) (c next : Controlling) (sent all : List (List ℕ)) : Type 0 where
  pub none : next.live.access.plug ≡ None
  pub ended : AreEndsBefore identity sent all

pub record IsBegunBy (identity : Identity) (c next : Controlling) (sent all : List (List ℕ)) : Type 0 where
  pub request : PlugRequest
  pub is : next.live.access.plug ≡ Some request
  pub step : request.step ≡ step_from c.setup.plan request.slot request.subslot 0
  pub sequence : request.sequence ≡ call_number c.setup.plan c.live.access.calls
  pub ended : AreEndsOf identity sent all request

pub record IsNextBy (identity : Identity) (c next : Controlling) (sent all : List (List ℕ)) : Type 0 where
  pub request : PlugRequest
  pub was : c.live.access.plug ≡ Some request
  pub number : ℕ
  pub step : request.step ≡ Record number
  pub frame : List ℕ
  pub sent_so : WasIn sent frame
  pub response : Response
  pub hears : heard_by c.setup.plan.controller frame ≡ controller.Responds response
  pub answers : is_plug_answer c.setup request response.header.activity response.header.sequence ≡ true
  pub positive : (is_done response.status ≡ true) ⊎ (c.setup.plan.continue_on_refused_record ≡ true)
  pub after : PlugRequest
  pub is : next.live.access.plug ≡ Some after
  pub slot : after.slot ≡ request.slot
  pub subslot : after.subslot ≡ request.subslot
  pub same : after.number ≡ request.number
  pub from : after.step ≡ step_from c.setup.plan request.slot request.subslot (number + 1)
  pub sequence : after.sequence ≡ call_number c.setup.plan c.live.access.calls
  pub ended : AreEndsOf identity sent all after

abbrev pub StepsOf : Identity → Controlling → Controlling → List (List ℕ) → List (List ℕ) → Type 0
StepsOf identity c next sent all =
    IsSameBy identity c next sent all
    ⊎ (IsNoneBy identity c next sent all ⊎ (IsBegunBy identity c next sent all ⊎ IsNextBy identity c next sent all))

-- ---- what is known of a world, and what a move does, in its own terms

module _ {F : Type 0} where
  pub record AskedAt (alarms : List AlarmNotification) (w : World F) : Type 0 where
    pub asking : AskingOf w.controller w.device.station w.device.live w.sent alarms
    pub request : (r : PlugRequest) → w.controller.live.access.plug ≡ Some r → WasPlug r.slot r.subslot r.number alarms
    pub starts : IsStarting w.controller.live.phase → (frame : List ℕ) (number : ℕ) → WasSent w frame
        → HearsEnd w.device.station.identity frame number → ⊥
    pub ends : (frame : List ℕ) (number : ℕ) → WasSent w frame → HearsEnd w.device.station.identity frame number
        → (slot : ℕ) × (subslot : ℕ) × IsEndedAt alarms w.controller.live slot subslot number
    pub dones : (frame : List ℕ) (number : ℕ) → WasSent w frame → HearsDone w.device.station.identity frame number
        → (slot : ℕ) × (subslot : ℕ) × IsDoneAt alarms w.controller.live slot subslot number

  was_in : (w : World F) (frame : List ℕ) → WasSent w frame → WasIn w.sent frame
  was_in w frame was = record { number = was.number; is = was.is }

  was_sent : (w : World F) (frame : List ℕ) → WasIn w.sent frame → WasSent w frame
  was_sent w frame was = record { number = was.number; is = was.is }

  asked_of : (w : World F) (alarms : List AlarmNotification) → AskingOf w.controller w.device.station w.device.live w.sent alarms → AskedAt alarms w
  asked_of w alarms asking = record {
    asking = asking;
    request = asking.base.request;
    starts = λ s frame number was end. asking.starts s frame number (was_in w frame was) end;
    ends = λ frame number was end. ended_at number (asking.ends frame number (was_in w frame was) end);
    dones = λ frame number was done. done_at number (asking.dones frame number (was_in w frame was) done);
  }
    where
      state_is : (slot subslot : ℕ) (state : PlaceState) → state_at slot subslot w.controller.live.places ≡ Some state → asking.states slot subslot ≡ state
      state_is slot subslot state e = sym (state_by asking.states w.controller.live.places slot subslot state asking.base.by e)

      ended_at : (number : ℕ) → EndedSome alarms w.controller.live.access.plug asking.states number
          → (slot : ℕ) × (subslot : ℕ) × IsEndedAt alarms w.controller.live slot subslot number
      ended_at number some = (
        some.slot,
        some.subslot,
        record {
          plug = some.ended.was;
          plugged = λ later e. some.ended.plugged later (state_is some.slot some.subslot (Plugged later) e);
          writing = λ later e. some.ended.writing later (state_is some.slot some.subslot (Writing_place later) e);
          request = some.ended.request;
        },
      )

      done_at : (number : ℕ) → DoneSome alarms (view_of w.controller.live) asking.states number
          → (slot : ℕ) × (subslot : ℕ) × IsDoneAt alarms w.controller.live slot subslot number
      done_at number some = (
        some.slot,
        some.subslot,
        record {
          plug = some.done.was;
          now = λ up last. there_by asking.states w.controller.live.places some.slot some.subslot asking.base.by (some.done.there up)
              ∙ ap (λ (s : PlaceState). Some s) (some.done.ready up last);
        },
      )

  -- Each PrmEnd after a plug that was sent then was sent before; or it is that of this request.
  abbrev pub AreEnded : World F → World F → Type 0
  AreEnded before after = (frame : List ℕ) (number : ℕ) → WasSent after frame → HearsEnd before.device.station.identity frame number → WasSent before frame

  abbrev pub AreEndedBy : World F → World F → PlugRequest → Type 0
  AreEndedBy before after request = (frame : List ℕ) (number : ℕ) → WasSent after frame → HearsEnd before.device.station.identity frame number
      → WasSent before frame ⊎ ((request.step ≡ PrmEnd) × (request.number ≡ number))

  pub record IsSamePlug (before after : World F) : Type 0 where
    pub same : after.controller.live.access.plug ≡ before.controller.live.access.plug
    pub ended : AreEnded before after

  pub record IsNoPlug (before after : World F) : Type 0 where
    pub none : after.controller.live.access.plug ≡ None
    pub ended : AreEnded before after

  pub record IsBegunPlug (before after : World F) : Type 0 where
    pub request : PlugRequest
    pub is : after.controller.live.access.plug ≡ Some request
    pub step : request.step ≡ step_from before.controller.setup.plan request.slot request.subslot 0
    pub sequence : request.sequence ≡ call_number before.controller.setup.plan before.controller.live.access.calls
    pub ended : AreEndedBy before after request

  pub record IsNextPlug (before after : World F) : Type 0 where
    pub request : PlugRequest
    pub was : before.controller.live.access.plug ≡ Some request
    pub number : ℕ
    pub step : request.step ≡ Record number
    pub frame : List ℕ
    pub sent : WasSent before frame
    pub response : Response
    pub hears : heard_by before.controller.setup.plan.controller frame ≡ controller.Responds response
    pub answers : is_plug_answer before.controller.setup request response.header.activity response.header.sequence ≡ true
    pub positive : (is_done response.status ≡ true) ⊎ (before.controller.setup.plan.continue_on_refused_record ≡ true)
    pub next : PlugRequest
    pub is : after.controller.live.access.plug ≡ Some next
    pub slot : next.slot ≡ request.slot
    pub subslot : next.subslot ≡ request.subslot
    pub same : next.number ≡ request.number
    pub from : next.step ≡ step_from before.controller.setup.plan request.slot request.subslot (number + 1)
    pub sequence : next.sequence ≡ call_number before.controller.setup.plan before.controller.live.access.calls
    pub ended : AreEndedBy before after next

  -- What a move does to the request after a plug.
  abbrev pub AskedGoes : World F → World F → Type 0
  AskedGoes before after = IsSamePlug before after ⊎ (IsNoPlug before after ⊎ (IsBegunPlug before after ⊎ IsNextPlug before after))

  goes_of : (before after : World F) → StepsOf before.device.station.identity before.controller after.controller before.sent after.sent → AskedGoes before after
  goes_of before after (inl it) = inl (record {
    same = it.same;
    ended = λ frame number was end. was_sent before frame (it.ended frame number (was_in after frame was) end);
  })
  goes_of before after (inr (inl it)) = inr (inl (record {
    none = it.none;
    ended = λ frame number was end. was_sent before frame (it.ended frame number (was_in after frame was) end);
  }))
  goes_of before after (inr (inr (inl it))) = inr (inr (inl (record {
    request = it.request;
    is = it.is;
    step = it.step;
    sequence = it.sequence;
    ended = λ frame number was end. end_of_one it.request frame number (it.ended frame number (was_in after frame was) end);
  })))
    where
      end_of_one : (request : PlugRequest) (frame : List ℕ) (number : ℕ) → WasIn before.sent frame ⊎ ((request.step ≡ PrmEnd) × (request.number ≡ number))
          → WasSent before frame ⊎ ((request.step ≡ PrmEnd) × (request.number ≡ number))
      end_of_one request frame number (inl was) = inl (was_sent before frame was)
      end_of_one request frame number (inr own) = inr own
  goes_of before after (inr (inr (inr it))) = inr (inr (inr (record {
    request = it.request;
    was = it.was;
    number = it.number;
    step = it.step;
    frame = it.frame;
    sent = was_sent before it.frame it.sent_so;
    response = it.response;
    hears = it.hears;
    answers = it.answers;
    positive = it.positive;
    next = it.after;
    is = it.is;
    slot = it.slot;
    subslot = it.subslot;
    same = it.same;
    from = it.from;
    sequence = it.sequence;
    ended = λ frame number was end. end_of_one it.after frame number (it.ended frame number (was_in after frame was) end);
  })))
    where
      end_of_one : (request : PlugRequest) (frame : List ℕ) (number : ℕ) → WasIn before.sent frame ⊎ ((request.step ≡ PrmEnd) × (request.number ≡ number))
          → WasSent before frame ⊎ ((request.step ≡ PrmEnd) × (request.number ≡ number))
      end_of_one request frame number (inl was) = inl (was_sent before frame was)
      end_of_one request frame number (inr own) = inr own

-- ---- the laws of the crates below

pub record AskedSo : Type 0 where
  pub device : DeviceSo
  pub frames : FramesSo
  pub begins : (setup : Setup) → IsSteady setup.plan (first_live setup.plan)
  pub goes_on : (setup : Setup) (live : ControllerLive) (one : Event) → IsSteady setup.plan live
      → GoesOn setup.plan (said_in setup (heard_by setup.plan.controller) one) live (turn_of setup live one)
  pub kinds : (setup : Setup) (live : ControllerLive) (one : Event) → IsTurn setup live (came_by setup one) (turn_of setup live one)
  pub follows : (setup : Setup) (could : Bool) (turn : Turn) → MayFollow setup turn (after_turn setup could turn)
  pub due_so : (setup : Setup) (is_due : Bool) (live : ControllerLive) → MayBegin setup live (turn_due setup is_due live)
  pub flows : (setup : Setup) (live : ControllerLive) → MayBegin setup (flow_later live) (flow_begun setup live)
  pub aimed_first : (setup : Setup) → IsSetup setup → IsAimed (first_live setup.plan)
  pub aimed : (mac : Mac) (setup : Setup) (live : ControllerLive) (one : Event) → IsSetup setup → IsAimed live → IsEventFrom mac setup one
      → IsAimed (turn_of setup live one).live × AllByRecursion (IsAimedAt mac) (turn_of setup live one).sent

-- ---- small things

good_from : (mac : Mac) (heard : controller.Heard) → IsGood mac heard → IsHeardFrom mac heard
good_from mac (controller.Answers source answer) good = good.1
good_from mac (controller.Calls caller call) good = good
good_from mac controller.Nothing good = tt
good_from mac (controller.Responds response) good = tt
good_from mac (controller.Refuses refusal) good = tt
good_from mac (controller.Cyclic source frame_id body) good = tt
good_from mac (controller.Alarms source under header reported) good = tt

-- a controller without a relation accepts no alarm
of_none : (live : ControllerLive) (source : Mac) (header : Header) (message : AlarmReported) → live.stands ≡ false → taken_of Low live source header message ≡ []
of_none live source header (notice.Data number report) e = by_tests (is_priority Low report.priority) live.stands e
  where
    by_tests : (low stands : Bool) → stands ≡ false
        → (if low && (stands && is_alarm live.cyclic.route source header) then more_taken [] report.notification (taken_as (end_of live Low).seen number) else []) ≡ []
    by_tests true true f = absurd cc
    by_tests true false f = refl
    by_tests false stands f = refl
of_none live source header (notice.Ack number) e = refl
of_none live source header notice.Nack e = refl
of_none live source header (notice.Abort status) e = refl

by_none : (live : ControllerLive) (heard : controller.Heard) → live.stands ≡ false → taken_by Low live heard ≡ []
by_none live (controller.Alarms source under header message) e = of_none live source header message e
by_none live controller.Nothing e = refl
by_none live (controller.Answers source answer) e = refl
by_none live (controller.Responds response) e = refl
by_none live (controller.Refuses refusal) e = refl
by_none live (controller.Calls caller call) e = refl
by_none live (controller.Cyclic source frame_id body) e = refl

frames_are : (old : Controlling) (one : Event) → (step_of old one).frames ≡ map (bytes_of old.setup) (turn_of old.setup old.live one).sent
unfolding step_of
frames_are old one = refl

module _ (so : AskedSo) {F : Type 0} where
  abbrev pub AskingAt : World F → List AlarmNotification → Type 0
  AskingAt w alarms = AskingOf w.controller w.device.station w.device.live w.sent alarms

  -- what a move does to the request after a plug
  abbrev AskedBy : World F → World F → Type 0
  AskedBy before after = StepsOf before.device.station.identity before.controller after.controller before.sent after.sent

  module _ {S : ℕ} (as_flash : Flash F S) (before after : World F) (raised taken : List AlarmNotification) (follows : FollowsAt Low before raised taken)
      (asking : AskingAt before taken) where
    abbrev c : Controlling
    c = before.controller

    abbrev station : Station
    station = before.device.station

    abbrev live : Live
    live = before.device.live

    abbrev After : List AlarmNotification → Type 0
    After all = AskingAt after all × AskedBy before after

    same_asking : after ≡ before → After taken
    same_asking same = (
      subst (λ (w : World F). AskingAt w taken) (sym same) asking,
      subst (λ (w : World F). AskedBy before w) (sym same) (inl (record { same = refl; ended = λ frame number was hears. was })),
    )

    -- ---- the device

    plans : IsPlans c.setup live.rest.link
    plans l e = (follows.sized l e).same

    kept_quiet : (heard : Heard) → IsPlanned (rules_of c.setup station) c.setup.activity station.named live.rest.real heard → (frame : List ℕ)
        → IsOfKept heard live frame → IsQuietAt station.identity frame
    kept_quiet heard planned frame owed =
        let call : IsPlannedCall (rules_of c.setup station) c.setup.activity station.named live.rest.real owed.call =
        subst (λ (h : Heard). IsPlanned (rules_of c.setup station) c.setup.activity station.named live.rest.real h) owed.is planned in
        let there : kept_of c.setup.activity live.rest.calls ≡ Some owed.kept = ap (λ (activity : List ℕ). kept_of activity live.rest.calls) (sym call.own)
        ∙ owed.there in
        subst (λ (f : List ℕ). IsQuietAt station.identity f) owed.same
        (asking.again (kept_in owed.kept) (ap (λ (k : Option Answer). option_map kept_in k) there))

    step_quiet : (outcomes : List Outcome) (heard : Heard) → IsCalledBy c.setup.plan.controller.mac heard
        → IsPlanned (rules_of c.setup station) c.setup.activity station.named live.rest.real heard
        → AreSendable station.identity (heard_step outcomes station live heard).sent
        → AllByRecursion (IsQuietAt station.identity) (heard_step outcomes station live heard).frames
    unfolding heard_step handled_step
    step_quiet outcomes heard called planned sendable =
        messages_quiet so.frames c.setup station.identity asking.good asking.real follows.apart heard live called asking.asked plans follows.orderly
        (kept_quiet heard planned) (heard_step outcomes station live heard).sent
        (so.device.turns (rules_of c.setup station) c.setup.activity outcomes station live heard planned).owed sendable

    -- its frames end no parameters, and confirm nothing
    end_before : (frames : List (List ℕ)) → AllByRecursion (IsQuietAt station.identity) frames → (frame : List ℕ) (number : ℕ)
        → WasIn (before.sent ++ frames) frame → HearsEnd station.identity frame number → WasIn before.sent frame
    end_before frames quiet frame number was end = by_part (part_in before.sent frames frame was)
      where
        by_part : WasIn before.sent frame ⊎ WasIn frames frame → WasIn before.sent frame
        by_part (inl old) = old
        by_part (inr now) =
            absurd (quiet_end station.identity frame number (all_at (IsQuietAt station.identity) frames quiet now.number frame now.is) end)

    done_before : (frames : List (List ℕ)) → AllByRecursion (IsQuietAt station.identity) frames → (frame : List ℕ) (number : ℕ)
        → WasIn (before.sent ++ frames) frame → HearsDone station.identity frame number → WasIn before.sent frame
    done_before frames quiet frame number was done = by_part (part_in before.sent frames frame was)
      where
        by_part : WasIn before.sent frame ⊎ WasIn frames frame → WasIn before.sent frame
        by_part (inl old) = old
        by_part (inr now) =
            absurd (quiet_done station.identity frame number (all_at (IsQuietAt station.identity) frames quiet now.number frame now.is) done)

    all_called : (frames : List (List ℕ)) → AllByRecursion (IsQuietAt station.identity) frames
        → AllByRecursion (IsCalledAt c.setup.plan.controller.mac station.identity) frames
    all_called [] quiet = tt
    all_called (frame ∷ frames) quiet = (quiet_called c.setup.plan.controller.mac station.identity frame quiet.0, all_called frames quiet.1)

    device_asking : (heard : Heard) → IsCalledBy c.setup.plan.controller.mac heard → IsMeantAtDevice before heard → AtDevice as_flash before heard after
        → After taken
    device_asking heard called meant made =
        let hears = made.hears in
        let rules = rules_of c.setup station in
        let outcomes = hears.steps.outcomes in
        let step = heard_step outcomes station live heard in
        let turn = so.device.turns rules c.setup.activity outcomes station live heard meant.planned in
        let quiet = step_quiet outcomes heard called meant.planned hears.steps.sendable in
        let steps = so.device.goes_on rules c.setup.activity outcomes station live heard follows.orderly follows.own meant.planned
        (meant.sent outcomes hears.steps.sendable) in
        let all_is : after.sent ≡ before.sent ++ step.frames = hears.behind ∙ ap (λ (fs : List (List ℕ)). before.sent ++ fs) hears.steps.frames in
        let now : AskingOf c station step.live (before.sent ++ step.frames) taken = record {
          states = asking.states;
          base = asking.base;
          steady = asking.steady;
          aimed = asking.aimed;
          good = asking.good;
          real = asking.real;
          before = asking.before;
          few = asking.few;
          asks = λ r e. front_in before.sent step.frames _ (asking.asks r e);
          starts = λ s frame number was end. asking.starts s frame number (end_before step.frames quiet frame number was end) end;
          ends = λ frame number was end. asking.ends frame number (end_before step.frames quiet frame number was end) end;
          dones = λ frame number was done. asking.dones frame number (done_before step.frames quiet frame number was done) done;
          callers = all_joined (IsCalledAt c.setup.plan.controller.mac station.identity) before.sent step.frames asking.callers (all_called step.frames quiet);
          again = kept_after rules (IsQuietAt station.identity) (heard_as (is_planned c.setup) heard) (device.small_of c.setup.activity live)
              (device.small_of c.setup.activity step.live) step.frames steps asking.again quiet;
          asked = asked_later c.setup.plan.controller.mac heard live.rest.asked step.live.rest.asked called asking.asked turn.asked;
        } in (
          subst (λ (old_one : Controlling). AskingOf old_one after.device.station after.device.live after.sent taken) (sym made.controller)
              (subst (λ (s : Station). AskingOf c s after.device.live after.sent taken) (sym hears.steps.same)
              (subst (λ (l : Live). AskingOf c station l after.sent taken) (sym hears.steps.live)
              (subst (λ (fs : List (List ℕ)). AskingOf c station step.live fs taken) (sym all_is) now))),
          inl (record {
            same = ap (λ (old_one : Controlling). old_one.live.access.plug) made.controller;
            ended = λ frame number was end.
                end_before step.frames quiet frame number (subst (λ (fs : List (List ℕ)). WasIn fs frame) all_is was) end;
          }),
        )

    -- ---- the controller

    -- a response in a frame that was sent
    abbrev IsResponse : Response → Type 0
    IsResponse response = (frame : List ℕ) × WasIn before.sent frame × (heard_by c.setup.plan.controller frame ≡ controller.Responds response)

    abbrev ReachedBy : List AlarmNotification → View → List said.Sent → Type 0
    ReachedBy all v sent = Reached c.setup c.live taken asking.states IsResponse all v sent

    unbegun : c.live.asked ≡ Some asks.Connect → taken ≡ []
    unbegun e = (asking.before (asked_connects c.setup.plan c.live asking.steady e)).0

    module _ (one : Event) (all : List AlarmNotification) (from : IsEventFrom station.identity.mac c.setup one) (more : c.live.stands ≡ false → all ≡ taken)
        (few : AreFew all) (reached : Reached c.setup c.live taken asking.states IsResponse all (view_of (turn_of c.setup c.live one).live) (turn_of c.setup c.live one).sent) where
      abbrev turn : Turn
      turn = turn_of c.setup c.live one

      abbrev frames : List (List ℕ)
      frames = map (bytes_of c.setup) turn.sent

      aimed : IsAimed turn.live × AllByRecursion (IsAimedAt station.identity.mac) turn.sent
      aimed = so.aimed station.identity.mac c.setup c.live one asking.good asking.aimed from

      phase : PhaseGoes c.setup.plan c.live turn.live
      phase = event_phase c.setup c.live asking.steady (so.follows c.setup) (so.flows c.setup c.live) one (so.kinds c.setup c.live one)

      steady : IsSteady c.setup.plan turn.live
      steady = (so.goes_on c.setup c.live one asking.steady).in_step

      is_small : (number : ℕ) → number < length all → number < 65536
      is_small number lt = by_length (length all) lt few.1
        where
          by_length : (n : ℕ) → number < n → n ≤ 2048 → number < 65536
          by_length n less most = omega arith

      small_said : (message : said.Sent) → IsSaid c.setup all (view_of turn.live) reached.states message → IsSmallIn message
      small_said (said.Parametrizes to request) is =
          is_small request.number (was_few request.slot request.subslot request.number all (reached.base.request request is.0))
      small_said (said.Requests to request) is = tt
      small_said (said.Accesses to request octets) is = tt
      small_said (said.Agrees caller answer) is = tt
      small_said (said.Cycles route shown counter) is = tt
      small_said (said.Confirms route priority header ack) is = tt
      small_said (said.Replies route priority header) is = tt
      small_said (said.Ends route header reason) is = tt

      abbrev IsSent : said.Sent → Type 0
      IsSent message = IsAimedAt station.identity.mac message × IsSaid c.setup all (view_of turn.live) reached.states message

      sent_so : AllByRecursion IsSent turn.sent
      sent_so = all_both (IsAimedAt station.identity.mac) (IsSaid c.setup all (view_of turn.live) reached.states) turn.sent aimed.1 reached.said

      -- a PrmEnd after a plug that is sent now is that of the request that waits
      record NewEnd (frame : List ℕ) (number : ℕ) : Type 0 where
        request : PlugRequest
        plug : turn.live.access.plug ≡ Some request
        step : request.step ≡ PrmEnd
        number_is : request.number ≡ number
        frame_is : bytes_of c.setup (said.Parametrizes turn.live.device request) ≡ frame

      end_by : (message : said.Sent) (frame : List ℕ) (number : ℕ) → IsEndOf message number → IsSaid c.setup all (view_of turn.live) reached.states message
          → bytes_of c.setup message ≡ frame → NewEnd frame number
      end_by message frame number is said_so e =
          let own : IsSaid c.setup all (view_of turn.live) reached.states (said.Parametrizes is.to is.request) =
          subst (λ (m : said.Sent). IsSaid c.setup all (view_of turn.live) reached.states m) is.is said_so in
          record {
            request = is.request;
            plug = own.0;
            step = is.step;
            number_is = is.number_is;
            frame_is = ap (λ (to : Mac). bytes_of c.setup (said.Parametrizes to is.request)) (sym own.1)
                ∙ (ap (λ (m : said.Sent). bytes_of c.setup m) (sym is.is) ∙ e);
          }

      new_end : (frame : List ℕ) (number : ℕ) → WasIn frames frame → HearsEnd station.identity frame number → NewEnd frame number
      new_end frame number was end =
          let found = get_mapped (bytes_of c.setup) IsSent turn.sent was.number frame sent_so was.is in
          end_by found.0 frame number
          (said_end so.frames c.setup station.identity asking.good asking.real found.0 number found.1.0 (small_said found.0 found.1.1)
          (subst (λ (f : List ℕ). HearsEnd station.identity f number) (sym found.2) end)) found.1.1 found.2

      done_by : (number : ℕ) (answer : Response) → IsReadAs 0x8113 answer.blocks number
          → IsOfStart answer ⊎ IsConfirming c.setup all (view_of turn.live) reached.states answer → DoneSome all (view_of turn.live) reached.states number
      done_by number answer read (inl start) =
          absurd (start_no_number so.frames c.setup station.identity asking.good asking.real start.call start.block number
          (subst (λ (one_answer : Response). IsReadAs 0x8113 one_answer.blocks number) start.is read))
      done_by number answer read (inr confirming) = record {
        slot = confirming.slot;
        subslot = confirming.subslot;
        done = subst (λ (n : ℕ). Done all (view_of turn.live) reached.states confirming.slot confirming.subslot n)
            (confirms_number so.frames c.setup station.identity asking.good asking.real confirming.call confirming.block number confirming.right
            (is_small confirming.block.alarm_sequence_number
            (was_few confirming.slot confirming.subslot confirming.block.alarm_sequence_number all confirming.done.was))
            (subst (λ (one_answer : Response). IsReadAs 0x8113 one_answer.blocks number) confirming.is read))
            confirming.done;
      }

      done_of : (message : said.Sent) (number : ℕ) → IsDoneOf message number → IsSaid c.setup all (view_of turn.live) reached.states message
          → DoneSome all (view_of turn.live) reached.states number
      done_of message number is said_so =
          done_by number is.answer is.read (subst (λ (m : said.Sent). IsSaid c.setup all (view_of turn.live) reached.states m) is.is said_so)

      new_done : (frame : List ℕ) (number : ℕ) → WasIn frames frame → HearsDone station.identity frame number
          → DoneSome all (view_of turn.live) reached.states number
      new_done frame number was done =
          let found = get_mapped (bytes_of c.setup) IsSent turn.sent was.number frame sent_so was.is in
          done_of found.0 number
          (said_done so.frames c.setup station.identity asking.good asking.real found.0 number found.1.0
          (subst (λ (f : List ℕ). HearsDone station.identity f number) (sym found.2) done)) found.1.1

      said_called : (messages : List said.Sent) → AllByRecursion (IsAimedAt station.identity.mac) messages
          → AllByRecursion (IsCalledAt c.setup.plan.controller.mac station.identity) (map (bytes_of c.setup) messages)
      said_called [] those = tt
      said_called (message ∷ messages) those =
          (said_mine so.frames c.setup station.identity asking.good asking.real message those.0, said_called messages those.1)

      -- the request that waits was sent
      old_device : (r : PlugRequest) → c.live.access.plug ≡ Some r → turn.live.device ≡ c.live.device
      old_device r e = by_device reached.device
        where
          by_device : (turn.live.device ≡ c.live.device) ⊎ (c.live.access.plug ≡ None) → turn.live.device ≡ c.live.device
          by_device (inl same) = same
          by_device (inr none) = absurd (none_some (sym none ∙ e))

      old_asks : (r : PlugRequest) → c.live.access.plug ≡ Some r → WasIn before.sent (bytes_of c.setup (said.Parametrizes turn.live.device r))
      old_asks r e =
          subst (λ (to : Mac). WasIn before.sent (bytes_of c.setup (said.Parametrizes to r))) (sym (old_device r e)) (asking.asks r e)

      now_asks : (r : PlugRequest) → turn.live.access.plug ≡ Some r
          → WasIn (before.sent ++ frames) (bytes_of c.setup (said.Parametrizes turn.live.device r))
      now_asks r e = by_sends (reached.sends r e)
        where
          by_sends : (c.live.access.plug ≡ Some r) ⊎ IsAmong (said.Parametrizes turn.live.device r) turn.sent
              → WasIn (before.sent ++ frames) (bytes_of c.setup (said.Parametrizes turn.live.device r))
          by_sends (inl was) = front_in before.sent frames _ (old_asks r was)
          by_sends (inr is) =
              let found = get_middle (bytes_of c.setup) is.front (said.Parametrizes turn.live.device r) is.rest in
              back_in before.sent frames _ (record {
                number = found.0;
                is = ap (λ (messages : List said.Sent). slice_get (map (bytes_of c.setup) messages) found.0) is.are ∙ found.1;
              })

      now_starts : IsStarting turn.live.phase → (frame : List ℕ) (number : ℕ) → WasIn (before.sent ++ frames) frame → HearsEnd station.identity frame number → ⊥
      now_starts s frame number was end = by_part (part_in before.sent frames frame was)
        where
          by_part : WasIn before.sent frame ⊎ WasIn frames frame → ⊥
          by_part (inl old) = asking.starts (phase.phase.starting s) frame number old end
          by_part (inr now) = none_some (sym (unplugged_starting c.setup.plan turn.live steady s) ∙ (new_end frame number now end).plug)

      now_ends : (frame : List ℕ) (number : ℕ) → WasIn (before.sent ++ frames) frame → HearsEnd station.identity frame number
          → EndedSome all turn.live.access.plug reached.states number
      now_ends frame number was end = by_part (part_in before.sent frames frame was)
        where
          by_part : WasIn before.sent frame ⊎ WasIn frames frame → EndedSome all turn.live.access.plug reached.states number
          by_part (inl old) =
              let some = asking.ends frame number old end in
              record { slot = some.slot; subslot = some.subslot; ended = reached.ends some.slot some.subslot number some.ended }
          by_part (inr now) =
              let some = new_end frame number now end in
              record {
                slot = some.request.slot;
                subslot = some.request.subslot;
                ended = subst (λ (n : ℕ). Ended all turn.live.access.plug reached.states some.request.slot some.request.subslot n) some.number_is
                    (reached.base.ending some.request some.plug some.step);
              }

      now_dones : (frame : List ℕ) (number : ℕ) → WasIn (before.sent ++ frames) frame → HearsDone station.identity frame number
          → DoneSome all (view_of turn.live) reached.states number
      now_dones frame number was done = by_part (part_in before.sent frames frame was)
        where
          by_part : WasIn before.sent frame ⊎ WasIn frames frame → DoneSome all (view_of turn.live) reached.states number
          by_part (inl old) =
              let some = asking.dones frame number old done in
              record { slot = some.slot; subslot = some.subslot; done = reached.dones some.slot some.subslot number some.done }
          by_part (inr now) = new_done frame number now done

      now_before : IsBefore turn.live.phase → (all ≡ []) × (turn.live.stands ≡ false)
      now_before b =
          let was = asking.before (phase.phase.before_too b) in
          (more was.1 ∙ was.0, by_stands was.1 (phase.stands b))
        where
          by_stands : c.live.stands ≡ false → (turn.live.stands ≡ c.live.stands) ⊎ (turn.live.stands ≡ false) → turn.live.stands ≡ false
          by_stands down (inl same) = same ∙ down
          by_stands down (inr over) = over

      now_asking : AskingOf (with_live c turn.live) station live (before.sent ++ frames) all
      now_asking = record {
        states = reached.states;
        base = reached.base;
        steady = steady;
        aimed = aimed.0;
        good = asking.good;
        real = asking.real;
        before = now_before;
        few = few;
        asks = now_asks;
        starts = now_starts;
        ends = now_ends;
        dones = now_dones;
        callers = all_joined (IsCalledAt c.setup.plan.controller.mac station.identity) before.sent frames asking.callers (said_called turn.sent aimed.1);
        again = asking.again;
        asked = asking.asked;
      }

      -- what becomes of the request
      abbrev Steps : Type 0
      Steps = StepsOf station.identity c (with_live c turn.live) before.sent (before.sent ++ frames)

      ends_same : turn.live.access.plug ≡ c.live.access.plug → AreEndsBefore station.identity before.sent (before.sent ++ frames)
      ends_same same frame number was end = by_part (part_in before.sent frames frame was)
        where
          by_part : WasIn before.sent frame ⊎ WasIn frames frame → WasIn before.sent frame
          by_part (inl old) = old
          by_part (inr now) =
              let some = new_end frame number now end in
              subst (λ (f : List ℕ). WasIn before.sent f) some.frame_is (old_asks some.request (sym same ∙ some.plug))

      ends_none : turn.live.access.plug ≡ None → AreEndsBefore station.identity before.sent (before.sent ++ frames)
      ends_none none frame number was end = by_part (part_in before.sent frames frame was)
        where
          by_part : WasIn before.sent frame ⊎ WasIn frames frame → WasIn before.sent frame
          by_part (inl old) = old
          by_part (inr now) = absurd (none_some (sym none ∙ (new_end frame number now end).plug))

      ends_of : (request : PlugRequest) → turn.live.access.plug ≡ Some request → AreEndsOf station.identity before.sent (before.sent ++ frames) request
      ends_of request e frame number was end = by_part (part_in before.sent frames frame was)
        where
          by_part : WasIn before.sent frame ⊎ WasIn frames frame → WasIn before.sent frame ⊎ ((request.step ≡ PrmEnd) × (request.number ≡ number))
          by_part (inl old) = inl old
          by_part (inr now) =
              let some = new_end frame number now end in
              let same = some_is some.request request (sym some.plug ∙ e) in
              inr (sym (ap (λ (r : PlugRequest). r.step) same) ∙ some.step, sym (ap (λ (r : PlugRequest). r.number) same) ∙ some.number_is)

      now_steps : Steps
      now_steps = by_numbers phase.numbers
        where
          by_steps : ((r : PlugRequest) → turn.live.access.plug ≡ Some r → r.sequence ≡ call_number c.setup.plan c.live.access.calls)
              → StepsBy c.setup IsResponse c.live.access.plug turn.live.access.plug → Steps
          by_steps numbers (inl same) = inl (record { same = same; ended = ends_same same })
          by_steps numbers (inr (inl none)) = inr (inl (record { none = none; ended = ends_none none }))
          by_steps numbers (inr (inr (inl begins))) = inr (inr (inl (record {
            request = begins.request;
            is = begins.is;
            step = begins.first;
            sequence = numbers begins.request begins.is;
            ended = ends_of begins.request begins.is;
          })))
          by_steps numbers (inr (inr (inr next))) = inr (inr (inr (record {
            request = next.request;
            was = next.was;
            number = next.number;
            step = next.step;
            frame = next.hears.0;
            sent_so = next.hears.1;
            response = next.response;
            hears = next.hears.2;
            answers = next.answers;
            positive = next.positive;
            after = next.next;
            is = next.is;
            slot = next.slot;
            subslot = next.subslot;
            same = next.same;
            from = next.from;
            sequence = numbers next.next next.is;
            ended = ends_of next.next next.is;
          })))

          by_numbers : (turn.live.access.plug ≡ c.live.access.plug)
              ⊎ ((r : PlugRequest) → turn.live.access.plug ≡ Some r → r.sequence ≡ call_number c.setup.plan c.live.access.calls) → Steps
          by_numbers (inl same) = inl (record { same = same; ended = ends_same same })
          by_numbers (inr numbers) = by_steps numbers reached.steps

      steps_asking : after ≡ at_controller before one → After all
      steps_asking happens =
          let there : World F = record { device = before.device; controller = with_live c turn.live; sent = before.sent ++ frames } in
          let same : after ≡ there =
          happens ∙ (ap (λ (next : Controlling). record { device = before.device; controller = next; sent = before.sent ++ (step_of c one).frames }) (controller_is c one)
          ∙ ap (λ (fs : List (List ℕ)). record { device = before.device; controller = with_live c turn.live; sent = before.sent ++ fs }) (frames_are c one)) in (
            subst (λ (w : World F). AskingAt w all) (sym same) now_asking,
            subst (λ (w : World F). AskedBy before w) (sym same) now_steps,
          )

    -- ---- a move

    no_more : (all : List AlarmNotification) → all ≡ taken → After taken → After all
    no_more all e is = (subst (λ (xs : List AlarmNotification). AskingAt after xs) (sym e) is.0, is.1)

    other_asking : (one : Event) → IsNoFrame one → IsEventFrom station.identity.mac c.setup one → AreFew (taken ++ []) → after ≡ at_controller before one
        → After (taken ++ [])
    other_asking one plain from few happens =
        no_more (taken ++ []) (append-nil taken)
        (steps_asking one taken from (λ down. refl) (subst (λ (xs : List AlarmNotification). AreFew xs) (append-nil taken) few)
        (event_goes c.setup c.live taken AreFew IsResponse ReachedBy
        (reached_closed c.setup c.live taken asking.states IsResponse asking.base unbegun) asking.steady (so.follows c.setup) (so.due_so c.setup) one plain).so
        happens)

    frame_asking : (octets : List ℕ) → WasIn before.sent octets → IsGood station.identity.mac (heard_by c.setup.plan.controller octets) → (skipped : Bool)
        → AreFew (taken ++ taken_in Low skipped c octets) → Comes as_flash skipped before Controller octets after
        → After (taken ++ taken_in Low skipped c octets)
    frame_asking octets was good true few happens = no_more (taken ++ []) (append-nil taken) (same_asking happens)
    frame_asking octets was good false few happens =
        let heard = heard_by c.setup.plan.controller octets in
        steps_asking (event.Frame (record { items = octets })) (taken ++ taken_by Low c.live (heard_by c.setup.plan.controller octets))
        (good_from station.identity.mac heard good)
        (λ down. ap (λ (xs : List AlarmNotification). taken ++ xs) (by_none c.live heard down) ∙ append-nil taken) few
        (heard_goes c.setup c.live taken AreFew IsResponse ReachedBy
        (reached_closed c.setup c.live taken asking.states IsResponse asking.base unbegun) asking.steady (so.follows c.setup) (so.due_so c.setup)
        station.identity.mac heard good (λ response e. (octets, was, e)) few).so
        happens

    delivered_asking : (number : ℕ) (octets : Option (List ℕ)) → slice_get before.sent number ≡ octets
        → AreFew (taken ++ taken_from Low before octets) → Delivers as_flash octets before Controller after → After (taken ++ taken_from Low before octets)
    delivered_asking number None there few happens = no_more (taken ++ []) (append-nil taken) (same_asking happens)
    delivered_asking number (Some octets) there few happens =
        frame_asking octets (record { number = number; is = there })
        (all_at (IsIn Low c.setup station.identity follows.relation) before.sent follows.frames number octets there).good
        (is_skipped before.device before.controller Controller octets) few happens

    heard_asking : (octets : List ℕ) → IsCalledAt c.setup.plan.controller.mac station.identity octets → (skipped : Bool)
        → IsMeantAtDevice before (heard_of station.identity (Frame (record { items = octets }))) → Comes as_flash skipped before Device octets after → After taken
    heard_asking octets called true meant happens = same_asking happens
    heard_asking octets called false meant happens = device_asking (heard_of station.identity (Frame (record { items = octets }))) called meant happens

    comes_asking : (number : ℕ) (octets : Option (List ℕ)) → slice_get before.sent number ≡ octets
        → ((frame : List ℕ) → octets ≡ Some frame → IsMeantAtDevice before (heard_of station.identity (Frame (record { items = frame }))))
        → Delivers as_flash octets before Device after → After taken
    comes_asking number None there meant happens = same_asking happens
    comes_asking number (Some octets) there meant happens =
        heard_asking octets (all_at (IsCalledAt c.setup.plan.controller.mac station.identity) before.sent asking.callers number octets there)
        (is_skipped before.device before.controller Device octets) (meant octets refl) happens

    none_asking : After taken → After (taken ++ [])
    none_asking is = no_more (taken ++ []) (append-nil taken) is

    one_asking : (one : Move) → IsMeant before one → AreFew (taken ++ taken_with Low before one) → Happens as_flash before one after
        → After (taken ++ taken_with Low before one)
    one_asking (move.Deliver Device number) meant few happens = none_asking (comes_asking number (slice_get before.sent number) refl meant happens)
    one_asking (move.Deliver Controller number) meant few happens = delivered_asking number (slice_get before.sent number) refl few happens
    one_asking (move.Tick Device) meant few happens = none_asking (device_asking Ticks tt meant happens)
    one_asking (move.Tick Controller) meant few happens = other_asking event.Tick tt tt few happens
    one_asking (move.Application local) meant few happens = none_asking (device_asking (Applied local) tt meant happens)
    one_asking (move.Neighbour neighbour) meant few happens = none_asking (device_asking (Met (option_map peer_as neighbour)) tt meant happens)
    one_asking (move.Give slot subslot value) meant few happens = other_asking (event.Give slot subslot value) tt tt few happens
    one_asking (move.OutputStatus slot subslot is_good) meant few happens = other_asking (event.Status slot subslot is_good) tt tt few happens
    one_asking (move.Read slot subslot index) meant few happens = other_asking (event.Read slot subslot index) tt tt few happens
    one_asking (move.Write slot subslot index octets) meant few happens = other_asking (event.Write slot subslot index octets) tt tt few happens
    one_asking move.Stop meant few happens = other_asking event.Stop tt tt few happens

  -- a move keeps what is known, if the alarms are numbered and not too many
  pub one_asked : {S : ℕ} (as_flash : Flash F S) (before after : World F) (raised taken : List AlarmNotification) → FollowsAt Low before raised taken
      → AskedAt taken before → (one : Move) → Happens as_flash before one after → IsMeant before one
      → AreNumberedFrom 0 (taken ++ taken_with Low before one) → length (taken ++ taken_with Low before one) ≤ 2048
      → AskedAt (taken ++ taken_with Low before one) after × AskedGoes before after
  one_asked as_flash before after raised taken follows asked one happens meant numbered few =
      let both = one_asking as_flash before after raised taken follows asked.asking one meant (numbered, few) happens in
      (asked_of after (taken ++ taken_with Low before one) both.0, goes_of before after both.1)

  -- ---- the start

  module _ (setup : Setup) (identity : Identity) (good : IsSetup setup) (real : IsDevice identity) (first : World F) (begins : Begins setup identity first) where
    abbrev here : Setup
    here = first.controller.setup

    abbrev there : Station
    there = first.device.station

    good_here : IsSetup here
    good_here = subst (λ (s : Setup). IsSetup s) (sym begins.of_setup) good

    real_here : IsDevice there.identity
    real_here = subst (λ (i : Identity). IsDevice i) (sym begins.of_device) real

    live_here : first.controller.live ≡ first_live here.plan
    live_here = begins.made ∙ ap (λ (s : Setup). first_live s.plan) (sym begins.of_setup)

    abbrev opening : said.Sent
    opening = said.Requests first.controller.live.device asks.Identify

    sent_here : first.sent ≡ bytes_of here opening ∷ []
    sent_here = begins.opened ∙ ap (λ (frame : List ℕ). frame ∷ []) (opening_is first.controller)

    aimed_here : IsAimed first.controller.live
    aimed_here = subst (λ (l : ControllerLive). IsAimed l) (sym live_here) (so.aimed_first here good_here)

    unkept_here : kept_for here first.device.live ≡ None
    unkept_here = ap (λ (answer : Option Answer). option_map kept_in answer)
        (ap (λ (s : Setup). kept_of s.activity first.device.live.rest.calls) begins.of_setup ∙ begins.uncalled)

    -- all that was sent is the opening frame
    opening_alone : (sent : List (List ℕ)) (frame : List ℕ) → sent ≡ bytes_of here opening ∷ [] → WasIn sent frame → bytes_of here opening ≡ frame
    opening_alone sent frame e was = by_number was.number (ap (λ (fs : List (List ℕ)). slice_get fs was.number) (sym e) ∙ was.is)
      where
        by_number : (number : ℕ) → slice_get (bytes_of here opening ∷ []) number ≡ Some frame → bytes_of here opening ≡ frame
        by_number zero f = some_is (bytes_of here opening) frame f
        by_number (suc number) f = absurd (none_some f)

    no_end : (frame : List ℕ) (number : ℕ) → WasIn first.sent frame → HearsEnd there.identity frame number → ⊥
    no_end frame number was end = apart (said_end so.frames here there.identity good_here real_here opening number (aimed_here.device, tt) tt
        (subst (λ (f : List ℕ). HearsEnd there.identity f number) (sym (opening_alone first.sent frame sent_here was)) end))
      where
        other : (to : Mac) (request : PlugRequest) → opening ≡ said.Parametrizes to request → ⊥
        other to request e = absurd cc

        apart : IsEndOf opening number → ⊥
        apart is = other is.to is.request is.is

    no_done : (frame : List ℕ) (number : ℕ) → WasIn first.sent frame → HearsDone there.identity frame number → ⊥
    no_done frame number was done = apart (said_done so.frames here there.identity good_here real_here opening number (aimed_here.device, tt)
        (subst (λ (f : List ℕ). HearsDone there.identity f number) (sym (opening_alone first.sent frame sent_here was)) done))
      where
        apart : IsDoneOf opening number → ⊥
        apart is = other is.caller is.answer is.is
          where
            other : (caller : _) (answer : Response) → opening ≡ said.Agrees caller answer → ⊥
            other caller answer e = absurd cc

    first_base : Base [] (view_of (first_live here.plan)) (λ slot subslot. There)
    first_base = record {
      by = tt;
      told = λ slot subslot. tt;
      request = λ r e. absurd (none_some e);
      turn = λ r e. absurd (none_some e);
      ending = λ r e. absurd (none_some e);
    }

    no_plug : (r : PlugRequest) → first.controller.live.access.plug ≡ Some r → ⊥
    no_plug r e = none_some (sym (ap (λ (l : ControllerLive). l.access.plug) live_here) ∙ e)

    first_asking : AskingAt first []
    first_asking = record {
      states = λ slot subslot. There;
      base = subst (λ (l : ControllerLive). Base [] (view_of l) (λ slot subslot. There)) (sym live_here) first_base;
      steady = subst (λ (l : ControllerLive). IsSteady here.plan l) (sym live_here) (so.begins here);
      aimed = aimed_here;
      good = good_here;
      real = real_here;
      before = λ b. (refl, ap (λ (l : ControllerLive). l.stands) live_here);
      few = (tt, omega arith);
      asks = λ r e. absurd (no_plug r e);
      starts = λ s frame number was end. no_end frame number was end;
      ends = λ frame number was end. absurd (no_end frame number was end);
      dones = λ frame number was done. absurd (no_done frame number was done);
      callers = subst (λ (fs : List (List ℕ)). AllByRecursion (IsCalledAt here.plan.controller.mac there.identity) fs) (sym sent_here)
          (said_mine so.frames here there.identity good_here real_here opening (aimed_here.device, tt), tt);
      again = λ answer e. absurd (none_some (sym unkept_here ∙ e));
      asked = λ question e. absurd (none_some (sym begins.unasked ∙ e));
    }

    pub first_asked : AskedAt [] first
    first_asked = asked_of first [] first_asking
