-- Each move of the world is a step of the small machines.
use Rattle.std.proofs.Common.{◌≡◌, ◌⊎◌, inl, inr, ℕ, Bool, true, false, List, [], ◌∷◌, ◌++◌, map, Option, Some, None, option_map, refl, sym, ap, subst, ◌∙◌}
use Rattle.std.specs.Prelude.{slice_get}
use Rattle.std.specs.List.{AllByRecursion}
use Rattle.lldp.specs.Views.{peer_as}
use Rattle.flash_model.specs.declared.flash.Flash.{Ghosts as Flash}
use Rattle.settings_journal.specs.settings_store.Machine.{Outcome}
use Rattle.connects.specs.requests.Request.{Request}
use Rattle.records.specs.declared.writes.taken.TakenRecord.{TakenRecord}
use Rattle.relations.specs.RelationState.{RelationState}
use Rattle.device_frames.specs.Heard.{Heard, Ticks, Applied, Met}
use Rattle.device_core.specs.State.{Station, Live}
use Rattle.device_core.specs.Machine.{heard_step}
use Rattle.controller_messages.specs.Requests.{write_count}
use Rattle.controller_messages.specs.declared.setup.Setup.{Setup}
use Rattle.controller_messages.specs.Heard.{heard_of as heard_by}
use Rattle.controller_messages.specs.Sent.{Sent, Requests, Accesses, Parametrizes, Agrees, Cycles, Confirms, Replies, Ends, bytes_of}
use Rattle.controller_core.specs.declared.stored.state.State.{State as Phase}
use Rattle.controller_core.specs.declared.stored.state.State.TheVariants.{Exchanging}
use Rattle.controller_core.specs.declared.stored.event.Event.{Event}
use Rattle.controller_core.specs.declared.stored.event.Event.TheVariants as controller
use Rattle.controller_core.specs.stored.State.{Controlling, Live as ControllerLive, with_live}
use Rattle.controller_core.specs.Machine.{step_of, turn_of}
use Rattle.network_world.specs.declared.moves.End.{End}
use Rattle.network_world.specs.declared.moves.End.TheVariants.{Device, Controller}
use Rattle.network_world.specs.declared.moves.Move.{Move}
use Rattle.network_world.specs.declared.moves.Move.TheVariants as move
use Rattle.network_world.specs.World.{at_controller, AtDevice, Comes, Delivers, Happens, is_skipped, last_world, Played, World}
use Rattle.end_laws.specs.both.Small as small
use Rattle.end_laws.specs.both.Small.{Rules, ToDevice}
use Rattle.end_laws.specs.both.Steps.{CallsWhile, DeviceSteps, ControllerSteps, IsSaid, SaysToDevice, Steps, StepsAtController, StepsAtDevice}
use Rattle.end_laws.specs.both.StartUp.{last_of}
use Rattle.end_laws.specs.controller.Small.{GoesOn, IsSteady, said_by, said_in, small_of, state_of}
use Rattle.end_laws.specs.device.Orderly.{IsOrderlyIn}
use Rattle.end_laws.specs.device.Small.{IsAskedOwn, IsHeardAs, IsPlanned, heard_as, link_of}
use Rattle.end_laws.specs.device.Small as device
use Rattle.both_ends.specs.startup.View.{IsMeant, IsMeantAtController, IsMeantAtDevice, IsSaidAs, move_of, rules_of, view_of}
use Rattle.both_ends.specs.startup.Played.{IsRunOf, viewed}

-- ---- the laws of the crates below

abbrev pub DeviceGoesOn : Type 0
DeviceGoesOn = (rules : Rules TakenRecord Request) (activity : List ℕ) (outcomes : List Outcome) (station : Station) (live : Live) (heard : Heard)
    → IsOrderlyIn live.rest.link → IsAskedOwn activity live.rest.asked → IsPlanned rules activity station.named live.rest.real heard
    → AllByRecursion (IsHeardAs rules station.identity) (heard_step outcomes station live heard).sent
    → DeviceSteps rules (heard_as rules.is_planned heard) (device.small_of activity live) (device.small_of activity (heard_step outcomes station live heard).live) (heard_step outcomes station live heard).frames

abbrev pub ControllerGoesOn : Type 0
ControllerGoesOn = (setup : Setup) (live : ControllerLive) (event : Event) → IsSteady setup.plan live
    → GoesOn setup.plan (said_in setup (heard_by setup.plan.controller) event) live (turn_of setup live event)

abbrev pub FramesAre : Type 0
FramesAre = (old : Controlling) (event : Event) → (step_of old event).frames ≡ map (bytes_of old.setup) (turn_of old.setup old.live event).sent

-- ---- runs

module _ {F : Type 0} {S : ℕ} (as_flash : Flash F S) where
  pub is_run : (before : World F) (moves : List Move) (after : World F) → Played as_flash before moves after → IsRunOf as_flash before moves after
  is_run before [] after played = record { run = []; are = refl; made = tt; last = sym played }
  is_run before (one ∷ moves) after played =
      let more = is_run played.0 moves after played.2 in
      record {
        run = (one, played.0) ∷ more.run;
        are = ap (λ (ms : List Move). one ∷ ms) more.are;
        made = (played.1, more.made);
        last = more.last;
      }

-- ---- a frame that is delivered

module _ {F : Type 0} {S : ℕ} (as_flash : Flash F S) (before after : World F) (end : End) (P : Type 0) where
  come_so : (frame : List ℕ) (skipped : Bool) → Comes as_flash skipped before end frame after → (after ≡ before → P) → (Comes as_flash false before end frame after → P) → P
  come_so frame true comes rests hears = rests comes
  come_so frame false comes rests hears = hears comes

  -- it is skipped or does not exist, and nothing changes; or it is heard
  pub delivered : (octets : Option (List ℕ)) → Delivers as_flash octets before end after → (after ≡ before → P)
      → ((frame : List ℕ) → octets ≡ Some frame → Comes as_flash false before end frame after → P) → P
  delivered None comes rests hears = rests comes
  delivered (Some frame) comes rests hears = come_so frame (is_skipped before.device before.controller end frame) comes rests (hears frame refl)

-- ---- a step of the controller

pub controller_is : (old : Controlling) (event : Event) → (step_of old event).controller ≡ with_live old (turn_of old.setup old.live event).live
unfolding step_of
controller_is old event = refl

-- a request of the application, or after a plug, is sent while data is exchanged
access_exchanges : (count sequence : ℕ) (now : small.Controller) → CallsWhile count now sequence small.Accesses → now ≡ small.Exchanges
access_exchanges count sequence now (inl releases) = absurd (not_releases releases)
  where
    not_releases : small.Accesses ≡ small.Releases → ⊥
    not_releases e = cc
access_exchanges count sequence now (inr (inl calling)) = absurd calling.asked
access_exchanges count sequence now (inr (inr accesses)) = accesses.1

module _ {F : Type 0} where
  abbrev pub rules_at : World F → Rules TakenRecord Request
  rules_at w = rules_of w.controller.setup w.device.station

  -- what a move leaves of the world, and that it is a step
  pub record Refines (before after : World F) (steps : Type 0) : Type 0 where
    pub is : steps
    pub setup : after.controller.setup ≡ before.controller.setup
    pub station : after.device.station ≡ before.device.station
    pub in_step : IsSteady after.controller.setup.plan after.controller.live

  abbrev pub InStep : World F → Type 0
  InStep w = IsSteady w.controller.setup.plan w.controller.live

  -- a message of the start-up says what it says, or nothing
  as_said : (w : World F) (now : small.Controller) (frame : List ℕ) (says : ToDevice)
      → ((rules_at w).to_device frame ≡ says) ⊎ ((rules_at w).to_device frame ≡ small.Idle)
      → SaysToDevice (write_count w.controller.setup.plan) now says
      → SaysToDevice (write_count w.controller.setup.plan) now ((rules_at w).to_device frame)
  as_said w now frame says (inl same) may = subst (λ (said : ToDevice). SaysToDevice (write_count w.controller.setup.plan) now said) (sym same) may
  as_said w now frame says (inr idle) may = subst (λ (said : ToDevice). SaysToDevice (write_count w.controller.setup.plan) now said) (sym idle) tt

  said_is : (w : World F) (now : small.Controller) (message : Sent) → IsSaidAs w.controller.setup w.device.station message
      → SaysToDevice (write_count w.controller.setup.plan) now (said_by w.controller.setup.plan message)
      → IsSaid (rules_at w) now (bytes_of w.controller.setup message)
  said_is w now (Accesses to request octets) heard says = (heard.0, inr (access_exchanges (write_count w.controller.setup.plan) request.sequence now says))
  said_is w now (Parametrizes to request) heard says = (heard.0, inr (access_exchanges (write_count w.controller.setup.plan) request.sequence now says))
  said_is w now (Requests to request) heard says =
      (heard.0, inl (as_said w now (bytes_of w.controller.setup (Requests to request)) (said_by w.controller.setup.plan (Requests to request)) heard.1 says))
  said_is w now (Agrees caller answer) heard says = (heard.0, inl (as_said w now (bytes_of w.controller.setup (Agrees caller answer)) small.Confirms heard.1 says))
  said_is w now (Cycles route shown counter) heard says = (heard.0, inl (as_said w now (bytes_of w.controller.setup (Cycles route shown counter)) small.Idle heard.1 says))
  said_is w now (Confirms route priority header ack) heard says =
      (heard.0, inl (as_said w now (bytes_of w.controller.setup (Confirms route priority header ack)) small.Idle heard.1 says))
  said_is w now (Replies route priority header) heard says = (heard.0, inl (as_said w now (bytes_of w.controller.setup (Replies route priority header)) small.Idle heard.1 says))
  said_is w now (Ends route header reason) heard says = (heard.0, inl (as_said w now (bytes_of w.controller.setup (Ends route header reason)) small.Idle heard.1 says))

  all_said : (w : World F) (now : small.Controller) (sent : List Sent) → AllByRecursion (IsSaidAs w.controller.setup w.device.station) sent
      → AllByRecursion (λ message. SaysToDevice (write_count w.controller.setup.plan) now (said_by w.controller.setup.plan message)) sent
      → AllByRecursion (IsSaid (rules_at w) now) (map (bytes_of w.controller.setup) sent)
  all_said w now [] heard says = tt
  all_said w now (message ∷ sent) heard says = (said_is w now message heard.0 says.0, all_said w now sent heard.1 says.1)

  module _ (goes : ControllerGoesOn) (frames_are : FramesAre) where
    controller_steps : (w : World F) (event : Event) → InStep w → IsMeantAtController w event
        → ControllerSteps (rules_at w) (said_in w.controller.setup (heard_by w.controller.setup.plan.controller) event) (small_of w.controller.setup.plan w.controller.live)
        (small_of w.controller.setup.plan (turn_of w.controller.setup w.controller.live event).live) (map (bytes_of w.controller.setup) (turn_of w.controller.setup w.controller.live event).sent)
    controller_steps w event in_step meant =
        let turn = turn_of w.controller.setup w.controller.live event in
        let on = goes w.controller.setup w.controller.live event in_step in
        record {
          moves = on.moves;
          sent = all_said w (small_of w.controller.setup.plan turn.live) turn.sent meant on.says;
        }

    -- the controller handled an event
    at_controller_steps : (before after : World F) (event : Event) → InStep before → IsMeantAtController before event → after ≡ at_controller before event
        → Refines before after (StepsAtController (rules_at before) (said_in before.controller.setup (heard_by before.controller.setup.plan.controller) event) (view_of before) (view_of after))
    at_controller_steps before after event in_step meant is =
        let setup = before.controller.setup in
        let turn = turn_of setup before.controller.live event in
        let on = goes setup before.controller.live event in_step in
        let now : World F = record { device = before.device; controller = with_live before.controller turn.live; sent = before.sent ++ map (bytes_of setup) turn.sent } in
        let there : after ≡ now =
        is ∙ (ap (λ (c : Controlling). record { device = before.device; controller = c; sent = before.sent ++ (step_of before.controller event).frames }) (controller_is before.controller event)
        ∙ ap (λ (frames : List (List ℕ)). record { device = before.device; controller = with_live before.controller turn.live; sent = before.sent ++ frames }) (frames_are before.controller event)) in
        subst (λ (w : World F). Refines before w (StepsAtController (rules_at before) (said_in setup (heard_by setup.plan.controller) event) (view_of before) (view_of w))) (sym there) (record {
          is = record {
            frames = map (bytes_of setup) turn.sent;
            steps = controller_steps before event in_step meant;
            device = refl;
            behind = refl;
          };
          setup = refl;
          station = refl;
          in_step = on.in_step;
        })

  -- ---- a step of the device

  module _ {S : ℕ} (as_flash : Flash F S) (goes : DeviceGoesOn) where
    at_device_steps : (before after : World F) (heard : Heard) → InStep before → IsOrderlyIn before.device.live.rest.link
        → IsAskedOwn before.controller.setup.activity before.device.live.rest.asked → IsMeantAtDevice before heard → AtDevice as_flash before heard after
        → Refines before after (StepsAtDevice (rules_at before) (heard_as (rules_at before).is_planned heard) (view_of before) (view_of after))
    at_device_steps before after heard in_step orderly own meant made =
        let hears = made.hears in
        let activity = before.controller.setup.activity in
        let station = before.device.station in
        let step = heard_step hears.steps.outcomes station before.device.live heard in
        let rules = rules_at before in
        let on = goes rules activity hears.steps.outcomes station before.device.live heard orderly own meant.planned (meant.sent hears.steps.outcomes hears.steps.sendable) in
        let steps : DeviceSteps rules (heard_as rules.is_planned heard) (device.small_of activity before.device.live) (device.small_of after.controller.setup.activity after.device.live) hears.frames =
        subst (λ (c : Controlling). DeviceSteps rules (heard_as rules.is_planned heard) (device.small_of activity before.device.live) (device.small_of c.setup.activity after.device.live) hears.frames) (sym made.controller)
        (subst (λ (l : Live). DeviceSteps rules (heard_as rules.is_planned heard) (device.small_of activity before.device.live) (device.small_of activity l) hears.frames) (sym hears.steps.live)
        (subst (λ (frames : List (List ℕ)). DeviceSteps rules (heard_as rules.is_planned heard) (device.small_of activity before.device.live) (device.small_of activity step.live) frames) (sym hears.steps.frames) on)) in
        record {
          is = record {
            frames = hears.frames;
            steps = steps;
            controller = ap (λ (c : Controlling). small_of c.setup.plan c.live) made.controller;
            behind = hears.behind;
          };
          setup = ap (λ (c : Controlling). c.setup) made.controller;
          station = hears.steps.same;
          in_step = subst (λ (c : Controlling). IsSteady c.setup.plan c.live) (sym made.controller) in_step;
        }

    rests : (before after : World F) (Does : Type 0) → InStep before → after ≡ before → Refines before after ((view_of after ≡ view_of before) ⊎ Does)
    rests before after Does in_step same = record {
      is = inl (ap view_of same);
      setup = ap (λ (w : World F). w.controller.setup) same;
      station = ap (λ (w : World F). w.device.station) same;
      in_step = subst (λ (w : World F). InStep w) (sym same) in_step;
    }

    does : (before after : World F) (Same Does More : Type 0) → (Does → More) → Refines before after Does → Refines before after (Same ⊎ More)
    does before after Same Does More more refines = record { is = inr (more refines.is); setup = refines.setup; station = refines.station; in_step = refines.in_step }

    module _ (on : ControllerGoesOn) (frames_are : FramesAre) (before after : World F) (in_step : InStep before) (orderly : IsOrderlyIn before.device.live.rest.link)
        (own : IsAskedOwn before.controller.setup.activity before.device.live.rest.asked) where
      pub happens_steps : (one : Move) → IsMeant before one → Happens as_flash before one after
          → Refines before after (Steps (rules_at before) (view_of before) (move_of one) (view_of after))
      happens_steps (move.Deliver Device number) meant happens =
          delivered as_flash before after Device _ (slice_get before.sent number) happens (λ same. rests before after _ in_step same)
          (λ frame there comes. does before after _ _ _ (λ steps. record { frame = frame; there = there; steps = steps })
          (at_device_steps before after _ in_step orderly own (meant frame there) comes))
      happens_steps (move.Deliver Controller number) meant happens =
          delivered as_flash before after Controller _ (slice_get before.sent number) happens (λ same. rests before after _ in_step same)
          (λ frame there comes. does before after _ _ _ (λ steps. record { frame = frame; there = there; steps = steps })
          (at_controller_steps on frames_are before after (controller.Frame (record { items = frame })) in_step (meant frame there) comes))
      happens_steps (move.Tick Device) meant happens = does before after _ _ _ (λ steps. steps) (at_device_steps before after Ticks in_step orderly own meant happens)
      happens_steps (move.Tick Controller) meant happens = does before after _ _ _ (λ steps. steps) (at_controller_steps on frames_are before after controller.Tick in_step meant happens)
      happens_steps (move.Application local) meant happens = does before after _ _ _ (λ steps. steps) (at_device_steps before after (Applied local) in_step orderly own meant happens)
      happens_steps (move.Neighbour neighbour) meant happens = does before after _ _ _ (λ steps. steps) (at_device_steps before after (Met (option_map peer_as neighbour)) in_step orderly own meant happens)
      happens_steps (move.Give slot subslot value) meant happens =
          does before after _ _ _ (λ steps. steps) (at_controller_steps on frames_are before after (controller.Give slot subslot value) in_step meant happens)
      happens_steps (move.OutputStatus slot subslot is_good) meant happens =
          does before after _ _ _ (λ steps. steps) (at_controller_steps on frames_are before after (controller.Status slot subslot is_good) in_step meant happens)
      happens_steps (move.Read slot subslot index) meant happens =
          does before after _ _ _ (λ steps. steps) (at_controller_steps on frames_are before after (controller.Read slot subslot index) in_step meant happens)
      happens_steps (move.Write slot subslot index octets) meant happens =
          does before after _ _ _ (λ steps. steps) (at_controller_steps on frames_are before after (controller.Write slot subslot index octets) in_step meant happens)
      happens_steps move.Stop meant happens = does before after _ _ _ (λ steps. steps) (at_controller_steps on frames_are before after controller.Stop in_step meant happens)

-- ---- the law

module _ {F : Type 0} where
  pub last_viewed : (first : World F) (run : List (Move × World F)) → last_of (view_of first) (viewed run) ≡ view_of (last_world first run)
  last_viewed first [] = refl
  last_viewed first (one ∷ run) = last_viewed one.1 run

  pub exchanges_small : (first : World F) (run : List (Move × World F)) → (last_world first run).controller.live.phase ≡ Exchanging → (last_of (view_of first) (viewed run)).controller ≡ small.Exchanges
  exchanges_small first run exchanges =
      let last = last_world first run in
      ap (λ (w : small.World TakenRecord Request). w.controller) (last_viewed first run)
      ∙ ap (λ (p : Phase). state_of last.controller.setup.plan p last.controller.live.asked) exchanges

  pub related_small : (first : World F) (run : List (Move × World F)) (link : RelationState) → (last_world first run).device.live.rest.link ≡ Some link
      → (last_of (view_of first) (viewed run)).device.link ≡ Some (link_of link)
  related_small first run link is =
      ap (λ (w : small.World TakenRecord Request). w.device.link) (last_viewed first run) ∙ ap (λ (l : Option RelationState). option_map link_of l) is
