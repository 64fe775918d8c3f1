-- A controller that exchanges data: what frames and a unit of a round leave of it.
use Rattle.std.proofs.Common.{◌≡◌, ◌⊎◌, inl, inr, ◌<◌, ◌++◌, ℕ, suc, true, List, [], ◌∷◌, refl, sym, ap, subst, ◌∙◌}
use Rattle.std.specs.List.{AllByRecursion}
use Rattle.cyclic_data.specs.declared.exchange.route.Route.{Route}
use Rattle.cyclic_data.specs.exchange.Received.{is_of_partner}
use Rattle.controller_messages.specs.declared.setup.Setup.{Setup}
use Rattle.controller_messages.specs.Heard.{Cyclic as Comes, heard_of as heard_by}
use Rattle.controller_core.specs.declared.stored.event.Event.TheVariants.{Tick}
use Rattle.controller_core.specs.declared.stored.state.State.TheVariants.{Exchanging}
use Rattle.controller_core.specs.stored.State.{Controlling}
use Rattle.controller_core.specs.Machine.{Stepped, step_of}
use Rattle.network_world.specs.World.{is_ended}
use Rattle.end_laws.specs.hearing.Stations.{IsSetup}
use Rattle.rounds_law.specs.Anywhere.{ChoosesWell, HasPatience, IsAnyController}
use Rattle.rounds_law.specs.Path.{controller_step, hold_of}
use Rattle.rounds_law.specs.Rounds.{hears_all}
use Rattle.rounds_law.proofs.AnywhereParts.{Accepts, AreOwn, ControllerFrame, EndedFrame, EndedUnit, ExchangeFrame, ExchangeUnit, IsOfExchange, IsOwn}
use Rattle.rounds_law.proofs.AnywhereParts.{StillExchanges}
use Rattle.rounds_law.proofs.AnywhereRounds.{all_as, all_joined}

-- None of these frames is accepted by this controller.
abbrev pub NoneAccepted : Controlling → List (List ℕ) → Type 0
NoneAccepted controller frames = AllByRecursion (λ octets. Accepts controller octets → ⊥) frames

-- A controller accepts the cyclic frames that another one of the same set-up accepts under the same route.
pub accepts_as : (one other : Controlling) (octets : List ℕ) → other.setup ≡ one.setup → other.live.cyclic.route ≡ one.live.cyclic.route → Accepts one octets
    → Accepts other octets
accepts_as one other octets setups routes accepts = record {
  source = accepts.source;
  frame_id = accepts.frame_id;
  body = accepts.body;
  heard = subst (λ (s : Setup). heard_by s.plan.controller octets ≡ Comes accepts.source accepts.frame_id accepts.body) (sym setups) accepts.heard;
  of_partner = subst (λ (r : Route). is_of_partner r accepts.source accepts.frame_id ≡ true) (sym routes) accepts.of_partner;
}

pub none_accepted_as : (one other : Controlling) (frames : List (List ℕ)) → one.setup ≡ other.setup → one.live.cyclic.route ≡ other.live.cyclic.route
    → NoneAccepted one frames → NoneAccepted other frames
none_accepted_as one other frames setups routes none =
    all_as (λ octets. Accepts other octets → ⊥) (λ octets. Accepts one octets → ⊥)
    (λ octets refuses accepts. refuses (accepts_as other one octets setups routes accepts)) frames none

module _ (setup : Setup) (good : IsSetup setup) (patience : HasPatience setup.options) (controller_frame : ControllerFrame setup) where
  module _ (ended_frame : EndedFrame setup) where
    -- A controller that has ended stays so.
    pub stays_ended : (before : Controlling) (frames : List (List ℕ)) → IsAnyController setup before → is_ended before.live.phase ≡ true
        → AllByRecursion (ChoosesWell setup) frames
        → IsAnyController setup (hears_all before frames).controller × (is_ended (hears_all before frames).controller.live.phase ≡ true)
    stays_ended before [] at ended chosen = (at, ended)
    stays_ended before (octets ∷ frames) at ended chosen =
        let step = controller_frame good patience before octets at chosen.0 in
        stays_ended (controller_step before octets).controller frames step.0 (ended_frame before octets at ended).0 chosen.1

  -- It exchanges data under the same route as before these frames, and has sent only frames of the exchange. Its data hold time has run on
  -- if it accepted none of them.
  pub record StillAfter (before : Controlling) (frames : List (List ℕ)) (step : Stepped) : Type 0 where
    pub at : IsAnyController setup step.controller
    pub in_phase : step.controller.live.phase ≡ Exchanging
    pub route : step.controller.live.cyclic.route ≡ before.live.cyclic.route
    pub sent : AreOwn setup (IsOfExchange before.live.cyclic.route) step.frames
    pub held : NoneAccepted before frames → step.controller.live.cyclic.hearing.held ≡ before.live.cyclic.hearing.held

  -- It has ended, or exchanges data after these frames.
  abbrev pub AfterFrames : Controlling → List (List ℕ) → Type 0
  AfterFrames before frames =
      (IsAnyController setup (hears_all before frames).controller × (is_ended (hears_all before frames).controller.live.phase ≡ true))
      ⊎ StillAfter before frames (hears_all before frames)

  module _ (exchange_frame : ExchangeFrame setup) (ended_frame : EndedFrame setup) where
    first_held : (before : Controlling) (octets : List ℕ) (frames : List (List ℕ))
        → ((controller_step before octets).controller.live.cyclic.hearing.held ≡ before.live.cyclic.hearing.held) ⊎ Accepts before octets
        → NoneAccepted before (octets ∷ frames)
        → (controller_step before octets).controller.live.cyclic.hearing.held ≡ before.live.cyclic.hearing.held
    first_held before octets frames (inl same) none = same
    first_held before octets frames (inr accepts) none = absurd (none.0 accepts)

    -- Frames of the device, one after another.
    pub exchange_frames : (before : Controlling) (frames : List (List ℕ)) → IsAnyController setup before → before.live.phase ≡ Exchanging
        → AllByRecursion (ChoosesWell setup) frames → AfterFrames before frames
    exchange_frames before [] at in_phase chosen =
        inr (record { at = at; in_phase = in_phase; route = refl; sent = tt; held = λ none. refl })
    exchange_frames before (octets ∷ frames) at in_phase chosen =
        by_first (λ on. exchange_frames (controller_step before octets).controller frames here on chosen.1)
        (exchange_frame good before octets at chosen.0 in_phase)
      where
        here : IsAnyController setup (controller_step before octets).controller
        here = (controller_frame good patience before octets at chosen.0).0

        by_rest : ((controller_step before octets).controller.live.cyclic.route ≡ before.live.cyclic.route)
            → AreOwn setup (IsOfExchange before.live.cyclic.route) (controller_step before octets).frames
            → (((controller_step before octets).controller.live.cyclic.hearing.held ≡ before.live.cyclic.hearing.held) ⊎ Accepts before octets)
            → AfterFrames (controller_step before octets).controller frames → AfterFrames before (octets ∷ frames)
        by_rest route sent held (inl ended) = inl ended
        by_rest route sent held (inr still) = inr (record {
          at = still.at;
          in_phase = still.in_phase;
          route = still.route ∙ route;
          sent = all_joined (IsOwn setup (IsOfExchange before.live.cyclic.route)) (controller_step before octets).frames
              (hears_all (controller_step before octets).controller frames).frames sent
              (subst (λ (r : Route). AreOwn setup (IsOfExchange r) (hears_all (controller_step before octets).controller frames).frames) route still.sent);
          held = λ none.
              still.held (none_accepted_as before (controller_step before octets).controller frames (at.of_setup ∙ sym here.of_setup) (sym route) none.1)
              ∙ first_held before octets frames held none;
        })

        by_first : ((controller_step before octets).controller.live.phase ≡ Exchanging → AfterFrames (controller_step before octets).controller frames)
            → (is_ended (controller_step before octets).controller.live.phase ≡ true)
            ⊎ (StillExchanges before (controller_step before octets).controller
            × AreOwn setup (IsOfExchange before.live.cyclic.route) (controller_step before octets).frames
            × (((controller_step before octets).controller.live.cyclic.hearing.held ≡ before.live.cyclic.hearing.held) ⊎ Accepts before octets))
            → AfterFrames before (octets ∷ frames)
        by_first rest (inl ended) = inl (stays_ended ended_frame (controller_step before octets).controller frames here ended chosen.1)
        by_first rest (inr still) = by_rest still.0.route still.1 still.2 (rest still.0.in_phase)

  -- It exchanges data after these frames and a unit, under the same route, and has sent these frames. Its data hold time has run a unit more if it
  -- accepted no frame, and is not over.
  pub record Continues (before : Controlling) (frames : List (List ℕ)) (after : Controlling) (sent : List (List ℕ)) : Type 0 where
    pub in_phase : after.live.phase ≡ Exchanging
    pub route : after.live.cyclic.route ≡ before.live.cyclic.route
    pub of_exchange : AreOwn setup (IsOfExchange before.live.cyclic.route) sent
    pub held : NoneAccepted before frames → after.live.cyclic.hearing.held ≡ suc before.live.cyclic.hearing.held
    pub few : after.live.cyclic.hearing.held < hold_of setup.plan

  module _ (exchange_frame : ExchangeFrame setup) (exchange_unit : ExchangeUnit setup) (ended_frame : EndedFrame setup) (ended_unit : EndedUnit setup)
      (before : Controlling) (frames : List (List ℕ)) where
    -- It has ended, or exchanges data after these frames and a unit.
    abbrev pub AfterRound : Type 0
    AfterRound =
        (is_ended (step_of (hears_all before frames).controller Tick).controller.live.phase ≡ true)
        ⊎ Continues before frames (step_of (hears_all before frames).controller Tick).controller
        ((hears_all before frames).frames ++ (step_of (hears_all before frames).controller Tick).frames)

    by_unit : StillAfter before frames (hears_all before frames)
        → (is_ended (step_of (hears_all before frames).controller Tick).controller.live.phase ≡ true)
        ⊎ (StillExchanges (hears_all before frames).controller (step_of (hears_all before frames).controller Tick).controller
        × AreOwn setup (IsOfExchange (hears_all before frames).controller.live.cyclic.route) (step_of (hears_all before frames).controller Tick).frames
        × ((step_of (hears_all before frames).controller Tick).controller.live.cyclic.hearing.held
        ≡ suc (hears_all before frames).controller.live.cyclic.hearing.held)
        × (suc (hears_all before frames).controller.live.cyclic.hearing.held < hold_of setup.plan))
        → AfterRound
    by_unit still (inl ended) = inl ended
    by_unit still (inr on) = inr (record {
      in_phase = on.0.in_phase;
      route = on.0.route ∙ still.route;
      of_exchange = all_joined (IsOwn setup (IsOfExchange before.live.cyclic.route)) (hears_all before frames).frames
          (step_of (hears_all before frames).controller Tick).frames still.sent
          (subst (λ (r : Route). AreOwn setup (IsOfExchange r) (step_of (hears_all before frames).controller Tick).frames) still.route on.1);
      held = λ none. on.2 ∙ ap (λ (n : ℕ). suc n) (still.held none);
      few = subst (λ (n : ℕ). n < hold_of setup.plan) (sym on.2) on.3;
    })

    by_frames : AfterFrames before frames → AfterRound
    by_frames (inl ended) = inl (ended_unit good (hears_all before frames).controller ended.0 ended.1).0
    by_frames (inr still) = by_unit still (exchange_unit good (hears_all before frames).controller still.at still.in_phase)

    -- The frames that arrive in a round, and a unit.
    pub exchange_round : IsAnyController setup before → before.live.phase ≡ Exchanging → AllByRecursion (ChoosesWell setup) frames → AfterRound
    exchange_round at in_phase chosen = by_frames (exchange_frames exchange_frame ended_frame before frames at in_phase chosen)
