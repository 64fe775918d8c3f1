-- A step of a controller in any state: a frame, and a unit, also while it exchanges data.
use Rattle.std.proofs.Common.{◌≡◌, ◌≢◌, ◌⊎◌, inl, inr, ◌≤◌, ◌<◌, ℕ, suc, true, List, [], ◌∷◌, Option, Some, None, refl, sym, ap, subst, ◌∙◌, arith}
use Rattle.std.proofs.lemmas.Bool.{false≢true}
use Rattle.controller_messages.specs.declared.plug_request.PlugRequest.{PlugRequest}
use Rattle.controller_messages.specs.declared.setup.ControllerOptions.{ControllerOptions}
use Rattle.controller_messages.specs.declared.setup.Setup.{Setup}
use Rattle.controller_messages.specs.Heard.{Heard, heard_of}
use Rattle.controller_messages.specs.Sent.{Sent}
use Rattle.controller_core.specs.declared.stored.event.Event.{Event}
use Rattle.controller_core.specs.declared.stored.event.Event.TheVariants.{Frame, Tick}
use Rattle.controller_core.specs.declared.stored.state.State.{State}
use Rattle.controller_core.specs.declared.stored.state.State.TheVariants.{Addressing, Connecting, Writing, Ending, Waiting, Exchanging, Ended}
use Rattle.controller_core.specs.stored.State.{Controlling, Live, is_limited, patience_in}
use Rattle.controller_core.specs.Machine.{Turn, step_of, turn_of}
use Rattle.network_world.specs.World.{is_ended}
use Rattle.end_laws.specs.hearing.Stations.{IsSetup}
use Rattle.end_laws.specs.controller.Small.{IsSteady}
use Rattle.end_laws.specs.turns.Runs.{IsReached}
use Rattle.rounds_law.specs.Anywhere.{ChoosesWell, HasPatience, HasRoute, IsAnyController}
use Rattle.rounds_law.specs.Path.{controller_step, hold_of}
use Rattle.rounds_law.proofs.AnywhereControllerExchange.{Becomes, EndsNow, GoesOn, KeepsTime, Passes, frame_so, unit_so}
use Rattle.rounds_law.proofs.AnywhereControllerKept.{IsKept, stands_in}
use Rattle.rounds_law.proofs.AnywhereControllerLaws.{ControllerLaws, reached_on, reached_steady}
use Rattle.rounds_law.proofs.AnywhereControllerReached.{reached_kept, stations_answer}
use Rattle.rounds_law.proofs.AnywhereControllerSent.{AreSaid, IsChosenIn, all_own}
use Rattle.rounds_law.proofs.AnywhereControllerTurns.{IsWell, kind_well}
use Rattle.rounds_law.proofs.AnywhereControllerUnits.{PassesWell, unit_well}
use Rattle.rounds_law.proofs.AnywhereTurning.{IsTurning, reached_turns}
use Rattle.rounds_law.proofs.AnywhereParts.{Accepts, AreOwn, ControllerFrame, ControllerUnit, ExchangeFrame, ExchangeUnit, IsAnything, IsOfExchange}
use Rattle.rounds_law.proofs.AnywhereParts.{StillExchanges, ahead, ahead_in}

-- The event of a frame.
abbrev frame_with : List ℕ → Event
frame_with octets = Frame (record { items = octets })

-- ---- what is sent

weaker : (setup : Setup) (kind : Sent → Type 0) (messages : List Sent) → AreSaid setup kind messages → AreSaid setup IsAnything messages
weaker setup kind [] all = tt
weaker setup kind (message ∷ messages) all = (
  record {
    message = all.0.message;
    frame = all.0.frame;
    sendable = all.0.sendable;
    way = all.0.way;
    is = tt;
  },
  weaker setup kind messages all.1,
)

-- ---- at the end no units remain

ended_ahead : (options : ControllerOptions) (left : ℕ) (phase : State) → is_ended phase ≡ true → ahead_in options left phase ≡ 0
ended_ahead options left (Ended cause) over = refl
ended_ahead options left phase over = absurd (false≢true over)

is_exchange : (phase : State) → (phase ≡ Exchanging) ⊎ (phase ≡ Exchanging → ⊥)
is_exchange Exchanging = inl refl
is_exchange phase = inr (λ e. absurd cc)

-- ---- one controller

module _ (laws : ControllerLaws) (controller : Controlling) (good : IsSetup controller.setup) (reached : IsReached controller) (routed : HasRoute controller)
    (alone : controller.live.access.waiting ≡ None) where
  -- Its set-up and its state.
  abbrev own : Setup
  own = controller.setup

  abbrev live : Live
  live = controller.live

  kept : IsKept own live
  kept = reached_kept laws own controller good refl reached

  turning : IsTurning own live
  turning = (reached_turns laws controller reached).0

  -- No request after a plug waits in another state.
  unplugged : (live.phase ≡ Exchanging → ⊥) → live.access.plug ≡ None
  unplugged other = by_plug live.access.plug refl
    where
      by_plug : (plug : Option PlugRequest) → live.access.plug ≡ plug → live.access.plug ≡ None
      by_plug None e = e
      by_plug (Some request) e = absurd (other ((reached_turns laws controller reached).1 request e))

  steady : IsSteady own.plan live
  steady = reached_steady laws controller reached

  chosen_in_exchange : live.phase ≡ Exchanging → IsChosenIn live.cyclic.route
  chosen_in_exchange exchanges = routed (kept.stands ∙ ap stands_in exchanges)

  -- ---- a frame

  module _ (octets : List ℕ) (fit : ChoosesWell own octets) where
    -- What it hears, and its turn.
    abbrev heard : Heard
    heard = heard_of own.plan.controller octets

    abbrev turn : Turn
    turn = turn_of own live (frame_with octets)

    other_well : (live.phase ≡ Exchanging → ⊥) → IsWell own live turn
    other_well other =
        let is = laws.kinds own live (frame_with octets) in
        subst (IsWell own live) (sym is.is)
        (kind_well laws own good live heard kept steady (stations_answer own (frame_with octets)) (unplugged other) routed alone fit
        other is.kind is.holds)

    becomes : (exchanges : live.phase ≡ Exchanging) → Becomes laws own good live kept steady turning (chosen_in_exchange exchanges) alone exchanges heard turn
    becomes exchanges = frame_so laws own good live kept steady turning (chosen_in_exchange exchanges) alone exchanges heard fit

    ends_well : EndsNow own live.cyclic.route turn → IsWell own live turn
    ends_well over = record {
      said = weaker own (IsOfExchange live.cyclic.route) turn.sent over.said;
      routed = λ up. absurd (false≢true (sym over.down ∙ up));
      alone = over.alone;
      ahead = let none = ended_ahead own.options turn.live.left turn.live.phase over.ends in omega (arith, none);
    }

    goes_well : live.phase ≡ Exchanging → GoesOn own live turn → IsWell own live turn
    goes_well exchanges on = record {
      said = weaker own (IsOfExchange live.cyclic.route) turn.sent on.said;
      routed = λ up. subst IsChosenIn (sym on.route) (chosen_in_exchange exchanges);
      alone = on.alone;
      ahead = let none : ahead_in own.options turn.live.left turn.live.phase ≡ 0 = ap (ahead_in own.options turn.live.left) on.in_phase in omega (arith, none);
    }

    exchange_well : (exchanges : live.phase ≡ Exchanging)
        → Becomes laws own good live kept steady turning (chosen_in_exchange exchanges) alone exchanges heard turn → IsWell own live turn
    exchange_well exchanges (inl over) = ends_well over
    exchange_well exchanges (inr on) = goes_well exchanges on.0

    by_phase : (live.phase ≡ Exchanging) ⊎ (live.phase ≡ Exchanging → ⊥) → IsWell own live turn
    by_phase (inl exchanges) = exchange_well exchanges (becomes exchanges)
    by_phase (inr other) = other_well other

    well : IsWell own live turn
    well = by_phase (is_exchange live.phase)

    pub frame_on : IsAnyController own (controller_step controller octets).controller
        × AreOwn own IsAnything (controller_step controller octets).frames
        × (ahead (controller_step controller octets).controller ≤ ahead controller)
    unfolding step_of
    frame_on = (
      record { of_setup = refl; reached = reached_on controller (frame_with octets) reached; routed = well.routed; alone = well.alone },
      all_own own IsAnything turn.sent well.said,
      well.ahead,
    )

    -- What a frame does while it exchanges data.
    abbrev FrameInExchange : Setup → Type 0
    FrameInExchange setup =
        (is_ended (controller_step controller octets).controller.live.phase ≡ true)
        ⊎ (StillExchanges controller (controller_step controller octets).controller
        × AreOwn setup (IsOfExchange controller.live.cyclic.route) (controller_step controller octets).frames
        × (((controller_step controller octets).controller.live.cyclic.hearing.held ≡ controller.live.cyclic.hearing.held) ⊎ Accepts controller octets))

    keeps_time : KeepsTime live heard turn.live → (turn.live.cyclic.hearing.held ≡ live.cyclic.hearing.held) ⊎ Accepts controller octets
    keeps_time (inl same) = inl same
    keeps_time (inr brings) = inr (record {
      source = brings.source;
      frame_id = brings.frame_id;
      body = brings.body;
      heard = brings.comes;
      of_partner = brings.of_partner;
    })

    in_exchange : (exchanges : live.phase ≡ Exchanging)
        → Becomes laws own good live kept steady turning (chosen_in_exchange exchanges) alone exchanges heard turn → FrameInExchange own
    unfolding step_of
    in_exchange exchanges (inl over) = inl over.ends
    in_exchange exchanges (inr on) = inr (
      record { in_phase = on.0.in_phase; route = on.0.route },
      all_own own (IsOfExchange live.cyclic.route) turn.sent on.0.said,
      keeps_time on.1,
    )

    pub frame_in_exchange : live.phase ≡ Exchanging → FrameInExchange own
    frame_in_exchange exchanges = in_exchange exchanges (becomes exchanges)

  -- ---- a unit

  timed : HasPatience own.options → is_limited live.phase ≡ true → 1 ≤ live.left
  timed patience limited = (laws.left controller reached (some live.phase limited)).0
    where
      some : (phase : State) → is_limited phase ≡ true → patience_in own.options phase ≢ 0
      some Addressing limited = patience.patience
      some Connecting limited = patience.patience
      some Writing limited = patience.patience
      some Ending limited = patience.patience
      some Waiting limited = patience.waiting
      some phase limited = absurd (false≢true limited)

  -- While it exchanges data it has no patience.
  unlimited : live.phase ≡ Exchanging → {A : Type 0} → is_limited live.phase ≡ true → A
  unlimited exchanges limited = absurd (false≢true (sym (ap is_limited exchanges) ∙ limited))

  passes_well : (exchanges : live.phase ≡ Exchanging)
      → Passes laws own good live kept steady turning (chosen_in_exchange exchanges) alone exchanges (turn_of own live Tick)
      → PassesWell own live (turn_of own live Tick)
  passes_well exchanges (inl over) = record {
    said = weaker own (IsOfExchange live.cyclic.route) (turn_of own live Tick).sent over.said;
    routed = λ up. absurd (false≢true (sym over.down ∙ up));
    alone = over.alone;
    ahead = λ limited. unlimited exchanges limited;
  }
  passes_well exchanges (inr on) = record {
    said = weaker own (IsOfExchange live.cyclic.route) (turn_of own live Tick).sent on.0.said;
    routed = λ up. subst IsChosenIn (sym on.0.route) (chosen_in_exchange exchanges);
    alone = on.0.alone;
    ahead = λ limited. unlimited exchanges limited;
  }

  unit_by : (is_limited live.phase ≡ true → 1 ≤ live.left) → (live.phase ≡ Exchanging) ⊎ (live.phase ≡ Exchanging → ⊥)
      → PassesWell own live (turn_of own live Tick)
  unit_by few (inl exchanges) =
      passes_well exchanges (unit_so laws own good live kept steady turning (chosen_in_exchange exchanges) alone exchanges)
  unit_by few (inr other) = unit_well own live kept routed alone (unplugged other) other few

  pub unit_on : HasPatience own.options → IsAnyController own (step_of controller Tick).controller
      × AreOwn own IsAnything (step_of controller Tick).frames
      × (is_limited controller.live.phase ≡ true → suc (ahead (step_of controller Tick).controller) ≤ ahead controller)
  unfolding step_of
  unit_on patience =
      let well : PassesWell own live (turn_of own live Tick) = unit_by (timed patience) (is_exchange live.phase) in (
        record { of_setup = refl; reached = reached_on controller Tick reached; routed = well.routed; alone = well.alone },
        all_own own IsAnything (turn_of own live Tick).sent well.said,
        well.ahead,
      )

  -- The same of a unit.
  abbrev UnitInExchange : Setup → Type 0
  UnitInExchange setup =
      (is_ended (step_of controller Tick).controller.live.phase ≡ true)
      ⊎ (StillExchanges controller (step_of controller Tick).controller
      × AreOwn setup (IsOfExchange controller.live.cyclic.route) (step_of controller Tick).frames
      × ((step_of controller Tick).controller.live.cyclic.hearing.held ≡ suc controller.live.cyclic.hearing.held)
      × (suc controller.live.cyclic.hearing.held < hold_of setup.plan))

  passes_in_exchange : (exchanges : live.phase ≡ Exchanging)
      → Passes laws own good live kept steady turning (chosen_in_exchange exchanges) alone exchanges (turn_of own live Tick)
      → UnitInExchange own
  unfolding step_of
  passes_in_exchange exchanges (inl over) = inl over.ends
  passes_in_exchange exchanges (inr on) = inr (
    record { in_phase = on.0.in_phase; route = on.0.route },
    all_own own (IsOfExchange live.cyclic.route) (turn_of own live Tick).sent on.0.said,
    on.1.held,
    on.1.less,
  )

  pub unit_in_exchange : live.phase ≡ Exchanging → UnitInExchange own
  unit_in_exchange exchanges =
      passes_in_exchange exchanges (unit_so laws own good live kept steady turning (chosen_in_exchange exchanges) alone exchanges)

-- ---- the parts

module _ (laws : ControllerLaws) (setup : Setup) where
  pub controller_frame : ControllerFrame setup
  controller_frame good patience controller octets any fit =
      let same = sym any.of_setup in
      subst (λ (s : Setup). IsAnyController s (controller_step controller octets).controller
      × AreOwn s IsAnything (controller_step controller octets).frames
      × (ahead (controller_step controller octets).controller ≤ ahead controller)) any.of_setup
      (frame_on laws controller (subst IsSetup same good) any.reached any.routed any.alone octets
      (subst (λ (s : Setup). ChoosesWell s octets) same fit))

  pub controller_unit : ControllerUnit setup
  controller_unit good patience controller any =
      let same = sym any.of_setup in
      subst (λ (s : Setup). IsAnyController s (step_of controller Tick).controller
      × AreOwn s IsAnything (step_of controller Tick).frames
      × (is_limited controller.live.phase ≡ true → suc (ahead (step_of controller Tick).controller) ≤ ahead controller)) any.of_setup
      (unit_on laws controller (subst IsSetup same good) any.reached any.routed any.alone
      (subst (λ (s : Setup). HasPatience s.options) same patience))

  pub exchange_frame : ExchangeFrame setup
  exchange_frame good controller octets any fit exchanges =
      let same = sym any.of_setup in
      let goods = subst IsSetup same good in
      let fits = subst (λ (s : Setup). ChoosesWell s octets) same fit in
      subst (FrameInExchange laws controller goods any.reached any.routed any.alone octets fits) any.of_setup
      (frame_in_exchange laws controller goods any.reached any.routed any.alone octets fits exchanges)

  pub exchange_unit : ExchangeUnit setup
  exchange_unit good controller any exchanges =
      let goods = subst IsSetup (sym any.of_setup) good in
      subst (UnitInExchange laws controller goods any.reached any.routed any.alone) any.of_setup
      (unit_in_exchange laws controller goods any.reached any.routed any.alone exchanges)
