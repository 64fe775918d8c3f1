-- Until the controller exchanges data or has ended: each round brings it nearer.
use Rattle.std.proofs.Common.{◌≡◌, ◌≢◌, ◌⊎◌, inl, inr, ◌≤◌, ◌<◌, ◌+◌, ℕ, suc, Bool, true, false, List, [], ◌∷◌, ◌++◌, refl, sym, ap, subst, ◌∙◌, arith}
use Rattle.std.specs.Prelude.{if◌then◌else◌}
use Rattle.std.specs.List.{AllByRecursion}
use Rattle.flash_model.specs.declared.flash.Flash.{Ghosts as Flash}
use Rattle.pn_values.specs.declared.identity.Identity.{Identity}
use Rattle.pn_values.specs.declared.settings.Settings.{Settings}
use Rattle.device_core.specs.State.{State}
use Rattle.controller_messages.specs.declared.setup.Setup.{Setup}
use Rattle.controller_core.specs.declared.stored.event.Event.TheVariants.{Tick}
use Rattle.controller_core.specs.declared.stored.state.State.{State as Phases}
use Rattle.controller_core.specs.declared.stored.state.State.TheVariants.{Looking, Exchanging}
use Rattle.controller_core.specs.stored.State.{Controlling, is_limited}
use Rattle.controller_core.specs.Machine.{opening_of, step_of}
use Rattle.network_world.specs.World.{is_ended}
use Rattle.end_laws.specs.hearing.Stations.{IsSetup}
use Rattle.end_laws.specs.turns.Patience.{HasTimeLeft}
use Rattle.rounds_law.specs.Anywhere.{ChoosesWell, HasPatience, IsAnyController, IsAnyDevice}
use Rattle.rounds_law.specs.Path.{IsSized, controller_step, found_frame}
use Rattle.rounds_law.specs.Repeating.{completes, counts_on}
use Rattle.rounds_law.specs.Rounds.{HearsAll, Net, Round, hears_all}
use Rattle.rounds_law.proofs.AnywhereParts.{AreOwn, ControllerFinds, ControllerFrame, ControllerSearch, ControllerUnit, DeviceFound, DeviceFrame}
use Rattle.rounds_law.proofs.AnywhereParts.{DeviceUnit, EndedUnit, ExchangeUnit, Hears, IsAnything, IsLong, SearchFrame, StillExchanges, ahead, ahead_in}
use Rattle.rounds_law.proofs.AnywherePlants.{IsUnderWay}
use Rattle.rounds_law.proofs.AnywhereRounds as rounds
use Rattle.rounds_law.proofs.AnywhereNearingStates.{Among, among_first, among_more, beyond, kinds, looking_ahead, looks_or_not, near_of}

-- ---- the answer of the device

-- The answer to the Identify of a device with the plan's name.
pub record IsFound (setup : Setup) (identity : Identity) (octets : List ℕ) : Type 0 where
  pub settings : Settings
  pub frame : octets ≡ found_frame setup identity settings
  pub named : settings.name ≡ setup.plan.station.name
  pub sized : IsSized settings.suite

-- The Identify of a controller of this set-up.
pub record IsIdentify (setup : Setup) (octets : List ℕ) : Type 0 where
  pub controller : Controlling
  pub of_setup : controller.setup ≡ setup
  pub frame : octets ≡ opening_of controller

module _ {F : Type 0} {S : ℕ} (as_flash : Flash F S) (setup next : Setup) (identity : Identity) (silence : ℕ)
    (long : IsLong as_flash setup next identity silence) (device_frame : DeviceFrame as_flash setup next identity silence)
    (device_found : DeviceFound as_flash setup next identity silence) where
  -- If the Identify is among the frames that arrive, its answer is among those that are sent.
  device_answers : (before : State F) (frames answers : List (List ℕ)) (after : State F) → HearsAll as_flash before frames answers after
      → IsAnyDevice setup next identity silence before.station before.live → AreOwn setup IsAnything frames → Among (IsIdentify setup) frames
      → Among (IsFound setup identity) answers
  device_answers before [] answers after hears at own among = absurd among
  device_answers before (octets ∷ frames) answers after hears at own (inl is) =
      let found = device_found long is.controller is.of_setup before hears.0 hears.1
      (subst (λ (o : List ℕ). Hears as_flash before o hears.1 hears.0) is.frame hears.3) at in
      subst (Among (IsFound setup identity)) (sym hears.5)
      (among_first (IsFound setup identity) hears.1 hears.2
      (subst (Among (IsFound setup identity)) (sym found.1)
      (inl (record { settings = before.live.values.running; frame = refl; named = at.named.name; sized = at.sized }))))
  device_answers before (octets ∷ frames) answers after hears at own (inr later) =
      subst (Among (IsFound setup identity)) (sym hears.5)
      (among_more (IsFound setup identity) hears.1 hears.2
      (device_answers hears.0 frames hears.2 after hears.4 (device_frame long before hears.0 octets hears.1 hears.3 at own.0).0 own.1 later))

-- ---- the controller in a round

module _ (setup : Setup) (identity : Identity) (time_left : HasTimeLeft) (good : IsSetup setup) (patience : HasPatience setup.options)
    (controller_frame : ControllerFrame setup) where
  -- It has left the search.
  abbrev pub IsOut : Controlling → Type 0
  IsOut controller = IsAnyController setup controller × (ahead controller ≤ beyond setup.options)

  module _ (controller_finds : ControllerFinds setup identity) where
    -- The answer of its device is among the frames, or it had left the search before.
    leaves : (before : Controlling) (frames : List (List ℕ)) → IsAnyController setup before → AllByRecursion (ChoosesWell setup) frames
        → Among (IsFound setup identity) frames ⊎ (ahead before ≤ beyond setup.options) → IsOut (hears_all before frames).controller
    leaves before [] at chosen (inl among) = absurd among
    leaves before [] at chosen (inr out) = (at, out)
    leaves before (octets ∷ frames) at chosen among =
        leaves (controller_step before octets).controller frames step chosen.1 (by_frame among)
      where
        step : IsAnyController setup (controller_step before octets).controller
        step = (controller_frame good patience before octets at chosen.0).0

        fewer : ahead before ≤ beyond setup.options → ahead (controller_step before octets).controller ≤ beyond setup.options
        fewer out =
            let less : ahead (controller_step before octets).controller ≤ ahead before = (controller_frame good patience before octets at chosen.0).2 in
            omega (arith, less, out)

        by_phase : IsFound setup identity octets → (before.live.phase ≡ Looking) ⊎ (before.live.phase ≢ Looking)
            → ahead (controller_step before octets).controller ≤ beyond setup.options
        by_phase is (inl looks) =
            near_of setup time_left patience (controller_step before octets).controller step
            (subst (λ (o : List ℕ). (controller_step before o).controller.live.phase ≢ Looking) (sym is.frame)
            (controller_finds before is.settings at looks is.named is.sized))
        by_phase is (inr other) = fewer (near_of setup time_left patience before at other)

        by_frame : Among (IsFound setup identity) (octets ∷ frames) ⊎ (ahead before ≤ beyond setup.options)
            → Among (IsFound setup identity) frames ⊎ (ahead (controller_step before octets).controller ≤ beyond setup.options)
        by_frame (inl (inl is)) = inr (by_phase is (looks_or_not before.live.phase))
        by_frame (inl (inr later)) = inl later
        by_frame (inr out) = inr (fewer out)

  -- It searches, and has waited for this many units since its Identify.
  abbrev pub IsWaiting : ℕ → Controlling → Type 0
  IsWaiting waited controller = IsAnyController setup controller × (controller.live.phase ≡ Looking) × (controller.live.waited ≡ waited)

  module _ (search_frame : SearchFrame setup) where
    -- Any frames leave it in the search, or not.
    searches : (waited : ℕ) (before : Controlling) (frames : List (List ℕ)) → AllByRecursion (ChoosesWell setup) frames → IsOut before ⊎ IsWaiting waited before
        → IsOut (hears_all before frames).controller ⊎ IsWaiting waited (hears_all before frames).controller
    searches waited before [] chosen at = at
    searches waited before (octets ∷ frames) chosen (inl out) =
        let step = controller_frame good patience before octets out.0 chosen.0 in
        let fewer : ahead (controller_step before octets).controller ≤ ahead before = step.2 in
        let few : ahead before ≤ beyond setup.options = out.1 in
        searches waited (controller_step before octets).controller frames chosen.1 (inl (step.0, omega (arith, fewer, few)))
    searches waited before (octets ∷ frames) chosen (inr at) =
        searches waited (controller_step before octets).controller frames chosen.1
        (by_phase (looks_or_not (controller_step before octets).controller.live.phase) (search_frame good before octets at.0 at.1))
      where
        step : IsAnyController setup (controller_step before octets).controller
        step = (controller_frame good patience before octets at.0 chosen.0).0

        by_phase : ((controller_step before octets).controller.live.phase ≡ Looking) ⊎ ((controller_step before octets).controller.live.phase ≢ Looking)
            → ((controller_step before octets).controller.live.phase ≢ Looking)
            ⊎ ((controller_step before octets).controller.live.waited ≡ before.live.waited)
            → IsOut (controller_step before octets).controller ⊎ IsWaiting waited (controller_step before octets).controller
        by_phase (inr other) either = inl (step, near_of setup time_left patience (controller_step before octets).controller step other)
        by_phase (inl looks) (inl other) = absurd (other looks)
        by_phase (inl looks) (inr same) = inr (step, looks, same ∙ at.2)

-- ---- how near it is

-- At most this many units until it exchanges data or has ended, given the frames that are under way to the device: it has left the search; or its
-- Identify is under way; or it will be sent in time.
abbrev pub IsNear : Setup → ℕ → Controlling → List (List ℕ) → Type 0
IsNear setup limit controller to_device =
    ((ahead controller ≤ limit) × (ahead controller ≤ beyond setup.options))
    ⊎ ((controller.live.phase ≡ Looking)
    × ((Among (IsIdentify setup) to_device × (suc (beyond setup.options) ≤ limit))
    ⊎ (32000 + suc (beyond setup.options) ≤ limit + controller.live.waited)))

module _ {F : Type 0} {S : ℕ} (as_flash : Flash F S) (setup next : Setup) (identity : Identity) (silence : ℕ)
    (time_left : HasTimeLeft) (long : IsLong as_flash setup next identity silence) (patience : HasPatience setup.options)
    (controller_frame : ControllerFrame setup) (controller_unit : ControllerUnit setup) (controller_search : ControllerSearch setup)
    (search_frame : SearchFrame setup) (controller_finds : ControllerFinds setup identity) (exchange_unit : ExchangeUnit setup)
    (ended_unit : EndedUnit setup) (device_frame : DeviceFrame as_flash setup next identity silence)
    (device_unit : DeviceUnit as_flash setup next identity silence) (device_found : DeviceFound as_flash setup next identity silence) where
  -- It has ended, or is as near.
  abbrev AfterUnit : ℕ → Controlling → List (List ℕ) → Type 0
  AfterUnit limit controller to_device = (is_ended controller.live.phase ≡ true) ⊎ IsNear setup limit controller to_device

  -- A unit after the search.
  out_unit : (limit : ℕ) (here : Controlling) (to_device : List (List ℕ)) → IsOut setup identity time_left long.real patience controller_frame here
      → ahead here ≤ suc limit → AfterUnit limit (step_of here Tick).controller to_device
  out_unit limit here to_device at few = by_kind (kinds here.live.phase)
    where
      out : ahead here ≤ beyond setup.options
      out = at.1

      by_exchange : (is_ended (step_of here Tick).controller.live.phase ≡ true) ⊎ ((step_of here Tick).controller.live.phase ≡ Exchanging)
          → AfterUnit limit (step_of here Tick).controller to_device
      by_exchange (inl ended) = inl ended
      by_exchange (inr exchanges) =
          let none : ahead (step_of here Tick).controller ≡ 0
          = ap (λ (p : Phases). ahead_in (step_of here Tick).controller.setup.options (step_of here Tick).controller.live.left p) exchanges in
          inr (inl (omega (arith, none), omega (arith, none)))

      phase_of : {X Y Z : Type 0} → (is_ended (step_of here Tick).controller.live.phase ≡ true)
          ⊎ (StillExchanges here (step_of here Tick).controller × X × Y × Z)
          → (is_ended (step_of here Tick).controller.live.phase ≡ true) ⊎ ((step_of here Tick).controller.live.phase ≡ Exchanging)
      phase_of (inl ended) = inl ended
      phase_of (inr on) = inr on.0.in_phase

      by_kind : (here.live.phase ≡ Looking) ⊎ ((is_limited here.live.phase ≡ true) ⊎ ((here.live.phase ≡ Exchanging) ⊎ (is_ended here.live.phase ≡ true)))
          → AfterUnit limit (step_of here Tick).controller to_device
      by_kind (inl looks) =
          let more : ahead here ≡ suc (beyond setup.options) = looking_ahead setup time_left patience here at.0 looks in absurd (omega (arith, more, out))
      by_kind (inr (inl limited)) =
          let less : suc (ahead (step_of here Tick).controller) ≤ ahead here = (controller_unit long.real patience here at.0).2 limited in
          inr (inl (omega (arith, less, few), omega (arith, less, out)))
      by_kind (inr (inr (inl exchanges))) = by_exchange (phase_of (exchange_unit long.real here at.0 exchanges))
      by_kind (inr (inr (inr ended))) = inl (ended_unit long.real here at.0 ended).0

  -- A unit of the search.
  search_unit : (limit waited : ℕ) (here : Controlling) (sent : List (List ℕ))
      → IsWaiting setup identity time_left long.real patience controller_frame waited here
      → 32000 + suc (beyond setup.options) ≤ suc limit + waited
      → IsNear setup limit (step_of here Tick).controller (sent ++ (step_of here Tick).frames)
  search_unit limit waited here sent at time = by_second (completes here.live.waited) refl
    where
      unit : ((step_of here Tick).controller.live.phase ≡ Looking)
          × (here.live.waited < 32000)
          × ((step_of here Tick).controller.live.waited ≡ counts_on here.live.waited)
          × ((step_of here Tick).frames ≡ (if completes here.live.waited then opening_of here ∷ [] else []))
      unit = controller_search long.real here at.0 at.1

      is : here.live.waited ≡ waited
      is = at.2

      few : here.live.waited < 32000
      few = unit.1

      by_second : (now : Bool) → completes here.live.waited ≡ now → IsNear setup limit (step_of here Tick).controller (sent ++ (step_of here Tick).frames)
      by_second true e = inr (
        unit.0,
        inl (
          among_more (IsIdentify setup) sent (step_of here Tick).frames
              (subst (Among (IsIdentify setup)) (sym (unit.3 ∙ ap (λ (b : Bool). if b then opening_of here ∷ [] else []) e))
              (inl (record { controller = here; of_setup = at.0.of_setup; frame = refl }))),
          omega (arith, time, is, few),
        ),
      )
      by_second false e =
          let counts : (step_of here Tick).controller.live.waited ≡ here.live.waited + 1
          = unit.2 ∙ ap (λ (b : Bool). if b then 0 else here.live.waited + 1) e in
          inr (unit.0, inr (omega (arith, time, is, counts)))

  -- A round brings it nearer.
  pub near_round : (limit : ℕ) (before after : Net F) → IsUnderWay as_flash setup next identity silence before → Round as_flash before after
      → IsNear setup (suc limit) before.controller before.to_device → AfterUnit limit after.controller after.to_device
  near_round limit before after at round near =
      subst (λ (c : Controlling). AfterUnit limit c after.to_device) (sym round.controller)
      (subst (AfterUnit limit (step_of (hears_all before.controller (before.to_controller ++ round.answers)).controller Tick).controller) (sym round.to_device)
      (by_near near))
    where
      chosen : AllByRecursion (ChoosesWell setup) (before.to_controller ++ round.answers)
      chosen = rounds.chosen as_flash setup next identity silence long patience device_frame device_unit controller_frame controller_unit before after at round

      heard : Controlling
      heard = (hears_all before.controller (before.to_controller ++ round.answers)).controller

      sent : List (List ℕ)
      sent = (hears_all before.controller (before.to_controller ++ round.answers)).frames

      fewer : IsAnyController setup heard × (ahead heard ≤ ahead before.controller)
      fewer =
          (rounds.controller_is as_flash setup next identity silence long patience device_frame device_unit controller_frame controller_unit before after at
          round).0

      by_search : 32000 + suc (beyond setup.options) ≤ suc limit + before.controller.live.waited
          → IsOut setup identity time_left long.real patience controller_frame heard
          ⊎ IsWaiting setup identity time_left long.real patience controller_frame before.controller.live.waited heard
          → before.controller.live.waited < 32000
          → AfterUnit limit (step_of heard Tick).controller (sent ++ (step_of heard Tick).frames)
      by_search time (inl out) few =
          let nearer : ahead heard ≤ beyond setup.options = out.1 in
          out_unit limit heard (sent ++ (step_of heard Tick).frames) out (omega (arith, nearer, time, few))
      by_search time (inr waits) few = inr (search_unit limit before.controller.live.waited heard sent waits time)

      by_near : IsNear setup (suc limit) before.controller before.to_device
          → AfterUnit limit (step_of heard Tick).controller (sent ++ (step_of heard Tick).frames)
      by_near (inl few) =
          let nearer : ahead heard ≤ ahead before.controller = fewer.1 in
          let now : ahead before.controller ≤ suc limit = few.0 in
          let out : ahead before.controller ≤ beyond setup.options = few.1 in
          out_unit limit heard (sent ++ (step_of heard Tick).frames) (fewer.0, omega (arith, nearer, out)) (omega (arith, nearer, now))
      by_near (inr (looks, inl asked)) =
          let out = leaves setup identity time_left long.real patience controller_frame controller_finds before.controller
          (before.to_controller ++ round.answers) at.controller chosen
          (inl (among_more (IsFound setup identity) before.to_controller round.answers
          (device_answers as_flash setup next identity silence long device_frame device_found before.device before.to_device round.answers round.device
          round.arrives at.device at.to_device asked.0))) in
          let nearer : ahead heard ≤ beyond setup.options = out.1 in
          let few : suc (beyond setup.options) ≤ suc limit = asked.1 in
          out_unit limit heard (sent ++ (step_of heard Tick).frames) out (omega (arith, nearer, few))
      by_near (inr (looks, inr time)) =
          by_search time
          (searches setup identity time_left long.real patience controller_frame search_frame before.controller.live.waited before.controller
          (before.to_controller ++ round.answers) chosen (inr (at.controller, looks, refl)))
          (controller_search long.real before.controller at.controller looks).1
