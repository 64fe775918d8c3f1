-- From any state in which the controller has not ended, both exchange data within a number of rounds.
use Rattle.std.proofs.Common.{◌≡◌, ◌≢◌, ◌⊎◌, inl, inr, ◌≤◌, ◌<◌, ◌+◌, ℕ, zero, suc, true, false, sym, ap, subst, ◌∙◌, arith}
use Rattle.flash_model.specs.declared.flash.Flash.{Ghosts as Flash}
use Rattle.pn_values.specs.declared.identity.Identity.{Identity}
use Rattle.controller_messages.specs.declared.setup.Setup.{Setup}
use Rattle.controller_core.specs.declared.stored.state.State.TheVariants.{Looking, Exchanging}
use Rattle.controller_core.specs.stored.State.{is_limited}
use Rattle.network_world.specs.World.{is_ended}
use Rattle.end_laws.specs.turns.Patience.{HasTimeLeft}
use Rattle.rounds_law.specs.Again.{Plant, PlantRound}
use Rattle.rounds_law.specs.Anywhere.{HasPatience, LeadsAnywhereBack, ahead_limit, parting_limit}
use Rattle.rounds_law.proofs.AgainLaw.{sum, sum_is}
use Rattle.rounds_law.proofs.AnywhereParts.{ControllerFinds, ControllerFrame, ControllerSearch, ControllerUnit, DeviceFound, DeviceFrame, DeviceUnit}
use Rattle.rounds_law.proofs.AnywhereParts.{EndedUnit, ExchangeUnit, IsLong, SearchFrame, ahead}
use Rattle.rounds_law.proofs.AnywherePlants.{EndLeads, ExchangingLeads, IsOnTheWay, OnTheWayLeads}
use Rattle.rounds_law.proofs.AnywhereRounds.{round_keeps}
use Rattle.rounds_law.proofs.AnywhereGoing.{going, round_leads}
use Rattle.rounds_law.proofs.AnywhereNearingStates.{beyond, kinds, looking_ahead, looks_or_not, near_of}
use Rattle.rounds_law.proofs.AnywhereNearing.{IsNear, near_round}

module _ {F : Type 0} {S : ℕ} (as_flash : Flash F S) (setup next : Setup) (identity : Identity) (silence : ℕ)
    (time_left : HasTimeLeft) (controller_frame : ControllerFrame setup) (controller_unit : ControllerUnit setup)
    (controller_search : ControllerSearch setup) (search_frame : SearchFrame setup) (controller_finds : ControllerFinds setup identity)
    (exchange_unit : ExchangeUnit setup) (ended_unit : EndedUnit setup) (device_frame : DeviceFrame as_flash setup next identity silence)
    (device_unit : DeviceUnit as_flash setup next identity silence) (device_found : DeviceFound as_flash setup next identity silence)
    (Also : Plant F → Type 0) (exchanging : ExchangingLeads as_flash setup next identity silence Also) where
  module _ (long : IsLong as_flash setup next identity silence) (patience : HasPatience setup.options) (pause rest : ℕ)
      (follows : EndLeads as_flash setup next identity silence pause rest Also) where
    -- The controller has not ended.
    abbrev OnTheWay : Plant F → Type 0
    OnTheWay plant = IsOnTheWay as_flash setup next identity silence Also plant

    -- Both exchange data after this many rounds at most.
    abbrev Leads : ℕ → Plant F → Type 0
    Leads limit plant = LeadsAnywhereBack as_flash identity pause limit plant

    -- From the exchange or the end on.
    abbrev whole : ℕ
    whole = parting_limit setup.plan silence + rest

    whole_few : (limit : ℕ) → rest ≤ sum limit whole
    whole_few limit = let is : sum limit whole ≡ limit + whole = sum_is limit whole in omega (arith, is)

    -- With no unit left it exchanges data.
    there : (plant : Plant F) → OnTheWay plant → IsNear setup 0 plant.net.controller plant.net.to_device → Leads whole plant
    there plant way near = by_kind (kinds plant.net.controller.live.phase) near
      where
        never : true ≡ false → ⊥
        never e = absurd cc

        by_kind : (plant.net.controller.live.phase ≡ Looking)
            ⊎ ((is_limited plant.net.controller.live.phase ≡ true)
            ⊎ ((plant.net.controller.live.phase ≡ Exchanging) ⊎ (is_ended plant.net.controller.live.phase ≡ true)))
            → IsNear setup 0 plant.net.controller plant.net.to_device → Leads whole plant
        by_kind (inl looks) (inl few) =
            let more : ahead plant.net.controller ≡ suc (beyond setup.options)
            = looking_ahead setup time_left patience plant.net.controller way.net.controller looks in
            let none : ahead plant.net.controller ≤ 0 = few.0 in
            absurd (omega (arith, more, none))
        by_kind (inl looks) (inr (same, inl asked)) = let none : suc (beyond setup.options) ≤ 0 = asked.1 in absurd (omega (arith, none))
        by_kind (inl looks) (inr (same, inr time)) =
            let few : plant.net.controller.live.waited < 32000 = (controller_search long.real plant.net.controller way.net.controller looks).1 in
            absurd (omega (arith, few, time))
        by_kind (inr (inl limited)) (inl few) =
            let less = (controller_unit long.real patience plant.net.controller way.net.controller).2 limited in
            let none : ahead plant.net.controller ≤ 0 = few.0 in
            absurd (omega (arith, less, none))
        by_kind (inr (inl limited)) (inr looks) = absurd (never (sym limited ∙ ap is_limited looks.0))
        by_kind (inr (inr (inl exchanges))) near = exchanging long patience pause rest follows plant way exchanges
        by_kind (inr (inr (inr ended))) near = absurd (never (sym ended ∙ way.goes_on))

    -- It has ended in this round, or is as near.
    abbrev AfterRound : ℕ → (plant after : Plant F) → PlantRound as_flash pause plant after → Type 0
    AfterRound limit plant after round =
        (is_ended round.net.controller.live.phase ≡ true) ⊎ IsNear setup limit round.net.controller round.net.to_device

    by_round : (limit : ℕ) (plant after : Plant F) (round : PlantRound as_flash pause plant after)
        → (OnTheWay (going plant round.net) → IsNear setup limit round.net.controller round.net.to_device → Leads (sum limit whole) (going plant round.net))
        → AfterRound limit plant after round
        → (is_ended round.net.controller.live.phase ≡ true) ⊎ (OnTheWay (going plant round.net) → Leads (sum limit whole) (going plant round.net))
    by_round limit plant after round leads (inl ended) = inl ended
    by_round limit plant after round leads (inr near) = inr (λ way. leads way near)

    near_leads : (limit : ℕ) (plant : Plant F) → OnTheWay plant → IsNear setup limit plant.net.controller plant.net.to_device → Leads (sum limit whole) plant
    near_leads zero plant way near = there plant way near
    near_leads (suc limit) plant way near = inr (λ after round.
        round_leads as_flash setup next identity silence pause
        (round_keeps as_flash setup next identity silence device_frame device_unit controller_frame controller_unit) Also rest follows long patience
        (sum limit whole) (whole_few limit) plant after way round
        (by_round limit plant after round (λ later nearer. near_leads limit (going plant round.net) later nearer)
        (near_round as_flash setup next identity silence time_left long patience controller_frame controller_unit controller_search search_frame
        controller_finds exchange_unit ended_unit device_frame device_unit device_found limit plant.net round.net way.net round.round near)))

    within_limit : (limit : ℕ) (plant : Plant F) → OnTheWay plant → IsNear setup limit plant.net.controller plant.net.to_device → Leads (limit + whole) plant
    within_limit limit plant way near = subst (λ (n : ℕ). Leads n plant) (sum_is limit whole) (near_leads limit plant way near)

    -- Each state is near enough.
    near_first : (plant : Plant F) → OnTheWay plant → IsNear setup (ahead_limit setup.options) plant.net.controller plant.net.to_device
    near_first plant way = by_phase (looks_or_not plant.net.controller.live.phase)
      where
        by_phase : (plant.net.controller.live.phase ≡ Looking) ⊎ (plant.net.controller.live.phase ≢ Looking)
            → IsNear setup (ahead_limit setup.options) plant.net.controller plant.net.to_device
        by_phase (inl looks) = inr (looks, inr (omega arith))
        by_phase (inr other) =
            let few : ahead plant.net.controller ≤ beyond setup.options = near_of setup time_left patience plant.net.controller way.net.controller other in
            inl (omega (arith, few), few)

  pub on_the_way_leads : OnTheWayLeads as_flash setup next identity silence Also
  on_the_way_leads long patience pause rest follows plant way =
      within_limit long patience pause rest follows (ahead_limit setup.options) plant way (near_first long patience pause rest follows plant way)
