-- While the controller exchanges data: both serve, or it has ended, by time alone.
use Rattle.std.proofs.Common.{◌≡◌, ◌⊎◌, inl, inr, ◌≤◌, ◌<◌, ◌+◌, ◌*◌, ◌++◌, ℕ, zero, suc, Bool, true, false, List, Option, Some, None, refl, sym, subst, ◌∙◌, arith}
use Rattle.std.specs.List.{AllByRecursion}
use Rattle.std.proofs.lemmas.Nat.{mul-le}
use Rattle.flash_model.specs.declared.flash.Flash.{Ghosts as Flash}
use Rattle.pn_values.specs.declared.identity.Identity.{Identity}
use Rattle.cyclic_data.specs.declared.exchange.route.Route.{Route}
use Rattle.relations.specs.RelationState.{RelationState}
use Rattle.relations.specs.Timers.{is_timed, limit_of}
use Rattle.relations.specs.declared.phase.Phase.TheVariants.{Exchanging as in_exchange}
use Rattle.controller_messages.specs.declared.setup.Setup.{Setup}
use Rattle.controller_core.specs.declared.stored.event.Event.TheVariants.{Tick}
use Rattle.controller_core.specs.declared.stored.state.State.TheVariants.{Exchanging}
use Rattle.controller_core.specs.stored.State.{Controlling}
use Rattle.controller_core.specs.Machine.{Stepped, step_of}
use Rattle.network_world.specs.World.{is_ended}
use Rattle.rounds_law.specs.Again.{Plant, PlantRound, units_left}
use Rattle.rounds_law.specs.Anywhere.{AllLast, ChoosesWell, HasPatience, LeadsAnywhereBack, parting_limit, plug_limit}
use Rattle.rounds_law.specs.Path.{hold_of}
use Rattle.rounds_law.specs.Rounds.{hears_all}
use Rattle.rounds_law.proofs.AgainLaw.{sum, sum_is}
use Rattle.rounds_law.proofs.AnywhereParts.{Accepts, AcceptsInputs, AcceptsOutputs, AreOwn, ControllerFrame, ControllerUnit, DeviceFrame, DeviceUnit}
use Rattle.rounds_law.proofs.AnywhereParts.{EndedFrame, EndedUnit, ExchangeFrame, ExchangeUnit, InputsOfFrame, InputsOfUnit, IsLong, IsOfExchange}
use Rattle.rounds_law.proofs.AnywhereParts.{LinkFrame, LinkUnit, room_of}
use Rattle.rounds_law.proofs.AnywherePlants.{EndLeads, ExchangingLeads, IsOnTheWay, RoundKeeps}
use Rattle.rounds_law.proofs.AnywhereRounds as rounds
use Rattle.rounds_law.proofs.AnywhereRounds.{all_joined, back_leads, leads_longer, round_keeps}
use Rattle.rounds_law.proofs.AnywhereGoing.{going, round_leads}
use Rattle.rounds_law.proofs.AnywhereExchangingController.{Continues, NoneAccepted, exchange_round, none_accepted_as}
use Rattle.rounds_law.proofs.AnywhereExchangingChoices.{accepts_inputs_as, cases_inputs, cases_outputs, lasts_few, untimed}
use Rattle.rounds_law.proofs.AnywhereExchangingMoves.{IsEarly, IsUnserved, early_ages, early_ends, early_moves, reserve_of, unserved_ages, unserved_ends, unserved_moves}
use Rattle.rounds_law.proofs.AnywhereExchangingDevice.{Every, IsRefused, every_none, every_some, kept_by_round, refused_round}

module _ {F : Type 0} {S : ℕ} (as_flash : Flash F S) (setup next : Setup) (identity : Identity) (silence : ℕ)
    (controller_frame : ControllerFrame setup) (controller_unit : ControllerUnit setup) (exchange_frame : ExchangeFrame setup)
    (exchange_unit : ExchangeUnit setup) (ended_frame : EndedFrame setup) (ended_unit : EndedUnit setup)
    (device_frame : DeviceFrame as_flash setup next identity silence) (device_unit : DeviceUnit as_flash setup next identity silence)
    (link_frame : LinkFrame as_flash setup next identity silence) (link_unit : LinkUnit as_flash setup next identity silence)
    (inputs_of_frame : InputsOfFrame as_flash setup next identity silence)
    (inputs_of_unit : InputsOfUnit as_flash setup next identity silence) where
  module _ (Also : Plant F → Type 0) (long : IsLong as_flash setup next identity silence) (patience : HasPatience setup.options) (pause rest : ℕ)
      (follows : EndLeads as_flash setup next identity silence pause rest Also) where
    -- The controller has not ended.
    abbrev OnTheWay : Plant F → Type 0
    OnTheWay plant = IsOnTheWay as_flash setup next identity silence Also plant

    -- Both exchange data after this many rounds at most.
    abbrev Leads : ℕ → Plant F → Type 0
    Leads limit plant = LeadsAnywhereBack as_flash identity pause limit plant

    -- ---- a round

    -- The controller exchanges data, and only its frames of the exchange are under way.
    pub record IsFacing (plant : Plant F) : Type 0 where
      pub way : OnTheWay plant
      pub in_phase : plant.net.controller.live.phase ≡ Exchanging
      pub to_device : AreOwn setup (IsOfExchange plant.net.controller.live.cyclic.route) plant.net.to_device

    -- The frames that arrive at the controller in a round.
    abbrev arrived : (plant after : Plant F) → PlantRound as_flash pause plant after → List (List ℕ)
    arrived plant after round = plant.net.to_controller ++ round.round.answers

    -- What it has sent after them, and its state.
    abbrev heard : (plant after : Plant F) → PlantRound as_flash pause plant after → Stepped
    heard plant after round = hears_all plant.net.controller (arrived plant after round)

    -- What it has sent after the unit, and its state.
    abbrev unit : (plant after : Plant F) → PlantRound as_flash pause plant after → Stepped
    unit plant after round = step_of (heard plant after round).controller Tick

    -- It exchanges data after the round, and has sent these frames.
    abbrev GoesBy : (plant after : Plant F) → PlantRound as_flash pause plant after → Controlling → List (List ℕ) → Type 0
    GoesBy plant after round controller sent =
        Continues setup long.real patience controller_frame plant.net.controller (arrived plant after round) controller sent

    -- So it does after this round.
    abbrev GoesOn : (plant after : Plant F) → PlantRound as_flash pause plant after → Type 0
    GoesOn plant after round = GoesBy plant after round round.net.controller round.net.to_device

    keeps : RoundKeeps as_flash setup next identity silence
    keeps = round_keeps as_flash setup next identity silence device_frame device_unit controller_frame controller_unit

    -- It has ended, or exchanges data again.
    face_round : (limit : ℕ) → rest ≤ limit → (plant after : Plant F) → OnTheWay plant → plant.net.controller.live.phase ≡ Exchanging
        → (round : PlantRound as_flash pause plant after)
        → (GoesOn plant after round → IsFacing (going plant round.net) → Leads limit (going plant round.net)) → Leads limit after
    face_round limit more plant after way in_phase round leads =
        round_leads as_flash setup next identity silence pause keeps Also rest follows long patience limit more plant after way round
        (either (exchange_round setup long.real patience controller_frame exchange_frame exchange_unit ended_frame ended_unit plant.net.controller
        (arrived plant after round) way.net.controller in_phase chosen))
      where
        chosen : AllByRecursion (ChoosesWell setup) (arrived plant after round)
        chosen =
            rounds.chosen as_flash setup next identity silence long patience device_frame device_unit controller_frame controller_unit plant.net round.net
            way.net round.round

        either : (is_ended (unit plant after round).controller.live.phase ≡ true)
            ⊎ GoesBy plant after round (unit plant after round).controller ((heard plant after round).frames ++ (unit plant after round).frames)
            → (is_ended round.net.controller.live.phase ≡ true) ⊎ (OnTheWay (going plant round.net) → Leads limit (going plant round.net))
        either (inl ended) = inl (subst (λ (c : Controlling). is_ended c.live.phase ≡ true) (sym round.round.controller) ended)
        either (inr on) = inr (λ later.
            let goes : GoesOn plant after round =
            subst (λ (c : Controlling). GoesBy plant after round c round.net.to_device) (sym round.round.controller)
            (subst (GoesBy plant after round (unit plant after round).controller) (sym round.round.to_device) on) in
            leads goes (record {
              way = later;
              in_phase = goes.in_phase;
              to_device = subst (λ (r : Route). AreOwn setup (IsOfExchange r) round.net.to_device) (sym goes.route) goes.of_exchange;
            }))

    -- ---- the controller accepts no inputs

    -- No frame under way is accepted, and its data hold time lasts this many units at most.
    pub record IsMute (left : ℕ) (plant : Plant F) : Type 0 where
      pub facing : IsFacing plant
      pub refused : Every (IsRefused identity plant.net.controller) plant.net.device.live.rest.link
      pub silent : NoneAccepted plant.net.controller plant.net.to_controller
      pub time : hold_of setup.plan ≤ plant.net.controller.live.cyclic.hearing.held + left

    -- What a round with such a relation leaves.
    refusing : (plant after : Plant F) → IsFacing plant → Every (IsRefused identity plant.net.controller) plant.net.device.live.rest.link
        → (round : PlantRound as_flash pause plant after)
        → NoneAccepted plant.net.controller round.round.answers × Every (IsRefused identity plant.net.controller) round.net.device.live.rest.link
        × NoneAccepted plant.net.controller round.net.to_controller
    refusing plant after facing refused round =
        refused_round as_flash setup next identity silence long device_frame link_frame link_unit inputs_of_frame inputs_of_unit plant.net.controller
        facing.way.net.controller facing.in_phase plant.net.controller.live.cyclic.route plant.net round.net round.round facing.way.net.device facing.to_device
        refused

    -- Seen from the controller after it.
    mute_by : (left : ℕ) (plant after : Plant F) → IsFacing plant → Every (IsRefused identity plant.net.controller) plant.net.device.live.rest.link
        → (round : PlantRound as_flash pause plant after) → GoesOn plant after round → IsFacing (going plant round.net)
        → hold_of setup.plan ≤ round.net.controller.live.cyclic.hearing.held + left → IsMute left (going plant round.net)
    mute_by left plant after facing refused round on later time =
        let all = refusing plant after facing refused round in
        let setups : round.net.controller.setup ≡ plant.net.controller.setup = later.way.net.controller.of_setup ∙ sym facing.way.net.controller.of_setup in
        record {
          facing = later;
          refused = λ its has accepts.
              all.1 its has (accepts_inputs_as identity round.net.controller plant.net.controller its (sym setups) (sym on.route) accepts);
          silent = none_accepted_as plant.net.controller round.net.controller round.net.to_controller (sym setups) (sym on.route) all.2;
          time = time;
        }

    held_on : (left : ℕ) (plant after : Plant F) → IsMute left plant → (round : PlantRound as_flash pause plant after) → GoesOn plant after round
        → round.net.controller.live.cyclic.hearing.held ≡ suc plant.net.controller.live.cyclic.hearing.held
    held_on left plant after at round on =
        on.held (all_joined (λ octets. Accepts plant.net.controller octets → ⊥) plant.net.to_controller round.round.answers at.silent
        (refusing plant after at.facing at.refused round).0)

    sum_few : (left limit : ℕ) → rest ≤ limit → rest ≤ sum left limit
    sum_few left limit more = let is : sum left limit ≡ left + limit = sum_is left limit in omega (arith, is, more)

    mute_leads : (left : ℕ) (plant : Plant F) → IsMute left plant → Leads (suc (sum left rest)) plant
    mute_leads zero plant at = inr (λ after round.
        face_round rest (omega arith) plant after at.facing.way at.facing.in_phase round (λ on later.
        let held = held_on zero plant after at round on in
        let few : round.net.controller.live.cyclic.hearing.held < hold_of setup.plan = on.few in
        let time : hold_of setup.plan ≤ plant.net.controller.live.cyclic.hearing.held + 0 = at.time in
        absurd (omega (arith, held, few, time))))
    mute_leads (suc left) plant at = inr (λ after round.
        face_round (sum (suc left) rest) (sum_few (suc left) rest (omega arith)) plant after at.facing.way at.facing.in_phase round (λ on later.
        let held = held_on (suc left) plant after at round on in
        let time : hold_of setup.plan ≤ plant.net.controller.live.cyclic.hearing.held + suc left = at.time in
        mute_leads left (going plant round.net) (mute_by left plant after at.facing at.refused round on later (omega (arith, held, time)))))

    -- ---- the same, and anything is under way

    -- The rounds until then.
    abbrev muted_limit : ℕ
    muted_limit = suc (suc (sum (hold_of setup.plan) rest))

    muted_few : rest ≤ muted_limit
    muted_few = sum_few (suc (suc (hold_of setup.plan))) rest (omega arith)

    muted_leads : (plant : Plant F) → IsFacing plant → Every (IsRefused identity plant.net.controller) plant.net.device.live.rest.link → Leads muted_limit plant
    muted_leads plant facing refused = inr (λ after round.
        face_round (suc (sum (hold_of setup.plan) rest)) (sum_few (suc (hold_of setup.plan)) rest (omega arith)) plant after
        facing.way facing.in_phase round (λ on later.
        mute_leads (hold_of setup.plan) (going plant round.net) (mute_by (hold_of setup.plan) plant after facing refused round on later (omega arith))))

    -- ---- the relation does not accept the outputs

    unserved_leads : (left : ℕ) (plant : Plant F) → IsFacing plant
        → Every (IsUnserved setup plant.net.controller.live.cyclic.route left) plant.net.device.live.rest.link → Leads (suc (sum left muted_limit)) plant
    unserved_leads zero plant facing every = inr (λ after round.
        face_round muted_limit muted_few plant after facing.way facing.in_phase round (λ on later.
        muted_leads (going plant round.net) later
        (kept_by_round as_flash setup next identity silence long device_frame link_frame link_unit plant.net.controller.live.cyclic.route
        (IsUnserved setup plant.net.controller.live.cyclic.route 0) (IsRefused identity round.net.controller)
        (unserved_moves setup plant.net.controller.live.cyclic.route 0)
        (unserved_ends setup identity round.net.controller plant.net.controller.live.cyclic.route) plant.net round.net round.round facing.way.net.device
        facing.to_device every)))
    unserved_leads (suc left) plant facing every = inr (λ after round.
        face_round (sum (suc left) muted_limit) (sum_few (suc left) muted_limit muted_few) plant after facing.way facing.in_phase round (λ on later.
        unserved_leads left (going plant round.net) later
        (subst (λ (r : Route). Every (IsUnserved setup r left) round.net.device.live.rest.link) (sym on.route)
        (kept_by_round as_flash setup next identity silence long device_frame link_frame link_unit plant.net.controller.live.cyclic.route
        (IsUnserved setup plant.net.controller.live.cyclic.route (suc left)) (IsUnserved setup plant.net.controller.live.cyclic.route left)
        (unserved_moves setup plant.net.controller.live.cyclic.route (suc left))
        (unserved_ages setup plant.net.controller.live.cyclic.route left) plant.net round.net round.round facing.way.net.device facing.to_device every))))

    -- ---- data is exchanged

    -- The rounds until both exchange data, if they do not.
    abbrev decided_limit : ℕ
    decided_limit = suc (sum silence muted_limit)

    decided_few : muted_limit ≤ decided_limit
    decided_few = let is : sum silence muted_limit ≡ silence + muted_limit = sum_is silence muted_limit in omega (arith, is)

    decided_leads : (plant : Plant F) → IsFacing plant → Every (λ its. its.phase ≡ in_exchange) plant.net.device.live.rest.link → Leads decided_limit plant
    decided_leads plant facing every = by_link plant.net.device.live.rest.link refl
      where
        -- Both accept the frames of the other, or one of them does not.
        by_choices : (its : RelationState) → plant.net.device.live.rest.link ≡ Some its
            → AcceptsOutputs setup plant.net.controller.live.cyclic.route its ⊎ (AcceptsOutputs setup plant.net.controller.live.cyclic.route its → ⊥)
            → AcceptsInputs identity plant.net.controller its ⊎ (AcceptsInputs identity plant.net.controller its → ⊥) → Leads decided_limit plant
        by_choices its has (inr refuses) either =
            unserved_leads silence plant facing
            (every_some (IsUnserved setup plant.net.controller.live.cyclic.route silence) plant.net.device.live.rest.link its has (record {
              exchanges = every its has;
              few = lasts_few setup silence plant.net.device.live.rest.link its facing.way.net.device.lasts has;
              refuses = refuses;
            }))
        by_choices its has (inl outputs) (inr refused) =
            leads_longer as_flash identity pause muted_limit decided_limit plant decided_few
            (muted_leads plant facing (every_some (IsRefused identity plant.net.controller) plant.net.device.live.rest.link its has refused))
        by_choices its has (inl outputs) (inl inputs) =
            back_leads as_flash identity pause decided_limit plant (inr (record {
              link = its;
              device = has;
              exchanges = every its has;
              controller = facing.in_phase;
              outputs = outputs.outputs;
              inputs = inputs.inputs;
              device_hears = inputs.addressed;
              controller_hears = inputs.sender;
            }))

        by_link : (link : Option RelationState) → plant.net.device.live.rest.link ≡ link → Leads decided_limit plant
        by_link None none =
            leads_longer as_flash identity pause muted_limit decided_limit plant decided_few
            (muted_leads plant facing (every_none (IsRefused identity plant.net.controller) plant.net.device.live.rest.link none))
        by_link (Some its) has =
            by_choices its has (cases_outputs setup plant.net.controller.live.cyclic.route its) (cases_inputs identity plant.net.controller its)

    -- ---- before data is exchanged

    early_leads : (left : ℕ) (plant : Plant F) → IsFacing plant → Every (IsEarly setup silence left) plant.net.device.live.rest.link
        → Leads (suc (sum left decided_limit)) plant
    early_leads zero plant facing every = inr (λ after round.
        face_round decided_limit (sum_few (suc silence) muted_limit muted_few) plant after facing.way facing.in_phase round (λ on later.
        decided_leads (going plant round.net) later
        (kept_by_round as_flash setup next identity silence long device_frame link_frame link_unit plant.net.controller.live.cyclic.route
        (IsEarly setup silence 0) (λ its. its.phase ≡ in_exchange) (early_moves setup plant.net.controller.live.cyclic.route silence 0)
        (early_ends setup silence) plant.net round.net round.round facing.way.net.device facing.to_device every)))
    early_leads (suc left) plant facing every = inr (λ after round.
        face_round (sum (suc left) decided_limit) (sum_few (suc left) decided_limit (sum_few (suc silence) muted_limit muted_few)) plant after facing.way
        facing.in_phase round (λ on later.
        early_leads left (going plant round.net) later
        (kept_by_round as_flash setup next identity silence long device_frame link_frame link_unit plant.net.controller.live.cyclic.route
        (IsEarly setup silence (suc left)) (IsEarly setup silence left) (early_moves setup plant.net.controller.live.cyclic.route silence (suc left))
        (early_ages setup silence left) plant.net round.net round.round facing.way.net.device facing.to_device every)))

    -- The units until data is exchanged, if each record is kept that there is room for.
    abbrev early_limit : ℕ
    early_limit = silence + plug_limit setup.plan silence

    room_few : (room reserve : ℕ) → room ≤ 64 → room * reserve ≤ 64 * reserve
    room_few room reserve less = mul-le room reserve 64 reserve less (omega arith)

    early_by : (its : RelationState) → limit_of its ≤ silence → units_left its ≤ silence → IsEarly setup silence early_limit its
    early_by its limit few = by_timer (is_timed its.phase) refl
      where
        by_timer : (timed : Bool) → is_timed its.phase ≡ timed → IsEarly setup silence early_limit its
        by_timer true e =
            let room : room_of its * reserve_of setup silence ≤ 64 * reserve_of setup silence =
            room_few (room_of its) (reserve_of setup silence) (omega arith) in
            inr (record { timed = e; limit = limit; few = omega (arith, few, room) })
        by_timer false e = inl (untimed its.phase e)

    -- ---- the first round, with anything under way

    whole_few : rest ≤ sum (suc early_limit) decided_limit
    whole_few = sum_few (suc early_limit) decided_limit (sum_few (suc silence) muted_limit muted_few)

    limit_few : (link : Option RelationState) (its : RelationState) → AllLast setup silence link → link ≡ Some its → limit_of its ≤ silence
    limit_few link its lasts has = (subst (AllLast setup silence) has lasts).active

    all_lead : (plant : Plant F) → OnTheWay plant → plant.net.controller.live.phase ≡ Exchanging → Leads (suc (suc (sum early_limit decided_limit))) plant
    all_lead plant way in_phase = inr (λ after round.
        face_round (sum (suc early_limit) decided_limit) whole_few plant after way in_phase round (λ on later.
        early_leads early_limit (going plant round.net) later
        (λ its has.
        early_by its (limit_few round.net.device.live.rest.link its later.way.net.device.lasts has)
        (lasts_few setup silence round.net.device.live.rest.link its later.way.net.device.lasts has))))

    is_whole : suc (suc (sum early_limit decided_limit)) ≡ parting_limit setup.plan silence + rest
    is_whole =
        let first : sum early_limit decided_limit ≡ early_limit + decided_limit = sum_is early_limit decided_limit in
        let second : sum silence muted_limit ≡ silence + muted_limit = sum_is silence muted_limit in
        let third : sum (hold_of setup.plan) rest ≡ hold_of setup.plan + rest = sum_is (hold_of setup.plan) rest in
        omega (arith, first, second, third)

  pub exchanging_leads : (Also : Plant F → Type 0) → ExchangingLeads as_flash setup next identity silence Also
  exchanging_leads Also long patience pause rest follows plant way in_phase =
      subst (λ (n : ℕ). LeadsAnywhereBack as_flash identity pause n plant) (is_whole Also long patience pause rest follows)
      (all_lead Also long patience pause rest follows plant way in_phase)
