-- If no relation of an earlier start is in the way, both ends that serve exchange data in the same relation; and a start that leads there leads
-- there within the rounds after which both serve.
use Rattle.std.proofs.Common.{◌≡◌, ◌⊎◌, inl, inr, ◌+◌, ℕ, zero, suc, true, false, sym, ap, subst, ◌∙◌, arith}
use Rattle.flash_model.specs.declared.flash.Flash.{Ghosts as Flash}
use Rattle.pn_values.specs.declared.identity.Identity.{Identity}
use Rattle.controller_messages.specs.declared.setup.Setup.{Setup}
use Rattle.rounds_law.specs.Again.{LeadsBack, Plant, PlantRound}
use Rattle.rounds_law.specs.Anywhere.{AreBack, BothServe, HasPatience, LeadsAnywhereBack}
use Rattle.rounds_law.specs.AnywhereSame.{AreOfNumber, IsOfStart, IsOfThisStart, IsUnrelated}
use Rattle.rounds_law.specs.Rounds.{BothExchange, Net, Round}
use Rattle.rounds_law.specs.Stages.{Leads}
use Rattle.rounds_law.proofs.AgainLaw.{goes_on_with, leads_on}
use Rattle.rounds_law.proofs.AnywhereControllerKept.{stands_in}
use Rattle.rounds_law.proofs.AnywhereControllerReached.{reached_kept}
use Rattle.rounds_law.proofs.AnywhereControllerSteps.{controller_frame, controller_unit}
use Rattle.rounds_law.proofs.AnywhereDeviceLaw.{device_frame, device_unit}
use Rattle.rounds_law.proofs.AnywhereParts.{IsLong}
use Rattle.rounds_law.proofs.AnywherePlants.{IsUnderWay}
use Rattle.rounds_law.proofs.AnywhereRounds.{round_keeps}
use Rattle.rounds_law.proofs.AnywhereSameDevice.{SameLaws}
use Rattle.rounds_law.proofs.AnywhereSameRounds.{round_of_start}

-- The same plant after a round in which its controller has not ended.
abbrev pub going : {F : Type 0} → Plant F → Net F → Plant F
going plant net = record { net = net; later = plant.later; idle = 0 }

-- The endpoint follows from the FrameID.
same_endpoint : (sent taken reference endpoint : ℕ) → AreOfNumber sent reference → AreOfNumber taken endpoint → sent ≡ taken → reference ≡ endpoint
same_endpoint sent taken reference endpoint one other same =
    let a : sent ≡ 0xC000 + one.number = one.outputs in
    let b : taken ≡ 0xC000 + other.number = other.outputs in
    let c : reference ≡ suc one.number = one.alarms in
    let d : endpoint ≡ suc other.number = other.alarms in
    omega (arith, a, b, c, d, same)

module _ {F : Type 0} {S : ℕ} (as_flash : Flash F S) (setup next : Setup) (identity : Identity) (silence : ℕ) (laws : SameLaws setup identity)
    (long : IsLong as_flash setup next identity silence) where
  abbrev UnderWay : Net F → Type 0
  UnderWay net = IsUnderWay as_flash setup next identity silence net

  both_serve : (net : Net F) → UnderWay net → IsOfThisStart setup net → BothServe identity net → BothExchange net
  both_serve net at same both = by_relation same.relation
    where
      setups : net.controller.setup ≡ setup
      setups = at.controller.of_setup

      stands : net.controller.live.stands ≡ true
      stands = (reached_kept laws.controller setup net.controller long.real setups at.controller.reached).stands
          ∙ ap stands_in both.controller

      never : {A : Type 0} → true ≡ false → A
      never bad = absurd cc

      by_relation : IsOfStart setup net.device.live.rest.link ⊎ IsUnrelated setup net → BothExchange net
      by_relation (inl start) =
          let its = subst (IsOfStart setup) both.device start (both.device_hears ∙ ap (λ (s : Setup). s.plan.controller.mac) setups) in
          record {
            link = both.link;
            device = both.device;
            exchanges = both.exchanges;
            ar = its.0 ∙ sym (ap (λ (s : Setup). s.ar) setups);
            controller = both.controller;
            outputs = both.outputs;
            alarms = same_endpoint net.controller.live.cyclic.route.sent_id both.link.flow.cyclic.route.taken_id
                net.controller.live.cyclic.route.reference both.link.flow.endpoint (same.route stands) its.1 both.outputs;
          }
      by_relation (inr free) = never (sym stands ∙ free.unestablished)

  -- Both exchange data in the same relation.
  pub both_exchange : (net : Net F) → UnderWay net → IsOfThisStart setup net → AreBack identity net → BothExchange net
  both_exchange net at same (inl both) = both
  both_exchange net at same (inr both) = both_serve net at same both

  -- A round keeps both.
  pub under_on : HasPatience setup.options → (before after : Net F) → UnderWay before → Round as_flash before after → UnderWay after
  under_on patience before after at round =
      round_keeps as_flash setup next identity silence (device_frame as_flash setup next identity silence laws.device)
      (device_unit as_flash setup next identity silence laws.device) (controller_frame laws.controller setup)
      (controller_unit laws.controller setup) long patience before after at round

  pub same_on : (before after : Net F) → UnderWay before → Round as_flash before after → IsOfThisStart setup before → IsOfThisStart setup after
  same_on before after at round same = round_of_start as_flash setup next identity silence laws long before after at round same

  module _ (patience : HasPatience setup.options) (pause : ℕ) where
    -- After a round of a start, the controller has not ended.
    pub round_leads : (limit n : ℕ) (plant after : Plant F) (round : PlantRound as_flash pause plant after) → Leads as_flash n round.net
        → (LeadsAnywhereBack as_flash identity pause limit (going plant round.net) → LeadsBack as_flash pause limit (going plant round.net))
        → LeadsAnywhereBack as_flash identity pause limit after → LeadsBack as_flash pause limit after
    round_leads limit n plant after round leads turns back =
        let goes = round.goes_on ∙ goes_on_with pause plant round.net (leads_on as_flash n round.net leads) in
        subst (LeadsBack as_flash pause limit) (sym goes) (turns (subst (LeadsAnywhereBack as_flash identity pause limit) goes back))

    -- A start leads there within the rounds after which both serve.
    pub start_leads : (limit n : ℕ) (plant : Plant F) → UnderWay plant.net → IsOfThisStart setup plant.net → Leads as_flash n plant.net
        → LeadsAnywhereBack as_flash identity pause limit plant → LeadsBack as_flash pause limit plant
    start_leads zero n plant at same leads back = both_exchange plant.net at same back
    start_leads (suc limit) n plant at same leads (inl back) = inl (both_exchange plant.net at same back)
    start_leads (suc limit) zero plant at same both (inr back) = inl both
    start_leads (suc limit) (suc n) plant at same (inl both) (inr back) = inl both
    start_leads (suc limit) (suc n) plant at same (inr leads) (inr back) = inr (λ after round.
        let later = leads.1 round.net round.round in
        round_leads limit n plant after round later
        (λ more. start_leads limit n (going plant round.net) (under_on patience plant.net round.net at round.round)
        (same_on plant.net round.net at round.round same) later more) (back after round))
