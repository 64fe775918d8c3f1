-- From any state in which no relation of an earlier start is in the way, both ends exchange data in the same relation within the rounds after
-- which both serve.
use Rattle.std.proofs.Common.{◌≡◌, ◌⊎◌, inl, inr, ◌≤◌, ◌+◌, ℕ, zero, suc, Bool, true, false, nat_le, List, ◌∷◌, refl, sym, subst, ◌∙◌, arith}
use Rattle.std.specs.Prelude.{if◌then◌else◌}
use Rattle.std.proofs.lemmas.Bool.Decides.{nat_tests}
use Rattle.flash_model.specs.declared.flash.Flash.{Ghosts as Flash}
use Rattle.pn_values.specs.declared.identity.Identity.{Identity}
use Rattle.controller_messages.specs.declared.setup.Setup.{Setup}
use Rattle.network_world.specs.World.{is_ended}
use Rattle.rounds_law.specs.Again.{LeadsBack, Plant, PlantRound, after_round, begun_with}
use Rattle.rounds_law.specs.Anywhere.{HasPatience, IsAnywhere, LeadsAnywhereBack}
use Rattle.rounds_law.specs.AnywhereSame.{IsOfThisStart}
use Rattle.rounds_law.specs.Rounds.{Net, Round}
use Rattle.rounds_law.specs.Stages.{IsLooking, Leads}
use Rattle.rounds_law.specs.Start.{start_up_limit}
use Rattle.rounds_law.proofs.AgainLaw.{goes_on_with}
use Rattle.rounds_law.proofs.AnywhereControllerEnded.{ended_frame, ended_unit}
use Rattle.rounds_law.proofs.AnywhereControllerSteps.{controller_frame}
use Rattle.rounds_law.proofs.AnywhereDeviceLaw.{device_frame}
use Rattle.rounds_law.proofs.AnywhereGoing.{rests_with, too_early}
use Rattle.rounds_law.proofs.AnywhereLaws.{AnywhereLaws, keeps}
use Rattle.rounds_law.proofs.AnywhereLinkRelease.{link_release, release_ignored}
use Rattle.rounds_law.proofs.AnywhereLinkUnit.{link_unit}
use Rattle.rounds_law.proofs.AnywhereParted.{Begins, Passes, ended_goes_on, over_now, passes, waits_on}
use Rattle.rounds_law.proofs.AnywhereParts.{IsLong, LinkRelease}
use Rattle.rounds_law.proofs.AnywherePlants.{IsLate, IsParted, IsUnderWay, StartsNext}
use Rattle.rounds_law.proofs.AnywhereSameDevice.{SameLaws}
use Rattle.rounds_law.proofs.AnywhereSameLeads.{both_exchange, going, same_on, under_on}
use Rattle.rounds_law.proofs.AnywhereSameStarts.{begun_leads}
use Rattle.rounds_law.proofs.AnywhereStarts.{begins}

module _ {F : Type 0} {S : ℕ} (as_flash : Flash F S) (setup next : Setup) (identity : Identity) (silence : ℕ) (laws : AnywhereLaws setup identity)
    (same_laws : SameLaws setup identity) (next_laws : SameLaws next identity)
    (next_starts : (net : Net F) → IsLooking next identity net → Leads as_flash (start_up_limit next.plan) net)
    (long : IsLong as_flash setup next identity silence) (patience : HasPatience setup.options) (pause : ℕ) (enough : silence + 4 ≤ pause) where
  abbrev UnderWay : Net F → Type 0
  UnderWay net = IsUnderWay as_flash setup next identity silence net

  -- It has not ended, or it has.
  abbrev IsStage : Plant F → Type 0
  IsStage plant = ((is_ended plant.net.controller.live.phase ≡ false) × (plant.idle ≡ 0))
      ⊎ ((is_ended plant.net.controller.live.phase ≡ true) × IsLate as_flash setup next identity silence plant)

  -- Both ends are in some state, and no relation of an earlier start is in the way.
  record IsSame (plant : Plant F) : Type 0 where
    under : UnderWay plant.net
    same : IsOfThisStart setup plant.net
    starts : StartsNext as_flash setup next identity silence plant
    stage : IsStage plant

  abbrev Turns : ℕ → Type 0
  Turns limit = (plant : Plant F) → IsSame plant → LeadsAnywhereBack as_flash identity pause limit plant → LeadsBack as_flash pause limit plant

  -- What leads back after a round leads back in the same relation.
  turned : (limit : ℕ) (after now : Plant F) → after ≡ now
      → (LeadsAnywhereBack as_flash identity pause limit now → LeadsBack as_flash pause limit now)
      → LeadsAnywhereBack as_flash identity pause limit after → LeadsBack as_flash pause limit after
  turned limit after now is turns back =
      subst (LeadsBack as_flash pause limit) (sym is) (turns (subst (LeadsAnywhereBack as_flash identity pause limit) is back))

  -- ---- before its end

  module _ (limit : ℕ) (turns : Turns limit) (plant after : Plant F) (round : PlantRound as_flash pause plant after)
      (starts : StartsNext as_flash setup next identity silence plant) (under : UnderWay round.net) (same : IsOfThisStart setup round.net) where
    going_on : plant.idle ≡ 0 → (ended : Bool) → is_ended round.net.controller.live.phase ≡ ended
        → LeadsAnywhereBack as_flash identity pause limit after → LeadsBack as_flash pause limit after
    going_on none false on =
        turned limit after (going plant round.net) (round.goes_on ∙ goes_on_with pause plant round.net on)
        (turns (going plant round.net) (record {
          under = under;
          same = same;
          starts = record { more = starts.more; later = starts.later };
          stage = inl (on, refl);
        }))
    going_on none true ended =
        turned limit after (record { net = round.net; later = plant.later; idle = plant.idle + 1 })
        (round.goes_on ∙ rests_with pause plant round.net ended (too_early pause (plant.idle + 1) (omega (arith, none, enough))))
        (turns (record { net = round.net; later = plant.later; idle = plant.idle + 1 }) (record {
          under = under;
          same = same;
          starts = record { more = starts.more; later = starts.later };
          stage = inr (ended, inl (omega (arith, none)));
        }))

  -- ---- after it

  releases_heard : LinkRelease as_flash setup next identity silence
  releases_heard = link_release as_flash setup next identity silence laws.calls

  begun : Begins as_flash setup next identity silence (controller_frame laws.controller setup) (ended_frame laws.controller setup)
      (ended_unit laws.controller setup)
      (device_frame as_flash setup next identity silence laws.device) (link_unit as_flash setup next identity silence) releases_heard
      (keeps as_flash setup next identity silence laws long) long patience pause
  begun =
      begins as_flash setup next identity silence (controller_frame laws.controller setup) (ended_frame laws.controller setup)
      (ended_unit laws.controller setup)
      (device_frame as_flash setup next identity silence laws.device) (link_unit as_flash setup next identity silence) releases_heard
      (keeps as_flash setup next identity silence laws long) (release_ignored as_flash setup next identity silence laws.calls laws.answers long.of_device)
      next_starts long patience pause

  abbrev Passed : Net F → Type 0
  Passed net = Passes as_flash setup next identity silence (controller_frame laws.controller setup) (ended_frame laws.controller setup)
      (ended_unit laws.controller setup)
      (device_frame as_flash setup next identity silence laws.device) (link_unit as_flash setup next identity silence) releases_heard
      (keeps as_flash setup next identity silence laws long) long patience net

  passing : (before after : Net F) → UnderWay before → is_ended before.controller.live.phase ≡ true → Round as_flash before after → Passed after
  passing =
      passes as_flash setup next identity silence (controller_frame laws.controller setup) (ended_frame laws.controller setup)
      (ended_unit laws.controller setup)
      (device_frame as_flash setup next identity silence laws.device) (link_unit as_flash setup next identity silence) releases_heard
      (keeps as_flash setup next identity silence laws long) long patience

  goes_so : (plant : Plant F) (net : Net F) (more : List Setup) → plant.later ≡ next ∷ more → is_ended net.controller.live.phase ≡ true
      → (now : Bool) → nat_le pause (plant.idle + 1) ≡ now
      → after_round pause plant net
      ≡ (if now then record { net = begun_with next net; later = more; idle = 0 } else record { net = net; later = next ∷ more; idle = plant.idle + 1 })
  goes_so =
      ended_goes_on as_flash setup next identity silence (controller_frame laws.controller setup) (ended_frame laws.controller setup)
      (ended_unit laws.controller setup)
      (device_frame as_flash setup next identity silence laws.device) (link_unit as_flash setup next identity silence) releases_heard
      (keeps as_flash setup next identity silence laws long) long patience pause

  is_over : (idle : ℕ) → nat_le pause (idle + 1) ≡ true → pause ≤ idle + 1
  is_over idle is = grind (arith, nat_tests)

  module _ (limit : ℕ) (turns : Turns limit) (plant after : Plant F) (round : PlantRound as_flash pause plant after)
      (parted : IsParted as_flash setup next identity silence plant) (same : IsOfThisStart setup round.net) where
    pass : Passed round.net
    pass = passing plant.net round.net parted.net parted.ended round.round

    waiting : (now : Bool) → nat_le pause (plant.idle + 1) ≡ now
        → LeadsAnywhereBack as_flash identity pause limit after → LeadsBack as_flash pause limit after
    waiting true is =
        let none = over_now as_flash setup next identity silence (controller_frame laws.controller setup) (ended_frame laws.controller setup)
        (ended_unit laws.controller setup)
        (device_frame as_flash setup next identity silence laws.device) (link_unit as_flash setup next identity silence) releases_heard
        (keeps as_flash setup next identity silence laws long) long patience pause enough begun plant round.net parted.late (is_over plant.idle is) parted.net
        round.round in
        turned limit after (record { net = begun_with next round.net; later = parted.starts.more; idle = 0 })
        (round.goes_on ∙ goes_so plant round.net parted.starts.more parted.starts.later pass.ended true is)
        (begun_leads as_flash setup next identity silence laws next_laws next_starts long patience pause limit round.net parted.starts.more pass.under
        pass.releases none.1 none.0)
    waiting false is =
        let on = waits_on as_flash setup next identity silence (controller_frame laws.controller setup) (ended_frame laws.controller setup)
        (ended_unit laws.controller setup)
        (device_frame as_flash setup next identity silence laws.device) (link_unit as_flash setup next identity silence) releases_heard
        (keeps as_flash setup next identity silence laws long) long patience pause enough begun plant round.net parted round.round in
        turned limit after (record { net = round.net; later = next ∷ parted.starts.more; idle = plant.idle + 1 })
        (round.goes_on ∙ goes_so plant round.net parted.starts.more parted.starts.later pass.ended false is)
        (turns (record { net = round.net; later = next ∷ parted.starts.more; idle = plant.idle + 1 }) (record {
          under = on.net;
          same = same;
          starts = on.starts;
          stage = inr (on.ended, on.late);
        }))

  -- ---- any of both

  round_turns : (limit : ℕ) → Turns limit → (plant after : Plant F) → IsSame plant → PlantRound as_flash pause plant after
      → LeadsAnywhereBack as_flash identity pause limit after → LeadsBack as_flash pause limit after
  round_turns limit turns plant after at round = by_stage at.stage
    where
      later : IsOfThisStart setup round.net
      later = same_on as_flash setup next identity silence same_laws long plant.net round.net at.under round.round at.same

      by_stage : IsStage plant → LeadsAnywhereBack as_flash identity pause limit after → LeadsBack as_flash pause limit after
      by_stage (inl on) =
          going_on limit turns plant after round at.starts
          (under_on as_flash setup next identity silence same_laws long patience plant.net round.net at.under round.round) later on.1
          (is_ended round.net.controller.live.phase) refl
      by_stage (inr over) =
          waiting limit turns plant after round (record { net = at.under; starts = at.starts; ended = over.0; late = over.1 }) later
          (nat_le pause (plant.idle + 1)) refl

  all_turn : (limit : ℕ) → Turns limit
  all_turn zero plant at back = both_exchange as_flash setup next identity silence same_laws long plant.net at.under at.same back
  all_turn (suc limit) plant at (inl back) = inl (both_exchange as_flash setup next identity silence same_laws long plant.net at.under at.same back)
  all_turn (suc limit) plant at (inr back) = inr (λ after round. round_turns limit (all_turn limit) plant after at round (back after round))

  -- Both are back in the same relation.
  pub same_leads : (limit : ℕ) (plant : Plant F) → IsAnywhere setup next identity silence plant → IsOfThisStart setup plant.net
      → LeadsAnywhereBack as_flash identity pause limit plant → LeadsBack as_flash pause limit plant
  same_leads limit plant at same = all_turn limit plant (record {
    under = record { controller = at.controller; device = at.device; to_device = at.to_device; to_controller = at.to_controller };
    same = same;
    starts = record { more = at.more; later = at.later };
    stage = by_end (is_ended plant.net.controller.live.phase) refl;
  })
    where
      by_end : (ended : Bool) → is_ended plant.net.controller.live.phase ≡ ended → IsStage plant
      by_end false on = inl (on, at.idle on)
      by_end true over = inr (over, at.late over)
