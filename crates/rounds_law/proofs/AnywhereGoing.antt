-- A round of a plant whose controller had not ended: it has ended in the round, or goes on.
use Rattle.std.proofs.Common.{◌≡◌, ◌⊎◌, inl, inr, ◌≤◌, ◌+◌, ℕ, Bool, true, false, refl, sym, ap, subst, ◌∙◌, arith}
use Rattle.std.specs.Prelude.{nat_le, if◌then◌else◌}
use Rattle.std.proofs.lemmas.Bool.Decides.{nat_tests}
use Rattle.flash_model.specs.declared.flash.Flash.{Ghosts as Flash}
use Rattle.pn_values.specs.declared.identity.Identity.{Identity}
use Rattle.controller_messages.specs.declared.setup.Setup.{Setup}
use Rattle.network_world.specs.World.{is_ended}
use Rattle.rounds_law.specs.Again.{Plant, PlantRound, after_round, started}
use Rattle.rounds_law.specs.Anywhere.{HasPatience, LeadsAnywhereBack}
use Rattle.rounds_law.specs.Rounds.{Net}
use Rattle.rounds_law.proofs.AgainLaw.{goes_on_with}
use Rattle.rounds_law.proofs.AnywhereParts.{IsLong}
use Rattle.rounds_law.proofs.AnywherePlants.{EndLeads, IsOnTheWay, RoundKeeps}
use Rattle.rounds_law.proofs.AnywhereRounds.{leads_longer}

-- The same plant after a round in which its controller has not ended.
abbrev pub going : {F : Type 0} → Plant F → Net F → Plant F
going plant net = record { net = net; later = plant.later; idle = 0 }

-- The same plant after a round in which its controller has ended, and is not started yet.
abbrev pub resting : {F : Type 0} → Plant F → Net F → Plant F
resting plant net = record { net = net; later = plant.later; idle = plant.idle + 1 }

pub rests_with : {F : Type 0} (pause : ℕ) (before : Plant F) (net : Net F) → is_ended net.controller.live.phase ≡ true → nat_le pause (before.idle + 1) ≡ false
    → after_round pause before net ≡ resting before net
rests_with pause before net ended early =
    ap (λ (b : Bool). if b
    then (if nat_le pause (before.idle + 1) then started before.later net (before.idle + 1) else resting before net)
    else going before net) ended
    ∙ ap (λ (b : Bool). if b then started before.later net (before.idle + 1) else resting before net) early

pub too_early : (pause units : ℕ) → units + 1 ≤ pause → nat_le pause units ≡ false
too_early pause units early = grind (arith, nat_tests)

module _ {F : Type 0} {S : ℕ} (as_flash : Flash F S) (setup next : Setup) (identity : Identity) (silence : ℕ) (pause : ℕ)
    (keeps : RoundKeeps as_flash setup next identity silence) (Also : Plant F → Type 0) (rest : ℕ)
    (follows : EndLeads as_flash setup next identity silence pause rest Also)
    (long : IsLong as_flash setup next identity silence) (patience : HasPatience setup.options) where
  -- It has not ended in this round.
  on_the_way : (plant after : Plant F) → IsOnTheWay as_flash setup next identity silence Also plant → (round : PlantRound as_flash pause plant after)
      → is_ended round.net.controller.live.phase ≡ false → IsOnTheWay as_flash setup next identity silence Also (going plant round.net)
  on_the_way plant after at round on = record {
    net = keeps long patience plant.net round.net at.net round.round;
    starts = record { more = at.starts.more; later = at.starts.later };
    goes_on = on;
    idle = refl;
    also = follows.keeps plant round.net 0 at.also round.round;
  }

  -- It has ended in this round.
  pub ended_leads : (plant after : Plant F) → IsOnTheWay as_flash setup next identity silence Also plant → (round : PlantRound as_flash pause plant after)
      → is_ended round.net.controller.live.phase ≡ true → LeadsAnywhereBack as_flash identity pause rest after
  ended_leads plant after at round ended =
      let none : plant.idle ≡ 0 = at.idle in
      let long_pause : 2 ≤ pause = follows.enough in
      let early = too_early pause (plant.idle + 1) (omega (arith, none, long_pause)) in
      subst (LeadsAnywhereBack as_flash identity pause rest) (sym (round.goes_on ∙ rests_with pause plant round.net ended early))
      (follows.leads (resting plant round.net) (record {
        net = keeps long patience plant.net round.net at.net round.round;
        starts = record { more = at.starts.more; later = at.starts.later };
        ended = ended;
        late = inl (omega (arith, none));
      }) (follows.keeps plant round.net (plant.idle + 1) at.also round.round))

  -- What leads back from each round leads back.
  pub round_leads : (limit : ℕ) → rest ≤ limit → (plant after : Plant F) → IsOnTheWay as_flash setup next identity silence Also plant
      → (round : PlantRound as_flash pause plant after)
      → (is_ended round.net.controller.live.phase ≡ true)
      ⊎ (IsOnTheWay as_flash setup next identity silence Also (going plant round.net) → LeadsAnywhereBack as_flash identity pause limit (going plant round.net))
      → LeadsAnywhereBack as_flash identity pause limit after
  round_leads limit more plant after at round (inl ended) =
      leads_longer as_flash identity pause rest limit after more (ended_leads plant after at round ended)
  round_leads limit more plant after at round (inr leads) = by_end (is_ended round.net.controller.live.phase) refl
    where
      by_end : (ended : Bool) → is_ended round.net.controller.live.phase ≡ ended → LeadsAnywhereBack as_flash identity pause limit after
      by_end true e = leads_longer as_flash identity pause rest limit after more (ended_leads plant after at round e)
      by_end false e =
          subst (LeadsAnywhereBack as_flash identity pause limit) (sym (round.goes_on ∙ goes_on_with pause plant round.net e))
          (leads (on_the_way plant after at round e))
