-- The pause before a start at a device that may have a relation: with each unit the relation is over, or a unit nearer to its end.
use Rattle.std.proofs.Common.{◌≡◌, ◌⊎◌, inl, inr, ◌≤◌, ◌+◌, ◌-◌, ℕ, zero, suc, Bool, true, false, List, ◌∷◌, None, refl, sym, ap, subst, ◌∙◌, arith}
use Rattle.std.specs.Prelude.{nat_le, if◌then◌else◌}
use Rattle.std.specs.List.{AllByRecursion}
use Rattle.std.proofs.lemmas.Bool.Decides.{nat_tests}
use Rattle.flash_model.specs.declared.flash.Flash.{Ghosts as Flash}
use Rattle.pn_values.specs.declared.identity.Identity.{Identity}
use Rattle.controller_messages.specs.declared.setup.Setup.{Setup}
use Rattle.network_world.specs.World.{is_ended}
use Rattle.rounds_law.specs.Again.{Plant, after_round, begun_with, started}
use Rattle.rounds_law.specs.Anywhere.{IsLate, LeadsAnywhereBack, remains}
use Rattle.rounds_law.specs.AnywhereFrames.{AreOwn, IsRelease}
use Rattle.rounds_law.specs.Rounds.{Net, Round}
use Rattle.rounds_law.proofs.AgainLaw.{sum, sum_is}
use Rattle.rounds_law.proofs.AnywhereBesideEarly.{UnitLaws}
use Rattle.rounds_law.proofs.AnywhereBesideRefused.{EarlyForAll, all_heard, all_kept, all_passed}
use Rattle.rounds_law.proofs.AnywhereBesideRound.{Pair, UnderWayForAll}
use Rattle.rounds_law.proofs.AnywhereParted.{Nearer, Passes, nearer, passes, remains_few}
use Rattle.rounds_law.proofs.AnywherePlants.{IsUnderWay}
use Rattle.rounds_law.proofs.AnywhereRounds.{leads_longer}

-- What follows a round in which the controller has ended: the next start if the pause is over, else the pause goes on.
abbrev pub settled : {F : Type 0} → Bool → Setup → List Setup → Net F → ℕ → Plant F
settled now next rest net idle =
    if now then record { net = begun_with next net; later = rest; idle = 0 } else record { net = net; later = next ∷ rest; idle = idle }

pub settled_after : {F : Type 0} (pause : ℕ) (plant : Plant F) (net : Net F) (next : Setup) (rest : List Setup) → plant.later ≡ next ∷ rest
    → is_ended net.controller.live.phase ≡ true
    → after_round pause plant net ≡ settled (nat_le pause (plant.idle + 1)) next rest net (plant.idle + 1)
settled_after pause plant net next rest later ended =
    ap (λ (b : Bool). if b then (if nat_le pause (plant.idle + 1) then started plant.later net (plant.idle + 1)
    else record { net = net; later = plant.later; idle = plant.idle + 1 }) else record { net = net; later = plant.later; idle = 0 }) ended
    ∙ ap (λ (l : List Setup). if nat_le pause (plant.idle + 1) then started l net (plant.idle + 1)
    else record { net = net; later = l; idle = plant.idle + 1 }) later

is_over : (pause idle : ℕ) → nat_le pause idle ≡ true → pause ≤ idle
is_over pause idle is = grind (arith, nat_tests)

not_over : (pause idle : ℕ) → nat_le pause idle ≡ false → pause ≤ idle + 0 → ⊥
not_over pause idle is few = grind (arith, nat_tests)

module _ {F : Type 0} {S : ℕ} (as_flash : Flash F S) (identity : Identity) (silence : ℕ) (said : UnitLaws) where
  -- The controller has ended, and its Releases at most are under way. The relation of the device is over, or ends within this time.
  pub record IsPast (setup : Setup) (starts : List Setup) (bound idle : ℕ) (net : Net F) : Type 0 where
    pub nets : UnderWayForAll as_flash identity silence setup starts net
    pub ended : is_ended net.controller.live.phase ≡ true
    pub releases : AreOwn setup IsRelease net.to_device
    pub early : EarlyForAll starts net.to_controller
    pub time : (net.device.live.rest.link ≡ None) ⊎ (remains net.device.live.rest.link + idle ≤ bound)

  module _ (setup next : Setup) (rest : List Setup) (pairs : AllByRecursion (Pair as_flash identity silence setup) (next ∷ rest)) where
    -- ---- a round

    passes_here : (net after : Net F) → IsUnderWay as_flash setup next identity silence net → is_ended net.controller.live.phase ≡ true
        → Round as_flash net after
        → Passes as_flash setup next identity silence pairs.0.controller_frame pairs.0.ended_frame pairs.0.ended_unit pairs.0.device_frame pairs.0.link_unit
        pairs.0.link_release pairs.0.keeps pairs.0.long pairs.0.patience after
    passes_here net after under ended round =
        passes as_flash setup next identity silence pairs.0.controller_frame pairs.0.ended_frame pairs.0.ended_unit pairs.0.device_frame pairs.0.link_unit
        pairs.0.link_release pairs.0.keeps pairs.0.long pairs.0.patience net after under ended round

    nearer_here : (net after : Net F) → IsUnderWay as_flash setup next identity silence net → AreOwn setup IsRelease net.to_device → Round as_flash net after
        → Nearer as_flash setup next identity silence pairs.0.controller_frame pairs.0.ended_frame pairs.0.ended_unit pairs.0.device_frame pairs.0.link_unit
        pairs.0.link_release pairs.0.keeps pairs.0.long pairs.0.patience net after
    nearer_here net after under releases round =
        nearer as_flash setup next identity silence pairs.0.controller_frame pairs.0.ended_frame pairs.0.ended_unit pairs.0.device_frame pairs.0.link_unit
        pairs.0.link_release pairs.0.keeps pairs.0.long pairs.0.patience net after under releases round

    -- What the device sends in the unit of a round is ignored by each of the next starts.
    early_after : (net after : Net F) → UnderWayForAll as_flash identity silence setup (next ∷ rest) net → Round as_flash net after
        → EarlyForAll (next ∷ rest) after.to_controller
    early_after net after nets round =
        all_passed as_flash identity silence said setup (next ∷ rest) pairs.0.long.of_device round.device after.to_controller after.device round.unit
        (all_heard as_flash identity silence setup (next ∷ rest) pairs net round.answers round.device round.arrives nets)

    fewer_after : (bound idle : ℕ) (net after : Net F) → IsUnderWay as_flash setup next identity silence net → AreOwn setup IsRelease net.to_device
        → Round as_flash net after → (net.device.live.rest.link ≡ None) ⊎ (remains net.device.live.rest.link + idle ≤ bound)
        → (after.device.live.rest.link ≡ None) ⊎ (remains after.device.live.rest.link + (idle + 1) ≤ bound)
    fewer_after bound idle net after under releases round (inl none) = inl ((nearer_here net after under releases round).none none).0
    fewer_after bound idle net after under releases round (inr few) = by_some (nearer_here net after under releases round).some
      where
        by_some : (after.device.live.rest.link ≡ None) ⊎ (suc (remains after.device.live.rest.link) ≤ remains net.device.live.rest.link)
            → (after.device.live.rest.link ≡ None) ⊎ (remains after.device.live.rest.link + (idle + 1) ≤ bound)
        by_some (inl gone) = inl gone
        by_some (inr less) = inr (omega (arith, few, less))

    pub past_on : (bound idle : ℕ) (net after : Net F) → IsPast setup (next ∷ rest) bound idle net → Round as_flash net after
        → IsPast setup (next ∷ rest) bound (idle + 1) after
    past_on bound idle net after past round =
        let pass = passes_here net after past.nets.0 past.ended round in
        record {
          nets = all_kept as_flash identity silence setup (next ∷ rest) pairs net after past.nets round;
          ended = pass.ended;
          releases = pass.releases;
          early = early_after net after past.nets round;
          time = fewer_after bound idle net after past.nets.0 past.releases round past.time;
        }

    -- The first round after the end: anything of the controller may be under way.
    late_after : (plant : Plant F) (after : Net F) → UnderWayForAll as_flash identity silence setup (next ∷ rest) plant.net → IsLate setup silence plant
        → Round as_flash plant.net after
        → (after.device.live.rest.link ≡ None) ⊎ (remains after.device.live.rest.link + (plant.idle + 1) ≤ silence + 2)
    late_after plant after nets (inl early) round =
        let kept = all_kept as_flash identity silence setup (next ∷ rest) pairs plant.net after nets round in
        let few = remains_few setup silence after.device.live.rest.link kept.0.device.lasts in
        inr (omega (arith, early, few))
    late_after plant after nets (inr (releases, time)) round = fewer_after (silence + 2) plant.idle plant.net after nets.0 releases round time

    pub past_first : (plant : Plant F) (after : Net F) → UnderWayForAll as_flash identity silence setup (next ∷ rest) plant.net
        → is_ended plant.net.controller.live.phase ≡ true → IsLate setup silence plant → Round as_flash plant.net after
        → IsPast setup (next ∷ rest) (silence + 2) (plant.idle + 1) after
    past_first plant after nets ended late round =
        let pass = passes_here plant.net after nets.0 ended round in
        record {
          nets = all_kept as_flash identity silence setup (next ∷ rest) pairs plant.net after nets round;
          ended = pass.ended;
          releases = pass.releases;
          early = early_after plant.net after nets round;
          time = late_after plant after nets late round;
        }

    -- ---- the pause

    -- What is known when the pause is over.
    pub record IsOver (left : ℕ) (net : Net F) : Type 0 where
      pub nets : UnderWayForAll as_flash identity silence setup (next ∷ rest) net
      pub releases : AreOwn setup IsRelease net.to_device
      pub early : EarlyForAll (next ∷ rest) net.to_controller
      pub few : remains net.device.live.rest.link ≤ left

    over_with : (pause bound idle : ℕ) (net : Net F) → pause ≤ idle → IsPast setup (next ∷ rest) bound idle net → IsOver (bound - pause) net
    over_with pause bound idle net over past = record { nets = past.nets; releases = past.releases; early = past.early; few = by_time past.time }
      where
        by_time : (net.device.live.rest.link ≡ None) ⊎ (remains net.device.live.rest.link + idle ≤ bound) → remains net.device.live.rest.link ≤ bound - pause
        by_time (inl none) = subst (λ (n : ℕ). n ≤ bound - pause) (sym (ap remains none)) (omega arith)
        by_time (inr few) = omega (arith, few, over)

    module _ (pause bound left : ℕ) (more : List Setup)
        (begins : (net : Net F) → IsOver (bound - pause) net
        → LeadsAnywhereBack as_flash identity pause left (record { net = begun_with next net; later = more; idle = 0 })) where
      -- The rest of the pause, and the next start.
      pub past_leads : (r idle : ℕ) (net : Net F) → IsPast setup (next ∷ rest) bound idle net → pause ≤ idle + r → (now : Bool) → nat_le pause idle ≡ now
          → LeadsAnywhereBack as_flash identity pause (sum r left) (settled now next more net idle)
      past_leads r idle net past few true is =
          let same : sum r left ≡ r + left = sum_is r left in
          leads_longer as_flash identity pause left (sum r left) (settled true next more net idle) (omega (arith, same))
          (begins net (over_with pause bound idle net (is_over pause idle is) past))
      past_leads zero idle net past few false is = absurd (not_over pause idle is few)
      past_leads (suc r) idle net past few false is = inr (λ after round.
          let on = past_on bound idle net round.net past round.round in
          subst (LeadsAnywhereBack as_flash identity pause (sum r left))
          (sym (round.goes_on ∙ settled_after pause (record { net = net; later = next ∷ more; idle = idle }) round.net next more refl on.ended))
          (past_leads r (idle + 1) round.net on (omega (arith, few)) (nat_le pause (idle + 1)) refl))
