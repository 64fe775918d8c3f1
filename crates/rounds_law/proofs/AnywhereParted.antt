-- A controller that has ended, in any state of both ends: the relation of the device is over before the pause is. It takes the parts of a
-- controller that has ended, of the device, and of its relation.
use Rattle.std.proofs.Common.{◌≡◌, ◌⊎◌, inl, inr, ◌≤◌, ◌+◌, ◌-◌, ℕ, zero, suc, Bool, true, false, List, [], ◌∷◌, ◌++◌}
use Rattle.std.proofs.Common.{Option, None, Some, refl, sym, ap, subst, ◌∙◌, arith}
use Rattle.std.specs.Prelude.{nat_le, if◌then◌else◌}
use Rattle.std.specs.List.{AllByRecursion}
use Rattle.std.proofs.lemmas.Bool.Decides.{nat_tests}
use Rattle.flash_model.specs.declared.flash.Flash.{Ghosts as Flash}
use Rattle.pn_values.specs.declared.identity.Identity.{Identity}
use Rattle.relations.specs.RelationState.{RelationState}
use Rattle.relations.specs.Timers.{is_timed, limit_of}
use Rattle.device_core.specs.State.{State}
use Rattle.controller_messages.specs.declared.setup.Setup.{Setup}
use Rattle.controller_core.specs.declared.stored.event.Event.TheVariants.{Tick}
use Rattle.controller_core.specs.stored.State.{Controlling}
use Rattle.controller_core.specs.Machine.{Stepped, step_of}
use Rattle.network_world.specs.World.{is_ended}
use Rattle.rounds_law.specs.Again.{Plant, PlantRound, after_round, begun_with, started, units_left}
use Rattle.rounds_law.specs.Anywhere.{AllLast, ChoosesWell, HasPatience, IsAnyController, IsAnyDevice, Lasts, LeadsAnywhereBack, remains}
use Rattle.rounds_law.specs.Path.{controller_step}
use Rattle.rounds_law.specs.Rounds.{HearsAll, Net, Round, hears_all}
use Rattle.rounds_law.specs.Start.{start_up_limit}
use Rattle.rounds_law.proofs.AgainLaw.{sum, sum_is}
use Rattle.rounds_law.proofs.AnywhereParts.{AreOwn, ControllerFrame, DeviceFrame, EndedFrame, EndedUnit, IsAnything, IsLong, IsOwn, IsRelease}
use Rattle.rounds_law.proofs.AnywhereParts.{LinkGoesOn, LinkRelease, LinkUnit}
use Rattle.rounds_law.proofs.AnywhereRounds.{all_joined, device_after, leads_longer}
use Rattle.rounds_law.proofs.AnywherePlants.{IsLate, IsParted, IsUnderWay, RoundKeeps}

-- ---- the units of a relation

-- A relation is there or not.
pub there_or_not : (link : Option RelationState) → (link ≡ None) ⊎ ((state : RelationState) × (link ≡ Some state))
there_or_not None = inl refl
there_or_not (Some link) = inr (link, refl)

-- It lasts no longer than the silence.
left_few : (setup : Setup) (silence : ℕ) (link : RelationState) → Lasts setup silence link → units_left link ≤ silence
left_few setup silence link lasts = by_test (is_timed link.phase)
  where
    by_test : (timed : Bool)
        → (if timed then limit_of link - link.inactive else link.flow.cyclic.hearing.limit - link.flow.cyclic.hearing.held) ≤ silence
    by_test true = omega (arith, lasts.active)
    by_test false = omega (arith, lasts.holds)

pub remains_few : (setup : Setup) (silence : ℕ) (link : Option RelationState) → AllLast setup silence link → remains link ≤ silence
remains_few setup silence None all = omega arith
remains_few setup silence (Some link) all = left_few setup silence link all

module _ {F : Type 0} {S : ℕ} (as_flash : Flash F S) (setup next : Setup) (identity : Identity) (silence : ℕ)
    (controller_frame : ControllerFrame setup) (ended_frame : EndedFrame setup) (ended_unit : EndedUnit setup)
    (device_frame : DeviceFrame as_flash setup next identity silence) (link_unit : LinkUnit as_flash setup next identity silence)
    (link_release : LinkRelease as_flash setup next identity silence) (keeps : RoundKeeps as_flash setup next identity silence)
    (long : IsLong as_flash setup next identity silence) (patience : HasPatience setup.options) where
  abbrev pub IsAny : State F → Type 0
  IsAny device = IsAnyDevice setup next identity silence device.station device.live

  -- ---- the controller

  pub record StaysEnded (step : Stepped) : Type 0 where
    pub any : IsAnyController setup step.controller
    pub ended : is_ended step.controller.live.phase ≡ true
    pub silent : step.frames ≡ []

  -- No frame brings it back.
  pub stays_ended : (controller : Controlling) (frames : List (List ℕ)) → IsAnyController setup controller → is_ended controller.live.phase ≡ true
      → AllByRecursion (ChoosesWell setup) frames → StaysEnded (hears_all controller frames)
  stays_ended controller [] any ended all = record { any = any; ended = ended; silent = refl }
  stays_ended controller (octets ∷ frames) any ended all =
      let step = controller_frame long.real patience controller octets any all.0 in
      let over = ended_frame controller octets any ended in
      let more = stays_ended (controller_step controller octets).controller frames step.0 over.0 all.1 in
      record {
        any = more.any;
        ended = more.ended;
        silent = ap (λ (fs : List (List ℕ)). fs ++ (hears_all (controller_step controller octets).controller frames).frames) over.1 ∙ more.silent;
      }

  -- ---- the device

  pub own_anything : (octets : List ℕ) → IsOwn setup IsRelease octets → IsOwn setup IsAnything octets
  own_anything octets own = record { message = own.message; frame = own.frame; sendable = own.sendable; way = own.way; is = tt }

  -- The relation is over, or it is the same.
  abbrev IsSame : Option RelationState → Option RelationState → Type 0
  IsSame before after = (after ≡ None) ⊎ (after ≡ before)

  same_on : (first before after : Option RelationState) → IsSame first before → IsSame before after → IsSame first after
  same_on first before after one (inl none) = inl none
  same_on first before after (inl none) (inr same) = inl (same ∙ none)
  same_on first before after (inr is) (inr same) = inr (same ∙ is)

  -- So it is after Releases.
  released : (before : State F) (frames sent : List (List ℕ)) (after : State F) → HearsAll as_flash before frames sent after → IsAny before
      → AreOwn setup IsRelease frames → IsAny after × IsSame before.live.rest.link after.live.rest.link
  released before frames sent after hears any all =
      (device_after as_flash (λ (device : State F). IsAny device × IsSame before.live.rest.link device.live.rest.link) (IsOwn setup IsRelease)
      (λ (octets : List ℕ). Unit {0})
      (λ from to octets answers hear is own. (
        (
          (device_frame long from to octets answers hear is.0 (own_anything octets own)).0,
          same_on before.live.rest.link from.live.rest.link to.live.rest.link is.1 (link_release long from to octets answers hear is.0 own),
        ),
        all_units answers,
      ))
      before frames sent after hears (any, inr refl) all).0
    where
      all_units : (frames : List (List ℕ)) → AllByRecursion (λ (octets : List ℕ). Unit {0}) frames
      all_units [] = tt
      all_units (octets ∷ frames) = (tt, all_units frames)

  -- After a round with Releases, a relation is over, or one unit nearer to its end. Without a relation nothing is sent in the unit.
  pub record Nearer (before after : Net F) : Type 0 where
    pub none : before.device.live.rest.link ≡ None → (after.device.live.rest.link ≡ None) × (after.to_controller ≡ [])
    pub some : (after.device.live.rest.link ≡ None)
        ⊎ (suc (remains after.device.live.rest.link) ≤ remains before.device.live.rest.link)

  pub nearer : (before after : Net F) → IsUnderWay as_flash setup next identity silence before → AreOwn setup IsRelease before.to_device
      → Round as_flash before after → Nearer before after
  nearer before after under releases round =
      let heard = released before.device before.to_device round.answers round.device round.arrives under.device releases in
      let unit = link_unit round.device after.device after.to_controller round.unit heard.0 in
      record { none = λ none. unit.0 (over none heard.1); some = by_link heard.1 (there_or_not before.device.live.rest.link) unit.0 unit.1 }
    where
      over : before.device.live.rest.link ≡ None → IsSame before.device.live.rest.link round.device.live.rest.link → round.device.live.rest.link ≡ None
      over none (inl gone) = gone
      over none (inr same) = same ∙ none

      by_link : IsSame before.device.live.rest.link round.device.live.rest.link
          → (before.device.live.rest.link ≡ None) ⊎ ((state : RelationState) × (before.device.live.rest.link ≡ Some state))
          → (round.device.live.rest.link ≡ None → (after.device.live.rest.link ≡ None) × (after.to_controller ≡ []))
          → ((link : RelationState) → round.device.live.rest.link ≡ Some link
          → (after.device.live.rest.link ≡ None)
          ⊎ ((later : RelationState) × (after.device.live.rest.link ≡ Some later) × LinkGoesOn setup link later × (later.phase ≡ link.phase)
          × (suc (units_left later) ≤ units_left link)))
          → (after.device.live.rest.link ≡ None) ⊎ (suc (remains after.device.live.rest.link) ≤ remains before.device.live.rest.link)
      by_link (inl gone) there unrelated related = inl (unrelated gone).0
      by_link (inr same) (inl none) unrelated related = inl (unrelated (same ∙ none)).0
      by_link (inr same) (inr is) unrelated related = by_unit (related is.0 (same ∙ is.1))
        where
          by_unit : (after.device.live.rest.link ≡ None)
              ⊎ ((later : RelationState) × (after.device.live.rest.link ≡ Some later) × LinkGoesOn setup is.0 later × (later.phase ≡ is.0.phase)
              × (suc (units_left later) ≤ units_left is.0))
              → (after.device.live.rest.link ≡ None) ⊎ (suc (remains after.device.live.rest.link) ≤ remains before.device.live.rest.link)
          by_unit (inl gone) = inl gone
          by_unit (inr on) =
              inr (subst (λ (n : ℕ). suc n ≤ remains before.device.live.rest.link) (sym (ap remains on.1))
              (subst (λ (n : ℕ). suc (units_left on.0) ≤ n) (sym (ap remains is.1)) on.4))

  -- ---- a round

  -- After a round the controller has still ended, and only its Releases are under way.
  pub record Passes (after : Net F) : Type 0 where
    pub under : IsUnderWay as_flash setup next identity silence after
    pub ended : is_ended after.controller.live.phase ≡ true
    pub releases : AreOwn setup IsRelease after.to_device

  pub passes : (before after : Net F) → IsUnderWay as_flash setup next identity silence before → is_ended before.controller.live.phase ≡ true
      → Round as_flash before after → Passes after
  passes before after under ended round =
      let heard = device_after as_flash IsAny (IsOwn setup IsAnything) (ChoosesWell setup) (device_frame long)
      before.device before.to_device round.answers round.device round.arrives under.device under.to_device in
      let still = stays_ended before.controller (before.to_controller ++ round.answers) under.controller ended
      (all_joined (ChoosesWell setup) before.to_controller round.answers under.to_controller heard.1) in
      let unit = ended_unit long.real (hears_all before.controller (before.to_controller ++ round.answers)).controller still.any still.ended in
      record {
        under = keeps long patience before after under round;
        ended = subst (λ (c : Controlling). is_ended c.live.phase ≡ true) (sym round.controller) unit.0;
        releases = subst (AreOwn setup IsRelease) (sym (round.to_device
            ∙ ap (λ (fs : List (List ℕ)). fs ++ (step_of (hears_all before.controller (before.to_controller ++ round.answers)).controller Tick).frames)
            still.silent)) unit.1;
      }

  -- ---- the pause

  pub ended_goes_on : (pause : ℕ) (plant : Plant F) (net : Net F) (more : List Setup) → plant.later ≡ next ∷ more → is_ended net.controller.live.phase ≡ true
      → (now : Bool) → nat_le pause (plant.idle + 1) ≡ now
      → after_round pause plant net
      ≡ (if now then record { net = begun_with next net; later = more; idle = 0 } else record { net = net; later = next ∷ more; idle = plant.idle + 1 })
  ended_goes_on pause plant net more later ended now is =
      ap (λ (b : Bool). if b then (if nat_le pause (plant.idle + 1) then started plant.later net (plant.idle + 1)
      else record { net = net; later = plant.later; idle = plant.idle + 1 }) else record { net = net; later = plant.later; idle = 0 }) ended
      ∙ (ap (λ (l : List Setup). if nat_le pause (plant.idle + 1) then started l net (plant.idle + 1)
      else record { net = net; later = l; idle = plant.idle + 1 }) later
      ∙ ap (λ (b : Bool). if b then record { net = begun_with next net; later = more; idle = 0 }
      else record { net = net; later = next ∷ more; idle = plant.idle + 1 }) is)

  -- The next start, at a device without a relation.
  abbrev pub Begins : ℕ → Type 0
  Begins pause = (net : Net F) (more : List Setup) → IsUnderWay as_flash setup next identity silence net → AreOwn setup IsRelease net.to_device
      → net.to_controller ≡ [] → net.device.live.rest.link ≡ None
      → LeadsAnywhereBack as_flash identity pause (start_up_limit setup.plan) (record { net = begun_with next net; later = more; idle = 0 })

  module _ (pause : ℕ) (enough : silence + 4 ≤ pause) (begins : Begins pause) where
    abbrev limit : ℕ
    limit = start_up_limit setup.plan

    -- The pause is over with this round: there has been no relation since at least one round before.
    pub over_now : (plant : Plant F) (net : Net F) → IsLate as_flash setup next identity silence plant → pause ≤ plant.idle + 1
        → IsUnderWay as_flash setup next identity silence plant.net
        → Round as_flash plant.net net → (net.device.live.rest.link ≡ None) × (net.to_controller ≡ [])
    over_now plant net (inl early) over under round = absurd (omega (arith, early, over, enough))
    over_now plant net (inr (releases, inl none)) over under round = (nearer plant.net net under releases round).none none
    over_now plant net (inr (releases, inr few)) over under round = absurd (omega (arith, few, over, enough))

    starts_now : (plant after : Plant F) (round : PlantRound as_flash pause plant after) → IsParted as_flash setup next identity silence plant
        → nat_le pause (plant.idle + 1) ≡ true → LeadsAnywhereBack as_flash identity pause limit after
    starts_now plant after round parted now =
        let pass = passes plant.net round.net parted.net parted.ended round.round in
        let none = over_now plant round.net parted.late (is_over now) parted.net round.round in
        subst (LeadsAnywhereBack as_flash identity pause limit)
        (sym (round.goes_on ∙ ended_goes_on pause plant round.net parted.starts.more parted.starts.later pass.ended true now))
        (begins round.net parted.starts.more pass.under pass.releases none.1 none.0)
      where
        is_over : nat_le pause (plant.idle + 1) ≡ true → pause ≤ plant.idle + 1
        is_over is = grind (arith, nat_tests)

    -- It is not over yet.
    late_on : (plant : Plant F) (net : Net F) → IsLate as_flash setup next identity silence plant → IsUnderWay as_flash setup next identity silence plant.net
        → Round as_flash plant.net net → IsUnderWay as_flash setup next identity silence net
        → (net.device.live.rest.link ≡ None) ⊎ (remains net.device.live.rest.link + (plant.idle + 1) ≤ silence + 2)
    late_on plant net (inl early) under round now =
        let few = remains_few setup silence net.device.live.rest.link now.device.lasts in inr (omega (arith, early, few))
    late_on plant net (inr (releases, inl none)) under round now = inl ((nearer plant.net net under releases round).none none).0
    late_on plant net (inr (releases, inr few)) under round now = by_some (nearer plant.net net under releases round).some
      where
        by_some : (net.device.live.rest.link ≡ None)
            ⊎ (suc (remains net.device.live.rest.link) ≤ remains plant.net.device.live.rest.link)
            → (net.device.live.rest.link ≡ None) ⊎ (remains net.device.live.rest.link + (plant.idle + 1) ≤ silence + 2)
        by_some (inl gone) = inl gone
        by_some (inr less) = inr (omega (arith, few, less))

    pub waits_on : (plant : Plant F) (net : Net F) → (parted : IsParted as_flash setup next identity silence plant) → Round as_flash plant.net net
        → IsParted as_flash setup next identity silence (record { net = net; later = next ∷ parted.starts.more; idle = plant.idle + 1 })
    waits_on plant net parted round =
        let pass = passes plant.net net parted.net parted.ended round in
        record {
          net = pass.under;
          starts = record { more = parted.starts.more; later = refl };
          ended = pass.ended;
          late = inr (pass.releases, late_on plant net parted.late parted.net round pass.under);
        }

    pub pause_leads : (r : ℕ) (plant : Plant F) → pause ≤ plant.idle + suc r → IsParted as_flash setup next identity silence plant
        → LeadsAnywhereBack as_flash identity pause (suc (sum r limit)) plant
    pause_leads zero plant few parted = inr (λ after round. starts_now plant after round parted (is_now pause (plant.idle + 1) (omega (arith, few))))
      where
        is_now : (n m : ℕ) → n ≤ m → nat_le n m ≡ true
        is_now n m few = grind (arith, nat_tests)
    pause_leads (suc r) plant few parted = inr (λ after round. by_test after round (nat_le pause (plant.idle + 1)) refl
        (λ on. pause_leads r (record { net = round.net; later = next ∷ parted.starts.more; idle = plant.idle + 1 }) (omega (arith, few)) on))
      where
        by_test : (after : Plant F) (round : PlantRound as_flash pause plant after) (now : Bool) → nat_le pause (plant.idle + 1) ≡ now
            → (IsParted as_flash setup next identity silence (record { net = round.net; later = next ∷ parted.starts.more; idle = plant.idle + 1 })
            → LeadsAnywhereBack as_flash identity pause (suc (sum r limit))
            (record { net = round.net; later = next ∷ parted.starts.more; idle = plant.idle + 1 }))
            → LeadsAnywhereBack as_flash identity pause (suc (sum r limit)) after
        by_test after round true is leads =
            let same : sum r limit ≡ r + limit = sum_is r limit in
            leads_longer as_flash identity pause limit (suc (sum r limit)) after (omega (arith, same)) (starts_now plant after round parted is)
        by_test after round false is leads =
            let pass = passes plant.net round.net parted.net parted.ended round.round in
            subst (LeadsAnywhereBack as_flash identity pause (suc (sum r limit)))
            (sym (round.goes_on ∙ ended_goes_on pause plant round.net parted.starts.more parted.starts.later pass.ended false is))
            (leads (waits_on plant round.net parted round.round))

  -- From its end on, both ends exchange data within the pause and a start.
  pub parted_leads : ((pause : ℕ) → Begins pause) → (pause : ℕ) → silence + 4 ≤ pause → (plant : Plant F) → IsParted as_flash setup next identity silence plant
      → LeadsAnywhereBack as_flash identity pause (pause + start_up_limit setup.plan) plant
  parted_leads begins zero enough plant parted = absurd (omega (arith, enough))
  parted_leads begins (suc r) enough plant parted =
      let same : sum r (start_up_limit setup.plan) ≡ r + start_up_limit setup.plan = sum_is r (start_up_limit setup.plan) in
      leads_longer as_flash identity (suc r) (suc (sum r (start_up_limit setup.plan))) (suc r + start_up_limit setup.plan) plant (omega (arith, same))
      (pause_leads (suc r) enough (begins (suc r)) r plant (omega arith) parted)
