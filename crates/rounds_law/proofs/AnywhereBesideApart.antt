-- The starts that follow, each after each that precedes it, by the laws of each of them; and the law of any state with any pause.
use Rattle.std.proofs.Common.{◌≡◌, ◌≤◌, ◌+◌, ◌*◌, ℕ, suc, Bool, true, false, List, [], ◌∷◌, ◌++◌, length, refl, sym, subst, arith}
use Rattle.std.specs.List.{AllByRecursion}
use Rattle.flash_model.specs.declared.flash.Flash.{Ghosts as Flash}
use Rattle.pn_values.specs.declared.identity.Identity.{Identity}
use Rattle.controller_messages.specs.declared.setup.Setup.{Setup}
use Rattle.end_laws.specs.hearing.Stations.{IsDevice}
use Rattle.network_world.specs.World.{is_ended}
use Rattle.rounds_law.specs.Again.{Plant}
use Rattle.rounds_law.specs.Anywhere.{ChoosesWell, HasPatience, IsAnyController, IsAnyDevice, LeadsAnywhereBack}
use Rattle.rounds_law.specs.AnywhereAgain.{IsAnywhereAmong, IsLaterStart, StartLaws, StartsApart, again_limit}
use Rattle.rounds_law.specs.AnywhereFrames.{AreOwn, IsAnything}
use Rattle.rounds_law.specs.Path.{hold_of}
use Rattle.rounds_law.specs.Rounds.{Net}
use Rattle.rounds_law.specs.Start.{CanStart, start_up_limit}
use Rattle.rounds_law.proofs.AnywhereBesideEarly.{UnitLaws}
use Rattle.rounds_law.proofs.AnywhereBesideLaw.{AllApart, parted_again, room, room_is}
use Rattle.rounds_law.proofs.AnywhereBesideRefused.{all_kept}
use Rattle.rounds_law.proofs.AnywhereBesideRound.{Pair, UnderWayForAll}
use Rattle.rounds_law.proofs.AnywhereControllerEnded.{ended_frame, ended_unit}
use Rattle.rounds_law.proofs.AnywhereControllerSteps.{controller_frame}
use Rattle.rounds_law.proofs.AnywhereDeviceLaw.{device_frame, device_unit}
use Rattle.rounds_law.proofs.AnywhereLaws.{AnywhereLaws, keeps, on_the_way_all}
use Rattle.rounds_law.proofs.AnywhereLinkRelease.{link_release, releases_ignored}
use Rattle.rounds_law.proofs.AnywhereLinkUnit.{link_unit}
use Rattle.rounds_law.proofs.AnywhereParts.{IsLong}
use Rattle.rounds_law.proofs.AnywhereRounds.{leads_longer}

module _ {F : Type 0} {S : ℕ} (as_flash : Flash F S) (identity : Identity) (silence : ℕ) (device : IsDevice identity) (said : UnitLaws)
    (laws_of : (setup : Setup) → StartLaws as_flash identity setup → AnywhereLaws setup identity) (active : 1920000 ≤ silence) where
  -- What is known of a start: its laws, that it is possible, that each state has a patience, and that no relation of it lasts too long.
  pub record IsKnown (setup : Setup) : Type 0 where
    pub laws : StartLaws as_flash identity setup
    pub can : CanStart setup identity
    pub patience : HasPatience setup.options
    pub holds : hold_of setup.plan ≤ silence

  long_of : (before setup : Setup) → IsKnown before → StartLaws as_flash identity setup → IsLaterStart before identity setup
      → IsLong as_flash before setup identity silence
  long_of before setup known laws later = record {
    real = known.laws.real;
    real_next = laws.real;
    of_device = device;
    can = known.can;
    can_next = later.can;
    starts = later.starts;
    active = active;
    holds = known.holds;
  }

  pair_of : (before setup : Setup) → IsKnown before → StartLaws as_flash identity setup → IsLaterStart before identity setup
      → Pair as_flash identity silence before setup
  pair_of before setup known laws later =
      let long = long_of before setup known laws later in
      let all = laws_of before known.laws in
      record {
        long = long;
        patience = known.patience;
        controller_frame = controller_frame all.controller before;
        ended_frame = ended_frame all.controller before;
        ended_unit = ended_unit all.controller before;
        device_frame = device_frame as_flash before setup identity silence all.device;
        device_unit = device_unit as_flash before setup identity silence all.device;
        link_unit = link_unit as_flash before setup identity silence;
        link_release = link_release as_flash before setup identity silence all.calls;
        keeps = keeps as_flash before setup identity silence all long;
        ignored = releases_ignored as_flash before setup identity silence all.calls all.answers device later.starts;
      }

  pairs_with : (before : Setup) (starts : List Setup) → IsKnown before → AllByRecursion (StartLaws as_flash identity) starts
      → AllByRecursion (IsLaterStart before identity) starts → AllByRecursion (Pair as_flash identity silence before) starts
  pairs_with before [] known laws later = tt
  pairs_with before (setup ∷ starts) known laws later =
      (pair_of before setup known laws.0 later.0, pairs_with before starts known laws.1 later.1)

  known_next : (before setup : Setup) → IsKnown before → StartLaws as_flash identity setup → IsLaterStart before identity setup → IsKnown setup
  known_next before setup known laws later = record {
    laws = laws;
    can = later.can;
    patience = subst HasPatience (sym later.starts.options) known.patience;
    holds = subst (λ p. hold_of p ≤ silence) (sym later.starts.plan) known.holds;
  }

  all_apart : (before : Setup) (starts : List Setup) → IsKnown before → AllByRecursion (StartLaws as_flash identity) starts → StartsApart before identity starts
      → AllApart as_flash identity silence said before starts
  all_apart before [] known laws apart = tt
  all_apart before (setup ∷ later) known laws apart = (
    laws.0,
    apart.0.0.can,
    pairs_with before (setup ∷ later) known laws apart.0,
    all_apart setup later (known_next before setup known laws.0 apart.0.0) laws.1 apart.1,
  )

  -- ---- from any state

  under_way : (setup : Setup) (starts : List Setup) (net : Net F) → IsAnyController setup net.controller
      → AllByRecursion (λ start. IsAnyDevice setup start identity silence net.device.station net.device.live) starts
      → AreOwn setup IsAnything net.to_device → AllByRecursion (ChoosesWell setup) net.to_controller
      → UnderWayForAll as_flash identity silence setup starts net
  under_way setup [] net controller devices own chosen = tt
  under_way setup (start ∷ starts) net controller devices own chosen = (
    record { controller = controller; device = devices.0; to_device = own; to_controller = chosen },
    under_way setup starts net controller devices.1 own chosen,
  )

  -- From the end on.
  abbrev ended_limit : Setup → ℕ → ℕ
  ended_limit setup pause = silence + pause + 2 + start_up_limit setup.plan

  -- What each round keeps besides, until the controller ends.
  abbrev Also : Setup → Setup → List Setup → List Setup → Plant F → Type 0
  Also setup next rest more plant =
      UnderWayForAll as_flash identity silence setup (next ∷ rest) plant.net × (plant.later ≡ next ∷ (rest ++ more))

  from_first : (setup next : Setup) (rest more : List Setup) → IsKnown setup → AllByRecursion (StartLaws as_flash identity) (next ∷ rest)
      → StartsApart setup identity (next ∷ rest) → (pause : ℕ) → 2 ≤ pause → silence + 3 ≤ room (next ∷ rest) pause
      → (plant : Plant F) → UnderWayForAll as_flash identity silence setup (next ∷ rest) plant.net → plant.later ≡ next ∷ (rest ++ more)
      → (at : IsAnywhereAmong setup (next ∷ rest) identity silence plant)
      → LeadsAnywhereBack as_flash identity pause (again_limit setup silence pause) plant
  from_first setup next rest more known laws apart pause long_pause enough plant nets later at = by_end (is_ended plant.net.controller.live.phase) refl
    where
      all : AllApart as_flash identity silence said setup (next ∷ rest)
      all = all_apart setup (next ∷ rest) known laws apart

      by_end : (ended : Bool) → is_ended plant.net.controller.live.phase ≡ ended
          → LeadsAnywhereBack as_flash identity pause (again_limit setup silence pause) plant
      by_end true ended =
          leads_longer as_flash identity pause (ended_limit setup pause) (again_limit setup silence pause) plant (omega arith)
          (parted_again as_flash identity silence said pause (omega (arith, long_pause)) more setup next rest all enough plant nets later ended (at.late ended))
      by_end false goes_on =
          on_the_way_all as_flash setup next identity silence (laws_of setup known.laws) all.2.0.long (Also setup next rest more) all.2.0.long known.patience
          pause (ended_limit setup pause) (record {
            enough = long_pause;
            keeps = λ one net idle also round. (all_kept as_flash identity silence setup (next ∷ rest) all.2 one.net net also.0 round, also.1);
            leads = λ one parted also.
                parted_again as_flash identity silence said pause (omega (arith, long_pause)) more setup next rest all enough one also.0 also.1
                parted.ended parted.late;
          }) plant (record {
            net = nets.0;
            starts = record { more = rest ++ more; later = later };
            goes_on = goes_on;
            idle = at.idle goes_on;
            also = (nets, later);
          })

  -- From any state, with any pause, and as many starts as are needed.
  pub anywhere_again : (setup : Setup) (starts : List Setup) → IsKnown setup → AllByRecursion (StartLaws as_flash identity) starts
      → StartsApart setup identity starts → (pause : ℕ) → 2 ≤ pause → silence + 3 ≤ length starts * suc pause
      → (plant : Plant F) → IsAnywhereAmong setup starts identity silence plant
      → LeadsAnywhereBack as_flash identity pause (again_limit setup silence pause) plant
  anywhere_again setup [] known laws apart pause long_pause enough plant at =
      let none = room_is [] pause in absurd (omega (arith, none, enough))
  anywhere_again setup (next ∷ rest) known laws apart pause long_pause enough plant at =
      let same = room_is (next ∷ rest) pause in
      from_first setup next rest at.more known laws apart pause long_pause (subst (λ (n : ℕ). silence + 3 ≤ n) (sym same) enough) plant
      (under_way setup (next ∷ rest) plant.net at.controller at.devices at.to_device at.to_controller) at.later at
