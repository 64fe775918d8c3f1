-- The stages of the way back from any state: what holds of both ends and of what is under way, and what follows.
use Rattle.std.specs.Prelude.{◌≡◌, ◌⊎◌, ◌≤◌, ◌+◌, ℕ, true, false, List, ◌∷◌, None}
use Rattle.std.specs.List.{AllByRecursion}
use Rattle.flash_model.specs.declared.flash.Flash.{Ghosts as Flash}
use Rattle.pn_values.specs.declared.identity.Identity.{Identity}
use Rattle.controller_messages.specs.declared.setup.Setup.{Setup}
use Rattle.controller_core.specs.declared.stored.state.State.TheVariants.{Exchanging}
use Rattle.network_world.specs.World.{is_ended}
use Rattle.rounds_law.specs.Again.{Plant}
use Rattle.rounds_law.specs.Anywhere.{ChoosesWell, HasPatience, IsAnyController, IsAnyDevice, LeadsAnywhereBack, ahead_limit, parting_limit, remains}
use Rattle.rounds_law.specs.Rounds.{Net, Round}
use Rattle.rounds_law.specs.Start.{start_up_limit}
use Rattle.rounds_law.proofs.AnywhereParts.{AreOwn, IsAnything, IsLong, IsRelease}

module _ {F : Type 0} {S : ℕ} (as_flash : Flash F S) (setup next : Setup) (identity : Identity) (silence : ℕ) where
  -- Both ends in some state, and only their own frames are under way.
  pub record IsUnderWay (net : Net F) : Type 0 where
    pub controller : IsAnyController setup net.controller
    pub device : IsAnyDevice setup next identity silence net.device.station net.device.live
    pub to_device : AreOwn setup IsAnything net.to_device
    pub to_controller : AllByRecursion (ChoosesWell setup) net.to_controller

  -- So it is after each round.
  abbrev pub RoundKeeps : Type 0
  RoundKeeps = IsLong as_flash setup next identity silence → HasPatience setup.options
      → (before after : Net F) → IsUnderWay before → Round as_flash before after → IsUnderWay after

  -- The controller will be started again with the next set-up.
  pub record StartsNext (plant : Plant F) : Type 0 where
    pub more : List Setup
    pub later : plant.later ≡ next ∷ more

  -- It has not ended, and this holds besides.
  pub record IsOnTheWay (Also : Plant F → Type 0) (plant : Plant F) : Type 0 where
    pub net : IsUnderWay plant.net
    pub starts : StartsNext plant
    pub goes_on : is_ended plant.net.controller.live.phase ≡ false
    pub idle : plant.idle ≡ 0
    pub also : Also plant

  -- It has just ended, and anything of it may be under way; or only its Release is, and the relation of the device, if it has one, has been
  -- silent since, but for two units.
  abbrev pub IsLate : Plant F → Type 0
  IsLate plant = (plant.idle ≤ 1)
      ⊎ (AreOwn setup IsRelease plant.net.to_device
      × ((plant.net.device.live.rest.link ≡ None) ⊎ (remains plant.net.device.live.rest.link + plant.idle ≤ silence + 2)))

  pub record IsParted (plant : Plant F) : Type 0 where
    pub net : IsUnderWay plant.net
    pub starts : StartsNext plant
    pub ended : is_ended plant.net.controller.live.phase ≡ true
    pub late : IsLate plant

  -- After the end: the pause, and a start.
  abbrev pub PartedLeads : Type 0
  PartedLeads = IsLong as_flash setup next identity silence → HasPatience setup.options → (pause : ℕ) → silence + 4 ≤ pause → (plant : Plant F) → IsParted plant
      → LeadsAnywhereBack as_flash identity pause (pause + start_up_limit setup.plan) plant

  -- What follows the end: each round keeps what holds besides, and from the end on both exchange data within this many rounds.
  pub record EndLeads (pause rest : ℕ) (Also : Plant F → Type 0) : Type 0 where
    pub enough : 2 ≤ pause
    pub keeps : (plant : Plant F) (net : Net F) (idle : ℕ) → Also plant → Round as_flash plant.net net
        → Also (record { net = net; later = plant.later; idle = idle })
    pub leads : (plant : Plant F) → IsParted plant → Also plant → LeadsAnywhereBack as_flash identity pause rest plant

  -- While data is exchanged: both serve, or the controller ends.
  abbrev pub ExchangingLeads : (Plant F → Type 0) → Type 0
  ExchangingLeads Also = IsLong as_flash setup next identity silence → HasPatience setup.options → (pause rest : ℕ) → EndLeads pause rest Also
      → (plant : Plant F) → IsOnTheWay Also plant → plant.net.controller.live.phase ≡ Exchanging
      → LeadsAnywhereBack as_flash identity pause (parting_limit setup.plan silence + rest) plant

  -- From any state in which it has not ended.
  abbrev pub OnTheWayLeads : (Plant F → Type 0) → Type 0
  OnTheWayLeads Also = IsLong as_flash setup next identity silence → HasPatience setup.options → (pause rest : ℕ) → EndLeads pause rest Also
      → (plant : Plant F) → IsOnTheWay Also plant
      → LeadsAnywhereBack as_flash identity pause (ahead_limit setup.options + (parting_limit setup.plan silence + rest)) plant
