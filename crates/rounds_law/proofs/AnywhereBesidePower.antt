-- A device that lost its power and was started from its flash is in any state again, for each of the starts that follow.
use Rattle.std.proofs.Common.{◌≡◌, inl, inr, List, [], ◌∷◌, None, ap, ℕ}
use Rattle.std.specs.List.{AllByRecursion}
use Rattle.flash_model.specs.declared.flash.Flash.{Ghosts as Flash}
use Rattle.pn_values.specs.declared.identity.Identity.{Identity}
use Rattle.device_core.specs.Cycle.{IsStartedFrom}
use Rattle.device_core.specs.State.{Live, State}
use Rattle.controller_messages.specs.declared.setup.Setup.{Setup}
use Rattle.rounds_law.specs.Again.{Plant}
use Rattle.rounds_law.specs.Anywhere.{HasStored, IsAnyDevice, IsLate}
use Rattle.rounds_law.specs.AnywhereAgain.{IsAnywhereAmong}
use Rattle.rounds_law.specs.Power.{powered}
use Rattle.rounds_law.proofs.AnywherePower.{any_again, of_given}

module _ {F : Type 0} {S : ℕ} (as_flash : Flash F S) (setup : Setup) (identity : Identity) (silence : ℕ) (plant : Plant F) (device : State F)
    (given : plant.net.device.station.real ≡ setup.plan.real) (stored : HasStored as_flash setup plant.net.device.flash)
    (is : IsStartedFrom as_flash plant.net.device.station plant.net.device.flash device) where
  unrelated : device.live.rest.link ≡ None
  unrelated = ap (λ (live : Live). live.rest.link) (is.known stored.settings stored.room stored.starts)

  devices_again : (starts : List Setup)
      → AllByRecursion (λ start. IsAnyDevice setup start identity silence plant.net.device.station plant.net.device.live) starts
      → AllByRecursion (λ start. IsAnyDevice setup start identity silence device.station device.live) starts
  devices_again [] all = tt
  devices_again (start ∷ starts) all = (
    any_again as_flash setup start identity silence plant.net.device.station plant.net.device.flash device all.0.of_device
        (of_given setup plant.net.device.station plant.net.device.live.rest.real all.0.of_plan given) stored is,
    devices_again starts all.1,
  )

  late_again : IsLate setup silence plant → IsLate setup silence (powered device plant)
  late_again (inl early) = inl early
  late_again (inr (releases, silent)) = inr (releases, inl unrelated)

  -- Both ends are in any state again.
  pub among_again : (starts : List Setup) → IsAnywhereAmong setup starts identity silence plant
      → IsAnywhereAmong setup starts identity silence (powered device plant)
  among_again starts at = record {
    controller = at.controller;
    devices = devices_again starts at.devices;
    to_device = at.to_device;
    to_controller = tt;
    more = at.more;
    later = at.later;
    idle = at.idle;
    late = λ ended. late_again (at.late ended);
  }
