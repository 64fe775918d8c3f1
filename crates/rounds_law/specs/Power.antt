-- A device that loses its power while data is exchanged: what its flash has decides what it is when the power is back.
use Rattle.std.specs.Prelude.{◌≡◌, ◌⊎◌, ◌≤◌, ℕ, List, ◌∷◌, Some}
use Rattle.std.specs.List.{AllByRecursion}
use Rattle.flash_model.specs.declared.flash.Flash.{Ghosts as Flash}
use Rattle.pn_values.specs.declared.identity.Identity.{Identity}
use Rattle.pn_values.specs.declared.settings.Settings.{Settings}
use Rattle.settings_journal.specs.Image.{StartsWith}
use Rattle.device_core.specs.State.{State}
use Rattle.controller_messages.specs.declared.setup.Setup.{Setup}
use Rattle.network_world.specs.declared.moves.End.TheVariants.{Controller}
use Rattle.rounds_law.specs.Again.{IsAlone, Plant}
use Rattle.rounds_law.specs.Path.{IsOutputs, IsSized}
use Rattle.rounds_law.specs.Rounds.{with_device, without}
use Rattle.rounds_law.specs.Start.{IsOfPlan}

-- The controller exchanges data, in a relation of any number, and only outputs are under way to the device. A start on the flash of the device gives the plan's name, and
-- the plan's IP suite or room to store it. Nothing else of the device matters: it loses it.
pub record CanLosePower {F : Type 0} {S : ℕ} (as_flash : Flash F S) (setup next : Setup) (identity : Identity) (left : ℕ) (plant : Plant F) : Type 0 where
  pub serial : ℕ
  pub alone : IsAlone setup serial identity.mac left plant.net.controller
  pub outputs : AllByRecursion (IsOutputs setup (Some serial) identity.mac) plant.net.to_device
  pub more : List Setup
  pub later : plant.later ≡ next ∷ more
  pub idle : plant.idle ≡ 0
  pub of_device : plant.net.device.station.identity ≡ identity
  pub of_plan : IsOfPlan setup plant.net.device.station plant.net.device.station.real
  pub settings : Settings
  pub room : ℕ
  pub starts : StartsWith (as_flash.image plant.net.device.flash) settings room
  pub named : settings.name ≡ setup.plan.station.name
  pub sized : IsSized settings.suite
  pub addressed : (settings.suite ≡ setup.plan.station.suite) ⊎ (1 ≤ room)

-- The plant after the power is back: the device is this one, and what it sent last is lost.
abbrev pub powered : {F : Type 0} → State F → Plant F → Plant F
powered device plant = record plant { net = without Controller (with_device device plant.net) }
