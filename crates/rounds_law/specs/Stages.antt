-- The first stages of a start-up, and what follows them. At each stage, frames that a controller without a relation ignores may be under
-- way.
use Rattle.std.specs.Prelude.{◌≡◌, ◌⊎◌, ℕ, zero, suc, false, [], ◌∷◌, None}
use Rattle.std.specs.List.{AllByRecursion}
use Rattle.flash_model.specs.declared.flash.Flash.{Ghosts as Flash}
use Rattle.pn_values.specs.declared.identity.Identity.{Identity}
use Rattle.controller_messages.specs.declared.setup.Setup.{Setup}
use Rattle.controller_messages.specs.declared.request.Request.TheVariants.{Address, Connect}
use Rattle.controller_core.specs.declared.stored.state.State.TheVariants.{Addressing, Connecting}
use Rattle.controller_core.specs.Machine.{opening_of}
use Rattle.network_world.specs.World.{is_ended}
use Rattle.rounds_law.specs.Path.{Asks, IsAddressed, IsFree, IsIgnored, IsNamed, IsSearching, IsSized, request_to}
use Rattle.rounds_law.specs.Rounds.{BothExchange, Net, Round}
use Rattle.rounds_law.specs.Start.{CanBeAddressed, IsOfPlan}

-- In each run both ends exchange data after at most this many rounds, and until then the controller has not ended.
abbrev pub Leads : {F : Type 0} {S : ℕ} → Flash F S → ℕ → Net F → Type 0
Leads as_flash zero net = BothExchange net
Leads {F} as_flash (suc limit) net =
    BothExchange net ⊎ ((is_ended net.controller.live.phase ≡ false) × ((next : Net F) → Round as_flash net next → Leads as_flash limit next))

-- The controller looks for its station, and its Identify is under way.
pub record IsLooking {F : Type 0} (setup : Setup) (identity : Identity) (net : Net F) : Type 0 where
  pub searches : IsSearching setup net.controller
  pub opened : net.to_device ≡ opening_of net.controller ∷ []
  pub ignored : AllByRecursion (IsIgnored setup) net.to_controller
  pub of_device : net.device.station.identity ≡ identity
  pub of_plan : IsOfPlan setup net.device.station net.device.live.rest.real
  pub named : IsNamed setup net.device.live
  pub free : IsFree setup net.device.live
  pub sized : IsSized net.device.live.values.running.suite
  pub addressed : IsAddressed setup net.device.live ⊎ CanBeAddressed net.device.live

-- The Set of the IP suite is under way to a device that can store it.
pub record IsAddressing {F : Type 0} (setup : Setup) (identity : Identity) (net : Net F) : Type 0 where
  pub spare : ℕ
  pub asks : Asks setup identity.mac Addressing Address None spare net.controller
  pub under_way : net.to_device ≡ request_to setup identity Address ∷ []
  pub ignored : AllByRecursion (IsIgnored setup) net.to_controller
  pub of_device : net.device.station.identity ≡ identity
  pub of_plan : IsOfPlan setup net.device.station net.device.live.rest.real
  pub named : IsNamed setup net.device.live
  pub free : IsFree setup net.device.live
  pub can : CanBeAddressed net.device.live

-- The Connect is under way to a device that has the plan's IP suite.
pub record IsConnecting {F : Type 0} (setup : Setup) (identity : Identity) (net : Net F) : Type 0 where
  pub spare : ℕ
  pub asks : Asks setup identity.mac Connecting Connect None spare net.controller
  pub under_way : net.to_device ≡ request_to setup identity Connect ∷ []
  pub ignored : AllByRecursion (IsIgnored setup) net.to_controller
  pub of_device : net.device.station.identity ≡ identity
  pub of_plan : IsOfPlan setup net.device.station net.device.live.rest.real
  pub addressed : IsAddressed setup net.device.live
  pub free : IsFree setup net.device.live
