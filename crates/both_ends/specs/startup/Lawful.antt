-- The worlds for which the law of a start-up is stated.
use Rattle.controller_messages.specs.declared.setup.Setup.{Setup}
use Rattle.network_world.specs.World.{World}
use Rattle.pn_values.specs.declared.identity.Identity.{Identity}
use Rattle.both_ends.specs.startup.Played.{Begins, CanMeet}

-- A world begins as the law of a start-up requires, with a device of this identity, and both ends can communicate.
pub record IsLawful {F : Type 0} (identity : Identity) (world : World F) : Type 0 where
  pub setup : Setup
  pub meets : CanMeet setup identity
  pub begins : Begins setup identity world
