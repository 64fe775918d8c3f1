use Rattle.device_station.proofs.Leaping.{leaps_are_ticks}
use Rattle.device_station.proofs.leaps.leaps_are_ticks.Goals as goal

pub returns : goal.returns
returns c = leaps_are_ticks
