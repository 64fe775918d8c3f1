use Rattle.device_station.proofs.Answered.{conflicts_are_noticed}
use Rattle.device_station.proofs.law.conflicts_are_noticed.Goals as goal

pub returns : goal.returns
returns c = conflicts_are_noticed
