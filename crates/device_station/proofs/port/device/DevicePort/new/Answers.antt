-- The chip of a port that was made.
use Rattle.std.proofs.Common.{ap, ◌∙◌}
use Rattle.device_station.specs.recorded.Record.{image_of}
use Rattle.device_station.proofs.port.device.DevicePort.new.Goals as goal

pub returns-clause-chip : goal.returns-clause-chip
returns-clause-chip c = ap image_of c.unstarted_named.ensures.flash ∙ ap (λ r. r.image) c.blank.ensures
