use Rattle.std.proofs.Common.{refl}
use Rattle.catalogue.specs.Projects.{station}
use Rattle.catalogue.proofs.project.station.Goals as goal

pub returns : goal.returns
unfolding station
returns c = rw c.in_ok-name.ensures (rw c.in_ok-address.ensures (rw c.in_ok-mask.ensures (rw c.in_ok-gateway.ensures refl)))
