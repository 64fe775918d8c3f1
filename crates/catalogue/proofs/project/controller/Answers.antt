use Rattle.std.proofs.Common.{refl}
use Rattle.catalogue.specs.Projects.{controller}
use Rattle.catalogue.proofs.project.controller.Goals as goal

pub returns : goal.returns
unfolding controller
returns c = rw c.in_ok-name.ensures (rw c.in_ok-mac.ensures (rw c.in_ok-address.ensures (rw c.in_ok-identity.ensures refl)))
