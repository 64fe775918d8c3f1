use Rattle.std.proofs.Common.{refl, rules, sym}
use Rattle.catalogue.proofs.Chains.{fails}
use Rattle.catalogue.specs.Catalogues.{catalogue}
use Rattle.catalogue.proofs.catalogue.read_tree.Goals as goal

pub returns-in_err-project : goal.returns-in_err-project
unfolding catalogue
returns-in_err-project c = rw c.in_ok-identity.ensures (rw c.in_ok-access_point.ensures (rw c.in_ok-modules.ensures (rw (sym c.least_interval-least_interval.ensures) (fails _ _ _ _ _ (let h = c.from_residual-in_err-project.ensures in search rules) c.in_err-project.ensures))))

pub returns : goal.returns
unfolding catalogue
returns c = rw c.into_items.ensures (rw c.in_ok-identity.ensures (rw c.in_ok-access_point.ensures (rw c.in_ok-modules.ensures (rw (sym c.least_interval-least_interval.ensures) (rw c.in_ok-project.ensures refl)))))
