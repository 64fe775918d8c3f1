use Rattle.std.proofs.Common.{refl, rules, inr}
use Rattle.catalogue.proofs.Chains.{fails}
use Rattle.catalogue.specs.AccessPoints.{access_point}
use Rattle.catalogue.proofs.access_point.access_point.Goals as goal

pub returns-in_err-submodules : goal.returns-in_err-submodules
unfolding access_point
returns-in_err-submodules c = rw c.in_ok-ident.ensures (rw c.in_ok-physical_slots.ensures (rw c.in_ok-station_type.ensures (rw c.in_ok-least_interval.ensures (fails _ _ _ _ _ (let h = c.from_residual-in_err-submodules.ensures in search rules) c.in_err-submodules.ensures))))

pub returns-in_err-references : goal.returns-in_err-references
unfolding access_point
returns-in_err-references c = rw c.in_ok-ident.ensures (rw c.in_ok-physical_slots.ensures (rw c.in_ok-station_type.ensures (rw c.in_ok-least_interval.ensures (rw c.in_ok-submodules.ensures (fails _ _ _ _ _ (let h = c.from_residual-in_err-references.ensures in search rules) c.in_err-references.ensures)))))

pub returns-in_err-multiple_write : goal.returns-in_err-multiple_write
unfolding access_point
returns-in_err-multiple_write c = rw c.in_ok-ident.ensures (rw c.in_ok-physical_slots.ensures (rw c.in_ok-station_type.ensures (rw c.in_ok-least_interval.ensures (rw c.in_ok-submodules.ensures (rw c.in_ok-references.ensures (fails _ _ _ _ _ (let h = c.from_residual-in_err-multiple_write.ensures in search rules) (inr c.in_err-multiple_write.ensures)))))))

pub returns : goal.returns
unfolding access_point
returns c = rw c.in_ok-ident.ensures (rw c.in_ok-physical_slots.ensures (rw c.in_ok-station_type.ensures (rw c.in_ok-least_interval.ensures (rw c.in_ok-submodules.ensures (rw c.in_ok-references.ensures (rw c.in_ok-multiple_write.ensures refl))))))
