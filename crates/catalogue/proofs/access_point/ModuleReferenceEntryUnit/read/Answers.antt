use Rattle.std.proofs.Common.{refl, rules}
use Rattle.catalogue.proofs.Chains.{fails}
use Rattle.catalogue.specs.AccessPoints.{reference}
use Rattle.catalogue.proofs.access_point.ModuleReferenceEntryUnit.read.Goals as goal

pub returns-in_err-fixed_in : goal.returns-in_err-fixed_in
unfolding reference
returns-in_err-fixed_in c = rw c.in_ok-target.ensures (rw c.in_ok-allowed_in.ensures (fails _ _ _ _ _ (let h = c.from_residual-in_err-fixed_in.ensures in search rules) c.in_err-fixed_in.ensures))

pub returns : goal.returns
unfolding reference
returns c = rw c.in_ok-target.ensures (rw c.in_ok-allowed_in.ensures (rw c.in_ok-fixed_in.ensures refl))
