use Rattle.catalogue.proofs.InRange.{in_range_if}
use Rattle.catalogue.proofs.catalogue.read.Goals as goal

pub returns-clause-kept : goal.returns-clause-kept
returns-clause-kept c = in_range_if _ _ c.read_tree.ensures
