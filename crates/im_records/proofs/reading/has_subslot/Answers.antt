-- The iterator goes over the submodules.
use Rattle.std.proofs.Common.{rules, tests, ◌==◌}
use Rattle.std.proofs.lemmas.Iterator.{YieldsList-from_slice}
use Rattle.std.proofs.lemmas.Iterator.Search.{any_from_yields_List}
use Rattle.pn_values.specs.declared.real.RealSubmodule.{RealSubmodule}
use Rattle.im_records.proofs.reading.has_subslot.Goals as goal

pub returns : goal.returns
returns c =
    any_from_yields_List (λ (part : RealSubmodule). part.subslot == c.args.subslot) _ _ c.any.result c.any.ensures.ran
    (YieldsList-from_slice c.args.entry.now.submodules.items cc) (λ x b q k. search (rules, tests))
