-- The iterator goes over the modules.
use Rattle.std.proofs.Common.{rules, tests, ◌==◌}
use Rattle.std.proofs.lemmas.Iterator.{YieldsList-from_slice}
use Rattle.std.proofs.lemmas.Iterator.Search.{any_from_yields_List}
use Rattle.pn_values.specs.declared.real.RealModule.{RealModule}
use Rattle.records.proofs.reads.listing.has_slot.Goals as goal

pub returns : goal.returns
returns c =
    any_from_yields_List (λ (entry : RealModule). entry.slot == c.args.slot) _ _ c.any.result c.any.ensures.ran
    (YieldsList-from_slice c.args.real.now.modules.items cc) (λ x b q k. search (rules, tests))
