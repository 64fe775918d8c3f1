-- Some item is a Signal if the test of each says so.
use Rattle.std.proofs.Common.{rules, tests}
use Rattle.std.proofs.lemmas.Iterator.{YieldsList-from_slice}
use Rattle.std.proofs.lemmas.Iterator.Search.{any_from_yields_List}
use Rattle.device_core.specs.Machine.{is_signal}
use Rattle.device_core.proofs.dcp.has_signal.Goals as goal

pub returns : goal.returns
returns c = any_from_yields_List is_signal _ _ _ c.any.ensures.ran (YieldsList-from_slice c.args.items.now cc) (λ x b q k. search (rules, tests))
