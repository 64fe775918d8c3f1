-- Some pair is a reset that is done if the test of each says so.
use Rattle.std.proofs.Common.{rules, tests}
use Rattle.std.proofs.lemmas.Iterator.{YieldsList-from_slice, YieldsList-from_zip}
use Rattle.std.proofs.lemmas.Iterator.Consumers.{YieldsList-at}
use Rattle.std.proofs.lemmas.Iterator.Search.{any_from_yields_List}
use Rattle.device_core.specs.Machine.{is_reset_done}
use Rattle.device_core.proofs.dcp.is_ended.Goals as goal

pub returns : goal.returns
returns c = any_from_yields_List is_reset_done c.any.new.self _ _ c.any.ensures.ran (YieldsList-from_zip (YieldsList-at c.zip.ensures.first (YieldsList-from_slice c.args.items.now c.iter.ensures.rest)) (YieldsList-at c.zip.ensures.second (YieldsList-from_slice c.args.answers.now c.iter-2.ensures.rest))) (λ x b q k. search (rules, tests))
