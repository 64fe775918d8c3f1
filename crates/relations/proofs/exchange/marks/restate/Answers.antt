-- One more mark is changed.
use Rattle.std.proofs.Common.{rules}
use Rattle.std.proofs.lemmas.List.Edits.{map_over_more}
use Rattle.relations.specs.exchange.Modules.{restated_mark}
use Rattle.relations.proofs.exchange.marks.restate.Goals as goal

pub loop-mark-preserved : goal.loop-mark-preserved
loop-mark-preserved c = search (rules, map_over_more (restated_mark c.args.plugs.now))
