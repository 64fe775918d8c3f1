-- One more place is changed.
use Rattle.std.proofs.Common.{rules}
use Rattle.std.proofs.lemmas.List.Edits.{map_over_more}
use Rattle.plan_places.specs.Places.{made_ready}
use Rattle.plan_places.proofs.places.ready_all.Goals as goal

pub loop-place-preserved : goal.loop-place-preserved
loop-place-preserved c = search (rules, map_over_more (made_ready c.args.number))
