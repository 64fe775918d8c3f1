-- One more place is changed.
use Rattle.std.proofs.Common.{rules}
use Rattle.std.proofs.lemmas.List.Edits.{map_over_more}
use Rattle.plan_places.specs.Places.{set_at}
use Rattle.plan_places.proofs.places.set_at.Goals as goal

pub loop-place-preserved : goal.loop-place-preserved
loop-place-preserved c = search (rules, map_over_more (set_at c.args.slot c.args.subslot c.args.state))
