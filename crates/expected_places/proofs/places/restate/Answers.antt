-- One more place is changed.
use Rattle.std.proofs.Common.{rules}
use Rattle.std.proofs.lemmas.List.Edits.{map_over_more}
use Rattle.expected_places.specs.Places.{restated_place}
use Rattle.expected_places.proofs.places.restate.Goals as goal

pub loop-place-preserved : goal.loop-place-preserved
loop-place-preserved c = search (rules, map_over_more (restated_place c.args.rows.now))
