-- One more place is changed.
use Rattle.std.proofs.Common.{rules}
use Rattle.std.proofs.lemmas.List.Edits.{map_over_more}
use Rattle.expected_places.specs.Places.{touched_place}
use Rattle.expected_places.proofs.places.touch.Goals as goal

pub loop-place-preserved : goal.loop-place-preserved
loop-place-preserved c = search (rules, map_over_more (touched_place c.args.affected c.args.step))
