-- One more call is changed.
use Rattle.std.proofs.Common.{rules}
use Rattle.std.proofs.lemmas.List.Edits.{map_over_more}
use Rattle.expected_places.specs.Calls.{readied_call}
use Rattle.expected_places.proofs.calls.ready_at.Goals as goal

pub loop-call-preserved : goal.loop-call-preserved
loop-call-preserved c = search (rules, map_over_more (readied_call c.args.slot c.args.subslot))
