-- No call waits as a relation begins, and nothing was pulled or plugged.
use Rattle.std.proofs.Common.{true}
use Rattle.expected_places.proofs.Untouched.{opened_whole}
use Rattle.expected_places.proofs.plugs.Plugs.open.Goals as goal

pub invariant_of-self : goal.invariant_of-self
invariant_of-self c = (rw c.clear.ensures tt, opened_whole c.open.new.places.items c.args.expected.now c.args.rows.now c.open.ensures true)
