-- The active call has a place of its own.
use Rattle.expected_places.proofs.Called.{active_ended}
use Rattle.expected_places.proofs.plugs.Plugs.standing.Goals as goal

pub returns-clause-ended : goal.returns-clause-ended
returns-clause-ended c = rw c.standing.ensures (rw (← c.self.view_is) (active_ended c.self.inside.places.items c.self.inside.calls c.self.invariant.0))
