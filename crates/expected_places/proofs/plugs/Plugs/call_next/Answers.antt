-- The place of the call that is sent does not wait any more.
use Rattle.expected_places.proofs.Called.{own_next}
use Rattle.expected_places.proofs.plugs.Plugs.call_next.Goals as goal

pub invariant_of-self : goal.invariant_of-self
invariant_of-self c =
    (rw c.next.ensures.state (own_next c.self.inside.places.items c.self.inside.calls c.self.invariant.0), c.self.invariant.1)
