-- The calls stay at their places.
use Rattle.expected_places.proofs.Called.{own_readied}
use Rattle.expected_places.proofs.plugs.Plugs.get_ready.Goals as goal

pub invariant_of-self : goal.invariant_of-self
invariant_of-self c =
    (rw c.get_ready.ensures.state (own_readied c.args.slot c.args.subslot c.self.inside.places.items c.self.inside.calls c.self.invariant.0), c.self.invariant.1)
