-- Nothing was pulled or plugged: no place is touched.
use Rattle.std.proofs.Common.{sym}
use Rattle.expected_places.proofs.Untouched.{none_touched}
use Rattle.expected_places.proofs.plugs.Plugs.is_touched.Goals as goal

pub returns-then-self : goal.returns-then-self
returns-then-self c = rw (← c.self.view_is) (sym (none_touched c.args.slot c.args.subslot c.self.inside.places.items (c.self.invariant.1 c.if-self.true)))
