-- Units of which none is due are that many ticks.
use Rattle.std.proofs.Common.{rules}
use Rattle.expected_places.proofs.Times.{counted_is, none_again}
use Rattle.expected_places.proofs.plugs.Plugs.pass.Goals as goal

pub returns-clause-state : goal.returns-clause-state
returns-clause-state c = rw (counted_is c.args.self.now.calls c.args.units c.requires) (search rules)

pub returns-clause-nothing : goal.returns-clause-nothing
returns-clause-nothing c = none_again c.args.self.now.calls c.args.units c.requires
