-- By the closed form.
use Rattle.std.proofs.Common.{◌∙◌, sym}
use Rattle.lldp.proofs.Leaping.{none_acts, ticks_later}
use Rattle.lldp.proofs.machine.Neighbours.pass.Goals as goal

pub returns-clause-state : goal.returns-clause-state
returns-clause-state c = c.later.ensures ∙ sym (ticks_later c.args.ticks c.args.self.now c.requires)

pub returns-clause-none : goal.returns-clause-none
returns-clause-none c = none_acts c.args.ticks c.args.self.now c.requires
