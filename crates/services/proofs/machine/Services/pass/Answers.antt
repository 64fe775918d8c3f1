-- By the closed form.
use Rattle.std.proofs.Common.{sym}
use Rattle.services.specs.contracts.machine.Services.{the_view}
use Rattle.services.proofs.Leaping.{none_sends, ticks_later}
use Rattle.services.proofs.machine.Services.pass.Goals as goal

pub returns-clause-state : goal.returns-clause-state
returns-clause-state c = rw (c.later-self-inside.ensures, c.still_defends-self-inside.ensures, c.saturating_sub-self-inside.ensures)
    (rw (← c.self.view_is) (sym (ticks_later c.args.ticks (the_view c.self.inside) (rw (← c.self.view_is) at c.requires))))

pub returns-clause-none : goal.returns-clause-none
returns-clause-none c = none_sends c.args.ticks c.args.self.now c.requires
