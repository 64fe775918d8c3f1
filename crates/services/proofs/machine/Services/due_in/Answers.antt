use Rattle.std.proofs.Common.{true, false, refl, sym, ◌∙◌}
use Rattle.services.specs.contracts.machine.Services.{the_view}
use Rattle.services.proofs.Leaping.{next_by}
use Rattle.services.proofs.machine.Services.due_in.Goals as goal

pub returns-then-is_defended-clause-next : goal.returns-then-is_defended-clause-next
returns-then-is_defended-clause-next c = next_by true c.args.self.now.announcement c.args.self.now (sym c.is_defended.ensures ∙ c.if-is_defended.true) refl

pub returns-else-is_defended-clause-next : goal.returns-else-is_defended-clause-next
returns-else-is_defended-clause-next c = rw c.due_in.ensures.value (rw (← c.self.view_is) (next_by false c.self.inside.announcement (the_view c.self.inside)
    (rw (← c.self.view_is) at (sym c.is_defended.ensures ∙ c.if-is_defended.false)) refl))
