-- One thing that happens.
use Rattle.std.proofs.Common.{sym, subst}
use Rattle.exchange_law.specs.declared.controller.Happening.{Happening}
use Rattle.exchange_law.specs.Run.{Happens}
use Rattle.exchange_law.proofs.Runs.{comes_so}
use Rattle.exchange_law.proofs.controller.happen.Goals as goal

pub returns-in-Comes : goal.returns-in-Comes
returns-in-Comes g c =
    subst (λ (one : Happening). Happens c.args.controller.now one (g.W.Witness.told c.args.witness.now) (g.W.Witness.told c.turn.new.witness) c.turn.new.controller) (sym c.in-Comes.is)
    (comes_so _ _ _ _ _ c.turn.ensures)

pub returns-in-Leaps : goal.returns-in-Leaps
returns-in-Leaps g c =
    subst (λ (one : Happening). Happens c.args.controller.now one (g.W.Witness.told c.args.witness.now) (g.W.Witness.told c.leap.new.witness) c.leap.new.controller) (sym c.in-Leaps.is)
    c.leap.ensures
