use Rattle.settings_journal.proofs.Active.{starts_with}
use Rattle.settings_journal.proofs.journal.Journal.settings.Goals as goal

pub returns-clause-stored : goal.returns-clause-stored
returns-clause-stored g c = rw (← c.self.view_is) (λ going. starts_with _ _ _ _ _ _ (g.met.F.Flash.sized c.self.inside.flash) (c.self.invariant going))
