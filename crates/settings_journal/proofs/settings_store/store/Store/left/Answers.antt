-- How many commits are left.
use Rattle.settings_journal.proofs.settings_store.store.Store.left.Goals as goal

pub returns-clause-read : goal.returns-clause-read
returns-clause-read g c = rw (← c.self.view_is) c.left.ensures.read
