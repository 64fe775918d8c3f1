-- The store starts with what the journal starts with.
use Rattle.std.proofs.lemmas.Result.{err_from_is_err_and}
use Rattle.settings_journal.proofs.settings_store.store.Store.load.Goals as goal

pub returns-in_err-load-clause-known : goal.returns-in_err-load-clause-known
returns-in_err-load-clause-known g c =
    let p = err_from_is_err_and c.from_residual.result c.from_residual.ensures.1 in rw (← c.self.view_is) (λ settings room starts. rw (p.1, p.2) (c.in_err-load.ensures.known settings room starts))

pub returns-in_err-load-clause-foreign : goal.returns-in_err-load-clause-foreign
returns-in_err-load-clause-foreign g c =
    let p = err_from_is_err_and c.from_residual.result c.from_residual.ensures.1 in rw (← c.self.view_is) (rw (p.1, p.2) c.in_err-load.ensures.foreign)

pub returns-clause-starts : goal.returns-clause-starts
returns-clause-starts g c = rw (← c.self.view_is) c.in_ok-load.ensures.starts

pub returns-clause-known : goal.returns-clause-known
returns-clause-known g c = rw (← c.self.view_is) c.in_ok-load.ensures.known

pub returns-clause-blank : goal.returns-clause-blank
returns-clause-blank g c = rw (← c.self.view_is) c.in_ok-load.ensures.blank

pub returns-clause-strange : goal.returns-clause-strange
returns-clause-strange g c = rw (← c.self.view_is) c.in_ok-load.ensures.strange
