use Rattle.script_session.proofs.session.Session.write.Goals as goal

pub returns-clause-obeys : goal.returns-clause-obeys
returns-clause-obeys c network are = rw c.handed.ensures at (c.access.ensures.obeys network are)
