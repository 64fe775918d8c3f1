use Rattle.script_session.proofs.session.Session.give_output.Goals as goal

pub returns-clause-obeys : goal.returns-clause-obeys
returns-clause-obeys c network are = rw c.output.ensures at (c.hear.ensures.obeys network are)
