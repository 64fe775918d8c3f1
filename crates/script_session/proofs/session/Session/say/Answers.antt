use Rattle.std.proofs.Common.{subst, sym}
use Rattle.script_session.specs.Session.{Are}
use Rattle.script_session.proofs.session.Session.say.Goals as goal

pub returns-clause-obeys : goal.returns-clause-obeys
returns-clause-obeys c network are =
    let ends = subst (Are network) (sym c.self.view_is) are in
    c.answered.ensures.obeys network ends.0 ends.1
