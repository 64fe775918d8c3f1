use Rattle.std.proofs.Common.{codes, subst, sym}
use Rattle.std.proofs.lemmas.Result.{err_from_is_err_and}
use Rattle.script_lines.specs.Text.{printed}
use Rattle.script_session.specs.Session.{Are}
use Rattle.script_session.proofs.Coming.{config_refused, config_planned}
use Rattle.script_session.proofs.Obeying.{appended}
use Rattle.script_session.proofs.session.Session.config.Goals as goal

pub returns-in_err-plan-clause-obeys : goal.returns-in_err-plan-clause-obeys
returns-in_err-plan-clause-obeys c plans network right are =
    let p = err_from_is_err_and c.from_residual.result c.from_residual.ensures.1 in
    rw (p.1, p.2) (config_refused plans network c.args.catalogue.now _ right c.in_err-plan.ensures)

pub returns-clause-obeys : goal.returns-clause-obeys
returns-clause-obeys c plans network right are =
    let ends = subst (Are network) (sym c.self.view_is) are in
    let planned = c.in_ok-plan.ensures in
    config_planned plans network c.args.catalogue.now planned.0 c.self.inside.power c.self.inside.other _ _ _ _ _ right planned.1 ends.0 ends.1 planned.2 (appended c.extend_from_slice.result c.extend_from_slice.new.self.items c.args.text.now.items (printed (codes "plan ok")) c.extend_from_slice.ensures.items) c.always.ensures
