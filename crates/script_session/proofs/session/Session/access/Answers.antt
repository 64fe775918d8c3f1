use Rattle.std.proofs.Common.{◌≡◌, ◌∙◌, Some, true, ap, subst, sym, option_map}
use Rattle.script_session.specs.Ends.{Other, may_request}
use Rattle.script_session.specs.Session.{Are}
use Rattle.script_session.proofs.Coming.{record_passes}
use Rattle.script_session.proofs.session.Session.access.Goals as goal

pub returns-then-can_request-clause-obeys : goal.returns-then-can_request-clause-obeys
returns-then-can_request-clause-obeys c network are =
    let ends = subst (Are network) (sym c.self.view_is) are in
    let may : option_map may_request network.other.controller ≡ Some true =
    ap (λ (o : Other). option_map may_request o.controller) (sym ends.1) ∙ sym c.can_request.ensures ∙ c.in-Some.is ∙ ap Some c.if-can_request.true in
    rw (record_passes network c.args.event.now c.args.fits network.other.controller c.if-fits.true may) (c.hear.ensures.obeys network are)
