-- Several units at once.
use Rattle.std.proofs.Common.{ap, ◌∙◌, arith}
use Rattle.controller_core.specs.stored.State.{Controlling}
use Rattle.exchange_law.proofs.Runs.{leap_learned, leaps_so}
use Rattle.exchange_law.proofs.controller.leap.Goals as goal

pub returns : goal.returns
returns g c =
    let old = c.args.controller.now in
    let count = c.min-count.result in
    leaps_so old c.args.units count (g.W.Witness.told c.args.witness.now) _ c.elapse.new.self (omega (arith, c.min-count.ensures)) (omega (arith, c.if-count-eq0.false)) c.elapse.ensures.last c.elapse.ensures.ends
    (leap_learned _ _ _ _ _ _ _ _ _ _ c.tell.ensures c.pass.ensures c.state.ensures c.elapse.ensures.frames
    (c.state-2.ensures ∙ ap (λ (controlling : Controlling). controlling.live.phase) c.elapse.ensures.state))
    c.elapse.ensures.state
