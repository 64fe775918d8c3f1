use Rattle.std.proofs.Common.{◌≡◌, replicate, arith, ap, subst}
use Rattle.controller_core.specs.declared.stored.event.Event.{Event}
use Rattle.controller_core.specs.declared.stored.event.Event.TheVariants as event
use Rattle.script_session.specs.Ends.{controller_run}
use Rattle.script_session.proofs.Ticking.{IsHearing, hearing_first, hearing_on, heard_all, some_left}
use Rattle.script_session.proofs.other_end.ticks.Goals as goal

pub loop-left-init : goal.loop-left-init
loop-left-init c = hearing_first _ _ _

pub loop-left-preserved : goal.loop-left-preserved
loop-left-preserved c =
    let first = subst (λ left. IsHearing (controller_run c.args.controller.now (replicate c.args.units event.Tick)) left c.loop-left.controller c.args.to_device.now.items c.loop-left.to_device.items) (some_left Event event.Tick c.loop-left.left c.loop-left-test.true) c.loop-left.invariant in
    hearing_on _ event.Tick _ _ _ _ _ _ first c.in_ok-step.ensures

pub returns : goal.returns
returns c =
    let none : c.loop-left.left ≡ 0 = omega arith in
    heard_all _ _ _ _ _ (ap (λ left. replicate left event.Tick) none) c.loop-left.invariant
