use Rattle.std.proofs.Common.{refl}
use Rattle.pn_alarms.specs.Leaps.{NothingDue}
use Rattle.pn_alarms.specs.Sending.{due, ticked}
use Rattle.pn_alarms.proofs.Leaps.{controller_after, controller_nothing}
use Rattle.pn_alarms.proofs.controller.ControllerAlarms.pass.Goals as goal

pub returns-clause-state : goal.returns-clause-state
returns-clause-state c = rw (controller_after c.args.self.now c.args.units) (rw (← c.self.view_is, c.pass.ensures.state) refl)

pub returns-clause-nothing : goal.returns-clause-nothing
returns-clause-nothing c =
    let nothing : NothingDue due ticked c.args.units c.args.self.now.sending = rw (← c.self.view_is) c.pass.ensures.nothing in
    controller_nothing c.args.self.now c.args.units nothing
