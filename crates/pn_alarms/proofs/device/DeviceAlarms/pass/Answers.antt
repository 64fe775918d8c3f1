use Rattle.std.proofs.Common.{refl}
use Rattle.pn_alarms.specs.Leaps.{NothingDue, alarm_due}
use Rattle.pn_alarms.specs.Sender.{later}
use Rattle.pn_alarms.proofs.Leaps.{end_after, end_nothing}
use Rattle.pn_alarms.proofs.device.DeviceAlarms.pass.Goals as goal

pub returns-clause-state : goal.returns-clause-state
returns-clause-state c = rw (end_after c.args.self.now c.args.units) (rw (← c.self.view_is, c.pass.ensures.state) refl)

pub returns-clause-nothing : goal.returns-clause-nothing
returns-clause-nothing c =
    let nothing : NothingDue alarm_due later c.args.units c.args.self.now.sender = rw (← c.self.view_is) c.pass.ensures.nothing in
    end_nothing c.args.self.now c.args.units nothing
