-- An alarm frame, and the turn of a place that begins after it.
use Rattle.controller_core.proofs.controller.Controller.turn.Goals as goal

pub returns-in-Alarms-clause-state : goal.returns-in-Alarms-clause-state
returns-in-Alarms-clause-state c = rw c.in-Alarms.is c.take_alarm.ensures.state
