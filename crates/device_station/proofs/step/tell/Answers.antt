use Rattle.device_station.proofs.Telling.{exact_by, told_by}
use Rattle.device_station.proofs.step.tell.Goals as goal

pub returns-clause-alone : goal.returns-clause-alone
returns-clause-alone g c =
    told_by g.F.Flash c.args.device.now c.step_alone.new.device c.args.services.now c.neighbour_event-event.result _ _ c.neighbour_event-event.ensures c.step_alone.ensures.alone

pub returns-clause-state : goal.returns-clause-state
returns-clause-state g c =
    exact_by g.F.Flash c.args.device.now c.step_alone.new.device c.args.services.now c.neighbour_event-event.result _ _ c.neighbour_event-event.ensures c.step_alone.ensures.alone
