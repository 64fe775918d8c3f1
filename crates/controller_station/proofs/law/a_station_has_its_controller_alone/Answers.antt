-- By induction over the events.
use Rattle.controller_station.proofs.Running.{same_controller, same_frames}
use Rattle.controller_station.proofs.law.a_station_has_its_controller_alone.Goals as goal

pub returns-clause-controller : goal.returns-clause-controller
returns-clause-controller c = same_controller

pub returns-clause-frames : goal.returns-clause-frames
returns-clause-frames c = same_frames
