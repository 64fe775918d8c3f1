-- What the services do changes no relation.
use Rattle.strangers_law.proofs.Besides.{leaves_served, station_leaves}
use Rattle.strangers_law.proofs.stations.strangers_leave_a_station.Goals as goal

pub returns-clause-device : goal.returns-clause-device
returns-clause-device g c =
    station_leaves g.F.Flash c.frames_are_read.ensures.real_time c.frames_are_read.ensures.arp c.frames_are_read.ensures.udp c.responses_are_read.ensures.read

pub returns-clause-controller : goal.returns-clause-controller
returns-clause-controller g c = leaves_served
