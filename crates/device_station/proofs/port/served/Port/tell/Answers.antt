-- Nothing waits then, since nothing waited before.
use Rattle.std.proofs.Common.{◌∙◌, ap, drop}
use Rattle.device_station.specs.port.Pace.{caught_up}
use Rattle.device_station.specs.port.Served.{Served}
use Rattle.device_station.proofs.ServedBarring.{barred_alone, free_fetched}
use Rattle.device_station.proofs.ServedTicking.{at}
use Rattle.device_station.proofs.port.served.Port.tell.Goals as goal

pub returns-clause-free : goal.returns-clause-free
returns-clause-free c =
    let all = c.self.inside in
    let fetched = ap (λ (s : Served). s.frames) c.self.view_is ∙ (free_fetched c.args.self.now c.requires.free).1 in
    barred_alone (at all.serves c.tell_neighbour.new.port (caught_up 0 c.tell_neighbour.new.services) (drop all.frames_past all.own.frames)) fetched ∙ c.tell_neighbour.ensures.free
