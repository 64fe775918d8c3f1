use Rattle.device_station.specs.Steps.{station_of}
use Rattle.device_station.proofs.Sparing.{lost, refused, sparing}
use Rattle.device_station.proofs.Telling.{is_ready}
use Rattle.device_station.proofs.step.step_beside.Goals as goal

pub returns : goal.returns
returns g c =
    let steps = c.step_told.ensures in
    record {
      between = station_of c.tell_beside.new.device c.tell_beside.new.services;
      tells = c.tell_beside.ensures.tells;
      ready = is_ready g.F.Flash (station_of c.args.device.now c.args.services.now) (station_of c.tell_beside.new.device c.tell_beside.new.services) c.tell_beside.ensures.tells;
      steps = steps;
      sparing = sparing g.F.Flash _ _ _ _ _ steps;
      lost = lost g.F.Flash _ _ _ _ _ steps;
      refused = refused g.F.Flash _ _ _ _ _ steps;
    }
