-- As many as are kept.
use Rattle.device_station.specs.Views.{call_octets}
use Rattle.device_station.proofs.PortOwn.{kept_length}
use Rattle.device_station.proofs.port.own.OwnFrames.len.Goals as goal

pub returns : goal.returns
returns c =
    let own = c.self.inside in
    rw (← c.self.view_is) (kept_length own.count own.first (call_octets own.room) c.self.invariant)
