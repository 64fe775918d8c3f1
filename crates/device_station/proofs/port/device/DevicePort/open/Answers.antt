-- No commit of a port that started fails.
use Rattle.std.proofs.Common.{◌≡◌, sym, refl, ◌∙◌, None}
use Rattle.device_station.specs.port.State.{closed}
use Rattle.device_station.proofs.PortStages.{going_of, open_of}
use Rattle.device_station.proofs.port.device.DevicePort.open.Goals as goal

pub returns-in-None : goal.returns-in-None
returns-in-None c =
    let port = c.self.inside in
    let free : closed port.stage ≡ None = sym c.why_closed.ensures ∙ c.in-None.is in
    rw (← c.self.view_is) (free, (refl, going_of port.stage _ _ _ (open_of port.stage free) c.self.invariant.2))
