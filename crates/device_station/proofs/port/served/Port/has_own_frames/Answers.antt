-- Whether frames of the services remain.
use Rattle.std.proofs.Common.{◌∙◌, sym, ap}
use Rattle.std.specs.Prelude.{nat_lt}
use Rattle.device_station.proofs.PortLeft.{some_left}
use Rattle.device_station.proofs.port.served.Port.has_own_frames.Goals as goal

pub returns : goal.returns
returns c =
    let port = c.self.inside in
    rw (← c.self.view_is) (ap (nat_lt port.frames_past) c.len.ensures ∙ sym (some_left port.frames_past port.own.frames))
