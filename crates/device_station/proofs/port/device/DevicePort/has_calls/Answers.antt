-- Whether flash calls remain.
use Rattle.std.proofs.Common.{◌∙◌, length, sym, ap}
use Rattle.std.specs.Prelude.{nat_lt}
use Rattle.device_station.specs.recorded.Record.{recalled}
use Rattle.device_station.proofs.PortLeft.{some_left}
use Rattle.device_station.proofs.port.device.DevicePort.has_calls.Goals as goal

pub returns : goal.returns
returns c =
    let port = c.self.inside in
    let count = c.stored.ensures ∙ ap (λ f. length (recalled f)) c.flash.ensures in
    rw (← c.self.view_is) (ap (nat_lt port.calls_past) count ∙ sym (some_left port.calls_past (recalled port.device.flash)))
