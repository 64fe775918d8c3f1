-- The kind of the next piece of work.
use Rattle.std.proofs.Common.{◌∙◌, sym}
use Rattle.device_station.proofs.PortReported.{kind_next}
use Rattle.device_station.proofs.PortLeft.{no_calls}
use Rattle.device_station.proofs.port.device.DevicePort.waiting.Goals as goal

pub returns-then-has_calls : goal.returns-then-has_calls
returns-then-has_calls c = c.kind.ensures ∙ kind_next c.args.self.now c.next.result c.next.ensures

pub waiting_frame-requires : goal.waiting_frame-requires
waiting_frame-requires c = no_calls c.args.self.now.calls (sym c.if-has_calls.ensures)
