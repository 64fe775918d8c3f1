-- Whether work remains.
use Rattle.std.proofs.Common.{sym, ◌∙◌}
use Rattle.device_station.proofs.PortLeft.{calls_left, only_frames}
use Rattle.device_station.proofs.port.device.DevicePort.has_work.Goals as goal

pub returns-then-has_calls : goal.returns-then-has_calls
returns-then-has_calls c = calls_left c.args.self.now.calls c.args.self.now.frames (sym c.if-has_calls.ensures)

pub returns : goal.returns
returns c = c.has_frames.ensures ∙ only_frames c.args.self.now.calls c.args.self.now.frames (sym c.if-has_calls.ensures)
