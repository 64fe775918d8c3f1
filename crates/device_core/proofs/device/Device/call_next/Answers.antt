-- The call is that of the relation after it.
use Rattle.device_core.proofs.device.Device.call_next.Goals as goal

pub returns-clause-sendable : goal.returns-clause-sendable
returns-clause-sendable g c =
    rw (← c.self.view_is) (rw (c.call_next-is_due.ensures.sent, c.call_next-is_due.ensures.state, c.address-address.ensures.value, c.running.ensures)
    at c.send_plug_ready.ensures.sendable)

pub returns-clause-frames : goal.returns-clause-frames
returns-clause-frames g c =
    rw (← c.self.view_is) (rw (c.call_next-is_due.ensures.sent, c.call_next-is_due.ensures.state, c.address-address.ensures.value, c.running.ensures)
    at c.send_plug_ready.ensures.frames)
