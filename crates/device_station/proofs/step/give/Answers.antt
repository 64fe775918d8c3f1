-- The event of the call is the call.
use Rattle.std.proofs.Common.{subst}
use Rattle.device_frames.specs.declared.event.Event.{Event}
use Rattle.frame_codec.specs.Outbox.{boxed}
use Rattle.device_station.specs.Steps.{DeviceSteps}
use Rattle.device_station.proofs.step.give.Goals as goal

pub returns : goal.returns
returns g c =
    subst (λ (event : Event). DeviceSteps g.F.Flash c.args.device.now event (boxed c.step_device.new.outbox) c.step_device.result c.step_device.new.device)
    c.event.ensures c.step_device.ensures
