-- What is known of an output, or why it is not reported.
use Rattle.std.proofs.Common.{refl}
use Rattle.device_abi.proofs.Reported.{received_known}
use Rattle.device_abi.proofs.serving.tell_received.Goals as goal

pub returns-in-Ok : goal.returns-in-Ok
returns-in-Ok c =
    rw c.in-Ok.ensures.status.0 (rw (← c.in-Ok.ensures.status.1) (received_known _ _ c.in-Ok.found c.args.port.now.port.device.live.rest.real c.args.slot c.args.subslot _ c.in-Ok.ensures.octets _ _ _ c.tell_found.ensures))

pub returns-in-Err : goal.returns-in-Err
returns-in-Err c = rw c.in-Err.ensures.status (c.number.ensures, refl)
