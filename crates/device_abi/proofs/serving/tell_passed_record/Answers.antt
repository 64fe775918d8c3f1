-- A record that was passed on, or why none is reported.
use Rattle.std.proofs.Common.{refl}
use Rattle.device_abi.proofs.serving.tell_passed_record.Goals as goal

pub returns-in-Ok : goal.returns-in-Ok
returns-in-Ok c = rw c.in-Ok.ensures.0 (rw (← c.in-Ok.ensures.1) c.tell_back.ensures)

pub returns-in-Err : goal.returns-in-Err
returns-in-Err c = rw c.in-Err.ensures (c.number.ensures, refl)
