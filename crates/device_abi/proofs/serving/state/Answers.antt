-- Phase and lamp, or why they are not reported.
use Rattle.std.proofs.Common.{refl}
use Rattle.device_abi.proofs.serving.state.Goals as goal

pub returns-in-Err : goal.returns-in-Err
returns-in-Err c = rw c.in-Err.ensures (c.number.ensures, refl)
