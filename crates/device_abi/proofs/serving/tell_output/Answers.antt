-- An output, or why the submodule has none.
use Rattle.std.proofs.Common.{refl}
use Rattle.device_abi.proofs.Reported.{unreported}
use Rattle.device_abi.proofs.serving.tell_output.Goals as goal

pub returns-in-Ok : goal.returns-in-Ok
returns-in-Ok c = rw c.in-Ok.ensures.value.0 (rw c.in-Ok.ensures.value.1 (refl, c.put.ensures))

pub returns-in-Err : goal.returns-in-Err
returns-in-Err c = unreported _ _ c.in-Err.refusal _ _ _ c.in-Err.ensures.value c.number.ensures refl
