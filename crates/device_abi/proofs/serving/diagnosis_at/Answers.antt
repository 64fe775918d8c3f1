-- Of a channel and an error.
use Rattle.std.proofs.Common.{refl, sym}
use Rattle.device_abi.proofs.serving.diagnosis_at.Goals as goal

pub returns-in-Some : goal.returns-in-Some
returns-in-Some c = rw (sym c.in-Some.ensures) c.diagnose.ensures

pub returns-in-None : goal.returns-in-None
returns-in-None c = rw (sym c.in-None.ensures) (refl, refl, refl)
