-- Of a place.
use Rattle.std.proofs.Common.{refl, sym}
use Rattle.device_abi.proofs.serving.diagnosis.Goals as goal

pub returns-in-Some : goal.returns-in-Some
returns-in-Some c = rw (sym c.in-Some.ensures) c.diagnosis_at.ensures

pub returns-in-None : goal.returns-in-None
returns-in-None c = rw (sym c.in-None.ensures) (refl, refl, refl)
