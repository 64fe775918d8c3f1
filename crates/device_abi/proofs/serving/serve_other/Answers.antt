-- The operation of the number.
use Rattle.std.proofs.Common.{refl, sym}
use Rattle.device_abi.proofs.serving.serve_other.Goals as goal

pub returns-in-Some : goal.returns-in-Some
returns-in-Some c = rw (sym c.in-Some.ensures) c.perform.ensures

pub returns-in-None : goal.returns-in-None
returns-in-None c = rw (sym c.in-None.ensures) (refl, refl, refl)
