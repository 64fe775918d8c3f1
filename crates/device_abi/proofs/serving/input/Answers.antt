-- It is accepted, or refused.
use Rattle.std.proofs.Common.{refl, sym}
use Rattle.device_abi.proofs.serving.input.Goals as goal

pub returns-in-Some : goal.returns-in-Some
returns-in-Some c = rw (sym c.in-Some.ensures) c.get_input.ensures

pub returns-in-None : goal.returns-in-None
returns-in-None c = rw (sym c.in-None.ensures) (refl, refl, refl)
