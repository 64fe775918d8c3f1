-- The input of a place.
use Rattle.std.proofs.Common.{refl, sym}
use Rattle.controller_abi.proofs.serving.value.Goals as goal

pub returns-in-Some : goal.returns-in-Some
returns-in-Some c = rw (sym c.in-Some.ensures) c.tell_value.ensures

pub returns-in-None : goal.returns-in-None
returns-in-None c = rw (sym c.in-None.ensures) (refl, refl)
