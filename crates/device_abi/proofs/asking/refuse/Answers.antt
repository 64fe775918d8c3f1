-- Of two codes.
use Rattle.std.proofs.Common.{refl, sym}
use Rattle.device_abi.proofs.asking.refuse.Goals as goal

pub returns-in-Some : goal.returns-in-Some
returns-in-Some c = rw (sym c.in-Some.ensures) c.refuse_with.ensures

pub returns-in-None : goal.returns-in-None
returns-in-None c = rw (sym c.in-None.ensures) (refl, refl, refl)
