-- The place whose output is set, or none.
use Rattle.std.proofs.Common.{refl, sym}
use Rattle.controller_abi.proofs.serving.give.Goals as goal

pub returns-in-Some : goal.returns-in-Some
returns-in-Some c = rw (sym c.in-Some.ensures) c.set.ensures

pub returns-in-None : goal.returns-in-None
returns-in-None c = rw (sym c.in-None.ensures) (c.no_place.ensures, refl)
