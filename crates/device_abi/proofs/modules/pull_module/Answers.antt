-- Of a slot.
use Rattle.std.proofs.Common.{refl, sym}
use Rattle.device_abi.proofs.modules.pull_module.Goals as goal

pub returns-in-Some : goal.returns-in-Some
returns-in-Some c = rw (sym c.in-Some.ensures) c.pull_slot.ensures

pub returns-in-None : goal.returns-in-None
returns-in-None c = rw (sym c.in-None.ensures) (refl, refl, refl)
