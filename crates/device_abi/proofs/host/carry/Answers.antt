-- A call on the chip.
use Rattle.device_abi.proofs.HostDevice.{erased_by}
use Rattle.device_abi.proofs.host.carry.Goals as goal

pub returns-in-Erase-clause-carries : goal.returns-in-Erase-clause-carries
returns-in-Erase-clause-carries g c = rw c.in-Erase.is (erased_by 4096 _ _ c.in-Erase.sector c.erase.result (g.met.C.Flash.sized c.args.chip.now) c.erase.ensures.done c.erase.ensures.torn)
