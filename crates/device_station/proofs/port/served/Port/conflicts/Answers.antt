-- Units that are counted count no conflict.
use Rattle.std.proofs.Common.{◌-◌, ◌∙◌, refl, sym}
use Rattle.device_station.proofs.ServedLeft.{same_conflicts}
use Rattle.device_station.proofs.port.served.Port.conflicts.Goals as goal

pub returns-in-Some : goal.returns-in-Some
returns-in-Some c = rw (← c.self.view_is) (rw c.in-Some.is (c.conflicts.ensures ∙ sym (same_conflicts (c.self.inside.limit - c.self.inside.rest) c.in-Some.services)))

pub returns-in-None : goal.returns-in-None
returns-in-None c = rw (← c.self.view_is) (rw c.in-None.is refl)
