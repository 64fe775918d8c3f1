-- Only a frame of EtherType 0x8892 has one.
use Rattle.std.proofs.Common.{◌∙◌, sym, ap}
use Rattle.device_abi.specs.Confirmed.{status_by}
use Rattle.device_abi.proofs.Acknowledged.{of_other}
use Rattle.device_abi.proofs.confirmation.acknowledged_by.Goals as goal

pub returns-in-Some : goal.returns-in-Some
returns-in-Some c = c.acknowledged_at.ensures ∙ sym (ap status_by (c.in-Some.ensures.found c.args.identity.now))

pub returns-in-None : goal.returns-in-None
returns-in-None c = of_other c.args.identity.now c.args.octets.now c.in-None.ensures.none
