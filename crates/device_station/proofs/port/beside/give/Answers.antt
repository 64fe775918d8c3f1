-- The device takes the call, since nothing bars it.
use Rattle.std.proofs.Common.{subst}
use Rattle.device_frames.specs.declared.event.Event.{Event}
use Rattle.device_station.specs.port.Steps.{Takes}
use Rattle.device_station.proofs.port.beside.give.Goals as goal

pub returns-in-Joined-clause-gives : goal.returns-in-Joined-clause-gives
returns-in-Joined-clause-gives c =
    rw c.in-Joined.is (c.requires c.in-Joined.is, c.take.result, subst (λ (e : Event). Takes c.args.port.now e c.take.result c.take.new.self) c.event.ensures c.take.ensures)
