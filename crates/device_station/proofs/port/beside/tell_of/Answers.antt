-- What the services have to report is reported to the device.
use Rattle.device_station.proofs.ServedTelling.{tells_from}
use Rattle.device_station.proofs.port.beside.tell_of.Goals as goal

pub returns-in-Some-clause-tells : goal.returns-in-Some-clause-tells
returns-in-Some-clause-tells c =
    (tells_from c.args.port.now c.take.new.self c.args.services.now c.set_told.new.self c.in-Some.event c.take.result c.in-Some.ensures c.take.ensures c.set_told.ensures).0

pub returns-in-Some-clause-free : goal.returns-in-Some-clause-free
returns-in-Some-clause-free c =
    (tells_from c.args.port.now c.take.new.self c.args.services.now c.set_told.new.self c.in-Some.event c.take.result c.in-Some.ensures c.take.ensures c.set_told.ensures).1
