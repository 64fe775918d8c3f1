-- A frame of EtherType 0x8892 means what its content does.
use Rattle.device_core.proofs.device.Device.take_cyclic.Goals as goal

pub returns-in-Some-clause-taken : goal.returns-in-Some-clause-taken
returns-in-Some-clause-taken g c = c.take_real_time.ensures.taken c.args.octets.now (c.in-Some.ensures.found c.args.self.now.station.identity)
