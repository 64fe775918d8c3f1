-- This follows from the laws of the crates below.
use Rattle.frame_codec.specs.declared.arp.ArpOperation.TheVariants.{Reply}
use Rattle.end_laws.proofs.HearingController as controller
use Rattle.end_laws.proofs.HearingDevice as device
use Rattle.end_laws.proofs.hearing.discovery.packets_are_heard.Goals as goal

pub returns-clause-controller : goal.returns-clause-controller
returns-clause-controller c = λ mine identity asker address target is mac from holds.
    controller.packet_heard c.frames_are_read.ensures.arp mine asker identity.mac (record { operation = Reply; sender = record { mac = identity.mac; address = address }; target = target })
    (record { destination = mac; source = is; tag = tt; content = ((is, from), holds) })

pub returns-clause-device : goal.returns-clause-device
returns-clause-device c = λ other identity asker address target is mac from holds.
    device.packet_heard c.frames_are_read.ensures.arp other asker identity.mac (record { operation = Reply; sender = record { mac = identity.mac; address = address }; target = target })
    (record { destination = mac; source = is; tag = tt; content = ((is, from), holds) })
