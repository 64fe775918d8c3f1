-- This follows from the laws of the formats.
use Rattle.frame_codec.specs.Meaning.{ArpPacket, RealTime, UdpDatagram}
use Rattle.frame_codec.specs.Sendable.{carrying}
use Rattle.frame_codec.proofs.ReadBack.{alone, alone_back, back, long}
use Rattle.frame_codec.proofs.frame_law.frames_are_read.Goals as goal

pub returns-clause-back : goal.returns-clause-back
returns-clause-back c = back c.fitting_frames_are_read.ensures.back c.fitting_frames_are_read.ensures.datagram

pub returns-clause-real_time : goal.returns-clause-real_time
returns-clause-real_time c = λ destination source tag frame_id body is. alone_back c.fitting_frames_are_read.ensures.back c.fitting_frames_are_read.ensures.datagram (carrying destination source tag (RealTime frame_id body)) is

pub returns-clause-arp : goal.returns-clause-arp
returns-clause-arp c = λ destination source tag packet is. alone_back c.fitting_frames_are_read.ensures.back c.fitting_frames_are_read.ensures.datagram (carrying destination source tag (ArpPacket packet)) is

pub returns-clause-udp : goal.returns-clause-udp
returns-clause-udp c = λ destination source tag from to body is. alone_back c.fitting_frames_are_read.ensures.back c.fitting_frames_are_read.ensures.datagram (carrying destination source tag (UdpDatagram from to body)) is

pub returns-clause-alone : goal.returns-clause-alone
returns-clause-alone c = alone c.formats_are_sound.ensures.ethernet

pub returns-clause-long : goal.returns-clause-long
returns-clause-long c = long c.formats_are_sound.ensures.ethernet c.formats_are_sound.ensures.layers
