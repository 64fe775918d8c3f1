-- The numbers of the faults of frames.
use Rattle.std.specs.Prelude.{ℕ}
use Rattle.frame_codec.specs.declared.fault.FrameFault.{FrameFault}
use Rattle.frame_codec.specs.declared.fault.FrameFault.TheVariants.{TooShort, TooLong, Tag, EtherType, IpHeader, IpChecksum, UdpLength, UdpChecksum, Arp}

-- the number of a fault; the numbers follow the order in which the layers are judged
abbrev pub number_of : FrameFault → ℕ
number_of TooShort = 1
number_of TooLong = 2
number_of Tag = 3
number_of EtherType = 4
number_of IpHeader = 5
number_of IpChecksum = 6
number_of UdpLength = 7
number_of UdpChecksum = 8
number_of Arp = 9
