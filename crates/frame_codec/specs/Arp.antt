-- Address resolution on Ethernet for IPv4 (RFC 826).
use Rattle.std.specs.Prelude.{◌==◌, ℕ, Option, Some, None, if◌then◌else◌}
use Rattle.wire.specs.Codec.{Codec}
use Rattle.wire.specs.Formats.{raw, number, ◌⨾◌, seen}
use Rattle.wire.specs.Checks.{fixed, named}
use Rattle.frame_codec.specs.declared.fault.FrameFault.{FrameFault}
use Rattle.frame_codec.specs.declared.fault.FrameFault.TheVariants as fault
use Rattle.frame_codec.specs.declared.arp.Arp.{Arp}
use Rattle.frame_codec.specs.declared.arp.ArpOperation.{ArpOperation}
use Rattle.frame_codec.specs.declared.arp.ArpOperation.TheVariants.{Request, Reply}
use Rattle.frame_codec.specs.declared.arp.Holder.{Holder}

-- the operation of this number
abbrev pub operation_of : ℕ → Option ArpOperation
operation_of number = if number == 1 then Some Request else (if number == 2 then Some Reply else None)

-- the number of an operation
abbrev pub number_of_operation : ArpOperation → ℕ
number_of_operation Request = 1
number_of_operation Reply = 2

-- an operation in two octets; any number but 1 and 2 is a fault
unfoldable pub operation : Codec FrameFault ArpOperation
operation = named operation_of number_of_operation fault.Arp (number fault.Arp 2)

-- hardware type 1, protocol 0x0800, addresses of 6 and of 4 octets
unfoldable pub arp_head : Codec FrameFault (Unit {0})
arp_head = seen (λ _. tt) (λ _. (tt, (tt, (tt, tt)))) (fixed fault.Arp 2 1 ⨾ fixed fault.Arp 2 0x0800 ⨾ fixed fault.Arp 1 6 ⨾ fixed fault.Arp 1 4)

-- a hardware address and a protocol address
unfoldable pub holder : Codec FrameFault Holder
holder = seen (λ x. record { mac = record { octets = x.0 }; address = x.1 }) (λ h. (h.mac.octets, h.address)) (raw fault.Arp 6 ⨾ raw fault.Arp 4)

-- a packet
unfoldable pub arp_packet : Codec FrameFault Arp
arp_packet = seen (λ x. record { operation = x.1.0; sender = x.1.1.0; target = x.1.1.1 }) (λ arp. (tt, (arp.operation, (arp.sender, arp.target))))
    (arp_head ⨾ operation ⨾ holder ⨾ holder)
