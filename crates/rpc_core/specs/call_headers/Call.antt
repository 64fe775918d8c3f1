-- The header of calls and of their answers (C706, 12.5), as far as it is read here: 80 octets. What an answer repeats
-- is kept as its octets are sent.
use Rattle.std.specs.Prelude.{◌/◌, ◌==◌, ℕ, Bool, true, false, [], ◌∷◌}
use Rattle.wire.specs.Codec.{Codec}
use Rattle.wire.specs.Formats.{raw, number, then_by, ◌⨾◌, seen}
use Rattle.wire.specs.Checks.{fixed}
use Rattle.rpc_core.specs.declared.fault.RpcFault.{RpcFault}
use Rattle.rpc_core.specs.declared.fault.RpcFault.TheVariants.{Short, Version}
use Rattle.rpc_core.specs.Fields.{one, little, any}
use Rattle.rpc_core.specs.declared.call_headers.call.Opening.{Opening}
use Rattle.rpc_core.specs.declared.call_headers.call.Names.{Names}
use Rattle.rpc_core.specs.declared.call_headers.call.Turn.{Turn}
use Rattle.rpc_core.specs.declared.call_headers.call.Extent.{Extent}
use Rattle.rpc_core.specs.declared.call_headers.call.Head.{Head}

-- whether numbers are sent with the lowest octet first, by the first octet of the representation
abbrev pub is_little : ℕ → Bool
is_little representation = representation / 16 == 1

-- a number of this many octets, the lowest first or the highest first
unfoldable pub in_order : Bool → ℕ → Codec RpcFault ℕ
in_order true size = little size
in_order false size = number Short size

-- version 4, packet type, two octets of flags, three of representation, and the high half of the serial number
unfoldable pub opening : Codec RpcFault Opening
opening = seen
    (λ x. record { packet_type = x.1.0; flags = x.1.1.0; representation = x.1.1.1.1.0 })
    (λ o. (tt, (o.packet_type, (o.flags, (tt, (o.representation, tt))))))
    (fixed Version 1 4 ⨾ one ⨾ one ⨾ any 1 (0 ∷ []) ⨾ one ⨾ any 3 (0 ∷ 0 ∷ 0 ∷ []))

-- object, interface and activity
unfoldable pub names : Codec RpcFault Names
names = seen
    (λ x. record { object = x.0; interface = x.1.0; activity = x.1.1 })
    (λ n. (n.object, (n.interface, n.activity)))
    (raw Short 16 ⨾ raw Short 16 ⨾ raw Short 16)

-- the server's boot time; the interface's version, the sequence number and the operation
unfoldable pub turn : Bool → Codec RpcFault Turn
turn little = seen
    (λ x. record { version = x.1.0; sequence = x.1.1.0; operation = x.1.1.1 })
    (λ t. (tt, (t.version, (t.sequence, t.operation))))
    (any 4 (0 ∷ 0 ∷ 0 ∷ 0 ∷ []) ⨾ raw Short 4 ⨾ raw Short 4 ⨾ in_order little 2)

-- two hints, the body's length, the fragment's number, the authentication, and the low half of the serial number
unfoldable pub extent : Bool → Codec RpcFault Extent
extent little = seen
    (λ x. record { length = x.1.0; fragment = x.1.1.0; authentication = x.1.1.1.0 })
    (λ e. (tt, (e.length, (e.fragment, (e.authentication, tt)))))
    (any 4 (255 ∷ 255 ∷ 255 ∷ 255 ∷ []) ⨾ in_order little 2 ⨾ in_order little 2 ⨾ one ⨾ any 1 (0 ∷ []))

-- the header: its numbers have the byte order that its representation says
unfoldable pub head : Codec RpcFault Head
head = seen
    (λ x. record { opening = x.0; names = x.1.0; turn = x.1.1.0; extent = x.1.1.1 })
    (λ h. (h.opening, (h.names, (h.turn, h.extent))))
    (then_by opening (λ (o : Opening). names ⨾ turn (is_little o.representation) ⨾ extent (is_little o.representation)))
