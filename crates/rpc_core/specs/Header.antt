-- How the header of calls and responses is spelled, 80 octets (C706, 12.5).
use Rattle.std.specs.Prelude.{◌/◌, ◌==◌, ℕ, [], ◌∷◌, if◌then◌else◌}
use Rattle.wire.specs.Codec.{Codec}
use Rattle.wire.specs.Formats.{then_by, ◌⨾◌, seen}
use Rattle.rpc_core.specs.declared.fault.RpcFault.{RpcFault}
use Rattle.rpc_core.specs.declared.fields.Order.{Order}
use Rattle.rpc_core.specs.declared.fields.Order.TheVariants.{Big, Little}
use Rattle.rpc_core.specs.declared.header.CallHeader.{CallHeader}
use Rattle.rpc_core.specs.declared.header.Opening.{Opening}
use Rattle.rpc_core.specs.declared.header.Names.{Names}
use Rattle.rpc_core.specs.declared.header.Turn.{Turn}
use Rattle.rpc_core.specs.declared.header.Extent.{Extent}
use Rattle.rpc_core.specs.declared.header.Head.{Head}
use Rattle.rpc_core.specs.Fields.{one, ordered, uuid, any}

-- the byte order under the first octet of a representation, whose high half is 1 for little endian
abbrev pub order_of : ℕ → Order
order_of representation = if representation / 16 == 1 then Little else Big

-- version, packet type, two octets of flags, three of representation, and the high half of the serial number
unfoldable pub opening : Codec RpcFault Opening
opening = seen
    (λ x. record { version = x.0; packet_type = x.1.0; flags = x.1.1.0; representation = x.1.1.1.1.0 })
    (λ o. (o.version, (o.packet_type, (o.flags, (tt, (o.representation, tt))))))
    (one ⨾ one ⨾ one ⨾ any 1 (0 ∷ []) ⨾ one ⨾ any 3 (0 ∷ 0 ∷ 0 ∷ []))

-- object, interface and activity
unfoldable pub names : Order → Codec RpcFault Names
names order = seen
    (λ x. record { object = x.0; interface = x.1.0; activity = x.1.1 })
    (λ n. (n.object, (n.interface, n.activity)))
    (uuid order ⨾ uuid order ⨾ uuid order)

-- the server's boot time and the interface's version, the sequence number, and the operation
unfoldable pub turn : Order → Codec RpcFault Turn
turn order = seen
    (λ x. record { sequence = x.1.0; operation = x.1.1 })
    (λ t. (tt, (t.sequence, t.operation)))
    (any 8 (0 ∷ 0 ∷ 0 ∷ 0 ∷ 0 ∷ 0 ∷ 0 ∷ 1 ∷ []) ⨾ ordered order 4 ⨾ ordered order 2)

-- two hints, the body's length, the fragment's number, the authentication, and the low half of the serial number
unfoldable pub extent : Order → Codec RpcFault Extent
extent order = seen
    (λ x. record { length = x.1.0; fragment = x.1.1.0; authentication = x.1.1.1.0 })
    (λ e. (tt, (e.length, (e.fragment, (e.authentication, tt)))))
    (any 4 (255 ∷ 255 ∷ 255 ∷ 255 ∷ []) ⨾ ordered order 2 ⨾ ordered order 2 ⨾ one ⨾ any 1 (0 ∷ []))

-- the header: its numbers and identifiers have the byte order that its representation says
unfoldable pub head : Codec RpcFault Head
head = seen
    (λ x. record { opening = x.0; names = x.1.0; turn = x.1.1.0; extent = x.1.1.1 })
    (λ h. (h.opening, (h.names, (h.turn, h.extent))))
    (then_by opening (λ (o : Opening). names (order_of o.representation) ⨾ turn (order_of o.representation) ⨾ extent (order_of o.representation)))

-- the fields that a call and its response share
abbrev pub header_of : Head → CallHeader
header_of h = record {
  object = h.names.object;
  interface = h.names.interface;
  activity = h.names.activity;
  sequence = h.turn.sequence;
  operation = h.turn.operation;
}

-- the header before a body of this length: version 4, big endian, no fragment and no authentication
abbrev pub head_for : ℕ → ℕ → CallHeader → ℕ → Head
head_for packet_type flags header size = record {
  opening = record { version = 4; packet_type = packet_type; flags = flags; representation = 0 };
  names = record { object = header.object; interface = header.interface; activity = header.activity };
  turn = record { sequence = header.sequence; operation = header.operation };
  extent = record { length = size; fragment = 0; authentication = 0 };
}
